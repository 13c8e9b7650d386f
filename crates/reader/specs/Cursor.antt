-- The tokens that a cursor has before it. Assumes nothing.
use Rattle.std.specs.Prelude.{cond, List, [], ◌∷◌}
use Rattle.tokens.specs.Spelling.{symbol_of, item_of}
use Rattle.tokens.specs.Scan.{final}
use Rattle.tokens.specs.State.{to_come}
use Rattle.grammar.specs.Tokens.{Tok, tokens_from}
use Rattle.reader.specs.declared.cursor.Cursor.{Cursor}

-- the token at hand and those that the lexer will hand out
abbrev pub left : Cursor → List Tok
left c = tokens_from c.taken (item_of c.here ∷ cond (final (symbol_of c.here.token)) [] (to_come c.lexer))

-- the tokens after the first
abbrev pub after : List Tok → List Tok
after [] = []
after (t ∷ ts) = ts
