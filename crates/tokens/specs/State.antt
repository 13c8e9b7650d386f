-- What a lexer has before it, and what taking a token does. Assumes nothing.
use Rattle.std.specs.Prelude.{◌≡◌, ℕ, ◌+◌, ◌<◌, ◌≤◌, true, cond, List, [], ◌∷◌, map, length, take, drop}
use Rattle.tokens.specs.declared.types.Ahead.{Ahead}
use Rattle.tokens.specs.declared.types.Ahead.TheVariants.{Gap, Found, Stop}
use Rattle.tokens.specs.declared.types.Placed.{Placed}
use Rattle.tokens.specs.declared.lexer.Lexer.{Lexer}
use Rattle.tokens.specs.Spelling.{Item, symbol_of, item_of}
use Rattle.tokens.specs.Lexing.{Lexes}
use Rattle.tokens.specs.Scan.{Front, gap, found, stop, lexed, final}

abbrev pub front_of : Ahead → Front
front_of (Gap n) = gap n
front_of (Found n t) = found n (symbol_of t)
front_of (Stop t) = stop (symbol_of t)

-- the text from the lexer's place on
abbrev pub rest : Lexer → List ℕ
rest l = drop l.pos l.source.now

-- what stands here is not empty, and ends within the source
abbrev pub Advances : Lexer → Ahead → Type 0
Advances l (Gap n) = (0 < n) × (l.pos + n ≤ length l.source.now)
Advances l (Found n t) = (0 < n) × (l.pos + n ≤ length l.source.now)
Advances l (Stop t) = Unit {0}

-- the items that a lexer will hand out
abbrev pub to_come : Lexer → List Item
to_come l = lexed l.pos (rest l)

-- the items to come are those that the rules give the text from the lexer's place on, and no others
pub record Exact (l : Lexer) : Type 0 where
  pub derived : Lexes l.pos (rest l) (to_come l)
  pub only : (items : List Item) → Lexes l.pos (rest l) items → items ≡ to_come l

-- the first item to come is handed out; a token is passed, while the end or a trouble stays and is handed out again
pub record Took (old : Lexer) (p : Placed) (new : Lexer) : Type 0 where
  pub source : new.source ≡ old.source
  pub exact : Exact old
  pub first : to_come old ≡ item_of p ∷ cond (final (symbol_of p.token)) [] (to_come new)
  pub stays : final (symbol_of p.token) ≡ true → to_come new ≡ to_come old

-- a list has the first items of a source, at most 2,049: those that the rules give it, and it has no others
pub record Lexed (source : List ℕ) (list : List Placed) : Type 0 where
  pub all : List Item
  pub derived : Lexes 0 source all
  pub only : (items : List Item) → Lexes 0 source items → items ≡ all
  pub first : map item_of list ≡ take 2049 all
