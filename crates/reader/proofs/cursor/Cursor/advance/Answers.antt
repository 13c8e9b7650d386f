use Rattle.std.proofs.Common.{suc, cond, [], ◌∷◌, sym, refl, ap, ◌∙◌, add-one}
use Rattle.std.proofs.lemmas.Bool.{cond-false}
use Rattle.tokens.specs.Spelling.{symbol_of, item_of}
use Rattle.tokens.specs.Scan.{final}
use Rattle.tokens.specs.State.{to_come}
use Rattle.grammar.specs.Tokens.{tokens_from}
use Rattle.reader.proofs.cursor.Cursor.advance.Goals as goal

pub returns : goal.returns
returns c =
    let old = c.args.self.now in
    let told = c.next_token-self.ensures.first in
    record {
      rest =
          ap (λ n. tokens_from n (item_of c.next_token-self.result ∷ cond (final (symbol_of c.next_token-self.result.token)) [] (to_come c.next_token-self.new.self))) (add-one old.taken)
          ∙ ap (tokens_from (suc old.taken)) (sym told ∙ sym (cond-false _ [] (to_come old.lexer) c.requires.token));
      taken = refl;
    }
