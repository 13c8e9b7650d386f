use Rattle.std.proofs.Common.{◌≡◌, sym, ap, ◌∙◌}
use Rattle.tokens.specs.Scan.{front_by, front}
use Rattle.tokens.specs.State.{front_of, rest}
use Rattle.tokens.proofs.Places.{advances, front_is}
use Rattle.tokens.proofs.lexer.Lexer.ahead.Goals as goal

pub returns-in-Some : goal.returns-in-Some
returns-in-Some c =
    let begun = c.in-Some.begun in
    let is : front_of c.front_by.result ≡ front (rest c.args.self.now) =
    c.front_by.ensures ∙ ap (λ k. front_by k begun.first begun.after.now) c.class_at.ensures ∙ sym (front_is begun.text.now begun.after.now begun.first begun.split) ∙ ap front (c.in-Some.ensures ∙ c.rest.ensures)
    in
    record { value = is; within = advances c.args.self.now c.front_by.result is }

pub returns-in-None-clause-value : goal.returns-in-None-clause-value
unfolding front
returns-in-None-clause-value c = sym (ap front (sym c.rest.ensures ∙ c.in-None.ensures))
