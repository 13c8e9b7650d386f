use Rattle.std.proofs.Common.{sym, ap, ◌∙◌}
use Rattle.std.proofs.lemmas.Bool.{cond-true}
use Rattle.tokens.specs.Scan.{comment_by, closing}
use Rattle.tokens.proofs.Runs.{all_but_first, closing_some, closing_none}
use Rattle.tokens.proofs.begun.Begun.comment.Goals as goal

pub returns-in-Some : goal.returns-in-Some
returns-in-Some c =
    let after = c.args.self.now.after.now in
    let told = c.in-Some.ensures.some in
    sym (cond-true _ _ _ (sym c.if-not-next_is.ensures) ∙ ap comment_by (ap closing (sym (all_but_first after)) ∙ closing_some _ c.in-Some.n told.0 told.1))

pub returns-in-None : goal.returns-in-None
returns-in-None c =
    let after = c.args.self.now.after.now in
    sym (cond-true _ _ _ (sym c.if-not-next_is.ensures) ∙ ap comment_by (ap closing (sym (all_but_first after)) ∙ closing_none _ c.in-None.ensures.none))
