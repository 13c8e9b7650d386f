use Rattle.std.proofs.Common.{ap, ◌∙◌, vec_items}
use Rattle.outline.specs.Refusing.{read, refused}
use Rattle.outline.proofs.Outlines.{every}
use Rattle.outline.proofs.outline.outline_of.Goals as goal

pub returns-in-Ok : goal.returns-in-Ok
returns-in-Ok c = every c.outline_of_script.result _ (λ text. read c.read.new.self c.in-Ok.ensures)

pub returns : goal.returns
returns c = refused c.in-Err.refusal c.in-Err.ensures.0 (ap vec_items c.into_bytes.ensures.value ∙ c.in_ok-refusal_of-in-Err.ensures)
