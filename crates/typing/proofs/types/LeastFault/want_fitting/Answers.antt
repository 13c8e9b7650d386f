use Rattle.std.proofs.Common.{◌∙◌, sym}
use Rattle.std.proofs.lemmas.Slice.Zip.{either_empty_from_Zip}
use Rattle.typing.proofs.Fitting.{misfits_over}
use Rattle.typing.proofs.types.LeastFault.want_fitting.Goals as goal

pub returns : goal.returns
returns g c =
    sym (c.loop-actual.invariant ∙ misfits_over g.T.Typed.type_of c.loop-actual.self.found _ _ (either_empty_from_Zip c.loop-actual.actual-iterator c.next.new.self c.next.result c.in-None.is c.next.ensures.steps))
