use Rattle.std.proofs.Common.{◌≡◌, map}
use Rattle.std.specs.Iterator.Adapters.{zip_first, zip_second}
use Rattle.std.specs.Slice.Iter.{iter_rest}
use Rattle.typing.specs.Faults.{noted, misfits}
use Rattle.typing.proofs.types.LeastFault.want_fitting.Given as goal

-- what is left of the two lists is still to be noted
abbrev pub invariant-loop-actual : goal.invariant-loop-actual
invariant-loop-actual g l =
    noted l.initial.self.found (misfits l.actuals (map g.T.Typed.type_of l.formals))
    ≡ noted l.self.found (misfits (iter_rest (zip_first l.actual-iterator)) (map g.T.Typed.type_of (iter_rest (zip_second l.actual-iterator))))
