-- What a `?` hands on where a call fails. Assumes nothing.
use Rattle.std.proofs.Common.{◌≡◌, Err, Result, ap, ◌∙◌}
use Rattle.std.specs.Result.{IsErrAnd}
use Rattle.std.proofs.lemmas.Result.{err_from_is_err_and}

pub exits : {T E : Type 0} {x : E} (r : Result T E) → IsErrAnd r (λ y. y ≡ x) → r ≡ Err x
exits r h = let p = err_from_is_err_and r h in p.1 ∙ ap Err p.2
