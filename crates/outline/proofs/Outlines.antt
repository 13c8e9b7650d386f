-- What holds of every value holds of an answer's. Assumes nothing.
use Rattle.std.proofs.Common.{Result, Ok, Err, IfOk}

pub every : {T E : Type 0} (r : Result T E) (P : T → Type 0) → ((x : T) → P x) → IfOk r P
every (Ok x) P h = h x
every (Err e) P h = record {}
