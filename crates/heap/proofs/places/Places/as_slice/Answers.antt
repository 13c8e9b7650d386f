use Rattle.std.proofs.Common.{◌≡◌, min, length, take, ap, ◌∙◌, arith}
use Rattle.std.proofs.lemmas.List.{take_min}
use Rattle.heap.proofs.places.Places.as_slice.Goals as goal

pub returns : goal.returns
returns g c =
    let xs = c.args.self.now.cells.items in
    let first : c.min.result ≡ min 1024 (length xs) = omega arith in
    rw c.deref.ensures.value (ap (λ n. take n xs) first ∙ take_min 1024 xs)
