use Rattle.std.proofs.Common.{length, ap, arith, length-take}
use Rattle.heap.proofs.places.Places.len.Goals as goal

pub overflow_cast-result : goal.overflow_cast-result
overflow_cast-result g c =
    let cut = length-take 1024 c.args.self.now.cells.items in
    let same = ap length c.as_slice.ensures in
    omega arith
