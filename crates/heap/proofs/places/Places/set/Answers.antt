use Rattle.std.proofs.Common.{refl, arith, length-take, drop-set-lt}
use lib.Seq.{take-set-lt}
use Rattle.heap.proofs.places.Places.set.Goals as goal

pub index_mut-requires : goal.index_mut-requires
index_mut-requires g c = let cut = length-take 1024 c.args.self.now.cells.items in omega arith

pub returns-then-place-len-clause-places : goal.returns-then-place-len-clause-places
returns-then-place-len-clause-places g c = let cut = length-take 1024 c.args.self.now.cells.items in take-set-lt 1024 c.args.self.now.cells.items c.args.place.at c.args.cell (omega arith)

pub returns-then-place-len-clause-spare : goal.returns-then-place-len-clause-spare
returns-then-place-len-clause-spare g c = let cut = length-take 1024 c.args.self.now.cells.items in record { spare = drop-set-lt 1024 c.args.self.now.cells.items c.args.place.at c.args.cell (omega arith); count = refl }
