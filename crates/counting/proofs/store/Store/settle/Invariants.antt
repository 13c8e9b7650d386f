use Rattle.std.proofs.Common.{[]}
use Rattle.heap.specs.Places.{SameSpare}
use Rattle.counting.specs.Cells.{places_in, rooms}
use Rattle.counting.specs.Work.{Working}
use Rattle.counting.proofs.Settle.{takens}
use Rattle.counting.proofs.store.Store.settle.Given as goal

abbrev pub invariant-loop-left : goal.invariant-loop-left
invariant-loop-left l = Working (rooms (places_in l.initial.self)) (places_in l.self) l.self.free l.dying [] × SameSpare l.initial.self.places l.self.places

abbrev pub decreases-loop-left : goal.decreases-loop-left
decreases-loop-left l = takens (rooms (places_in l.self))
