use Rattle.std.proofs.Common.{◌≡◌, map, take}
use Rattle.heap.specs.Model.{all_free}
use Rattle.heap.specs.Places.{places_of, SameSpare}
use Rattle.keep_all.specs.Cells.{room_of}
use Rattle.keep_all.proofs.kept.KeepAllHeap.new.Given as goal

abbrev pub invariant-loop-at : goal.invariant-loop-at
invariant-loop-at l = record { cleared : map room_of (take l.at (places_of l.places)) ≡ all_free l.at; spare : SameSpare l.initial.places l.places }
