use Rattle.std.proofs.Common.{◌≡◌, map, take}
use Rattle.heap.specs.Model.{all_free}
use Rattle.heap.specs.Places.{places_of, SameSpare}
use Rattle.counting.specs.Chain.{Linked}
use Rattle.counting.specs.Cells.{rooms, next_free}
use Rattle.counting.proofs.store.Store.fresh.Given as goal

abbrev pub invariant-loop-at : goal.invariant-loop-at
invariant-loop-at l = record {
  rooms : rooms (take l.at (places_of l.places)) ≡ all_free l.at;
  chain : Linked (map next_free (take l.at (places_of l.places))) l.free;
  spare : SameSpare l.initial.places l.places;
}
