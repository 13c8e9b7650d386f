use Rattle.std.proofs.Common.{map, sym, ap, ◌∙◌, subst}
use lib.Seq.{map-set}
use Rattle.heap.specs.Places.{places_of}
use Rattle.heap.specs.Reach.{Closed}
use Rattle.heap.proofs.Rooms.{names_from_closed}
use Rattle.keep_all.specs.Cells.{room_of}
use Rattle.keep_all.proofs.kept.KeepAllHeap.write.Goals as goal

pub invariant_of-self : goal.invariant_of-self
invariant_of-self c =
    let same = ap (map room_of) c.set.ensures.places ∙ map-set room_of (places_of c.args.self.now.places) c.args.place.at c.args.cell in
    record { closed = names_from_closed _ (subst Closed (sym same) c.requires) }

pub returns-clause-model : goal.returns-clause-model
returns-clause-model c = ap (map room_of) c.set.ensures.places ∙ map-set room_of (places_of c.args.self.now.places) c.args.place.at c.args.cell
