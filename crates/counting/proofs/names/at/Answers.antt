use Rattle.std.proofs.Common.{ap, ◌∙◌, sym}
use Rattle.std.specs.Option.{unwrap_or}
use Rattle.std.proofs.lemmas.Option.{unwrap_or-slice_get}
use Rattle.heap.specs.Places.{places_of}
use Rattle.counting.specs.declared.cell.Cell.TheVariants.{Free}
use Rattle.counting.specs.Cells.{room_of}
use Rattle.counting.specs.Laws.{cell_room}
use Rattle.counting.proofs.names.at.Goals as goal

pub returns : goal.returns
returns c =
    let xs = places_of c.args.places.now in
    let e = c.unwrap_or.ensures ∙ ap (λ o. unwrap_or o (Free 0)) c.get.ensures ∙ unwrap_or-slice_get xs c.args.place.at (Free 0) in
    record { cell = e; room = ap room_of e ∙ sym (cell_room xs c.args.place.at) }
