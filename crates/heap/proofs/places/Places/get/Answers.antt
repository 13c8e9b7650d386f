use Rattle.std.proofs.Common.{ap, ◌∙◌, slice_get}
use Rattle.heap.proofs.Cells.{copied_item}
use Rattle.heap.proofs.places.Places.get.Goals as goal

pub returns : goal.returns
returns g c =
    c.copied.ensures ∙ copied_item c.as_slice.result.now c.args.place.at c.get.result c.get.ensures.lookup ∙ ap (λ xs. slice_get xs c.args.place.at) c.as_slice.ensures
