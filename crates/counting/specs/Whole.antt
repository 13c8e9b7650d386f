-- What a counting heap stands for. Assumes nothing.
use Rattle.std.specs.Prelude.{List}
use Rattle.heap.specs.Model.{Model}
use Rattle.counting.specs.declared.cell.Cell.{Cell}
use Rattle.counting.specs.declared.counting_heap.CountingHeap.{CountingHeap}
use Rattle.counting.specs.Cells.{places_in, spare_in, rooms}

-- the model: what the places stand for
abbrev pub model_of : CountingHeap → Model
model_of h = rooms (places_in h.store)

-- the cells that are not places
abbrev pub spare_of : CountingHeap → List Cell
spare_of h = spare_in h.store
