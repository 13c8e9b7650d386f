-- A heap that frees nothing. Assumes nothing.
use Rattle.std.specs.Prelude.{◌≡◌, ℕ, ◌<◌, true, false, List, [], length, take, Some, None, Ok, Err, Option, Result}
use Rattle.heap.specs.declared.types.Address.{Address}
use Rattle.heap.specs.declared.types.HeapRefusal.{HeapRefusal}
use Rattle.heap.specs.Model.{Model, Rule, free, room_at, taken_at, all_taken}
use Rattle.heap.specs.Places as heap_places
use Rattle.heap.specs.Trace.{Event, Trace}
use Rattle.keep_all.specs.declared.cell.Cell.{Cell}
use Rattle.keep_all.specs.declared.kept.KeepAllHeap.{KeepAllHeap}
use Rattle.keep_all.specs.Cells.{places_in}

-- no call frees a place
abbrev pub keeps_all : Rule
keeps_all = record { on_make = λ _. []; on_let_go = λ _. []; on_put = λ _. [] }

-- whatever calls are made, a taken place stays taken
abbrev pub Keeps : Type 0
Keeps = (m n : Model) (es : List Event) (p : ℕ) → Trace keeps_all m es n → taken_at m p ≡ true → taken_at n p ≡ true

-- the places of a heap
abbrev pub model_of : KeepAllHeap → Model
model_of h = places_in h.places

-- the cells past the places
abbrev pub spare_of : KeepAllHeap → List Cell
spare_of h = heap_places.spare_of h.places

-- the first free place, or none where every place is taken
abbrev pub FirstFree : Model → Option Address → Type 0
FirstFree m None = all_taken m ≡ true
FirstFree m (Some p) = (p.at < length m) × (room_at m p.at ≡ free) × (all_taken m ≡ false) × (all_taken (take p.at m) ≡ true)

-- make's answer is the first place that was free
abbrev pub TakesFirst : Model → Result Address HeapRefusal → Type 0
TakesFirst m (Ok p) = all_taken (take p.at m) ≡ true
TakesFirst m (Err e) = Unit {0}
