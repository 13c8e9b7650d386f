-- The cells of a counting heap, and what holds of them between calls. Assumes nothing.
use Rattle.std.specs.Prelude.{◌≡◌, ℕ, ◌+◌, Bool, true, false, List, map, Some, None, Option, nat_lt, slice_index_or}
use Rattle.heap.specs.Model.{Room, free, taken, Model}
use Rattle.heap.specs.Places.{places_of, spare_of}
use Rattle.heap.specs.Counts.{count}
use Rattle.counting.specs.declared.cell.Cell.{Cell}
use Rattle.counting.specs.declared.cell.Cell.TheVariants.{Free, Taken, Dying}
use Rattle.counting.specs.declared.store.Store.{Store}
use Rattle.counting.specs.Chain.{chained}

-- the cells of the places
abbrev pub places_in : Store → List Cell
places_in s = places_of s.places

-- the cells beyond are not used
abbrev pub spare_in : Store → List Cell
spare_in s = spare_of s.places

-- the cell of a place; past the last a free one
abbrev pub cell_at : List Cell → ℕ → Cell
cell_at xs p = slice_index_or xs p (Free 0)

-- the room that a cell stands for: a dying place is still taken
abbrev pub room_of : Cell → Room
room_of (Free n) = free
room_of (Taken x) = taken x.left x.right x.holds
room_of (Dying l r n) = taken l r 0

-- the model that the places stand for
abbrev pub rooms : List Cell → Model
rooms xs = map room_of xs

-- how many slots name the place, as its cell has it
abbrev pub named_of : Cell → ℕ
named_of (Free n) = 0
named_of (Taken x) = x.named
named_of (Dying l r n) = 0

-- the next place of the free list, for a place that is in it
abbrev pub next_free : Cell → Option ℕ
next_free (Free n) = Some n
next_free (Taken x) = None
next_free (Dying l r n) = None

-- the next place of the worklist, for a place that is in it
abbrev pub next_dying : Cell → Option ℕ
next_dying (Free n) = None
next_dying (Taken x) = None
next_dying (Dying l r n) = Some n

-- free, or taken with a hold or a slot that names it
abbrev pub quiet : Cell → Bool
quiet (Free n) = true
quiet (Taken x) = nat_lt 0 (x.holds + x.named)
quiet (Dying l r n) = false

-- between calls: each count is right, no place is to be freed, and the free places are one chain from f
abbrev pub Sound : List Cell → ℕ → Type 0
Sound xs f =
    ((p : ℕ) → named_of (cell_at xs p) ≡ count p (rooms xs)) × ((p : ℕ) → quiet (cell_at xs p) ≡ true) × (chained (map next_free xs) f ≡ true)
