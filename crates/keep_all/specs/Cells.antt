-- What cells stand for. Assumes nothing.
use Rattle.std.specs.Prelude.{◌≡◌, ℕ, Bool, true, not, map}
use Rattle.heap.specs.declared.types.Side.{Side}
use Rattle.heap.specs.declared.places.Places.{Places}
use Rattle.heap.specs.Places.{places_of}
use Rattle.heap.specs.Model.{Room, free, taken, is_taken, Model, room_at, slot_of, taken_at, names_only}
use Rattle.keep_all.specs.declared.cell.Cell.{Cell}
use Rattle.keep_all.specs.declared.cell.Cell.TheVariants.{Free, Taken}

-- the room that a cell stands for
abbrev pub room_of : Cell → Room
room_of Free = free
room_of (Taken l r n) = taken l r n

-- the cell stands for a free room
abbrev pub is_free : Cell → Bool
is_free x = not (is_taken (room_of x))

-- the rooms of a heap's places
abbrev pub places_in : Places Cell → Model
places_in places = map room_of (places_of places)

-- what a slot names is taken
abbrev pub NamesTaken : Model → Type 0
NamesTaken m = (p : ℕ) (s : Side) → names_only (taken_at m) (slot_of (room_at m p) s) ≡ true
