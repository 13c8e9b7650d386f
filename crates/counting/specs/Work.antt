-- The cells within a call. Assumes nothing.
use Rattle.std.specs.Prelude.{◌≡◌, ℕ, ◌+◌, ◌-◌, Bool, true, false, cond, ◌&&◌, List, map, Some, None, Option, ◌==◌, nat_lt, slice_index_or, slice_set}
use Rattle.heap.specs.declared.types.Side.{Side}
use Rattle.heap.specs.declared.types.Side.TheVariants.{Left, Right}
use Rattle.heap.specs.declared.types.Value.{Value}
use Rattle.heap.specs.declared.types.Value.TheVariants.{Number, Nil, At}
use Rattle.heap.specs.Model.{free, taken, Model, room_at, taken_at, slot_of, names_only}
use Rattle.heap.specs.Counts.{count, namings}
use Rattle.counting.specs.declared.cell.Cell.{Cell}
use Rattle.counting.specs.declared.cell.Cell.TheVariants.{Free, Taken, Dying}
use Rattle.counting.specs.declared.cell.Pair.{Pair}
use Rattle.counting.specs.Rule.{Frees, Settles}
use Rattle.counting.specs.Chain.{Linked}
use Rattle.counting.specs.Cells.{cell_at, rooms, named_of, next_free, next_dying, quiet, Sound}

-- free, taken with a hold or a slot that names it, or dying
abbrev pub quiet_or_dying : Cell → Bool
quiet_or_dying (Free n) = true
quiet_or_dying (Taken x) = nat_lt 0 (x.holds + x.named)
quiet_or_dying (Dying l r n) = true

-- slots change: each count is too high by the names that are owed, and no place is to be freed
pub record Owing (xs : List Cell) (f : ℕ) (owed : List Value) : Type 0 where
  pub counted : (p : ℕ) → named_of (cell_at xs p) ≡ count p (rooms xs) + namings p owed
  pub still : (p : ℕ) → quiet (cell_at xs p) ≡ true
  pub free : Linked (map next_free xs) f

-- places of the model c are freed: each count is too high by the names that are owed, the dying places are one chain from d, and the free ones from f
pub record Working (c : Model) (xs : List Cell) (f d : ℕ) (owed : List Value) : Type 0 where
  pub counted : (p : ℕ) → named_of (cell_at xs p) ≡ count p (rooms xs) + namings p owed
  pub alive : (p : ℕ) → quiet_or_dying (cell_at xs p) ≡ true
  pub dyings : Linked (map next_dying xs) d
  pub free : Linked (map next_free xs) f
  pub frees : Frees c (rooms xs)

-- the freeing is over: the model c has settled, and the cells are sound
pub record Settled (c : Model) (xs : List Cell) (f : ℕ) : Type 0 where
  pub settles : Settles c (rooms xs)
  pub sound : Sound xs f

-- a taken cell with other holds
abbrev pub with_holds : Pair → ℕ → Cell
with_holds x h = Taken (record { left = x.left; right = x.right; holds = h; named = x.named })

-- a taken cell with another count
abbrev pub with_named : Pair → ℕ → Cell
with_named x k = Taken (record { left = x.left; right = x.right; holds = x.holds; named = k })

-- one slot more names the place of a cell
abbrev pub raise_cell : Cell → Cell
raise_cell (Free n) = Free n
raise_cell (Taken x) = with_named x (x.named + 1)
raise_cell (Dying l r n) = Dying l r n

-- one slot more names the place that a value names
abbrev pub raised : Value → List Cell → List Cell
raised (Number z) xs = xs
raised Nil xs = xs
raised (At q) xs = slice_set xs q.at (raise_cell (cell_at xs q.at))

-- no hold, and one slot that names the place
abbrev pub last_name : Pair → Bool
last_name x = x.holds == 0 && x.named == 1

-- one slot less names the place of a cell, which dies by the last one; d is the first dying place so far
abbrev pub lower_cell : ℕ → Cell → Cell
lower_cell d (Free n) = Free n
lower_cell d (Taken x) = cond (last_name x) (Dying x.left x.right d) (with_named x (x.named - 1))
lower_cell d (Dying l r n) = Dying l r n

-- the first dying place after one slot less names the place p of a cell, where it was d
abbrev pub lower_head : ℕ → ℕ → Cell → ℕ
lower_head p d (Free n) = d
lower_head p d (Taken x) = cond (last_name x) p d
lower_head p d (Dying l r n) = d

-- one slot less names the place that a value names; d is the first dying place so far
abbrev pub lowered : Value → ℕ → List Cell → List Cell
lowered (Number z) d xs = xs
lowered Nil d xs = xs
lowered (At q) d xs = slice_set xs q.at (lower_cell d (cell_at xs q.at))

-- the first dying place after that
abbrev pub lowered_head : Value → ℕ → List Cell → ℕ
lowered_head (Number z) d xs = d
lowered_head Nil d xs = d
lowered_head (At q) d xs = lower_head q.at d (cell_at xs q.at)

-- another value in a slot
abbrev pub with_slot_of : Cell → Side → Value → Cell
with_slot_of (Free n) s v = Free n
with_slot_of (Taken x) Left v = Taken (record { left = v; right = x.right; holds = x.holds; named = x.named })
with_slot_of (Taken x) Right v = Taken (record { left = x.left; right = v; holds = x.holds; named = x.named })
with_slot_of (Dying l r n) s v = Dying l r n

-- how many slots name the place that a value names, as its cell has it
abbrev pub named_by : Value → List Cell → ℕ
named_by (Number z) xs = 0
named_by Nil xs = 0
named_by (At q) xs = named_of (cell_at xs q.at)

-- the value names a place
abbrev pub is_at : Value → Bool
is_at (Number z) = false
is_at Nil = false
is_at (At q) = true

-- a taken place's cell, and its room
pub record Sees (xs : List Cell) (p : ℕ) (x : Pair) : Type 0 where
  pub cell : Taken x ≡ cell_at xs p
  pub room : taken x.left x.right x.holds ≡ room_at (rooms xs) p

-- what is found at a place: nothing where it is free
abbrev pub Finds : List Cell → ℕ → Option Pair → Type 0
Finds xs p None = room_at (rooms xs) p ≡ free
Finds xs p (Some x) = Sees xs p x

-- the cells are sound, the place p is taken, with old in this slot, and v names no free place
pub record MayPut (xs : List Cell) (f p : ℕ) (s : Side) (old v : Value) : Type 0 where
  pub sound : Sound xs f
  pub place : taken_at (rooms xs) p ≡ true
  pub value : names_only (taken_at (rooms xs)) v ≡ true
  pub was : old ≡ slot_of (room_at (rooms xs) p) s

-- the cells are sound, the free list begins with p and n, and l and r name no free place
pub record MayTake (xs : List Cell) (p n : ℕ) (l r : Value) : Type 0 where
  pub sound : Sound xs p
  pub next : slice_index_or (map next_free xs) p None ≡ Some n
  pub left : names_only (taken_at (rooms xs)) l ≡ true
  pub right : names_only (taken_at (rooms xs)) r ≡ true
