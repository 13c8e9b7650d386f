-- What is written leaves no slot that names a free place. Assumes nothing.
use Rattle.std.specs.Prelude.{◌≡◌, ℕ, true, slice_set}
use Rattle.std.proofs.Common.{sym, ap, ◌∙◌, subst}
use Rattle.heap.specs.declared.types.Side.{Side}
use Rattle.heap.specs.declared.types.Value.{Value}
use Rattle.heap.specs.Model.{Room, taken, room_at, with_holds, with_slot, taken_at, held_at, names_only}
use Rattle.heap.specs.Reach.{Closed}
use Rattle.heap.proofs.RoomAt.{held_named}
use Rattle.heap.proofs.Rooms.{closed_from_names, closed_holds, closed_written, closed_taken}
use Rattle.keep_all.specs.declared.cell.Cell.{Cell}
use Rattle.keep_all.specs.declared.kept.KeepAllHeap.{KeepAllHeap}
use Rattle.keep_all.specs.Cells.{room_of}
use Rattle.keep_all.specs.Kept.{model_of}

pub heap_closed : (h : KeepAllHeap) → Closed (model_of h)
heap_closed h = closed_from_names (model_of h) h.closed

-- a change of the room that stands there
changed : (h : KeepAllHeap) (p : ℕ) (x y : Cell) (f : Room → Room) → room_of x ≡ room_at (model_of h) p → room_of y ≡ f (room_of x) → Closed (slice_set (model_of h) p (f (room_at (model_of h) p))) → Closed (slice_set (model_of h) p (room_of y))
changed h p x y f was is closed = subst (λ (z : Room). Closed (slice_set (model_of h) p z)) (sym (is ∙ ap f was)) closed

pub holds_closed : (h : KeepAllHeap) (p n : ℕ) (x y : Cell) → room_of x ≡ room_at (model_of h) p → room_of y ≡ with_holds (room_of x) n → Closed (slice_set (model_of h) p (room_of y))
holds_closed h p n x y was is = changed h p x y (λ z. with_holds z n) was is (closed_holds (model_of h) p n (heap_closed h))

pub slot_closed : (h : KeepAllHeap) (p : ℕ) (s : Side) (v : Value) (x y : Cell) → room_of x ≡ room_at (model_of h) p → room_of y ≡ with_slot (room_of x) s v → names_only (taken_at (model_of h)) v ≡ true → Closed (slice_set (model_of h) p (room_of y))
slot_closed h p s v x y was is names = changed h p x y (λ z. with_slot z s v) was is (closed_written (model_of h) p s v (heap_closed h) names)

pub made_closed : (h : KeepAllHeap) (p : ℕ) (l r : Value) → names_only (held_at (model_of h)) l ≡ true → names_only (held_at (model_of h)) r ≡ true → Closed (slice_set (model_of h) p (taken l r 1))
made_closed h p l r left right =
    closed_taken (model_of h) p l r 1 (heap_closed h) (held_named (model_of h) l left) (held_named (model_of h) r right)
