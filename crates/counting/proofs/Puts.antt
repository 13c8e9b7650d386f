-- A slot whose value gives way, and a place that is taken. Assumes nothing.
use Rattle.std.proofs.Common.{◌≡◌, ℕ, List, [], ◌∷◌, map, get_or, set, Some, None, sym, ap, ◌∙◌, subst}
use lib.Seq.{map-set}
use Rattle.heap.specs.declared.types.Side.{Side}
use Rattle.heap.specs.declared.types.Value.{Value}
use Rattle.heap.specs.Model.{room_at, slot_of, written, taken_at, is_taken, names_only}
use Rattle.counting.specs.Laws.{cell_room}
use Rattle.counting.specs.declared.cell.Cell.{Cell}
use Rattle.counting.specs.Cells.{cell_at, room_of, rooms, next_free}
use Rattle.counting.specs.Work.{Owing, Working, raised, lowered, lowered_head, with_slot_of, MayPut, MayTake}
use Rattle.counting.proofs.Works.{owing_none, work_owing, work_lowered, own_raise, own_swap, raised_rooms, raised_free, lowered_rooms, swapped_rooms}

-- put: one slot more names the place of v, and v is written
module _ {xs ys zs : List Cell} {f p : ℕ} {s : Side} {old v : Value} (may : MayPut xs f p s old v) (raises : ys ≡ raised v xs) (writes : zs ≡ set ys p (with_slot_of (cell_at ys p) s v)) where
  put_once : Owing ys f (v ∷ [])
  put_once = own_raise v (owing_none xs f may.sound) may.value raises

  same_rooms : rooms ys ≡ rooms xs
  same_rooms = ap rooms raises ∙ raised_rooms v xs

  same_room : room_of (cell_at ys p) ≡ room_at (rooms xs) p
  same_room = sym (cell_room ys p) ∙ ap (λ c. room_at c p) same_rooms

  pub put_owing : Working (rooms zs) zs f 0 (old ∷ [])
  put_owing = subst (λ o. Working (rooms zs) zs f 0 (o ∷ [])) (ap (λ x. slot_of x s) same_room ∙ sym may.was) (work_owing 0 (own_swap p s put_once (ap is_taken same_room ∙ may.place) writes))

  pub put_work : {us : List Cell} {d : ℕ} → us ≡ lowered old 0 zs → d ≡ lowered_head old 0 zs → Working (rooms us) us f d []
  put_work {us} {d} e h = subst (λ c. Working c us f d []) (sym (ap rooms e ∙ lowered_rooms old 0 zs)) (work_lowered put_owing e h)

  pub put_rooms : {us : List Cell} → us ≡ lowered old 0 zs → rooms us ≡ written (rooms xs) p s v
  put_rooms e =
      ap rooms e ∙ lowered_rooms old 0 zs ∙ ap rooms writes ∙ swapped_rooms ys p s v (ap is_taken same_room ∙ may.place) (put_once.still p) ∙ ap (λ c. written c p s v) same_rooms

-- make: one slot more names the place of l, and one that of r
module _ {xs ys : List Cell} {p n : ℕ} {l r : Value} (may : MayTake xs p n l r) (first : ys ≡ raised l xs) where
  pub take_once : Owing ys p (l ∷ [])
  take_once = own_raise l (owing_none xs p may.sound) may.left first

  module _ {zs : List Cell} (second : zs ≡ raised r ys) where
    pub take_twice : Owing zs p (r ∷ (l ∷ []))
    take_twice = own_raise r take_once (ap (λ c. names_only (taken_at c) r) (ap rooms first ∙ raised_rooms l xs) ∙ may.right) second

    pub take_free : get_or (map next_free zs) p None ≡ Some n
    take_free = ap (λ ns. get_or ns p None) (ap (map next_free) second ∙ raised_free r ys ∙ ap (map next_free) first ∙ raised_free l xs) ∙ may.next

    pub take_rooms : {us : List Cell} (x : Cell) → us ≡ set zs p x → rooms us ≡ set (rooms xs) p (room_of x)
    take_rooms x e = ap rooms e ∙ map-set room_of zs p x ∙ ap (λ c. set c p (room_of x)) (ap rooms second ∙ raised_rooms r ys ∙ ap rooms first ∙ raised_rooms l xs)
