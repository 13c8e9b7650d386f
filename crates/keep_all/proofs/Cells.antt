-- Places read and written through the cells that stand for them. Assumes nothing.
use Rattle.std.proofs.Common.{◌≡◌, ℕ, zero, suc, ◌+◌, ◌<◌, ◌≤◌, true, false, List, [], ◌∷◌, ◌++◌, map, length, get_or, take, set, Some, None, sym, refl, ap, ◌∙◌, inl, inr, slice_get, arith}
use lib.ListN.{length-map}
use Rattle.std.proofs.Math.ListN
use Rattle.std.specs.List.{position, position_or_len}
use Rattle.std.specs.Option.{unwrap_or}
use Rattle.std.proofs.lemmas.Bool.{cases_lt}
use Rattle.std.proofs.lemmas.Bool.Decides.{nat_tests}
use Rattle.std.proofs.lemmas.List.Quantifiers.{position-Some}
use Rattle.std.proofs.lemmas.List.{take_more_set, map_push, replicate_more}
use Rattle.std.proofs.lemmas.Option.{unwrap_or-slice_get}
use Rattle.heap.specs.declared.types.Address.{Address}
use Rattle.heap.specs.Model.{Model, free, taken, room_at, is_taken, taken_at, all_free, all_taken}
use Rattle.heap.proofs.RoomAt.{not_all_taken}
use Rattle.keep_all.specs.declared.cell.Cell.{Cell}
use Rattle.keep_all.specs.declared.cell.Cell.TheVariants.{Free, Taken}
use Rattle.keep_all.specs.Cells.{room_of, is_free}
use Rattle.keep_all.specs.Kept.{FirstFree}

pub read : (xs : List Cell) (i : ℕ) → room_of (unwrap_or (slice_get xs i) Free) ≡ room_at (map room_of xs) i
read xs i = ap room_of (unwrap_or-slice_get xs i Free) ∙ sym (ListN.get_or-map room_of xs i Free)

-- one more cell cleared
pub clear_more : (xs : List Cell) (i : ℕ) → i < length xs → map room_of (take i xs) ≡ all_free i → map room_of (take (i + 1) (set xs i Free)) ≡ all_free (i + 1)
clear_more xs i h e =
    ap (map room_of) (take_more_set xs i Free h) ∙ map_push room_of (take i xs) Free ∙ ap (λ ys. ys ++ free ∷ []) e ∙ replicate_more i free

free_room : (x : Cell) → is_free x ≡ true → room_of x ≡ free
free_room Free e = refl
free_room (Taken l r n) e = cc

taken_room : (x : Cell) → is_free x ≡ false → is_taken (room_of x) ≡ true
taken_room Free e = cc
taken_room (Taken l r n) e = refl

-- no cell is free
pub none_free : (xs : List Cell) → position is_free xs ≡ None → all_taken (map room_of xs) ≡ true
none_free xs e = elim (cases_lt (position_or_len is_free xs) (length xs)) [ inl h ↦ absurd (grind (arith, nat_tests)) | inr h ↦ past xs h ]
  where
    past : (xs : List Cell) → length xs ≤ position_or_len is_free xs → all_taken (map room_of xs) ≡ true
    past [] h = refl
    past (Free ∷ xs) h = absurd (omega arith)
    past (Taken l r n ∷ xs) h = past xs (omega arith)

all_before : (m : Model) (i : ℕ) → ((k : ℕ) → k < i → taken_at m k ≡ true) → all_taken (take i m) ≡ true
all_before m zero f = refl
all_before [] (suc i) f = refl
all_before (free ∷ m) (suc i) f = f 0 (omega arith)
all_before (taken l r n ∷ m) (suc i) f = all_before m i (λ k h. f (suc k) (omega arith))

-- the first free cell
pub first_free : (xs : List Cell) (p : Address) → position is_free xs ≡ Some p.at → FirstFree (map room_of xs) (Some p)
first_free xs p e =
    let m = map room_of xs in
    let found = position-Some is_free xs p.at Free e in
    let room : (k : ℕ) → room_at m k ≡ room_of (get_or xs k Free) = λ k. ListN.get_or-map room_of xs k Free in
    let within : p.at < length m = simp length-map found.0 in
    let is : room_at m p.at ≡ free = room p.at ∙ free_room _ found.1 in
    (within, is, not_all_taken m p.at within is, all_before m p.at (λ k h. ap is_taken (room k) ∙ taken_room _ (found.2 k h)))
