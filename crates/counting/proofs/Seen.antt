-- Cells read and written, and what is seen of them. Assumes nothing.
use Rattle.std.specs.Prelude.{◌≡◌, ℕ, zero, suc, ◌+◌, ◌<◌, ◌≤◌, Bool, true, List, [], ◌∷◌, map, length, take, set, Some, None, Option, ◌≢◌, slice_index_or, slice_set, refl}
use Rattle.std.proofs.Common.{sym, ap, ◌∙◌, subst, inl, inr, arith, length-take}
use Rattle.std.proofs.Math.ListN
use Rattle.std.proofs.lemmas.Bool.{cases_eq}
use Rattle.std.specs.List.{slice_get}
use Rattle.std.specs.Option.{unwrap_or, option_map}
use Rattle.std.proofs.lemmas.Option.{unwrap_or-slice_get, slice_get-map}
use Rattle.std.proofs.lemmas.List.{get_or-set_same, get_or-set_other, get_or-map, get_or-take, get_or_read, length-map, map-set}
use Rattle.heap.specs.declared.types.Address.{Address}
use Rattle.heap.specs.declared.types.Value.{Value}
use Rattle.heap.specs.declared.types.Value.TheVariants.{At}
use Rattle.heap.specs.Model.{free, room_at, is_taken}
use Rattle.heap.specs.Counts.{names, room_names, count}
use Rattle.heap.proofs.Counted.{names_self, names_other, count_set}
use Rattle.counting.specs.declared.cell.Cell.{Cell}
use Rattle.counting.specs.declared.cell.Cell.TheVariants.{Free, Taken, Dying}
use Rattle.counting.specs.Chain.{Linked}
use Rattle.counting.specs.Laws.{cell_room}
use Rattle.counting.specs.Cells.{cell_at, room_of, rooms, named_of, next_free, next_dying}
use Rattle.counting.proofs.Chains.{push, pop}

-- the first n cells of a list
pub first_within : (n : ℕ) (xs : List Cell) (i : ℕ) → i < length (take n xs) → (i < n) × (i < length xs)
first_within n xs i h = let e = length-take n xs in (omega arith, omega arith)

pub first_few : (n : ℕ) (xs : List Cell) → length (take n xs) ≤ n
first_few n xs = let e = length-take n xs in omega arith

pub first_read : (n : ℕ) (xs : List Cell) (i : ℕ) (x : Cell) → i < length (take n xs) → x ≡ slice_index_or xs i x → x ≡ cell_at (take n xs) i
first_read n xs i x h e = let w = first_within n xs i h in get_or_read xs i x w.1 e (Free 0) ∙ sym (get_or-take n xs i (Free 0) w.0)

-- a cell
pub inside : (xs : List Cell) (p : ℕ) → is_taken (room_of (cell_at xs p)) ≡ true → p < length xs
inside [] p e = cc
inside (x ∷ xs) zero e = omega arith
inside (x ∷ xs) (suc p) e = let h = inside xs p e in omega arith

pub cell_within : (xs : List Cell) (p : ℕ) {x : Cell} → x ≡ cell_at xs p → is_taken (room_of x) ≡ true → p < length xs
cell_within xs p e t = inside xs p (ap (λ x. is_taken (room_of x)) (sym e) ∙ t)

pub dying_at : (xs : List Cell) (p : ℕ) → slice_index_or (map next_dying xs) p None ≡ next_dying (cell_at xs p)
dying_at xs p = ListN.get_or-map next_dying xs p (Free 0)

pub free_at : (xs : List Cell) (p : ℕ) → p < length xs → slice_index_or (map next_free xs) p None ≡ next_free (cell_at xs p)
free_at xs p w = get_or-map next_free xs p (Free 0) None w

-- a test of every cell, after a write of a cell that passes it
pub every_set : (P : Cell → Bool) (xs : List Cell) (i : ℕ) (x : Cell) → P x ≡ true → ((p : ℕ) → P (cell_at xs p) ≡ true) → (p : ℕ) → P (cell_at (slice_set xs i x) p) ≡ true
every_set P [] i x h f p = f p
every_set P (y ∷ xs) zero x h f zero = h
every_set P (y ∷ xs) zero x h f (suc p) = f (suc p)
every_set P (y ∷ xs) (suc i) x h f zero = f zero
every_set P (y ∷ xs) (suc i) x h f (suc p) = every_set P xs i x h (λ q. f (suc q)) p

-- a write that leaves what is seen of the cell
pub same_at : {X : Type 0} (g : Cell → X) (xs : List Cell) (i : ℕ) (x : Cell) → g x ≡ g (cell_at xs i) → (p : ℕ) → g (cell_at (slice_set xs i x) p) ≡ g (cell_at xs p)
same_at g [] i x e p = refl
same_at g (y ∷ xs) zero x e zero = e
same_at g (y ∷ xs) zero x e (suc p) = refl
same_at g (y ∷ xs) (suc i) x e zero = refl
same_at g (y ∷ xs) (suc i) x e (suc p) = same_at g xs i x e p

pub map_same : {X : Type 0} (g : Cell → X) (xs : List Cell) (i : ℕ) (x : Cell) → g x ≡ g (cell_at xs i) → map g (slice_set xs i x) ≡ map g xs
map_same g [] i x e = refl
map_same g (y ∷ xs) zero x e = ap (λ h. h ∷ map g xs) e
map_same g (y ∷ xs) (suc i) x e = ap (λ t. g y ∷ t) (map_same g xs i x e)

-- a write at i, as the counts see it
pub count_cell : (p : ℕ) (xs : List Cell) (i : ℕ) (x : Cell) → i < length xs → count p (rooms (slice_set xs i x)) + room_names p (room_of (cell_at xs i)) ≡ count p (rooms xs) + room_names p (room_of x)
count_cell p xs i x w =
    let e = count_set p (rooms xs) i (room_of x) (simp length-map w) in
    let a : count p (rooms (slice_set xs i x)) ≡ count p (slice_set (rooms xs) i (room_of x)) = ap (count p) (map-set room_of xs i x) in
    let b : room_names p (room_at (rooms xs) i) ≡ room_names p (room_of (cell_at xs i)) = ap (room_names p) (cell_room xs i) in
    omega arith

-- two lists whose counts differ by one at q
one_apart : (xs ys : List Cell) (q : Address) → ((p : ℕ) → (p ≢ q.at) → cell_at xs p ≡ cell_at ys p) → named_of (cell_at xs q.at) + 1 ≡ named_of (cell_at ys q.at) → (p : ℕ) → named_of (cell_at xs p) + names p (At q) ≡ named_of (cell_at ys p)
one_apart xs ys q other here p =
    elim (cases_eq p q.at) [
      | inl i ↦ (
          let n : names p (At q) ≡ 1 = ap (λ j. names j (At q)) i ∙ names_self q in
          let a : named_of (cell_at xs p) ≡ named_of (cell_at xs q.at) = ap (λ j. named_of (cell_at xs j)) i in
          let b : named_of (cell_at ys p) ≡ named_of (cell_at ys q.at) = ap (λ j. named_of (cell_at ys j)) i in
          omega arith)
      | inr ne ↦ (
          let n = names_other p q ne in
          let e : named_of (cell_at xs p) ≡ named_of (cell_at ys p) = ap named_of (other p ne) in
          omega arith)
    ]

pub less_at : (xs : List Cell) (q : Address) (x : Cell) → q.at < length xs → named_of x + 1 ≡ named_of (cell_at xs q.at) → (p : ℕ) → named_of (cell_at (slice_set xs q.at x) p) + names p (At q) ≡ named_of (cell_at xs p)
less_at xs q x w e =
    one_apart (slice_set xs q.at x) xs q (λ p ne. get_or-set_other xs q.at p x (Free 0) ne) (ap (λ y. named_of y + 1) (get_or-set_same xs q.at x (Free 0) w) ∙ e)

pub more_at : (xs : List Cell) (q : Address) (x : Cell) → q.at < length xs → named_of x ≡ named_of (cell_at xs q.at) + 1 → (p : ℕ) → named_of (cell_at xs p) + names p (At q) ≡ named_of (cell_at (slice_set xs q.at x) p)
more_at xs q x w e =
    one_apart xs (slice_set xs q.at x) q (λ p ne. sym (get_or-set_other xs q.at p x (Free 0) ne)) (sym (ap named_of (get_or-set_same xs q.at x (Free 0) w) ∙ e))

-- a write that takes place p out of a chain, puts it in, or leaves it
pub linked_pop : (g : Cell → Option ℕ) (xs : List Cell) {p n : ℕ} (x : Cell) → slice_index_or (map g xs) p None ≡ Some n → g x ≡ None → Linked (map g xs) p → Linked (map g (slice_set xs p x)) n
linked_pop g xs {p} {n} x e i l = subst (λ ns. Linked ns n) (sym (map-set g xs p x ∙ ap (set (map g xs) p) i)) (pop e l)

pub linked_push : (g : Cell → Option ℕ) (xs : List Cell) {h : ℕ} (p : ℕ) (x : Cell) → p < length xs → slice_index_or (map g xs) p None ≡ None → g x ≡ Some h → Linked (map g xs) h → Linked (map g (slice_set xs p x)) p
linked_push g xs {h} p x w e i l = subst (λ ns. Linked ns p) (sym (map-set g xs p x ∙ ap (set (map g xs) p) i)) (push p (simp length-map w) e l)

pub linked_same : (g : Cell → Option ℕ) (xs : List Cell) {h : ℕ} (p : ℕ) (x : Cell) → g x ≡ g (cell_at xs p) → Linked (map g xs) h → Linked (map g (slice_set xs p x)) h
linked_same g xs {h} p x e l = subst (λ ns. Linked ns h) (sym (map_same g xs p x e)) l

-- a cell that is not of one kind
pub not_dying : (x : Cell) → ((l r : Value) (n : ℕ) → x ≢ Dying l r n) → next_dying x ≡ None
not_dying (Free n) h = refl
not_dying (Taken y) h = refl
not_dying (Dying l r n) h = absurd (h l r n refl)

pub not_free : (x : Cell) → ((n : ℕ) → x ≢ Free n) → next_free x ≡ None
not_free (Free n) h = absurd (h n refl)
not_free (Taken y) h = refl
not_free (Dying l r n) h = refl

-- a free place
some_within : (ns : List (Option ℕ)) (p n : ℕ) → slice_index_or ns p None ≡ Some n → p < length ns
some_within [] p n e = cc
some_within (o ∷ ns) zero n e = omega arith
some_within (o ∷ ns) (suc p) n e = let h = some_within ns p n e in omega arith

pub some_free : (x : Cell) (n : ℕ) → next_free x ≡ Some n → (named_of x ≡ 0) × (room_of x ≡ free)
some_free (Free m) n e = (refl, refl)
some_free (Taken y) n e = cc
some_free (Dying l r m) n e = cc

pub free_within : (xs : List Cell) (f n : ℕ) → slice_index_or (map next_free xs) f None ≡ Some n → f < length xs
free_within xs f n e = let h = some_within (map next_free xs) f n e in omega (arith, length-map xs next_free)

pub free_room : (xs : List Cell) (f n : ℕ) → slice_index_or (map next_free xs) f None ≡ Some n → room_at (rooms xs) f ≡ free
free_room xs f n e = cell_room xs f ∙ (some_free (cell_at xs f) n (sym (free_at xs f (free_within xs f n e)) ∙ e)).1

-- the free list, as it is read through the places
pub free_read : (xs : List Cell) (f : ℕ) (o : Option Cell) → slice_get xs f ≡ o → slice_index_or (map next_free xs) f None ≡ unwrap_or (option_map next_free o) None
free_read xs f o e = sym (unwrap_or-slice_get (map next_free xs) f None) ∙ ap (λ n. unwrap_or n None) (slice_get-map next_free xs f ∙ ap (option_map next_free) e)
