-- The cells that a heap is made over, read and written. Assumes nothing.
use Rattle.std.proofs.Common.{◌≡◌, ℕ, ◌≤◌, min, List, length, take, Some, None, Option, sym, refl, ◌∙◌, slice_get, Bor, arith, length-take, take_all}
use Rattle.std.specs.Option.{option_copied}
use Rattle.std.specs.Slice.{IsItemAt}
use Rattle.std.proofs.lemmas.Option.{slice_get_read, slice_get_past}
use Rattle.heap.specs.declared.places.Places.{Places}
use Rattle.heap.specs.Places.{places_of, SameSpare}

pub copied_item : {X : Type 0} (xs : List X) (i : ℕ) (r : Option (Bor X)) → IsItemAt xs i r → option_copied r ≡ slice_get xs i
copied_item xs i None h = sym (slice_get_past xs i h.3)
copied_item xs i (Some x) h = sym (slice_get_read xs _ i x.now refl h.3.0 h.1)

-- what no call and what two calls leave as it was
pub same_spare : {C : Type 0} {p : Places C} → SameSpare p p
same_spare = record { spare = refl; count = refl }

pub spare_then : {C : Type 0} {p q r : Places C} → SameSpare p q → SameSpare q r → SameSpare p r
spare_then a b = record { spare = b.spare ∙ a.spare; count = b.count ∙ a.count }

pub places_count : {C : Type 0} (p : Places C) → length (places_of p) ≡ min 1024 (length p.cells.items)
places_count p = length-take 1024 p.cells.items

-- as many places, and all of them
pub places_stay : {C : Type 0} {p q : Places C} → SameSpare p q → length (places_of q) ≡ length (places_of p)
places_stay {p = p} {q = q} s = let before = places_count p in let now = places_count q in let same = s.count in omega arith

pub all_places : {C : Type 0} {p q : Places C} (i : ℕ) → SameSpare p q → length (places_of p) ≤ i → take i (places_of q) ≡ places_of q
all_places {q = q} i s h = let same = places_stay s in take_all i (places_of q) (omega arith)
