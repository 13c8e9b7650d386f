-- One more free place, until all are. Assumes nothing.
use Rattle.std.proofs.Common.{◌≡◌, ℕ, zero, suc, ◌+◌, ◌<◌, true, List, [], ◌∷◌, ◌++◌, map, length, get_or, take, set, Some, None, Option, sym, refl, ap, ◌∙◌, subst, arith}
use lib.ListN.{length-map}
use Rattle.std.proofs.lemmas.List.{take_more_set, map_push, replicate_more, length-take-le, length-append, get_or_at, set_at}
use Rattle.heap.specs.Model.{free, all_free, room_at}
use Rattle.heap.specs.Counts.{count}
use Rattle.heap.proofs.RoomAt.{all_free_lem}
use Rattle.heap.proofs.Counted.{count_none}
use Rattle.counting.specs.Laws.{cell_room}
use Rattle.counting.specs.declared.cell.Cell.{Cell}
use Rattle.counting.specs.declared.cell.Cell.TheVariants.{Free, Taken, Dying}
use Rattle.counting.specs.Chain.{links, linked, onward, Linked}
use Rattle.counting.specs.Cells.{cell_at, room_of, rooms, named_of, next_free, quiet, Sound}
use Rattle.counting.proofs.Chains.{push}

-- a place past the end that is in no chain
get_or_none : (ns : List (Option ℕ)) (h : ℕ) → get_or (ns ++ None ∷ []) h None ≡ get_or ns h None
get_or_none [] zero = refl
get_or_none [] (suc h) = refl
get_or_none (o ∷ ns) zero = refl
get_or_none (o ∷ ns) (suc h) = get_or_none ns h

set_none : (ns : List (Option ℕ)) (h : ℕ) → set (ns ++ None ∷ []) h None ≡ set ns h None ++ None ∷ []
set_none [] zero = refl
set_none [] (suc h) = refl
set_none (o ∷ ns) zero = refl
set_none (o ∷ ns) (suc h) = ap (λ t. o ∷ t) (set_none ns h)

links_none : (ns : List (Option ℕ)) → links (ns ++ None ∷ []) ≡ links ns
links_none [] = refl
links_none (None ∷ ns) = links_none ns
links_none (Some n ∷ ns) = ap suc (links_none ns)

linked_more : (k : ℕ) (ns : List (Option ℕ)) (h : ℕ) → linked k (ns ++ None ∷ []) h ≡ linked k ns h
linked_more zero ns h = refl
linked_more (suc k) ns h = ap (λ o. onward o (λ n. linked k (set (ns ++ None ∷ []) h None) n)) (get_or_none ns h) ∙ inner (λ ms n. linked_more k ms n) (get_or ns h None)
  where
    inner : ((ms : List (Option ℕ)) (n : ℕ) → linked k (ms ++ None ∷ []) n ≡ linked k ms n) → (o : Option ℕ) → onward o (λ n. linked k (set (ns ++ None ∷ []) h None) n) ≡ onward o (λ n. linked k (set ns h None) n)
    inner go None = refl
    inner go (Some n) = ap (λ ms. linked k ms n) (set_none ns h) ∙ go (set ns h None) n

chain_more : {ns : List (Option ℕ)} {h : ℕ} (i : ℕ) → length ns ≡ i → Linked ns h → Linked (ns ++ Some h ∷ []) i
chain_more {ns} {h} i e l =
    let m : Linked (ns ++ None ∷ []) h = record { all = ap (λ k. linked k (ns ++ None ∷ []) h) (links_none ns) ∙ linked_more (links ns) ns h ∙ l.all } in
    let w : i < length (ns ++ None ∷ []) = simp length-append (omega arith) in
    subst (λ ms. Linked ms i) (set_at ns None [] (Some h) i e) (push i w (get_or_at ns None [] None i e) m)

pub fresh_link : (xs : List Cell) (i h : ℕ) → i < length xs → Linked (map next_free (take i xs)) h → Linked (map next_free (take (i + 1) (set xs i (Free h)))) i
fresh_link xs i h w l =
    subst (λ ns. Linked ns i) (sym (ap (map next_free) (take_more_set xs i (Free h) w) ∙ map_push next_free (take i xs) (Free h)))
    (chain_more i (length-map (take i xs) next_free ∙ length-take-le i xs (omega arith)) l)

pub fresh_rooms : (xs : List Cell) (i h : ℕ) → i < length xs → rooms (take i xs) ≡ all_free i → rooms (take (i + 1) (set xs i (Free h))) ≡ all_free (i + 1)
fresh_rooms xs i h w e =
    ap rooms (take_more_set xs i (Free h) w) ∙ map_push room_of (take i xs) (Free h) ∙ ap (λ ys. ys ++ free ∷ []) e ∙ replicate_more i free

free_cell : (x : Cell) → room_of x ≡ free → (named_of x ≡ 0) × (quiet x ≡ true)
free_cell (Free n) e = (refl, refl)
free_cell (Taken x) e = cc
free_cell (Dying l r n) e = cc

pub fresh_sound : (xs : List Cell) (n h : ℕ) → rooms xs ≡ all_free n → Linked (map next_free xs) h → Sound xs h
fresh_sound xs n h e l =
    let at : (p : ℕ) → room_of (cell_at xs p) ≡ free = λ p. sym (cell_room xs p) ∙ ap (λ c. room_at c p) e ∙ all_free_lem n p in
    ((λ p. (free_cell (cell_at xs p) (at p)).0 ∙ sym (ap (count p) e ∙ count_none p n)), (λ p. (free_cell (cell_at xs p) (at p)).1), l.all)
