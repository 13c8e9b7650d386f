-- Places in a chain, each with the next one. Assumes nothing.
use Rattle.std.specs.Prelude.{◌≡◌, ℕ, zero, suc, Bool, true, false, List, [], ◌∷◌, Some, None, Option, slice_index_or, slice_set}

-- how many places have a next one
abbrev pub links : List (Option ℕ) → ℕ
links [] = 0
links (None ∷ ns) = links ns
links (Some n ∷ ns) = suc (links ns)

-- a next place has this property, and there is one
abbrev pub onward : Option ℕ → (ℕ → Bool) → Bool
onward None f = false
onward (Some n) f = f n

-- k steps from the place h lead each to a place that was not met before
abbrev pub linked : ℕ → List (Option ℕ) → ℕ → Bool
linked zero ns h = true
linked (suc k) ns h = onward (slice_index_or ns h None) (λ n. linked k (slice_set ns h None) n)

-- all places that have a next one are in one chain from the place h
abbrev pub chained : List (Option ℕ) → ℕ → Bool
chained ns h = linked (links ns) ns h

-- the same as a relation
pub record Linked (ns : List (Option ℕ)) (h : ℕ) : Type 0 where
  pub all : chained ns h ≡ true
