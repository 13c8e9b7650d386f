-- The table's rule, computed at each of its 256 entries. Assumes nothing.
use Rattle.std.proofs.Common.{◌≡◌, ℕ, zero, suc, ◌+◌, ◌<◌, List, [], ◌∷◌, get_or, sym, ap, ◌∙◌, le_of_suc-le-suc, not-suc-le-zero, add-zero, add-suc, suc-add, zero-add}
use Rattle.byte_class.specs.declared.Class.{Class}
use Rattle.byte_class.specs.Classes.{class_of}

-- f at n places, counted from i
abbrev pub row : {X : Type 0} → (ℕ → X) → ℕ → ℕ → List X
row f i zero = []
row f i (suc n) = f i ∷ row f (suc i) n

row_at : {X : Type 0} (f : ℕ → X) (i n k : ℕ) (d : X) → k < n → get_or (row f i n) k d ≡ f (i + k)
row_at f i zero k d h = absurd (not-suc-le-zero h)
row_at f i (suc n) zero d h = ap f (sym (add-zero i))
row_at f i (suc n) (suc k) d h = row_at f (suc i) n k d (le_of_suc-le-suc h) ∙ ap f (suc-add i k ∙ sym (add-suc i k))

-- what stands at k in the table that the formula makes
pub entry_rule : (k : ℕ) (d : Class) → k < 256 → get_or (row class_of 0 256) k d ≡ class_of k
entry_rule k d h = row_at class_of 0 256 k d h ∙ ap class_of (zero-add k)
