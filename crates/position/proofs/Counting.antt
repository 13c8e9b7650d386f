-- One byte more. Assumes nothing.
use Rattle.std.proofs.Common.{◌≡◌, ℕ, ◌+◌, ◌<◌, cond, eqb, List, [], ◌∷◌, ◌++◌, length, get_or, take, sym, refl, ap, ◌∙◌, add-zero, add_assoc, zero-add}
use Rattle.std.proofs.lemmas.List.{take_more}
use Rattle.std.proofs.lemmas.Bool.{eq-eqb, ne_eqb, cond-true, cond-false}
use Rattle.position.specs.Lines.{breaks, since_break}

breaks_push : (xs : List ℕ) (b : ℕ) → breaks (xs ++ b ∷ []) ≡ breaks xs + cond (eqb b 10) 1 0
unfolding breaks
breaks_push [] b = add-zero _ ∙ sym (zero-add _)
breaks_push (x ∷ xs) b = ap (λ n. cond (eqb x 10) 1 0 + n) (breaks_push xs b) ∙ sym (add_assoc _ (breaks xs) _)

since_push : (n : ℕ) (xs : List ℕ) (b : ℕ) → since_break n (xs ++ b ∷ []) ≡ cond (eqb b 10) 0 (since_break n xs + 1)
unfolding since_break
since_push n [] b = refl
since_push n (x ∷ xs) b = since_push (cond (eqb x 10) 0 (n + 1)) xs b

-- over a line feed, and over any other byte
pub line_more : (bs : List ℕ) (i : ℕ) → i < length bs → get_or bs i 0 ≡ 10 → (breaks (take (i + 1) bs) ≡ breaks (take i bs) + 1) × (since_break 0 (take (i + 1) bs) ≡ 0)
line_more bs i h is =
    let t = eq-eqb (get_or bs i 0) 10 is in (
      ap breaks (take_more bs i 0 h) ∙ breaks_push (take i bs) (get_or bs i 0) ∙ ap (λ n. breaks (take i bs) + n) (cond-true _ 1 0 t),
      ap (since_break 0) (take_more bs i 0 h) ∙ since_push 0 (take i bs) (get_or bs i 0) ∙ cond-true _ _ _ t,
    )

pub column_more : (bs : List ℕ) (i : ℕ) → i < length bs → (get_or bs i 0 ≡ 10 → ⊥) → (breaks (take (i + 1) bs) ≡ breaks (take i bs)) × (since_break 0 (take (i + 1) bs) ≡ since_break 0 (take i bs) + 1)
column_more bs i h not =
    let f = ne_eqb (get_or bs i 0) 10 not in (
      ap breaks (take_more bs i 0 h) ∙ breaks_push (take i bs) (get_or bs i 0) ∙ ap (λ n. breaks (take i bs) + n) (cond-false _ 1 0 f) ∙ add-zero _,
      ap (since_break 0) (take_more bs i 0 h) ∙ since_push 0 (take i bs) (get_or bs i 0) ∙ cond-false _ _ _ f,
    )
