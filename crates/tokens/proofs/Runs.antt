-- Where a comment closes, and what one digit more makes. Assumes nothing.
use Rattle.std.proofs.Common.{◌≡◌, ℕ, zero, suc, ◌+◌, ◌-◌, ◌*◌, ◌<◌, ◌≤◌, true, false, ◌&&◌, eqb, List, [], ◌∷◌, length, get_or, take, drop, Some, None, sym, refl, ap, ◌∙◌, ⊎_elim, arith, length-drop}
use Rattle.std.proofs.lemmas.List.{take_all, drop_more}
use Rattle.std.proofs.lemmas.Bool.{cases_Bool, cond-true, cond-false, le-leb, lt-leb, eq-eqb, eqb-true, and_from, and_right, and_parts}
use Rattle.tokens.specs.Spelling.{reading, reading_from}
use Rattle.tokens.specs.Lexing.{largest}
use Rattle.tokens.specs.Scan.{starts, ClosesAt, later, closing, value_of}

-- a comment closes at the front of a text, or it does not
closes_here : (b : ℕ) (bs : List ℕ) → ClosesAt (b ∷ bs) 0 → (eqb b 42 && starts 47 bs) ≡ true
closes_here b [] h = let long : 0 + 2 ≤ 1 = h.0 in absurd (omega arith)
closes_here b (c ∷ cs) h = and_from _ _ (eq-eqb b 42 h.1) (eq-eqb c 47 h.2)

closes_not : (b : ℕ) (bs : List ℕ) → ¬ ClosesAt (b ∷ bs) 0 → (eqb b 42 && starts 47 bs) ≡ false
closes_not b [] h = and_right _ _ refl
closes_not b (c ∷ cs) h =
    ⊎_elim
    (λ e. let is = and_parts (eqb b 42) (eqb c 47) e in absurd (h (omega arith, eqb-true b 42 is.0, eqb-true c 47 is.1)))
    (λ e. e)
    (cases_Bool (eqb b 42 && eqb c 47))

-- one byte more before a closing
closes_less : (b : ℕ) (bs : List ℕ) (n : ℕ) → ClosesAt (b ∷ bs) (suc n) → ClosesAt bs n
closes_less b bs n h = let e : suc n + 1 ≡ suc (n + 1) = omega arith in (omega arith, h.1, ap (λ k. get_or (b ∷ bs) k 0) (sym e) ∙ h.2)

closes_more : (b : ℕ) (bs : List ℕ) (n : ℕ) → ClosesAt bs n → ClosesAt (b ∷ bs) (suc n)
closes_more b bs n h = let e : suc n + 1 ≡ suc (n + 1) = omega arith in (omega arith, h.1, ap (λ k. get_or (b ∷ bs) k 0) e ∙ h.2)

pub closing_some : (bs : List ℕ) (n : ℕ) → ClosesAt bs n → ((k : ℕ) → k < n → ¬ ClosesAt bs k) → closing bs ≡ Some n
unfolding closing
closing_some [] n h first = let long : n + 2 ≤ 0 = h.0 in absurd (omega arith)
closing_some (b ∷ bs) zero h first = cond-true _ _ _ (closes_here b bs h)
closing_some (b ∷ bs) (suc n) h first =
    cond-false _ _ _ (closes_not b bs (first 0 (omega arith)))
    ∙ ap (later 1) (closing_some bs n (closes_less b bs n h) (λ k below at. first (suc k) (omega arith) (closes_more b bs k at)))
    ∙ ap Some (omega arith)

pub closing_none : (bs : List ℕ) → ((k : ℕ) → ¬ ClosesAt bs k) → closing bs ≡ None
unfolding closing
closing_none [] never = refl
closing_none (b ∷ bs) never =
    cond-false _ _ _ (closes_not b bs (never 0))
    ∙ ap (later 1) (closing_none bs (λ k at. never (suc k) (closes_more b bs k at)))

-- what the code cuts out after the first byte
pub all_but_first : (bs : List ℕ) → take (length bs - 1) (drop 1 bs) ≡ drop 1 bs
all_but_first bs = let long = length-drop 1 bs in take_all (length bs - 1) (drop 1 bs) (omega arith)

-- one digit more
pub reading_on : (n : ℕ) (ds : List ℕ) (i : ℕ) → i < length ds → reading_from n (drop i ds) ≡ reading_from (n * 10 + (get_or ds i 0 - 48)) (drop (i + 1) ds)
reading_on n ds i h = ap (reading_from n) (drop_more ds i 0 h)

-- more digits make no smaller number
pub reading_grows : (n : ℕ) (ds : List ℕ) → n ≤ reading_from n ds
reading_grows n [] = omega arith
reading_grows n (d ∷ ds) = let h = reading_grows (n * 10 + (d - 48)) ds in omega arith

pub value_large : (ds : List ℕ) → largest < reading ds → value_of ds ≡ None
unfolding value_of
value_large ds h = cond-false _ _ _ (lt-leb _ _ h)

pub value_fits : (ds : List ℕ) → reading ds ≤ largest → value_of ds ≡ Some (reading ds)
unfolding value_of
value_fits ds h = cond-true _ _ _ (le-leb _ _ h)
