-- The items of a source are tokens, whose offsets rise, and last the end or a trouble. Assumes nothing.
use Rattle.std.proofs.Common.{◌≡◌, ℕ, zero, suc, ◌+◌, ◌<◌, ◌≤◌, false, List, [], ◌∷◌, length, drop, refl, arith, length-drop}
use Rattle.tokens.specs.Spelling.{Symbol, Item, item}
use Rattle.tokens.specs.Scan.{Front, gap, found, stop, front, lexed, final}
use Rattle.tokens.proofs.Steps.{gap_long, found_long, found_goes_on, stop_is_last, lexed_gap, lexed_found, lexed_stop}
use Rattle.grammar.specs.Refusals.{Ended, last, before}

-- they end so, and none stands before the offset
abbrev Rises : ℕ → List Item → Type 0
Rises at [] = ⊥
Rises at (i ∷ is) = (at ≤ i.at) × Ended (i ∷ is)

sooner : (a b : ℕ) (is : List Item) → a ≤ b → Rises b is → Rises a is
sooner a b [] l h = h
sooner a b (i ∷ is) l (k, e) = (omega arith, e)

one_more : (at k : ℕ) (s : Symbol) (is : List Item) → 0 < k → final s ≡ false → Rises (at + k) is → Rises at (item s at ∷ is)
one_more at k s [] l f h = absurd h
one_more at k s (i ∷ is) l f (m, e) = (omega arith, before f (omega arith) e)

shorter : (k n : ℕ) (bs : List ℕ) → 0 < k → k ≤ length bs → length bs < suc n → length (drop k bs) < n
shorter k n bs l h f = simp length-drop (omega arith)

rises : (n at : ℕ) (bs : List ℕ) → length bs < n → Rises at (lexed at bs)
rises zero at bs l = absurd (omega arith)
rises (suc n) at bs l = by (front bs) refl (rises n)
  where
    by : (w : Front) → front bs ≡ w → ((at : ℕ) (bs : List ℕ) → length bs < n → Rises at (lexed at bs)) → Rises at (lexed at bs)
    by (gap k) e rec = let h = gap_long bs k e in rw (lexed_gap at k bs e) (sooner at (at + k) (lexed (at + k) (drop k bs)) (omega arith) (rec (at + k) (drop k bs) (shorter k n bs h.0 h.1 l)))
    by (found k s) e rec = let h = found_long bs k s e in rw (lexed_found at k s bs e) (one_more at k s (lexed (at + k) (drop k bs)) h.0 (found_goes_on bs k s e) (rec (at + k) (drop k bs) (shorter k n bs h.0 h.1 l)))
    by (stop s) e rec = rw (lexed_stop at s bs e) (omega arith, last (stop_is_last bs s e))

pub lexed_ended : (bs : List ℕ) → Ended (lexed 0 bs)
lexed_ended bs = by (lexed 0 bs) (rises (suc (length bs)) 0 bs (omega arith))
  where
    by : (is : List Item) → Rises 0 is → Ended is
    by [] h = absurd h
    by (i ∷ is) (l, e) = e
