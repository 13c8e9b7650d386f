-- What one turn of the scan does: how far it goes, and the items that it leaves. Assumes nothing.
use Rattle.std.proofs.Common.{◌≡◌, ℕ, zero, suc, ◌+◌, ◌<◌, ◌≤◌, true, false, ◌&&◌, eqb, List, [], ◌∷◌, length, take, drop, Some, None, Option, refl, ap, ◌∙◌, subst, arith, length-drop, length-take}
use Rattle.std.proofs.lemmas.Bool.{cond_both, and_parts}
use Rattle.std.specs.List.{prefix_len}
use Rattle.byte_class.specs.Classes.{class_of, digit}
use Rattle.byte_class.specs.declared.Class.{Class}
use Rattle.byte_class.specs.declared.Class.TheVariants as class
use Rattle.tokens.specs.declared.types.Keyword.{Keyword}
use Rattle.tokens.specs.declared.types.Mark.{Mark}
use Rattle.tokens.specs.Spelling.{Symbol, item, wordy}
use Rattle.tokens.specs.Scan.{starts, value_of, later, closing, keyword_of, Front, gap, found, stop, word_symbol, number_by, comment_by, one_or_two, two, front_by, front, items_by, lexed_by, lexed, final}

-- what stands first passes a byte at least, and n bytes at most; it is a token, or it is the last item
abbrev Passes : ℕ → Front → Type 0
Passes n (gap k) = (0 < k) × (k ≤ n)
Passes n (found k s) = (0 < k) × (k ≤ n) × (final s ≡ false)
Passes n (stop s) = final s ≡ true

starts_long : (x : ℕ) (bs : List ℕ) → starts x bs ≡ true → 0 < length bs
starts_long x [] h = let z : ◌≡◌ {A = ℕ} 0 1 = cc in omega arith
starts_long x (b ∷ bs) h = omega arith

-- the closing of a comment and what stands before it are part of the text
abbrev Within : ℕ → Option ℕ → Type 0
Within n None = Unit {0}
Within n (Some k) = k + 2 ≤ n

later_within : (n : ℕ) (o : Option ℕ) → Within n o → Within (suc n) (later 1 o)
later_within n None h = tt
later_within n (Some k) h = omega arith

pub closing_within : (bs : List ℕ) → Within (length bs) (closing bs)
unfolding closing
closing_within [] = tt
closing_within (b ∷ bs) =
    cond_both (eqb b 42 && starts 47 bs) (Some 0) (later 1 (closing bs)) (Within (suc (length bs)))
    (λ e. let l = starts_long 47 bs (and_parts (eqb b 42) (starts 47 bs) e).1 in omega arith)
    (λ e. later_within (length bs) (closing bs) (closing_within bs))

number_passes : (n k : ℕ) (o : Option ℕ) → 0 < k → k ≤ n → Passes n (number_by k o)
number_passes n k None l h = refl
number_passes n k (Some v) l h = (l, h, refl)

comment_passes : (n : ℕ) (o : Option ℕ) → Within n o → Passes (suc (suc n)) (comment_by o)
comment_passes n None h = refl
comment_passes n (Some k) h = (omega arith, omega arith)

-- the first byte and a front of the others
front_fits : (n : ℕ) (bs : List ℕ) → suc (length (take n bs)) ≤ suc (length bs)
front_fits n bs = simp length-take (omega arith)

-- a word is a token, be it a name or a keyword
word_goes_on : (w : List ℕ) (o : Option Keyword) → final (word_symbol w o) ≡ false
word_goes_on w None = refl
word_goes_on w (Some k) = refl

one_passes : (n : ℕ) → (0 < 1) × (1 ≤ suc n) × (false ≡ false)
one_passes n = (omega arith, omega arith, refl)

one_or_two_passes : (x : ℕ) (m n : Mark) (bs : List ℕ) → Passes (suc (length bs)) (one_or_two x m n bs)
one_or_two_passes x m n bs = cond_both (starts x bs) _ _ (Passes (suc (length bs))) (λ e. let l = starts_long x bs e in (omega arith, omega arith, refl)) (λ e. one_passes (length bs))

two_passes : (x : ℕ) (n : Mark) (bs : List ℕ) → Passes (suc (length bs)) (two x n bs)
two_passes x n bs = cond_both (starts x bs) _ _ (Passes (suc (length bs))) (λ e. let l = starts_long x bs e in (omega arith, omega arith, refl)) (λ e. refl)

slash_passes : (b : ℕ) (bs : List ℕ) → Passes (suc (length bs)) (front_by class.Slash b bs)
slash_passes b [] = refl
slash_passes b (c ∷ bs) = cond_both (starts 42 (c ∷ bs)) _ _ (Passes (suc (suc (length bs)))) (λ e. comment_passes (length bs) (closing bs) (closing_within bs)) (λ e. refl)

by_passes : (c : Class) (b : ℕ) (bs : List ℕ) → Passes (suc (length bs)) (front_by c b bs)
by_passes class.Letter b bs = (omega arith, front_fits (prefix_len wordy bs) bs, word_goes_on _ (keyword_of (b ∷ take (prefix_len wordy bs) bs)))
by_passes class.Digit b bs = number_passes (suc (length bs)) _ (value_of (b ∷ take (prefix_len digit bs) bs)) (omega arith) (front_fits (prefix_len digit bs) bs)
by_passes class.Blank b bs = (omega arith, omega arith)
by_passes class.LeftParen b bs = one_passes (length bs)
by_passes class.RightParen b bs = one_passes (length bs)
by_passes class.LeftBrace b bs = one_passes (length bs)
by_passes class.RightBrace b bs = one_passes (length bs)
by_passes class.Comma b bs = one_passes (length bs)
by_passes class.Semicolon b bs = one_passes (length bs)
by_passes class.Equals b bs = one_or_two_passes 61 _ _ bs
by_passes class.Plus b bs = one_passes (length bs)
by_passes class.Minus b bs = one_passes (length bs)
by_passes class.Star b bs = one_passes (length bs)
by_passes class.Dot b bs = one_passes (length bs)
by_passes class.Less b bs = one_or_two_passes 61 _ _ bs
by_passes class.Greater b bs = one_or_two_passes 61 _ _ bs
by_passes class.Bang b bs = one_or_two_passes 61 _ _ bs
by_passes class.Ampersand b bs = two_passes 38 _ bs
by_passes class.Pipe b bs = two_passes 124 _ bs
by_passes class.Slash b bs = slash_passes b bs
by_passes class.Other b bs = refl

front_passes : (bs : List ℕ) → Passes (length bs) (front bs)
unfolding front
front_passes [] = refl
front_passes (b ∷ bs) = by_passes (class_of b) b bs

pub gap_long : (bs : List ℕ) (k : ℕ) → front bs ≡ gap k → (0 < k) × (k ≤ length bs)
gap_long bs k e = subst (Passes (length bs)) e (front_passes bs)

pub found_long : (bs : List ℕ) (k : ℕ) (s : Symbol) → front bs ≡ found k s → (0 < k) × (k ≤ length bs)
found_long bs k s e = let h = subst (Passes (length bs)) e (front_passes bs) in (h.0, h.1)

pub found_goes_on : (bs : List ℕ) (k : ℕ) (s : Symbol) → front bs ≡ found k s → final s ≡ false
found_goes_on bs k s e = (subst (Passes (length bs)) e (front_passes bs)).2

pub stop_is_last : (bs : List ℕ) (s : Symbol) → front bs ≡ stop s → final s ≡ true
stop_is_last bs s e = subst (Passes (length bs)) e (front_passes bs)

-- what is left after a byte or more is shorter
drop_shorter : (k n : ℕ) (bs : List ℕ) → 0 < k → k ≤ length bs → length bs < suc n → length (drop k bs) < n
drop_shorter k n bs l h f = simp length-drop (omega arith)

-- turns beyond the length change nothing
pub enough_turns : (n m at : ℕ) (bs : List ℕ) → length bs < n → length bs < m → lexed_by n at bs ≡ lexed_by m at bs
unfolding lexed_by
enough_turns zero m at bs f g = absurd (omega arith)
enough_turns (suc n) zero at bs f g = absurd (omega arith)
enough_turns (suc n) (suc m) at bs f g = on (front bs) (front_passes bs) (enough_turns n m)
  where
    on : (w : Front) → Passes (length bs) w → ((at : ℕ) (bs : List ℕ) → length bs < n → length bs < m → lexed_by n at bs ≡ lexed_by m at bs) → items_by (λ k. lexed_by n (at + k) (drop k bs)) at w ≡ items_by (λ k. lexed_by m (at + k) (drop k bs)) at w
    on (gap k) (l, h) rec = rec (at + k) (drop k bs) (drop_shorter k n bs l h f) (drop_shorter k m bs l h g)
    on (found k s) (l, h, goes_on) rec = ap (λ is. item s at ∷ is) (rec (at + k) (drop k bs) (drop_shorter k n bs l h f) (drop_shorter k m bs l h g))
    on (stop s) h rec = refl

-- after k bytes the turns left are enough
rest_is : (at k : ℕ) (bs : List ℕ) → (0 < k) × (k ≤ length bs) → lexed_by (length bs) (at + k) (drop k bs) ≡ lexed (at + k) (drop k bs)
unfolding lexed
rest_is at k bs (l, h) = enough_turns (length bs) (suc (length (drop k bs))) (at + k) (drop k bs) (drop_shorter k (length bs) bs l h (omega arith)) (omega arith)

-- a turn, by what stands first
turn : (at : ℕ) (w : Front) (bs : List ℕ) → front bs ≡ w → lexed at bs ≡ items_by (λ k. lexed_by (length bs) (at + k) (drop k bs)) at w
unfolding lexed lexed_by
turn at w bs e = ap (items_by (λ k. lexed_by (length bs) (at + k) (drop k bs)) at) e

pub lexed_gap : (at k : ℕ) (bs : List ℕ) → front bs ≡ gap k → lexed at bs ≡ lexed (at + k) (drop k bs)
lexed_gap at k bs e = turn at (gap k) bs e ∙ rest_is at k bs (gap_long bs k e)

pub lexed_found : (at k : ℕ) (s : Symbol) (bs : List ℕ) → front bs ≡ found k s → lexed at bs ≡ item s at ∷ lexed (at + k) (drop k bs)
lexed_found at k s bs e = turn at (found k s) bs e ∙ ap (λ is. item s at ∷ is) (rest_is at k bs (found_long bs k s e))

pub lexed_stop : (at : ℕ) (s : Symbol) (bs : List ℕ) → front bs ≡ stop s → lexed at bs ≡ item s at ∷ []
lexed_stop at s bs e = turn at (stop s) bs e
