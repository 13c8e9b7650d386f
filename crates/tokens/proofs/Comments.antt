-- Where a comment closes: the search for the first closing, and what the rules say of it. Assumes nothing.
use Rattle.std.proofs.Common.{◌≡◌, ℕ, suc, ◌+◌, ◌≤◌, true, ◌&&◌, eqb, List, [], ◌∷◌, ◌++◌, length, take, drop, Some, None, codes, Option, sym, refl, ap, ◌∙◌, subst, suc-add, one-add, arith, length-append, length-drop, length-take}
use Rattle.std.proofs.lemmas.Bool.{cond_both, and_parts, eqb-true}
use Rattle.tokens.specs.Lexing.{Closes, NeverCloses}
use Rattle.tokens.specs.Scan.{starts, later, closing}

-- a byte that stands first, and the others
pub starts_is : (x : ℕ) (bs : List ℕ) → starts x bs ≡ true → bs ≡ x ∷ drop 1 bs
starts_is x [] h = let z : ◌≡◌ {A = ℕ} 0 1 = cc in absurd (omega arith)
starts_is x (b ∷ bs) h = ap (λ c. c ∷ bs) (eqb-true b x h)

-- a text that is closed after n bytes
abbrev Closed : List ℕ → Option ℕ → Type 0
Closed bs None = Unit {0}
Closed bs (Some n) = bs ≡ take n bs ++ (codes "*/" ++ drop (n + 2) bs)

closed_later : (b : ℕ) (bs : List ℕ) (o : Option ℕ) → Closed bs o → Closed (b ∷ bs) (later 1 o)
closed_later b bs None h = tt
closed_later b bs (Some n) h = rw (one-add n, suc-add n 2) (ap (λ l. b ∷ l) h)

closing_closed : (bs : List ℕ) → Closed bs (closing bs)
unfolding closing
closing_closed [] = tt
closing_closed (b ∷ bs) =
    cond_both (eqb b 42 && starts 47 bs) (Some 0) (later 1 (closing bs)) (Closed (b ∷ bs))
    (λ e. let h = and_parts (eqb b 42) (starts 47 bs) e in ap (λ c. c ∷ bs) (eqb-true b 42 h.0) ∙ ap (λ l. 42 ∷ l) (starts_is 47 bs h.1))
    (λ e. closed_later b bs (closing bs) (closing_closed bs))

-- some place, no further than n
abbrev UpTo : ℕ → Option ℕ → Type 0
UpTo n None = ⊥
UpTo n (Some k) = k ≤ n

later_upto : (n : ℕ) (o : Option ℕ) → UpTo n o → UpTo (suc n) (later 1 o)
later_upto n None h = h
later_upto n (Some k) h = omega arith

-- the first closing stands no later than any other
closing_first : (x y : List ℕ) → UpTo (length x) (closing (x ++ (codes "*/" ++ y)))
unfolding closing
closing_first [] y = omega arith
closing_first (b ∷ x) y =
    let bs = x ++ (codes "*/" ++ y) in
    cond_both (eqb b 42 && starts 47 bs) (Some 0) (later 1 (closing bs)) (UpTo (suc (length x)))
    (λ e. omega arith)
    (λ e. later_upto (length x) (closing bs) (closing_first x y))

closed_first : (bs x y : List ℕ) → bs ≡ x ++ (codes "*/" ++ y) → UpTo (length x) (closing bs)
closed_first bs x y is = subst (λ l. UpTo (length x) (closing l)) (sym is) (closing_first x y)

pub some_closed : (bs : List ℕ) (n : ℕ) → closing bs ≡ Some n → bs ≡ take n bs ++ (codes "*/" ++ drop (n + 2) bs)
some_closed bs n e = subst (Closed bs) e (closing_closed bs)

-- the closing and what stands before it are part of the text
pub some_within : (bs : List ℕ) (n : ℕ) → closing bs ≡ Some n → n + 2 ≤ length bs
some_within bs n e = omega (arith, simp (length-append, length-take, length-drop) at (ap length (some_closed bs n e)))

pub some_closes : (bs : List ℕ) (n : ℕ) → closing bs ≡ Some n → Closes (take n bs) (drop (n + 2) bs)
some_closes bs n e x y is =
    let h : n ≤ length x = subst (UpTo (length x)) e (closed_first bs x y (some_closed bs n e ∙ is)) in
    simp length-take (omega arith)

pub none_closes : (bs : List ℕ) → closing bs ≡ None → NeverCloses bs
none_closes bs e x y is = subst (UpTo (length x)) e (closed_first bs x y is)

pub closes_none : (bs : List ℕ) → NeverCloses bs → closing bs ≡ None
closes_none bs h = on (closing bs) refl
  where
    on : (o : Option ℕ) → closing bs ≡ o → o ≡ None
    on None e = refl
    on (Some n) e = absurd (h _ _ (some_closed bs n e))

pub closes_some : (body rest : List ℕ) → Closes body rest → closing (body ++ (codes "*/" ++ rest)) ≡ Some (length body)
closes_some body rest h = on (closing bs) refl (closing_first body rest)
  where
    bs : List ℕ
    bs = body ++ (codes "*/" ++ rest)

    on : (o : Option ℕ) → closing bs ≡ o → UpTo (length body) o → o ≡ Some (length body)
    on None e l = absurd l
    on (Some n) e l =
        let f = h (take n bs) (drop (n + 2) bs) (some_closed bs n e) in
        let g = length-take n bs in
        let is : n ≡ length body = omega arith in
        ap Some is
