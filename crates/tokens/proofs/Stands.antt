-- What the rules let stand first in a text, and that the scan finds just that. Assumes nothing.
use Rattle.std.proofs.Common.{◌≡◌, ℕ, true, false, ◌⊎◌, List, [], ◌∷◌, ◌++◌, length, take, drop, Some, None, codes, Option, sym, refl, ap, ◌∙◌, subst, inl, inr, ⊎_elim, arith, length-append, take-append-drop}
use Rattle.std.proofs.lemmas.Bool.{cond_both, cond-true, cond-false, both_ways, eq-eqb}
use Rattle.std.proofs.lemmas.List.{append-nil, nil_from_length}
use Rattle.std.specs.List.{prefix_len}
use Rattle.byte_class.specs.Classes.{class_of, letter, digit, blank}
use Rattle.byte_class.specs.declared.Class.{Class}
use Rattle.byte_class.specs.declared.Class.TheVariants as class
use Rattle.byte_class.proofs.Says.{Says, class_says, letter_class, digit_class, blank_class}
use Rattle.tokens.specs.declared.types.Keyword.{Keyword}
use Rattle.tokens.specs.declared.types.Mark.{Mark}
use Rattle.tokens.specs.declared.types.Mark.TheVariants.{LeftParen, RightParen, LeftBrace, RightBrace, Comma, Semicolon, Assign, Plus, Minus, Star, Dot, Less, Greater, LessEqual, GreaterEqual, EqualEqual, NotEqual, Not, AndAnd, OrOr}
use Rattle.tokens.specs.declared.types.Trouble.TheVariants.{NoToken, LargeConstant}
use Rattle.tokens.specs.Spelling.{Symbol, constant, mark, end, trouble, mark_text, wordy, reading, Spells, a_mark, a_constant}
use Rattle.tokens.specs.Lexing.{Longest, NothingBegins}
use Rattle.tokens.specs.Scan.{starts, keyword_of, closing, Front, gap, found, stop, word_symbol, comment_by, one, one_or_two, two, front_by, front}
use Rattle.tokens.proofs.Comments.{starts_is}
use Rattle.tokens.proofs.Spelled.{token_by, Taken, spelled_front, spelled_taken, not_empty, starting, front_by_lem, number_token, all_run, run_longest, word_reach, number_reach, word_spells}

-- the rules, without the text after what stands first
pub data Stands (bs : List ℕ) (w : Front) : Type 0 where
  ended : bs ≡ [] → w ≡ stop end → Stands bs w
  blank_first : (b : ℕ) (rest : List ℕ) → bs ≡ b ∷ rest → blank b ≡ true → w ≡ gap 1 → Stands bs w
  comment_first : (text : List ℕ) → bs ≡ codes "/*" ++ text → w ≡ comment_by (closing text) → Stands bs w
  token_first : (p rest : List ℕ) (s : Symbol) → bs ≡ p ++ rest → Longest p s rest → w ≡ token_by (length p) s → Stands bs w
  nothing_first : (b : ℕ) (rest : List ℕ) → bs ≡ b ∷ rest → NothingBegins b rest → w ≡ stop (trouble NoToken) → Stands bs w

word_stands : (b : ℕ) (bs : List ℕ) → letter b ≡ true → Stands (b ∷ bs) (front_by class.Letter b bs)
word_stands b bs h = token_first w (drop n bs) (word_symbol w (keyword_of w)) (ap (λ l. b ∷ l) (sym (take-append-drop n bs))) (run_longest wordy b bs _ (word_spells b (take n bs) h (all_run wordy bs)) (word_reach b (letter_class b h))) (is (keyword_of w))
  where
    n : ℕ
    n = prefix_len wordy bs

    w : List ℕ
    w = b ∷ take n bs

    is : (o : Option Keyword) → found (length w) (word_symbol w o) ≡ token_by (length w) (word_symbol w o)
    is None = refl
    is (Some k) = refl

number_stands : (b : ℕ) (bs : List ℕ) → digit b ≡ true → Stands (b ∷ bs) (front_by class.Digit b bs)
number_stands b bs h = token_first w (drop n bs) (constant (reading w)) (ap (λ l. b ∷ l) (sym (take-append-drop n bs))) (run_longest digit b bs _ (a_constant b (take n bs) h (all_run digit bs)) (number_reach b (digit_class b h))) (number_token (length w) w)
  where
    n : ℕ
    n = prefix_len digit bs

    w : List ℕ
    w = b ∷ take n bs

-- a mark is the longest token if with more bytes after it the scan still finds it
mark_stands : (m : Mark) (p rest bs : List ℕ) → mark_text m ≡ p → bs ≡ p ++ rest → ((more after : List ℕ) → rest ≡ more ++ after → front (p ++ more) ≡ found (length p) (mark m)) → Stands bs (found (length p) (mark m))
mark_stands m p rest bs t e f = token_first p rest (mark m) e (record { spells = subst (λ l. Spells l (mark m)) t (a_mark m); longest = longest }) refl
  where
    longest : (more after : List ℕ) (s : Symbol) → rest ≡ more ++ after → Spells (p ++ more) s → more ≡ []
    longest more after s is h =
        let same : length p ≡ length (p ++ more) = subst (Taken (length (p ++ more))) (f more after is) (spelled_taken (p ++ more) s h) in
        nil_from_length more (omega (arith, length-append p more))

one_stands : (b : ℕ) (m : Mark) (bs : List ℕ) → mark_text m ≡ b ∷ [] → ((xs : List ℕ) → front (b ∷ xs) ≡ one m) → Stands (b ∷ bs) (one m)
one_stands b m bs t f = mark_stands m (b ∷ []) bs (b ∷ bs) t refl (λ more after _. f more)

-- a byte does not stand first in a front of what it does not stand first in
starts_less : (x : ℕ) (more after rest : List ℕ) → rest ≡ more ++ after → starts x rest ≡ false → starts x more ≡ false
starts_less x [] after rest e h = refl
starts_less x (b ∷ more) after rest e h = ap (starts x) (sym e) ∙ h

-- the mark of two bytes, where the second stands there
pair_stands : (b x : ℕ) (n : Mark) (bs : List ℕ) → mark_text n ≡ b ∷ x ∷ [] → ((xs : List ℕ) → starts x xs ≡ true → front (b ∷ xs) ≡ found 2 (mark n)) → starts x bs ≡ true → Stands (b ∷ bs) (found 2 (mark n))
pair_stands b x n bs t f h = mark_stands n (b ∷ x ∷ []) (drop 1 bs) (b ∷ bs) t (ap (λ l. b ∷ l) (starts_is x bs h)) (λ more after _. f (x ∷ more) (eq-eqb x x refl))

one_or_two_stands : (b x : ℕ) (m n : Mark) (bs : List ℕ) → mark_text m ≡ b ∷ [] → mark_text n ≡ b ∷ x ∷ [] → ((xs : List ℕ) → front (b ∷ xs) ≡ one_or_two x m n xs) → Stands (b ∷ bs) (one_or_two x m n bs)
one_or_two_stands b x m n bs t u f =
    cond_both (starts x bs) _ _ (Stands (b ∷ bs))
    (pair_stands b x n bs u (λ xs h. f xs ∙ cond-true (starts x xs) _ _ h))
    (λ h. mark_stands m (b ∷ []) bs (b ∷ bs) t refl (λ more after is. f more ∙ cond-false (starts x more) _ _ (starts_less x more after bs is h)))

-- nothing begins where the scan of each front finds no token
nothing_stands : (b : ℕ) (bs : List ℕ) → blank b ≡ false → ((after : List ℕ) → b ∷ bs ≡ codes "/*" ++ after → ⊥) → ((more after : List ℕ) → bs ≡ more ++ after → front (b ∷ more) ≡ stop (trouble NoToken)) → Stands (b ∷ bs) (stop (trouble NoToken))
nothing_stands b bs h c f = nothing_first b bs refl (record { no_blank = h; no_comment = c; no_token = none }) refl
  where
    none : (p after : List ℕ) (s : Symbol) → b ∷ bs ≡ p ++ after → Spells p s → ⊥
    none p after s e k =
        let (more, is, rest) = starting p after bs b s k e in
        let z : trouble NoToken ≡ trouble LargeConstant = subst (Taken (length p)) (ap front is ∙ f more after rest) (spelled_taken p s k) in
        let y : ◌≡◌ {A = ℕ} 0 1 = cc in
        omega arith

-- only a slash opens a comment
no_slash : (b : ℕ) (bs : List ℕ) → (b ≡ 47 → ⊥) → (after : List ℕ) → b ∷ bs ≡ codes "/*" ++ after → ⊥
no_slash b bs apart after e = apart (cc)

two_stands : (b x : ℕ) (n : Mark) (bs : List ℕ) → mark_text n ≡ b ∷ x ∷ [] → blank b ≡ false → (b ≡ 47 → ⊥) → ((xs : List ℕ) → front (b ∷ xs) ≡ two x n xs) → Stands (b ∷ bs) (two x n bs)
two_stands b x n bs t h c f =
    cond_both (starts x bs) _ _ (Stands (b ∷ bs))
    (pair_stands b x n bs t (λ xs h. f xs ∙ cond-true (starts x xs) _ _ h))
    (λ k. nothing_stands b bs h (no_slash b bs c) (λ more after is. f more ∙ cond-false (starts x more) _ _ (starts_less x more after bs is k)))

slash_stands : (bs : List ℕ) → Stands (47 ∷ bs) (front_by class.Slash 47 bs)
unfolding front
slash_stands bs =
    cond_both (starts 42 bs) _ _ (Stands (47 ∷ bs))
    (λ h. comment_first (drop 1 bs) (ap (λ l. 47 ∷ l) (starts_is 42 bs h)) refl)
    (λ h. nothing_stands 47 bs refl (λ after e. both_ways (starts 42 bs) h (let q : bs ≡ 42 ∷ after = cc in ap (starts 42) q)) (λ more after is. cond-false (starts 42 more) _ _ (starts_less 42 more after bs is h)))

other_apart : class.Slash ≡ class.Other → ⊥
other_apart e = let z : ◌≡◌ {A = ℕ} 0 1 = cc in omega arith

-- the byte of a class in place of a byte of that class
first_is : {w : Front} (b x : ℕ) (bs : List ℕ) → b ≡ x → Stands (x ∷ bs) w → Stands (b ∷ bs) w
first_is {w} b x bs e h = subst (λ c. Stands (c ∷ bs) w) (sym e) h

by_stands : (c : Class) (b : ℕ) (bs : List ℕ) → class_of b ≡ c → Says c b → Stands (b ∷ bs) (front_by c b bs)
unfolding front
by_stands class.Letter b bs q h = word_stands b bs h
by_stands class.Digit b bs q h = number_stands b bs h
by_stands class.Blank b bs q h = blank_first b bs refl h refl
by_stands class.LeftParen b bs q h = first_is b 40 bs h (one_stands 40 LeftParen bs refl (λ xs. refl))
by_stands class.RightParen b bs q h = first_is b 41 bs h (one_stands 41 RightParen bs refl (λ xs. refl))
by_stands class.LeftBrace b bs q h = first_is b 123 bs h (one_stands 123 LeftBrace bs refl (λ xs. refl))
by_stands class.RightBrace b bs q h = first_is b 125 bs h (one_stands 125 RightBrace bs refl (λ xs. refl))
by_stands class.Comma b bs q h = first_is b 44 bs h (one_stands 44 Comma bs refl (λ xs. refl))
by_stands class.Semicolon b bs q h = first_is b 59 bs h (one_stands 59 Semicolon bs refl (λ xs. refl))
by_stands class.Equals b bs q h = first_is b 61 bs h (one_or_two_stands 61 61 Assign EqualEqual bs refl refl (λ xs. refl))
by_stands class.Plus b bs q h = first_is b 43 bs h (one_stands 43 Plus bs refl (λ xs. refl))
by_stands class.Minus b bs q h = first_is b 45 bs h (one_stands 45 Minus bs refl (λ xs. refl))
by_stands class.Star b bs q h = first_is b 42 bs h (one_stands 42 Star bs refl (λ xs. refl))
by_stands class.Dot b bs q h = first_is b 46 bs h (one_stands 46 Dot bs refl (λ xs. refl))
by_stands class.Less b bs q h = first_is b 60 bs h (one_or_two_stands 60 61 Less LessEqual bs refl refl (λ xs. refl))
by_stands class.Greater b bs q h = first_is b 62 bs h (one_or_two_stands 62 61 Greater GreaterEqual bs refl refl (λ xs. refl))
by_stands class.Bang b bs q h = first_is b 33 bs h (one_or_two_stands 33 61 Not NotEqual bs refl refl (λ xs. refl))
by_stands class.Ampersand b bs q h = first_is b 38 bs h (two_stands 38 38 AndAnd bs refl refl (λ e. omega arith) (λ xs. refl))
by_stands class.Pipe b bs q h = first_is b 124 bs h (two_stands 124 124 OrOr bs refl refl (λ e. omega arith) (λ xs. refl))
by_stands class.Slash b bs q h = first_is b 47 bs h (slash_stands bs)
by_stands class.Other b bs q h = nothing_stands b bs h (no_slash b bs (λ e. other_apart (sym (ap class_of e) ∙ q))) (λ more after is. front_by_lem class.Other b more q)

-- what the scan finds first may stand there
pub front_stands : (bs : List ℕ) → Stands bs (front bs)
unfolding front
front_stands [] = ended refl refl
front_stands (b ∷ bs) = by_stands (class_of b) b bs refl (class_says b)

-- q goes on where p ends, with the first bytes of rest
abbrev Longer : (p rest q after : List ℕ) → Type 0
Longer p rest q after = (more : List ℕ) × (q ≡ p ++ more) × (rest ≡ more ++ after)

-- of two fronts of a text one is longer, or they are the same
append_cases : (p rest q after : List ℕ) → p ++ rest ≡ q ++ after → Longer p rest q after ⊎ Longer q after p rest
append_cases [] rest q after e = inl (q, refl, e)
append_cases (x ∷ p) rest [] after e = inr (x ∷ p, refl, sym e)
append_cases (x ∷ p) rest (y ∷ q) after e = on (append_cases p rest q after (cc))
  where
    on : Longer p rest q after ⊎ Longer q after p rest → Longer (x ∷ p) rest (y ∷ q) after ⊎ Longer (y ∷ q) after (x ∷ p) rest
    on (inl (more, is, r)) = inl (more, cc, r)
    on (inr (more, is, r)) = inr (more, cc, r)

-- a longest token is the front of no longer one
same_front : (p rest q after : List ℕ) (s t : Symbol) → Longest p s rest → Spells q t → Longer p rest q after → p ≡ q
same_front p rest q after s t l h (more, is, e) =
    let none = l.longest more after t e (subst (λ w. Spells w t) is h) in
    sym (is ∙ ap (λ m. p ++ m) none ∙ append-nil p)

-- a text has one longest token
same_token : (p rest q after : List ℕ) (s t : Symbol) → p ++ rest ≡ q ++ after → Longest p s rest → Longest q t after → token_by (length p) s ≡ token_by (length q) t
same_token p rest q after s t e l k =
    let is = ⊎_elim (same_front p rest q after s t l k.spells) (λ h. sym (same_front q after p rest t s k l.spells h)) (append_cases p rest q after e) in
    sym (spelled_front p s l.spells) ∙ ap front is ∙ spelled_front q t k.spells

-- no token begins with a slash
slash_not_taken : (n : ℕ) (more : List ℕ) → Taken n (front (47 ∷ more)) → ⊥
unfolding front
slash_not_taken n more = cond_both (starts 42 more) _ _ (λ w. Taken n w → ⊥) (λ e. by (closing (drop 1 more))) (λ e h. let z : ◌≡◌ {A = ℕ} 0 1 = cc in omega arith)
  where
    by : (o : Option ℕ) → Taken n (comment_by o) → ⊥
    by None h = let z : ◌≡◌ {A = ℕ} 0 1 = cc in omega arith
    by (Some k) h = h

token_only : (bs : List ℕ) (w : Front) → Stands bs w → (p rest : List ℕ) (s : Symbol) → bs ≡ p ++ rest → Longest p s rest → w ≡ token_by (length p) s
token_only bs w (ended e is) p rest s f l = absurd (not_empty p s l.spells (nil_from_length p (omega (arith, length-append p rest, ap length (sym f ∙ e)))))
token_only bs w (blank_first b after e h is) p rest s f l =
    let (more, q, r) = starting p rest after b s l.spells (sym e ∙ f) in
    absurd (subst (Taken (length p)) (ap front q ∙ front_by_lem class.Blank b more (blank_class b h)) (spelled_taken p s l.spells))
token_only bs w (comment_first text e is) p rest s f l =
    let (more, q, r) = starting p rest (42 ∷ text) 47 s l.spells (sym e ∙ f) in
    absurd (slash_not_taken (length p) more (subst (Taken (length p)) (ap front q) (spelled_taken p s l.spells)))
token_only bs w (token_first q after t e k is) p rest s f l = is ∙ same_token q after p rest t s (sym e ∙ f) k l
token_only bs w (nothing_first b after e h is) p rest s f l = absurd (h.no_token p rest s (sym e ∙ f) l.spells)

nothing_only : (bs : List ℕ) (w : Front) → Stands bs w → (b : ℕ) (rest : List ℕ) → bs ≡ b ∷ rest → NothingBegins b rest → w ≡ stop (trouble NoToken)
nothing_only bs w (ended e is) b rest f h = let z : ◌≡◌ {A = ℕ} 0 1 = cc in absurd (omega arith)
nothing_only bs w (blank_first c after e k is) b rest f h =
    let same : b ≡ c = cc in
    absurd (both_ways (blank b) h.no_blank (ap blank same ∙ k))
nothing_only bs w (comment_first text e is) b rest f h = absurd (h.no_comment text (sym f ∙ e))
nothing_only bs w (token_first p after s e l is) b rest f h = absurd (h.no_token p after s (sym f ∙ e) l.spells)
nothing_only bs w (nothing_first c after e k is) b rest f h = is

-- what may stand first is what the scan finds
pub stands_front : (bs : List ℕ) (w : Front) → Stands bs w → front bs ≡ w
unfolding front
stands_front bs w (ended e is) = ap front e ∙ sym is
stands_front bs w (blank_first b rest e h is) = ap front e ∙ front_by_lem class.Blank b rest (blank_class b h) ∙ sym is
stands_front bs w (comment_first text e is) = ap front e ∙ sym is
stands_front bs w (token_first p rest s e l is) = token_only bs (front bs) (front_stands bs) p rest s e l ∙ sym is
stands_front bs w (nothing_first b rest e h is) = nothing_only bs (front bs) (front_stands bs) b rest e h ∙ sym is
