-- A word is compared with the keywords of its own length alone. Assumes nothing.
use Rattle.std.proofs.Common.{◌≡◌, ◌≢◌, ℕ, ◌==◌, Bool, true, false, cond, List, [], ◌∷◌, ◌++◌, length, Option, Some, sym, refl, ap, ◌∙◌, ⊎_elim}
use Rattle.std.specs.List.{find, filter}
use Rattle.std.specs.Option.{option_or}
use Rattle.std.specs.Str.{bytes_eq}
use Rattle.std.proofs.lemmas.Bool.{cases_Bool, true≢false, eq-eqb, ne_eqb}
use Rattle.std.proofs.lemmas.List.Folds.{find-append}
use Rattle.std.proofs.lemmas.Slice.Eq.{bytes_eq-Decides}
use Rattle.tokens.specs.declared.types.Keyword.{Keyword}
use Rattle.tokens.specs.declared.types.Keyword.TheVariants.{Mutable, Int, Ref, Q, If, Else, While, Free, Print, Return, Nil}
use Rattle.tokens.specs.Spelling.{keyword_text}
use Rattle.tokens.specs.Scan.{keywords, keyword_of}

-- the keywords that so many bytes spell
abbrev pub keywords_of : ℕ → List Keyword
keywords_of n = filter (λ k. length (keyword_text k) == n) keywords

-- the first item that passes a test is among those that pass a weaker one
find_weaker : {X : Type 0} (p q : X → Bool) → ((x : X) → p x ≡ true → q x ≡ true) → (xs : List X) → find p (filter q xs) ≡ find p xs
find_weaker p q h [] = refl
find_weaker p q h (x ∷ xs) =
    let on = find_weaker p q h xs in
    ⊎_elim
    (λ e. ap (λ b. find p (cond b (x ∷ filter q xs) (filter q xs))) e ∙ ap (cond (p x) (Some x)) on)
    (λ e.
    let fails : p x ≡ false = ⊎_elim (λ t. absurd (true≢false (sym (h x t) ∙ e))) (λ f. f) (cases_Bool (p x)) in
    ap (λ b. find p (cond b (x ∷ filter q xs) (filter q xs))) e ∙ on ∙ sym (ap (λ b. cond b (Some x) (find p xs)) fails))
    (cases_Bool (q x))

pub keyword_found : (bs : List ℕ) → find (λ k. bytes_eq bs (keyword_text k)) (keywords_of (length bs)) ≡ keyword_of bs
unfolding keyword_of
keyword_found bs =
    find_weaker (λ k. bytes_eq bs (keyword_text k)) (λ k. length (keyword_text k) == length bs) (λ k e. eq-eqb _ _ (ap length (sym ((bytes_eq-Decides bs (keyword_text k)).0 e)))) keywords

-- what is found among the keywords of the word's length is what is found among all
pub keyword_by_length : (bs : List ℕ) (n : ℕ) (r : Option Keyword) → length bs ≡ n → r ≡ find (λ k. bytes_eq bs (keyword_text k)) (keywords_of n) → r ≡ keyword_of bs
keyword_by_length bs n r long is = is ∙ ap (λ n. find (λ k. bytes_eq bs (keyword_text k)) (keywords_of n)) (sym long) ∙ keyword_found bs

-- what is found among some keywords, or else among others
pub among_either : (bs : List ℕ) (ks ls : List Keyword) (r s t : Option Keyword) → r ≡ find (λ k. bytes_eq bs (keyword_text k)) ks → s ≡ find (λ k. bytes_eq bs (keyword_text k)) ls → t ≡ option_or r s → t ≡ find (λ k. bytes_eq bs (keyword_text k)) (ks ++ ls)
among_either bs ks ls r s t one other is =
    is
    ∙ ap (λ o. option_or o s) one
    ∙ ap (option_or (find (λ k. bytes_eq bs (keyword_text k)) ks)) other
    ∙ sym (find-append (λ k. bytes_eq bs (keyword_text k)) ks ls)

-- nothing passes a test that all items fail
filter_nothing : {X : Type 0} (q : X → Bool) → ((x : X) → q x ≡ false) → (xs : List X) → filter q xs ≡ []
filter_nothing q none [] = refl
filter_nothing q none (x ∷ xs) = ap (λ b. cond b (x ∷ filter q xs) (filter q xs)) (none x) ∙ filter_nothing q none xs

-- no keyword has another length
pub keywords_none : (n : ℕ) → n ≢ 1 → n ≢ 2 → n ≢ 3 → n ≢ 4 → n ≢ 5 → n ≢ 6 → n ≢ 7 → keywords_of n ≡ []
keywords_none n one two three four five six seven = filter_nothing (λ k. length (keyword_text k) == n) other keywords
  where
    no : (k : ℕ) → n ≢ k → (k == n) ≡ false
    no k h = ne_eqb k n (λ e. h (sym e))

    other : (k : Keyword) → (length (keyword_text k) == n) ≡ false
    other Mutable = no 7 seven
    other Int = no 3 three
    other Ref = no 3 three
    other Q = no 1 one
    other If = no 2 two
    other Else = no 4 four
    other While = no 5 five
    other Free = no 4 four
    other Print = no 5 five
    other Return = no 6 six
    other Nil = no 3 three
