-- What the scan finds at the front of the bytes of a token. Assumes nothing.
use Rattle.std.proofs.Common.{◌≡◌, ℕ, ◌+◌, suc, ◌≤◌, Bool, true, false, cond, leb, List, [], ◌∷◌, ◌++◌, length, take, drop, Some, None, Option, sym, refl, ap, ◌∙◌, subst, arith, length-append, take-append-drop, length-take}
use lib.Seq.{take-length}
use Rattle.std.specs.Str.{bytes_eq}
use Rattle.std.proofs.lemmas.Bool.{cond_both, cond-true}
use Rattle.std.proofs.lemmas.Slice.Eq.{bytes_eq-Decides}
use Rattle.std.proofs.lemmas.List.{append_assoc, nil_from_length}
use Rattle.std.specs.List.{find, prefix_len}
use Rattle.std.proofs.lemmas.List.Sums.{prefix_len-le-length}
use Rattle.byte_class.specs.Classes.{class_of, letter, digit}
use Rattle.byte_class.specs.declared.Class.{Class}
use Rattle.byte_class.specs.declared.Class.TheVariants as class
use Rattle.byte_class.proofs.Says.{letter_class, digit_class}
use Rattle.tokens.specs.declared.types.Keyword.{Keyword}
use Rattle.tokens.specs.declared.types.Keyword.TheVariants.{Mutable, Int, Ref, Q, If, Else, While, Free, Print, Return, Nil}
use Rattle.tokens.specs.declared.types.Mark.{Mark}
use Rattle.tokens.specs.declared.types.Mark.TheVariants.{LeftParen, RightParen, LeftBrace, RightBrace, Comma, Semicolon, Assign, Plus, Minus, Star, Dot, Less, Greater, LessEqual, GreaterEqual, EqualEqual, NotEqual, Not, AndAnd, OrOr}
use Rattle.tokens.specs.declared.types.Trouble.TheVariants.{LargeConstant}
use Rattle.tokens.specs.Spelling.{Symbol, name, constant, keyword, mark, end, trouble, keyword_text, mark_text, All, wordy, reading, Spells, a_keyword, a_mark, a_constant, a_name}
use Rattle.tokens.specs.Lexing.{largest, Longest}
use Rattle.tokens.specs.Scan.{keyword_of, keywords, value_of, Front, gap, found, stop, word_symbol, word, number_by, number, front_by, front}

-- what the scan makes of a token of n bytes
abbrev pub token_by : ℕ → Symbol → Front
token_by n (name w) = found n (name w)
token_by n (constant v) = cond (leb v largest) (found n (constant v)) (stop (trouble LargeConstant))
token_by n (keyword k) = found n (keyword k)
token_by n (mark m) = found n (mark m)
token_by n end = found n end
token_by n (trouble t) = found n (trouble t)

-- what stands first is a token, of n bytes if it is no constant that is too large
abbrev pub Taken : ℕ → Front → Type 0
Taken n (gap k) = ⊥
Taken n (found k s) = k ≡ n
Taken n (stop s) = s ≡ trouble LargeConstant

token_taken : (n : ℕ) (s : Symbol) → Taken n (token_by n s)
token_taken n (name w) = refl
token_taken n (constant v) = cond_both (leb v largest) _ _ (Taken n) (λ e. refl) (λ e. refl)
token_taken n (keyword k) = refl
token_taken n (mark m) = refl
token_taken n end = refl
token_taken n (trouble t) = refl

pub run_all : (p : ℕ → Bool) (bs : List ℕ) → All p bs → prefix_len p bs ≡ length bs
run_all p [] h = refl
run_all p (b ∷ bs) (here, h) = let on = cond-true (p b) (1 + prefix_len p bs) 0 here in let rest = run_all p bs h in omega arith

pub front_by_lem : (c : Class) (b : ℕ) (bs : List ℕ) → class_of b ≡ c → front (b ∷ bs) ≡ front_by c b bs
unfolding front
front_by_lem c b bs e = ap (λ d. front_by d b bs) e

-- a front of a list that goes as far as the list
take_run : (p : ℕ → Bool) (bs : List ℕ) → All p bs → take (prefix_len p bs) bs ≡ bs
take_run p bs h = ap (λ n. take n bs) (run_all p bs h) ∙ take-length bs

pub word_front : (b : ℕ) (bs : List ℕ) → letter b ≡ true → All wordy bs → front (b ∷ bs) ≡ word (b ∷ bs)
word_front b bs h a = front_by_lem class.Letter b bs (letter_class b h) ∙ ap (λ w. word (b ∷ w)) (take_run wordy bs a)

pub number_token : (n : ℕ) (ds : List ℕ) → number_by n (value_of ds) ≡ token_by n (constant (reading ds))
unfolding value_of
number_token n ds = on (reading ds) (leb (reading ds) largest)
  where
    on : (v : ℕ) (t : Bool) → number_by n (cond t (Some v) None) ≡ cond t (found n (constant v)) (stop (trouble LargeConstant))
    on v true = refl
    on v false = refl

number_front : (d : ℕ) (ds : List ℕ) → digit d ≡ true → All digit ds → front (d ∷ ds) ≡ token_by (length (d ∷ ds)) (constant (reading (d ∷ ds)))
number_front d ds h a = front_by_lem class.Digit d ds (digit_class d h) ∙ ap (λ w. number (d ∷ w)) (take_run digit ds a) ∙ number_token (length (d ∷ ds)) (d ∷ ds)

no_keyword : (ks : List Keyword) (bs : List ℕ) → ((k : Keyword) → bs ≡ keyword_text k → ⊥) → find (λ k. bytes_eq bs (keyword_text k)) ks ≡ None
no_keyword [] bs h = refl
no_keyword (k ∷ ks) bs h = cond_both (bytes_eq bs (keyword_text k)) (Some k) (find (λ j. bytes_eq bs (keyword_text j)) ks) (λ o. o ≡ None) (λ e. absurd (h k ((bytes_eq-Decides bs (keyword_text k)).0 e))) (λ e. no_keyword ks bs h)

name_front : (b : ℕ) (bs : List ℕ) → letter b ≡ true → All wordy bs → ((k : Keyword) → b ∷ bs ≡ keyword_text k → ⊥) → front (b ∷ bs) ≡ found (length (b ∷ bs)) (name (b ∷ bs))
unfolding keyword_of
name_front b bs h a apart = word_front b bs h a ∙ ap (λ o. found (length (b ∷ bs)) (word_symbol (b ∷ bs) o)) (no_keyword keywords (b ∷ bs) apart)

-- computed at each keyword and each mark
pub keyword_front : (k : Keyword) → front (keyword_text k) ≡ found (length (keyword_text k)) (keyword k)
unfolding front keyword_of
keyword_front Mutable = refl
keyword_front Int = refl
keyword_front Ref = refl
keyword_front Q = refl
keyword_front If = refl
keyword_front Else = refl
keyword_front While = refl
keyword_front Free = refl
keyword_front Print = refl
keyword_front Return = refl
keyword_front Nil = refl

mark_front : (m : Mark) → front (mark_text m) ≡ found (length (mark_text m)) (mark m)
unfolding front
mark_front LeftParen = refl
mark_front RightParen = refl
mark_front LeftBrace = refl
mark_front RightBrace = refl
mark_front Comma = refl
mark_front Semicolon = refl
mark_front Assign = refl
mark_front Plus = refl
mark_front Minus = refl
mark_front Star = refl
mark_front Dot = refl
mark_front Less = refl
mark_front Greater = refl
mark_front LessEqual = refl
mark_front GreaterEqual = refl
mark_front EqualEqual = refl
mark_front NotEqual = refl
mark_front Not = refl
mark_front AndAnd = refl
mark_front OrOr = refl

-- the bytes of a token, alone, are scanned as that token
pub spelled_front : (bs : List ℕ) (s : Symbol) → Spells bs s → front bs ≡ token_by (length bs) s
spelled_front bs s (a_keyword k) = keyword_front k
spelled_front bs s (a_mark m) = mark_front m
spelled_front bs s (a_constant d ds h a) = number_front d ds h a
spelled_front bs s (a_name b cs h a apart) = name_front b cs h a apart

pub spelled_taken : (bs : List ℕ) (s : Symbol) → Spells bs s → Taken (length bs) (front bs)
spelled_taken bs s h = subst (Taken (length bs)) (sym (spelled_front bs s h)) (token_taken (length bs) s)

pub not_empty : (p : List ℕ) (s : Symbol) → Spells p s → p ≡ [] → ⊥
unfolding front
not_empty p s h e =
    let end_taken : end ≡ trouble LargeConstant = subst (λ bs. Taken (length bs) (front bs)) e (spelled_taken p s h) in
    let z : ◌≡◌ {A = ℕ} 0 1 = cc in
    omega arith

-- what begins with a token's bytes begins with its first byte
pub starting : (p rest bs : List ℕ) (b : ℕ) (s : Symbol) → Spells p s → b ∷ bs ≡ p ++ rest → (more : List ℕ) × (p ≡ b ∷ more) × (bs ≡ more ++ rest)
starting [] rest bs b s h e = absurd (not_empty [] s h refl)
starting (c ∷ more) rest bs b s h e = (more, cc, cc)

pub all_run : (p : ℕ → Bool) (bs : List ℕ) → All p (take (prefix_len p bs) bs)
all_run p [] = tt
all_run p (b ∷ bs) = cond_both (p b) _ _ (λ n. All p (take n (b ∷ bs))) (λ e. let more : suc (prefix_len p bs) ≡ 1 + prefix_len p bs = omega arith in subst (λ n. All p (take n (b ∷ bs))) more (e, all_run p bs)) (λ e. tt)

-- a run goes no less far where more bytes follow
run_grows : (p : ℕ → Bool) (xs ys : List ℕ) → prefix_len p xs ≤ prefix_len p (xs ++ ys)
run_grows p [] ys = omega arith
run_grows p (x ∷ xs) ys = on (p x) (run_grows p xs ys)
  where
    on : (t : Bool) → prefix_len p xs ≤ prefix_len p (xs ++ ys) → cond t (1 + prefix_len p xs) 0 ≤ cond t (1 + prefix_len p (xs ++ ys)) 0
    on true h = omega arith
    on false h = omega arith

-- the run of a text is its longest front of which all but the first byte pass the test
pub run_longest : (p : ℕ → Bool) (b : ℕ) (bs : List ℕ) (s : Symbol) → Spells (b ∷ take (prefix_len p bs) bs) s → ((xs : List ℕ) (t : Symbol) → Spells (b ∷ xs) t → length xs ≤ prefix_len p xs) → Longest (b ∷ take (prefix_len p bs) bs) s (drop (prefix_len p bs) bs)
run_longest p b bs s h reach = record { spells = h; longest = λ more after t e k. ends more after e (reach (take (prefix_len p bs) bs ++ more) t k) }
  where
    ends : (more after : List ℕ) → drop (prefix_len p bs) bs ≡ more ++ after → length (take (prefix_len p bs) bs ++ more) ≤ prefix_len p (take (prefix_len p bs) bs ++ more) → more ≡ []
    ends more after e l =
        let whole : (take (prefix_len p bs) bs ++ more) ++ after ≡ bs = append_assoc (take (prefix_len p bs) bs) more after ∙ ap (λ r. take (prefix_len p bs) bs ++ r) (sym e) ∙ take-append-drop (prefix_len p bs) bs in
        let g : prefix_len p (take (prefix_len p bs) bs ++ more) ≤ prefix_len p bs = rw whole at (run_grows p (take (prefix_len p bs) bs ++ more) after) in
        let f = prefix_len-le-length p bs in
        nil_from_length more (omega (arith, length-append (take (prefix_len p bs) bs) more, length-take (prefix_len p bs) bs))

-- a token that begins with a letter is letters and digits
pub word_reach : (b : ℕ) → class_of b ≡ class.Letter → (xs : List ℕ) (t : Symbol) → Spells (b ∷ xs) t → length xs ≤ prefix_len wordy xs
word_reach b c xs t h =
    let e : suc (length (take (prefix_len wordy xs) xs)) ≡ suc (length xs) = subst (Taken (suc (length xs))) (front_by_lem class.Letter b xs c) (spelled_taken (b ∷ xs) t h) in
    omega (arith, length-take (prefix_len wordy xs) xs)

number_found : (n k : ℕ) (o : Option ℕ) (s : Symbol) → number_by n o ≡ found k s → ((v : ℕ) → s ≡ constant v → ⊥) → ⊥
number_found n k None s e h = let z : ◌≡◌ {A = ℕ} 0 1 = cc in omega arith
number_found n k (Some v) s e h = h v (cc)

-- a token that begins with a digit is digits
pub number_reach : (b : ℕ) → class_of b ≡ class.Digit → (xs : List ℕ) (t : Symbol) → Spells (b ∷ xs) t → length xs ≤ prefix_len digit xs
number_reach b c xs t h = on (b ∷ xs) t h refl
  where
    other : (ds : List ℕ) (n : ℕ) (s : Symbol) → front ds ≡ found n s → ds ≡ b ∷ xs → ((v : ℕ) → s ≡ constant v → ⊥) → length xs ≤ prefix_len digit xs
    other ds n s f e apart = absurd (number_found _ n (value_of (b ∷ take (prefix_len digit xs) xs)) s (sym (front_by_lem class.Digit b xs c) ∙ ap front (sym e) ∙ f) apart)

    on : (ds : List ℕ) (s : Symbol) → Spells ds s → ds ≡ b ∷ xs → length xs ≤ prefix_len digit xs
    on ds s (a_keyword k) e = other (keyword_text k) _ _ (keyword_front k) e (λ v q. let z : ◌≡◌ {A = ℕ} 0 1 = cc in omega arith)
    on ds s (a_mark m) e = other (mark_text m) _ _ (mark_front m) e (λ v q. let z : ◌≡◌ {A = ℕ} 0 1 = cc in omega arith)
    on ds s (a_constant d cs h a) e =
        let tails : cs ≡ xs = cc in
        let l = run_all digit cs a in
        let r : prefix_len digit xs ≡ length xs = rw tails at l in
        omega arith
    on ds s (a_name d cs h a apart) e = other (d ∷ cs) _ _ (name_front d cs h a apart) e (λ v q. let z : ◌≡◌ {A = ℕ} 0 1 = cc in omega arith)

abbrev Named : List ℕ → Option Keyword → Type 0
Named bs None = Unit {0}
Named bs (Some k) = bs ≡ keyword_text k

among_named : (ks : List Keyword) (bs : List ℕ) → Named bs (find (λ k. bytes_eq bs (keyword_text k)) ks)
among_named [] bs = tt
among_named (k ∷ ks) bs = cond_both (bytes_eq bs (keyword_text k)) (Some k) (find (λ j. bytes_eq bs (keyword_text j)) ks) (Named bs) (λ e. (bytes_eq-Decides bs (keyword_text k)).0 e) (λ e. among_named ks bs)

-- a letter with letters and digits after it is a keyword or a name
pub word_spells : (b : ℕ) (bs : List ℕ) → letter b ≡ true → All wordy bs → Spells (b ∷ bs) (word_symbol (b ∷ bs) (keyword_of (b ∷ bs)))
unfolding keyword_of
word_spells b bs h a = on (keyword_of (b ∷ bs)) refl (among_named keywords (b ∷ bs))
  where
    on : (o : Option Keyword) → keyword_of (b ∷ bs) ≡ o → Named (b ∷ bs) o → Spells (b ∷ bs) (word_symbol (b ∷ bs) o)
    on None e is = a_name b bs h a (λ k q.
        let f : found (length (b ∷ bs)) (word_symbol (b ∷ bs) None) ≡ found (length (keyword_text k)) (keyword k) = ap (λ o. found (length (b ∷ bs)) (word_symbol (b ∷ bs) o)) (sym e) ∙ sym (word_front b bs h a) ∙ ap front q ∙ keyword_front k in
        let z : ◌≡◌ {A = ℕ} 0 1 = cc in omega arith)
    on (Some k) e is = subst (λ w. Spells w (keyword k)) (sym is) (a_keyword k)
