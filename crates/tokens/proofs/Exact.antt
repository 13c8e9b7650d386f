-- The items that are computed are those of the rules, and no others. Assumes nothing.
use Rattle.std.proofs.Common.{◌≡◌, ℕ, zero, suc, ◌+◌, ◌<◌, leb, List, [], ◌∷◌, ◌++◌, length, take, drop, Some, None, codes, Option, sym, refl, ap, ◌∙◌, subst, inl, inr, arith, length-append, length-drop, length-take-le}
use lib.Seq.{drop-append_seam, drop-append-add}
use Rattle.std.proofs.lemmas.Bool.{cond-true, cond-false, cases_Bool, leb-true, leb-false, lt-leb}
use Rattle.tokens.specs.declared.types.Trouble.TheVariants.{NoToken, OpenComment, LargeConstant}
use Rattle.tokens.specs.Spelling.{Symbol, name, constant, keyword, mark, end, trouble, Item, item}
use Rattle.tokens.specs.Lexing.{largest, Longest, Fits, Lexes, at_end, past_blank, past_comment, past_token, open_comment, large_constant, no_token}
use Rattle.tokens.specs.Scan.{closing, comment_by, gap, found, stop, front, lexed}
use Rattle.tokens.specs.declared.lexer.Lexer.{Lexer}
use Rattle.tokens.specs.State.{rest, Exact}
use Rattle.tokens.specs.Laws.{LexingIsExact}
use Rattle.tokens.proofs.Steps.{found_long, lexed_gap, lexed_found, lexed_stop}
use Rattle.tokens.proofs.Comments.{some_closed, some_within, some_closes, none_closes, closes_some, closes_none}
use Rattle.tokens.proofs.Spelled.{token_by}
use Rattle.tokens.proofs.Stands.{Stands, ended, blank_first, comment_first, token_first, nothing_first, front_stands, stands_front}

-- a token fits, or is a constant that is too large
data Sort (n : ℕ) (s : Symbol) : Type 0 where
  fits : Fits s → token_by n s ≡ found n s → Sort n s
  large : (v : ℕ) → s ≡ constant v → largest < v → token_by n s ≡ stop (trouble LargeConstant) → Sort n s

-- what is no constant fits
apart_fits : (s : Symbol) → ((v : ℕ) → s ≡ constant v → ◌≡◌ {A = ℕ} 0 1) → Fits s
apart_fits s h v e = let z = h v e in omega arith

sort : (n : ℕ) (s : Symbol) → Sort n s
sort n (name w) = fits (apart_fits (name w) (λ v e. cc)) refl
sort n (constant v) = elim (cases_Bool (leb v largest)) [
  | inl e ↦ fits (λ k is. let same : v ≡ k = cc in let l = leb-true v largest e in omega arith) (cond-true (leb v largest) _ _ e)
  | inr e ↦ large v refl (leb-false v largest e) (cond-false (leb v largest) _ _ e)
]
sort n (keyword k) = fits (apart_fits (keyword k) (λ v e. cc)) refl
sort n (mark m) = fits (apart_fits (mark m) (λ v e. cc)) refl
sort n end = fits (apart_fits end (λ v e. cc)) refl
sort n (trouble t) = fits (apart_fits (trouble t) (λ v e. cc)) refl

fits_token : (n : ℕ) (s : Symbol) → Fits s → token_by n s ≡ found n s
fits_token n s f = on (sort n s)
  where
    on : Sort n s → token_by n s ≡ found n s
    on (fits _ is) = is
    on (large v e l _) = let h = f v e in absurd (omega arith)

-- the items behind a token and behind a comment
token_items : (at : ℕ) (p rest bs : List ℕ) (s : Symbol) → bs ≡ p ++ rest → front bs ≡ found (length p) s → lexed at bs ≡ item s at ∷ lexed (at + length p) rest
token_items at p rest bs s e is = lexed_found at (length p) s bs is ∙ ap (λ l. item s at ∷ lexed (at + length p) l) (ap (drop (length p)) e ∙ drop-append_seam p rest)

comment_items : (at : ℕ) (body rest bs : List ℕ) → bs ≡ codes "/*" ++ (body ++ (codes "*/" ++ rest)) → front bs ≡ gap (length body + 4) → lexed at bs ≡ lexed (at + (length body + 4)) rest
comment_items at body rest bs e is =
    let long : length body + 4 ≡ suc (suc (length body + 2)) = omega arith in
    let left : drop (length body + 4) bs ≡ rest = ap (λ l. drop (length body + 4) l) e ∙ ap (λ k. drop k (codes "/*" ++ (body ++ (codes "*/" ++ rest)))) long ∙ drop-append-add body (codes "*/" ++ rest) 2 in
    lexed_gap at (length body + 4) bs is ∙ ap (lexed (at + (length body + 4))) left

abbrev SoundBelow : ℕ → Type 0
SoundBelow n = (at : ℕ) (bs : List ℕ) → length bs < n → Lexes at bs (lexed at bs)

-- each turn of the scan is a step of the rules
sound : (n : ℕ) → SoundBelow n
sound zero at bs f = absurd (omega arith)
sound (suc n) at bs f = on (front_stands bs) (sound n)
  where
    comment : (text : List ℕ) → bs ≡ codes "/*" ++ text → (o : Option ℕ) → closing text ≡ o → front bs ≡ comment_by o → SoundBelow n → Lexes at bs (lexed at bs)
    comment text e None c is rec = rw (lexed_stop at (trouble OpenComment) bs is, e) (open_comment at text (none_closes text c))
    comment text e (Some k) c is rec =
        let body = take k text in
        let rest = drop (k + 2) text in
        let within = some_within text k c in
        let long = length-take-le k text (omega arith) in
        let whole = e ∙ ap (λ l. codes "/*" ++ l) (some_closed text k c) in
        let less : length rest < n = simp length-drop (omega (arith, ap length e)) in
        rw (comment_items at body rest bs whole (is ∙ ap (λ m. gap (m + 4)) (sym long)), whole)
        (past_comment at body rest _ (some_closes text k c) (rec (at + (length body + 4)) rest less))

    token : (p rest : List ℕ) (s : Symbol) → bs ≡ p ++ rest → Longest p s rest → front bs ≡ token_by (length p) s → Sort (length p) s → SoundBelow n → Lexes at bs (lexed at bs)
    token p rest s e l is (fits h q) rec =
        let some = found_long bs (length p) s (is ∙ q) in
        rw (token_items at p rest bs s e (is ∙ q), e) (past_token at p rest s _ l h (rec (at + length p) rest (omega (arith, ap length e, length-append p rest))))
    token p rest s e l is (large v q h r) rec = rw (lexed_stop at (trouble LargeConstant) bs (is ∙ r), e) (large_constant at v p rest (subst (λ t. Longest p t rest) q l) h)

    on : Stands bs (front bs) → SoundBelow n → Lexes at bs (lexed at bs)
    on (ended e is) rec = rw (lexed_stop at end bs is, e) (at_end at)
    on (blank_first b rest e h is) rec = rw (lexed_gap at 1 bs is, e) (past_blank at b rest _ h (rec (at + 1) rest (omega (arith, ap length e))))
    on (comment_first text e is) rec = comment text e (closing text) refl is rec
    on (token_first p rest s e l is) rec = token p rest s e l is (sort (length p) s) rec
    on (nothing_first b rest e h is) rec = rw (lexed_stop at (trouble NoToken) bs is, e) (no_token at b rest h)

-- each step of the rules is a turn of the scan
complete : (at : ℕ) (bs : List ℕ) (items : List Item) → Lexes at bs items → items ≡ lexed at bs
complete at bs items (at_end _) = sym (lexed_stop at end [] (stands_front [] _ (ended refl refl)))
complete at bs items (past_blank _ b rest _ h d) =
    complete (at + 1) rest items d ∙ sym (lexed_gap at 1 (b ∷ rest) (stands_front (b ∷ rest) (gap 1) (blank_first b rest refl h refl)))
complete at bs items (past_comment _ body rest _ c d) =
    complete (at + (length body + 4)) rest items d
    ∙ sym (comment_items at body rest _ refl (stands_front _ _ (comment_first (body ++ (codes "*/" ++ rest)) refl (sym (ap comment_by (closes_some body rest c))))))
complete at bs items (past_token _ p rest s is l f d) =
    ap (λ is. item s at ∷ is) (complete (at + length p) rest is d)
    ∙ sym (token_items at p rest (p ++ rest) s refl (stands_front _ _ (token_first p rest s refl l (sym (fits_token (length p) s f)))))
complete at bs items (open_comment _ text h) = sym (lexed_stop at (trouble OpenComment) _ (stands_front _ _ (comment_first text refl (sym (ap comment_by (closes_none text h))))))
complete at bs items (large_constant _ n p rest l h) = sym (lexed_stop at (trouble LargeConstant) _ (stands_front (p ++ rest) _ (token_first p rest (constant n) refl l (sym (cond-false (leb n largest) _ _ (lt-leb n largest h))))))
complete at bs items (no_token _ b rest h) = sym (lexed_stop at (trouble NoToken) _ (stands_front (b ∷ rest) _ (nothing_first b rest refl h refl)))

pub is_exact : LexingIsExact
is_exact at bs = (sound (suc (length bs)) at bs (omega arith), complete at bs)

pub exactly : (l : Lexer) → Exact l
exactly l = let e = is_exact l.pos (rest l) in record { derived = e.0; only = e.1 }
