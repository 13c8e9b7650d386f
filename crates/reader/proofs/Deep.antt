-- Depths at which no token may stand: there an expression is refused at its first token, whatever the depth. Assumes nothing.
use Rattle.std.proofs.Common.{◌≡◌, ℕ, suc, ◌<◌, Bool, true, false, cond, sym, refl, ap, ◌∙◌, subst, ⊎_elim, add-one, arith}
use Rattle.std.proofs.lemmas.Bool.{lt-ltb, cases_lt}
use Rattle.script.specs.Flat.{flat}
use Rattle.tokens.specs.declared.types.Mark.TheVariants.{LeftParen, Minus}
use Rattle.tokens.specs.declared.types.Keyword.TheVariants.{Nil}
use Rattle.tokens.specs.Spelling.{Item, mark, keyword}
use Rattle.grammar.specs.Combine.{Why, why_bad, why_deep, out_fail, Parser, kind_at, is, on}
use Rattle.grammar.specs.Parse.{expression, is_constant, is_name}
use Rattle.reader.specs.declared.refusal.ReadRefusal.{ReadRefusal}
use Rattle.reader.specs.declared.cursor.Cursor.{Cursor}
use Rattle.reader.specs.declared.code.Code.{Code}
use Rattle.reader.specs.declared.code.Thing.{Thing}
use Rattle.reader.specs.Cursor.{left}
use Rattle.reader.specs.Reading.{Passed, NotPassed, too_deep, too_many}
use Rattle.reader.specs.Terms.{Deeper, Went, Stops, Gave, levels, flat_got, got_is}
use Rattle.reader.proofs.Steps.{from_fail}
use Rattle.reader.proofs.Forms.{operand_step}

on_deep : {X : Type 0} (d : ℕ) (c : Cursor) (test : ℕ → Bool) (p : Item → Parser X) (q : Parser X) {w : Why} → 64 < d → q (left c) ≡ out_fail (left c) w → on d test p q (left c) ≡ out_fail (left c) (cond (test (kind_at (left c))) why_deep w)
unfolding on
on_deep d c test p q {w} l h = by (test (kind_at (left c))) refl
  where
    by : (b : Bool) → test (kind_at (left c)) ≡ b → on d test p q (left c) ≡ out_fail (left c) (cond b why_deep w)
    by true e = rw (e, lt-ltb 64 d l) refl
    by false e = rw e h

deep_why : ℕ → Why
deep_why k = cond (is_constant k) why_deep (cond (is_name k) why_deep (cond (is (keyword Nil) k) why_deep (cond (is (mark Minus) k) why_deep (cond (is (mark LeftParen) k) why_deep why_bad))))

deep_expression : (g d : ℕ) (c : Cursor) → 64 < d → expression (suc g) d (left c) ≡ out_fail (left c) (deep_why (kind_at (left c)))
unfolding deep_why
deep_expression g d c l =
    from_fail _ _ _ (from_fail _ _ _ (from_fail _ _ _ (operand_step g d (left c)
    ∙ on_deep d c _ _ _ l (on_deep d c _ _ _ l (on_deep d c _ _ _ l (on_deep d c _ _ _ l (on_deep d c _ _ _ l refl)))))))

-- what holds one deeper by the code's count holds at the next depth
module _ {d e : ℕ} (deeper : Deeper d e) where
  one_more : {A : Type 0} → (e ≡ suc d → A) → (64 < e → 64 < suc d → A) → A
  one_more near far = ⊎_elim (λ l. near (deeper.next l ∙ add-one d)) (λ l. far (deeper.beyond l) (omega arith)) (cases_lt d 64)

  pub passed_in : {c b : Cursor} → Passed e c b → Passed (suc d) c b
  passed_in {c} {b} h = one_more (λ q. subst (λ d. Passed d c b) q h) (λ l m. absurd (omega (arith, h.deep)))

  pub stuck_in : {c : Cursor} {r : ReadRefusal} → NotPassed e c r → NotPassed (suc d) c r
  stuck_in {c} {r} (too_deep l t) = one_more (λ q. subst (λ d. NotPassed d c r) q (too_deep l t)) (λ k m. too_deep m t)
  stuck_in {c} {r} (too_many l m t) = one_more (λ q. subst (λ d. NotPassed d c r) q (too_many l m t)) (λ k n. absurd (omega arith))

  same : (c : Cursor) (g : ℕ) → expression (suc g) (suc d) (left c) ≡ levels false 3 g e (left c)
  same c g = one_more (λ q. ap (λ d. expression (suc g) d (left c)) (sym q)) (λ l m. deep_expression g (suc d) c m ∙ sym (deep_expression g e c l))

  pub stops_in : {c : Cursor} {r : ReadRefusal} → Stops (λ g. levels false 3 g e) c r → Stops (λ g. expression (suc g) (suc d)) c r
  stops_in {c} k = record { rest = k.rest; why = k.why; is = λ g l. same c g ∙ k.is g l; told = k.told }

  pub went_in : {c b : Cursor} {o p : Code} {y : Thing} → Gave 0 (λ g. levels false 3 g e) (flat_got false) (got_is false) c b o p y → Went 0 (λ g. expression (suc g) (suc d)) flat c b o p
  went_in {c} k = let w = k.went in record { tree = w.tree; is = λ g l. same c g ∙ w.is g l; code = w.code; moved = w.moved; some = w.some }
