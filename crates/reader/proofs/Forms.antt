-- The forms of operands, levels and conditions. Assumes nothing.
use Rattle.std.proofs.Common.{◌≡◌, ℕ, zero, suc, ◌-◌, ◌<◌, ◌≤◌, Bool, true, false, List, sym, refl, sub-one, arith}
use Rattle.script.specs.Tree.{Expr, Cond}
use Rattle.script.specs.Flat.{flat, flat_cond}
use Rattle.grammar.specs.Tokens.{Tok}
use Rattle.grammar.specs.Combine.{Why, out_done, out_fail, Parser, after, from}
use Rattle.grammar.specs.Parse.{thing_expr, thing_cond, Got, got, Found, found, goes, holds, operand, negation, negation_by, expression, tested}
use Rattle.reader.specs.declared.code.Thing.TheVariants.{Expression, Condition}
use Rattle.reader.specs.Terms.{flat_got, got_is, flat_found, found_is, operands, levels, chained, conditions, joining_on}
use Rattle.reader.proofs.Steps.{after_done, after_fail}

-- what is got as an expression, and what is found as a condition
pub flat_got_lem : (m : Bool) (x : Expr) → flat_got m (got m x) ≡ flat x
flat_got_lem true x = refl
flat_got_lem false x = refl

pub is_got : (m : Bool) (x : Expr) → Expression ≡ got_is m (got m x)
is_got true x = refl
is_got false x = refl

pub flat_found_lem : (m : Bool) (x : Cond) → flat_found m (found m x) ≡ flat_cond x
flat_found_lem true x = refl
flat_found_lem false x = refl

pub is_found : (m : Bool) (x : Cond) → Condition ≡ found_is m (found m x)
is_found true x = refl
is_found false x = refl

never : Expression ≡ Condition → ⊥
never h = cc

pub as_expression : (m : Bool) (t : Got m) → Expression ≡ got_is m t → (x : Expr) × (t ≡ got m x)
as_expression true (thing_expr x) h = (x, refl)
as_expression true (thing_cond x) h = absurd (never h)
as_expression false x h = (x, refl)

pub as_condition : (m : Bool) (t : Found m) → Condition ≡ found_is m t → (x : Cond) × (t ≡ found m x)
as_condition true x h = (x, refl)
as_condition false (thing_cond x) h = (x, refl)
as_condition false (thing_expr x) h = absurd (never (sym h))

-- a chain goes on after what it may go on after, and anything else stays
module _ (m : Bool) (k : Expr → Parser Expr) (x : Expr) (ts : List Tok) where
  pub goes_done : {y : Expr} {us : List Tok} → k x ts ≡ out_done y us → goes m k (got m x) ts ≡ out_done (got m y) us
  goes_done = goes_done_by m
    where
      goes_done_by : (m : Bool) {y : Expr} {us : List Tok} → k x ts ≡ out_done y us → goes m k (got m x) ts ≡ out_done (got m y) us
      goes_done_by true h = after_done _ _ _ h
      goes_done_by false h = h

  pub goes_fail : {us : List Tok} {w : Why} → k x ts ≡ out_fail us w → goes m k (got m x) ts ≡ out_fail us w
  goes_fail = goes_fail_by m
    where
      goes_fail_by : (m : Bool) {us : List Tok} {w : Why} → k x ts ≡ out_fail us w → goes m k (got m x) ts ≡ out_fail us w
      goes_fail_by true h = after_fail _ _ _ h
      goes_fail_by false h = h

pub goes_stays : (m : Bool) (k : Expr → Parser Expr) (t : Got m) (ts : List Tok) → Condition ≡ got_is m t → goes m k t ts ≡ out_done t ts
goes_stays true k (thing_expr x) ts h = absurd (never (sym h))
goes_stays true k (thing_cond x) ts h = refl
goes_stays false k x ts h = absurd (never (sym h))

module _ (m : Bool) (k : Cond → Parser Cond) (x : Cond) (ts : List Tok) where
  pub holds_done : {y : Cond} {us : List Tok} → k x ts ≡ out_done y us → holds m k (found m x) ts ≡ out_done (found m y) us
  holds_done = holds_done_by m
    where
      holds_done_by : (m : Bool) {y : Cond} {us : List Tok} → k x ts ≡ out_done y us → holds m k (found m x) ts ≡ out_done (found m y) us
      holds_done_by true h = h
      holds_done_by false h = after_done _ _ _ h

  pub holds_fail : {us : List Tok} {w : Why} → k x ts ≡ out_fail us w → holds m k (found m x) ts ≡ out_fail us w
  holds_fail = holds_fail_by m
    where
      holds_fail_by : (m : Bool) {us : List Tok} {w : Why} → k x ts ≡ out_fail us w → holds m k (found m x) ts ≡ out_fail us w
      holds_fail_by true h = h
      holds_fail_by false h = after_fail _ _ _ h

pub holds_stays : (m : Bool) (k : Cond → Parser Cond) (t : Found m) (ts : List Tok) → Expression ≡ found_is m t → holds m k t ts ≡ out_done t ts
holds_stays true k x ts h = absurd (never h)
holds_stays false k (thing_expr x) ts h = refl
holds_stays false k (thing_cond x) ts h = absurd (never h)

-- a thing that is tested: a condition is found, an expression is compared
pub tested_condition : (must : Bool) (d : ℕ) (s : Parser Expr) (x : Cond) (ts : List Tok) → tested must d s (thing_cond x) ts ≡ out_done (found must x) ts
tested_condition true d s x ts = refl
tested_condition false d s x ts = refl

-- the gas of a chain's operands
abbrev pub gas_of : Bool → ℕ → ℕ
gas_of true g = g
gas_of false g = suc g

pub gas_enough : (m : Bool) (g : ℕ) → g ≤ gas_of m g
gas_enough true g = omega arith
gas_enough false g = omega arith

pub level_none : (m : Bool) (g d : ℕ) (ts : List Tok) → levels m 0 g d ts ≡ operands m g d ts
unfolding operand
level_none true g d ts = refl
level_none false g d ts = refl

pub operand_step : (g d : ℕ) (ts : List Tok) → operand (suc g) d ts ≡ operands false g d ts
unfolding operand
operand_step g d ts = refl

pub level_step : (m : Bool) (n g d : ℕ) (ts : List Tok) → 0 < n → levels m n g d ts ≡ from (levels m (n - 1) g d) (λ start. goes m (chained d n start (gas_of m g) (gas_of m g))) ts
level_step m zero g d ts l = absurd (omega arith)
level_step true (suc n) g d ts l = rw sub-one refl
level_step false (suc n) g d ts l = rw sub-one refl

pub conditions_step : (m : Bool) (n g d : ℕ) (ts : List Tok) → 0 < n → conditions m n g d ts ≡ after (conditions m (n - 1) g d) (holds m (joining_on d n (suc g) (suc g))) ts
conditions_step m zero g d ts l = absurd (omega arith)
conditions_step m (suc n) g d ts l = rw sub-one refl

pub negation_step : (m : Bool) (g d : ℕ) (ts : List Tok) → negation m (suc g) d ts ≡ negation_by m d (levels true 3 g d) (expression g d) (negation true g (suc d)) ts
unfolding negation
negation_step m g d ts = refl
