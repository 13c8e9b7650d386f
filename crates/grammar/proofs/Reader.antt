-- The reader of expressions and conditions looks no further, and can be completed. Assumes nothing.
use Rattle.std.proofs.Common.{◌≡◌, ℕ, zero, suc, ◌+◌, ◌<◌, Bool, true, false, not, ◌||◌, eqb, List, refl, arith, eqb-true}
use Rattle.std.proofs.lemmas.Bool.{not-false, or_parts}
use Rattle.script.specs.declared.types.Name.{Name}
use Rattle.script.specs.declared.types.«Type».{«Type» as Ty}
use Rattle.script.specs.Tree as tree
use Rattle.script.specs.Tree.{Expr, Cond}
use Rattle.tokens.specs.declared.types.Keyword.TheVariants as word
use Rattle.tokens.specs.declared.types.Mark.TheVariants as sign
use Rattle.tokens.specs.Spelling.{constant, keyword, mark, Item}
use Rattle.grammar.specs.Tokens.{Tok}
use Rattle.grammar.specs.Combine.{kind, is, Parser, after, ret, bad, on, loop, listed}
use Rattle.grammar.specs.Parse.{is_name, is_constant, is_type, binding, operates, compares, joining, joins, name_of, type_of, operator_of, comparison_of, join_of, Thing, thing_expr, thing_cond, Got, got, Found, found, binary, goes, level, actuals, named, cast_to, grouped, operand_by, operand, expression, compared, tested, negation_by, joined, holds, condition_by, negation, condition}
use Rattle.grammar.proofs.Symbols.{never, mark_sharp, operates_sharp, joins_sharp, no_level}
use Rattle.grammar.proofs.Local.{Lo, Alive, Less, no_kind, looser, ret_lo, bad_lo, ret_alive, takes_lo, ret_good, on_alive, else_alive, after_alive, from_alive, Good, less_is, less_refl, less_none, seq, seq_from, map, gas_good, wide, wide_alive, wants, closing, loop_alive, loop_good, separated_good}

-- the kinds that go on with an expression, with actuals, and with a thing
abbrev pub ends_expression : ℕ → Bool
ends_expression k = is (mark sign.LeftParen) k || not (eqb (binding k) 0)

abbrev pub ends_actual : ℕ → Bool
ends_actual k = ends_expression k || is (mark sign.Comma) k

abbrev pub ends_test : ℕ → Bool
ends_test k = ends_expression k || (compares k || not (eqb (joining k) 0))

ea : Less ends_expression ends_actual
ea = record { so = λ k e. (or_parts (ends_expression k) _ e).0 }

et : Less ends_expression ends_test
et = record { so = λ k e. (or_parts (ends_expression k) _ e).0 }

operates_less : (n : ℕ) → Less (operates (suc n)) ends_expression
operates_less n = record { so = λ k e. no_level n (binding k) (eqb-true (binding k) 0 (not-false _ (or_parts (is (mark sign.LeftParen) k) _ e).1)) }

compares_less : Less compares ends_test
compares_less = record { so = λ k e. (or_parts (compares k) _ (or_parts (ends_expression k) _ e).1).0 }

joins_less : (n : ℕ) → Less (joins (suc n)) ends_test
joins_less n = record { so = λ k e. no_level n (joining k) (eqb-true (joining k) 0 (not-false _ (or_parts (compares k) _ (or_parts (ends_expression k) _ e).1).1)) }

-- after an expression of a thing
goes_alive : (m : Bool) (K : Expr → Parser Expr) → ((e : Expr) → Alive false ends_expression ends_expression (K e)) → (x : Got m) → Alive false ends_expression ends_expression (goes m K x)
goes_alive false K h e = h e
goes_alive true K h (thing_expr e) = after_alive (K e) _ (h e) (ret_alive _ less_refl)
goes_alive true K h (thing_cond c) = ret_alive (thing_cond c) less_refl

goes_lo : (m : Bool) (k K : Expr → Parser Expr) → ((e : Expr) → Good ends_expression false (k e) (K e)) → (x : Got m) (ts : List Tok) → Lo ends_expression (goes m K x) ts false (goes m k x ts)
goes_lo false k K h e = (h e).lo
goes_lo true k K h (thing_expr e) = (map thing_expr (h e)).lo
goes_lo true k K h (thing_cond c) = ret_lo (thing_cond c)

-- after a condition of a thing
holds_alive : (m : Bool) (K : Cond → Parser Cond) → ((c : Cond) → Alive false ends_test ends_test (K c)) → (x : Found m) → Alive false ends_test ends_test (holds m K x)
holds_alive true K h c = h c
holds_alive false K h (thing_cond c) = after_alive (K c) _ (h c) (ret_alive _ less_refl)
holds_alive false K h (thing_expr e) = ret_alive (thing_expr e) less_refl

holds_lo : (m : Bool) (k K : Cond → Parser Cond) → ((c : Cond) → Good ends_test false (k c) (K c)) → (x : Found m) (ts : List Tok) → Lo ends_test (holds m K x) ts false (holds m k x ts)
holds_lo true k K h c = (h c).lo
holds_lo false k K h (thing_cond c) = (map thing_cond (h c)).lo
holds_lo false k K h (thing_expr e) = ret_lo (thing_expr e)

pub listed_good : {X Y : Type 0} {S Q : ℕ → Bool} (T : ℕ → Bool) (d g G : ℕ) → g < G → (p P : Parser X) (y : Y) (f : X → Y → Y) → T (kind (mark sign.RightParen)) ≡ false
    → T (kind (mark sign.Comma)) ≡ true → Less S T → Good S true p P → Good Q true (listed d p y f g) (listed d P y f G)
listed_good {S = S} T d g G lt p P y f r c l h =
    record {
      lo =
          takes_lo d (is (mark sign.RightParen)) (mark_sharp sign.RightParen) never (λ i. ret_good y) (closing d sign.RightParen (λ xs. xs) r (separated_good {S = S} {Q = T} (suc d) P y f c l h g G lt)).lo;
      alive = on_alive d (is (mark sign.RightParen)) _ _ (mark sign.RightParen) refl refl (λ i. ret_alive y less_none);
    }

module _ (g G : ℕ) (lt : g < G) where
  binary_good : {p P : Parser Expr} (o : ℕ) → Good ends_expression true p P → (e : Expr) (i : Item) → Good ends_expression true (binary p o e i) (binary P o e i)
  binary_good o h e i = map (λ f. tree.binary i.at o (operator_of i.symbol) e f) h

  pub level_alive : (m : Bool) (d : ℕ) {S : ℕ → Bool} (A : Parser (Got m)) (P : Parser Expr) (n : ℕ) → Alive true S ends_expression A → Alive true S ends_expression (level m d G A P n)
  level_alive m d A P zero a = a
  level_alive m d A P (suc n) a = from_alive (level m d G A P n) _ (level_alive m d A P n a) (goes_alive m _ (λ e. loop_alive d _ _ G e (omega arith) (operates_sharp n) (operates_less n) less_refl) _)

  pub level_good : (m : Bool) (d : ℕ) (a A : Parser (Got m)) (p P : Parser Expr) (n : ℕ) → Good ends_expression true a A → Good ends_expression true p P → Good ends_expression true (level m d g a p n) (level m d G A P n)
  level_good m d a A p P zero h k = h
  level_good m d a A p P (suc n) h k =
      seq_from (λ e. less_refl) (level_good m d a A p P n h k)
      (λ o. goes_alive m (loop d (operates (suc n)) (binary (level false d G P P n) o) G) (λ e. loop_alive d _ _ G e (omega arith) (operates_sharp n) (operates_less n) less_refl))
      (λ o. goes_lo m (loop d (operates (suc n)) (binary (level false d g p p n) o) g) (loop d (operates (suc n)) (binary (level false d G P P n) o) G)
      (loop_good d g G lt (operates (suc n)) (operates_sharp n) (operates_less n) less_refl (binary_good o (level_good false d p P p P n k k))))

  pub actuals_good : {Q : ℕ → Bool} (d : ℕ) (s S : Parser Expr) → Good ends_expression true s S → Good Q true (actuals d g s) (actuals d G S)
  actuals_good d s S h = listed_good ends_actual d g G lt s S tree.none tree.more refl refl ea h

  named_good : (d : ℕ) (s S : Parser Expr) (x : Name) → Good ends_expression true s S → Good ends_expression false (named d g s x) (named d G S x)
  named_good d s S x h =
      record {
        lo = takes_lo d (is (mark sign.LeftParen)) (refl, refl) (λ e. less_is ends_expression (mark sign.LeftParen) refl) (λ i. call) (ret_lo (tree.variable x));
        alive = on_alive d (is (mark sign.LeftParen)) _ _ (mark sign.LeftParen) refl refl (λ i. call.alive);
      }
    where
      call : Good ends_expression true (after (actuals d g s) (λ es. ret (tree.call x es))) (after (actuals d G S) (λ es. ret (tree.call x es)))
      call = map (tree.call x) (actuals_good d s S h)

  cast_good : (m : Bool) (d : ℕ) {p P : Parser Expr} (at : ℕ) (ty : Ty) → Good ends_expression true p P → Good ends_expression true (cast_to m d p at ty) (cast_to m d P at ty)
  cast_good m d at ty h = wants d sign.RightParen (map (λ e. got m (tree.cast at ty e)) h)

  pub operand_by_good : {R : ℕ → Bool} (m : Bool) (d : ℕ) (p P s S : Parser Expr) (q Q : Parser (Got m)) → R (kind (mark sign.RightParen)) ≡ false → Good ends_expression true p P → Good ends_expression true s S
      → Good R true q Q → Good ends_expression true (operand_by m d g p s q) (operand_by m d G P S Q)
  operand_by_good m d p P s S q Q r h k j =
      record {
        lo =
            takes_lo d is_constant (refl, refl) never (λ i. ret_good _)
            (takes_lo d is_name (refl, refl) never names
            (takes_lo d (is (keyword word.Nil)) (refl, refl) never (λ i. ret_good _)
            (takes_lo d (is (mark sign.Minus)) (refl, refl) never minus
            (takes_lo d (is (mark sign.LeftParen)) (refl, refl) never paren
            bad_lo))));
        alive = on_alive d is_constant _ _ (constant 0) refl refl (λ i. ret_alive _ less_none);
      }
    where
      names : (i : Item) → Good ends_expression false (after (named d g s (name_of i)) (λ e. ret (got m e))) (after (named d G S (name_of i)) (λ e. ret (got m e)))
      names i = map (got m) (named_good d s S (name_of i) k)

      minus : (i : Item) → Good ends_expression true (after p (λ e. ret (got m (tree.negate i.at e)))) (after P (λ e. ret (got m (tree.negate i.at e))))
      minus i = map (λ e. got m (tree.negate i.at e)) h

      casts : (i j : Item) → Good ends_expression true (cast_to m d p i.at (type_of j.symbol)) (cast_to m d P i.at (type_of j.symbol))
      casts i j = cast_good m d i.at (type_of j.symbol) h

      group : Good ends_expression true (grouped d q) (grouped d Q)
      group = closing d sign.RightParen (λ x. x) r j

      paren : (i : Item) → Good ends_expression true (on d is_type (λ j. cast_to m d p i.at (type_of j.symbol)) (grouped d q)) (on d is_type (λ j. cast_to m d P i.at (type_of j.symbol)) (grouped d Q))
      paren i = record { lo = takes_lo d is_type (refl, refl) never (λ j. casts i j) group.lo; alive = on_alive d is_type _ _ (keyword word.Int) refl refl (λ j. (casts i j).alive) }

  -- a condition may stand here, or must
  compared_alive : {v : Bool} (m : Bool) (d : ℕ) (S : Parser Expr) (e : Expr) (R : Parser (Found m)) → Alive v no_kind ends_expression S → Alive false ends_expression ends_test (compared m d S e R)
  compared_alive m d S e R a = on_alive d compares _ _ (mark sign.Less) refl refl (λ i. after_alive S _ (wide_alive et a) (ret_alive _ less_refl))

  tested_alive : {v : Bool} (m : Bool) (d : ℕ) (S : Parser Expr) → Alive v no_kind ends_expression S → (x : Thing) → Alive false ends_expression ends_test (tested m d S x)
  tested_alive m d S a (thing_cond c) = ret_alive (found m c) et
  tested_alive true d S a (thing_expr e) = compared_alive true d S e bad a
  tested_alive false d S a (thing_expr e) = compared_alive false d S e (ret (thing_expr e)) a

  right_good : (m : Bool) {s S : Parser Expr} (e : Expr) → Good ends_expression true s S → (i : Item)
      → Good ends_test true (after s (λ f. ret (found m (tree.compare i.at (comparison_of i.symbol) e f)))) (after S (λ f. ret (found m (tree.compare i.at (comparison_of i.symbol) e f))))
  right_good m e h i = map (λ f. found m (tree.compare i.at (comparison_of i.symbol) e f)) (wide et h)

  tested_lo : (m : Bool) (d : ℕ) (s S : Parser Expr) → Good ends_expression true s S → (x : Thing) (ts : List Tok) → Lo ends_test (tested m d S x) ts false (tested m d s x ts)
  tested_lo m d s S h (thing_cond c) ts = ret_lo (found m c) ts
  tested_lo true d s S h (thing_expr e) ts = looser (takes_lo {w = true} d compares (refl, refl) never (λ i. right_good true e h i) bad_lo ts)
  tested_lo false d s S h (thing_expr e) ts = takes_lo d compares (refl, refl) (λ i. compares_less) (λ i. right_good false e h i) (ret_lo (thing_expr e)) ts

  negation_by_good : (m : Bool) (d : ℕ) (t T : Parser Thing) (s S : Parser Expr) (n N : Parser Cond) → Good ends_expression true t T → Good ends_expression true s S → Good ends_test true n N → Good ends_test true (negation_by m d t s n) (negation_by m d T S N)
  negation_by_good m d t T s S n N h k j =
      record {
        lo = takes_lo d (is (mark sign.Not)) (refl, refl) never nots (seq (λ e. et) h (tested_alive m d S k.alive) (tested_lo m d s S k)).lo;
        alive = on_alive d (is (mark sign.Not)) _ _ (mark sign.Not) refl refl (λ i. (nots i).alive);
      }
    where
      nots : (i : Item) → Good ends_test true (after n (λ c. ret (found m (tree.negated i.at c)))) (after N (λ c. ret (found m (tree.negated i.at c))))
      nots i = map (λ c. found m (tree.negated i.at c)) j

  joined_good : {p P : Parser Cond} → Good ends_test true p P → (c : Cond) (i : Item) → Good ends_test true (joined p c i) (joined P c i)
  joined_good h c i = map (λ e. join_of i.symbol i.at c e) h

  condition_by_good : (m : Bool) (d : ℕ) (a A : Parser (Found m)) (p P : Parser Cond) (n : ℕ) → Good ends_test true a A → Good ends_test true p P → Good ends_test true (condition_by m d g a p n) (condition_by m d G A P n)
  condition_by_good m d a A p P zero h k = h
  condition_by_good m d a A p P (suc n) h k =
      seq (λ e. less_refl) (condition_by_good m d a A p P n h k)
      (holds_alive m (loop d (joins (suc n)) (joined (condition_by true d G P P n)) G) (λ c. loop_alive d _ _ G c (omega arith) (joins_sharp n) (joins_less n) less_refl))
      (holds_lo m (loop d (joins (suc n)) (joined (condition_by true d g p p n)) g) (loop d (joins (suc n)) (joined (condition_by true d G P P n)) G)
      (loop_good d g G lt (joins (suc n)) (joins_sharp n) (joins_less n) less_refl (joined_good (condition_by_good true d p P p P n k k))))

  -- each is alive, whatever is nested in it
  operand_by_alive : (m : Bool) (d : ℕ) {S : ℕ → Bool} (P T : Parser Expr) (Q : Parser (Got m)) → S 3 ≡ false → Alive true S ends_expression (operand_by m d G P T Q)
  operand_by_alive m d P T Q s = on_alive d is_constant _ _ (constant 0) refl s (λ i. ret_alive _ less_none)

  negation_by_alive : {v : Bool} (m : Bool) (d : ℕ) (T : Parser Thing) (S : Parser Expr) (N : Parser Cond) → Alive true (is (mark sign.Not)) ends_expression T → Alive v no_kind ends_expression S → Alive true no_kind ends_test (negation_by m d T S N)
  negation_by_alive m d T S N a b = else_alive d (is (mark sign.Not)) _ _ (refl, refl) (after_alive T (tested m d S) a (tested_alive m d S b a.x))

pub operand_alive : (G d : ℕ) → 0 < G → Alive true no_kind ends_expression (operand G d)
unfolding operand
operand_alive zero d h = absurd (omega arith)
operand_alive (suc G) d h = on_alive d is_constant _ _ (constant 0) refl refl (λ i. ret_alive _ less_none)

pub expression_alive : (G d : ℕ) → 0 < G → Alive true no_kind ends_expression (expression G d)
expression_alive G d h = level_alive 0 G h false d (operand G d) (operand G d) 3 (operand_alive G d h)

pub operand_good : (g G d : ℕ) → g < G → Good ends_expression true (operand g d) (operand G d)
unfolding operand
operand_good g zero d h = absurd (omega arith)
operand_good zero (suc G) d h = gas_good (operand_alive (suc G) d (omega arith))
operand_good (suc g) (suc G) d h =
    let p = operand_good g G (suc d) (omega arith) in
    let s = level_good g G (omega arith) false (suc d) _ _ _ _ 3 p p in
    operand_by_good g G (omega arith) {R = ends_expression} false d _ _ _ _ _ _ refl p s s

pub expression_good : (g G d : ℕ) → g < G → Good ends_expression true (expression g d) (expression G d)
expression_good g G d h = let p = operand_good g G d h in level_good g G h false d _ _ _ _ 3 p p

pub negation_alive : (m : Bool) (G d : ℕ) → 1 < G → Alive true no_kind ends_test (negation m G d)
unfolding negation
negation_alive m zero d h = absurd (omega arith)
negation_alive m (suc G) d h = negation_by_alive 0 G (omega arith) m d _ _ _ (level_alive 0 G (omega arith) true d _ _ 3 (operand_by_alive 0 G (omega arith) true d _ _ _ refl)) (expression_alive G d (omega arith))

pub negation_good : (m : Bool) (g G d : ℕ) → g + 1 < G → Good ends_test true (negation m g d) (negation m G d)
unfolding negation
negation_good m g zero d h = absurd (omega arith)
negation_good m zero (suc G) d h = gas_good (negation_alive m (suc G) d (omega arith))
negation_good m (suc g) (suc G) d h =
    let n = negation_good true g G (suc d) (omega arith) in
    let q = condition_by_good g G (omega arith) false (suc d) _ _ _ _ 2 (negation_good false g G (suc d) (omega arith)) n in
    let a = operand_by_good g G (omega arith) {R = ends_test} true d _ _ _ _ _ _ refl (operand_good g G (suc d) (omega arith)) (expression_good g G (suc d) (omega arith)) q in
    negation_by_good g G (omega arith) m d _ _ _ _ _ _ (level_good g G (omega arith) true d _ _ _ _ 3 a (operand_good g G d (omega arith))) (expression_good g G d (omega arith)) n

pub condition_good : (m : Bool) (g G d : ℕ) → g + 1 < G → Good ends_test true (condition m g d) (condition m G d)
condition_good m g G d h = condition_by_good g G (omega arith) m d _ _ _ _ 2 (negation_good m g G d h) (negation_good true g G d h)
