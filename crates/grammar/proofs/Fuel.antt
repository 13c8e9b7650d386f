-- The gas is enough where it is more than the tokens. Assumes nothing.
use Rattle.std.proofs.Common.{◌≡◌, ℕ, zero, suc, ◌<◌, ◌≤◌, Bool, true, false, cond, eqb, ltb, List, [], ◌∷◌, length, sym, refl, arith}
use Rattle.script.specs.declared.types.Name.{Name}
use Rattle.script.specs.Tree as tree
use Rattle.script.specs.Tree.{Expr, Cond, Stmt, Stmts, Program}
use Rattle.tokens.specs.Spelling.{Item}
use Rattle.grammar.specs.Tokens.{Tok, offset}
use Rattle.grammar.specs.Combine.{kind, kind_at, Why, why_bad, why_deep, why_many, why_gas, Out, out_done, out_fail, Parser, next, after, from, ret, bad, bare, on, peek, loop, many, separated, listed, ends}
use Rattle.grammar.specs.Parse.{declares, operates, joins, begins, Thing, thing_expr, thing_cond, Got, Found, typed, declarator, binary, goes, level, actuals, named, operand_by, operand, expression, tested, joined, holds, condition_by, negation, condition, ended, tests, statement_by, statements_by, statement, statements, formals, function, program}
use Rattle.grammar.proofs.Symbols.{never}

-- the gas has not run out; what is left is no longer, and shorter where w is true
pub data Fine {X : Type 0} (w : Bool) (ts : List Tok) : Out X → Type 0 where
  done : {x : X} {rest : List Tok} → length rest ≤ length ts → (w ≡ true → length rest < length ts) → Fine w ts (out_done x rest)
  halt : {rest : List Tok} {why : Why} → (why ≡ why_gas → ⊥) → Fine w ts (out_fail rest why)

-- so it is where there are fewer tokens than n
abbrev pub Fed : {X : Type 0} → ℕ → Bool → Parser X → Type 0
Fed n w p = (ts : List Tok) → length ts < n → Fine w ts (p ts)

weaken : {X : Type 0} {n m : ℕ} {w : Bool} {p : Parser X} → m ≤ n → Fed n w p → Fed m w p
weaken l h ts k = h ts (omega arith)

slow : {X : Type 0} {w : Bool} {ts : List Tok} {o : Out X} → Fine w ts o → Fine false ts o
slow (done l s) = done l (λ e. never (sym e))
slow (halt h) = halt h

ret_fed : {X : Type 0} {n : ℕ} (x : X) → Fed n false (ret x)
ret_fed x ts k = done (omega arith) (λ e. never (sym e))

bad_fed : {X : Type 0} {n : ℕ} {w : Bool} → Fed {X = X} n w bad
bad_fed ts k = halt (λ e. cc)

-- what reads on from fewer tokens
after_less : {Y : Type 0} {w v : Bool} {ts rest : List Tok} {o : Out Y} → length rest < length ts → Fine v rest o → Fine w ts o
after_less l (done j r) = done (omega arith) (λ q. omega arith)
after_less l (halt j) = halt j

on_fed : {X : Type 0} {n m : ℕ} {w v : Bool} (d : ℕ) (test : ℕ → Bool) (p : Item → Parser X) (q : Parser X) → n ≤ suc m → ((i : Item) → Fed m v (p i)) → Fed n w q → Fed n w (on d test p q)
unfolding on
on_fed d test p q l h k [] f = k [] f
on_fed {w = w} d test p q l h k (t ∷ ts) f = by (test (kind t.symbol)) (ltb t.deepest d) t.counted
  where
    by : (a b c : Bool) → Fine w (t ∷ ts) (cond a (cond b (out_fail (t ∷ ts) why_deep) (cond c (p (bare t) ts) (out_fail (t ∷ ts) why_many))) (q (t ∷ ts)))
    by true true c = halt (λ e. cc)
    by true false true = after_less (omega arith) (h (bare t) ts (omega arith))
    by true false false = halt (λ e. cc)
    by false b c = k (t ∷ ts) f

-- p reads a token, and then there may be one less
shorter : {X Y : Type 0} {n m : ℕ} {w v : Bool} {ts : List Tok} {o : Out X} (f : X → Parser Y) → w ≡ true → n ≤ suc m → length ts < n → Fine w ts o → ((x : X) → Fed m v (f x)) → Fine w ts (next o f)
shorter f e l k (done {x = x} {rest = rest} i s) h = let z = s e in after_less z (h x rest (omega arith))
shorter f e l k (halt i) h = halt i

after_fed : {X Y : Type 0} {n m : ℕ} {v : Bool} (p : Parser X) (f : X → Parser Y) → n ≤ suc m → Fed n true p → ((x : X) → Fed m v (f x)) → Fed n true (after p f)
unfolding after
after_fed p f l h k ts i = shorter f refl l i (h ts i) k

from_fed : {X Y : Type 0} {n m : ℕ} {v : Bool} (p : Parser X) (f : ℕ → X → Parser Y) → n ≤ suc m → Fed n true p → ((o : ℕ) (x : X) → Fed m v (f o x)) → Fed n true (from p f)
unfolding from
from_fed p f l h k ts i = shorter (f (offset ts)) refl l i (h ts i) (k (offset ts))

-- p may read nothing
then_fed : {X Y : Type 0} {n : ℕ} {w v : Bool} (p : Parser X) (f : X → Parser Y) → Fed n w p → ((x : X) → Fed n v (f x)) → Fed n false (after p f)
unfolding after
then_fed {X = X} {Y = Y} {w = w} {v = v} p f h k ts i = by (p ts) (h ts i)
  where
    on : (rest : List Tok) → length rest ≤ length ts → (o : Out Y) → Fine v rest o → Fine false ts o
    on rest l (out_done y r) (done j s) = done (omega arith) (λ e. never (sym e))
    on rest l (out_fail r y) (halt j) = halt j

    by : (o : Out X) → Fine w ts o → Fine false ts (next o f)
    by (out_done x rest) (done l s) = on rest l (f x rest) (k x rest (omega arith))
    by (out_fail rest y) (halt j) = halt j

want_fed : {X : Type 0} {n : ℕ} {w v : Bool} (d : ℕ) (test : ℕ → Bool) (q : Parser X) → Fed n v q → Fed n w (on d test (λ i. q) bad)
want_fed d test q h = on_fed d test (λ i. q) bad (omega arith) (λ i. h) bad_fed

loop_fed : {X : Type 0} {G : ℕ} {v : Bool} (d : ℕ) (test : ℕ → Bool) (step : X → Item → Parser X) → ((x : X) (i : Item) → Fed G v (step x i)) → (g : ℕ) → g ≤ G → (x : X) → Fed g false (loop d test step g x)
unfolding loop
loop_fed d test step h zero l x ts i = absurd (omega arith)
loop_fed d test step h (suc g) l x ts i = on_fed d test _ (ret x) (omega arith) (λ i. then_fed (step x i) (loop d test step g) (weaken (omega arith) (h x i)) (loop_fed d test step h g (omega arith))) (ret_fed x) ts i

many_fed : {X Y : Type 0} {G : ℕ} (test : ℕ → Bool) (p : Parser X) (y : Y) (f : X → Y → Y) → Fed G true p → (g : ℕ) → g ≤ G → Fed g false (many test p y f g)
unfolding many peek
many_fed test p y f h zero l ts i = absurd (omega arith)
many_fed test p y f h (suc g) l ts i = by (test (kind_at ts)) (many_fed test p y f h g (omega arith))
  where
    by : (b : Bool) → Fed g false (many test p y f g) → Fine false ts (cond b (after p (λ x. after (many test p y f g) (λ xs. ret (f x xs))) ts) (out_done y ts))
    by true k = slow (after_fed {m = g} p (λ x. after (many test p y f g) (λ xs. ret (f x xs))) (omega arith) (weaken l h) (λ x. then_fed (many test p y f g) (λ xs. ret (f x xs)) k (λ xs. ret_fed (f x xs))) ts i)
    by false k = ret_fed y ts i

separated_fed : {X Y : Type 0} {G : ℕ} (d : ℕ) (p : Parser X) (y : Y) (f : X → Y → Y) → Fed G true p → (g : ℕ) → g ≤ G → Fed g true (separated d p y f g)
unfolding separated
separated_fed d p y f h zero l ts i = absurd (omega arith)
separated_fed d p y f h (suc g) l ts i =
    after_fed {m = g} p _ (omega arith) (weaken l h) (λ x. on_fed {m = g} {w = false} d _ _ (ret (f x y)) (omega arith) (λ i. after_fed {m = g} (separated d p y f g) _ (omega arith) (separated_fed d p y f h g (omega arith)) (λ xs. ret_fed (f x xs))) (ret_fed (f x y))) ts i

listed_fed : {X Y : Type 0} (d : ℕ) (p : Parser X) (y : Y) (f : X → Y → Y) (g : ℕ) → Fed g true p → Fed g true (listed d p y f g)
listed_fed d p y f g h =
    on_fed {m = g} d _ _ _ (omega arith) (λ i. ret_fed y) (after_fed {m = g} (separated (suc d) p y f g) _ (omega arith) (separated_fed (suc d) p y f h g (omega arith)) (λ xs. want_fed {w = true} d _ _ (ret_fed xs)))

-- expressions
map_fed : {X Y : Type 0} {n : ℕ} (p : Parser X) (f : X → Y) → Fed n true p → Fed n true (after p (λ x. ret (f x)))
map_fed {n = n} p f h = after_fed {m = n} p _ (omega arith) h (λ x. ret_fed (f x))

goes_fed : {n : ℕ} (m : Bool) (k : Expr → Parser Expr) → ((e : Expr) → Fed n false (k e)) → (x : Got m) → Fed n false (goes m k x)
goes_fed false k h e = h e
goes_fed true k h (thing_expr e) = then_fed (k e) _ (h e) (λ f. ret_fed (thing_expr f))
goes_fed true k h (thing_cond c) = ret_fed (thing_cond c)

holds_fed : {n : ℕ} (m : Bool) (k : Cond → Parser Cond) → ((c : Cond) → Fed n false (k c)) → (x : Found m) → Fed n false (holds m k x)
holds_fed true k h c = h c
holds_fed false k h (thing_cond c) = then_fed (k c) _ (h c) (λ e. ret_fed (thing_cond e))
holds_fed false k h (thing_expr e) = ret_fed (thing_expr e)

level_fed : {N : ℕ} (m : Bool) (d g : ℕ) (a : Parser (Got m)) (p : Parser Expr) (n : ℕ) → N ≤ suc g → Fed N true a → Fed g true p → Fed N true (level m d g a p n)
level_fed m d g a p zero l h k = h
level_fed m d g a p (suc n) l h k =
    from_fed {m = g} (level m d g a p n) _ l (level_fed m d g a p n l h k) (λ o. goes_fed m (loop d (operates (suc n)) (binary (level false d g p p n) o) g)
    (loop_fed {G = g} d (operates (suc n)) _ (λ e i. map_fed (level false d g p p n) _ (level_fed {N = g} false d g p p n (omega arith) k k)) g (omega arith)))

named_fed : (d g : ℕ) (s : Parser Expr) (x : Name) → Fed g true s → Fed g false (named d g s x)
named_fed d g s x h = on_fed {m = g} d _ _ _ (omega arith) (λ i. map_fed (actuals d g s) _ (listed_fed d s tree.none tree.more g h)) (ret_fed _)

operand_by_fed : (m : Bool) (d g : ℕ) (p s : Parser Expr) (q : Parser (Got m)) → Fed g true p → Fed g true s → Fed g true q → Fed (suc g) true (operand_by m d g p s q)
operand_by_fed m d g p s q h k j =
    on_fed {m = g} d _ _ _ (omega arith) (λ i. ret_fed _)
    (on_fed {m = g} d _ _ _ (omega arith) (λ i. then_fed (named d g s _) _ (named_fed d g s _ k) (λ e. ret_fed _))
    (on_fed {m = g} d _ _ _ (omega arith) (λ i. ret_fed _)
    (on_fed {m = g} d _ _ _ (omega arith) (λ i. map_fed p _ h)
    (on_fed {m = g} d _ _ _ (omega arith) (λ i. on_fed {m = g} {w = true} d _ _ _ (omega arith) (λ j. want_fed {w = true} d _ _ (map_fed p _ h)) (after_fed {m = g} q _ (omega arith) j (λ x. want_fed {w = true} d _ _ (ret_fed x))))
    bad_fed))))

operand_fed : (g d : ℕ) → Fed g true (operand g d)
unfolding operand
operand_fed zero d ts i = absurd (omega arith)
operand_fed (suc g) d ts i =
    operand_by_fed false d g (operand g (suc d)) _ _ (operand_fed g (suc d))
    (level_fed false (suc d) g _ _ 3 (omega arith) (operand_fed g (suc d)) (operand_fed g (suc d))) (level_fed false (suc d) g _ _ 3 (omega arith) (operand_fed g (suc d)) (operand_fed g (suc d))) ts i

expression_fed : (g d : ℕ) → Fed g true (expression g d)
expression_fed g d = level_fed false d g _ _ 3 (omega arith) (operand_fed g d) (operand_fed g d)

-- conditions
tested_fed : {n : ℕ} (m : Bool) (d : ℕ) (s : Parser Expr) → Fed n true s → (x : Thing) → Fed n false (tested m d s x)
tested_fed m d s h (thing_cond c) = ret_fed _
tested_fed {n = n} true d s h (thing_expr e) = on_fed {m = n} d _ _ _ (omega arith) (λ i. map_fed s _ h) bad_fed
tested_fed {n = n} false d s h (thing_expr e) = on_fed {m = n} d _ _ _ (omega arith) (λ i. map_fed s _ h) (ret_fed _)

condition_by_fed : (m : Bool) (d g : ℕ) (a : Parser (Found m)) (p : Parser Cond) (n : ℕ) → Fed g true a → Fed g true p → Fed g true (condition_by m d g a p n)
condition_by_fed m d g a p zero h k = h
condition_by_fed m d g a p (suc n) h k =
    after_fed {m = g} (condition_by m d g a p n) _ (omega arith) (condition_by_fed m d g a p n h k) (holds_fed m (loop d (joins (suc n)) (joined (condition_by true d g p p n)) g)
    (loop_fed {G = g} d (joins (suc n)) _ (λ c i. map_fed (condition_by true d g p p n) _ (condition_by_fed true d g p p n k k)) g (omega arith)))

negation_fed : (m : Bool) (g d : ℕ) → Fed g true (negation m g d)
unfolding negation
negation_fed m zero d ts i = absurd (omega arith)
negation_fed m (suc g) d ts i =
    on_fed {m = g} d _ _ _ (omega arith) (λ i. map_fed (negation true g (suc d)) _ (negation_fed true g (suc d)))
    (after_fed {m = g} _ (tested m d (expression g d)) (omega arith)
    (level_fed true d g _ (operand g d) 3 (omega arith)
    (operand_by_fed true d g (operand g (suc d)) (expression g (suc d)) _ (operand_fed g (suc d)) (expression_fed g (suc d)) (condition_by_fed false (suc d) g _ _ 2 (negation_fed false g (suc d)) (negation_fed true g (suc d))))
    (operand_fed g d))
    (tested_fed m d (expression g d) (expression_fed g d))) ts i

condition_fed : (g d : ℕ) → Fed g true (condition true g d)
condition_fed g d = condition_by_fed true d g _ _ 2 (negation_fed true g d) (negation_fed true g d)

-- statements
ended_fed : {n : ℕ} (d : ℕ) (e : Parser Expr) (f : Expr → Stmt) → Fed n true e → Fed n true (ended d e f)
ended_fed {n = n} d e f h = after_fed {m = n} e _ (omega arith) h (λ x. want_fed {w = true} d _ _ (ret_fed (f x)))

typed_fed : {n : ℕ} (d : ℕ) (m : Bool) → Fed n true (typed d m)
typed_fed {n = n} d m = on_fed {m = n} d _ _ _ (omega arith) (λ i. on_fed {m = n} {w = true} d _ _ _ (omega arith) (λ j. ret_fed _) bad_fed) bad_fed

declarator_fed : {n : ℕ} (d : ℕ) → Fed n true (declarator d)
declarator_fed {n = n} d = on_fed {m = n} d _ _ _ (omega arith) (λ i. typed_fed d true) (typed_fed d false)

tests_fed : {n : ℕ} {w : Bool} (d : ℕ) (c : Parser Cond) (b : Parser Stmt) (k : Cond → Stmt → Parser Stmt) → Fed n true c → Fed n true b → ((x : Cond) (y : Stmt) → Fed n false (k x y)) → Fed n w (tests d c b k)
tests_fed {n = n} d c b k h j f = want_fed d _ _ (after_fed {m = n} c _ (omega arith) h (λ x. want_fed {w = true} d _ _ (after_fed {m = n} b (k x) (omega arith) j (f x))))

statement_by_fed : (d g : ℕ) (e s : Parser Expr) (c : Parser Cond) (b : Parser Stmt) (ss : Parser Stmts) → Fed g true e → Fed g true s → Fed g true c → Fed g true b → Fed g false ss
    → Fed (suc g) true (statement_by d g e s c b ss)
statement_by_fed d g e s c b ss he hs hc hb hss =
    on_fed {m = g} d _ _ _ (omega arith) (λ i. on_fed {m = g} {w = true} d _ _ _ (omega arith) (λ j. ended_fed d e _ he)
    (on_fed {m = g} d _ _ _ (omega arith) (λ j. after_fed {m = g} (actuals d g s) _ (omega arith) (listed_fed d s tree.none tree.more g hs) (λ es. want_fed {w = true} d _ _ (ret_fed _))) bad_fed))
    (on_fed {m = g} d _ _ _ (omega arith) (λ i. tests_fed {w = true} d c b _ hc hb (λ x y. on_fed {m = g} d _ _ _ (omega arith) (λ j. map_fed b _ hb) (ret_fed _)))
    (on_fed {m = g} d _ _ _ (omega arith) (λ i. tests_fed {w = true} d c b _ hc hb (λ x y. ret_fed _))
    (on_fed {m = g} d _ _ _ (omega arith) (λ i. ended_fed d e _ he)
    (on_fed {m = g} d _ _ _ (omega arith) (λ i. ended_fed d e _ he)
    (on_fed {m = g} d _ _ _ (omega arith) (λ i. ended_fed d e _ he)
    (on_fed {m = g} d _ _ _ (omega arith) (λ i. then_fed ss _ hss (λ x. want_fed {w = true} d _ _ (ret_fed _)))
    (from_fed {m = g} (declarator d) _ (omega arith) (declarator_fed d) (λ o x. want_fed {w = true} d _ _ (ended_fed d e _ he)))))))))

statements_by_fed : (g : ℕ) (p : Parser Stmt) → Fed g true p → Fed g false (statements_by g p)
statements_by_fed g p h = many_fed begins p tree.end tree.next h g (omega arith)

statement_fed : (g d : ℕ) → Fed g true (statement g d)
unfolding statement
statement_fed zero d ts i = absurd (omega arith)
statement_fed (suc g) d ts i =
    statement_by_fed d g _ _ _ _ _ (expression_fed g d) (expression_fed g (suc d)) (condition_fed g (suc d)) (statement_fed g (suc d)) (statements_by_fed g (statement g (suc d)) (statement_fed g (suc d))) ts i

function_fed : (g : ℕ) → Fed g true (function g)
function_fed g =
    after_fed {m = g} (declarator 0) _ (omega arith) (declarator_fed 0) (λ h. want_fed {w = true} 0 _ _ (after_fed {m = g} (formals g) _ (omega arith) (listed_fed 0 (declarator 1) [] (λ x xs. x ∷ xs) g (declarator_fed 1))
    (λ xs. want_fed {w = true} 0 _ _ (then_fed (statements g 1) _ (statements_by_fed g (statement g 1) (statement_fed g 1)) (λ b. on_fed {m = g} {w = true} 0 _ _ _ (omega arith) (λ i. ret_fed _) bad_fed)))))

program_fed : (g : ℕ) → Fed g false (program g)
unfolding program ends
program_fed g = then_fed (many declares (function g) [] (λ f p. f ∷ p) g) ends (many_fed declares (function g) [] (λ f p. f ∷ p) (function_fed g) g (omega arith)) last
  where
    last : (p : Program) (rest : List Tok) → length rest < g → Fine false rest (ends p rest)
    last p rest l = by (eqb (kind_at rest) 0)
      where
        by : (b : Bool) → Fine false rest (cond b (out_done p rest) (out_fail rest why_bad))
        by true = ret_fed p rest l
        by false = halt (λ e. cc)

pub enough_gas : (g : ℕ) (ts rest : List Tok) → length ts < g → program g ts ≡ out_fail rest why_gas → ⊥
enough_gas g ts rest l e = by (program g ts) (program_fed g ts l) e
  where
    by : (o : Out Program) → Fine false ts o → o ≡ out_fail rest why_gas → ⊥
    by (out_done p r) f e = cc
    by (out_fail r y) (halt h) e = h (cc)
