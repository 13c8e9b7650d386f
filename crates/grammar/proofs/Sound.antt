-- What is read is derived. Assumes nothing.
use Rattle.std.proofs.Common.{◌≡◌, ℕ, zero, suc, ◌≤◌, Bool, true, false, cond, eqb, ltb, List, [], ◌∷◌, sym, refl, ap, ◌∙◌, arith, ltb-false, eqb-true}
use Rattle.script.specs.declared.types.«Type».{«Type» as Ty}
use Rattle.script.specs.declared.types.Name.{Name}
use Rattle.script.specs.declared.types.Declarator.{Declarator}
use Rattle.script.specs.Tree as tree
use Rattle.script.specs.Tree.{Expr, Exprs, Cond, Stmt, Stmts, Fun, Program}
use Rattle.tokens.specs.declared.types.Keyword.TheVariants as word
use Rattle.tokens.specs.declared.types.Mark.{Mark}
use Rattle.tokens.specs.declared.types.Mark.TheVariants as sign
use Rattle.tokens.specs.Spelling.{Symbol, constant, keyword, mark, Item}
use Rattle.grammar.specs.Tokens.{Tok, Is, IsName, offset, type_word}
use Rattle.grammar.specs.Grammar as rule
use Rattle.grammar.specs.Grammar.{Declares, Expression, Actuals, SomeActuals, Condition, Statement, Statements, SomeFormals, Formals, Function}
use Rattle.grammar.specs.Combine.{kind, kind_at, is, Why, why_bad, why_deep, why_many, Out, out_done, out_fail, Parser, next, after, from, ret, bad, bare, on, want, peek, loop, many, separated, listed, ends}
use Rattle.grammar.specs.Parse.{is_name, is_constant, is_type, declares, operates, compares, joins, begins, value_of, name_of, type_of, operator_of, comparison_of, join_of, Thing, thing_expr, thing_cond, Got, got, Found, found, typed, declarator, binary, goes, level, actuals, named, grouped, operand_by, operand, expression, tested, negation_by, joined, holds, condition_by, negation, condition, ended, declaration, assignment, otherwise, tests, statement_by, statements_by, statement, statements, formals, body, function, program}
use Rattle.grammar.proofs.Symbols.{never, Sharp, mark_sharp, operates_sharp, joins_sharp, only, definite, a_name, a_constant, a_type, Operates, operates_by, an_operator, operator_is, Compares, compares_by, a_comparison, comparison_is, Joins, by_and, by_or, a_join}

pub data Ok {X : Type 0} (K : X → List Tok → Type 0) : Out X → Type 0 where
  ok : {x : X} {rest : List Tok} → K x rest → Ok K (out_done x rest)
  no : {rest : List Tok} {n : Why} → Ok K (out_fail rest n)

abbrev pub Rel : Type 0 → Type 1
Rel X = List Tok → X → List Tok → Type 0

-- the reader reads what the relation allows
abbrev pub Reads : {X : Type 0} → Rel X → Parser X → Type 0
Reads R p = (ts : List Tok) → Ok (R ts) (p ts)

-- a token that passes the test and may stand here
pub record Fits (d : ℕ) (test : ℕ → Bool) (t : Tok) : Type 0 where
  pub passes : test (kind t.symbol) ≡ true
  pub depth : d ≤ t.deepest
  pub counted : t.counted ≡ true

after_ok : {X Y : Type 0} {K : X → List Tok → Type 0} {L : Y → List Tok → Type 0} (p : Parser X) (f : X → Parser Y) (ts : List Tok) → Ok K (p ts)
    → ((x : X) (rest : List Tok) → K x rest → Ok L (f x rest)) → Ok L (after p f ts)
unfolding after
after_ok {X = X} {K = K} {L = L} p f ts h k = by (p ts) h
  where
    by : (o : Out X) → Ok K o → Ok L (next o f)
    by (out_done x rest) (ok j) = k x rest j
    by (out_fail rest n) no = no

from_ok : {X Y : Type 0} {K : X → List Tok → Type 0} {L : Y → List Tok → Type 0} (p : Parser X) (f : ℕ → X → Parser Y) (ts : List Tok) → Ok K (p ts)
    → ((x : X) (rest : List Tok) → K x rest → Ok L (f (offset ts) x rest)) → Ok L (from p f ts)
unfolding after from
from_ok p f ts h k = after_ok p (f (offset ts)) ts h k

-- a token is taken where it fits, and left where it does not pass
token_ok : {X : Type 0} {K : X → List Tok → Type 0} (d : ℕ) (test : ℕ → Bool) (p : Item → Parser X) (q : Parser X) (t : Tok) (us : List Tok) → (Fits d test t → Ok K (p (bare t) us))
    → (test (kind t.symbol) ≡ false → Ok K (q (t ∷ us))) → Ok K (on d test p q (t ∷ us))
unfolding on
token_ok {K = K} d test p q t us h k = by (test (kind t.symbol)) refl (ltb t.deepest d) refl t.counted refl
  where
    by : (b : Bool) → test (kind t.symbol) ≡ b → (c : Bool) → ltb t.deepest d ≡ c → (e : Bool) → t.counted ≡ e
        → Ok K (cond b (cond c (out_fail (t ∷ us) why_deep) (cond e (p (bare t) us) (out_fail (t ∷ us) why_many))) (q (t ∷ us)))
    by true e true i c j = no
    by true e false i true j = h (record { passes = e; depth = ltb-false _ _ i; counted = j })
    by true e false i false j = no
    by false e true i c j = k e
    by false e false i c j = k e

-- a first token: the derivation begins here
first_ok : {X : Type 0} {R : Rel X} (d : ℕ) (test : ℕ → Bool) (p : Item → Parser X) (q : Parser X) → ((t : Tok) (us : List Tok) → Fits d test t → Ok (R (t ∷ us)) (p (bare t) us)) → Reads R q → Reads R (on d test p q)
unfolding on
first_ok d test p q h k [] = k []
first_ok d test p q h k (t ∷ us) = token_ok d test p q t us (h t us) (λ e. k (t ∷ us))

-- a later token: M is what has been derived so far
on_ok : {X : Type 0} {K : X → List Tok → Type 0} (M : List Tok → Type 0) (d : ℕ) (test : ℕ → Bool) (p : Item → Parser X) (q : Parser X) (ts : List Tok) → Sharp test → M ts
    → ((t : Tok) (us : List Tok) → M (t ∷ us) → Fits d test t → Ok K (p (bare t) us)) → (test (kind_at ts) ≡ false → Ok K (q ts)) → Ok K (on d test p q ts)
unfolding on
on_ok M d test p q [] z m h k = k z.0
on_ok M d test p q (t ∷ us) z m h k = token_ok d test p q t us (h t us m) k

-- what a token is that passes
fits_as : {d : ℕ} {test : ℕ → Bool} {t : Tok} {s : Symbol} → Fits d test t → t.symbol ≡ s → Is d s t
fits_as f e = record { symbol = e; depth = f.depth; counted = f.counted }

as_is : {d : ℕ} {t : Tok} (s : Symbol) → definite s ≡ true → Fits d (is s) t → Is d s t
as_is s e f = fits_as f (only s _ e f.passes)

as_name : {d : ℕ} {t : Tok} → Fits d is_name t → IsName d (name_of (bare t)) t
as_name f = record { spelling = _; is = fits_as f (a_name _ f.passes); range = refl }

as_constant : {d : ℕ} {t : Tok} → Fits d is_constant t → Is d (constant (value_of t.symbol)) t
as_constant f = fits_as f (a_constant _ f.passes)

as_type : {d : ℕ} {t : Tok} → Fits d is_type t → Is d (keyword (type_word (type_of t.symbol))) t
as_type f = fits_as f (a_type _ f.passes)

want_ok : {X : Type 0} {K : X → List Tok → Type 0} (M : List Tok → Type 0) (d : ℕ) (m : Mark) (q : Parser X) (ts : List Tok) → M ts
    → ((t : Tok) (us : List Tok) → M (t ∷ us) → Is d (mark m) t → Ok K (q us)) → Ok K (want d m q ts)
want_ok M d m q ts i h = on_ok M d (is (mark m)) (λ t. q) bad ts (mark_sharp m) i (λ t us n f. h t us n (as_is (mark m) refl f)) (λ e. no)

loop_ok : {X : Type 0} (I : X → List Tok → Type 0) (d : ℕ) (test : ℕ → Bool) (f : X → Item → Parser X) → Sharp test
    → ((x : X) (t : Tok) (us : List Tok) → I x (t ∷ us) → Fits d test t → Ok I (f x (bare t) us)) → (g : ℕ) (x : X) (ts : List Tok) → I x ts → Ok I (loop d test f g x ts)
unfolding loop
loop_ok I d test f z h zero x ts i = no
loop_ok I d test f z h (suc g) x ts i =
    on_ok (I x) d test (λ t. after (f x t) (loop d test f g)) (ret x) ts z i
    (λ t us j e. after_ok (f x (bare t)) (loop d test f g) us (h x t us j e) (λ y rest k. loop_ok I d test f z h g y rest k)) (λ e. ok i)

many_ok : {X Y : Type 0} (R : Rel X) (A : Rel Y) (test : ℕ → Bool) (p : Parser X) (none : Y) (more : X → Y → Y) → ((ts : List Tok) → A ts none ts)
    → ((ts mid rest : List Tok) (x : X) (y : Y) → R ts x mid → A mid y rest → A ts (more x y) rest) → Reads R p → (g : ℕ) → Reads A (many test p none more g)
unfolding many peek
many_ok R A test p none more z s h zero ts = no
many_ok R A test p none more z s h (suc g) ts = by (test (kind_at ts)) (many_ok R A test p none more z s h g)
  where
    by : (b : Bool) → Reads A (many test p none more g) → Ok (A ts) (cond b (after p (λ x. after (many test p none more g) (λ xs. ret (more x xs))) ts) (out_done none ts))
    by true rec = after_ok p _ ts (h ts) (λ x mid i. after_ok (many test p none more g) _ mid (rec mid) (λ y rest j. ok (s ts mid rest x y i j)))
    by false rec = ok (z ts)

separated_ok : {X Y : Type 0} (R : Rel X) (A : Rel Y) (d : ℕ) (p : Parser X) (none : Y) (more : X → Y → Y) → ((ts rest : List Tok) (x : X) → R ts x rest → A ts (more x none) rest)
    → ((ts mid rest : List Tok) (t : Tok) (x : X) (y : Y) → R ts x (t ∷ mid) → Is d (mark sign.Comma) t → A mid y rest → A ts (more x y) rest) → Reads R p → (g : ℕ)
    → Reads A (separated d p none more g)
unfolding separated
separated_ok R A d p none more z s h zero ts = no
separated_ok R A d p none more z s h (suc g) ts =
    after_ok p _ ts (h ts) (λ x mid i. on_ok (R ts x) d (is (mark sign.Comma)) _ _ mid (refl, refl) i
    (λ t us j f. after_ok (separated d p none more g) _ us (separated_ok R A d p none more z s h g us) (λ y rest k. ok (s ts us rest t x y j (as_is (mark sign.Comma) refl f) k)))
    (λ e. ok (z ts mid x i)))

-- a list up to its closing parenthesis
pub data Listed {Y : Type 0} (d : ℕ) (B : Rel Y) (ts : List Tok) (y : Y) (rest : List Tok) : Type 0 where
  closed : {t : Tok} → B ts y (t ∷ rest) → Is d (mark sign.RightParen) t → Listed d B ts y rest

listed_ok : {X Y : Type 0} (R : Rel X) (A B : Rel Y) (d : ℕ) (p : Parser X) (none : Y) (more : X → Y → Y) → ((ts : List Tok) → B ts none ts)
    → ((ts rest : List Tok) (y : Y) → A ts y rest → B ts y rest) → ((ts rest : List Tok) (x : X) → R ts x rest → A ts (more x none) rest)
    → ((ts mid rest : List Tok) (t : Tok) (x : X) (y : Y) → R ts x (t ∷ mid) → Is (suc d) (mark sign.Comma) t → A mid y rest → A ts (more x y) rest) → Reads R p → (g : ℕ)
    → Reads (Listed d B) (listed d p none more g)
listed_ok R A B d p none more n b z s h g =
    first_ok d (is (mark sign.RightParen)) _ _ (λ t us f. ok (closed (n (t ∷ us)) (as_is (mark sign.RightParen) refl f)))
    (λ ts. after_ok (separated (suc d) p none more g) _ ts (separated_ok R A (suc d) p none more z s h g ts) (λ y rest i. want_ok (A ts y) d sign.RightParen (ret y) rest i (λ t us j e. ok (closed (b ts (t ∷ us) y j) e))))

-- declarations
typed_ok : (d : ℕ) (m : Bool) (R : Rel Declarator)
    → ((t u : Tok) (ts : List Tok) (ty : Ty) (x : Name) → Is d (keyword (type_word ty)) t → IsName d x u → R (t ∷ u ∷ ts) (record { mutable = m; ty = ty; name = x }) ts) → Reads R (typed d m)
typed_ok d m R r = first_ok d is_type _ _ (λ t us f. first_ok {R = λ us. R (t ∷ us)} d is_name _ _ (λ u vs k. ok (r t u vs _ _ (as_type f) (as_name k))) (λ ts. no) us) (λ ts. no)

declarator_ok : (d : ℕ) → Reads (Declares d) (declarator d)
declarator_ok d =
    first_ok d (is (keyword word.Mutable)) _ _ (λ t us f. typed_ok d true (λ us. Declares d (t ∷ us)) (λ u v ts ty x i n. rule.mutable (as_is (keyword word.Mutable) refl f) i n) us)
    (typed_ok d false (Declares d) (λ t u ts ty x i n. rule.immutable i n))

-- expressions; merged, a condition may stand in their place
abbrev Was : (m : Bool) → ℕ → ℕ → Rel (Got m)
Was false n d ts e rest = Expression n d ts e rest
Was true n d ts (thing_expr e) rest = Expression n d ts e rest
Was true n d ts (thing_cond c) rest = Condition 0 d ts c rest

abbrev Held : (m : Bool) → ℕ → ℕ → Rel (Found m)
Held true n d ts c rest = Condition n d ts c rest
Held false n d ts (thing_cond c) rest = Condition n d ts c rest
Held false n d ts (thing_expr e) rest = Expression 3 d ts e rest

abbrev Inner : (m : Bool) → ℕ → Rel (Got m)
Inner false d ts e rest = Expression 3 d ts e rest
Inner true d ts x rest = Held false 2 d ts x rest

was : (m : Bool) {n d : ℕ} {ts rest : List Tok} {e : Expr} → Expression n d ts e rest → Was m n d ts (got m e) rest
was true i = i
was false i = i

held : (m : Bool) {n d : ℕ} {ts rest : List Tok} {c : Cond} → Condition n d ts c rest → Held m n d ts (found m c) rest
held true i = i
held false i = i

goes_ok : (m : Bool) (n d : ℕ) (k : Expr → Parser Expr) (ts : List Tok) → ((e : Expr) (rest : List Tok) → Expression n d ts e rest → Ok (Expression (suc n) d ts) (k e rest))
    → (x : Got m) (rest : List Tok) → Was m n d ts x rest → Ok (Was m (suc n) d ts) (goes m k x rest)
goes_ok false n d k ts h e rest i = h e rest i
goes_ok true n d k ts h (thing_expr e) rest i = after_ok (k e) _ rest (h e rest i) (λ f r j. ok j)
goes_ok true n d k ts h (thing_cond c) rest i = ok i

grows : {n d : ℕ} {ts mid rest : List Tok} {e f : Expr} (t : Tok) → Fits d (operates (suc n)) t → Expression (suc n) d ts e (t ∷ mid) → Expression n d mid f rest
    → Expression (suc n) d ts (tree.binary t.at (offset ts) (operator_of t.symbol) e f) rest
grows {n = n} {d = d} {ts = ts} {mid = mid} {rest = rest} {e = e} {f = f} t h i j = by (an_operator n t.symbol h.passes)
  where
    by : Operates (suc n) t.symbol → Expression (suc n) d ts (tree.binary t.at (offset ts) (operator_of t.symbol) e f) rest
    by (operates_by o q b) = rw (ap operator_of q ∙ operator_is o) (rule.binary o b i (fits_as h q) j)

level_ok : (m : Bool) (d g : ℕ) (a : Parser (Got m)) (p : Parser Expr) (n : ℕ) → n ≤ 3 → Reads (Was m 0 d) a → Reads (Expression 0 d) p → Reads (Was m n d) (level m d g a p n)
level_ok m d g a p zero l h k ts = h ts
level_ok m d g a p (suc n) l h k ts =
    from_ok (level m d g a p n) _ ts (level_ok m d g a p n (omega arith) h k ts)
    (goes_ok m n d (loop d (operates (suc n)) (binary (level false d g p p n) (offset ts)) g) ts (λ e rest i.
    loop_ok (Expression (suc n) d ts) d (operates (suc n)) _ (operates_sharp n)
    (λ e t us j f. after_ok (level false d g p p n) _ us (level_ok false d g p p n (omega arith) k k us) (λ x r q. ok (grows t f j q)))
    g e rest (rule.looser (omega arith) i)))

actuals_ok : (d g : ℕ) (s : Parser Expr) → Reads (Expression 3 (suc d)) s → Reads (Listed d (Actuals (suc d))) (actuals d g s)
actuals_ok d g s h =
    listed_ok (Expression 3 (suc d)) (SomeActuals (suc d)) (Actuals (suc d)) d s tree.none tree.more (λ ts. rule.no_actual) (λ ts rest y i. rule.actuals i) (λ ts rest x i. rule.last_actual i) (λ ts mid rest t x y i c j. rule.next_actual i c j) h g

called : {d : ℕ} {x : Name} {t u : Tok} {ts rest : List Tok} {es : Exprs} → IsName d x t → Is d (mark sign.LeftParen) u → Listed d (Actuals (suc d)) ts es rest → Expression 0 d (t ∷ u ∷ ts) (tree.call x es) rest
called n u (closed a v) = rule.call n u a v

named_ok : (d g : ℕ) (s : Parser Expr) → Reads (Expression 3 (suc d)) s → {x : Name} (t : Tok) → IsName d x t → (ts : List Tok) → Ok (Expression 0 d (t ∷ ts)) (named d g s x ts)
named_ok d g s h t n =
    first_ok {R = λ us. Expression 0 d (t ∷ us)} d (is (mark sign.LeftParen)) _ _
    (λ u us f. after_ok (actuals d g s) _ us (actuals_ok d g s h us) (λ es rest i. ok (called n (as_is (mark sign.LeftParen) refl f) i))) (λ ts. ok (rule.variable n))

grouped_ok : (m : Bool) (d : ℕ) (q : Parser (Got m)) → Reads (Inner m (suc d)) q → (t : Tok) → Is d (mark sign.LeftParen) t → (us : List Tok) → Ok (Was m 0 d (t ∷ us)) (grouped d q us)
grouped_ok m d q h t l us = after_ok q _ us (h us) (closes m)
  where
    closes : (m : Bool) (x : Got m) (rest : List Tok) → Inner m (suc d) us x rest → Ok (Was m 0 d (t ∷ us)) (want d sign.RightParen (ret x) rest)
    closes false e rest i = want_ok (Expression 3 (suc d) us e) d sign.RightParen (ret e) rest i (λ u vs j r. ok (rule.group l j r))
    closes true (thing_expr e) rest i = want_ok (Expression 3 (suc d) us e) d sign.RightParen (ret (thing_expr e)) rest i (λ u vs j r. ok (rule.group l j r))
    closes true (thing_cond c) rest i = want_ok (Condition 2 (suc d) us c) d sign.RightParen (ret (thing_cond c)) rest i (λ u vs j r. ok (rule.group l j r))

operand_by_ok : (m : Bool) (d g : ℕ) (p s : Parser Expr) (q : Parser (Got m)) → Reads (Expression 0 (suc d)) p → Reads (Expression 3 (suc d)) s → Reads (Inner m (suc d)) q → Reads (Was m 0 d) (operand_by m d g p s q)
operand_by_ok m d g p s q h k j =
    first_ok d is_constant _ _ (λ t us f. ok (was m (rule.number (as_constant f))))
    (first_ok d is_name _ _ (λ t us f. after_ok (named d g s (name_of (bare t))) _ us (named_ok d g s k t (as_name f) us) (λ e rest i. ok (was m i)))
    (first_ok d (is (keyword word.Nil)) _ _ (λ t us f. ok (was m (rule.nil (as_is (keyword word.Nil) refl f))))
    (first_ok d (is (mark sign.Minus)) _ _ (λ t us f. after_ok p _ us (h us) (λ e rest i. ok (was m (rule.negated (as_is (mark sign.Minus) refl f) i))))
    (first_ok d (is (mark sign.LeftParen)) _ _ (λ t us f.
    first_ok {R = λ us. Was m 0 d (t ∷ us)} d is_type _ _
    (λ u vs c. first_ok {R = λ vs. Was m 0 d (t ∷ u ∷ vs)} d (is (mark sign.RightParen)) (λ i. after p (λ e. ret (got m (tree.cast t.at (type_of u.symbol) e)))) bad
    (λ v ws r. after_ok p _ ws (h ws) (λ e rest i. ok (was m (rule.cast (as_is (mark sign.LeftParen) refl f) (as_type c) (as_is (mark sign.RightParen) refl r) i)))) (λ ts. no) vs)
    (grouped_ok m d q j t (as_is (mark sign.LeftParen) refl f)) us)
    (λ ts. no)))))

operand_ok : (g d : ℕ) → Reads (Expression 0 d) (operand g d)
unfolding operand
operand_ok zero d ts = no
operand_ok (suc g) d ts =
    operand_by_ok false d g (operand g (suc d)) _ _ (operand_ok g (suc d))
    (level_ok false (suc d) g _ _ 3 (omega arith) (operand_ok g (suc d)) (operand_ok g (suc d))) (level_ok false (suc d) g _ _ 3 (omega arith) (operand_ok g (suc d)) (operand_ok g (suc d))) ts

expression_ok : (g d : ℕ) → Reads (Expression 3 d) (expression g d)
expression_ok g d = level_ok false d g _ _ 3 (omega arith) (operand_ok g d) (operand_ok g d)

-- conditions
compares_as : {d : ℕ} {ts mid rest : List Tok} {e f : Expr} (t : Tok) → Fits d compares t → Expression 3 d ts e (t ∷ mid) → Expression 3 d mid f rest
    → Condition 0 d ts (tree.compare t.at (comparison_of t.symbol) e f) rest
compares_as {d = d} {ts = ts} {rest = rest} {e = e} {f = f} t h i j = by (a_comparison t.symbol h.passes)
  where
    by : Compares t.symbol → Condition 0 d ts (tree.compare t.at (comparison_of t.symbol) e f) rest
    by (compares_by o q) = rw (ap comparison_of q ∙ comparison_is o) (rule.compared o i (fits_as h q) j)

tested_ok : (m : Bool) (d : ℕ) (s : Parser Expr) → Reads (Expression 3 d) s → (ts : List Tok) (x : Thing) (rest : List Tok) → Was true 3 d ts x rest → Ok (Held m 0 d ts) (tested m d s x rest)
tested_ok m d s h ts (thing_cond c) rest i = ok (held m i)
tested_ok true d s h ts (thing_expr e) rest i = on_ok (Expression 3 d ts e) d compares _ _ rest (refl, refl) i (λ t us j f. after_ok s _ us (h us) (λ x r k. ok (compares_as t f j k))) (λ _. no)
tested_ok false d s h ts (thing_expr e) rest i = on_ok (Expression 3 d ts e) d compares _ _ rest (refl, refl) i (λ t us j f. after_ok s _ us (h us) (λ x r k. ok (compares_as t f j k))) (λ _. ok i)

negation_by_ok : (m : Bool) (d : ℕ) (t : Parser Thing) (s : Parser Expr) (n : Parser Cond) → Reads (Was true 3 d) t → Reads (Expression 3 d) s → Reads (Condition 0 (suc d)) n → Reads (Held m 0 d) (negation_by m d t s n)
negation_by_ok m d t s n h k j =
    first_ok d (is (mark sign.Not)) _ _ (λ v us f. after_ok n _ us (j us) (λ c rest i. ok (held m (rule.negated (as_is (mark sign.Not) refl f) i))))
    (λ ts. after_ok t _ ts (h ts) (tested_ok m d s k ts))

holds_ok : (m : Bool) (n d : ℕ) (k : Cond → Parser Cond) (ts : List Tok) → ((c : Cond) (rest : List Tok) → Condition n d ts c rest → Ok (Condition (suc n) d ts) (k c rest))
    → (x : Found m) (rest : List Tok) → Held m n d ts x rest → Ok (Held m (suc n) d ts) (holds m k x rest)
holds_ok true n d k ts h c rest i = h c rest i
holds_ok false n d k ts h (thing_cond c) rest i = after_ok (k c) _ rest (h c rest i) (λ e r j. ok j)
holds_ok false n d k ts h (thing_expr e) rest i = ok i

joins_as : {n d : ℕ} {ts mid rest : List Tok} {c e : Cond} (t : Tok) → Fits d (joins (suc n)) t → Condition (suc n) d ts c (t ∷ mid) → Condition n d mid e rest
    → Condition (suc n) d ts (join_of t.symbol t.at c e) rest
joins_as {n = n} {d = d} {ts = ts} {mid = mid} {rest = rest} {c = c} {e = e} t h i j = by (a_join n t.symbol h.passes) i j
  where
    by : Joins (suc n) t.symbol → Condition (suc n) d ts c (t ∷ mid) → Condition n d mid e rest → Condition (suc n) d ts (join_of t.symbol t.at c e) rest
    by (by_and q b) i j = let z : n ≡ 0 = omega arith in rw (q, z) (rule.both (rw z at i) (fits_as h q) (rw z at j))
    by (by_or q b) i j = let z : n ≡ 1 = omega arith in rw (q, z) (rule.either (rw z at i) (fits_as h q) (rw z at j))

condition_by_ok : (m : Bool) (d g : ℕ) (a : Parser (Found m)) (p : Parser Cond) (n : ℕ) → n ≤ 2 → Reads (Held m 0 d) a → Reads (Condition 0 d) p → Reads (Held m n d) (condition_by m d g a p n)
condition_by_ok m d g a p zero l h k ts = h ts
condition_by_ok m d g a p (suc n) l h k ts =
    after_ok (condition_by m d g a p n) _ ts (condition_by_ok m d g a p n (omega arith) h k ts)
    (holds_ok m n d (loop d (joins (suc n)) (joined (condition_by true d g p p n)) g) ts (λ c rest i.
    loop_ok (Condition (suc n) d ts) d (joins (suc n)) _ (joins_sharp n)
    (λ c t us j f. after_ok (condition_by true d g p p n) _ us (condition_by_ok true d g p p n (omega arith) k k us) (λ x r q. ok (joins_as t f j q)))
    g c rest (rule.looser (omega arith) i)))

negation_ok : (m : Bool) (g d : ℕ) → Reads (Held m 0 d) (negation m g d)
unfolding negation
negation_ok m zero d ts = no
negation_ok m (suc g) d ts =
    negation_by_ok m d _ (expression g d) (negation true g (suc d))
    (level_ok true d g _ (operand g d) 3 (omega arith)
    (operand_by_ok true d g (operand g (suc d)) (expression g (suc d)) _ (operand_ok g (suc d)) (expression_ok g (suc d))
    (condition_by_ok false (suc d) g _ _ 2 (omega arith) (negation_ok false g (suc d)) (negation_ok true g (suc d))))
    (operand_ok g d))
    (expression_ok g d) (negation_ok true g (suc d)) ts

condition_ok : (g d : ℕ) → Reads (Condition 2 d) (condition true g d)
condition_ok g d = condition_by_ok true d g _ _ 2 (omega arith) (negation_ok true g d) (negation_ok true g d)

-- statements
ended_ok : {K : Stmt → List Tok → Type 0} (d : ℕ) (e : Parser Expr) (f : Expr → Stmt) (us : List Tok) → Reads (Expression 3 d) e
    → ((x : Expr) (rest : List Tok) (t : Tok) → Expression 3 d us x (t ∷ rest) → Is d (mark sign.Semicolon) t → K (f x) rest) → Ok K (ended d e f us)
ended_ok d e f us h r = after_ok e _ us (h us) (λ x rest i. want_ok (Expression 3 d us x) d sign.Semicolon (ret (f x)) rest i (λ t vs j s. ok (r x vs t j s)))

declaration_ok : (d : ℕ) (e : Parser Expr) → Reads (Expression 3 d) e → Reads (Statement d) (declaration d e)
declaration_ok d e h ts =
    from_ok (declarator d) _ ts (declarator_ok d ts) (λ x rest i.
    want_ok (Declares d ts x) d sign.Assign (ended d e (tree.declare (offset ts) x)) rest i (λ t us j a. ended_ok d e _ us h (λ x rest t k s. rule.declares j a k s)))

calls_as : {d : ℕ} {x : Name} {t u w : Tok} {ts rest : List Tok} {es : Exprs} → IsName d x t → Is d (mark sign.LeftParen) u → Listed d (Actuals (suc d)) ts es (w ∷ rest) → Is d (mark sign.Semicolon) w
    → Statement d (t ∷ u ∷ ts) (tree.calls x es) rest
calls_as n u (closed a v) w = rule.calls n u a v w

assignment_ok : (d g : ℕ) (e s : Parser Expr) → Reads (Expression 3 d) e → Reads (Expression 3 (suc d)) s → {x : Name} (t : Tok) → IsName d x t → (us : List Tok) → Ok (Statement d (t ∷ us)) (assignment d g e s x us)
assignment_ok d g e s he hs {x = x} t n =
    first_ok {R = λ us. Statement d (t ∷ us)} d (is (mark sign.Assign)) _ _ (λ u vs f. ended_ok d e (tree.assign x) vs he (λ y rest w k q. rule.assigns n (as_is (mark sign.Assign) refl f) k q))
    (first_ok {R = λ us. Statement d (t ∷ us)} d (is (mark sign.LeftParen)) _ _ (λ u vs f.
    after_ok (actuals d g s) _ vs (actuals_ok d g s hs vs) (λ es rest i. want_ok (Listed d (Actuals (suc d)) vs es) d sign.Semicolon (ret (tree.calls x es)) rest i (λ w ws j q. ok (calls_as n (as_is (mark sign.LeftParen) refl f) j q))))
    (λ ts. no))

-- an if or a while up to its first body
pub data Tested (d : ℕ) (us : List Tok) (c : Cond) (y : Stmt) (rest : List Tok) : Type 0 where
  tested_by : {u v : Tok} {vs mid : List Tok} → us ≡ u ∷ vs → Is d (mark sign.LeftParen) u → Condition 2 (suc d) vs c (v ∷ mid) → Is d (mark sign.RightParen) v → Statement (suc d) mid y rest → Tested d us c y rest

tests_ok : {K : Stmt → List Tok → Type 0} (d : ℕ) (c : Parser Cond) (b : Parser Stmt) (k : Cond → Stmt → Parser Stmt) (us : List Tok) → Reads (Condition 2 (suc d)) c → Reads (Statement (suc d)) b
    → ((x : Cond) (y : Stmt) (rest : List Tok) → Tested d us x y rest → Ok K (k x y rest)) → Ok K (tests d c b k us)
tests_ok d c b k us hc hb h =
    on_ok (λ vs. us ≡ vs) d (is (mark sign.LeftParen)) (λ i. after c (λ x. want d sign.RightParen (after b (k x)))) bad us (refl, refl) refl
    (λ u vs e l. after_ok c _ vs (hc vs) (λ x rest i. want_ok (Condition 2 (suc d) vs x) d sign.RightParen (after b (k x)) rest i (λ v ws j r.
    after_ok b (k x) ws (hb ws) (λ y far q. h x y far (tested_by e (as_is (mark sign.LeftParen) refl l) j r q)))))
    (λ e. no)

if_then_as : {d : ℕ} {t : Tok} {us rest : List Tok} {c : Cond} {y : Stmt} → Is d (keyword word.If) t → Tested d us c y rest → is (keyword word.Else) (kind_at rest) ≡ false
    → Statement d (t ∷ us) (tree.if_then t.at c y) rest
if_then_as {d = d} {t = t} {rest = rest} {c = c} {y = y} i (tested_by e l j r q) n = rw e (rule.if_then i l j r q (λ k. never (sym (ap (λ s. is (keyword word.Else) (kind s)) k) ∙ n)))

if_else_as : {d : ℕ} {t w : Tok} {us far rest : List Tok} {c : Cond} {y z : Stmt} → Is d (keyword word.If) t → Tested d us c y (w ∷ far) → Is d (keyword word.Else) w → Statement (suc d) far z rest
    → Statement d (t ∷ us) (tree.if_else t.at c y z) rest
if_else_as i (tested_by e l j r q) w s = rw e (rule.if_else i l j r q w s)

while_as : {d : ℕ} {t : Tok} {us rest : List Tok} {c : Cond} {y : Stmt} → Is d (keyword word.While) t → Tested d us c y rest → Statement d (t ∷ us) (tree.while t.at c y) rest
while_as i (tested_by e l j r q) = rw e (rule.while i l j r q)

statement_by_ok : (d g : ℕ) (e s : Parser Expr) (c : Parser Cond) (b : Parser Stmt) (ss : Parser Stmts) → Reads (Expression 3 d) e → Reads (Expression 3 (suc d)) s → Reads (Condition 2 (suc d)) c
    → Reads (Statement (suc d)) b → Reads (Statements (suc d)) ss → Reads (Statement d) (statement_by d g e s c b ss)
statement_by_ok d g e s c b ss he hs hc hb hss =
    first_ok d is_name _ _ (λ t us f. assignment_ok d g e s he hs t (as_name f) us)
    (first_ok d (is (keyword word.If)) _ _ (λ t us f. tests_ok d c b (otherwise d t.at b) us hc hb (λ x y rest i.
    on_ok (Tested d us x y) d (is (keyword word.Else)) _ _ rest (refl, refl) i
    (λ w ws j k. after_ok b _ ws (hb ws) (λ z far q. ok (if_else_as (as_is (keyword word.If) refl f) j (as_is (keyword word.Else) refl k) q)))
    (λ k. ok (if_then_as (as_is (keyword word.If) refl f) i k))))
    (first_ok d (is (keyword word.While)) _ _ (λ t us f. tests_ok d c b (λ x y. ret (tree.while t.at x y)) us hc hb (λ x y rest i. ok (while_as (as_is (keyword word.While) refl f) i)))
    (first_ok d (is (keyword word.Free)) _ _ (λ t us f. ended_ok d e (tree.free t.at) us he (λ x rest w k q. rule.free (as_is (keyword word.Free) refl f) k q))
    (first_ok d (is (keyword word.Print)) _ _ (λ t us f. ended_ok d e (tree.print t.at) us he (λ x rest w k q. rule.print (as_is (keyword word.Print) refl f) k q))
    (first_ok d (is (keyword word.Return)) _ _ (λ t us f. ended_ok d e (tree.return t.at) us he (λ x rest w k q. rule.return (as_is (keyword word.Return) refl f) k q))
    (first_ok d (is (mark sign.LeftBrace)) _ _ (λ t us f. after_ok ss _ us (hss us) (λ x rest i. want_ok (Statements (suc d) us x) d sign.RightBrace (ret (tree.block t.at x)) rest i (λ v ws j q. ok (rule.block (as_is (mark sign.LeftBrace) refl f) j q))))
    (declaration_ok d e he)))))))

statements_by_ok : (d g : ℕ) (p : Parser Stmt) → Reads (Statement d) p → Reads (Statements d) (statements_by g p)
statements_by_ok d g p h = many_ok (Statement d) (Statements d) begins p tree.end tree.next (λ ts. rule.no_statement) (λ ts mid rest x y i j. rule.statement i j) h g

statement_ok : (g d : ℕ) → Reads (Statement d) (statement g d)
unfolding statement
statement_ok zero d ts = no
statement_ok (suc g) d ts =
    statement_by_ok d g _ _ _ _ _ (expression_ok g d) (expression_ok g (suc d)) (condition_ok g (suc d)) (statement_ok g (suc d)) (statements_by_ok (suc d) g (statement g (suc d)) (statement_ok g (suc d))) ts

-- functions and programs
formals_ok : (g : ℕ) → Reads (Listed 0 (Formals 1)) (formals g)
formals_ok g =
    listed_ok (Declares 1) (SomeFormals 1) (Formals 1) 0 (declarator 1) [] (λ x xs. x ∷ xs) (λ ts. rule.no_formal) (λ ts rest y i. rule.formals i) (λ ts rest x i. rule.last_formal i) (λ ts mid rest t x y i c j. rule.next_formal i c j) (declarator_ok 1) g

function_as : {head : Declarator} {xs : List Declarator} {b : Stmts} {t v w : Tok} {ts mid more rest : List Tok} → Declares 0 ts head (t ∷ mid) → Is 0 (mark sign.LeftParen) t
    → Listed 0 (Formals 1) mid xs (v ∷ more) → Is 0 (mark sign.LeftBrace) v → Statements 1 more b (w ∷ rest) → Is 0 (mark sign.RightBrace) w
    → Function ts (record { head = head; formals = xs; body = b; close = w.at }) rest
function_as h l (closed f r) o b c = rule.function h l f r o b c

function_ok : (g : ℕ) → Reads Function (function g)
function_ok g ts =
    after_ok (declarator 0) _ ts (declarator_ok 0 ts) (λ h rest i. want_ok (Declares 0 ts h) 0 sign.LeftParen _ rest i (λ t us j l.
    after_ok (formals g) _ us (formals_ok g us) (λ xs far k. want_ok (Listed 0 (Formals 1) us xs) 0 sign.LeftBrace (body g h xs) far k (λ v vs q o.
    after_ok (statements g 1) _ vs (statements_by_ok 1 g (statement g 1) (statement_ok g 1) vs) (λ b end n.
    on_ok (Statements 1 vs b) 0 (is (mark sign.RightBrace)) _ _ end (refl, refl) n (λ w ws a c. ok (function_as j l q o a (as_is (mark sign.RightBrace) refl c))) (λ e. no))))))

-- functions one after the other
pub data Functions : List Tok → Program → List Tok → Type 0 where
  no_function : {ts : List Tok} → Functions ts [] ts
  one_function : {ts mid rest : List Tok} {f : Fun} {p : Program} → Function ts f mid → Functions mid p rest → Functions ts (f ∷ p) rest

-- functions up to the end of the source
pub record Whole (ts : List Tok) (p : Program) (rest : List Tok) : Type 0 where
  pub all : Functions ts p rest
  pub end : kind_at rest ≡ 0

pub program_ok : (g : ℕ) → Reads Whole (program g)
unfolding program ends
program_ok g ts =
    after_ok (many declares (function g) [] (λ f p. f ∷ p) g) ends ts (many_ok Function Functions declares (function g) [] (λ f p. f ∷ p) (λ ts. no_function) (λ ts mid rest x y i j. one_function i j) (function_ok g) g ts) last
  where
    last : (p : Program) (rest : List Tok) → Functions ts p rest → Ok (Whole ts) (ends p rest)
    last p rest i = by (eqb (kind_at rest) 0) refl
      where
        by : (b : Bool) → eqb (kind_at rest) 0 ≡ b → Ok (Whole ts) (cond b (out_done p rest) (out_fail rest why_bad))
        by true e = ok (record { all = i; end = eqb-true _ _ e })
        by false e = no

pub derived : (ts : List Tok) (p : Program) (rest : List Tok) (g : ℕ) → program g ts ≡ out_done p rest → Whole ts p rest
derived ts p rest g e = by (program g ts) (program_ok g ts) e
  where
    by : (o : Out Program) → Ok (Whole ts) o → o ≡ out_done p rest → Whole ts p rest
    by (out_done x r) (ok k) e = let a : x ≡ p = cc in let b : r ≡ rest = cc in rw (← a, ← b) k
    by (out_fail r n) no e = absurd cc
