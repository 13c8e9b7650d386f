-- An expression that is derived is read. Assumes nothing.
use Rattle.std.proofs.Common.{◌≡◌, ℕ, zero, suc, ◌+◌, ◌-◌, ◌<◌, ◌≤◌, Bool, true, false, not, ◌&&◌, ◌||◌, eqb, leb, List, ◌∷◌, ⊎_elim, sym, refl, ap, ◌∙◌, arith, le-ltb, eq-eqb, ne_eqb, eqb-true, leb-false}
use Rattle.std.proofs.lemmas.Bool.{lt-leb, not-false, and_cases, and_left, and_right, or_parts, or_from, or_left}
use Rattle.script.specs.declared.types.«Type».{«Type» as Ty}
use Rattle.script.specs.declared.types.«Type».TheVariants as type
use Rattle.script.specs.declared.types.Name.{Name}
use Rattle.script.specs.declared.types.Operator.{Operator}
use Rattle.script.specs.declared.types.Operator.TheVariants as operator
use Rattle.script.specs.declared.types.Comparison.{Comparison}
use Rattle.script.specs.declared.types.Comparison.TheVariants as comparison
use Rattle.script.specs.Tree as tree
use Rattle.script.specs.Tree.{Expr, Exprs, Cond}
use Rattle.tokens.specs.declared.types.Keyword.TheVariants as word
use Rattle.tokens.specs.declared.types.Mark.{Mark}
use Rattle.tokens.specs.declared.types.Mark.TheVariants as sign
use Rattle.tokens.specs.Spelling.{Symbol, constant, keyword, mark, Item, item}
use Rattle.grammar.specs.Tokens.{Tok, Is, IsName, offset, type_word, operator_mark, binds, comparison_mark}
use Rattle.grammar.specs.Grammar as rule
use Rattle.grammar.specs.Grammar.{Expression, Actuals, SomeActuals, Condition}
use Rattle.grammar.specs.Combine.{kind, kind_at, is, out_done, Parser, next, after, from, ret, bad, on, want, loop, separated, listed}
use Rattle.grammar.specs.Parse.{is_name, is_constant, is_type, binding, operates, compares, joining, joins, type_of, thing_expr, Got, got, Found, binary, goes, level, actuals, named, cast_to, grouped, operand_by, operand, expression, negation_by, merged, negation, condition}
use Rattle.grammar.proofs.Symbols.{never, Sharp, operates_sharp, operator_is, operator_binds, no_level}
use Rattle.grammar.proofs.Local.{on_else, on_it}

-- for enough gas
pub record Gives {X : Type 0} (p : ℕ → Parser X) (ts : List Tok) (x : X) (rest : List Tok) : Type 0 where
  pub gas : ℕ
  pub is : (g : ℕ) → gas ≤ g → p g ts ≡ out_done x rest

pub after_is : {X Y : Type 0} (p : Parser X) (f : X → Parser Y) (ts : List Tok) {x : X} {mid : List Tok} → p ts ≡ out_done x mid → after p f ts ≡ f x mid
unfolding after
after_is p f ts e = ap (λ o. next o f) e

pub from_is : {X Y : Type 0} (p : Parser X) (f : ℕ → X → Parser Y) (ts : List Tok) {x : X} {mid : List Tok} → p ts ≡ out_done x mid → from p f ts ≡ f (offset ts) x mid
unfolding from
from_is p f ts e = ap (λ o. next o (f (offset ts))) e

-- what its kind tells of a token that is this symbol
pub at_kind : {A : Type 0} {d : ℕ} {s : Symbol} {t : Tok} (f : ℕ → A) → Is d s t → f (kind t.symbol) ≡ f (kind s)
at_kind f i = ap (λ s. f (kind s)) i.symbol

-- a token that is this symbol is taken where the test passes, and left where it does not
pub take : {X : Type 0} {d : ℕ} {s : Symbol} (test : ℕ → Bool) (p : Item → Parser X) (q : Parser X) (t : Tok) (ts : List Tok) → test (kind s) ≡ true → Is d s t → on d test p q (t ∷ ts) ≡ p (item s t.at) ts
take {d = d} test p q t ts e i = on_it d test p q t ts (at_kind test i ∙ e) (le-ltb _ _ i.depth) i.counted ∙ ap (λ s. p (item s t.at) ts) i.symbol

pub skip : {X : Type 0} {d : ℕ} {s : Symbol} (test : ℕ → Bool) (p : Item → Parser X) (q : Parser X) (t : Tok) (ts : List Tok) → test (kind s) ≡ false → Is d s t → on d test p q (t ∷ ts) ≡ q (t ∷ ts)
unfolding on
skip test p q t ts e i = rw (at_kind test i ∙ e) refl

pub wanted : {X : Type 0} {d : ℕ} (m : Mark) (q : Parser X) (t : Tok) (ts : List Tok) → Is d (mark m) t → want d m q (t ∷ ts) ≡ q ts
wanted m q t ts i = take (is (mark m)) (λ i. q) bad t ts (eq-eqb (kind (mark m)) _ refl) i

pub loop_go : {X : Type 0} {d : ℕ} {s : Symbol} (test : ℕ → Bool) (f : X → Item → Parser X) (h : ℕ) (x : X) (t : Tok) (ts : List Tok) {y : X} {rest : List Tok} → test (kind s) ≡ true → Is d s t
    → f x (item s t.at) ts ≡ out_done y rest → loop d test f (suc h) x (t ∷ ts) ≡ loop d test f h y rest
unfolding loop
loop_go {d = d} {s = s} test f h x t ts e i k = take test (λ i. after (f x i) (loop d test f h)) (ret x) t ts e i ∙ after_is (f x (item s t.at)) (loop d test f h) ts k

pub loop_end : {X : Type 0} (d : ℕ) (test : ℕ → Bool) (f : X → Item → Parser X) (h : ℕ) (x : X) (ts : List Tok) → 0 < h → Sharp test → test (kind_at ts) ≡ false → loop d test f h x ts ≡ out_done x ts
unfolding loop
loop_end d test f zero x ts lt z e = absurd (omega arith)
loop_end d test f (suc h) x ts lt z e = on_else d test (λ i. after (f x i) (loop d test f h)) (ret x) ts z e

-- kinds
pub apart : (f : ℕ → Bool) (s : Symbol) (k : ℕ) → f (kind s) ≡ false → f k ≡ true → is s k ≡ false
apart f s k n y = ne_eqb k (kind s) (λ e. never (sym y ∙ ap f e ∙ n))

-- what binds, and by n at most
abbrev pub within : ℕ → ℕ → Bool
within n b = not (eqb b 0) && leb b n

-- the kinds that go on with an expression of level n, and with a condition
abbrev pub cont : ℕ → ℕ → Bool
cont n k = is (mark sign.LeftParen) k || within n (binding k)

abbrev pub cont_c : ℕ → ℕ → Bool
cont_c n k = cont 3 k || within n (joining k)

lower_by : (b n : ℕ) → within (suc n) b ≡ false → within n b ≡ false
lower_by b n e = ⊎_elim (λ i. and_left _ _ i) (λ i. and_right (not (eqb b 0)) _ (lt-leb b n (omega (arith, leb-false b (suc n) i)))) (and_cases (not (eqb b 0)) _ e)

above_by : (b n : ℕ) → within (suc n) b ≡ false → eqb b (suc n) ≡ false
above_by b n e = ⊎_elim (λ i. no_level n b (eqb-true b 0 (not-false _ i))) (λ i. ne_eqb b (suc n) (λ j. omega (arith, leb-false b (suc n) i))) (and_cases (not (eqb b 0)) _ e)

lower : (n k : ℕ) → cont (suc n) k ≡ false → cont n k ≡ false
lower n k e = let p = or_parts (is (mark sign.LeftParen) k) _ e in or_from _ _ p.0 (lower_by (binding k) n p.1)

above : (n k : ℕ) → cont (suc n) k ≡ false → operates (suc n) k ≡ false
above n k e = above_by (binding k) n (or_parts (is (mark sign.LeftParen) k) _ e).1

pub lower_c : (n k : ℕ) → cont_c (suc n) k ≡ false → cont_c n k ≡ false
lower_c n k e = let p = or_parts (cont 3 k) _ e in or_from _ _ p.0 (lower_by (joining k) n p.1)

pub above_c : (n k : ℕ) → cont_c (suc n) k ≡ false → joins (suc n) k ≡ false
above_c n k e = above_by (joining k) n (or_parts (cont 3 k) _ e).1

belongs : (n : ℕ) (o : Operator) → binds o ≡ suc n → cont n (kind (mark (operator_mark o))) ≡ false
belongs n operator.Multiply e = lt-leb 1 n (omega arith)
belongs n operator.Add e = lt-leb 2 n (omega arith)
belongs n operator.Subtract e = lt-leb 2 n (omega arith)
belongs n operator.Dot e = lt-leb 3 n (omega arith)

pub comparison_stops : (o : Comparison) → cont 3 (kind (mark (comparison_mark o))) ≡ false
comparison_stops comparison.LessEqual = refl
comparison_stops comparison.GreaterEqual = refl
comparison_stops comparison.Equal = refl
comparison_stops comparison.NotEqual = refl
comparison_stops comparison.Less = refl
comparison_stops comparison.Greater = refl

-- the kinds that an expression or a condition begins with
abbrev pub heads : ℕ → Bool
heads k = is_constant k || (is_name k || (is (keyword word.Nil) k || (is (mark sign.Minus) k || is (mark sign.LeftParen) k)))

abbrev pub heads_c : ℕ → Bool
heads_c k = heads k || is (mark sign.Not) k

pub no_type : (k : ℕ) → heads_c k ≡ true → is_type k ≡ false
no_type k h = rw (apart heads_c (keyword word.Int) k refl h, apart heads_c (keyword word.Ref) k refl h) (apart heads_c (keyword word.Q) k refl h)

pub headed : {n d : ℕ} {ts rest : List Tok} {e : Expr} → Expression n d ts e rest → heads (kind_at ts) ≡ true
headed (rule.nil i) = at_kind heads i
headed (rule.number i) = at_kind heads i
headed (rule.variable i) = at_kind heads i.is
headed (rule.negated i x) = at_kind heads i
headed (rule.cast i u v x) = at_kind heads i
headed (rule.call i u a v) = at_kind heads i.is
headed (rule.group i x u) = at_kind heads i
headed (rule.looser l x) = headed x
headed (rule.binary o b x i y) = headed x

pub headed_c : {n d : ℕ} {ts rest : List Tok} {c : Cond} → Condition n d ts c rest → heads_c (kind_at ts) ≡ true
headed_c {ts = ts} (rule.compared o x i y) = or_left (heads (kind_at ts)) _ (headed x)
headed_c (rule.negated i x) = at_kind heads_c i
headed_c (rule.group i x u) = at_kind heads_c i
headed_c (rule.looser l x) = headed_c x
headed_c (rule.both x i y) = headed_c x
headed_c (rule.either x i y) = headed_c x

-- the ways into an operand
module _ (m : Bool) (d g : ℕ) (p s : Parser Expr) (q : Parser (Got m)) (t : Tok) (ts : List Tok) where
  constant_in : {n : ℕ} → Is d (constant n) t → operand_by m d g p s q (t ∷ ts) ≡ out_done (got m (tree.constant t.at n)) ts
  constant_in i = take is_constant _ _ t ts refl i

  name_in : {x : Name} → IsName d x t → operand_by m d g p s q (t ∷ ts) ≡ after (named d g s x) (λ e. ret (got m e)) ts
  name_in i = skip is_constant _ _ t ts refl i.is ∙ take is_name _ _ t ts refl i.is ∙ ap (λ x. after (named d g s x) (λ e. ret (got m e)) ts) (sym i.range)

  nil_in : Is d (keyword word.Nil) t → operand_by m d g p s q (t ∷ ts) ≡ out_done (got m (tree.nil t.at)) ts
  nil_in i = skip is_constant _ _ t ts refl i ∙ skip is_name _ _ t ts refl i ∙ take (is (keyword word.Nil)) _ _ t ts refl i

  minus_in : Is d (mark sign.Minus) t → operand_by m d g p s q (t ∷ ts) ≡ after p (λ e. ret (got m (tree.negate t.at e))) ts
  minus_in i = skip is_constant _ _ t ts refl i ∙ skip is_name _ _ t ts refl i ∙ skip (is (keyword word.Nil)) _ _ t ts refl i ∙ take (is (mark sign.Minus)) _ _ t ts refl i

  paren_in : Is d (mark sign.LeftParen) t → operand_by m d g p s q (t ∷ ts) ≡ on d is_type (λ j. cast_to m d p t.at (type_of j.symbol)) (grouped d q) ts
  paren_in i = skip is_constant _ _ t ts refl i ∙ skip is_name _ _ t ts refl i ∙ skip (is (keyword word.Nil)) _ _ t ts refl i ∙ skip (is (mark sign.Minus)) _ _ t ts refl i ∙ take (is (mark sign.LeftParen)) _ _ t ts refl i

  pub group_in : {x : Got m} {u : Tok} {rest : List Tok} → Is d (mark sign.LeftParen) t → heads_c (kind_at ts) ≡ true → q ts ≡ out_done x (u ∷ rest) → Is d (mark sign.RightParen) u
      → operand_by m d g p s q (t ∷ ts) ≡ out_done x rest
  group_in {u = u} {rest = rest} i h e c = paren_in i ∙ on_else d is_type _ _ ts (refl, refl) (no_type (kind_at ts) h) ∙ after_is q _ ts e ∙ wanted sign.RightParen _ u rest c

pub type_is : (ty : Ty) → (is_type (kind (keyword (type_word ty))) ≡ true) × (type_of (keyword (type_word ty)) ≡ ty)
type_is type.Int = (refl, refl)
type_is type.Ref = (refl, refl)
type_is type.Q = (refl, refl)

cast_in : (m : Bool) (d g : ℕ) (p s : Parser Expr) (q : Parser (Got m)) (t u v : Tok) (ts : List Tok) (ty : Ty) {e : Expr} {rest : List Tok} → Is d (mark sign.LeftParen) t
    → Is d (keyword (type_word ty)) u → Is d (mark sign.RightParen) v → p ts ≡ out_done e rest → operand_by m d g p s q (t ∷ u ∷ v ∷ ts) ≡ out_done (got m (tree.cast t.at ty e)) rest
cast_in m d g p s q t u v ts ty {e = e} {rest = rest} i j c h =
    paren_in m d g p s q t (u ∷ v ∷ ts) i ∙ take is_type (λ j. cast_to m d p t.at (type_of j.symbol)) (grouped d q) u (v ∷ ts) (type_is ty).0 j
    ∙ wanted sign.RightParen _ v ts c ∙ after_is p _ ts h ∙ ap (λ y. out_done (got m (tree.cast t.at y e)) rest) (type_is ty).1

-- the first operand, and what stands in its parentheses
abbrev pub inner : (m : Bool) → ℕ → ℕ → Parser (Got m)
inner false g d = expression g d
inner true g d = condition false g d

abbrev pub base : (m : Bool) → ℕ → ℕ → Parser (Got m)
base false g d = operand g d
base true g d = merged g d (condition false g (suc d))

base_gives : (m : Bool) (d n : ℕ) (ts : List Tok) (x : Got m) (rest : List Tok) → ((g : ℕ) → n ≤ g → operand_by m d g (operand g (suc d)) (expression g (suc d)) (inner m g (suc d)) ts ≡ out_done x rest)
    → Gives (λ g. base m g d) ts x rest
unfolding operand
base_gives true d n ts x rest h = record { gas = n; is = h }
base_gives false d n ts x rest h = record { gas = suc n; is = by }
  where
    by : (g : ℕ) → suc n ≤ g → operand g d ts ≡ out_done x rest
    by zero l = absurd (omega arith)
    by (suc g) l = h g (omega arith)

abbrev pub level_by : (m : Bool) → ℕ → ℕ → ℕ → Parser (Got m)
level_by m n d g = level m d g (base m g d) (operand g d) n

goes_same : (m : Bool) (K L : Expr → Parser Expr) (e f : Expr) (ts rest : List Tok) → K e ts ≡ L f rest → goes m K (got m e) ts ≡ goes m L (got m f) rest
unfolding after
goes_same false K L e f ts rest h = h
goes_same true K L e f ts rest h = ap (λ o. next o (λ f. ret (thing_expr f))) h

goes_done : (m : Bool) (K : Expr → Parser Expr) (e f : Expr) (ts rest : List Tok) → K e ts ≡ out_done f rest → goes m K (got m e) ts ≡ out_done (got m f) rest
unfolding after
goes_done false K e f ts rest h = h
goes_done true K e f ts rest h = ap (λ o. next o (λ f. ret (thing_expr f))) h

-- the loop of level n + 1 has come to e, with n turns made
pub record Reach (m : Bool) (n d : ℕ) (ts : List Tok) (e : Expr) (rest : List Tok) : Type 0 where
  pub turns : ℕ
  pub gas : ℕ
  pub is : (g h : ℕ) → g ≡ turns + h → gas ≤ h → level_by m (suc n) d g ts ≡ goes m (loop d (operates (suc n)) (binary (level_by false n d g) (offset ts)) h) (got m e) rest

reach_start : (m : Bool) (n d : ℕ) (ts : List Tok) (e : Expr) (rest : List Tok) → Gives (λ g. level_by m n d g) ts (got m e) rest → Reach m n d ts e rest
reach_start m n d ts e rest r =
    record {
      turns = 0;
      gas = r.gas;
      is = λ g h q l. let z : g ≡ h = omega arith in from_is (level_by m n d g) _ ts (r.is g (omega arith)) ∙ ap (λ k. goes m (loop d (operates (suc n)) (binary (level_by false n d g) (offset ts)) k) (got m e) rest) z;
    }

reach_grow : (m : Bool) (n d : ℕ) (ts mid rest : List Tok) (e f : Expr) (t : Tok) (o : Operator) → Reach m n d ts e (t ∷ mid) → binds o ≡ suc n → Is d (mark (operator_mark o)) t
    → Gives (λ g. level_by false n d g) mid f rest → Reach m n d ts (tree.binary t.at (offset ts) o e f) rest
reach_grow m n d ts mid rest e f t o r b i k =
    record {
      turns = suc r.turns;
      gas = r.gas + k.gas;
      is = λ g h q l. r.is g (suc h) (omega arith) (omega arith)
          ∙ goes_same m _ _ e _ (t ∷ mid) rest (loop_go (operates (suc n)) _ h e t mid (eq-eqb _ _ (operator_binds o ∙ b)) i
          (after_is (level_by false n d g) _ mid (k.is g (omega arith)) ∙ ap (λ y. out_done (tree.binary t.at (offset ts) y e f) rest) (operator_is o)));
    }

reach_end : (m : Bool) (n d : ℕ) (ts : List Tok) (e : Expr) (rest : List Tok) → Reach m n d ts e rest → operates (suc n) (kind_at rest) ≡ false → Gives (λ g. level_by m (suc n) d g) ts (got m e) rest
reach_end m n d ts e rest r st =
    record {
      gas = suc (r.turns + r.gas);
      is = λ g l. r.is g (g - r.turns) (omega arith) (omega arith) ∙ goes_done m _ e e rest rest (loop_end d (operates (suc n)) _ (g - r.turns) e rest (omega arith) (operates_sharp n) st);
    }

-- actuals and formals
pub record Lists {X Y : Type 0} (d : ℕ) (p : ℕ → Parser X) (y : Y) (f : X → Y → Y) (ts : List Tok) (ys : Y) (rest : List Tok) : Type 0 where
  pub gas : ℕ
  pub is : (g h : ℕ) → gas ≤ g → gas ≤ h → separated d (p g) y f h ts ≡ out_done ys rest

module _ {X Y : Type 0} (d : ℕ) (p : ℕ → Parser X) (y : Y) (f : X → Y → Y) where
  pub lists_last : {ts : List Tok} {x : X} {rest : List Tok} → Gives p ts x rest → is (mark sign.Comma) (kind_at rest) ≡ false → Lists d p y f ts (f x y) rest
  unfolding separated
  lists_last {ts = ts} {x = x} {rest = rest} r st = record { gas = suc r.gas; is = by }
    where
      by : (g h : ℕ) → suc r.gas ≤ g → suc r.gas ≤ h → separated d (p g) y f h ts ≡ out_done (f x y) rest
      by g zero k l = absurd (omega arith)
      by g (suc h) k l = after_is (p g) _ ts (r.is g (omega arith)) ∙ on_else d (is (mark sign.Comma)) _ _ rest (refl, refl) st

  pub lists_more : {ts mid rest : List Tok} {t : Tok} {x : X} {ys : Y} → Gives p ts x (t ∷ mid) → Is d (mark sign.Comma) t → Lists d p y f mid ys rest → Lists d p y f ts (f x ys) rest
  unfolding separated
  lists_more {ts = ts} {mid = mid} {rest = rest} {t = t} {x = x} {ys = ys} r c k = record { gas = suc (r.gas + k.gas); is = by }
    where
      by : (g h : ℕ) → suc (r.gas + k.gas) ≤ g → suc (r.gas + k.gas) ≤ h → separated d (p g) y f h ts ≡ out_done (f x ys) rest
      by g zero i l = absurd (omega arith)
      by g (suc h) i l = after_is (p g) _ ts (r.is g (omega arith)) ∙ take (is (mark sign.Comma)) _ _ t mid refl c ∙ after_is (separated d (p g) y f h) _ mid (k.is g h (omega arith) (omega arith))

pub listed_none : {X Y : Type 0} (d : ℕ) (p : ℕ → Parser X) (y : Y) (f : X → Y → Y) (t : Tok) (rest : List Tok) → Is d (mark sign.RightParen) t → Gives (λ g. listed d (p g) y f g) (t ∷ rest) y rest
listed_none d p y f t rest c = record { gas = 0; is = λ g l. take (is (mark sign.RightParen)) _ _ t rest refl c }

pub listed_some : {X Y : Type 0} (d : ℕ) (p : ℕ → Parser X) (y : Y) (f : X → Y → Y) (t : Tok) (ts rest : List Tok) (ys : Y) → is (mark sign.RightParen) (kind_at ts) ≡ false
    → Lists (suc d) p y f ts ys (t ∷ rest) → Is d (mark sign.RightParen) t → Gives (λ g. listed d (p g) y f g) ts ys rest
listed_some d p y f t ts rest ys n r c =
    record { gas = r.gas; is = λ g l. on_else d (is (mark sign.RightParen)) _ _ ts (refl, refl) n ∙ after_is (separated (suc d) (p g) y f g) _ ts (r.is g g l l) ∙ wanted sign.RightParen _ t rest c }

-- expressions
negated_gives : (m : Bool) (d : ℕ) (t : Tok) (ts : List Tok) (e : Expr) (rest : List Tok) → Is d (mark sign.Minus) t → Gives (λ g. operand g (suc d)) ts e rest
    → Gives (λ g. base m g d) (t ∷ ts) (got m (tree.negate t.at e)) rest
negated_gives m d t ts e rest i r = base_gives m d r.gas (t ∷ ts) _ rest (λ g l. minus_in m d g _ _ _ t ts i ∙ after_is (operand g (suc d)) _ ts (r.is g l))

cast_gives : (m : Bool) (d : ℕ) (t u v : Tok) (ts : List Tok) (ty : Ty) (e : Expr) (rest : List Tok) → Is d (mark sign.LeftParen) t → Is d (keyword (type_word ty)) u → Is d (mark sign.RightParen) v
    → Gives (λ g. operand g (suc d)) ts e rest → Gives (λ g. base m g d) (t ∷ u ∷ v ∷ ts) (got m (tree.cast t.at ty e)) rest
cast_gives m d t u v ts ty e rest i j c r = base_gives m d r.gas (t ∷ u ∷ v ∷ ts) _ rest (λ g l. cast_in m d g (operand g (suc d)) _ _ t u v ts ty i j c (r.is g l))

call_gives : (m : Bool) (d : ℕ) (t u : Tok) (x : Name) (ts : List Tok) (es : Exprs) (rest : List Tok) → IsName d x t → Is d (mark sign.LeftParen) u
    → Gives (λ g. actuals d g (expression g (suc d))) ts es rest → Gives (λ g. base m g d) (t ∷ u ∷ ts) (got m (tree.call x es)) rest
call_gives m d t u x ts es rest i j r =
    base_gives m d r.gas (t ∷ u ∷ ts) _ rest (λ g l. name_in m d g _ _ _ t (u ∷ ts) i
    ∙ after_is (named d g (expression g (suc d)) x) _ (u ∷ ts) (take (is (mark sign.LeftParen)) _ _ u ts refl j ∙ after_is (actuals d g (expression g (suc d))) _ ts (r.is g l)))

variable_gives : (m : Bool) (d : ℕ) (t : Tok) (x : Name) (ts : List Tok) → IsName d x t → is (mark sign.LeftParen) (kind_at ts) ≡ false → Gives (λ g. base m g d) (t ∷ ts) (got m (tree.variable x)) ts
variable_gives m d t x ts i st = base_gives m d 0 (t ∷ ts) _ ts (λ g l. name_in m d g _ _ _ t ts i ∙ after_is (named d g (expression g (suc d)) x) _ ts (on_else d (is (mark sign.LeftParen)) _ _ ts (refl, refl) st))

group_gives : (m : Bool) (d : ℕ) (t u : Tok) (ts : List Tok) (x : Got m) (rest : List Tok) → Is d (mark sign.LeftParen) t → Is d (mark sign.RightParen) u → heads_c (kind_at ts) ≡ true
    → Gives (λ g. inner m g (suc d)) ts x (u ∷ rest) → Gives (λ g. base m g d) (t ∷ ts) x rest
group_gives m d t u ts x rest i c h r = base_gives m d r.gas (t ∷ ts) x rest (λ g l. group_in m d g _ _ _ t ts i h (r.is g l) c)

pub negation_gives : (m : Bool) (d n : ℕ) (ts : List Tok) (x : Found m) (rest : List Tok)
    → ((g : ℕ) → n ≤ g → negation_by m d (level_by true 3 d g) (expression g d) (negation true g (suc d)) ts ≡ out_done x rest) → Gives (λ g. negation m g d) ts x rest
unfolding negation
negation_gives m d n ts x rest h = record { gas = suc n; is = by }
  where
    by : (g : ℕ) → suc n ≤ g → negation m g d ts ≡ out_done x rest
    by zero l = absurd (omega arith)
    by (suc g) l = h g (omega arith)

-- an expression where a condition may stand
pub thing_gives : (d : ℕ) (ts : List Tok) (e : Expr) (rest : List Tok) → is (mark sign.Not) (kind_at ts) ≡ false → compares (kind_at rest) ≡ false → Gives (λ g. level_by true 3 d g) ts (thing_expr e) rest
    → Gives (λ g. condition false g d) ts (thing_expr e) rest
thing_gives d ts e rest n st r =
    let k = negation_gives false d r.gas ts (thing_expr e) rest (λ g l. on_else d (is (mark sign.Not)) _ _ ts (refl, refl) n ∙ after_is (level_by true 3 d g) _ ts (r.is g l) ∙ on_else d compares _ _ rest (refl, refl) st) in
    record { gas = k.gas; is = λ g l. after_is _ _ ts (after_is (negation false g d) _ ts (k.is g l)) }

mutual
  pub comp : (m : Bool) {n d : ℕ} {ts : List Tok} {e : Expr} {rest : List Tok} → Expression n d ts e rest → cont n (kind_at rest) ≡ false → Gives (λ g. level_by m n d g) ts (got m e) rest
  comp m (rule.nil {d = d} {t = t} {ts = ts} i) st = base_gives m d 0 (t ∷ ts) _ ts (λ g l. nil_in m d g _ _ _ t ts i)
  comp m (rule.number {d = d} {t = t} {ts = ts} i) st = base_gives m d 0 (t ∷ ts) _ ts (λ g l. constant_in m d g _ _ _ t ts i)
  comp m (rule.variable {d = d} {x = x} {t = t} {ts = ts} i) st = variable_gives m d t x ts i (or_parts (is (mark sign.LeftParen) (kind_at ts)) _ st).0
  comp m (rule.negated {d = d} {t = t} {ts = ts} {rest = rest} {e = e} i x) st = negated_gives m d t ts e rest i (comp false x st)
  comp m (rule.cast {d = d} {ty = ty} {t = t} {u = u} {v = v} {ts = ts} {rest = rest} {e = e} i j c x) st = cast_gives m d t u v ts ty e rest i j c (comp false x st)
  comp m (rule.call {d = d} {x = x} {t = t} {u = u} {ts = ts} {rest = rest} {es = es} i j a c) st = call_gives m d t u x ts es rest i j (all_actuals a c)
  comp false (rule.group {d = d} {t = t} {u = u} {ts = ts} {rest = rest} {e = e} i x c) st =
      group_gives false d t u ts e rest i c (or_left (heads (kind_at ts)) _ (headed x)) (comp false x (at_kind (cont 3) c))
  comp true (rule.group {d = d} {t = t} {u = u} {ts = ts} {rest = rest} {e = e} i x c) st =
      group_gives true d t u ts (thing_expr e) rest i c (or_left (heads (kind_at ts)) _ (headed x))
      (thing_gives (suc d) ts e (u ∷ rest) (apart heads (mark sign.Not) (kind_at ts) refl (headed x)) (at_kind compares c) (comp true x (at_kind (cont 3) c)))
  comp m (rule.looser {k = n} {d = d} {ts = ts} {rest = rest} {e = e} l x) st =
      reach_end m n d ts e rest (reach_start m n d ts e rest (comp m x (lower n (kind_at rest) st))) (above n (kind_at rest) st)
  comp m (rule.binary {k = n} {d = d} {t = t} {ts = ts} {mid = mid} {rest = rest} {e = e} {f = f} o b x i y) st =
      reach_end m n d ts _ rest (reach_grow m n d ts mid rest e f t o (reach m x (at_kind (cont n) i ∙ belongs n o b)) b i (comp false y (lower n (kind_at rest) st))) (above n (kind_at rest) st)

  reach : (m : Bool) {n d : ℕ} {ts : List Tok} {e : Expr} {rest : List Tok} → Expression (suc n) d ts e rest → cont n (kind_at rest) ≡ false → Reach m n d ts e rest
  reach m (rule.looser {k = n} {d = d} {ts = ts} {rest = rest} {e = e} l x) st = reach_start m n d ts e rest (comp m x st)
  reach m (rule.binary {k = n} {d = d} {t = t} {ts = ts} {mid = mid} {rest = rest} {e = e} {f = f} o b x i y) st =
      reach_grow m n d ts mid rest e f t o (reach m x (at_kind (cont n) i ∙ belongs n o b)) b i (comp false y st)

  pub all_actuals : {d : ℕ} {ts : List Tok} {es : Exprs} {t : Tok} {rest : List Tok} → Actuals (suc d) ts es (t ∷ rest) → Is d (mark sign.RightParen) t → Gives (λ g. actuals d g (expression g (suc d))) ts es rest
  all_actuals {d = d} {t = t} {rest = rest} rule.no_actual c = listed_none d (λ g. expression g (suc d)) tree.none tree.more t rest c
  all_actuals {d = d} {ts = ts} {es = es} {t = t} {rest = rest} (rule.actuals a) c =
      listed_some d (λ g. expression g (suc d)) tree.none tree.more t ts rest es (actuals_begin a) (some_actuals a (at_kind (cont 3) c) (at_kind (is (mark sign.Comma)) c)) c

  some_actuals : {d : ℕ} {ts : List Tok} {es : Exprs} {rest : List Tok} → SomeActuals d ts es rest → cont 3 (kind_at rest) ≡ false → is (mark sign.Comma) (kind_at rest) ≡ false
      → Lists d (λ g. expression g d) tree.none tree.more ts es rest
  some_actuals {d = d} (rule.last_actual x) st n = lists_last d (λ g. expression g d) tree.none tree.more (comp false x st) n
  some_actuals {d = d} (rule.next_actual x c a) st n = lists_more d (λ g. expression g d) tree.none tree.more (comp false x (at_kind (cont 3) c)) c (some_actuals a st n)

  actuals_begin : {d : ℕ} {ts : List Tok} {es : Exprs} {rest : List Tok} → SomeActuals d ts es rest → is (mark sign.RightParen) (kind_at ts) ≡ false
  actuals_begin {ts = ts} (rule.last_actual x) = apart heads (mark sign.RightParen) (kind_at ts) refl (headed x)
  actuals_begin {ts = ts} (rule.next_actual x c a) = apart heads (mark sign.RightParen) (kind_at ts) refl (headed x)
