-- A condition, a statement and a program that is derived is read. Assumes nothing.
use Rattle.std.proofs.Common.{◌≡◌, ℕ, zero, suc, ◌+◌, ◌-◌, ◌≤◌, Bool, true, false, eqb, List, [], ◌∷◌, sym, refl, ap, ◌∙◌, arith}
use Rattle.std.proofs.lemmas.Bool.{false_from_ne_true, or_parts}
use Rattle.script.specs.declared.types.«Type».{«Type» as Ty}
use Rattle.script.specs.declared.types.Name.{Name}
use Rattle.script.specs.declared.types.Declarator.{Declarator}
use Rattle.script.specs.declared.types.Comparison.{Comparison}
use Rattle.script.specs.Tree as tree
use Rattle.script.specs.Tree.{Expr, Exprs, Cond, Stmt, Stmts, Fun, Program}
use Rattle.tokens.specs.declared.types.Keyword.TheVariants as word
use Rattle.tokens.specs.declared.types.Mark.TheVariants as sign
use Rattle.tokens.specs.Spelling.{Symbol, name, keyword, mark, item}
use Rattle.grammar.specs.Tokens.{Tok, Is, IsName, offset, first, type_word, comparison_mark}
use Rattle.grammar.specs.Grammar as rule
use Rattle.grammar.specs.Grammar.{Declares, Condition, Statement, Statements, SomeFormals, Formals, Function}
use Rattle.grammar.specs.Combine.{kind, kind_at, is, out_done, Parser, next, after, ret, bad, on, want, peek, loop, many, ends}
use Rattle.grammar.specs.Parse.{is_name, is_type, declares, compares, joins, begins, name_of, type_of, join_of, Thing, thing_expr, thing_cond, Found, found, typed, declarator, level, actuals, operand, expression, tested, joined, holds, condition_by, negation, condition, ended, declaration, assignment, otherwise, tests, statement_by, statement, statements, formals, function, program}
use Rattle.grammar.proofs.Symbols.{joins_sharp, only, comparison_is, comparison_tests}
use Rattle.grammar.proofs.Local.{on_else}
use Rattle.grammar.proofs.Sound.{Functions, no_function, one_function, Whole}
use Rattle.grammar.proofs.Complete.{Gives, at_kind, after_is, from_is, take, skip, wanted, loop_go, loop_end, apart, cont, cont_c, lower_c, above_c, comparison_stops, heads, heads_c, headed, headed_c, group_in, type_is, level_by, Lists, lists_last, lists_more, listed_none, listed_some, negation_gives, comp, all_actuals}

-- conditions
tested_is : (m : Bool) (d : ℕ) (s : Parser Expr) (e f : Expr) (t : Tok) (mid rest : List Tok) (o : Comparison) → Is d (mark (comparison_mark o)) t → s mid ≡ out_done f rest
    → tested m d s (thing_expr e) (t ∷ mid) ≡ out_done (found m (tree.compare t.at o e f)) rest
tested_is true d s e f t mid rest o i h = take compares _ _ t mid (comparison_tests o) i ∙ after_is s _ mid h ∙ ap (λ y. out_done (tree.compare t.at y e f) rest) (comparison_is o)
tested_is false d s e f t mid rest o i h = take compares _ _ t mid (comparison_tests o) i ∙ after_is s _ mid h ∙ ap (λ y. out_done (thing_cond (tree.compare t.at y e f)) rest) (comparison_is o)

compared_gives : (m : Bool) (d : ℕ) (t : Tok) (ts mid rest : List Tok) (e f : Expr) (o : Comparison) → is (mark sign.Not) (kind_at ts) ≡ false → Is d (mark (comparison_mark o)) t
    → Gives (λ g. level_by true 3 d g) ts (thing_expr e) (t ∷ mid) → Gives (λ g. expression g d) mid f rest → Gives (λ g. negation m g d) ts (found m (tree.compare t.at o e f)) rest
compared_gives m d t ts mid rest e f o n i a b =
    negation_gives m d (a.gas + b.gas) ts _ rest (λ g l.
    on_else d (is (mark sign.Not)) _ _ ts (refl, refl) n ∙ after_is (level_by true 3 d g) _ ts (a.is g (omega arith)) ∙ tested_is m d (expression g d) e f t mid rest o i (b.is g (omega arith)))

negated_gives : (m : Bool) (d : ℕ) (t : Tok) (ts rest : List Tok) (c : Cond) → Is d (mark sign.Not) t → Gives (λ g. negation true g (suc d)) ts c rest
    → Gives (λ g. negation m g d) (t ∷ ts) (found m (tree.negated t.at c)) rest
negated_gives m d t ts rest c i r = negation_gives m d r.gas (t ∷ ts) _ rest (λ g l. take (is (mark sign.Not)) _ _ t ts refl i ∙ after_is (negation true g (suc d)) _ ts (r.is g l))

-- a condition stays what it is through the levels of expressions
level_stays : (d g : ℕ) (a : Parser Thing) (p : Parser Expr) (n : ℕ) (ts : List Tok) (c : Cond) (rest : List Tok) → a ts ≡ out_done (thing_cond c) rest → level true d g a p n ts ≡ out_done (thing_cond c) rest
level_stays d g a p zero ts c rest h = h
level_stays d g a p (suc n) ts c rest h = from_is (level true d g a p n) _ ts (level_stays d g a p n ts c rest h)

group_gives : (m : Bool) (d : ℕ) (t u : Tok) (ts rest : List Tok) (c : Cond) → Is d (mark sign.LeftParen) t → Is d (mark sign.RightParen) u → heads_c (kind_at ts) ≡ true
    → Gives (λ g. condition false g (suc d)) ts (thing_cond c) (u ∷ rest) → Gives (λ g. negation m g d) (t ∷ ts) (found m c) rest
group_gives m d t u ts rest c i k h r =
    negation_gives m d r.gas (t ∷ ts) _ rest (λ g l. skip (is (mark sign.Not)) _ _ t ts refl i
    ∙ after_is (level_by true 3 d g) _ (t ∷ ts) (level_stays d g _ (operand g d) 3 (t ∷ ts) c rest (group_in true d g _ _ _ t ts i h (r.is g l) k)))

abbrev level_in : (m : Bool) → ℕ → ℕ → ℕ → Parser (Found m)
level_in m n d g = condition_by m d g (negation m g d) (negation true g d) n

holds_same : (m : Bool) (K L : Cond → Parser Cond) (c e : Cond) (ts rest : List Tok) → K c ts ≡ L e rest → holds m K (found m c) ts ≡ holds m L (found m e) rest
unfolding after
holds_same true K L c e ts rest h = h
holds_same false K L c e ts rest h = ap (λ o. next o (λ e. ret (thing_cond e))) h

holds_done : (m : Bool) (K : Cond → Parser Cond) (c e : Cond) (ts rest : List Tok) → K c ts ≡ out_done e rest → holds m K (found m c) ts ≡ out_done (found m e) rest
unfolding after
holds_done true K c e ts rest h = h
holds_done false K c e ts rest h = ap (λ o. next o (λ e. ret (thing_cond e))) h

-- the loop of level n + 1 has come to c
pub record Reach (m : Bool) (n d : ℕ) (ts : List Tok) (c : Cond) (rest : List Tok) : Type 0 where
  pub turns : ℕ
  pub gas : ℕ
  pub is : (g h : ℕ) → g ≡ turns + h → gas ≤ h → level_in m (suc n) d g ts ≡ holds m (loop d (joins (suc n)) (joined (level_in true n d g)) h) (found m c) rest

reach_start : (m : Bool) (n d : ℕ) (ts : List Tok) (c : Cond) (rest : List Tok) → Gives (λ g. level_in m n d g) ts (found m c) rest → Reach m n d ts c rest
reach_start m n d ts c rest r =
    record {
      turns = 0;
      gas = r.gas;
      is = λ g h q l. let z : g ≡ h = omega arith in after_is (level_in m n d g) _ ts (r.is g (omega arith)) ∙ ap (λ k. holds m (loop d (joins (suc n)) (joined (level_in true n d g)) k) (found m c) rest) z;
    }

reach_grow : (m : Bool) (n d : ℕ) (ts mid rest : List Tok) (c e : Cond) (t : Tok) (s : Symbol) → Reach m n d ts c (t ∷ mid) → joins (suc n) (kind s) ≡ true → Is d s t
    → Gives (λ g. level_in true n d g) mid e rest → Reach m n d ts (join_of s t.at c e) rest
reach_grow m n d ts mid rest c e t s r b i k =
    record {
      turns = suc r.turns;
      gas = r.gas + k.gas;
      is = λ g h q l. r.is g (suc h) (omega arith) (omega arith)
          ∙ holds_same m _ _ c _ (t ∷ mid) rest (loop_go (joins (suc n)) _ h c t mid b i (after_is (level_in true n d g) _ mid (k.is g (omega arith))));
    }

reach_end : (m : Bool) (n d : ℕ) (ts : List Tok) (c : Cond) (rest : List Tok) → Reach m n d ts c rest → joins (suc n) (kind_at rest) ≡ false → Gives (λ g. level_in m (suc n) d g) ts (found m c) rest
reach_end m n d ts c rest r st =
    record {
      gas = suc (r.turns + r.gas);
      is = λ g l. r.is g (g - r.turns) (omega arith) (omega arith) ∙ holds_done m _ c c rest rest (loop_end d (joins (suc n)) _ (g - r.turns) c rest (omega arith) (joins_sharp n) st);
    }

mutual
  pub conds : (m : Bool) {n d : ℕ} {ts : List Tok} {c : Cond} {rest : List Tok} → Condition n d ts c rest → cont_c n (kind_at rest) ≡ false → Gives (λ g. level_in m n d g) ts (found m c) rest
  conds m (rule.compared {d = d} {t = t} {ts = ts} {mid = mid} {rest = rest} {e = e} {f = f} o x i y) st =
      compared_gives m d t ts mid rest e f o (apart heads (mark sign.Not) (kind_at ts) refl (headed x)) i (comp true x (at_kind (cont 3) i ∙ comparison_stops o)) (comp false y (or_parts (cont 3 (kind_at rest)) _ st).0)
  conds m (rule.negated {d = d} {t = t} {ts = ts} {rest = rest} {c = c} i x) st = negated_gives m d t ts rest c i (conds true x st)
  conds m (rule.group {d = d} {t = t} {u = u} {ts = ts} {rest = rest} {c = c} i x k) st = group_gives m d t u ts rest c i k (headed_c x) (conds false x (at_kind (cont_c 2) k))
  conds m (rule.looser {k = n} {d = d} {ts = ts} {rest = rest} {c = c} l x) st =
      reach_end m n d ts c rest (reach_start m n d ts c rest (conds m x (lower_c n (kind_at rest) st))) (above_c n (kind_at rest) st)
  conds m (rule.both {d = d} {t = t} {ts = ts} {mid = mid} {rest = rest} {c = c} {e = e} x i y) st =
      reach_end m 0 d ts _ rest (reach_grow m 0 d ts mid rest c e t (mark sign.AndAnd) (reach m x (at_kind (cont_c 0) i)) refl i (conds true y (lower_c 0 (kind_at rest) st))) (above_c 0 (kind_at rest) st)
  conds m (rule.either {d = d} {t = t} {ts = ts} {mid = mid} {rest = rest} {c = c} {e = e} x i y) st =
      reach_end m 1 d ts _ rest (reach_grow m 1 d ts mid rest c e t (mark sign.OrOr) (reach m x (at_kind (cont_c 1) i)) refl i (conds true y (lower_c 1 (kind_at rest) st))) (above_c 1 (kind_at rest) st)

  reach : (m : Bool) {n d : ℕ} {ts : List Tok} {c : Cond} {rest : List Tok} → Condition (suc n) d ts c rest → cont_c n (kind_at rest) ≡ false → Reach m n d ts c rest
  reach m (rule.looser {k = n} {d = d} {ts = ts} {rest = rest} {c = c} l x) st = reach_start m n d ts c rest (conds m x st)
  reach m (rule.both {d = d} {t = t} {ts = ts} {mid = mid} {rest = rest} {c = c} {e = e} x i y) st =
      reach_grow m 0 d ts mid rest c e t (mark sign.AndAnd) (reach m x (at_kind (cont_c 0) i)) refl i (conds true y st)
  reach m (rule.either {d = d} {t = t} {ts = ts} {mid = mid} {rest = rest} {c = c} {e = e} x i y) st =
      reach_grow m 1 d ts mid rest c e t (mark sign.OrOr) (reach m x (at_kind (cont_c 1) i)) refl i (conds true y st)

-- declarations
typed_is : (d : ℕ) (m : Bool) (t u : Tok) (ts : List Tok) (ty : Ty) (x : Name) → Is d (keyword (type_word ty)) t → IsName d x u → typed d m (t ∷ u ∷ ts) ≡ out_done (record { mutable = m; ty = ty; name = x }) ts
typed_is d m t u ts ty x i n =
    take is_type (λ i. on d is_name (λ j. ret (record { mutable = m; ty = type_of i.symbol; name = name_of j })) bad) bad t (u ∷ ts) (type_is ty).0 i
    ∙ take is_name _ _ u ts refl n.is
    ∙ ap (λ y. out_done (record { mutable = m; ty = y; name = name_of (item (name n.spelling) u.at) }) ts) (type_is ty).1
    ∙ ap (λ y. out_done (record { mutable = m; ty = ty; name = y }) ts) (sym n.range)

not_mutable : (ty : Ty) → is (keyword word.Mutable) (kind (keyword (type_word ty))) ≡ false
not_mutable ty = apart is_type (keyword word.Mutable) (kind (keyword (type_word ty))) refl (type_is ty).0

declarator_is : {d : ℕ} {ts rest : List Tok} {x : Declarator} → Declares d ts x rest → declarator d ts ≡ out_done x rest
declarator_is {d = d} (rule.immutable {ty = ty} {x = x} {t = t} {u = u} {ts = ts} i n) = skip (is (keyword word.Mutable)) _ _ t (u ∷ ts) (not_mutable ty) i ∙ typed_is d false t u ts ty x i n
declarator_is {d = d} (rule.mutable {ty = ty} {x = x} {m = m} {t = t} {u = u} {ts = ts} k i n) = take (is (keyword word.Mutable)) _ _ m (t ∷ u ∷ ts) refl k ∙ typed_is d true t u ts ty x i n

type_declares : (ty : Ty) → declares (kind (keyword (type_word ty))) ≡ true
type_declares ty = rw (not_mutable ty) (type_is ty).0

declares_at : {d : ℕ} {ts rest : List Tok} {x : Declarator} → Declares d ts x rest → declares (kind_at ts) ≡ true
declares_at (rule.immutable {ty = ty} i n) = at_kind declares i ∙ type_declares ty
declares_at (rule.mutable k i n) = at_kind declares k

-- statements
ended_is : (d : ℕ) (e : Parser Expr) (f : Expr → Stmt) (ts : List Tok) (x : Expr) (t : Tok) (rest : List Tok) → e ts ≡ out_done x (t ∷ rest) → Is d (mark sign.Semicolon) t → ended d e f ts ≡ out_done (f x) rest
ended_is d e f ts x t rest h c = after_is e _ ts h ∙ wanted sign.Semicolon _ t rest c

tests_is : (d : ℕ) (c : Parser Cond) (b : Parser Stmt) (k : Cond → Stmt → Parser Stmt) (u v : Tok) (ts mid rest : List Tok) (x : Cond) (y : Stmt) → Is d (mark sign.LeftParen) u
    → c ts ≡ out_done x (v ∷ mid) → Is d (mark sign.RightParen) v → b mid ≡ out_done y rest → tests d c b k (u ∷ ts) ≡ k x y rest
tests_is d c b k u v ts mid rest x y i h j q = wanted sign.LeftParen _ u ts i ∙ after_is c _ ts h ∙ wanted sign.RightParen _ v mid j ∙ after_is b _ mid q

-- the ways into a statement
module _ (d g : ℕ) (e s : Parser Expr) (c : Parser Cond) (b : Parser Stmt) (ss : Parser Stmts) (t : Tok) (ts : List Tok) where
  name_in : {x : Name} → IsName d x t → statement_by d g e s c b ss (t ∷ ts) ≡ assignment d g e s x ts
  name_in i = take is_name _ _ t ts refl i.is ∙ ap (λ x. assignment d g e s x ts) (sym i.range)

  if_in : Is d (keyword word.If) t → statement_by d g e s c b ss (t ∷ ts) ≡ tests d c b (otherwise d t.at b) ts
  if_in i = skip is_name _ _ t ts refl i ∙ take (is (keyword word.If)) _ _ t ts refl i

  while_in : Is d (keyword word.While) t → statement_by d g e s c b ss (t ∷ ts) ≡ tests d c b (λ x y. ret (tree.while t.at x y)) ts
  while_in i = skip is_name _ _ t ts refl i ∙ skip (is (keyword word.If)) _ _ t ts refl i ∙ take (is (keyword word.While)) _ _ t ts refl i

  free_in : Is d (keyword word.Free) t → statement_by d g e s c b ss (t ∷ ts) ≡ ended d e (tree.free t.at) ts
  free_in i = skip is_name _ _ t ts refl i ∙ skip (is (keyword word.If)) _ _ t ts refl i ∙ skip (is (keyword word.While)) _ _ t ts refl i ∙ take (is (keyword word.Free)) _ _ t ts refl i

  print_in : Is d (keyword word.Print) t → statement_by d g e s c b ss (t ∷ ts) ≡ ended d e (tree.print t.at) ts
  print_in i =
      skip is_name _ _ t ts refl i ∙ skip (is (keyword word.If)) _ _ t ts refl i ∙ skip (is (keyword word.While)) _ _ t ts refl i ∙ skip (is (keyword word.Free)) _ _ t ts refl i ∙ take (is (keyword word.Print)) _ _ t ts refl i

  return_in : Is d (keyword word.Return) t → statement_by d g e s c b ss (t ∷ ts) ≡ ended d e (tree.return t.at) ts
  return_in i =
      skip is_name _ _ t ts refl i ∙ skip (is (keyword word.If)) _ _ t ts refl i ∙ skip (is (keyword word.While)) _ _ t ts refl i
      ∙ skip (is (keyword word.Free)) _ _ t ts refl i ∙ skip (is (keyword word.Print)) _ _ t ts refl i ∙ take (is (keyword word.Return)) _ _ t ts refl i

  block_in : Is d (mark sign.LeftBrace) t → statement_by d g e s c b ss (t ∷ ts) ≡ after ss (λ x. want d sign.RightBrace (ret (tree.block t.at x))) ts
  block_in i =
      skip is_name _ _ t ts refl i ∙ skip (is (keyword word.If)) _ _ t ts refl i ∙ skip (is (keyword word.While)) _ _ t ts refl i
      ∙ skip (is (keyword word.Free)) _ _ t ts refl i ∙ skip (is (keyword word.Print)) _ _ t ts refl i ∙ skip (is (keyword word.Return)) _ _ t ts refl i ∙ take (is (mark sign.LeftBrace)) _ _ t ts refl i

declares_in : (d g : ℕ) (e s : Parser Expr) (c : Parser Cond) (b : Parser Stmt) (ss : Parser Stmts) (ts : List Tok) → declares (kind_at ts) ≡ true → statement_by d g e s c b ss ts ≡ declaration d e ts
declares_in d g e s c b ss ts h =
    on_else d is_name _ _ ts (refl, refl) (no (name []) refl) ∙ on_else d (is (keyword word.If)) _ _ ts (refl, refl) (no (keyword word.If) refl) ∙ on_else d (is (keyword word.While)) _ _ ts (refl, refl) (no (keyword word.While) refl)
    ∙ on_else d (is (keyword word.Free)) _ _ ts (refl, refl) (no (keyword word.Free) refl) ∙ on_else d (is (keyword word.Print)) _ _ ts (refl, refl) (no (keyword word.Print) refl)
    ∙ on_else d (is (keyword word.Return)) _ _ ts (refl, refl) (no (keyword word.Return) refl) ∙ on_else d (is (mark sign.LeftBrace)) _ _ ts (refl, refl) (no (mark sign.LeftBrace) refl)
  where
    no : (s : Symbol) → declares (kind s) ≡ false → is s (kind_at ts) ≡ false
    no s n = apart declares s (kind_at ts) n h

statement_gives : (d n : ℕ) (ts : List Tok) (x : Stmt) (rest : List Tok)
    → ((g : ℕ) → n ≤ g → statement_by d g (expression g d) (expression g (suc d)) (condition true g (suc d)) (statement g (suc d)) (statements g (suc d)) ts ≡ out_done x rest)
    → Gives (λ g. statement g d) ts x rest
unfolding statement
statement_gives d n ts x rest h = record { gas = suc n; is = by }
  where
    by : (g : ℕ) → suc n ≤ g → statement g d ts ≡ out_done x rest
    by zero l = absurd (omega arith)
    by (suc g) l = h g (omega arith)

declares_gives : (d : ℕ) (t u : Tok) (ts mid rest : List Tok) (x : Declarator) (e : Expr) → Declares d ts x (t ∷ mid) → Is d (mark sign.Assign) t → Gives (λ g. expression g d) mid e (u ∷ rest)
    → Is d (mark sign.Semicolon) u → Gives (λ g. statement g d) ts (tree.declare (offset ts) x e) rest
declares_gives d t u ts mid rest x e h a r c =
    statement_gives d r.gas ts _ rest (λ g l. declares_in d g _ _ _ _ _ ts (declares_at h) ∙ from_is (declarator d) _ ts (declarator_is h) ∙ wanted sign.Assign _ t mid a ∙ ended_is d (expression g d) (tree.declare (offset ts) x) mid e u rest (r.is g l) c)

assigns_gives : (d : ℕ) (t u v : Tok) (ts rest : List Tok) (x : Name) (e : Expr) → IsName d x t → Is d (mark sign.Assign) u → Gives (λ g. expression g d) ts e (v ∷ rest) → Is d (mark sign.Semicolon) v
    → Gives (λ g. statement g d) (t ∷ u ∷ ts) (tree.assign x e) rest
assigns_gives d t u v ts rest x e n a r c =
    statement_gives d r.gas (t ∷ u ∷ ts) _ rest (λ g l. name_in d g _ _ _ _ _ t (u ∷ ts) n ∙ take (is (mark sign.Assign)) _ _ u ts refl a ∙ ended_is d (expression g d) (tree.assign x) ts e v rest (r.is g l) c)

calls_gives : (d : ℕ) (t u w : Tok) (ts rest : List Tok) (x : Name) (es : Exprs) → IsName d x t → Is d (mark sign.LeftParen) u → Gives (λ g. actuals d g (expression g (suc d))) ts es (w ∷ rest)
    → Is d (mark sign.Semicolon) w → Gives (λ g. statement g d) (t ∷ u ∷ ts) (tree.calls x es) rest
calls_gives d t u w ts rest x es n a r c =
    statement_gives d r.gas (t ∷ u ∷ ts) _ rest (λ g l. name_in d g _ _ _ _ _ t (u ∷ ts) n ∙ skip (is (mark sign.Assign)) _ _ u ts refl a ∙ take (is (mark sign.LeftParen)) _ _ u ts refl a
    ∙ after_is (actuals d g (expression g (suc d))) _ ts (r.is g l) ∙ wanted sign.Semicolon _ w rest c)

if_then_gives : (d : ℕ) (t u v : Tok) (ts mid rest : List Tok) (c : Cond) (y : Stmt) → Is d (keyword word.If) t → Is d (mark sign.LeftParen) u → Gives (λ g. condition true g (suc d)) ts c (v ∷ mid)
    → Is d (mark sign.RightParen) v → Gives (λ g. statement g (suc d)) mid y rest → is (keyword word.Else) (kind_at rest) ≡ false
    → Gives (λ g. statement g d) (t ∷ u ∷ ts) (tree.if_then t.at c y) rest
if_then_gives d t u v ts mid rest c y i l r k q n =
    statement_gives d (r.gas + q.gas) (t ∷ u ∷ ts) _ rest (λ g h. if_in d g _ _ _ _ _ t (u ∷ ts) i ∙ tests_is d (condition true g (suc d)) (statement g (suc d)) _ u v ts mid rest c y l (r.is g (omega arith)) k (q.is g (omega arith))
    ∙ on_else d (is (keyword word.Else)) _ _ rest (refl, refl) n)

if_else_gives : (d : ℕ) (t u v w : Tok) (ts mid far rest : List Tok) (c : Cond) (y z : Stmt) → Is d (keyword word.If) t → Is d (mark sign.LeftParen) u
    → Gives (λ g. condition true g (suc d)) ts c (v ∷ mid) → Is d (mark sign.RightParen) v → Gives (λ g. statement g (suc d)) mid y (w ∷ far) → Is d (keyword word.Else) w
    → Gives (λ g. statement g (suc d)) far z rest → Gives (λ g. statement g d) (t ∷ u ∷ ts) (tree.if_else t.at c y z) rest
if_else_gives d t u v w ts mid far rest c y z i l r k q o p =
    statement_gives d (r.gas + q.gas + p.gas) (t ∷ u ∷ ts) _ rest (λ g h. if_in d g _ _ _ _ _ t (u ∷ ts) i ∙ tests_is d (condition true g (suc d)) (statement g (suc d)) _ u v ts mid (w ∷ far) c y l (r.is g (omega arith)) k (q.is g (omega arith))
    ∙ take (is (keyword word.Else)) _ _ w far refl o ∙ after_is (statement g (suc d)) _ far (p.is g (omega arith)))

while_gives : (d : ℕ) (t u v : Tok) (ts mid rest : List Tok) (c : Cond) (y : Stmt) → Is d (keyword word.While) t → Is d (mark sign.LeftParen) u → Gives (λ g. condition true g (suc d)) ts c (v ∷ mid)
    → Is d (mark sign.RightParen) v → Gives (λ g. statement g (suc d)) mid y rest → Gives (λ g. statement g d) (t ∷ u ∷ ts) (tree.while t.at c y) rest
while_gives d t u v ts mid rest c y i l r k q =
    statement_gives d (r.gas + q.gas) (t ∷ u ∷ ts) _ rest (λ g h. while_in d g _ _ _ _ _ t (u ∷ ts) i ∙ tests_is d (condition true g (suc d)) (statement g (suc d)) _ u v ts mid rest c y l (r.is g (omega arith)) k (q.is g (omega arith)))

-- many of them
pub record Rows {X Y : Type 0} (test : ℕ → Bool) (p : ℕ → Parser X) (y : Y) (f : X → Y → Y) (ts : List Tok) (ys : Y) (rest : List Tok) : Type 0 where
  pub gas : ℕ
  pub is : (g h : ℕ) → gas ≤ g → gas ≤ h → many test (p g) y f h ts ≡ out_done ys rest

module _ {X Y : Type 0} (test : ℕ → Bool) (p : ℕ → Parser X) (y : Y) (f : X → Y → Y) where
  rows_end : (ts : List Tok) → test (kind_at ts) ≡ false → Rows test p y f ts y ts
  unfolding many peek
  rows_end ts st = record { gas = 1; is = by }
    where
      by : (g h : ℕ) → 1 ≤ g → 1 ≤ h → many test (p g) y f h ts ≡ out_done y ts
      by g zero k l = absurd (omega arith)
      by g (suc h) k l = rw st refl

  rows_more : (ts mid rest : List Tok) (x : X) (ys : Y) → test (kind_at ts) ≡ true → Gives p ts x mid → Rows test p y f mid ys rest → Rows test p y f ts (f x ys) rest
  unfolding many peek
  rows_more ts mid rest x ys st r k = record { gas = suc (r.gas + k.gas); is = by }
    where
      by : (g h : ℕ) → suc (r.gas + k.gas) ≤ g → suc (r.gas + k.gas) ≤ h → many test (p g) y f h ts ≡ out_done (f x ys) rest
      by g zero i l = absurd (omega arith)
      by g (suc h) i l = rw st (after_is (p g) _ ts (r.is g (omega arith)) ∙ after_is (many test (p g) y f h) _ mid (k.is g h (omega arith) (omega arith)))

begins_at : {d : ℕ} {ts rest : List Tok} {x : Stmt} → Statement d ts x rest → begins (kind_at ts) ≡ true
begins_at {ts = ts} (rule.declares x a e c) = starts (kind_at ts) (declares_at x)
  where
    starts : (k : ℕ) → declares k ≡ true → begins k ≡ true
    starts k h =
        rw (
          apart declares (name []) k refl h,
          apart declares (keyword word.If) k refl h,
          apart declares (keyword word.While) k refl h,
          apart declares (keyword word.Free) k refl h,
          apart declares (keyword word.Print) k refl h,
          apart declares (keyword word.Return) k refl h,
          apart declares (mark sign.LeftBrace) k refl h,
        ) h
begins_at (rule.assigns i u e c) = at_kind begins i.is
begins_at (rule.calls i u a v w) = at_kind begins i.is
begins_at (rule.if_then i u c v y n) = at_kind begins i
begins_at (rule.if_else i u c v y w z) = at_kind begins i
begins_at (rule.while i u c v y) = at_kind begins i
begins_at (rule.free i e c) = at_kind begins i
begins_at (rule.print i e c) = at_kind begins i
begins_at (rule.return i e c) = at_kind begins i
begins_at (rule.block i b c) = at_kind begins i

no_else : (ts : List Tok) → (first ts ≡ keyword word.Else → ⊥) → is (keyword word.Else) (kind_at ts) ≡ false
no_else ts n = false_from_ne_true _ (λ e. n (only (keyword word.Else) (first ts) refl e))

block_gives : (d : ℕ) (t u : Tok) (ts rest : List Tok) (b : Stmts) → Is d (mark sign.LeftBrace) t → Rows begins (λ g. statement g (suc d)) tree.end tree.next ts b (u ∷ rest)
    → Is d (mark sign.RightBrace) u → Gives (λ g. statement g d) (t ∷ ts) (tree.block t.at b) rest
block_gives d t u ts rest b i r c = statement_gives d r.gas (t ∷ ts) _ rest (λ g l. block_in d g _ _ _ _ _ t ts i ∙ after_is (statements g (suc d)) _ ts (r.is g g l l) ∙ wanted sign.RightBrace _ u rest c)

ended_gives : (d : ℕ) (t u : Tok) (ts rest : List Tok) (e : Expr) (f : Expr → Stmt)
    → ((g : ℕ) → statement_by d g (expression g d) (expression g (suc d)) (condition true g (suc d)) (statement g (suc d)) (statements g (suc d)) (t ∷ ts) ≡ ended d (expression g d) f ts)
    → Gives (λ g. expression g d) ts e (u ∷ rest) → Is d (mark sign.Semicolon) u → Gives (λ g. statement g d) (t ∷ ts) (f e) rest
ended_gives d t u ts rest e f h r c = statement_gives d r.gas (t ∷ ts) _ rest (λ g l. h g ∙ ended_is d (expression g d) f ts e u rest (r.is g l) c)

-- a semicolon and a closing parenthesis end what stands before them
abbrev semicolon : {d : ℕ} {t : Tok} → Is d (mark sign.Semicolon) t → cont 3 (kind t.symbol) ≡ false
semicolon c = at_kind (cont 3) c

abbrev parenthesis : {d : ℕ} {t : Tok} → Is d (mark sign.RightParen) t → cont_c 2 (kind t.symbol) ≡ false
parenthesis c = at_kind (cont_c 2) c

mutual
  pub stmt : {d : ℕ} {ts : List Tok} {x : Stmt} {rest : List Tok} → Statement d ts x rest → Gives (λ g. statement g d) ts x rest
  stmt (rule.declares {d = d} {x = x} {t = t} {u = u} {ts = ts} {mid = mid} {rest = rest} {e = e} h a k c) = declares_gives d t u ts mid rest x e h a (comp false k (semicolon c)) c
  stmt (rule.assigns {d = d} {x = x} {t = t} {u = u} {v = v} {ts = ts} {rest = rest} {e = e} n a k c) = assigns_gives d t u v ts rest x e n a (comp false k (semicolon c)) c
  stmt (rule.calls {d = d} {x = x} {t = t} {u = u} {w = w} {ts = ts} {rest = rest} {es = es} n l a r c) = calls_gives d t u w ts rest x es n l (all_actuals a r) c
  stmt (rule.if_then {d = d} {t = t} {u = u} {v = v} {ts = ts} {mid = mid} {rest = rest} {c = c} {s = y} i l k r s n) = if_then_gives d t u v ts mid rest c y i l (conds true k (parenthesis r)) r (stmt s) (no_else rest n)
  stmt (rule.if_else {d = d} {t = t} {u = u} {v = v} {w = w} {ts = ts} {mid = mid} {more = far} {rest = rest} {c = c} {s = y} {r = z} i l k r s o q) =
      if_else_gives d t u v w ts mid far rest c y z i l (conds true k (parenthesis r)) r (stmt s) o (stmt q)
  stmt (rule.while {d = d} {t = t} {u = u} {v = v} {ts = ts} {mid = mid} {rest = rest} {c = c} {s = y} i l k r s) = while_gives d t u v ts mid rest c y i l (conds true k (parenthesis r)) r (stmt s)
  stmt (rule.free {d = d} {t = t} {u = u} {ts = ts} {rest = rest} {e = e} i k c) = ended_gives d t u ts rest e (tree.free t.at) (λ g. free_in d g _ _ _ _ _ t ts i) (comp false k (semicolon c)) c
  stmt (rule.print {d = d} {t = t} {u = u} {ts = ts} {rest = rest} {e = e} i k c) = ended_gives d t u ts rest e (tree.print t.at) (λ g. print_in d g _ _ _ _ _ t ts i) (comp false k (semicolon c)) c
  stmt (rule.return {d = d} {t = t} {u = u} {ts = ts} {rest = rest} {e = e} i k c) = ended_gives d t u ts rest e (tree.return t.at) (λ g. return_in d g _ _ _ _ _ t ts i) (comp false k (semicolon c)) c
  stmt (rule.block {d = d} {t = t} {u = u} {ts = ts} {rest = rest} {b = b} i k c) = block_gives d t u ts rest b i (stmts k (at_kind begins c)) c

  pub stmts : {d : ℕ} {ts : List Tok} {b : Stmts} {rest : List Tok} → Statements d ts b rest → begins (kind_at rest) ≡ false → Rows begins (λ g. statement g d) tree.end tree.next ts b rest
  stmts {d = d} (rule.no_statement {ts = ts}) st = rows_end begins (λ g. statement g d) tree.end tree.next ts st
  stmts {d = d} (rule.statement {ts = ts} {mid = mid} {rest = rest} {s = x} {b = b} s k) st = rows_more begins (λ g. statement g d) tree.end tree.next ts mid rest x b (begins_at s) (stmt s) (stmts k st)

-- functions and programs
declarator_gives : {d : ℕ} {ts rest : List Tok} {x : Declarator} → Declares d ts x rest → Gives (λ g. declarator d) ts x rest
declarator_gives h = record { gas = 0; is = λ g l. declarator_is h }

some_formals : {d : ℕ} {ts rest : List Tok} {xs : List Declarator} → SomeFormals d ts xs rest → is (mark sign.Comma) (kind_at rest) ≡ false → Lists d (λ g. declarator d) [] (λ x xs. x ∷ xs) ts xs rest
some_formals {d = d} (rule.last_formal h) n = lists_last d (λ g. declarator d) [] (λ x xs. x ∷ xs) (declarator_gives h) n
some_formals {d = d} (rule.next_formal h c k) n = lists_more d (λ g. declarator d) [] (λ x xs. x ∷ xs) (declarator_gives h) c (some_formals k n)

formals_begin : {d : ℕ} {ts rest : List Tok} {xs : List Declarator} → SomeFormals d ts xs rest → is (mark sign.RightParen) (kind_at ts) ≡ false
formals_begin {ts = ts} (rule.last_formal h) = apart declares (mark sign.RightParen) (kind_at ts) refl (declares_at h)
formals_begin {ts = ts} (rule.next_formal h c k) = apart declares (mark sign.RightParen) (kind_at ts) refl (declares_at h)

all_formals : {ts : List Tok} {xs : List Declarator} {t : Tok} {rest : List Tok} → Formals 1 ts xs (t ∷ rest) → Is 0 (mark sign.RightParen) t → Gives (λ g. formals g) ts xs rest
all_formals {t = t} {rest = rest} rule.no_formal c = listed_none 0 (λ g. declarator 1) [] (λ x xs. x ∷ xs) t rest c
all_formals {ts = ts} {xs = xs} {t = t} {rest = rest} (rule.formals k) c =
    listed_some 0 (λ g. declarator 1) [] (λ x xs. x ∷ xs) t ts rest xs (formals_begin k) (some_formals k (at_kind (is (mark sign.Comma)) c)) c

function_gives : (t v w : Tok) (ts mid far rest : List Tok) (h : Declarator) (xs : List Declarator) (b : Stmts) → Declares 0 ts h (t ∷ mid) → Is 0 (mark sign.LeftParen) t
    → Gives (λ g. formals g) mid xs (v ∷ far) → Is 0 (mark sign.LeftBrace) v → Rows begins (λ g. statement g 1) tree.end tree.next far b (w ∷ rest) → Is 0 (mark sign.RightBrace) w
    → Gives (λ g. function g) ts (record { head = h; formals = xs; body = b; close = w.at }) rest
function_gives t v w ts mid far rest h xs b k l f o r c =
    record {
      gas = f.gas + r.gas;
      is = λ g n. after_is (declarator 0) _ ts (declarator_is k) ∙ wanted sign.LeftParen _ t mid l ∙ after_is (formals g) _ mid (f.is g (omega arith)) ∙ wanted sign.LeftBrace _ v far o
          ∙ after_is (statements g 1) _ far (r.is g g (omega arith) (omega arith)) ∙ take (is (mark sign.RightBrace)) _ _ w rest refl c;
    }

func : {ts rest : List Tok} {f : Fun} → Function ts f rest → Gives (λ g. function g) ts f rest
func (rule.function {head = h} {xs = xs} {b = b} {t = t} {v = v} {w = w} {ts = ts} {mid = mid} {more = far} {rest = rest} k l f r o s c) =
    function_gives t v w ts mid far rest h xs b k l (all_formals f r) o (stmts s (at_kind begins c)) c

function_begins : {ts rest : List Tok} {f : Fun} → Function ts f rest → declares (kind_at ts) ≡ true
function_begins (rule.function k l f r o s c) = declares_at k

funcs : {ts rest : List Tok} {p : Program} → Functions ts p rest → declares (kind_at rest) ≡ false → Rows declares (λ g. function g) [] (λ f p. f ∷ p) ts p rest
funcs (no_function {ts = ts}) st = rows_end declares (λ g. function g) [] (λ f p. f ∷ p) ts st
funcs (one_function {ts = ts} {mid = mid} {rest = rest} {f = f} {p = p} k l) st = rows_more declares (λ g. function g) [] (λ f p. f ∷ p) ts mid rest f p (function_begins k) (func k) (funcs l st)

pub program_complete : {ts : List Tok} {p : Program} {rest : List Tok} → Whole ts p rest → Gives (λ g. program g) ts p rest
unfolding program ends
program_complete {ts = ts} {p = p} {rest = rest} w =
    let r = funcs w.all (ap declares w.end) in
    record { gas = r.gas; is = λ g l. after_is (many declares (function g) [] (λ f p. f ∷ p) g) ends ts (r.is g g l l) ∙ rw (ap (λ k. eqb k 0) w.end) refl }
