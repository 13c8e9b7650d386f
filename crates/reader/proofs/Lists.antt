-- The actuals of a call: what their loop keeps. Assumes nothing.
use Rattle.std.proofs.Common.{◌≡◌, ℕ, zero, suc, ◌+◌, ◌≤◌, true, false, List, [], ◌++◌, length, vec_items, sym, refl, ap, ◌∙◌, append_assoc, append-nil, arith}
use Rattle.script.specs.declared.types.Node.{Node}
use Rattle.script.specs.Tree.{Expr, Exprs, none, more, count}
use Rattle.script.specs.Flat.{flat, flats}
use Rattle.tokens.specs.declared.types.Mark.TheVariants.{Comma, RightParen}
use Rattle.tokens.specs.Spelling.{mark}
use Rattle.grammar.specs.Tokens.{Tok}
use Rattle.grammar.specs.Combine.{Why, Out, out_done, out_fail, Parser, kind_at, is, after, next, ret, on, want, separated}
use Rattle.grammar.specs.Parse.{expression, actuals}
use Rattle.reader.specs.declared.refusal.ReadRefusal.{ReadRefusal}
use Rattle.reader.specs.declared.cursor.Cursor.{Cursor}
use Rattle.reader.specs.declared.code.Code.{Code}
use Rattle.reader.specs.Cursor.{left}
use Rattle.reader.specs.Reading.{Passed, NotPassed, NotExpected, Moved, ReadActuals, Refused}
use Rattle.reader.specs.Terms.{Went, Stops}
use Rattle.reader.proofs.Steps.{on_passed, on_stuck, on_other, after_done, after_fail, wanted, unwanted, why_of, told_of, why_not, told_not, shorter, at_suc}
use Rattle.reader.proofs.Paths.{moves, and, pass, moved_by, some_by}
use Rattle.reader.proofs.Chains.{stay}

-- after one actual: a comma and others, or none
abbrev pub others : ℕ → Parser Expr → ℕ → Expr → Parser Exprs
others d p h x = on d (is (mark Comma)) (λ i. after (separated d p none more h) (λ xs. ret (more x xs))) (ret (more x none))

abbrev pub wrapped : (Exprs → Exprs) → Out Exprs → Out Exprs
wrapped wrap o = next o (λ xs. ret (wrap xs))

wrapped_more : (wrap : Exprs → Exprs) (x : Expr) (o : Out Exprs) → wrapped wrap (wrapped (more x) o) ≡ wrapped (λ xs. wrap (more x xs)) o
wrapped_more wrap x (out_done y ts) = refl
wrapped_more wrap x (out_fail ts w) = refl

pub record ReachesAll (d : ℕ) (p : Parser Expr) (h : ℕ) (x y : Expr) (wrap : Exprs → Exprs) (s t : Cursor) : Type 0 where
  pub gas : ℕ
  pub enough : length (left t) ≤ gas
  pub is : others d p h x (left s) ≡ wrapped wrap (others d p gas y (left t))

-- what was read from s to t after x, the last of which is y
pub record SofarAll (d : ℕ) (p : ℕ → Parser Expr) (k n : ℕ) (x : Expr) (front : List Node) (s t : Cursor) (q : Code) : Type 0 where
  pub last : Expr
  pub wrap : Exprs → Exprs
  pub before : List Node
  pub m : ℕ
  pub flats_wrap : (es : Exprs) → flats (wrap es) ≡ before ++ flats es
  pub count_wrap : (es : Exprs) → count (wrap es) ≡ m + count es
  pub number : n ≡ m + k
  pub code : vec_items q.nodes ≡ front ++ (before ++ flat last)
  pub is : (g h : ℕ) → length (left s) ≤ g → length (left s) ≤ h → ReachesAll d (p g) h x last wrap s t

-- what the loop over actuals keeps; k is the count where it began
pub record Listed (d : ℕ) (p : ℕ → Parser Expr) (k n : ℕ) (s t : Cursor) (o q : Code) : Type 0 where
  pub moved : Moved 0 s t o q
  pub few : n + s.taken ≤ k + t.taken
  pub onto : (x : Expr) (front : List Node) → vec_items o.nodes ≡ front ++ flat x → SofarAll d p k n x front s t q

wrapped_id : (o : Out Exprs) → o ≡ wrapped (λ xs. xs) o
wrapped_id (out_done y ts) = refl
wrapped_id (out_fail ts w) = refl

pub start_list : (d : ℕ) (p : ℕ → Parser Expr) (k : ℕ) {s : Cursor} {o : Code} → Listed d p k k s s o o
start_list d p k {s} {o} = record {
  moved = stay;
  few = omega arith;
  onto = λ x front h. record {
    last = x;
    wrap = λ xs. xs;
    before = [];
    m = 0;
    flats_wrap = λ es. refl;
    count_wrap = λ es. omega arith;
    number = omega arith;
    code = h;
    is = λ g h l m. record { gas = h; enough = m; is = wrapped_id (others d (p g) h x (left s)) };
  };
}

module _ (d : ℕ) (p : Parser Expr) where
  separated_step : (h : ℕ) (x : Expr) (b t : Cursor) → p (left b) ≡ out_done x (left t) → separated d p none more (suc h) (left b) ≡ others d p h x (left t)
  unfolding separated
  separated_step h x b t e = after_done _ _ _ e

  separated_fail : (h : ℕ) (b : Cursor) {us : List Tok} {w : Why} → p (left b) ≡ out_fail us w → separated d p none more (suc h) (left b) ≡ out_fail us w
  unfolding separated
  separated_fail h b e = after_fail _ _ _ e

  comma_turn : (h : ℕ) (x y : Expr) (s b t : Cursor) → length (left s) ≤ h → is (mark Comma) (kind_at (left s)) ≡ true → Passed d s b → length (left t) ≤ length (left b) → p (left b) ≡ out_done y (left t) → ReachesAll d p h x y (more x) s t
  unfolding after
  comma_turn zero x y s b t l f q m e = absurd (omega arith)
  comma_turn (suc h) x y s b t l f q m e =
      let k = shorter q in
      record { gas = h; enough = omega arith; is = on_passed d s _ _ _ f q ∙ ap (wrapped (more x)) (separated_step h y b t e) }

  comma_broke : (h : ℕ) (x : Expr) (s b : Cursor) {us : List Tok} {w : Why} → length (left s) ≤ h → is (mark Comma) (kind_at (left s)) ≡ true → Passed d s b → p (left b) ≡ out_fail us w → others d p h x (left s) ≡ out_fail us w
  comma_broke zero x s b l f q e = absurd (omega arith)
  comma_broke (suc h) x s b l f q e = on_passed d s _ _ _ f q ∙ after_fail _ _ _ (separated_fail h b e)

pub list_turn : (d : ℕ) (p : ℕ → Parser Expr) {k n : ℕ} {s0 s b t : Cursor} {o0 o u : Code} → Listed d p k n s0 s o0 o → is (mark Comma) (kind_at (left s)) ≡ true → Passed d s b → Went 0 (λ g. p (suc g)) flat b t o u → Listed d p k (n + 1) s0 t o0 u
list_turn d p {k} {n} {s0} {s} {b} {t} {o0} {o} {u} so f q r = record {
  moved = moved_by (and (moves so.moved) (and (pass q) (moves r.moved))) (omega arith);
  few = omega (arith, so.few, q.taken, r.moved.on);
  onto = λ x front h.
      let a = so.onto x front h in
      record {
        last = r.tree;
        wrap = λ xs. a.wrap (more a.last xs);
        before = a.before ++ flat a.last;
        m = a.m + 1;
        flats_wrap = λ es. a.flats_wrap (more a.last es) ∙ sym (append_assoc a.before (flat a.last) (flats es));
        count_wrap = λ es. omega (arith, a.count_wrap (more a.last es));
        number = omega (arith, a.number);
        code = r.code ∙ ap (λ l. l ++ flat r.tree) a.code ∙ append_assoc front (a.before ++ flat a.last) (flat r.tree);
        is = λ g h l j.
            let e = a.is g h l j in
            let sh = shorter q in
            let fa = so.moved.fall in
            let e2 = comma_turn d (p g) e.gas a.last r.tree s b t e.enough f q r.moved.fall (at_suc (λ g. p g (left b)) _ _ r.is g (omega arith)) in
            record { gas = e2.gas; enough = e2.enough; is = e.is ∙ ap (wrapped a.wrap) e2.is ∙ wrapped_more a.wrap a.last (others d (p g) e2.gas r.tree (left t)) };
      };
}

-- the whole, from c before the first actual, s after it, and t where the loop ended
module _ (d : ℕ) {n : ℕ} {c s t : Cursor} {o0 o q : Code} (open' : is (mark RightParen) (kind_at (left c)) ≡ false)
    (first : Went 0 (λ g. expression (suc g) (suc d)) flat c s o0 o) (so : Listed (suc d) (λ g. expression g (suc d)) 1 n s t o q) where
  far : SofarAll (suc d) (λ g. expression g (suc d)) 1 n first.tree (vec_items o0.nodes) s t q
  far = so.onto first.tree (vec_items o0.nodes) first.code

  came : (g : ℕ) → length (left c) ≤ g → (e : ReachesAll (suc d) (expression (suc g) (suc d)) g first.tree far.last far.wrap s t)
      → actuals d (suc g) (expression (suc g) (suc d)) (left c) ≡ next (wrapped far.wrap (others (suc d) (expression (suc g) (suc d)) e.gas far.last (left t))) (λ xs. want d RightParen (ret xs))
  unfolding after
  came g l e = on_other d c _ _ _ open' ∙ ap (λ u. next u (λ xs. want d RightParen (ret xs))) (separated_step (suc d) (expression (suc g) (suc d)) g first.tree c s (first.is g l) ∙ e.is)

  reach : (g : ℕ) → length (left c) ≤ g → ReachesAll (suc d) (expression (suc g) (suc d)) g first.tree far.last far.wrap s t
  reach g l = far.is (suc g) g (omega (arith, first.moved.fall)) (omega (arith, first.moved.fall))

  stops : is (mark Comma) (kind_at (left t)) ≡ false → (g : ℕ) → length (left c) ≤ g → actuals d (suc g) (expression (suc g) (suc d)) (left c) ≡ want d RightParen (ret (far.wrap (more far.last none))) (left t)
  stops f g l = came g l (reach g l) ∙ ap (λ u. next (wrapped far.wrap u) (λ xs. want d RightParen (ret xs))) (on_other (suc d) t _ _ _ f)

  pub list_done : {u : Cursor} → is (mark Comma) (kind_at (left t)) ≡ false → (is (mark RightParen) (kind_at (left t)) ≡ true) × Passed d t u → ReadActuals (λ g. actuals d g (expression g (suc d))) c u o0 q n
  list_done {u} f w =
      let path = and (moves first.moved) (and (moves so.moved) (pass w.1)) in
      record {
        read = record {
          tree = far.wrap (more far.last none);
          is = at_suc (λ g. actuals d g (expression g (suc d)) (left c)) _ _ (λ g l. stops f g l ∙ wanted RightParen d t _ w);
          code = far.code ∙ ap (λ l. vec_items o0.nodes ++ l) (sym (far.flats_wrap (more far.last none) ∙ ap (λ l. far.before ++ l) (append-nil (flat far.last))));
          moved = moved_by path (omega arith);
          some = omega (arith, some_by 0 path (omega arith));
        };
        number = omega (arith, far.number, far.count_wrap (more far.last none));
      }

  pub list_open : {r : ReadRefusal} → is (mark Comma) (kind_at (left t)) ≡ false → NotExpected RightParen d t r → Refused (λ g. actuals d g (expression g (suc d))) c r
  list_open f w = record {
    rest = left t;
    why = why_not w;
    is = at_suc (λ g. actuals d g (expression g (suc d)) (left c)) _ _ (λ g l. stops f g l ∙ unwanted RightParen d t _ w);
    told = told_not w;
  }

  pub list_stuck : {r : ReadRefusal} → is (mark Comma) (kind_at (left t)) ≡ true → NotPassed (suc d) t r → Refused (λ g. actuals d g (expression g (suc d))) c r
  list_stuck f w = record {
    rest = left t;
    why = why_of w;
    is = at_suc (λ g. actuals d g (expression g (suc d)) (left c)) _ _ (λ g l. came g l (reach g l) ∙ ap (λ u. next (wrapped far.wrap u) (λ xs. want d RightParen (ret xs))) (on_stuck (suc d) t _ _ _ f w));
    told = told_of w;
  }

  pub list_broke : {b : Cursor} {r : ReadRefusal} → is (mark Comma) (kind_at (left t)) ≡ true → Passed (suc d) t b → Stops (λ g. expression (suc g) (suc d)) b r → Refused (λ g. actuals d g (expression g (suc d))) c r
  list_broke {b} f w k = record {
    rest = k.rest;
    why = k.why;
    is = at_suc (λ g. actuals d g (expression g (suc d)) (left c)) _ _ (λ g l.
        let e = reach g l in
        let sh = shorter w in
        let fa = so.moved.fall in
        let fb = first.moved.fall in
        came g l e ∙ ap (λ u. next (wrapped far.wrap u) (λ xs. want d RightParen (ret xs))) (comma_broke (suc d) (expression (suc g) (suc d)) e.gas far.last t b e.enough f w (k.is g (omega arith))));
    told = k.told;
  }

pub list_fails : (d : ℕ) {c : Cursor} {r : ReadRefusal} → is (mark RightParen) (kind_at (left c)) ≡ false → Stops (λ g. expression (suc g) (suc d)) c r → Refused (λ g. actuals d g (expression g (suc d))) c r
list_fails d {c} open' k = record {
  rest = k.rest;
  why = k.why;
  is = at_suc (λ g. actuals d g (expression g (suc d)) (left c)) _ _ (λ g l. on_other d c _ _ _ open' ∙ after_fail _ _ _ (separated_fail (suc d) (expression (suc g) (suc d)) g c (k.is g l)));
  told = k.told;
}

pub list_none_stuck : (d : ℕ) {c : Cursor} {r : ReadRefusal} → is (mark RightParen) (kind_at (left c)) ≡ true → NotPassed d c r → Refused (λ g. actuals d g (expression g (suc d))) c r
list_none_stuck d {c} h n = record { rest = left c; why = why_of n; is = λ g l. on_stuck d c _ _ _ h n; told = told_of n }

pub list_none : (d : ℕ) {c b : Cursor} {o : Code} → is (mark RightParen) (kind_at (left c)) ≡ true → Passed d c b → ReadActuals (λ g. actuals d g (expression g (suc d))) c b o o 0
list_none d {c} {b} {o} h s =
    let path = pass {o = o} s in
    record {
      read = record { tree = none; is = λ g l. on_passed d c _ _ _ h s; code = sym (append-nil _); moved = moved_by path (omega arith); some = omega (arith, s.taken) };
      number = refl;
    }
