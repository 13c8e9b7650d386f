-- Chains of operators, and of conditions: what their loops keep. Assumes nothing.
use Rattle.std.proofs.Common.{◌≡◌, ℕ, zero, suc, ◌≤◌, Bool, true, false, List, ◌++◌, length, vec_items, vec_len, refl, ◌∙◌, arith}
use Rattle.script.specs.declared.types.Node.{Node}
use Rattle.tokens.specs.Spelling.{Item, item_of}
use Rattle.grammar.specs.Tokens.{Tok}
use Rattle.grammar.specs.Combine.{Why, out_done, out_fail, Parser, kind_at, after, ret, loop}
use Rattle.reader.specs.declared.refusal.ReadRefusal.{ReadRefusal}
use Rattle.reader.specs.declared.cursor.Cursor.{Cursor}
use Rattle.reader.specs.declared.code.Code.{Code}
use Rattle.reader.specs.Cursor.{left}
use Rattle.reader.specs.Reading.{Passed, NotPassed, Moved}
use Rattle.reader.specs.Terms.{Followed, Halts, Stops}
use Rattle.reader.proofs.Steps.{on_passed, on_stuck, on_other, after_done, after_fail, why_of, told_of, shorter, at_suc}
use Rattle.reader.proofs.Paths.{moves, and, moved_by}

-- the rest of a chain from s with gas h is its rest from t, with some gas that is enough
pub record Reaches {X : Type 0} (F : ℕ → X → Parser X) (h : ℕ) (x y : X) (s t : Cursor) : Type 0 where
  pub gas : ℕ
  pub enough : length (left t) ≤ gas
  pub is : F h x (left s) ≡ F gas y (left t)

pub record Sofar {X : Type 0} (F : ℕ → ℕ → X → Parser X) (code_of : X → List Node) (x : X) (front : List Node) (s t : Cursor) (p : Code) : Type 0 where
  pub tree : X
  pub is : (g h : ℕ) → length (left s) ≤ g → length (left s) ≤ h → Reaches (F g) h x tree s t
  pub code : vec_items p.nodes ≡ front ++ code_of tree

-- what a chain's loop keeps, from s and o where it began to t and p
pub record Chained {X : Type 0} (F : ℕ → ℕ → X → Parser X) (code_of : X → List Node) (start : ℕ) (s t : Cursor) (o p : Code) : Type 0 where
  pub moved : Moved 0 s t o p
  pub within : start ≤ vec_len p.nodes
  pub onto : (x : X) (front : List Node) → vec_items o.nodes ≡ front ++ code_of x → length front ≡ start → Sofar F code_of x front s t p

pub stay : {s : Cursor} {o : Code} → Moved 0 s s o o
stay = record { on = omega arith; fall = omega arith; spent = omega arith; grown = omega arith; cap = omega arith; functions = refl; formals = refl }

-- the rest of a chain, p reads the right sides
abbrev pub rest_of : {X : Type 0} → ℕ → (ℕ → Bool) → (ℕ → Parser X) → (Item → X → X → X) → ℕ → ℕ → X → Parser X
rest_of d test p combine g h = loop d test (λ x i. after (p g) (λ y. ret (combine i x y))) h

module _ {X : Type 0} (d : ℕ) (test : ℕ → Bool) (p : ℕ → Parser X) (combine : Item → X → X → X) (g : ℕ) where
  loop_stop : (h : ℕ) (x : X) (s : Cursor) → length (left s) ≤ h → test (kind_at (left s)) ≡ false → rest_of d test p combine g h x (left s) ≡ out_done x (left s)
  unfolding loop
  loop_stop zero x s l f = absurd (omega arith)
  loop_stop (suc h) x s l f = on_other d s _ _ _ f

  loop_stuck : (h : ℕ) (x : X) (s : Cursor) {r : ReadRefusal} → length (left s) ≤ h → test (kind_at (left s)) ≡ true → (n : NotPassed d s r) → rest_of d test p combine g h x (left s) ≡ out_fail (left s) (why_of n)
  unfolding loop
  loop_stuck zero x s l f n = absurd (omega arith)
  loop_stuck (suc h) x s l f n = on_stuck d s _ _ _ f n

  loop_broke : (h : ℕ) (x : X) (s : Cursor) {b : Cursor} {us : List Tok} {w : Why} → length (left s) ≤ h → test (kind_at (left s)) ≡ true → Passed d s b → p g (left b) ≡ out_fail us w → rest_of d test p combine g h x (left s) ≡ out_fail us w
  unfolding loop
  loop_broke zero x s l f q e = absurd (omega arith)
  loop_broke (suc h) x s l f q e = on_passed d s _ _ _ f q ∙ after_fail _ _ _ (after_fail _ _ _ e)

  loop_turn : (h : ℕ) (x y : X) (s : Cursor) {b t : Cursor} → length (left s) ≤ h → test (kind_at (left s)) ≡ true → Passed d s b → length (left t) ≤ length (left b) → p g (left b) ≡ out_done y (left t)
      → Reaches (rest_of d test p combine g) h x (combine (item_of s.here) x y) s t
  unfolding loop
  loop_turn zero x y s l f q m e = absurd (omega arith)
  loop_turn (suc h) x y s {b} {t} l f q m e =
      let k = shorter q in
      record { gas = h; enough = omega arith; is = on_passed d s _ _ _ f q ∙ after_done _ _ _ (after_done _ _ _ e) }

module _ {X : Type 0} (d : ℕ) (test : ℕ → Bool) (p : ℕ → Parser X) (combine : Item → X → X → X) {code_of : X → List Node} {start : ℕ} {s0 s : Cursor} {o0 o : Code}
    (so : Chained (rest_of d test p combine) code_of start s0 s o0 o) where
  pub turn : {b t : Cursor} {u : Code} (y : X) → test (kind_at (left s)) ≡ true → Passed d s b → length (left t) ≤ length (left b) → ((g : ℕ) → length (left b) ≤ g → p (suc g) (left b) ≡ out_done y (left t)) → Moved 0 s t o u
      → ((x : X) (front : List Node) → vec_items o.nodes ≡ front ++ code_of x → length front ≡ start → vec_items u.nodes ≡ front ++ code_of (combine (item_of s.here) x y))
      → Chained (rest_of d test p combine) code_of start s0 t o0 u
  turn {b} {t} {u} y f q m e mo codes = record {
    moved = moved_by (and (moves so.moved) (moves mo)) (omega arith);
    within = omega (arith, so.within, mo.grown);
    onto = λ x front h n.
        let a = so.onto x front h n in
        record {
          tree = combine (item_of s.here) a.tree y;
          is = λ g k l j.
              let r = a.is g k l j in
              let sh = shorter q in
              let fa = so.moved.fall in
              let r2 = loop_turn d test p combine g r.gas a.tree y s {b = b} {t = t} r.enough f q m (at_suc (λ g. p g (left b)) _ _ e g (omega arith)) in
              record { gas = r2.gas; enough = r2.enough; is = r.is ∙ r2.is };
          code = codes a.tree front a.code n;
        };
  }

  pub chain_done : test (kind_at (left s)) ≡ false → Followed (λ g. rest_of d test p combine g g) code_of code_of (λ _. Unit {0}) start s0 s o0 o
  chain_done f = record {
    moved = so.moved;
    onto = λ x front h n.
        let a = so.onto x front h n in
        record {
          tree = a.tree;
          is = λ g l. let r = a.is g g l l in r.is ∙ loop_stop d test p combine g r.gas a.tree s r.enough f;
          code = a.code;
          thing = tt;
        };
  }

  pub chain_stuck : {r : ReadRefusal} → test (kind_at (left s)) ≡ true → NotPassed d s r → Halts (λ g. rest_of d test p combine g g) code_of start s0 o0 r
  chain_stuck f k = record {
    rest = left s;
    why = why_of k;
    is = λ x front h n g l. let a = so.onto x front h n in let r = a.is g g l l in r.is ∙ loop_stuck d test p combine g r.gas a.tree s r.enough f k;
    told = told_of k;
  }

  pub chain_broke : {b : Cursor} {r : ReadRefusal} → test (kind_at (left s)) ≡ true → Passed d s b → Stops (λ g. p (suc g)) b r → Halts (λ g. rest_of d test p combine g g) code_of start s0 o0 r
  chain_broke {b} f q k = record {
    rest = k.rest;
    why = k.why;
    is = λ x front h n g l.
        let a = so.onto x front h n in
        let r = a.is g g l l in
        let sh = shorter q in
        let fa = so.moved.fall in
        r.is ∙ loop_broke d test p combine g r.gas a.tree s r.enough f q (at_suc (λ g. p g (left b)) _ _ k.is g (omega arith));
    told = k.told;
  }
