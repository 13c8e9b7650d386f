-- Conditions: what each way of reading one comes to. Assumes nothing.
use Rattle.std.proofs.Common.{◌≡◌, ℕ, suc, ◌+◌, ◌-◌, ◌<◌, ◌≤◌, Bool, true, false, cond, List, [], ◌∷◌, ◌++◌, length, Some, ◌==◌, Ok, Err, vec_items, vec_len, Result, sym, refl, ap, ◌∙◌, subst, append_assoc, add-one, arith, length-append}
use Rattle.script.specs.declared.types.Comparison.{Comparison}
use Rattle.script.specs.declared.types.Node.{Node}
use Rattle.script.specs.declared.types.Node.TheVariants as node
use Rattle.script.specs.Tree as tree
use Rattle.script.specs.Tree.{Expr, Cond}
use Rattle.script.specs.Flat.{flat, flat_cond}
use Rattle.tokens.specs.declared.types.Mark.TheVariants.{Not, AndAnd, OrOr}
use Rattle.tokens.specs.Spelling.{Item, mark}
use Rattle.grammar.specs.Tokens.{Tok, first}
use Rattle.grammar.specs.Combine.{why_bad, Parser, kind_at, is, bad, ret}
use Rattle.grammar.specs.Parse.{Thing as Either, thing_expr, thing_cond, Found, found, holds, expression, negation, tested, compared, compares, comparison_of, condition_by, joins, join_of}
use Rattle.reader.specs.declared.refusal.ReadRefusal.{ReadRefusal}
use Rattle.reader.specs.declared.cursor.Cursor.{Cursor}
use Rattle.reader.specs.declared.code.Code.{Code}
use Rattle.reader.specs.declared.code.Thing.{Thing}
use Rattle.reader.specs.declared.code.Thing.TheVariants.{Expression, Condition}
use Rattle.reader.specs.declared.binding.Join.{Join}
use Rattle.reader.specs.declared.binding.Join.TheVariants.{And, Or}
use Rattle.reader.specs.Binding.{join_rank, join_node}
use Rattle.reader.specs.Cursor.{left}
use Rattle.reader.specs.Reading.{Refusal, Passed, NotPassed}
use Rattle.reader.specs.Terms.{Wrote, Inserted, Stops, Gave, Gives, Followed, Halts, Compares, levels, conditions, joining_on, flat_got, got_is, flat_found, found_is}
use Rattle.reader.proofs.Steps.{on_passed, on_stuck, on_other, after_done, after_fail, why_of, told_of, shorter, at_suc}
use Rattle.reader.proofs.Paths.{moves, and, pass, wrote, inserts, moved_by, some_by, insert_at, around}
use Rattle.reader.proofs.Chains.{Chained, stay, turn, chain_done, chain_stuck, chain_broke}
use Rattle.reader.proofs.Forms.{flat_found_lem, is_found, as_expression, as_condition, holds_done, holds_fail, holds_stays, tested_condition, conditions_step, negation_step}

-- what follows the left side of a comparison that is none
abbrev pub alone : (must : Bool) → Expr → Parser (Found must)
alone true x = bad
alone false x = ret (thing_expr x)

tested_form : (must : Bool) (d : ℕ) (s : Parser Expr) (x : Expr) (ts : List Tok) → tested must d s (thing_expr x) ts ≡ compared must d s x (alone must x) ts
tested_form true d s x ts = refl
tested_form false d s x ts = refl

module _ (must : Bool) (d : ℕ) {from : ℕ} {c : Cursor} {o : Code} where
  pub compared_stuck : {r : ReadRefusal} → compares (kind_at (left c)) ≡ true → NotPassed d c r → Halts {Y = Found must} (λ g x. tested must d (expression g d) (thing_expr x)) flat from c o r
  compared_stuck h n = record { rest = left c; why = why_of n; is = λ x front e k g l. tested_form must d _ x _ ∙ on_stuck d c _ _ _ h n; told = told_of n }

  pub compared_broke : {b : Cursor} {r : ReadRefusal} → compares (kind_at (left c)) ≡ true → Passed d c b → Stops (λ g. levels false 3 g d) b r → Halts {Y = Found must} (λ g x. tested must d (expression g d) (thing_expr x)) flat from c o r
  compared_broke {b} h s k = record {
    rest = k.rest;
    why = k.why;
    is = λ x front e j g l. let sh = shorter s in tested_form must d _ x _ ∙ on_passed d c _ _ _ h s ∙ after_fail _ _ _ (at_suc (λ g. expression g d (left b)) _ _ k.is g (omega arith));
    told = k.told;
  }

  pub compared_done : {b t : Cursor} {o1 o2 p : Code} {y : Thing} {op : Comparison} → compares (kind_at (left c)) ≡ true → op ≡ comparison_of (first (left c)) → Passed d c b → Inserted from (node.Begin c.here.at) o o1
      → Gave 0 (λ g. levels false 3 g d) (flat_got false) (got_is false) b t o1 o2 y → Wrote (node.Compare op) o2 p
      → Followed (λ g x. tested must d (expression g d) (thing_expr x)) flat (flat_found must) (λ t. Condition ≡ found_is must t) from c t o p
  compared_done {b} {t} {o1} {o2} {p} {y} {op} h is_op s w k v =
      let r = k.went in
      let op' = comparison_of (first (left c)) in
      let v' : Wrote (node.Compare op') o2 p = subst (λ op. Wrote (node.Compare op) o2 p) is_op v in
      record {
        moved = moved_by (and (pass s) (and (inserts w) (and (moves r.moved) (wrote v)))) (omega arith);
        onto = λ x front e j. record {
          tree = found must (tree.compare c.here.at op' x r.tree);
          is = λ g l. let sh = shorter s in tested_form must d _ x _ ∙ on_passed d c _ _ _ h s ∙ after_done _ _ _ (at_suc (λ g. expression g d (left b)) _ _ r.is g (omega arith));
          code =
              let plain : vec_items p.nodes ≡ front ++ flat_cond (tree.compare c.here.at op' x r.tree) =
              v'.items ∙ ap (λ ns. ns ++ (node.Compare op' ∷ [])) (r.code ∙ ap (λ ns. ns ++ flat r.tree) (w.items ∙ insert_at _ front (flat x) from _ e j)) ∙ simp append_assoc in
              plain ∙ ap (λ l. front ++ l) (sym (flat_found_lem must _));
          thing = is_found must _;
        };
      }

pub compared_wrong : (must : Bool) (d from : ℕ) {c : Cursor} {o : Code} {r : ReadRefusal} → must ≡ true → compares (kind_at (left c)) ≡ false → Refusal (left c) why_bad r → Halts {Y = Found must} (λ g x. tested must d (expression g d) (thing_expr x)) flat from c o r
compared_wrong true d from {c} m h t = record { rest = left c; why = why_bad; is = λ x front e k g l. on_other d c _ _ _ h; told = t }
compared_wrong false d from {c} m h t = cc

pub compared_none : (must : Bool) (d from : ℕ) {c : Cursor} {o : Code} → must ≡ false → compares (kind_at (left c)) ≡ false → Followed (λ g x. tested must d (expression g d) (thing_expr x)) flat (flat_found must) (λ t. Expression ≡ found_is must t) from c c o o
compared_none true d from {c} m h = cc
compared_none false d from {c} m h = record { moved = stay; onto = λ x front e k. record { tree = thing_expr x; is = λ g l. on_other d c _ _ _ h; code = e; thing = refl } }

-- a negation
module _ (must : Bool) (d : ℕ) {c : Cursor} where
  pub not_stuck : {r : ReadRefusal} → is (mark Not) (kind_at (left c)) ≡ true → NotPassed d c r → Stops (λ g. negation must (suc g) d) c r
  not_stuck h n = record { rest = left c; why = why_of n; is = λ g l. negation_step must g d _ ∙ on_stuck d c _ _ _ h n; told = told_of n }

  pub not_broke : {b : Cursor} {r : ReadRefusal} → is (mark Not) (kind_at (left c)) ≡ true → Passed d c b → Stops (λ g. negation true (suc g) (d + 1)) b r → Stops (λ g. negation must (suc g) d) c r
  not_broke {b} {r} h s k' =
      let k : Stops (λ g. negation true (suc g) (suc d)) b r = subst (λ d. Stops (λ g. negation true (suc g) d) b r) (add-one d) k' in
      record {
        rest = k.rest;
        why = k.why;
        is = λ g l. let sh = shorter s in negation_step must g d _ ∙ on_passed d c _ _ _ h s ∙ after_fail _ _ _ (at_suc (λ g. negation true g (suc d) (left b)) _ _ k.is g (omega arith));
        told = k.told;
      }

  pub not_done : {b t : Cursor} {o o1 o2 p : Code} {y : Thing} → is (mark Not) (kind_at (left c)) ≡ true → Passed d c b → Wrote (node.Begin c.here.at) o o1
      → Gave 0 (λ g. negation true (suc g) (d + 1)) (flat_found true) (found_is true) b t o1 o2 y → Wrote node.Not o2 p → Gave 0 (λ g. negation must (suc g) d) (flat_found must) (found_is must) c t o p Condition
  not_done {b} {t} {o} {o1} {o2} {p} {y} h s w k' v =
      let k : Gave 0 (λ g. negation true (suc g) (suc d)) (flat_found true) (found_is true) b t o1 o2 y = subst (λ d. Gave 0 (λ g. negation true (suc g) d) (flat_found true) (found_is true) b t o1 o2 y) (add-one d) k' in
      let r = k.went in
      let path = and (pass s) (and (wrote w) (and (moves r.moved) (wrote v))) in
      record {
        went = record {
          tree = found must (tree.negated c.here.at r.tree);
          is = λ g l. let sh = shorter s in negation_step must g d _ ∙ on_passed d c _ _ _ h s ∙ after_done _ _ _ (at_suc (λ g. negation true g (suc d) (left b)) _ _ r.is g (omega arith));
          code = around (flat_cond r.tree) w r.code v ∙ ap (λ l. vec_items o.nodes ++ l) (sym (flat_found_lem must _));
          moved = moved_by path (omega arith);
          some = some_by 0 path (omega arith);
        };
        thing = is_found must _;
      }

  module _ (no : is (mark Not) (kind_at (left c)) ≡ false) where
    pub thing_broke : {r : ReadRefusal} → Stops (λ g. levels true 3 g d) c r → Stops (λ g. negation must (suc g) d) c r
    thing_broke k = record { rest = k.rest; why = k.why; is = λ g l. negation_step must g d _ ∙ on_other d c _ _ _ no ∙ after_fail _ _ _ (k.is g l); told = k.told }

    module _ {b : Cursor} {o p : Code} {y : Thing} (k : Gave 0 (λ g. levels true 3 g d) (flat_got true) (got_is true) c b o p y) where
      thing_is : (x : Either) → k.went.tree ≡ x → (g : ℕ) → length (left c) ≤ g → negation must (suc g) d (left c) ≡ tested must d (expression g d) x (left b)
      thing_is x e g l = negation_step must g d _ ∙ on_other d c _ _ _ no ∙ after_done _ _ _ (k.went.is g l) ∙ ap (λ t. tested must d (expression g d) t (left b)) e

      pub thing_condition : y ≡ Condition → Gave 0 (λ g. negation must (suc g) d) (flat_found must) (found_is must) c b o p Condition
      thing_condition h =
          let w = k.went in
          let a = as_condition false w.tree (sym h ∙ k.thing) in
          record {
            went = record {
              tree = found must a.0;
              is = λ g l. thing_is (thing_cond a.0) a.1 g l ∙ tested_condition must d (expression g d) a.0 (left b);
              code = w.code ∙ ap (λ l. vec_items o.nodes ++ l) (ap (flat_got true) a.1 ∙ sym (flat_found_lem must a.0));
              moved = w.moved;
              some = w.some;
            };
            thing = is_found must a.0;
          }

      pub thing_expression : {from : ℕ} (e : Cursor) (q : Code) (r : Result Thing ReadRefusal) → y ≡ Expression → from ≡ vec_len o.nodes → Compares must d from b e p q r → Gives 0 (λ g. negation must (suc g) d) (flat_found must) (found_is must) c e o q r
      thing_expression {from} e q (Ok z) h here f =
          let w = k.went in
          let a = as_expression true w.tree (sym h ∙ k.thing) in
          let n = f.onto a.0 (vec_items o.nodes) (w.code ∙ ap (λ l. vec_items o.nodes ++ l) (ap (flat_got true) a.1)) (sym (here ∙ o.nodes.ok.0)) in
          let path = and (moves w.moved) (moves f.moved) in
          record {
            went = record {
              tree = n.tree;
              is = λ g l. thing_is (thing_expr a.0) a.1 g l ∙ n.is g (omega (arith, w.moved.fall));
              code = n.code;
              moved = moved_by path (omega arith);
              some = omega (arith, w.some, f.moved.on);
            };
            thing = n.thing;
          }
      thing_expression {from} e q (Err r) h here f =
          let w = k.went in
          let a = as_expression true w.tree (sym h ∙ k.thing) in
          record {
            rest = f.rest;
            why = f.why;
            is = λ g l. thing_is (thing_expr a.0) a.1 g l ∙ f.is a.0 (vec_items o.nodes) (w.code ∙ ap (λ l. vec_items o.nodes ++ l) (ap (flat_got true) a.1)) (sym (here ∙ o.nodes.ok.0)) g (omega (arith, w.moved.fall));
            told = f.told;
          }

-- chains of conditions
pub conditions_one : (must : Bool) (n d : ℕ) (c e : Cursor) (o p : Code) (r : Result Thing ReadRefusal) → n ≡ 0 → Gives 0 (λ g. negation must (suc g) d) (flat_found must) (found_is must) c e o p r → Gives 0 (λ g. conditions must n g d) (flat_found must) (found_is must) c e o p r
conditions_one must n d c e o p r z h = subst (λ n. Gives 0 (λ g. conditions must n g d) (flat_found must) (found_is must) c e o p r) (sym z) h

pub conditions_fail : (must : Bool) (n d : ℕ) {c : Cursor} {r : ReadRefusal} → 0 < n → Stops (λ g. conditions must (n - 1) g d) c r → Stops (λ g. conditions must n g d) c r
conditions_fail must n d {c} l k = record { rest = k.rest; why = k.why; is = λ g h. conditions_step must n g d (left c) l ∙ after_fail _ _ _ (k.is g h); told = k.told }

module _ (must : Bool) (n d : ℕ) {c b : Cursor} {o p : Code} {y : Thing} (some : 0 < n) (first' : Gave 0 (λ g. conditions must (n - 1) g d) (flat_found must) (found_is must) c b o p y) where
  conditions_is : (g : ℕ) → length (left c) ≤ g → conditions must n g d (left c) ≡ holds must (joining_on d n (suc g) (suc g)) first'.went.tree (left b)
  conditions_is g l = conditions_step must n g d (left c) some ∙ after_done _ _ _ (first'.went.is g l)

  pub conditions_expression : y ≡ Expression → Gave 0 (λ g. conditions must n g d) (flat_found must) (found_is must) c b o p Expression
  conditions_expression h =
      let w = first'.went in
      record {
        went = record { tree = w.tree; is = λ g l. conditions_is g l ∙ holds_stays must _ w.tree (left b) (sym h ∙ first'.thing); code = w.code; moved = w.moved; some = w.some };
        thing = sym h ∙ first'.thing;
      }

  module _ {from : ℕ} (h : y ≡ Condition) (here : from ≡ vec_len o.nodes) where
    head : (x : Cond) × (first'.went.tree ≡ found must x)
    head = as_condition must first'.went.tree (sym h ∙ first'.thing)

    head_code : vec_items p.nodes ≡ vec_items o.nodes ++ flat_cond head.0
    head_code = first'.went.code ∙ ap (λ l. vec_items o.nodes ++ l) (ap (flat_found must) head.1 ∙ flat_found_lem must head.0)

    head_is : (g : ℕ) → length (left c) ≤ g → conditions must n g d (left c) ≡ holds must (joining_on d n (suc g) (suc g)) (found must head.0) (left b)
    head_is g l = conditions_is g l ∙ ap (λ t. holds must (joining_on d n (suc g) (suc g)) t (left b)) head.1

    enough : (g : ℕ) → length (left c) ≤ g → length (left b) ≤ suc g
    enough g l = omega (arith, first'.went.moved.fall)

    pub conditions_broke : {r : ReadRefusal} → Halts (λ g. joining_on d n g g) flat_cond from b p r → Stops (λ g. conditions must n g d) c r
    conditions_broke k = record {
      rest = k.rest;
      why = k.why;
      is = λ g l. head_is g l ∙ holds_fail must _ head.0 (left b) (k.is head.0 (vec_items o.nodes) head_code (sym (here ∙ o.nodes.ok.0)) (suc g) (enough g l));
      told = k.told;
    }

    pub conditions_done : {e : Cursor} {q : Code} → Followed (λ g. joining_on d n g g) flat_cond flat_cond (λ _. Unit {0}) from b e p q → Gave 0 (λ g. conditions must n g d) (flat_found must) (found_is must) c e o q Condition
    conditions_done {e} {q} k =
        let a = k.onto head.0 (vec_items o.nodes) head_code (sym (here ∙ o.nodes.ok.0)) in
        let w = first'.went in
        let path = and (moves w.moved) (moves k.moved) in
        record {
          went = record {
            tree = found must a.tree;
            is = λ g l. head_is g l ∙ holds_done must _ head.0 (left b) (a.is (suc g) (enough g l));
            code = a.code ∙ ap (λ l. vec_items o.nodes ++ l) (sym (flat_found_lem must a.tree));
            moved = moved_by path (omega arith);
            some = omega (arith, w.some, k.moved.on);
          };
          thing = is_found must a.tree;
        }

-- a chain's `&&` and `||`
abbrev pub join_by : Item → Cond → Cond → Cond
join_by i c e = join_of i.symbol i.at c e

abbrev pub other_of : ℕ → ℕ → ℕ → Parser Cond
other_of d n g = condition_by true d g (negation true g d) (negation true g d) (n - 1)

join_code : (a b : Bool) (j : Join) (at : ℕ) (x y : Cond) → (cond a 1 (cond b 2 0) == join_rank (Some j)) ≡ true → flat_cond (cond a (tree.both at x y) (tree.either at x y)) ≡ node.Begin at ∷ (flat_cond x ++ (join_node j (length (flat_cond y)) ∷ flat_cond y))
join_code true b And at x y h = refl
join_code true b Or at x y h = cc
join_code false true And at x y h = cc
join_code false true Or at x y h = refl
join_code false false And at x y h = cc
join_code false false Or at x y h = cc

module _ (d : ℕ) (j : Join) {from : ℕ} {s0 s : Cursor} {o0 o : Code} (so : Chained (joining_on d (join_rank (Some j))) flat_cond from s0 s o0 o) where
  pub joins_done : joins (join_rank (Some j)) (kind_at (left s)) ≡ false → Followed (λ g. joining_on d (join_rank (Some j)) g g) flat_cond flat_cond (λ _. Unit {0}) from s0 s o0 o
  joins_done h = chain_done d (joins (join_rank (Some j))) (other_of d (join_rank (Some j))) join_by so h

  module _ (here' : joins (join_rank (Some j)) (kind_at (left s)) ≡ true) where
    pub joins_stuck : {r : ReadRefusal} → NotPassed d s r → Halts (λ g. joining_on d (join_rank (Some j)) g g) flat_cond from s0 o0 r
    joins_stuck k = chain_stuck d (joins (join_rank (Some j))) (other_of d (join_rank (Some j))) join_by so here' k

    pub joins_broke : {b : Cursor} {r : ReadRefusal} → Passed d s b → Stops (λ g. conditions true (join_rank (Some j) - 1) g d) b r → Halts (λ g. joining_on d (join_rank (Some j)) g g) flat_cond from s0 o0 r
    joins_broke q k = chain_broke d (joins (join_rank (Some j))) (other_of d (join_rank (Some j))) join_by so here' q k

    pub joins_again : {b t : Cursor} {o1 o2 u : Code} {y : Thing} {middle skip : ℕ} {nd : Node} → Passed d s b → Inserted from (node.Begin s.here.at) o o1 → middle ≡ vec_len o1.nodes
        → Gave 0 (λ g. conditions true (join_rank (Some j) - 1) g d) (flat_found true) (found_is true) b t o1 o2 y → skip ≡ vec_len o2.nodes - middle → nd ≡ join_node j skip → Inserted middle nd o2 u
        → Chained (joining_on d (join_rank (Some j))) flat_cond from s0 t o0 u
    joins_again {b} {t} {o1} {o2} {u} {y} {middle} {skip} {nd} q w mid k sk is_nd v =
        let r = k.went in
        let long : length (flat_cond r.tree) ≡ skip = omega (arith, o1.nodes.ok.0, o2.nodes.ok.0, simp length-append at (ap length r.code)) in
        turn d (joins (join_rank (Some j))) (other_of d (join_rank (Some j))) join_by so r.tree here' q r.moved.fall r.is
        (moved_by (and (pass q) (and (inserts w) (and (moves r.moved) (inserts v)))) (omega arith))
        (λ x front e l.
        v.items ∙ insert_at _ (vec_items o1.nodes) (flat_cond r.tree) middle nd r.code (sym (mid ∙ o1.nodes.ok.0))
        ∙ ap (λ ns. ns ++ (nd ∷ flat_cond r.tree)) (w.items ∙ insert_at _ front (flat_cond x) from _ e l)
        ∙ append_assoc front _ _
        ∙ ap (λ nd. front ++ (node.Begin s.here.at ∷ (flat_cond x ++ (nd ∷ flat_cond r.tree)))) (is_nd ∙ ap (join_node j) (sym long))
        ∙ ap (λ ns. front ++ ns) (sym (join_code (is (mark AndAnd) (kind_at (left s))) (is (mark OrOr) (kind_at (left s))) j s.here.at x r.tree here')))
