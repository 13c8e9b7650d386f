-- Operands: what each way of reading one comes to. Assumes nothing.
use Rattle.std.proofs.Common.{◌≡◌, ℕ, suc, ◌+◌, ◌≤◌, Bool, true, false, List, ◌++◌, length, Ok, Err, vec_items, Result, sym, ap, ◌∙◌, subst, add-one, arith}
use Rattle.script.specs.declared.types.«Type».{«Type» as Ty}
use Rattle.script.specs.declared.types.Name.{Name}
use Rattle.script.specs.declared.types.Node.{Node}
use Rattle.script.specs.declared.types.Node.TheVariants as node
use Rattle.script.specs.Tree as tree
use Rattle.script.specs.Flat.{flat, flats}
use Rattle.tokens.specs.declared.types.Mark.TheVariants.{LeftParen, RightParen, Minus}
use Rattle.tokens.specs.declared.types.Keyword.TheVariants.{Nil}
use Rattle.tokens.specs.declared.types.Token.TheVariants.{Constant, Keyword, Mark}
use Rattle.tokens.specs.Spelling.{symbol_of, item_of, mark, keyword}
use Rattle.std.proofs.lemmas.Bool.{eqb-true}
use Rattle.reader.proofs.Steps.{kind_of}
use Rattle.grammar.specs.Tokens.{first}
use Rattle.grammar.specs.Combine.{why_bad, Out, out_done, Parser, kind_at, is}
use Rattle.grammar.specs.Parse.{Got, got, expression, actuals, named, operand, is_type, type_of, is_constant, is_name, name_of, value_of}
use Rattle.reader.specs.declared.refusal.ReadRefusal.{ReadRefusal}
use Rattle.reader.specs.declared.cursor.Cursor.{Cursor}
use Rattle.reader.specs.declared.code.Code.{Code}
use Rattle.reader.specs.declared.code.Thing.{Thing}
use Rattle.reader.specs.declared.code.Thing.TheVariants.{Expression}
use Rattle.reader.specs.Cursor.{left}
use Rattle.reader.specs.Reading.{Refusal, Passed, NotPassed, NotExpected, Read, ReadActuals, Refused}
use Rattle.reader.specs.Terms.{Wrote, Went, Stops, Gave, Gives, inside, bracketed, operands, conditions, flat_got, got_is, flat_found, found_is}
use Rattle.reader.proofs.Steps.{on_passed, on_stuck, on_other, after_done, after_fail, wanted, unwanted, why_of, told_of, why_not, told_not, shorter, at_suc}
use Rattle.reader.proofs.Paths.{moves, and, pass, wrote, moved_by, some_by, around}
use Rattle.reader.proofs.Forms.{flat_got_lem, is_got, operand_step}

-- what f reads is what f' reads
module _ {X : Type 0} (f f' : ℕ → Parser X) (c : Cursor) (same : (g : ℕ) → length (left c) ≤ g → f' g (left c) ≡ f g (left c)) where
  pub recast_stops : {r : ReadRefusal} → Stops f c r → Stops f' c r
  recast_stops k = record { rest = k.rest; why = k.why; is = λ g l. same g l ∙ k.is g l; told = k.told }

  pub recast : (code_of : X → List Node) (kind_of : X → Thing) (k : ℕ) (e : Cursor) (o p : Code) (r : Result Thing ReadRefusal) → Gives k f code_of kind_of c e o p r → Gives k f' code_of kind_of c e o p r
  recast code_of kind_of k e o p (Ok y) h =
      let w = h.went in
      record { went = record { tree = w.tree; is = λ g l. same g l ∙ w.is g l; code = w.code; moved = w.moved; some = w.some }; thing = h.thing }
  recast code_of kind_of k e o p (Err r) h = recast_stops h

-- a gas that is above the number of tokens left
module _ {X : Type 0} (f : ℕ → Parser X) {c : Cursor} where
  pub read_whole : {code_of : X → List Node} {e : Cursor} {o p : Code} → Went 0 (λ g. f (suc g)) code_of c e o p → Read f code_of c e o p
  read_whole w = record { tree = w.tree; is = at_suc (λ g. f g (left c)) _ _ w.is; code = w.code; moved = w.moved; some = omega (arith, w.some) }

  pub refused_whole : {r : ReadRefusal} → Stops (λ g. f (suc g)) c r → Refused f c r
  refused_whole k = record { rest = k.rest; why = k.why; is = at_suc (λ g. f g (left c)) _ _ k.is; told = k.told }

-- a variable or a call, after its name
module _ (d : ℕ) (x : Name) {c : Cursor} where
  pub named_variable : {o p : Code} → is (mark LeftParen) (kind_at (left c)) ≡ false → Wrote (node.Variable x) o p → Went 2 (λ g. named d (suc g) (expression (suc g) (suc d)) x) flat c c o p
  named_variable h w = record { tree = tree.variable x; is = λ g l. on_other d c _ _ _ h; code = w.items; moved = moved_by (wrote w) (omega arith); some = some_by 2 (wrote {c = c} w) (omega arith) }

  pub named_stuck : {r : ReadRefusal} → is (mark LeftParen) (kind_at (left c)) ≡ true → NotPassed d c r → Stops (λ g. named d (suc g) (expression (suc g) (suc d)) x) c r
  named_stuck h n = record { rest = left c; why = why_of n; is = λ g l. on_stuck d c _ _ _ h n; told = told_of n }

  pub named_broke : {b : Cursor} {r : ReadRefusal} → is (mark LeftParen) (kind_at (left c)) ≡ true → Passed d c b → Refused (λ g. actuals d g (expression g (suc d))) b r → Stops (λ g. named d (suc g) (expression (suc g) (suc d)) x) c r
  named_broke h s k = record {
    rest = k.rest;
    why = k.why;
    is = λ g l. let sh = shorter s in on_passed d c _ _ _ h s ∙ after_fail _ _ _ (k.is (suc g) (omega arith));
    told = k.told;
  }

  pub named_call : {b t : Cursor} {o o1 o2 p : Code} {n : ℕ} → is (mark LeftParen) (kind_at (left c)) ≡ true → Passed d c b → Wrote (node.Begin x.at) o o1 → ReadActuals (λ g. actuals d g (expression g (suc d))) b t o1 o2 n → Wrote (node.Call x n) o2 p
      → Went 2 (λ g. named d (suc g) (expression (suc g) (suc d)) x) flat c t o p
  named_call {b} {t} {o} {o1} {o2} {p} {n} h s w r v =
      let path = and (pass s) (and (wrote w) (and (moves r.read.moved) (wrote v))) in
      record {
        tree = tree.call x r.read.tree;
        is = λ g l. let sh = shorter s in on_passed d c _ _ _ h s ∙ after_done _ _ _ (r.read.is (suc g) (omega arith));
        code = around (flats r.read.tree) w r.read.code (subst (λ n. Wrote (node.Call x n) o2 p) r.number v);
        moved = moved_by path (omega arith);
        some = some_by 2 path (omega arith);
      }

-- what stands in parentheses
pub inside_merged : (m : Bool) (d : ℕ) (c e : Cursor) (o p : Code) (r : Result Thing ReadRefusal) → m ≡ true → Gives 0 (λ g. conditions false 2 g d) (flat_found false) (found_is false) c e o p r → Gives 0 (λ g. inside m (suc g) d) (flat_got m) (got_is m) c e o p r
inside_merged true d c e o p r h k = k
inside_merged false d c e o p r h k = cc

pub inside_plain : (m : Bool) (d : ℕ) (c e : Cursor) (o p : Code) (r : Result Thing ReadRefusal) → m ≡ false → Gives 0 (λ g. expression (suc g) d) (flat_got false) (got_is false) c e o p r → Gives 0 (λ g. inside m (suc g) d) (flat_got m) (got_is m) c e o p r
inside_plain true d c e o p r h k = cc
inside_plain false d c e o p r h k = k

-- a cast, after its opening parenthesis at this offset
module _ (m : Bool) (d at : ℕ) {c : Cursor} (cast' : is_type (kind_at (left c)) ≡ true) where
  pub cast_stuck : {r : ReadRefusal} → NotPassed d c r → Stops (λ g. bracketed m d (operand (suc g) (suc d)) (inside m (suc g) (suc d)) at) c r
  cast_stuck n = record { rest = left c; why = why_of n; is = λ g l. on_stuck d c _ _ _ cast' n; told = told_of n }

  pub cast_open : {b : Cursor} {r : ReadRefusal} → Passed d c b → NotExpected RightParen d b r → Stops (λ g. bracketed m d (operand (suc g) (suc d)) (inside m (suc g) (suc d)) at) c r
  cast_open {b} s n = record { rest = left b; why = why_not n; is = λ g l. on_passed d c _ _ _ cast' s ∙ unwanted RightParen d b _ n; told = told_not n }

  pub cast_broke : {b e : Cursor} {r : ReadRefusal} → Passed d c b → (is (mark RightParen) (kind_at (left b)) ≡ true) × Passed d b e → Stops (λ g. operands false g (d + 1)) e r → Stops (λ g. bracketed m d (operand (suc g) (suc d)) (inside m (suc g) (suc d)) at) c r
  cast_broke {b} {e} {r} s n k' =
      let k : Stops (λ g. operands false g (suc d)) e r = subst (λ d. Stops (λ g. operands false g d) e r) (add-one d) k' in
      record {
        rest = k.rest;
        why = k.why;
        is = λ g l.
            let sh = shorter s in
            let sh2 = shorter n.1 in
            on_passed d c _ _ _ cast' s ∙ wanted RightParen d b _ n ∙ after_fail _ _ _ (operand_step g (suc d) (left e) ∙ k.is g (omega arith));
        told = k.told;
      }

  pub cast_done : {b e t : Cursor} {o o1 o2 p : Code} {y : Thing} {to : Ty} → to ≡ type_of (first (left c)) → Passed d c b → (is (mark RightParen) (kind_at (left b)) ≡ true) × Passed d b e
      → Wrote (node.Begin at) o o1 → Gave 0 (λ g. operands false g (d + 1)) (flat_got false) (got_is false) e t o1 o2 y → Wrote (node.Cast at to) o2 p
      → Gave 0 (λ g. bracketed m d (operand (suc g) (suc d)) (inside m (suc g) (suc d)) at) (flat_got m) (got_is m) c t o p Expression
  cast_done {b} {e} {t} {o} {o1} {o2} {p} {y} {to} ty s n w k' v =
      let k : Gave 0 (λ g. operands false g (suc d)) (flat_got false) (got_is false) e t o1 o2 y = subst (λ d. Gave 0 (λ g. operands false g d) (flat_got false) (got_is false) e t o1 o2 y) (add-one d) k' in
      let r = k.went in
      let path = and (pass s) (and (pass n.1) (and (wrote w) (and (moves r.moved) (wrote v)))) in
      record {
        went = record {
          tree = got m (tree.cast at (type_of (first (left c))) r.tree);
          is = λ g l.
              let sh = shorter s in
              let sh2 = shorter n.1 in
              on_passed d c _ _ _ cast' s ∙ wanted RightParen d b _ n ∙ after_done _ _ _ (operand_step g (suc d) (left e) ∙ r.is g (omega arith));
          code = around (flat r.tree) w r.code (subst (λ n. Wrote (node.Cast at n) o2 p) ty v) ∙ ap (λ l. vec_items o.nodes ++ l) (sym (flat_got_lem m _));
          moved = moved_by path (omega arith);
          some = some_by 0 path (omega arith);
        };
        thing = is_got m _;
      }

-- a group, after its opening parenthesis
module _ (m : Bool) (d at : ℕ) {c : Cursor} (group : is_type (kind_at (left c)) ≡ false) where
  pub group_broke : {r : ReadRefusal} → Stops (λ g. inside m (suc g) (d + 1)) c r → Stops (λ g. bracketed m d (operand (suc g) (suc d)) (inside m (suc g) (suc d)) at) c r
  group_broke {r} k' =
      let k : Stops (λ g. inside m (suc g) (suc d)) c r = subst (λ d. Stops (λ g. inside m (suc g) d) c r) (add-one d) k' in
      record { rest = k.rest; why = k.why; is = λ g l. on_other d c _ _ _ group ∙ after_fail _ _ _ (k.is g l); told = k.told }

  pub group_open : {b : Cursor} {o p : Code} {y : Thing} {r : ReadRefusal} → Gave 0 (λ g. inside m (suc g) (d + 1)) (flat_got m) (got_is m) c b o p y → NotExpected RightParen d b r → Stops (λ g. bracketed m d (operand (suc g) (suc d)) (inside m (suc g) (suc d)) at) c r
  group_open {b} {o} {p} {y} k' n =
      let k : Gave 0 (λ g. inside m (suc g) (suc d)) (flat_got m) (got_is m) c b o p y = subst (λ d. Gave 0 (λ g. inside m (suc g) d) (flat_got m) (got_is m) c b o p y) (add-one d) k' in
      record { rest = left b; why = why_not n; is = λ g l. on_other d c _ _ _ group ∙ after_done _ _ _ (k.went.is g l) ∙ unwanted RightParen d b _ n; told = told_not n }

  pub group_done : {b e : Cursor} {o p : Code} {y : Thing} → Gave 0 (λ g. inside m (suc g) (d + 1)) (flat_got m) (got_is m) c b o p y → (is (mark RightParen) (kind_at (left b)) ≡ true) × Passed d b e
      → Gave 0 (λ g. bracketed m d (operand (suc g) (suc d)) (inside m (suc g) (suc d)) at) (flat_got m) (got_is m) c e o p y
  group_done {b} {e} {o} {p} {y} k' n =
      let k : Gave 0 (λ g. inside m (suc g) (suc d)) (flat_got m) (got_is m) c b o p y = subst (λ d. Gave 0 (λ g. inside m (suc g) d) (flat_got m) (got_is m) c b o p y) (add-one d) k' in
      let path = and (moves k.went.moved) (pass n.1) in
      record {
        went = record {
          tree = k.went.tree;
          is = λ g l. on_other d c _ _ _ group ∙ after_done _ _ _ (k.went.is g l) ∙ wanted RightParen d b _ n;
          code = k.went.code;
          moved = moved_by path (omega arith);
          some = some_by 0 path (omega arith);
        };
        thing = k.thing;
      }

-- the kind of no token that an operand but a name begins with
abbrev pub IsNoOperand : ℕ → Type 0
IsNoOperand k = (is_constant k ≡ false) × (is (keyword Nil) k ≡ false) × (is (mark Minus) k ≡ false) × (is (mark LeftParen) k ≡ false)

-- an operand
module _ (m : Bool) (d : ℕ) {c : Cursor} where
  pub constant_stuck : {v : ℕ} {r : ReadRefusal} → c.here.token ≡ Constant v → NotPassed d c r → Stops (λ g. operands m g d) c r
  constant_stuck h n = record { rest = left c; why = why_of n; is = λ g l. on_stuck d c _ _ _ (ap (λ t. is_constant (kind_of t)) h) n; told = told_of n }

  pub constant_done : {b : Cursor} {o p : Code} {v : ℕ} → c.here.token ≡ Constant v → Passed d c b → Wrote (node.Constant c.here.at v) o p → Gave 0 (λ g. operands m g d) (flat_got m) (got_is m) c b o p Expression
  constant_done {b} {o} {p} {v} h s w =
      let path = and (pass s) (wrote w) in
      record {
        went = record {
          tree = got m (tree.constant c.here.at v);
          is = λ g l. on_passed d c _ _ _ (ap (λ t. is_constant (kind_of t)) h) s ∙ ap (λ t. out_done (got m (tree.constant c.here.at (value_of (symbol_of t)))) (left b)) h;
          code = w.items ∙ ap (λ l. vec_items o.nodes ++ l) (sym (flat_got_lem m _));
          moved = moved_by path (omega arith);
          some = some_by 0 path (omega arith);
        };
        thing = is_got m _;
      }

  pub name_stuck : {r : ReadRefusal} → is_name (kind_at (left c)) ≡ true → NotPassed d c r → Stops (λ g. operands m g d) c r
  name_stuck h n = record { rest = left c; why = why_of n; is = λ g l. on_other d c _ _ _ (ap is_constant (eqb-true _ _ h)) ∙ on_stuck d c _ _ _ h n; told = told_of n }

  pub name_broke : {b : Cursor} {x : Name} {r : ReadRefusal} → (is_name (kind_at (left c)) ≡ true) × (x ≡ name_of (item_of c.here)) → Passed d c b → Stops (λ g. named d (suc g) (expression (suc g) (suc d)) x) b r → Stops (λ g. operands m g d) c r
  name_broke {b} {x} {r} h s k' =
      let y = name_of (item_of c.here) in
      let k : Stops (λ g. named d (suc g) (expression (suc g) (suc d)) y) b r = subst (λ x. Stops (λ g. named d (suc g) (expression (suc g) (suc d)) x) b r) h.1 k' in
      record {
        rest = k.rest;
        why = k.why;
        is = λ g l. let sh = shorter s in on_other d c _ _ _ (ap is_constant (eqb-true _ _ h.0)) ∙ on_passed d c _ _ _ h.0 s ∙ after_fail _ _ _ (at_suc (λ g. named d g (expression g (suc d)) y (left b)) _ _ k.is g (omega arith));
        told = k.told;
      }

  pub name_done : {b t : Cursor} {x : Name} {o p : Code} → (is_name (kind_at (left c)) ≡ true) × (x ≡ name_of (item_of c.here)) → Passed d c b → Went 2 (λ g. named d (suc g) (expression (suc g) (suc d)) x) flat b t o p → Gave 0 (λ g. operands m g d) (flat_got m) (got_is m) c t o p Expression
  name_done {b} {t} {x} {o} {p} h s k' =
      let y = name_of (item_of c.here) in
      let k : Went 2 (λ g. named d (suc g) (expression (suc g) (suc d)) y) flat b t o p = subst (λ x. Went 2 (λ g. named d (suc g) (expression (suc g) (suc d)) x) flat b t o p) h.1 k' in
      let path = and (pass s) (moves k.moved) in
      record {
        went = record {
          tree = got m k.tree;
          is = λ g l. let sh = shorter s in on_other d c _ _ _ (ap is_constant (eqb-true _ _ h.0)) ∙ on_passed d c _ _ _ h.0 s ∙ after_done _ _ _ (at_suc (λ g. named d g (expression g (suc d)) y (left b)) _ _ k.is g (omega arith));
          code = k.code ∙ ap (λ l. vec_items o.nodes ++ l) (sym (flat_got_lem m _));
          moved = moved_by path (omega arith);
          some = some_by 0 path (omega arith);
        };
        thing = is_got m _;
      }

  pub nil_stuck : {r : ReadRefusal} → c.here.token ≡ Keyword Nil → NotPassed d c r → Stops (λ g. operands m g d) c r
  nil_stuck h n = record { rest = left c; why = why_of n; is = λ g l. on_other d c _ _ _ (ap (λ t. is_constant (kind_of t)) h) ∙ on_other d c _ _ _ (ap (λ t. is_name (kind_of t)) h) ∙ on_stuck d c _ _ _ (ap (λ t. is (keyword Nil) (kind_of t)) h) n; told = told_of n }

  pub nil_done : {b : Cursor} {o p : Code} → c.here.token ≡ Keyword Nil → Passed d c b → Wrote (node.Nil c.here.at) o p → Gave 0 (λ g. operands m g d) (flat_got m) (got_is m) c b o p Expression
  nil_done {b} {o} {p} h s w =
      let path = and (pass s) (wrote w) in
      record {
        went = record {
          tree = got m (tree.nil c.here.at);
          is = λ g l. on_other d c _ _ _ (ap (λ t. is_constant (kind_of t)) h) ∙ on_other d c _ _ _ (ap (λ t. is_name (kind_of t)) h) ∙ on_passed d c _ _ _ (ap (λ t. is (keyword Nil) (kind_of t)) h) s;
          code = w.items ∙ ap (λ l. vec_items o.nodes ++ l) (sym (flat_got_lem m _));
          moved = moved_by path (omega arith);
          some = some_by 0 path (omega arith);
        };
        thing = is_got m _;
      }

  pub minus_stuck : {r : ReadRefusal} → c.here.token ≡ Mark Minus → NotPassed d c r → Stops (λ g. operands m g d) c r
  minus_stuck h n = record { rest = left c; why = why_of n; is = λ g l. on_other d c _ _ _ (ap (λ t. is_constant (kind_of t)) h) ∙ on_other d c _ _ _ (ap (λ t. is_name (kind_of t)) h) ∙ on_other d c _ _ _ (ap (λ t. is (keyword Nil) (kind_of t)) h) ∙ on_stuck d c _ _ _ (ap (λ t. is (mark Minus) (kind_of t)) h) n; told = told_of n }

  pub minus_broke : {b : Cursor} {r : ReadRefusal} → c.here.token ≡ Mark Minus → Passed d c b → Stops (λ g. operands false g (d + 1)) b r → Stops (λ g. operands m g d) c r
  minus_broke {b} {r} h s k' =
      let k : Stops (λ g. operands false g (suc d)) b r = subst (λ d. Stops (λ g. operands false g d) b r) (add-one d) k' in
      record {
        rest = k.rest;
        why = k.why;
        is = λ g l.
            let sh = shorter s in
            on_other d c _ _ _ (ap (λ t. is_constant (kind_of t)) h) ∙ on_other d c _ _ _ (ap (λ t. is_name (kind_of t)) h) ∙ on_other d c _ _ _ (ap (λ t. is (keyword Nil) (kind_of t)) h) ∙ on_passed d c _ _ _ (ap (λ t. is (mark Minus) (kind_of t)) h) s
            ∙ after_fail _ _ _ (at_suc (λ g. operand g (suc d) (left b)) _ _ (λ g l. operand_step g (suc d) (left b) ∙ k.is g l) g (omega arith));
        told = k.told;
      }

  pub minus_done : {b t : Cursor} {o o1 o2 p : Code} {y : Thing} → c.here.token ≡ Mark Minus → Passed d c b → Wrote (node.Begin c.here.at) o o1
      → Gave 0 (λ g. operands false g (d + 1)) (flat_got false) (got_is false) b t o1 o2 y → Wrote (node.Negate c.here.at) o2 p → Gave 0 (λ g. operands m g d) (flat_got m) (got_is m) c t o p Expression
  minus_done {b} {t} {o} {o1} {o2} {p} {y} h s w k' v =
      let k : Gave 0 (λ g. operands false g (suc d)) (flat_got false) (got_is false) b t o1 o2 y = subst (λ d. Gave 0 (λ g. operands false g d) (flat_got false) (got_is false) b t o1 o2 y) (add-one d) k' in
      let r = k.went in
      let path = and (pass s) (and (wrote w) (and (moves r.moved) (wrote v))) in
      record {
        went = record {
          tree = got m (tree.negate c.here.at r.tree);
          is = λ g l.
              let sh = shorter s in
              on_other d c _ _ _ (ap (λ t. is_constant (kind_of t)) h) ∙ on_other d c _ _ _ (ap (λ t. is_name (kind_of t)) h) ∙ on_other d c _ _ _ (ap (λ t. is (keyword Nil) (kind_of t)) h) ∙ on_passed d c _ _ _ (ap (λ t. is (mark Minus) (kind_of t)) h) s
              ∙ after_done _ _ _ (at_suc (λ g. operand g (suc d) (left b)) _ _ (λ g l. operand_step g (suc d) (left b) ∙ r.is g l) g (omega arith));
          code = around (flat r.tree) w r.code v ∙ ap (λ l. vec_items o.nodes ++ l) (sym (flat_got_lem m _));
          moved = moved_by path (omega arith);
          some = some_by 0 path (omega arith);
        };
        thing = is_got m _;
      }

  pub operand_wrong : {r : ReadRefusal} → is_name (kind_at (left c)) ≡ false → IsNoOperand (kind_at (left c)) → Refusal (left c) why_bad r → Stops (λ g. operands m g d) c r
  operand_wrong k2 k t = record { rest = left c; why = why_bad; is = λ g l. on_other d c _ _ _ k.0 ∙ on_other d c _ _ _ k2 ∙ on_other d c _ _ _ k.1 ∙ on_other d c _ _ _ k.2 ∙ on_other d c _ _ _ k.3; told = t }

  pub bracket_stuck : {r : ReadRefusal} → c.here.token ≡ Mark LeftParen → NotPassed d c r → Stops (λ g. operands m g d) c r
  bracket_stuck h n = record { rest = left c; why = why_of n; is = λ g l. on_other d c _ _ _ (ap (λ t. is_constant (kind_of t)) h) ∙ on_other d c _ _ _ (ap (λ t. is_name (kind_of t)) h) ∙ on_other d c _ _ _ (ap (λ t. is (keyword Nil) (kind_of t)) h) ∙ on_other d c _ _ _ (ap (λ t. is (mark Minus) (kind_of t)) h) ∙ on_stuck d c _ _ _ (ap (λ t. is (mark LeftParen) (kind_of t)) h) n; told = told_of n }

  bracket_is : {b : Cursor} {u : Out (Got m)} → c.here.token ≡ Mark LeftParen → Passed d c b → ((g : ℕ) → length (left b) ≤ g → bracketed m d (operand (suc g) (suc d)) (inside m (suc g) (suc d)) c.here.at (left b) ≡ u) → (g : ℕ) → length (left c) ≤ g → operands m g d (left c) ≡ u
  bracket_is {b} {u} h s k g l =
      let sh = shorter s in
      on_other d c _ _ _ (ap (λ t. is_constant (kind_of t)) h) ∙ on_other d c _ _ _ (ap (λ t. is_name (kind_of t)) h) ∙ on_other d c _ _ _ (ap (λ t. is (keyword Nil) (kind_of t)) h) ∙ on_other d c _ _ _ (ap (λ t. is (mark Minus) (kind_of t)) h) ∙ on_passed d c _ _ _ (ap (λ t. is (mark LeftParen) (kind_of t)) h) s
      ∙ at_suc (λ g. bracketed m d (operand g (suc d)) (inside m g (suc d)) c.here.at (left b)) u _ k g (omega arith)

  pub bracket_done : (b t : Cursor) (o p : Code) (r : Result Thing ReadRefusal) → c.here.token ≡ Mark LeftParen → Passed d c b
      → Gives 0 (λ g. bracketed m d (operand (suc g) (suc d)) (inside m (suc g) (suc d)) c.here.at) (flat_got m) (got_is m) b t o p r → Gives 0 (λ g. operands m g d) (flat_got m) (got_is m) c t o p r
  bracket_done b t o p (Ok y) h s k =
      let path = and (pass s) (moves k.went.moved) in
      record {
        went = record { tree = k.went.tree; is = bracket_is h s k.went.is; code = k.went.code; moved = moved_by path (omega arith); some = some_by 0 path (omega arith) };
        thing = k.thing;
      }
  bracket_done b t o p (Err r) h s k = record { rest = k.rest; why = k.why; is = bracket_is h s k.is; told = k.told }
