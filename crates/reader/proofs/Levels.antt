-- Levels of binary operators: what each way of reading one comes to. Assumes nothing.
use Rattle.std.proofs.Common.{◌≡◌, ℕ, ◌-◌, ◌<◌, ◌≤◌, Bool, true, false, [], ◌∷◌, ◌++◌, length, vec_items, vec_len, Result, sym, ap, ◌∙◌, subst, append_assoc, arith}
use Rattle.script.specs.declared.types.Operator.{Operator}
use Rattle.script.specs.declared.types.Node.TheVariants as node
use Rattle.script.specs.Tree as tree
use Rattle.script.specs.Tree.{Expr}
use Rattle.script.specs.Flat.{flat}
use Rattle.tokens.specs.Spelling.{Item}
use Rattle.grammar.specs.Tokens.{first}
use Rattle.grammar.specs.Combine.{Parser, kind_at}
use Rattle.grammar.specs.Parse.{got, goes, level, operand, operates, operator_of}
use Rattle.reader.specs.declared.refusal.ReadRefusal.{ReadRefusal}
use Rattle.reader.specs.declared.cursor.Cursor.{Cursor}
use Rattle.reader.specs.declared.code.Code.{Code}
use Rattle.reader.specs.declared.code.Thing.{Thing}
use Rattle.reader.specs.declared.code.Thing.TheVariants.{Expression, Condition}
use Rattle.reader.specs.Cursor.{left}
use Rattle.reader.specs.Reading.{Passed, NotPassed}
use Rattle.reader.specs.Terms.{Wrote, Inserted, Stops, Gave, Gives, Followed, Halts, operands, levels, chained, flat_got, got_is}
use Rattle.reader.proofs.Steps.{from_done, from_fail}
use Rattle.reader.proofs.Paths.{moves, and, pass, wrote, inserts, moved_by, insert_at}
use Rattle.reader.proofs.Chains.{Chained, turn, chain_done, chain_stuck, chain_broke}
use Rattle.reader.proofs.Forms.{flat_got_lem, is_got, as_expression, goes_done, goes_fail, goes_stays, gas_of, gas_enough, level_none, level_step}
use Rattle.reader.proofs.Operands.{recast}

pub level_operand : (m : Bool) (n d : ℕ) (c e : Cursor) (o p : Code) (r : Result Thing ReadRefusal) → n ≡ 0 → Gives 0 (λ g. operands m g d) (flat_got m) (got_is m) c e o p r → Gives 0 (λ g. levels m n g d) (flat_got m) (got_is m) c e o p r
level_operand m n d c e o p r z h = subst (λ n. Gives 0 (λ g. levels m n g d) (flat_got m) (got_is m) c e o p r) (sym z) (recast (λ g. operands m g d) (λ g. levels m 0 g d) c (λ g l. level_none m g d (left c)) (flat_got m) (got_is m) 0 e o p r h)

pub level_fails : (m : Bool) (n d : ℕ) {c : Cursor} {r : ReadRefusal} → 0 < n → Stops (λ g. levels m (n - 1) g d) c r → Stops (λ g. levels m n g d) c r
level_fails m n d {c} l k = record { rest = k.rest; why = k.why; is = λ g h. level_step m n g d (left c) l ∙ from_fail _ _ _ (k.is g h); told = k.told }

module _ (m : Bool) (n d : ℕ) {c b : Cursor} {o p : Code} {y : Thing} (some : 0 < n) (first' : Gave 0 (λ g. levels m (n - 1) g d) (flat_got m) (got_is m) c b o p y) where
  level_is : (g : ℕ) → length (left c) ≤ g → levels m n g d (left c) ≡ goes m (chained d n c.here.at (gas_of m g) (gas_of m g)) first'.went.tree (left b)
  level_is g l = level_step m n g d (left c) some ∙ from_done _ _ _ (first'.went.is g l)

  pub level_condition : y ≡ Condition → Gave 0 (λ g. levels m n g d) (flat_got m) (got_is m) c b o p Condition
  level_condition h =
      let w = first'.went in
      record {
        went = record { tree = w.tree; is = λ g l. level_is g l ∙ goes_stays m _ w.tree (left b) (sym h ∙ first'.thing); code = w.code; moved = w.moved; some = w.some };
        thing = sym h ∙ first'.thing;
      }

  module _ {from : ℕ} (h : y ≡ Expression) (here : from ≡ vec_len o.nodes) where
    head : (x : Expr) × (first'.went.tree ≡ got m x)
    head = as_expression m first'.went.tree (sym h ∙ first'.thing)

    head_code : vec_items p.nodes ≡ vec_items o.nodes ++ flat head.0
    head_code = first'.went.code ∙ ap (λ l. vec_items o.nodes ++ l) (ap (flat_got m) head.1 ∙ flat_got_lem m head.0)

    head_is : (g : ℕ) → length (left c) ≤ g → levels m n g d (left c) ≡ goes m (chained d n c.here.at (gas_of m g) (gas_of m g)) (got m head.0) (left b)
    head_is g l = level_is g l ∙ ap (λ t. goes m (chained d n c.here.at (gas_of m g) (gas_of m g)) t (left b)) head.1

    enough : (g : ℕ) → length (left c) ≤ g → length (left b) ≤ gas_of m g
    enough g l = omega (arith, gas_enough m g, first'.went.moved.fall)

    pub level_broke : {r : ReadRefusal} → Halts (λ g. chained d n c.here.at g g) flat from b p r → Stops (λ g. levels m n g d) c r
    level_broke k = record {
      rest = k.rest;
      why = k.why;
      is = λ g l. head_is g l ∙ goes_fail m _ head.0 (left b) (k.is head.0 (vec_items o.nodes) head_code (sym (here ∙ o.nodes.ok.0)) (gas_of m g) (enough g l));
      told = k.told;
    }

    pub level_done : {e : Cursor} {q : Code} → Followed (λ g. chained d n c.here.at g g) flat flat (λ _. Unit {0}) from b e p q → Gave 0 (λ g. levels m n g d) (flat_got m) (got_is m) c e o q Expression
    level_done {e} {q} k =
        let a = k.onto head.0 (vec_items o.nodes) head_code (sym (here ∙ o.nodes.ok.0)) in
        let w = first'.went in
        let path = and (moves w.moved) (moves k.moved) in
        record {
          went = record {
            tree = got m a.tree;
            is = λ g l. head_is g l ∙ goes_done m _ head.0 (left b) (a.is (gas_of m g) (enough g l));
            code = a.code ∙ ap (λ l. vec_items o.nodes ++ l) (sym (flat_got_lem m a.tree));
            moved = moved_by path (omega arith);
            some = omega (arith, w.some, k.moved.on);
          };
          thing = is_got m a.tree;
        }

-- a chain's operators
abbrev pub binary_of : ℕ → Item → Expr → Expr → Expr
binary_of start i e f = tree.binary i.at start (operator_of i.symbol) e f

abbrev pub right_of : ℕ → ℕ → ℕ → Parser Expr
right_of d n g = level false d g (operand g d) (operand g d) (n - 1)

module _ (d n start : ℕ) {from : ℕ} {s0 s : Cursor} {o0 o : Code} (so : Chained (chained d n start) flat from s0 s o0 o) where
  pub operators_done : operates n (kind_at (left s)) ≡ false → Followed (λ g. chained d n start g g) flat flat (λ _. Unit {0}) from s0 s o0 o
  operators_done h = chain_done d (operates n) (right_of d n) (binary_of start) so h

  module _ (here : operates n (kind_at (left s)) ≡ true) where
    pub operators_stuck : {r : ReadRefusal} → NotPassed d s r → Halts (λ g. chained d n start g g) flat from s0 o0 r
    operators_stuck k = chain_stuck d (operates n) (right_of d n) (binary_of start) so here k

    pub operators_broke : {b : Cursor} {r : ReadRefusal} → Passed d s b → Stops (λ g. levels false (n - 1) g d) b r → Halts (λ g. chained d n start g g) flat from s0 o0 r
    operators_broke q k = chain_broke d (operates n) (right_of d n) (binary_of start) so here q k

    pub operators_again : {b t : Cursor} {o1 o2 u : Code} {op : Operator} {y : Thing} → Passed d s b → op ≡ operator_of (first (left s)) → Inserted from (node.Begin s.here.at) o o1
        → Gave 0 (λ g. levels false (n - 1) g d) (flat_got false) (got_is false) b t o1 o2 y → Wrote (node.Binary s.here.at start op) o2 u
        → Chained (chained d n start) flat from s0 t o0 u
    operators_again {b} {t} {o1} {o2} {u} {op} q is_op w k v =
        let r = k.went in
        let v' : Wrote (node.Binary s.here.at start (operator_of (first (left s)))) o2 u = subst (λ op. Wrote (node.Binary s.here.at start op) o2 u) is_op v in
        turn d (operates n) (right_of d n) (binary_of start) so r.tree here q r.moved.fall r.is
        (moved_by (and (pass q) (and (inserts w) (and (moves r.moved) (wrote v)))) (omega arith))
        (λ x front e l.
        v'.items ∙ ap (λ ns. ns ++ (node.Binary s.here.at start (operator_of (first (left s))) ∷ [])) (r.code ∙ ap (λ ns. ns ++ flat r.tree) (w.items ∙ insert_at _ front (flat x) from _ e l))
        ∙ simp append_assoc)
