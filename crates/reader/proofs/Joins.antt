-- An if and a while, by what was read and written for their parts. Assumes nothing.
use Rattle.std.proofs.Common.{◌≡◌, ℕ, suc, ◌+◌, ◌-◌, true, false, length, vec_items, vec_len, ap, ◌∙◌, arith}
use Rattle.script.specs.declared.types.Node.TheVariants as node
use Rattle.script.specs.Tree as tree
use Rattle.script.specs.Flat.{flat_cond, flat_stmt}
use Rattle.tokens.specs.declared.types.Keyword.TheVariants as word
use Rattle.tokens.specs.Spelling.{keyword}
use Rattle.grammar.specs.Combine.{ret, kind_at, is}
use Rattle.grammar.specs.Parse.{condition, statement, tests, otherwise}
use Rattle.reader.specs.declared.cursor.Cursor.{Cursor}
use Rattle.reader.specs.declared.code.Code.{Code}
use Rattle.reader.specs.Cursor.{left}
use Rattle.reader.specs.Reading.{Passed}
use Rattle.reader.specs.Terms.{Wrote, Inserted}
use Rattle.reader.specs.Statements.{Leads, Went, Tested, flat_body}
use Rattle.reader.proofs.Paths.{moves, and, pass, inserts, moved_by}
use Rattle.reader.proofs.Says.{takes, leaves, goes_on}
use Rattle.reader.proofs.Writes.{rest_long, then_code, else_code, loop_code}

module _ (d at n m : ℕ) {c c1 c2 : Cursor} {o o1 o2 : Code} (a : Tested d at c c1 o o1 n) (r : Went 1 (λ g. statement g (suc d)) flat_body c1 c2 o1 o2) (end : m ≡ vec_len o2.nodes) where
  begins : n ≡ length (vec_items o1.nodes)
  begins = a.end ∙ o1.nodes.ok.0

  long : m - n ≡ length (flat_body r.tree)
  long = rest_long (vec_items o1.nodes) (flat_body r.tree) n m r.code begins (end ∙ o2.nodes.ok.0)

  to_else : Leads 0 (λ g. tests d (condition true g (suc d)) (statement g (suc d)) (otherwise d at (statement g (suc d)))) c (λ g. otherwise d at (statement g (suc d)) a.tree r.tree) c2
  to_else = goes_on _ _ (a.is (λ g. statement g (suc d)) (λ g. otherwise d at (statement g (suc d)))) r.tree r.is r.moved.fall

  pub chose_then : {p : Code} → is (keyword word.Else) (kind_at (left c2)) ≡ false → Inserted n (node.Then (m - n)) o2 p → Went 2 (λ g. tests d (condition true g (suc d)) (statement g (suc d)) (otherwise d at (statement g (suc d)))) flat_stmt c c2 o p
  chose_then {p} h w =
      record {
        tree = tree.if_then at a.tree r.tree;
        is = (leaves _ _ _ _ to_else h).is;
        code = then_code (vec_items o.nodes) (flat_cond a.tree) (flat_body r.tree) at n a.code r.code begins (m - n) long w.items;
        moved = moved_by (and (moves a.moved) (and (moves r.moved) (inserts w))) (omega arith);
      }

  pub chose_else : {c3 c4 : Cursor} {o3 o4 p : Code} (k l : ℕ) → is (keyword word.Else) (kind_at (left c2)) ≡ true → Passed d c2 c3 → Inserted n (node.Then (m - n + 1)) o2 o3 → k ≡ vec_len o3.nodes → Went 1 (λ g. statement g (suc d)) flat_body c3 c4 o3 o4 → l ≡ vec_len o4.nodes → Inserted k (node.Else (l - k)) o4 p → Went 2 (λ g. tests d (condition true g (suc d)) (statement g (suc d)) (otherwise d at (statement g (suc d)))) flat_stmt c c4 o p
  chose_else {c3} {c4} {o3} {o4} {p} k l h t w x s y z =
      record {
        tree = tree.if_else at a.tree r.tree s.tree;
        is = (goes_on _ _ (takes _ _ _ _ to_else h t) {i = c4} s.tree s.is s.moved.fall).is;
        code =
            else_code (vec_items o.nodes) (flat_cond a.tree) (flat_body r.tree) at n a.code r.code begins (m - n) k (l - k) (flat_body s.tree) long w.items s.code (x ∙ o3.nodes.ok.0)
            (rest_long (vec_items o3.nodes) (flat_body s.tree) k l s.code (x ∙ o3.nodes.ok.0) (y ∙ o4.nodes.ok.0)) z.items;
        moved = moved_by (and (moves a.moved) (and (moves r.moved) (and (pass t) (and (inserts w) (and (moves s.moved) (inserts z)))))) (omega arith);
      }

  pub repeated : {o3 p : Code} (k l : ℕ) → k ≡ vec_len o.nodes → Inserted n (node.Loop (m - n + 1)) o2 o3 → l ≡ vec_len o3.nodes → Wrote (node.Back (l - k)) o3 p → Went 2 (λ g. tests d (condition true g (suc d)) (statement g (suc d)) (λ x y. ret (tree.while at x y))) flat_stmt c c2 o p
  repeated {o3} {p} k l x w y z =
      let i = a.moved in
      let j = r.moved in
      let e1 = o3.nodes.ok.0 in
      let e2 = o.nodes.ok.0 in
      let back : l - k ≡ length (vec_items o3.nodes) - length (vec_items o.nodes) = omega arith in
      record {
        tree = tree.while at a.tree r.tree;
        is = (goes_on _ _ (a.is (λ g. statement g (suc d)) (λ g x y. ret (tree.while at x y))) {i = c2} r.tree r.is r.moved.fall).is;
        code = loop_code (vec_items o.nodes) (flat_cond a.tree) (flat_body r.tree) at n a.code r.code begins (m - n + 1) (l - k) (ap (λ z. z + 1) long) w.items back z.items;
        moved = record { on = omega arith; fall = omega arith; spent = omega arith; grown = omega arith; cap = omega arith; functions = z.functions ∙ w.functions ∙ j.functions ∙ i.functions; formals = z.formals ∙ w.formals ∙ j.formals ∙ i.formals };
      }
