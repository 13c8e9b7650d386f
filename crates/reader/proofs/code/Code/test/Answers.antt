use Rattle.std.proofs.Common.{suc, true, ◌++◌, vec_items, ap, ◌∙◌, append_assoc, add-one, arith}
use Rattle.reader.proofs.Exits.{exits}
use Rattle.script.specs.Flat.{flat_cond}
use Rattle.tokens.specs.declared.types.Mark.TheVariants as sign
use Rattle.grammar.specs.Parse.{condition, tests}
use Rattle.reader.proofs.Paths.{moves, and, pass, wrote, moved_by}
use Rattle.reader.proofs.Says.{at_start, goes_on, breaks, wants, unwanted}
use Rattle.reader.proofs.code.Code.test.Goals as goal

pub returns-in_err-expect : goal.returns-in_err-expect
returns-in_err-expect c =
    rw (exits c.from_residual.result c.from_residual.ensures.1) (λ s k. unwanted _ _ _ (at_start (λ g. tests c.args.depth (condition true g (suc c.args.depth)) (s g) (k g)) c.args.cursor.now) c.in_err-expect.ensures)

pub returns-in_err-condition : goal.returns-in_err-condition
returns-in_err-condition c =
    let r = rw (add-one c.args.depth) at c.in_err-condition.ensures in
    rw (exits c.from_residual-in_err-condition.result c.from_residual-in_err-condition.ensures.1) (λ s k. breaks _ _ (wants _ sign.LeftParen _ (at_start (λ g. tests c.args.depth (condition true g (suc c.args.depth)) (s g) (k g)) c.args.cursor.now) c.in_ok-expect.ensures) r)

pub returns-in_err-expect-2 : goal.returns-in_err-expect-2
returns-in_err-expect-2 c =
    let r = rw (add-one c.args.depth) at c.in_ok-condition.ensures in
    rw (exits c.from_residual-in_err-expect-2.result c.from_residual-in_err-expect-2.ensures.1)
    (λ s k. unwanted _ _ _ (goes_on _ _ (wants _ sign.LeftParen _ (at_start (λ g. tests c.args.depth (condition true g (suc c.args.depth)) (s g) (k g)) c.args.cursor.now) c.in_ok-expect.ensures) r.tree r.is r.moved.fall) c.in_err-expect-2.ensures)

pub returns : goal.returns
returns c =
    let r = rw (add-one c.args.depth) at c.in_ok-condition.ensures in
    let v = c.in_ok-expect.ensures in
    let w = c.in_ok-expect-2.ensures in
    let path = and (pass v.1) (and (wrote c.push.ensures) (and (moves r.moved) (pass w.1))) in
    record {
      tree = r.tree;
      is = λ s k. wants _ sign.RightParen _ (goes_on _ _ (wants _ sign.LeftParen _ (at_start (λ g. tests c.args.depth (condition true g (suc c.args.depth)) (s g) (k g)) c.args.cursor.now) v) r.tree r.is r.moved.fall) w;
      code = r.code ∙ ap (λ l. l ++ flat_cond r.tree) c.push.ensures.items ∙ append_assoc (vec_items c.args.self.now.nodes) _ _;
      moved = moved_by path (omega arith);
      end = c.len.ensures;
      spent = omega (arith, path.spent);
    }
