use Rattle.std.proofs.Common.{◌++◌, vec_items, sym, ap, ◌∙◌, arith}
use Rattle.reader.proofs.Exits.{exits}
use Rattle.script.specs.Flat.{flat}
use Rattle.tokens.specs.declared.types.Mark.TheVariants as sign
use Rattle.grammar.specs.Parse.{expression, ended}
use Rattle.reader.proofs.Paths.{moves, and, pass, wrote, moved_by, around}
use Rattle.reader.proofs.Says.{at_start, goes_on, breaks, wants, unwanted}
use Rattle.reader.proofs.code.Code.ended.Goals as goal

pub returns-in_err-expression : goal.returns-in_err-expression
returns-in_err-expression c f law =
    rw (exits c.from_residual.result c.from_residual.ensures.1)
    (breaks _ _ (at_start (λ g. ended c.args.depth (expression g c.args.depth) f) c.args.cursor.now) c.in_err-expression.ensures)

pub returns-in_err-expect : goal.returns-in_err-expect
returns-in_err-expect c f law =
    let r = c.in_ok-expression.ensures in
    let l = goes_on _ _ (at_start (λ g. ended c.args.depth (expression g c.args.depth) f) c.args.cursor.now) r.tree r.is r.moved.fall in
    rw (exits c.from_residual-in_err-expect.result c.from_residual-in_err-expect.ensures.1) (unwanted _ _ _ l c.in_err-expect.ensures)

pub returns : goal.returns
returns c f law =
    let r = c.in_ok-expression.ensures in
    let w = c.in_ok-expect.ensures in
    let l = goes_on _ _ (at_start (λ g. ended c.args.depth (expression g c.args.depth) f) c.args.cursor.now) r.tree r.is r.moved.fall in
    let m = wants _ sign.Semicolon _ l w in
    record {
      tree = f r.tree;
      is = m.is;
      code = around (flat r.tree) c.push.ensures r.code c.push-2.ensures ∙ ap (λ ns. vec_items c.args.self.now.nodes ++ ns) (sym (law r.tree));
      moved = moved_by (and (wrote c.push.ensures) (and (moves r.moved) (and (pass w.1) (wrote c.push-2.ensures)))) (omega arith);
    }
