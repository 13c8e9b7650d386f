use Rattle.std.proofs.Common.{suc, [], ◌∷◌, ◌++◌, vec_items, sym, refl, ap, ◌∙◌, arith}
use Rattle.reader.proofs.Exits.{exits}
use Rattle.script.specs.declared.types.Node.TheVariants as node
use Rattle.script.specs.Tree as tree
use Rattle.script.specs.Flat.{flats, flat_stmt}
use Rattle.tokens.specs.declared.types.Mark.TheVariants as sign
use Rattle.grammar.specs.Parse.{expression, assignment}
use Rattle.reader.proofs.Paths.{moves, and, pass, wrote, moved_by, around}
use Rattle.reader.proofs.Says.{at_start, takes, leaves, stops, goes_on, breaks, wants, unwanted}
use Rattle.reader.proofs.Writes.{goes_further}
use Rattle.reader.proofs.code.Code.assignment.Goals as goal

pub returns-in_err-take : goal.returns-in_err-take
returns-in_err-take c =
    rw (exits c.from_residual.result c.from_residual.ensures.1) (stops _ _ _ _ (at_start (λ g. assignment c.args.depth g (expression g c.args.depth) (expression g (suc c.args.depth)) c.args.name) c.args.cursor.now) (sym c.at_mark.ensures.value ∙ c.if-at_mark.true) c.in_err-take.ensures)

pub returns-then-at_mark : goal.returns-then-at_mark
returns-then-at_mark c =
    let w = c.in_ok-take.ensures in
    let l = takes _ _ _ _ (at_start (λ g. assignment c.args.depth g (expression g c.args.depth) (expression g (suc c.args.depth)) c.args.name) c.args.cursor.now) (sym c.at_mark.ensures.value ∙ c.if-at_mark.true) w in
    goes_further flat_stmt _ _ _ l c.ended.result (omega arith) (c.ended.ensures _ (λ x. refl))

pub returns-in_err-expect : goal.returns-in_err-expect
returns-in_err-expect c =
    let l = leaves _ _ _ _ (at_start (λ g. assignment c.args.depth g (expression g c.args.depth) (expression g (suc c.args.depth)) c.args.name) c.args.cursor.now) (sym c.at_mark.ensures.value ∙ c.if-at_mark.false) in
    rw (exits c.from_residual-in_err-expect.result c.from_residual-in_err-expect.ensures.1) (unwanted _ _ _ l c.in_err-expect.ensures)

pub returns-in_err-actuals : goal.returns-in_err-actuals
returns-in_err-actuals c =
    let l = leaves _ _ _ _ (at_start (λ g. assignment c.args.depth g (expression g c.args.depth) (expression g (suc c.args.depth)) c.args.name) c.args.cursor.now) (sym c.at_mark.ensures.value ∙ c.if-at_mark.false) in
    let m = wants _ sign.LeftParen _ l c.in_ok-expect.ensures in
    rw (exits c.from_residual-in_err-actuals.result c.from_residual-in_err-actuals.ensures.1) (breaks _ _ m c.in_err-actuals.ensures)

pub returns-in_err-expect-2 : goal.returns-in_err-expect-2
returns-in_err-expect-2 c =
    let l = leaves _ _ _ _ (at_start (λ g. assignment c.args.depth g (expression g c.args.depth) (expression g (suc c.args.depth)) c.args.name) c.args.cursor.now) (sym c.at_mark.ensures.value ∙ c.if-at_mark.false) in
    let m = wants _ sign.LeftParen _ l c.in_ok-expect.ensures in
    let r = c.in_ok-actuals.ensures.read in
    let n = goes_on _ _ m r.tree r.is r.moved.fall in
    rw (exits c.from_residual-in_err-expect-2.result c.from_residual-in_err-expect-2.ensures.1) (unwanted _ _ _ n c.in_err-expect-2.ensures)

pub returns : goal.returns
returns c =
    let l = leaves _ _ _ _ (at_start (λ g. assignment c.args.depth g (expression g c.args.depth) (expression g (suc c.args.depth)) c.args.name) c.args.cursor.now) (sym c.at_mark.ensures.value ∙ c.if-at_mark.false) in
    let v = c.in_ok-expect.ensures in
    let m = wants _ sign.LeftParen _ l v in
    let a = c.in_ok-actuals.ensures in
    let r = a.read in
    let n = goes_on _ _ m r.tree r.is r.moved.fall in
    let w = c.in_ok-expect-2.ensures in
    let k = wants _ sign.Semicolon _ n w in
    record {
      tree = tree.calls c.args.name r.tree;
      is = k.is;
      code =
          around (flats r.tree) c.push.ensures r.code c.push-2.ensures
          ∙ ap (λ j. vec_items c.args.self.now.nodes ++ (node.Begin c.args.name.at ∷ (flats r.tree ++ (node.CallStatement c.args.name j ∷ [])))) a.number;
      moved = moved_by (and (pass v.1) (and (wrote c.push.ensures) (and (moves r.moved) (and (pass w.1) (wrote c.push-2.ensures))))) (omega arith);
    }
