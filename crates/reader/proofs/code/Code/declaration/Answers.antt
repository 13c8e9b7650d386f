use Rattle.std.proofs.Common.{◌+◌, ◌-◌, ◌≤◌, length, refl, arith}
use Rattle.reader.proofs.Exits.{exits}
use Rattle.script.specs.Tree as tree
use Rattle.script.specs.Flat.{flat_stmt}
use Rattle.tokens.specs.declared.types.Mark.TheVariants as sign
use Rattle.grammar.specs.Parse.{expression, declaration, ended}
use Rattle.reader.specs.Cursor.{left}
use Rattle.reader.proofs.Steps.{shorter}
use Rattle.reader.proofs.Says.{lowers, at_start, goes_from, breaks_from, wants, unwanted}
use Rattle.reader.proofs.Writes.{reads_on}
use Rattle.reader.proofs.code.Code.declaration.Goals as goal

pub returns-in_err-declarator : goal.returns-in_err-declarator
returns-in_err-declarator c =
    rw (exits c.from_residual.result c.from_residual.ensures.1) (breaks_from _ _ (at_start (λ g. declaration c.args.depth (expression (g - 1) c.args.depth)) c.args.cursor.now) c.in_err-declarator.ensures)

pub returns-in_err-expect : goal.returns-in_err-expect
returns-in_err-expect c =
    let d = c.in_ok-declarator.ensures in
    let l = goes_from _ _ (at_start (λ g. declaration c.args.depth (expression (g - 1) c.args.depth)) c.args.cursor.now) _ (λ g lt. d.is) (omega (arith, d.fall)) in
    rw (exits c.from_residual-in_err-expect.result c.from_residual-in_err-expect.ensures.1) (unwanted _ _ _ l c.in_err-expect.ensures)

pub returns : goal.returns
returns c =
    let d = c.in_ok-declarator.ensures in
    let w = c.in_ok-expect.ensures in
    let l = goes_from _ _ (at_start (λ g. declaration c.args.depth (expression (g - 1) c.args.depth)) c.args.cursor.now) _ (λ g lt. d.is) (omega (arith, d.fall)) in
    let m = wants _ sign.Assign _ l w in
    let e = shorter w.1 in
    let lt : length (left c.expect.new.self) + 1 ≤ length (left c.args.cursor.now) = omega (arith, d.fall) in
    reads_on flat_stmt _ _ _ (lowers (λ g. ended c.args.depth (expression g c.args.depth) (tree.declare c.args.cursor.now.here.at c.in_ok-declarator.declarator)) m lt) c.ended.result (omega arith) lt (c.ended.ensures _ (λ x. refl))
