use Rattle.std.proofs.Common.{suc, sym, refl, ap, ◌∙◌, subst, add-one, arith}
use Rattle.reader.proofs.Exits.{exits}
use Rattle.script.specs.Tree as tree
use Rattle.script.specs.Flat.{flat_stmt, flat_stmts}
use Rattle.tokens.specs.declared.types.Mark.TheVariants as sign
use Rattle.reader.specs.Cursor.{left}
use Rattle.std.proofs.Common.{rules}
use Rattle.tokens.specs.declared.types.Token.TheVariants.{Keyword as AKeyword, Mark as AMark}
use Rattle.grammar.specs.Combine.{kind_at, after, ret, want}
use Rattle.grammar.specs.Parse.{expression, assignment, statement, statements, otherwise}
use Rattle.reader.specs.Statements.{Goes}
use Rattle.reader.proofs.Paths.{moves, and, pass, wrote, moved_by, around}
use Rattle.reader.proofs.Says.{at_start, takes, stops, goes_on, breaks, wants, unwanted}
use Rattle.reader.proofs.Writes.{reads_on, opens_reads}
use Rattle.reader.proofs.Joins.{chose_then, chose_else, repeated}
use Rattle.reader.proofs.Turns.{listed_none, listed_more, listed_all, turn_fails}
use Rattle.reader.proofs.Branches.{IsOther, to_declaration, takes_name, takes_if, takes_while, takes_free, takes_print, takes_return, takes_brace, stops_name, stops_if, stops_while, stops_free, stops_print, stops_return, stops_brace}
use Rattle.reader.proofs.code.Code.+blocks.Goals as goal
use Rattle.reader.proofs.code.Code.+blocks.Goals.{statement-in_default-token-via-in-Keyword+in_default, statement-in_default-token-via-in-Mark+in_default, statement-in_default-token-via-in_default}

-- statement

pub statement-returns-in_err-take : goal.statement-returns-in_err-take
statement-returns-in_err-take t c =
    rw (exits c.from_residual.result c.from_residual.ensures.1) (stops_name c.args.depth c.args.cursor.now c.in_err-take.ensures c.in-Some.ensures.0)

pub statement-returns-in-Some : goal.statement-returns-in-Some
statement-returns-in-Some t c =
    let w = c.in_ok-take.ensures in
    let l = takes_name c.args.depth c.args.cursor.now c.in-Some.ensures.0 w in
    reads_on flat_stmt _ _ _ l c.assignment.result (omega (arith, w.taken)) l.fall
    (subst (λ x. Goes 2 (λ g. assignment c.args.depth g (expression g c.args.depth) (expression g (suc c.args.depth)) x) flat_stmt c.take.new.self c.assignment.new.cursor c.args.self.now c.assignment.new.self c.assignment.result) c.in-Some.ensures.1 c.assignment.ensures)

pub statement-returns-in_err-take-in-Keyword-If : goal.statement-returns-in_err-take-in-Keyword-If
statement-returns-in_err-take-in-Keyword-If t c =
    rw (exits c.from_residual-in_err-take-in-Keyword-If.result c.from_residual-in_err-take-in-Keyword-If.ensures.1) (stops_if c.args.depth c.args.cursor.now c.in_err-take-in-Keyword-If.ensures (c.in-Keyword-If.is ∙ ap AKeyword (rw c.in-Keyword-If.is at c.in-Keyword-If.field-0-is)))

pub statement-returns-in_ok-take-in-Keyword-If : goal.statement-returns-in_ok-take-in-Keyword-If
statement-returns-in_ok-take-in-Keyword-If t c =
    let w = c.in_ok-take-in-Keyword-If.ensures in
    let l = takes_if c.args.depth c.args.cursor.now (c.in-Keyword-If.is ∙ ap AKeyword (rw c.in-Keyword-If.is at c.in-Keyword-If.field-0-is)) w in
    reads_on flat_stmt _ _ _ l c.choice.result (omega (arith, w.taken)) l.fall c.choice.ensures

pub statement-returns-in_err-take-in-Keyword-While : goal.statement-returns-in_err-take-in-Keyword-While
statement-returns-in_err-take-in-Keyword-While t c =
    rw (exits c.from_residual-in_err-take-in-Keyword-While.result c.from_residual-in_err-take-in-Keyword-While.ensures.1) (stops_while c.args.depth c.args.cursor.now c.in_err-take-in-Keyword-While.ensures (c.in-Keyword-While.is ∙ ap AKeyword (rw c.in-Keyword-While.is at c.in-Keyword-While.field-0-is)))

pub statement-returns-in_ok-take-in-Keyword-While : goal.statement-returns-in_ok-take-in-Keyword-While
statement-returns-in_ok-take-in-Keyword-While t c =
    let w = c.in_ok-take-in-Keyword-While.ensures in
    let l = takes_while c.args.depth c.args.cursor.now (c.in-Keyword-While.is ∙ ap AKeyword (rw c.in-Keyword-While.is at c.in-Keyword-While.field-0-is)) w in
    reads_on flat_stmt _ _ _ l c.repetition.result (omega (arith, w.taken)) l.fall c.repetition.ensures

pub statement-returns-in_err-take-in-Keyword-Free : goal.statement-returns-in_err-take-in-Keyword-Free
statement-returns-in_err-take-in-Keyword-Free t c =
    rw (exits c.from_residual-in_err-take-in-Keyword-Free.result c.from_residual-in_err-take-in-Keyword-Free.ensures.1) (stops_free c.args.depth c.args.cursor.now c.in_err-take-in-Keyword-Free.ensures (c.in-Keyword-Free.is ∙ ap AKeyword (rw c.in-Keyword-Free.is at c.in-Keyword-Free.field-0-is)))

pub statement-returns-in_ok-take-in-Keyword-Free : goal.statement-returns-in_ok-take-in-Keyword-Free
statement-returns-in_ok-take-in-Keyword-Free t c =
    let w = c.in_ok-take-in-Keyword-Free.ensures in
    let l = takes_free c.args.depth c.args.cursor.now (c.in-Keyword-Free.is ∙ ap AKeyword (rw c.in-Keyword-Free.is at c.in-Keyword-Free.field-0-is)) w in
    reads_on flat_stmt _ _ _ l c.ended.result (omega (arith, w.taken)) l.fall (c.ended.ensures _ (λ x. refl))

pub statement-returns-in_err-take-in-Keyword-Print : goal.statement-returns-in_err-take-in-Keyword-Print
statement-returns-in_err-take-in-Keyword-Print t c =
    rw (exits c.from_residual-in_err-take-in-Keyword-Print.result c.from_residual-in_err-take-in-Keyword-Print.ensures.1) (stops_print c.args.depth c.args.cursor.now c.in_err-take-in-Keyword-Print.ensures (c.in-Keyword-Print.is ∙ ap AKeyword (rw c.in-Keyword-Print.is at c.in-Keyword-Print.field-0-is)))

pub statement-returns-in_ok-take-in-Keyword-Print : goal.statement-returns-in_ok-take-in-Keyword-Print
statement-returns-in_ok-take-in-Keyword-Print t c =
    let w = c.in_ok-take-in-Keyword-Print.ensures in
    let l = takes_print c.args.depth c.args.cursor.now (c.in-Keyword-Print.is ∙ ap AKeyword (rw c.in-Keyword-Print.is at c.in-Keyword-Print.field-0-is)) w in
    reads_on flat_stmt _ _ _ l c.ended-in-Keyword-Print.result (omega (arith, w.taken)) l.fall (c.ended-in-Keyword-Print.ensures _ (λ x. refl))

pub statement-returns-in_err-take-in-Keyword-Return : goal.statement-returns-in_err-take-in-Keyword-Return
statement-returns-in_err-take-in-Keyword-Return t c =
    rw (exits c.from_residual-in_err-take-in-Keyword-Return.result c.from_residual-in_err-take-in-Keyword-Return.ensures.1) (stops_return c.args.depth c.args.cursor.now c.in_err-take-in-Keyword-Return.ensures (c.in-Keyword-Return.is ∙ ap AKeyword (rw c.in-Keyword-Return.is at c.in-Keyword-Return.field-0-is)))

pub statement-returns-in_ok-take-in-Keyword-Return : goal.statement-returns-in_ok-take-in-Keyword-Return
statement-returns-in_ok-take-in-Keyword-Return t c =
    let w = c.in_ok-take-in-Keyword-Return.ensures in
    let l = takes_return c.args.depth c.args.cursor.now (c.in-Keyword-Return.is ∙ ap AKeyword (rw c.in-Keyword-Return.is at c.in-Keyword-Return.field-0-is)) w in
    reads_on flat_stmt _ _ _ l c.ended-in-Keyword-Return.result (omega (arith, w.taken)) l.fall (c.ended-in-Keyword-Return.ensures _ (λ x. refl))

pub statement-returns-in_err-take-in-Mark-LeftBrace : goal.statement-returns-in_err-take-in-Mark-LeftBrace
statement-returns-in_err-take-in-Mark-LeftBrace t c =
    rw (exits c.from_residual-in_err-take-in-Mark-LeftBrace.result c.from_residual-in_err-take-in-Mark-LeftBrace.ensures.1) (stops_brace c.args.depth c.args.cursor.now c.in_err-take-in-Mark-LeftBrace.ensures (c.in-Mark-LeftBrace.is ∙ ap AMark (rw c.in-Mark-LeftBrace.is at c.in-Mark-LeftBrace.field-0-is)))

pub statement-returns-in_ok-take-in-Mark-LeftBrace : goal.statement-returns-in_ok-take-in-Mark-LeftBrace
statement-returns-in_ok-take-in-Mark-LeftBrace t c =
    let w = c.in_ok-take-in-Mark-LeftBrace.ensures in
    let l = takes_brace c.args.depth c.args.cursor.now (c.in-Mark-LeftBrace.is ∙ ap AMark (rw c.in-Mark-LeftBrace.is at c.in-Mark-LeftBrace.field-0-is)) w in
    reads_on flat_stmt _ _ _ l c.block.result (omega (arith, w.taken)) l.fall c.block.ensures

pub statement-returns-in_default-token : goal.statement-returns-in_default-token
statement-returns-in_default-token t c =
    let k : IsOther (kind_at (left c.args.cursor.now)) = elim c.in_default-token.branch [ statement-in_default-token-via-in-Keyword+in_default w ↦ search rules | statement-in_default-token-via-in-Mark+in_default w ↦ search rules | statement-in_default-token-via-in_default w ↦ search rules ] in
    opens_reads c.declaration.result flat_stmt _ _ _
    (to_declaration c.args.depth c.args.cursor.now c.in_default.ensures k.0 k.1 k.2 k.3 k.4 k.5)
    c.declaration.ensures

pub block-returns-in_err-statements : goal.block-returns-in_err-statements
block-returns-in_err-statements t c =
    let r = rw (add-one c.args.depth) at c.in_err-statements.ensures in
    rw (exits c.from_residual.result c.from_residual.ensures.1) (breaks _ _ (at_start (λ g. after (statements g (suc c.args.depth)) (λ x. want c.args.depth sign.RightBrace (ret (tree.block c.args.at x)))) c.args.cursor.now) r)

pub block-returns-in_err-expect : goal.block-returns-in_err-expect
block-returns-in_err-expect t c =
    let r = rw (add-one c.args.depth) at c.in_ok-statements.ensures in
    rw (exits c.from_residual-in_err-expect.result c.from_residual-in_err-expect.ensures.1) (unwanted _ _ _ (goes_on _ _ (at_start (λ g. after (statements g (suc c.args.depth)) (λ x. want c.args.depth sign.RightBrace (ret (tree.block c.args.at x)))) c.args.cursor.now) r.tree r.is r.moved.fall) c.in_err-expect.ensures)

pub block-returns : goal.block-returns
block-returns t c =
    let r = rw (add-one c.args.depth) at c.in_ok-statements.ensures in
    let w = c.in_ok-expect.ensures in
    let l = wants _ sign.RightBrace _ (goes_on _ _ (at_start (λ g. after (statements g (suc c.args.depth)) (λ x. want c.args.depth sign.RightBrace (ret (tree.block c.args.at x)))) c.args.cursor.now) r.tree r.is r.moved.fall) w in
    record {
      tree = tree.block c.args.at r.tree;
      is = l.is;
      code = around (flat_stmts r.tree) c.push.ensures r.code c.push-2.ensures;
      moved = moved_by (and (wrote c.push.ensures) (and (moves r.moved) (and (pass w.1) (wrote c.push-2.ensures)))) (omega arith);
    }

pub choice-returns-in_err-start : goal.choice-returns-in_err-start
choice-returns-in_err-start t c =
    rw (exits c.from_residual.result c.from_residual.ensures.1) (c.in_err-start.ensures (λ g. statement g (suc c.args.depth)) (λ g. otherwise c.args.depth c.args.at (statement g (suc c.args.depth))))

pub choice-returns-in_err-body : goal.choice-returns-in_err-body
choice-returns-in_err-body t c =
    let l = c.in_ok-start.ensures.is (λ g. statement g (suc c.args.depth)) (λ g. otherwise c.args.depth c.args.at (statement g (suc c.args.depth))) in
    let r = rw (add-one c.args.depth) at c.in_err-body.ensures in
    rw (exits c.from_residual-in_err-body.result c.from_residual-in_err-body.ensures.1) (breaks _ _ l r)

pub choice-returns-then-not-at_keyword : goal.choice-returns-then-not-at_keyword
choice-returns-then-not-at_keyword t c =
    let r = rw (add-one c.args.depth) at c.in_ok-body.ensures in
    chose_then c.args.depth c.args.at c.in_ok-start.start c.len.result c.in_ok-start.ensures r c.len.ensures (sym c.at_keyword.ensures.value ∙ c.if-not-at_keyword.true) c.insert.ensures

pub choice-returns-in_err-take : goal.choice-returns-in_err-take
choice-returns-in_err-take t c =
    let l = c.in_ok-start.ensures.is (λ g. statement g (suc c.args.depth)) (λ g. otherwise c.args.depth c.args.at (statement g (suc c.args.depth))) in
    let r = rw (add-one c.args.depth) at c.in_ok-body.ensures in
    let m = goes_on _ _ l r.tree r.is r.moved.fall in
    rw (exits c.from_residual-in_err-take.result c.from_residual-in_err-take.ensures.1) (stops _ _ _ _ m (sym c.at_keyword.ensures.value ∙ c.if-not-at_keyword.false) c.in_err-take.ensures)

pub choice-returns-in_err-body-2 : goal.choice-returns-in_err-body-2
choice-returns-in_err-body-2 t c =
    let l = c.in_ok-start.ensures.is (λ g. statement g (suc c.args.depth)) (λ g. otherwise c.args.depth c.args.at (statement g (suc c.args.depth))) in
    let r = rw (add-one c.args.depth) at c.in_ok-body.ensures in
    let m = goes_on _ _ l r.tree r.is r.moved.fall in
    let n = takes _ _ _ _ m (sym c.at_keyword.ensures.value ∙ c.if-not-at_keyword.false) c.in_ok-take.ensures in
    let s = rw (add-one c.args.depth) at c.in_err-body-2.ensures in
    rw (exits c.from_residual-in_err-body-2.result c.from_residual-in_err-body-2.ensures.1) (breaks _ _ n s)

pub choice-returns : goal.choice-returns
choice-returns t c =
    let r = rw (add-one c.args.depth) at c.in_ok-body.ensures in
    let s = rw (add-one c.args.depth) at c.in_ok-body-2.ensures in
    chose_else c.args.depth c.args.at c.in_ok-start.start c.len.result c.in_ok-start.ensures r c.len.ensures
    c.len-other.result c.len-2.result (sym c.at_keyword.ensures.value ∙ c.if-not-at_keyword.false) c.in_ok-take.ensures c.insert-2.ensures c.len-other.ensures s c.len-2.ensures c.insert-3.ensures

pub repetition-returns-in_err-start : goal.repetition-returns-in_err-start
repetition-returns-in_err-start t c =
    rw (exits c.from_residual.result c.from_residual.ensures.1) (c.in_err-start.ensures (λ g. statement g (suc c.args.depth)) (λ g x y. ret (tree.while c.args.at x y)))

pub repetition-returns-in_err-body : goal.repetition-returns-in_err-body
repetition-returns-in_err-body t c =
    let l = c.in_ok-start.ensures.is (λ g. statement g (suc c.args.depth)) (λ g x y. ret (tree.while c.args.at x y)) in
    let r = rw (add-one c.args.depth) at c.in_err-body.ensures in
    rw (exits c.from_residual-in_err-body.result c.from_residual-in_err-body.ensures.1) (breaks _ _ l r)

pub repetition-returns : goal.repetition-returns
repetition-returns t c =
    let r = rw (add-one c.args.depth) at c.in_ok-body.ensures in
    repeated c.args.depth c.args.at c.in_ok-start.start c.len.result c.in_ok-start.ensures r c.len.ensures
    {o3 = c.insert.new.self} c.len-begin.result c.len-2.result c.len-begin.ensures c.insert.ensures c.len-2.ensures c.push.ensures

pub statements-loop-self-init : goal.statements-loop-self-init
statements-loop-self-init t c =
    listed_none c.args.depth c.args.cursor.now c.args.self.now

pub statements-loop-self-preserved : goal.statements-loop-self-preserved
statements-loop-self-preserved t c =
    listed_more c.loop-self.invariant (sym c.at_statement.ensures ∙ c.loop-self-test.true) c.in_ok-statement.ensures

pub statements-returns-in_err-statement : goal.statements-returns-in_err-statement
statements-returns-in_err-statement t c =
    rw (exits c.from_residual.result c.from_residual.ensures.1) (turn_fails c.loop-self.invariant.turned (sym c.at_statement.ensures ∙ c.loop-self-test.true) c.in_err-statement.ensures)

pub statements-returns : goal.statements-returns
statements-returns t c =
    listed_all c.loop-self.invariant (sym c.at_statement.ensures ∙ c.loop-self-test.false)
