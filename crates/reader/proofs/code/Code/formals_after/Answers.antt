use Rattle.std.proofs.Common.{sym, ◌∙◌}
use Rattle.reader.proofs.Exits.{exits}
use Rattle.reader.proofs.Commas.{parted_none, parted_more, parted_stops, parted_fails, formals_fail, formals_end, formals_none}
use Rattle.reader.proofs.code.Code.formals_after.Goals as goal

pub returns-then-at_mark : goal.returns-then-at_mark
returns-then-at_mark c = formals_none c.take.result c.args.cursor.now c.take.new.self c.args.self.now (sym c.at_mark.ensures.value ∙ c.if-at_mark.true) c.take.ensures

pub loop-cursor-init : goal.loop-cursor-init
loop-cursor-init c = parted_none c.args.cursor.now c.args.self.now

pub returns-in_err-formal : goal.returns-in_err-formal
returns-in_err-formal c =
    rw (exits c.from_residual.result c.from_residual.ensures.1) (formals_fail c.args.cursor.now (sym c.at_mark.ensures.value ∙ c.if-at_mark.false) (parted_fails c.loop-cursor.invariant c.in_err-formal.ensures))

pub returns-then-not-at_mark : goal.returns-then-not-at_mark
returns-then-not-at_mark c =
    formals_end c.args.cursor.now (sym c.at_mark.ensures.value ∙ c.if-at_mark.false) c.expect.result c.expect.new.self c.loop-cursor.invariant c.in_ok-formal.ensures (sym c.at_mark-in-loop-cursor.ensures.value ∙ c.if-not-at_mark.true) c.expect.ensures

pub loop-cursor-preserved : goal.loop-cursor-preserved
loop-cursor-preserved c = parted_more c.loop-cursor.invariant c.in_ok-formal.ensures (sym c.at_mark-in-loop-cursor.ensures.value ∙ c.if-not-at_mark.false) c.in_ok-take.ensures

pub returns-in_err-take : goal.returns-in_err-take
returns-in_err-take c =
    rw (exits c.from_residual-in_err-take.result c.from_residual-in_err-take.ensures.1)
    (formals_fail c.args.cursor.now (sym c.at_mark.ensures.value ∙ c.if-at_mark.false) (parted_stops c.loop-cursor.invariant c.in_ok-formal.ensures (sym c.at_mark-in-loop-cursor.ensures.value ∙ c.if-not-at_mark.false) c.in_err-take.ensures))
