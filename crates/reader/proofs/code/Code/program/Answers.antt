use Rattle.std.proofs.Common.{sym, ◌∙◌}
use Rattle.reader.proofs.Exits.{exits}
use Rattle.reader.proofs.Programs.{programmed_none, programmed_more, programmed_fails, programmed_all, programmed_bad}
use Rattle.reader.proofs.code.Code.program.Goals as goal

pub loop-self-init : goal.loop-self-init
loop-self-init c = programmed_none c.args.cursor.now c.args.self.now

pub loop-self-preserved : goal.loop-self-preserved
loop-self-preserved c = programmed_more c.loop-self.invariant (sym c.at_declaration.ensures ∙ c.loop-self-test.true) c.in_ok-function.ensures

pub returns-in_err-function : goal.returns-in_err-function
returns-in_err-function c =
    rw (exits c.from_residual.result c.from_residual.ensures.1) (programmed_fails c.loop-self.invariant (sym c.at_declaration.ensures ∙ c.loop-self-test.true) c.in_err-function.ensures)

pub returns-then-not-at_end : goal.returns-then-not-at_end
returns-then-not-at_end c = programmed_bad c.loop-self.invariant (sym c.at_declaration.ensures ∙ c.loop-self-test.false) (sym c.at_end.ensures ∙ c.if-not-at_end.true) c.wrong.ensures

pub returns : goal.returns
returns c = programmed_all c.loop-self.invariant (sym c.at_declaration.ensures ∙ c.loop-self-test.false) (sym c.at_end.ensures ∙ c.if-not-at_end.false)
