use Rattle.std.proofs.Common.{rules, sym}
use Rattle.refusal_line.specs.Line.{refusal_text}
use Rattle.refusal_line.proofs.refusal_line.Goals as goal

pub returns : goal.returns
unfolding refusal_text
returns c = rw (sym c.position_of-line.ensures.line, sym c.position_of-line.ensures.column) (search rules)
