use Rattle.std.proofs.Common.{◌-◌}
use Rattle.reader.proofs.Programs.{Programmed}
use Rattle.reader.proofs.code.Code.program.Given as goal

abbrev pub invariant-loop-self : goal.invariant-loop-self
invariant-loop-self l = Programmed l.initial.cursor l.cursor l.initial.self l.self

abbrev pub decreases-loop-self : goal.decreases-loop-self
decreases-loop-self l = 2048 - l.cursor.taken
