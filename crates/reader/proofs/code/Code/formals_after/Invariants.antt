use Rattle.std.proofs.Common.{◌-◌}
use Rattle.reader.proofs.Commas.{Parted}
use Rattle.reader.proofs.code.Code.formals_after.Given as goal

abbrev pub invariant-loop-cursor : goal.invariant-loop-cursor
invariant-loop-cursor l = Parted l.initial.cursor l.cursor l.initial.self l.self

abbrev pub decreases-loop-cursor : goal.decreases-loop-cursor
decreases-loop-cursor l = 2048 - l.cursor.taken
