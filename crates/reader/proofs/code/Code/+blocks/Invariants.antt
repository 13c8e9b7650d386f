use Rattle.std.proofs.Common.{◌+◌, ◌-◌, ◌*◌}
use Rattle.reader.proofs.Turns.{Listed}
use Rattle.reader.proofs.code.Code.+blocks.Given as goal

abbrev pub decreases-block : goal.decreases-block
decreases-block l = 4 * (2048 - l.cursor.now.taken) + 3

abbrev pub decreases-body : goal.decreases-body
decreases-body l = 4 * (2048 - l.cursor.now.taken) + 1

abbrev pub decreases-choice : goal.decreases-choice
decreases-choice l = 4 * (2048 - l.cursor.now.taken) + 3

abbrev pub decreases-repetition : goal.decreases-repetition
decreases-repetition l = 4 * (2048 - l.cursor.now.taken) + 3

abbrev pub decreases-statement : goal.decreases-statement
decreases-statement l = 4 * (2048 - l.cursor.now.taken)

abbrev pub decreases-statements : goal.decreases-statements
decreases-statements l = 4 * (2048 - l.cursor.now.taken) + 1

abbrev pub invariant-statements-loop-self : goal.invariant-statements-loop-self
invariant-statements-loop-self l = Listed l.depth l.initial.cursor l.cursor l.initial.self l.self

abbrev pub decreases-statements-loop-self : goal.decreases-statements-loop-self
decreases-statements-loop-self l = 2048 - l.cursor.taken
