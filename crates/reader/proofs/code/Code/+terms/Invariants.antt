use Rattle.std.proofs.Common.{suc, Some, ◌+◌, ◌*◌, length}
use Rattle.script.specs.Flat.{flat, flat_cond}
use Rattle.grammar.specs.Parse.{expression}
use Rattle.reader.specs.Binding.{rank, join_rank}
use Rattle.reader.specs.Cursor.{left}
use Rattle.reader.specs.Terms.{chained, joining_on}
use Rattle.reader.proofs.Chains.{Chained}
use Rattle.reader.proofs.Lists.{Listed}
use Rattle.reader.proofs.code.Code.+terms.Given as goal

abbrev pub decreases-actuals : goal.decreases-actuals
decreases-actuals l = 12 * length (left l.cursor.now) + 9

abbrev pub decreases-bracket : goal.decreases-bracket
decreases-bracket l = 12 * length (left l.cursor.now) + 10

abbrev pub decreases-chain : goal.decreases-chain
decreases-chain l = 12 * length (left l.cursor.now)

abbrev pub decreases-compared : goal.decreases-compared
decreases-compared l = 12 * length (left l.cursor.now)

abbrev pub decreases-conditions : goal.decreases-conditions
decreases-conditions l = 12 * length (left l.cursor.now) + join_rank l.join + 6

abbrev pub decreases-inside : goal.decreases-inside
decreases-inside l = 12 * length (left l.cursor.now) + 9

abbrev pub decreases-joined : goal.decreases-joined
decreases-joined l = 12 * length (left l.cursor.now)

abbrev pub decreases-level : goal.decreases-level
decreases-level l = 12 * length (left l.cursor.now) + rank l.binding + 1

abbrev pub decreases-named : goal.decreases-named
decreases-named l = 12 * length (left l.cursor.now)

abbrev pub decreases-negation : goal.decreases-negation
decreases-negation l = 12 * length (left l.cursor.now) + 5

abbrev pub decreases-operand : goal.decreases-operand
decreases-operand l = 12 * length (left l.cursor.now)

abbrev pub invariant-actuals-loop-cursor : goal.invariant-actuals-loop-cursor
invariant-actuals-loop-cursor l = Listed (suc l.depth) (λ g. expression g (suc l.depth)) l.initial.count l.count l.initial.cursor l.cursor l.initial.self l.self

abbrev pub decreases-actuals-loop-cursor : goal.decreases-actuals-loop-cursor
decreases-actuals-loop-cursor l = length (left l.cursor)

abbrev pub invariant-chain-loop-operator : goal.invariant-chain-loop-operator
invariant-chain-loop-operator l = Chained (chained l.depth (rank (Some l.binding)) l.start) flat l.from l.initial.cursor l.cursor l.initial.self l.self

abbrev pub decreases-chain-loop-operator : goal.decreases-chain-loop-operator
decreases-chain-loop-operator l = length (left l.cursor)

abbrev pub invariant-joined-loop-join : goal.invariant-joined-loop-join
invariant-joined-loop-join l = Chained (joining_on l.depth (join_rank (Some l.join))) flat_cond l.from l.initial.cursor l.cursor l.initial.self l.self

abbrev pub decreases-joined-loop-join : goal.decreases-joined-loop-join
decreases-joined-loop-join l = length (left l.cursor)
