use Rattle.std.proofs.Common.{rules, suc, ◌-◌, sym, ap, ◌∙◌}
use Rattle.reader.proofs.Exits.{exits}
use Rattle.tokens.specs.declared.types.Token.TheVariants.{Keyword, Mark}
use Rattle.grammar.specs.Combine.{kind_at}
use Rattle.grammar.specs.Parse.{expression}
use Rattle.reader.specs.Cursor.{left}
use Rattle.reader.proofs.Lists.{start_list, list_turn, list_done, list_open, list_stuck, list_broke, list_fails, list_none, list_none_stuck}
use Rattle.reader.proofs.Deep.{passed_in, stuck_in, stops_in, went_in}
use Rattle.reader.proofs.Operands.{IsNoOperand, named_variable, named_stuck, named_broke, named_call, inside_merged, inside_plain, cast_stuck, cast_open, cast_broke, cast_done, group_broke, group_open, group_done, constant_stuck, constant_done, name_stuck, name_broke, name_done, nil_stuck, nil_done, minus_stuck, minus_broke, minus_done, operand_wrong, bracket_stuck, bracket_done}
use Rattle.reader.specs.Binding.{rank, join_rank}
use Rattle.reader.proofs.Ranks.{some_rank, some_join, stops_at, gave_at}
use Rattle.reader.proofs.Levels.{level_operand, level_fails, level_condition, level_broke, level_done, operators_done, operators_stuck, operators_broke, operators_again}
use Rattle.reader.proofs.Conditions.{compared_stuck, compared_broke, compared_done, compared_wrong, compared_none, not_stuck, not_broke, not_done, thing_broke, thing_condition, thing_expression, conditions_one, conditions_fail, conditions_expression, conditions_broke, conditions_done, joins_done, joins_stuck, joins_broke, joins_again}
use Rattle.reader.proofs.code.Code.+terms.Goals as goal
use Rattle.reader.proofs.code.Code.+terms.Goals.{operand-in_default-token-via-in-Keyword+in_default, operand-in_default-token-via-in-Mark+in_default, operand-in_default-token-via-in_default}

-- actuals

pub actuals-returns-in_err-take : goal.actuals-returns-in_err-take
actuals-returns-in_err-take t c =
    rw (exits c.from_residual.result c.from_residual.ensures.1) (list_none_stuck c.args.depth (sym c.at_mark.ensures.value ∙ c.if-at_mark.true) c.in_err-take.ensures)

pub actuals-returns-then-at_mark : goal.actuals-returns-then-at_mark
actuals-returns-then-at_mark t c = list_none c.args.depth (sym c.at_mark.ensures.value ∙ c.if-at_mark.true) c.in_ok-take.ensures

pub actuals-returns-in_err-level : goal.actuals-returns-in_err-level
actuals-returns-in_err-level t c =
    rw (exits c.from_residual-in_err-level.result c.from_residual-in_err-level.ensures.1) (list_fails c.args.depth (sym c.at_mark.ensures.value ∙ c.if-at_mark.false) (stops_in c.deeper-inner.ensures c.in_err-level.ensures))

pub actuals-loop-cursor-init : goal.actuals-loop-cursor-init
actuals-loop-cursor-init t c = start_list (suc c.args.depth) (λ g. expression g (suc c.args.depth)) 1

pub actuals-returns-in_err-take-2 : goal.actuals-returns-in_err-take-2
actuals-returns-in_err-take-2 t c =
    rw (exits c.from_residual-in_err-take-2.result c.from_residual-in_err-take-2.ensures.1) (list_stuck c.args.depth (sym c.at_mark.ensures.value ∙ c.if-at_mark.false) (went_in c.deeper-inner.ensures c.in_ok-level.ensures) c.loop-cursor.invariant (sym c.at_mark-in-loop-cursor.ensures.value ∙ c.loop-cursor-test.true) (stuck_in c.deeper-inner.ensures c.in_err-take-2.ensures))

pub actuals-returns-in_err-level-2 : goal.actuals-returns-in_err-level-2
actuals-returns-in_err-level-2 t c =
    rw (exits c.from_residual-in_err-level-2.result c.from_residual-in_err-level-2.ensures.1) (list_broke c.args.depth (sym c.at_mark.ensures.value ∙ c.if-at_mark.false) (went_in c.deeper-inner.ensures c.in_ok-level.ensures) c.loop-cursor.invariant (sym c.at_mark-in-loop-cursor.ensures.value ∙ c.loop-cursor-test.true) (passed_in c.deeper-inner.ensures c.in_ok-take-2.ensures) (stops_in c.deeper-inner.ensures c.in_err-level-2.ensures))

pub actuals-loop-cursor-preserved : goal.actuals-loop-cursor-preserved
actuals-loop-cursor-preserved t c = list_turn (suc c.args.depth) (λ g. expression g (suc c.args.depth)) c.loop-cursor.invariant (sym c.at_mark-in-loop-cursor.ensures.value ∙ c.loop-cursor-test.true) (passed_in c.deeper-inner.ensures c.in_ok-take-2.ensures) (went_in c.deeper-inner.ensures c.in_ok-level-2.ensures)

pub actuals-returns-in_err-expect : goal.actuals-returns-in_err-expect
actuals-returns-in_err-expect t c =
    rw (exits c.from_residual-in_err-expect.result c.from_residual-in_err-expect.ensures.1) (list_open c.args.depth (sym c.at_mark.ensures.value ∙ c.if-at_mark.false) (went_in c.deeper-inner.ensures c.in_ok-level.ensures) c.loop-cursor.invariant (sym c.at_mark-in-loop-cursor.ensures.value ∙ c.loop-cursor-test.false) c.in_err-expect.ensures)

pub actuals-returns : goal.actuals-returns
actuals-returns t c = list_done c.args.depth (sym c.at_mark.ensures.value ∙ c.if-at_mark.false) (went_in c.deeper-inner.ensures c.in_ok-level.ensures) c.loop-cursor.invariant (sym c.at_mark-in-loop-cursor.ensures.value ∙ c.loop-cursor-test.false) c.in_ok-expect.ensures

-- named

pub named-returns-then-not-at_mark : goal.named-returns-then-not-at_mark
named-returns-then-not-at_mark t c = named_variable c.args.depth c.args.name (sym c.at_mark.ensures.value ∙ c.if-not-at_mark.true) c.push.ensures

pub named-returns-in_err-take : goal.named-returns-in_err-take
named-returns-in_err-take t c =
    rw (exits c.from_residual.result c.from_residual.ensures.1) (named_stuck c.args.depth c.args.name (sym c.at_mark.ensures.value ∙ c.if-not-at_mark.false) c.in_err-take.ensures)

pub named-returns-in_err-count : goal.named-returns-in_err-count
named-returns-in_err-count t c =
    rw (exits c.from_residual-in_err-count.result c.from_residual-in_err-count.ensures.1) (named_broke c.args.depth c.args.name (sym c.at_mark.ensures.value ∙ c.if-not-at_mark.false) c.in_ok-take.ensures c.in_err-count.ensures)

pub named-returns : goal.named-returns
named-returns t c = named_call c.args.depth c.args.name (sym c.at_mark.ensures.value ∙ c.if-not-at_mark.false) c.in_ok-take.ensures c.push-2.ensures c.in_ok-count.ensures c.push-3.ensures

-- inside

pub inside-returns-then-merged : goal.inside-returns-then-merged
inside-returns-then-merged t c = inside_merged c.args.merged c.args.depth c.args.cursor.now c.conditions.new.cursor c.args.self.now c.conditions.new.self c.conditions.result c.if-merged.true c.conditions.ensures

pub inside-returns : goal.inside-returns
inside-returns t c = inside_plain c.args.merged c.args.depth c.args.cursor.now c.level.new.cursor c.args.self.now c.level.new.self c.level.result c.if-merged.false c.level.ensures

-- bracket

pub bracket-returns-in_err-take : goal.bracket-returns-in_err-take
bracket-returns-in_err-take t c =
    rw (exits c.from_residual.result c.from_residual.ensures.1) (cast_stuck c.args.merged c.args.depth c.args.at c.in-Some.ensures.0 c.in_err-take.ensures)

pub bracket-returns-in_err-expect : goal.bracket-returns-in_err-expect
bracket-returns-in_err-expect t c =
    rw (exits c.from_residual-in_err-expect.result c.from_residual-in_err-expect.ensures.1) (cast_open c.args.merged c.args.depth c.args.at c.in-Some.ensures.0 c.in_ok-take.ensures c.in_err-expect.ensures)

pub bracket-returns-in_err-operand : goal.bracket-returns-in_err-operand
bracket-returns-in_err-operand t c =
    rw (exits c.from_residual-in_err-operand.result c.from_residual-in_err-operand.ensures.1) (cast_broke c.args.merged c.args.depth c.args.at c.in-Some.ensures.0 c.in_ok-take.ensures c.in_ok-expect.ensures c.in_err-operand.ensures)

pub bracket-returns-in-Some : goal.bracket-returns-in-Some
bracket-returns-in-Some t c = cast_done c.args.merged c.args.depth c.args.at c.in-Some.ensures.0 c.in-Some.ensures.1 c.in_ok-take.ensures c.in_ok-expect.ensures c.push.ensures c.in_ok-operand.ensures c.push-in-Some.ensures

pub bracket-returns-in_err-thing : goal.bracket-returns-in_err-thing
bracket-returns-in_err-thing t c =
    rw (exits c.from_residual-in_err-thing.result c.from_residual-in_err-thing.ensures.1) (group_broke c.args.merged c.args.depth c.args.at c.in_default.ensures c.in_err-thing.ensures)

pub bracket-returns-in_err-expect-2 : goal.bracket-returns-in_err-expect-2
bracket-returns-in_err-expect-2 t c =
    rw (exits c.from_residual-in_err-expect-2.result c.from_residual-in_err-expect-2.ensures.1) (group_open c.args.merged c.args.depth c.args.at c.in_default.ensures c.in_ok-thing.ensures c.in_err-expect-2.ensures)

pub bracket-returns : goal.bracket-returns
bracket-returns t c = group_done c.args.merged c.args.depth c.args.at c.in_default.ensures c.in_ok-thing.ensures c.in_ok-expect-2.ensures

-- operand

pub operand-returns-in_err-take : goal.operand-returns-in_err-take
operand-returns-in_err-take t c =
    rw (exits c.from_residual.result c.from_residual.ensures.1) (name_stuck c.args.merged c.args.depth c.in-Some.ensures.0 c.in_err-take.ensures)

pub operand-returns-in_err-named : goal.operand-returns-in_err-named
operand-returns-in_err-named t c =
    rw (exits c.from_residual-in_err-named.result c.from_residual-in_err-named.ensures.1) (name_broke c.args.merged c.args.depth c.in-Some.ensures c.in_ok-take.ensures c.in_err-named.ensures)

pub operand-returns-in-Some : goal.operand-returns-in-Some
operand-returns-in-Some t c = name_done c.args.merged c.args.depth c.in-Some.ensures c.in_ok-take.ensures c.in_ok-named.ensures

pub operand-returns-in_err-take-in-Constant : goal.operand-returns-in_err-take-in-Constant
operand-returns-in_err-take-in-Constant t c =
    rw (exits c.from_residual-in_err-take-in-Constant.result c.from_residual-in_err-take-in-Constant.ensures.1) (constant_stuck c.args.merged c.args.depth c.in-Constant.is c.in_err-take-in-Constant.ensures)

pub operand-returns-in_ok-take-in-Constant : goal.operand-returns-in_ok-take-in-Constant
operand-returns-in_ok-take-in-Constant t c = constant_done c.args.merged c.args.depth c.in-Constant.is c.in_ok-take-in-Constant.ensures c.push.ensures

pub operand-returns-in_err-take-in-Keyword-Nil : goal.operand-returns-in_err-take-in-Keyword-Nil
operand-returns-in_err-take-in-Keyword-Nil t c =
    rw (exits c.from_residual-in_err-take-in-Keyword-Nil.result c.from_residual-in_err-take-in-Keyword-Nil.ensures.1) (nil_stuck c.args.merged c.args.depth (c.in-Keyword-Nil.is ∙ ap Keyword (rw c.in-Keyword-Nil.is at c.in-Keyword-Nil.field-0-is)) c.in_err-take-in-Keyword-Nil.ensures)

pub operand-returns-in_ok-take-in-Keyword-Nil : goal.operand-returns-in_ok-take-in-Keyword-Nil
operand-returns-in_ok-take-in-Keyword-Nil t c = nil_done c.args.merged c.args.depth (c.in-Keyword-Nil.is ∙ ap Keyword (rw c.in-Keyword-Nil.is at c.in-Keyword-Nil.field-0-is)) c.in_ok-take-in-Keyword-Nil.ensures c.push-in-Keyword-Nil.ensures

pub operand-returns-in_err-take-in-Mark-Minus : goal.operand-returns-in_err-take-in-Mark-Minus
operand-returns-in_err-take-in-Mark-Minus t c =
    rw (exits c.from_residual-in_err-take-in-Mark-Minus.result c.from_residual-in_err-take-in-Mark-Minus.ensures.1) (minus_stuck c.args.merged c.args.depth (c.in-Mark-Minus.is ∙ ap Mark (rw c.in-Mark-Minus.is at c.in-Mark-Minus.field-0-is)) c.in_err-take-in-Mark-Minus.ensures)

pub operand-returns-in_err-operand-in-Mark-Minus : goal.operand-returns-in_err-operand-in-Mark-Minus
operand-returns-in_err-operand-in-Mark-Minus t c =
    rw (exits c.from_residual-in_err-operand-in-Mark-Minus.result c.from_residual-in_err-operand-in-Mark-Minus.ensures.1) (minus_broke c.args.merged c.args.depth (c.in-Mark-Minus.is ∙ ap Mark (rw c.in-Mark-Minus.is at c.in-Mark-Minus.field-0-is)) c.in_ok-take-in-Mark-Minus.ensures c.in_err-operand-in-Mark-Minus.ensures)

pub operand-returns-in_ok-operand-in-Mark-Minus : goal.operand-returns-in_ok-operand-in-Mark-Minus
operand-returns-in_ok-operand-in-Mark-Minus t c = minus_done c.args.merged c.args.depth (c.in-Mark-Minus.is ∙ ap Mark (rw c.in-Mark-Minus.is at c.in-Mark-Minus.field-0-is)) c.in_ok-take-in-Mark-Minus.ensures c.push-in-Mark-Minus.ensures c.in_ok-operand-in-Mark-Minus.ensures c.push-in-Mark-Minus-2.ensures

pub operand-returns-in_err-take-in-Mark-LeftParen : goal.operand-returns-in_err-take-in-Mark-LeftParen
operand-returns-in_err-take-in-Mark-LeftParen t c =
    rw (exits c.from_residual-in_err-take-in-Mark-LeftParen.result c.from_residual-in_err-take-in-Mark-LeftParen.ensures.1) (bracket_stuck c.args.merged c.args.depth (c.in-Mark-LeftParen.is ∙ ap Mark (rw c.in-Mark-LeftParen.is at c.in-Mark-LeftParen.field-0-is)) c.in_err-take-in-Mark-LeftParen.ensures)

pub operand-returns-in_ok-take-in-Mark-LeftParen : goal.operand-returns-in_ok-take-in-Mark-LeftParen
operand-returns-in_ok-take-in-Mark-LeftParen t c = bracket_done c.args.merged c.args.depth c.take-in-Mark-LeftParen.new.self c.bracket.new.cursor c.args.self.now c.bracket.new.self c.bracket.result (c.in-Mark-LeftParen.is ∙ ap Mark (rw c.in-Mark-LeftParen.is at c.in-Mark-LeftParen.field-0-is)) c.in_ok-take-in-Mark-LeftParen.ensures c.bracket.ensures

pub operand-returns-in_default-token : goal.operand-returns-in_default-token
operand-returns-in_default-token t c =
    let k : IsNoOperand (kind_at (left c.args.cursor.now)) = elim c.in_default-token.branch [ operand-in_default-token-via-in-Keyword+in_default w ↦ search rules | operand-in_default-token-via-in-Mark+in_default w ↦ search rules | operand-in_default-token-via-in_default w ↦ search rules ] in
    operand_wrong c.args.merged c.args.depth c.in_default.ensures k c.wrong.ensures

-- level

pub level-returns-in_default : goal.level-returns-in_default
level-returns-in_default t c = level_operand c.args.merged _ c.args.depth c.args.cursor.now c.operand.new.cursor c.args.self.now c.operand.new.self c.operand.result (ap rank c.in_default.is) c.operand.ensures

pub level-returns-in_err-level : goal.level-returns-in_err-level
level-returns-in_err-level t c =
    rw (exits c.from_residual.result c.from_residual.ensures.1, c.in-Some.is) (level_fails c.args.merged _ c.args.depth (some_rank c.in-Some.binding) (rw c.tighter.ensures at c.in_err-level.ensures))

pub level-returns-in_err-chain-in-Expression : goal.level-returns-in_err-chain-in-Expression
level-returns-in_err-chain-in-Expression t c =
    rw (exits c.from_residual-in_err-chain-in-Expression.result c.from_residual-in_err-chain-in-Expression.ensures.1, c.in-Some.is) (level_broke c.args.merged _ c.args.depth (some_rank c.in-Some.binding) (rw c.tighter.ensures at c.in_ok-level.ensures) c.in-Expression.is c.len-from.ensures c.in_err-chain-in-Expression.ensures)

pub level-returns-in-Condition : goal.level-returns-in-Condition
level-returns-in-Condition t c = rw c.in-Some.is (level_condition c.args.merged _ c.args.depth (some_rank c.in-Some.binding) (rw c.tighter.ensures at c.in_ok-level.ensures) c.in-Condition.is)

pub level-returns-in_ok-chain-in-Expression : goal.level-returns-in_ok-chain-in-Expression
level-returns-in_ok-chain-in-Expression t c = rw c.in-Some.is (level_done c.args.merged _ c.args.depth (some_rank c.in-Some.binding) (rw c.tighter.ensures at c.in_ok-level.ensures) c.in-Expression.is c.len-from.ensures c.in_ok-chain-in-Expression.ensures)

-- chain

pub chain-returns-in_err-take : goal.chain-returns-in_err-take
chain-returns-in_err-take t c =
    rw (exits c.from_residual.result c.from_residual.ensures.1) (operators_stuck c.args.depth _ c.args.start c.loop-operator.invariant c.in-Some.ensures.0 c.in_err-take.ensures)

pub chain-returns-in_err-level : goal.chain-returns-in_err-level
chain-returns-in_err-level t c =
    rw (exits c.from_residual-in_err-level.result c.from_residual-in_err-level.ensures.1) (operators_broke c.args.depth _ c.args.start c.loop-operator.invariant c.in-Some.ensures.0 c.in_ok-take.ensures (stops_at c.args.depth c.tighter.ensures c.in_err-level.ensures))

pub chain-loop-operator-preserved : goal.chain-loop-operator-preserved
chain-loop-operator-preserved t c = operators_again c.args.depth _ c.args.start c.loop-operator.invariant c.in-Some.ensures.0 c.in_ok-take.ensures c.in-Some.ensures.1 c.insert.ensures (gave_at c.args.depth c.tighter.ensures c.in_ok-level.ensures) c.push.ensures

pub chain-returns : goal.chain-returns
chain-returns t c = operators_done c.args.depth _ c.args.start c.loop-operator.invariant c.in_default.ensures

-- compared

pub compared-returns-in_err-take : goal.compared-returns-in_err-take
compared-returns-in_err-take t c =
    rw (exits c.from_residual.result c.from_residual.ensures.1) (compared_stuck c.args.must c.args.depth c.in-Some.ensures.0 c.in_err-take.ensures)

pub compared-returns-in_err-level : goal.compared-returns-in_err-level
compared-returns-in_err-level t c =
    rw (exits c.from_residual-in_err-level.result c.from_residual-in_err-level.ensures.1) (compared_broke c.args.must c.args.depth c.in-Some.ensures.0 c.in_ok-take.ensures c.in_err-level.ensures)

pub compared-returns-in-Some : goal.compared-returns-in-Some
compared-returns-in-Some t c = compared_done c.args.must c.args.depth c.in-Some.ensures.0 c.in-Some.ensures.1 c.in_ok-take.ensures c.insert.ensures c.in_ok-level.ensures c.push.ensures

pub compared-returns-then-must : goal.compared-returns-then-must
compared-returns-then-must t c = compared_wrong c.args.must c.args.depth c.args.from c.if-must.true c.in_default.ensures c.wrong.ensures

pub compared-returns-else-must : goal.compared-returns-else-must
compared-returns-else-must t c = compared_none c.args.must c.args.depth c.args.from c.if-must.false c.in_default.ensures

-- negation

pub negation-returns-in_err-take : goal.negation-returns-in_err-take
negation-returns-in_err-take t c =
    rw (exits c.from_residual.result c.from_residual.ensures.1) (not_stuck c.args.must c.args.depth (sym c.at_mark.ensures.value ∙ c.if-at_mark.true) c.in_err-take.ensures)

pub negation-returns-in_err-negation : goal.negation-returns-in_err-negation
negation-returns-in_err-negation t c =
    rw (exits c.from_residual-in_err-negation.result c.from_residual-in_err-negation.ensures.1) (not_broke c.args.must c.args.depth (sym c.at_mark.ensures.value ∙ c.if-at_mark.true) c.in_ok-take.ensures c.in_err-negation.ensures)

pub negation-returns-then-at_mark : goal.negation-returns-then-at_mark
negation-returns-then-at_mark t c = not_done c.args.must c.args.depth (sym c.at_mark.ensures.value ∙ c.if-at_mark.true) c.in_ok-take.ensures c.push.ensures c.in_ok-negation.ensures c.push-then-at_mark.ensures

pub negation-returns-in_err-level : goal.negation-returns-in_err-level
negation-returns-in_err-level t c =
    rw (exits c.from_residual-in_err-level.result c.from_residual-in_err-level.ensures.1) (thing_broke c.args.must c.args.depth (sym c.at_mark.ensures.value ∙ c.if-at_mark.false) c.in_err-level.ensures)

pub negation-returns-in-Condition : goal.negation-returns-in-Condition
negation-returns-in-Condition t c = thing_condition c.args.must c.args.depth (sym c.at_mark.ensures.value ∙ c.if-at_mark.false) c.in_ok-level.ensures c.in-Condition.is

pub negation-returns-in-Expression : goal.negation-returns-in-Expression
negation-returns-in-Expression t c = thing_expression c.args.must c.args.depth (sym c.at_mark.ensures.value ∙ c.if-at_mark.false) c.in_ok-level.ensures c.compared.new.cursor c.compared.new.self c.compared.result c.in-Expression.is c.len-from.ensures c.compared.ensures

-- conditions

pub conditions-returns-in_default : goal.conditions-returns-in_default
conditions-returns-in_default t c = conditions_one c.args.must _ c.args.depth c.args.cursor.now c.negation.new.cursor c.args.self.now c.negation.new.self c.negation.result (ap join_rank c.in_default.is) c.negation.ensures

pub conditions-returns-in_err-conditions : goal.conditions-returns-in_err-conditions
conditions-returns-in_err-conditions t c =
    rw (exits c.from_residual.result c.from_residual.ensures.1, c.in-Some.is) (conditions_fail c.args.must _ c.args.depth (some_join c.in-Some.join) (rw c.tighter.ensures at c.in_err-conditions.ensures))

pub conditions-returns-in_err-joined-in-Condition : goal.conditions-returns-in_err-joined-in-Condition
conditions-returns-in_err-joined-in-Condition t c =
    rw (exits c.from_residual-in_err-joined-in-Condition.result c.from_residual-in_err-joined-in-Condition.ensures.1, c.in-Some.is) (conditions_broke c.args.must _ c.args.depth (some_join c.in-Some.join) (rw c.tighter.ensures at c.in_ok-conditions.ensures) c.in-Condition.is c.len-from.ensures c.in_err-joined-in-Condition.ensures)

pub conditions-returns-in-Expression : goal.conditions-returns-in-Expression
conditions-returns-in-Expression t c = rw c.in-Some.is (conditions_expression c.args.must _ c.args.depth (some_join c.in-Some.join) (rw c.tighter.ensures at c.in_ok-conditions.ensures) c.in-Expression.is)

pub conditions-returns-in_ok-joined-in-Condition : goal.conditions-returns-in_ok-joined-in-Condition
conditions-returns-in_ok-joined-in-Condition t c = rw c.in-Some.is (conditions_done c.args.must _ c.args.depth (some_join c.in-Some.join) (rw c.tighter.ensures at c.in_ok-conditions.ensures) c.in-Condition.is c.len-from.ensures c.in_ok-joined-in-Condition.ensures)

-- joined

pub joined-returns-in_err-take : goal.joined-returns-in_err-take
joined-returns-in_err-take t c =
    rw (exits c.from_residual.result c.from_residual.ensures.1) (joins_stuck c.args.depth c.args.join c.loop-join.invariant (sym c.joins.ensures.value ∙ c.loop-join-test.true) c.in_err-take.ensures)

pub joined-returns-in_err-conditions : goal.joined-returns-in_err-conditions
joined-returns-in_err-conditions t c =
    rw (exits c.from_residual-in_err-conditions.result c.from_residual-in_err-conditions.ensures.1) (joins_broke c.args.depth c.args.join c.loop-join.invariant (sym c.joins.ensures.value ∙ c.loop-join-test.true) c.in_ok-take.ensures (rw c.tighter.ensures at c.in_err-conditions.ensures))

pub joined-loop-join-preserved : goal.joined-loop-join-preserved
joined-loop-join-preserved t c =
    joins_again c.args.depth c.args.join c.loop-join.invariant (sym c.joins.ensures.value ∙ c.loop-join-test.true) c.in_ok-take.ensures c.insert.ensures c.len-middle.ensures (rw c.tighter.ensures at c.in_ok-conditions.ensures) (ap (λ n. n - c.len-middle.result) c.len.ensures) c.node.ensures c.insert-in-loop-join.ensures

pub joined-returns : goal.joined-returns
joined-returns t c = joins_done c.args.depth c.args.join c.loop-join.invariant (sym c.joins.ensures.value ∙ c.loop-join-test.false)
