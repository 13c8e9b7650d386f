use Rattle.std.proofs.Common.{◌-◌, ◌≤◌, vec_items, vec_len}
use Rattle.tokens.specs.State.{to_come}
use Rattle.tokens.proofs.Kept.{Sofar}
use Rattle.tokens.proofs.list.TokenList.take_all.Given as goal

abbrev pub invariant-loop-lexer : goal.invariant-loop-lexer
invariant-loop-lexer l = (vec_len l.self.items ≤ 2049) × Sofar (to_come l.initial.lexer) (vec_items l.self.items) (to_come l.lexer)

abbrev pub decreases-loop-lexer : goal.decreases-loop-lexer
decreases-loop-lexer l = 2049 - vec_len l.self.items
