use Rattle.std.proofs.Common.{◌≡◌, ◌-◌, length}
use Rattle.tokens.specs.State.{to_come}
use Rattle.tokens.proofs.lexer.Lexer.next_token.Given as goal

abbrev pub invariant-loop-n : goal.invariant-loop-n
invariant-loop-n l = (l.self.source ≡ l.initial.self.source) × (to_come l.initial.self ≡ to_come l.self)

abbrev pub decreases-loop-n : goal.decreases-loop-n
decreases-loop-n l = length l.self.source.now - l.self.pos
