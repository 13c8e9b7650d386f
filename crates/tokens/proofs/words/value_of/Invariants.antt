use Rattle.std.proofs.Common.{◌≡◌, ◌≤◌, drop}
use Rattle.tokens.specs.Spelling.{reading, reading_from}
use Rattle.tokens.specs.Lexing.{largest}
use Rattle.tokens.proofs.words.value_of.Given as goal

abbrev pub invariant-loop-d : goal.invariant-loop-d
invariant-loop-d l = (l.value ≤ largest) × (reading l.digits ≡ reading_from l.value (drop l.d-index l.digits))
