use Rattle.grammar.proofs.Exact.{is_right}
use Rattle.grammar.proofs.Telling.{parentheses_tell}
use Rattle.grammar.proofs.reading_stands.Goals as goal

pub returns : goal.returns
returns c = record { right = is_right; parentheses = parentheses_tell }
