use Rattle.script.proofs.Unflat.{loses_nothing}
use Rattle.script.proofs.flat_loses_nothing.Goals as goal

pub returns : goal.returns
returns c = loses_nothing
