use Rattle.std.proofs.Common.{rules}
use Rattle.typing.proofs.Order.{lesser}
use Rattle.typing.proofs.types.LeastFault.note.Goals as goal

pub returns : goal.returns
returns c = search (rules, lesser)
