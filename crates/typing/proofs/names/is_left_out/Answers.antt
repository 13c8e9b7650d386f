use Rattle.std.proofs.Common.{◌∙◌}
use Rattle.typing.specs.Names.{left_out}
use Rattle.typing.proofs.Found.{one_of_three}
use Rattle.typing.proofs.names.is_left_out.Goals as goal

pub returns : goal.returns
unfolding left_out
returns c = c.contains.ensures.value ∙ one_of_three _ _ _ c.args.text.now
