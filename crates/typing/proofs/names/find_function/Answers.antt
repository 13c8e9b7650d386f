use Rattle.std.proofs.Common.{rules}
use Rattle.typing.proofs.Found.{function_found}
use Rattle.typing.proofs.names.find_function.Goals as goal

pub returns : goal.returns
returns c = let found = function_found c.args.source.now c.args.text.now c.args.functions.now c.find_named.result c.find_named.ensures in search rules
