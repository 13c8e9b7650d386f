use Rattle.std.proofs.Common.{rules}
use Rattle.typing.proofs.Found.{variable_found}
use Rattle.typing.proofs.types.Table.find_variable.Goals as goal

pub returns : goal.returns
returns c =
    let found = variable_found c.args.self.now.source.now c.spelling-text.result.now c.args.variables.now c.find_named.result c.find_named.ensures in
    search rules
