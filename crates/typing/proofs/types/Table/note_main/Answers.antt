use Rattle.std.proofs.Common.{codes}
use Rattle.typing.proofs.Found.{function_found}
use Rattle.typing.proofs.Fitting.{types_of_is}
use Rattle.typing.proofs.types.Table.note_main.Goals as goal

pub returns-in-None : goal.returns-in-None
returns-in-None c =
    let found = rw c.in-None.is at (function_found c.args.self.now.source.now (codes "main") c.args.self.now.functions.now c.find_named.result c.find_named.ensures) in
    rw (← found) c.refuse.ensures

pub returns-in-Some : goal.returns-in-Some
returns-in-Some c =
    let found = rw c.in-Some.is at (function_found c.args.self.now.source.now (codes "main") c.args.self.now.functions.now c.find_named.result c.find_named.ensures) in
    rw (← found, types_of_is, ← c.formals_in.ensures, ← c.is_one_int-holds.ensures) c.demand.ensures
