-- A table and a call as the rules see them. Assumes nothing.
use Rattle.std.specs.Prelude.{◌-◌, Bool, true, false, List, length, drop}
use Rattle.typing.specs.declared.types.Call.{Call}
use Rattle.typing.specs.declared.types.CallPlace.{CallPlace}
use Rattle.typing.specs.declared.types.CallPlace.TheVariants.{Expression, Statement}
use Rattle.typing.specs.declared.types.Operand.{Operand}
use Rattle.typing.specs.declared.types.Table.{Table}
use Rattle.typing.specs.Names.{Ctx}

-- the source and the declarations of a table
abbrev pub ctx_of : Table → Ctx
ctx_of t = record { source = t.source.now; functions = t.functions.now; formals = t.formals.now }

-- the call is a call statement
abbrev pub is_statement : CallPlace → Bool
is_statement Expression = false
is_statement Statement = true

-- the actuals of a call: the last of its operands
abbrev pub actuals_of : Call → List Operand
actuals_of k = drop (length k.operands.now - k.count) k.operands.now
