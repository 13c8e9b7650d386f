-- How tightly operators bind, as the grammar counts it. Assumes nothing.
use Rattle.std.specs.Prelude.{◌≡◌, ℕ, ◌<◌, true, false, List, Some, None, Option}
use Rattle.script.specs.declared.types.Operator.{Operator}
use Rattle.script.specs.declared.types.Node.{Node}
use Rattle.script.specs.declared.types.Node.TheVariants as node
use Rattle.grammar.specs.Tokens.{Tok, first}
use Rattle.grammar.specs.Combine.{kind_at}
use Rattle.grammar.specs.Parse.{binding, operates, operator_of}
use Rattle.reader.specs.declared.binding.Binding.{Binding}
use Rattle.reader.specs.declared.binding.Binding.TheVariants.{Product, Sum, Dot}
use Rattle.reader.specs.declared.binding.Join.{Join}
use Rattle.reader.specs.declared.binding.Join.TheVariants.{And, Or}

-- how tightly the operators of a chain bind; 0 for a single operand
abbrev pub rank : Option Binding → ℕ
rank None = 0
rank (Some Product) = 1
rank (Some Sum) = 2
rank (Some Dot) = 3

-- how tightly the `&&` or `||` of a chain bind; 0 for a single condition
abbrev pub join_rank : Option Join → ℕ
join_rank None = 0
join_rank (Some And) = 1
join_rank (Some Or) = 2

-- the node of a `&&` or `||` that skips so much
abbrev pub join_node : Join → ℕ → Node
join_node And skip = node.And skip
join_node Or skip = node.Or skip

-- the binary operator at hand and how tightly it binds, or that there is none
abbrev pub IsBinary : List Tok → Option (Operator × Binding) → Type 0
IsBinary ts None = binding (kind_at ts) ≡ 0
IsBinary ts (Some x) = (binding (kind_at ts) ≡ rank (Some x.1)) × (x.0 ≡ operator_of (first ts)) × (1 < kind_at ts)

-- the binary operator at hand that binds so tightly, or that there is none
abbrev pub IsOperator : Binding → List Tok → Option Operator → Type 0
IsOperator b ts None = operates (rank (Some b)) (kind_at ts) ≡ false
IsOperator b ts (Some o) = (operates (rank (Some b)) (kind_at ts) ≡ true) × (o ≡ operator_of (first ts)) × (1 < kind_at ts)
