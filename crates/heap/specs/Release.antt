-- What letting go of a list of values does, the first value first. Assumes nothing.
use Rattle.std.specs.Prelude.{◌≡◌, ℕ, List, [], ◌∷◌, Some, None, Option, Result}
use Rattle.heap.specs.declared.types.Value.{Value}
use Rattle.heap.specs.declared.types.Value.TheVariants.{Number, Nil, At}
use Rattle.heap.specs.declared.types.HeapRefusal.{HeapRefusal}
use Rattle.heap.specs.Model.{Model, Rule, answer, after, let_go_refusal, let_go_done}
use Rattle.heap.specs.Trace.{Event, lets_go, Trace}

-- what one let_go leaves, refused or not
abbrev pub let_go_leaves : Rule → Model → ℕ → Model
let_go_leaves rule m p = after (let_go_refusal m p) m (let_go_done rule m p)

-- the first of two refusals, if there is one
abbrev pub first_of : Option HeapRefusal → Option HeapRefusal → Option HeapRefusal
first_of None o = o
first_of (Some e) o = Some e

-- the model after every place that a value names was let go
abbrev pub released : Rule → List Value → Model → Model
released rule [] m = m
released rule (Number z ∷ vs) m = released rule vs m
released rule (Nil ∷ vs) m = released rule vs m
released rule (At p ∷ vs) m = released rule vs (let_go_leaves rule m p.at)

-- the first refusal on the way, which stops nothing
abbrev pub first_refusal : Rule → List Value → Model → Option HeapRefusal
first_refusal rule [] m = None
first_refusal rule (Number z ∷ vs) m = first_refusal rule vs m
first_refusal rule (Nil ∷ vs) m = first_refusal rule vs m
first_refusal rule (At p ∷ vs) m = first_of (let_go_refusal m p.at) (first_refusal rule vs (let_go_leaves rule m p.at))

-- the calls that are made, with their answers
abbrev pub releases : Rule → List Value → Model → List Event
releases rule [] m = []
releases rule (Number z ∷ vs) m = releases rule vs m
releases rule (Nil ∷ vs) m = releases rule vs m
releases rule (At p ∷ vs) m = lets_go p (answer (let_go_refusal m p.at) tt) ∷ releases rule vs (let_go_leaves rule m p.at)

-- every place that a value names is let go, in this order and by these calls alone, and the first refusal is the answer
pub record Releases (rule : Rule) (m : Model) (vs : List Value) (a : Result (Unit {0}) HeapRefusal) (n : Model) : Type 0 where
  pub answers : a ≡ answer (first_refusal rule vs m) tt
  pub leaves : n ≡ released rule vs m
  pub traced : Trace rule m (releases rule vs m) n
