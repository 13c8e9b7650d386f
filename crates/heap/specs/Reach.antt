-- What held places reach, and what every heap owes. Assumes nothing.
use Rattle.std.specs.Prelude.{◌≡◌, ℕ, Bool, true, false, ◌||◌, List, [], ◌∷◌, ◌==◌}
use Rattle.heap.specs.declared.types.Address.{Address}
use Rattle.heap.specs.declared.types.Side.{Side}
use Rattle.heap.specs.declared.types.Value.TheVariants.{At}
use Rattle.heap.specs.Model.{Model, Rule, room_at, slot_of, taken_at, held_at}

-- a place is held, or a slot of a reached place names it
pub data Reached (m : Model) : ℕ → Type 0 where
  held : (p : ℕ) → held_at m p ≡ true → Reached m p
  named : (p : ℕ) (q : Address) (s : Side) → Reached m p → slot_of (room_at m p) s ≡ At q → Reached m q.at

-- the number stands in the list
abbrev pub among : ℕ → List ℕ → Bool
among p [] = false
among p (q ∷ qs) = p == q || among p qs

-- no place that is freed was reached
abbrev pub FreesUnreached : (Model → List ℕ) → Type 0
FreesUnreached f = (m : Model) (p : ℕ) → among p (f m) ≡ true → Reached m p → ⊥

-- whatever the model, the rule frees nothing that a held place reaches
pub record Safe (rule : Rule) : Type 0 where
  pub make : FreesUnreached rule.on_make
  pub let_go : FreesUnreached rule.on_let_go
  pub put : FreesUnreached rule.on_put

-- slots of taken places name taken places
abbrev pub Closed : Model → Type 0
Closed m = (p : ℕ) (s : Side) (q : Address) → slot_of (room_at m p) s ≡ At q → taken_at m q.at ≡ true
