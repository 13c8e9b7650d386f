-- What a counting heap frees, and what follows from it. Assumes nothing.
use Rattle.std.specs.Prelude.{◌≡◌, ℕ, zero, suc, Bool, true, false, cond, not, ◌&&◌, List, [], ◌∷◌, ◌++◌, length, ◌==◌}
use Rattle.heap.specs.declared.types.Address.{Address}
use Rattle.heap.specs.declared.types.Side.{Side}
use Rattle.heap.specs.declared.types.Value.TheVariants.{At}
use Rattle.heap.specs.Model.{Model, Rule, all_free, room_at, taken_at, held_at, slot_of, freed}
use Rattle.heap.specs.Counts.{count}
use Rattle.heap.specs.Trace.{Event, makes, holds, lets_go, looks, puts, Trace}

-- a place is dead: taken, with neither a hold nor a slot that names it
abbrev pub dead : Model → ℕ → Bool
dead m p = taken_at m p && not (held_at m p) && count p m == 0

-- the last dead place below n, alone in a list; no place where none is dead
abbrev pub last_dead : Model → ℕ → List ℕ
last_dead m zero = []
last_dead m (suc n) = cond (dead m n) (n ∷ []) (last_dead m n)

-- the places that go when n times a dead place is freed, if there is one
abbrev pub dead_in_turn : ℕ → Model → List ℕ
dead_in_turn zero m = []
dead_in_turn (suc n) m = last_dead m (length m) ++ dead_in_turn n (freed (last_dead m (length m)) m)

-- make frees nothing; let_go and put free dead places, as many times as there are places
abbrev pub counting_rule : Rule
counting_rule = record { on_make = λ m. []; on_let_go = λ m. dead_in_turn (length m) m; on_put = λ m. dead_in_turn (length m) m }

-- what keeps the place p, given a set of kept places: a hold, or a slot of a place of the set
pub data Backed (m : Model) (kept : ℕ → Bool) (p : ℕ) : Type 0 where
  by_hold : held_at m p ≡ true → Backed m kept p
  by_slot : (q : ℕ) (s : Side) (a : Address) → kept q ≡ true → slot_of (room_at m q) s ≡ At a → a.at ≡ p → Backed m kept p

-- a set of taken places upholds itself: each is held, or named by a slot of one of them
pub record Upheld (m : Model) (kept : ℕ → Bool) : Type 0 where
  pub taken : (p : ℕ) → kept p ≡ true → taken_at m p ≡ true
  pub backed : (p : ℕ) → kept p ≡ true → Backed m kept p

-- n is m with some places freed, none of them in a set that upholds itself
pub record Frees (m n : Model) : Type 0 where
  pub long : length n ≡ length m
  pub same : (p : ℕ) → taken_at n p ≡ true → room_at n p ≡ room_at m p
  pub keeps : (kept : ℕ → Bool) → Upheld m kept → (p : ℕ) → kept p ≡ true → taken_at n p ≡ true

-- and no dead place is left
pub record Settles (m n : Model) : Type 0 where
  pub frees : Frees m n
  pub none_dead : (p : ℕ) → dead n p ≡ false

-- the rule settles every model
abbrev pub RuleSettles : Type 0
RuleSettles = (m : Model) → Settles m (freed (dead_in_turn (length m) m) m)

-- a model settles in one way only, so the order in which dead places are freed does not matter
abbrev pub OneResult : Type 0
OneResult = (m n k : Model) → Settles m n → Settles m k → n ≡ k

-- what is left upholds itself, so it is the greatest set that does; a ring is such a set
abbrev pub LeftUpheld : Type 0
LeftUpheld = (m n : Model) → Settles m n → Upheld m (taken_at n)

-- the call is a put
abbrev pub is_put : Event → Bool
is_put (makes l r a) = false
is_put (holds p a) = false
is_put (lets_go p a) = false
is_put (looks p s a) = false
is_put (puts p s v a) = true

-- no call of the list is a put
abbrev pub no_put : List Event → Bool
no_put [] = true
no_put (e ∷ es) = not (is_put e) && no_put es

-- from a heap of n free places, by calls without a put: where no place is held, every place is free
abbrev pub Drains : Type 0
Drains = (n : ℕ) (es : List Event) (m : Model) → Trace counting_rule (all_free n) es m → no_put es ≡ true → ((p : ℕ) → held_at m p ≡ false) → m ≡ all_free n
