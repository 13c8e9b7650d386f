-- How often a place is named. Assumes nothing.
use Rattle.std.specs.Prelude.{ℕ, ◌+◌, cond, List, [], ◌∷◌, ◌==◌}
use Rattle.heap.specs.declared.types.Value.{Value}
use Rattle.heap.specs.declared.types.Value.TheVariants.{Number, Nil, At}
use Rattle.heap.specs.Model.{Room, free, taken, Model}

-- how often a value names the place p: once or not at all
abbrev pub names : ℕ → Value → ℕ
names p (Number z) = 0
names p Nil = 0
names p (At q) = cond (p == q.at) 1 0

-- how many values of a list name the place p
abbrev pub namings : ℕ → List Value → ℕ
namings p [] = 0
namings p (v ∷ vs) = names p v + namings p vs

-- how many slots of a room name the place p
abbrev pub room_names : ℕ → Room → ℕ
room_names p free = 0
room_names p (taken l r n) = names p l + names p r

-- how many slots of all rooms name the place p
abbrev pub count : ℕ → Model → ℕ
count p [] = 0
count p (x ∷ m) = room_names p x + count p m
