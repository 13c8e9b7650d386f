-- A heap's model, and what each call answers and leaves. Assumes nothing.
use Rattle.std.specs.Prelude.{◌≡◌, ℕ, ◌+◌, ◌-◌, ◌<◌, Bool, true, false, not, ◌&&◌, List, [], ◌∷◌, length, replicate, Some, None, Ok, Err, Option, Result, ◌==◌, nat_lt, slice_index_or, slice_set}
use Rattle.heap.specs.declared.types.Address.{Address}
use Rattle.heap.specs.declared.types.Side.{Side}
use Rattle.heap.specs.declared.types.Side.TheVariants.{Left, Right}
use Rattle.heap.specs.declared.types.Value.{Value}
use Rattle.heap.specs.declared.types.Value.TheVariants.{Number, Nil, At}
use Rattle.heap.specs.declared.types.HeapRefusal.{HeapRefusal}
use Rattle.heap.specs.declared.types.HeapRefusal.TheVariants.{NotTaken, NoHold, TooManyHolds, KindChange, Full}

-- the number of a refusal
abbrev pub refusal_number : HeapRefusal → ℕ
refusal_number NotTaken = 40
refusal_number NoHold = 41
refusal_number TooManyHolds = 42
refusal_number KindChange = 43
refusal_number Full = 44

-- a place is free, or taken with its left and right slot and its number of holds
pub data Room : Type 0 where
  free : Room
  taken : Value → Value → ℕ → Room

-- the places of a heap, from 0 on
abbrev pub Model : Type 0
Model = List Room

-- a heap of n places with nothing taken
abbrev pub all_free : ℕ → Model
all_free n = replicate n free

-- what stands at a place; a place past the last reads as free
abbrev pub room_at : Model → ℕ → Room
room_at m p = slice_index_or m p free

abbrev pub is_taken : Room → Bool
is_taken free = false
is_taken (taken l r n) = true

abbrev pub holds_of : Room → ℕ
holds_of free = 0
holds_of (taken l r n) = n

abbrev pub with_holds : Room → ℕ → Room
with_holds free n = free
with_holds (taken l r m) n = taken l r n

abbrev pub slot_of : Room → Side → Value
slot_of free s = Nil
slot_of (taken l r n) Left = l
slot_of (taken l r n) Right = r

abbrev pub with_slot : Room → Side → Value → Room
with_slot free s v = free
with_slot (taken l r n) Left v = taken v r n
with_slot (taken l r n) Right v = taken l v n

abbrev pub taken_at : Model → ℕ → Bool
taken_at m p = is_taken (room_at m p)

abbrev pub held_at : Model → ℕ → Bool
held_at m p = nat_lt 0 (holds_of (room_at m p))

abbrev pub all_taken : Model → Bool
all_taken [] = true
all_taken (x ∷ m) = is_taken x && all_taken m

abbrev pub is_number : Value → Bool
is_number (Number z) = true
is_number Nil = false
is_number (At p) = false

-- two values are whole numbers, or neither is
abbrev pub same_kind : Value → Value → Bool
same_kind (Number z) w = is_number w
same_kind Nil w = not (is_number w)
same_kind (At p) w = not (is_number w)

-- the place that a value names, if it names one
abbrev pub address_of : Value → Option Address
address_of (Number z) = None
address_of Nil = None
address_of (At p) = Some p

-- a place that a value names has this property
abbrev pub names_only : (ℕ → Bool) → Value → Bool
names_only f (Number z) = true
names_only f Nil = true
names_only f (At p) = f p.at

-- places are freed one after the other
abbrev pub freed : List ℕ → Model → Model
freed [] m = m
freed (p ∷ ps) m = freed ps (slice_set m p free)

-- which places a heap frees: in make before a place is taken, in let_go and put after their change
pub record Rule : Type 0 where
  pub on_make : Model → List ℕ
  pub on_let_go : Model → List ℕ
  pub on_put : Model → List ℕ

-- the refusal where the test holds, else what comes after
abbrev pub refuse : Bool → HeapRefusal → Option HeapRefusal → Option HeapRefusal
refuse true e o = Some e
refuse false e o = o

abbrev pub answer : {X : Type 0} → Option HeapRefusal → X → Result X HeapRefusal
answer None x = Ok x
answer (Some e) x = Err e

-- a refused call leaves the model as it was
abbrev pub after : Option HeapRefusal → Model → Model → Model
after None old new = new
after (Some e) old new = old

-- hold: 40 where the place is not taken, 42 where it has 65,535 holds
abbrev pub hold_refusal : Model → ℕ → Option HeapRefusal
hold_refusal m p = refuse (not (taken_at m p)) NotTaken (refuse (holds_of (room_at m p) == 65535) TooManyHolds None)

abbrev pub hold_done : Model → ℕ → Model
hold_done m p = slice_set m p (with_holds (room_at m p) (holds_of (room_at m p) + 1))

pub record Holds (m : Model) (p : Address) (a : Result (Unit {0}) HeapRefusal) (n : Model) : Type 0 where
  pub answers : a ≡ answer (hold_refusal m p.at) tt
  pub leaves : n ≡ after (hold_refusal m p.at) m (hold_done m p.at)

-- let_go: 41 where the place has no hold
abbrev pub let_go_refusal : Model → ℕ → Option HeapRefusal
let_go_refusal m p = refuse (not (held_at m p)) NoHold None

abbrev pub less_held : Model → ℕ → Model
less_held m p = slice_set m p (with_holds (room_at m p) (holds_of (room_at m p) - 1))

abbrev pub let_go_done : Rule → Model → ℕ → Model
let_go_done rule m p = freed (rule.on_let_go (less_held m p)) (less_held m p)

pub record LetsGo (rule : Rule) (m : Model) (p : Address) (a : Result (Unit {0}) HeapRefusal) (n : Model) : Type 0 where
  pub answers : a ≡ answer (let_go_refusal m p.at) tt
  pub leaves : n ≡ after (let_go_refusal m p.at) m (let_go_done rule m p.at)

-- look: 40 where the place is not taken
abbrev pub look_refusal : Model → ℕ → Option HeapRefusal
look_refusal m p = refuse (not (taken_at m p)) NotTaken None

pub record Looks (m : Model) (p : Address) (s : Side) (a : Result Value HeapRefusal) : Type 0 where
  pub answers : a ≡ answer (look_refusal m p.at) (slot_of (room_at m p.at) s)

-- put: 40 where the place or a place that the value names is not taken, 43 where a whole number would give way to nil or a place, or the reverse
abbrev pub put_refusal : Model → ℕ → Side → Value → Option HeapRefusal
put_refusal m p s v =
    refuse (not (taken_at m p && names_only (taken_at m) v)) NotTaken (refuse (not (same_kind (slot_of (room_at m p) s) v)) KindChange None)

abbrev pub written : Model → ℕ → Side → Value → Model
written m p s v = slice_set m p (with_slot (room_at m p) s v)

abbrev pub put_done : Rule → Model → ℕ → Side → Value → Model
put_done rule m p s v = freed (rule.on_put (written m p s v)) (written m p s v)

pub record Puts (rule : Rule) (m : Model) (p : Address) (s : Side) (v : Value) (a : Result (Unit {0}) HeapRefusal) (n : Model) : Type 0 where
  pub answers : a ≡ answer (put_refusal m p.at s v) tt
  pub leaves : n ≡ after (put_refusal m p.at s v) m (put_done rule m p.at s v)

-- make: 41 where a place that a slot would name has no hold, 44 where after the rule's freeing every place is taken
abbrev pub make_refusal : Rule → Model → Value → Value → Option HeapRefusal
make_refusal rule m l r =
    refuse (not (names_only (held_at m) l && names_only (held_at m) r)) NoHold (refuse (all_taken (freed (rule.on_make m) m)) Full None)

-- a free place of m is taken with these slots and one hold; which one is the heap's choice
pub record Takes (m : Model) (l r : Value) (p : Address) (n : Model) : Type 0 where
  pub within : p.at < length m
  pub was : room_at m p.at ≡ free
  pub now : n ≡ slice_set m p.at (taken l r 1)

abbrev pub MakesBy : Rule → Model → Value → Value → Result Address HeapRefusal → Model → Type 0
MakesBy rule m l r (Ok p) n = (make_refusal rule m l r ≡ None) × Takes (freed (rule.on_make m) m) l r p n
MakesBy rule m l r (Err e) n = (make_refusal rule m l r ≡ Some e) × (n ≡ m)

pub record Makes (rule : Rule) (m : Model) (l r : Value) (a : Result Address HeapRefusal) (n : Model) : Type 0 where
  pub by : MakesBy rule m l r a n
