-- Reading and writing a heap's model. Assumes nothing.
use Rattle.std.proofs.Common.{◌≡◌, ℕ, zero, suc, Bool, true, ◌⊎◌, [], ◌∷◌, set, sym, refl, ap, ◌∙◌, inl, inr}
use Rattle.heap.specs.declared.types.Address.{Address}
use Rattle.heap.specs.declared.types.Side.{Side}
use Rattle.heap.specs.declared.types.Side.TheVariants.{Left, Right}
use Rattle.heap.specs.declared.types.Value.{Value}
use Rattle.heap.specs.declared.types.Value.TheVariants.{Number, Nil, At}
use Rattle.heap.specs.Model.{Room, free, taken, Model, all_free, room_at, is_taken, slot_of, with_slot, with_holds, taken_at, held_at, names_only, written}
use Rattle.heap.specs.Reach.{Closed}
use Rattle.heap.proofs.RoomAt.{held_room, holds_slot, holds_taken, all_free_lem}

-- a held place is taken
pub held_taken : (m : Model) (p : ℕ) → held_at m p ≡ true → taken_at m p ≡ true
held_taken m p e = held_room (room_at m p) e

pub names_at : (f : ℕ → Bool) (v : Value) (q : Address) → names_only f v ≡ true → v ≡ At q → f q.at ≡ true
names_at f v q e is = ap (names_only f) (sym is) ∙ e

-- what every slot names is taken
pub closed_from_names : (m : Model) → ((p : ℕ) (s : Side) → names_only (taken_at m) (slot_of (room_at m p) s) ≡ true) → Closed m
closed_from_names m names p s q is = names_at (taken_at m) (slot_of (room_at m p) s) q (names p s) is

pub names_from_closed : (m : Model) → Closed m → (p : ℕ) (s : Side) → names_only (taken_at m) (slot_of (room_at m p) s) ≡ true
names_from_closed m closed p s = value (slot_of (room_at m p) s) (closed p s)
  where
    value : (v : Value) → ((q : Address) → v ≡ At q → taken_at m q.at ≡ true) → names_only (taken_at m) v ≡ true
    value (Number z) h = refl
    value Nil h = refl
    value (At q) h = h q refl

-- after a write each place has the new room or its old one
pub room_set : (m : Model) (p : ℕ) (x : Room) (k : ℕ) → (room_at (set m p x) k ≡ x) ⊎ (room_at (set m p x) k ≡ room_at m k)
room_set [] p x k = inr refl
room_set (y ∷ m) zero x zero = inl refl
room_set (y ∷ m) zero x (suc k) = inr refl
room_set (y ∷ m) (suc p) x zero = inr refl
room_set (y ∷ m) (suc p) x (suc k) = room_set m p x k

-- a write that does not free its place leaves taken places taken
pub taken_set : (m : Model) (p : ℕ) (x : Room) (k : ℕ) → (taken_at m p ≡ true → is_taken x ≡ true) → taken_at m k ≡ true → taken_at (set m p x) k ≡ true
taken_set [] p x k h e = e
taken_set (y ∷ m) zero x zero h e = h e
taken_set (y ∷ m) zero x (suc k) h e = e
taken_set (y ∷ m) (suc p) x zero h e = e
taken_set (y ∷ m) (suc p) x (suc k) h e = taken_set m p x k h e

-- no slot names a free place after a write that frees nothing and whose slots name taken places
pub closed_set : (m : Model) (p : ℕ) (x : Room) → Closed m → (taken_at m p ≡ true → is_taken x ≡ true) → ((s : Side) (q : Address) → slot_of x s ≡ At q → taken_at m q.at ≡ true) → Closed (set m p x)
closed_set m p x closed stays names k s q is =
    taken_set m p x q.at stays (elim (room_set m p x k) [ inl e ↦ names s q (ap (λ y. slot_of y s) (sym e) ∙ is) | inr e ↦ closed k s q (ap (λ y. slot_of y s) (sym e) ∙ is) ])

-- another number of holds
pub closed_holds : (m : Model) (p n : ℕ) → Closed m → Closed (set m p (with_holds (room_at m p) n))
closed_holds m p n closed =
    closed_set m p (with_holds (room_at m p) n) closed (λ e. holds_taken (room_at m p) n ∙ e) (λ s q is. closed p s q (sym (holds_slot s (room_at m p) n) ∙ is))

slot_written : (x : Room) (s : Side) (v : Value) (t : Side) → (slot_of (with_slot x s v) t ≡ v) ⊎ (slot_of (with_slot x s v) t ≡ slot_of x t)
slot_written free s v t = inr refl
slot_written (taken l r n) Left v Left = inl refl
slot_written (taken l r n) Left v Right = inr refl
slot_written (taken l r n) Right v Left = inr refl
slot_written (taken l r n) Right v Right = inl refl

pub written_taken : (x : Room) (s : Side) (v : Value) → is_taken (with_slot x s v) ≡ is_taken x
written_taken free s v = refl
written_taken (taken l r n) Left v = refl
written_taken (taken l r n) Right v = refl

-- another value in a slot
pub closed_written : (m : Model) (p : ℕ) (s : Side) (v : Value) → Closed m → names_only (taken_at m) v ≡ true → Closed (written m p s v)
closed_written m p s v closed names =
    closed_set m p (with_slot (room_at m p) s v) closed
    (λ e. written_taken (room_at m p) s v ∙ e)
    (λ t q is. elim (slot_written (room_at m p) s v t) [ inl e ↦ names_at (taken_at m) v q names (sym e ∙ is) | inr e ↦ closed p t q (sym e ∙ is) ])

-- a place taken anew, whatever stood there
pub closed_taken : (m : Model) (p : ℕ) (l r : Value) (n : ℕ) → Closed m → names_only (taken_at m) l ≡ true → names_only (taken_at m) r ≡ true → Closed (set m p (taken l r n))
closed_taken m p l r n closed left right = closed_set m p (taken l r n) closed (λ e. refl) names
  where
    names : (s : Side) (q : Address) → slot_of (taken l r n) s ≡ At q → taken_at m q.at ≡ true
    names Left q is = names_at (taken_at m) l q left is
    names Right q is = names_at (taken_at m) r q right is

-- every place free
pub closed_free : (n : ℕ) → Closed (all_free n)
closed_free n p s q is = let e : ◌≡◌ {A = Value} Nil (At q) = ap (λ x. slot_of x s) (sym (all_free_lem n p)) ∙ is in cc
