-- Reading and writing the rooms of a model. Assumes nothing.
use Rattle.std.proofs.Common.{◌≡◌, ℕ, zero, suc, ◌<◌, true, false, ltb, [], ◌∷◌, length, set, Some, None, Option, refl, arith}
use Rattle.std.proofs.lemmas.List.{get_or-set_same, get_or-set_other}
use Rattle.heap.specs.declared.types.Address.{Address}
use Rattle.heap.specs.declared.types.Side.{Side}
use Rattle.heap.specs.declared.types.Side.TheVariants.{Left, Right}
use Rattle.heap.specs.declared.types.Value.{Value}
use Rattle.heap.specs.declared.types.Value.TheVariants.{Number, Nil, At}
use Rattle.heap.specs.declared.types.HeapRefusal.{HeapRefusal}
use Rattle.heap.specs.Model.{Room, free, taken, Model, all_free, room_at, slot_of, with_holds, holds_of, is_taken, taken_at, held_at, all_taken, names_only, after}

-- one room
pub held_room : (x : Room) → ltb 0 (holds_of x) ≡ true → is_taken x ≡ true
held_room free e = cc
held_room (taken l r n) e = refl

pub not_taken : (x : Room) → is_taken x ≡ false → x ≡ free
not_taken free e = refl
not_taken (taken l r n) e = cc

pub slot_taken : (x : Room) (s : Side) (q : Address) → slot_of x s ≡ At q → is_taken x ≡ true
slot_taken free s q e = cc
slot_taken (taken l r n) s q e = refl

-- a room of a model
pub within : (m : Model) (p : ℕ) → taken_at m p ≡ true → p < length m
within [] p e = cc
within (x ∷ m) zero e = omega arith
within (x ∷ m) (suc p) e = let h = within m p e in omega arith

pub same_room : (m : Model) (p : ℕ) (x : Room) → p < length m → room_at (set m p x) p ≡ x
same_room m p x w = get_or-set_same m p x free w

pub other_room : (m : Model) (p q : ℕ) (x : Room) → (q ≡ p → ⊥) → room_at (set m p x) q ≡ room_at m q
other_room m p q x ne = get_or-set_other m p q x free ne

pub freed_room : (m : Model) (p : ℕ) → room_at (set m p free) p ≡ free
freed_room [] p = refl
freed_room (x ∷ m) zero = refl
freed_room (x ∷ m) (suc p) = freed_room m p

pub all_free_lem : (n p : ℕ) → room_at (all_free n) p ≡ free
all_free_lem zero p = refl
all_free_lem (suc n) zero = refl
all_free_lem (suc n) (suc p) = all_free_lem n p

pub not_all_taken : (m : Model) (p : ℕ) → p < length m → room_at m p ≡ free → all_taken m ≡ false
not_all_taken [] p h t = absurd (omega arith)
not_all_taken (free ∷ m) p h t = refl
not_all_taken (taken l r n ∷ m) zero h t = cc
not_all_taken (taken l r n ∷ m) (suc p) h t = not_all_taken m p (omega arith) t

-- a property of a room that the number of holds leaves as it is
pub holds_leave : {X : Type 0} (g : Room → X) → ((x : Room) (n : ℕ) → g (with_holds x n) ≡ g x) → (m : Model) (p n q : ℕ) → g (room_at (set m p (with_holds (room_at m p) n)) q) ≡ g (room_at m q)
holds_leave g same [] p n q = refl
holds_leave g same (x ∷ m) zero n zero = same x n
holds_leave g same (x ∷ m) zero n (suc q) = refl
holds_leave g same (x ∷ m) (suc p) n zero = refl
holds_leave g same (x ∷ m) (suc p) n (suc q) = holds_leave g same m p n q

pub holds_slot : (s : Side) (x : Room) (n : ℕ) → slot_of (with_holds x n) s ≡ slot_of x s
holds_slot s free n = refl
holds_slot Left (taken l r m) n = refl
holds_slot Right (taken l r m) n = refl

pub holds_taken : (x : Room) (n : ℕ) → is_taken (with_holds x n) ≡ is_taken x
holds_taken free n = refl
holds_taken (taken l r m) n = refl

-- values and refusals
pub held_named : (m : Model) (v : Value) → names_only (held_at m) v ≡ true → names_only (taken_at m) v ≡ true
held_named m (Number z) h = refl
held_named m Nil h = refl
held_named m (At q) h = held_room (room_at m q.at) h

pub after_both : (P : Model → Type 0) (o : Option HeapRefusal) (m n : Model) → P m → P n → P (after o m n)
after_both P None m n x y = y
after_both P (Some e) m n x y = x
