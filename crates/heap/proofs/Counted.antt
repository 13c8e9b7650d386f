-- How often places are named. Assumes nothing.
use Rattle.std.proofs.Common.{◌≡◌, ℕ, zero, suc, ◌+◌, ◌*◌, ◌<◌, ◌≤◌, List, [], ◌∷◌, length, set, refl, ap, ◌∙◌, inl, inr, arith}
use Rattle.std.proofs.lemmas.Bool.Decides.{nat_tests}
use Rattle.std.proofs.lemmas.Bool.{cases_eq}
use Rattle.heap.specs.declared.types.Address.{Address}
use Rattle.heap.specs.declared.types.Side.{Side}
use Rattle.heap.specs.declared.types.Side.TheVariants.{Left, Right}
use Rattle.heap.specs.declared.types.Value.{Value}
use Rattle.heap.specs.declared.types.Value.TheVariants.{Number, Nil, At}
use Rattle.heap.specs.Model.{Room, free, taken, Model, all_free, room_at, slot_of, with_holds}
use Rattle.heap.specs.Counts.{names, namings, room_names, count}

pub names_self : (q : Address) → names q.at (At q) ≡ 1
names_self q = grind (arith, nat_tests)

pub names_other : (p : ℕ) (q : Address) → (p ≡ q.at → ⊥) → names p (At q) ≡ 0
names_other p q ne = grind (arith, nat_tests)

pub names_few : (p : ℕ) (v : Value) → names p v ≤ 1
names_few p (Number z) = omega arith
names_few p Nil = omega arith
names_few p (At q) = grind (arith, nat_tests)

pub namings_few : (p : ℕ) (vs : List Value) → namings p vs ≤ length vs
namings_few p [] = omega arith
namings_few p (v ∷ vs) = let a = namings_few p vs in let b = names_few p v in omega arith

room_few : (p : ℕ) (x : Room) → room_names p x ≤ 2
room_few p free = omega arith
room_few p (taken l r n) = let a = names_few p l in let b = names_few p r in omega arith

-- two slots to a place
pub count_few : (p : ℕ) (m : Model) → count p m ≤ 2 * length m
count_few p [] = omega arith
count_few p (x ∷ m) = let a = count_few p m in let b = room_few p x in omega arith

pub count_none : (p n : ℕ) → count p (all_free n) ≡ 0
count_none p zero = refl
count_none p (suc n) = let h = count_none p n in omega arith

-- one room is written
pub count_set : (p : ℕ) (m : Model) (i : ℕ) (x : Room) → i < length m → count p (set m i x) + room_names p (room_at m i) ≡ count p m + room_names p x
count_set p [] i x h = absurd (omega arith)
count_set p (y ∷ m) zero x h = omega arith
count_set p (y ∷ m) (suc i) x h = let r = count_set p m i x (omega arith) in omega arith

pub freed_count : (p : ℕ) (m : Model) (i : ℕ) → count p (set m i free) ≤ count p m
freed_count p [] i = omega arith
freed_count p (x ∷ m) zero = omega arith
freed_count p (x ∷ m) (suc i) = let r = freed_count p m i in omega arith

pub holds_count : (p : ℕ) (m : Model) (i n : ℕ) → count p (set m i (with_holds (room_at m i) n)) ≡ count p m
holds_count p [] i n = refl
holds_count p (free ∷ m) zero n = refl
holds_count p (taken l r k ∷ m) zero n = refl
holds_count p (x ∷ m) (suc i) n = ap (λ k. room_names p x + k) (holds_count p m i n)

-- a slot that names a place is counted
room_counted : (x : Room) (s : Side) (q : Address) → slot_of x s ≡ At q → 0 < room_names q.at x
room_counted free s q e = cc
room_counted (taken l r n) Left q e = let h : names q.at l ≡ 1 = ap (names q.at) e ∙ names_self q in omega arith
room_counted (taken l r n) Right q e = let h : names q.at r ≡ 1 = ap (names q.at) e ∙ names_self q in omega arith

pub slot_counted : (m : Model) (p : ℕ) (s : Side) (q : Address) → slot_of (room_at m p) s ≡ At q → 0 < count q.at m
slot_counted [] p s q e = cc
slot_counted (x ∷ m) zero s q e = let h = room_counted x s q e in omega arith
slot_counted (x ∷ m) (suc p) s q e = let h = slot_counted m p s q e in omega arith

-- where nothing is counted, no slot names the place
pub uncounted : (m : Model) (p i : ℕ) (s : Side) (q : Address) → count p m ≡ 0 → slot_of (room_at m i) s ≡ At q → q.at ≡ p → ⊥
uncounted m p i s q z e at = let h = slot_counted m i s q e in let k : count q.at m ≡ 0 = ap (λ j. count j m) at ∙ z in omega arith

-- what is counted is a slot
pub record Namer (m : Model) (p : ℕ) : Type 0 where
  pub from : ℕ
  pub side : Side
  pub place : Address
  pub is : slot_of (room_at m from) side ≡ At place
  pub at : place.at ≡ p

value_names : (p : ℕ) (v : Value) → 0 < names p v → (q : Address) × (v ≡ At q) × (q.at ≡ p)
value_names p (Number z) h = absurd (omega arith)
value_names p Nil h = absurd (omega arith)
value_names p (At q) h = (q, refl, grind (arith, nat_tests))

room_namer : (p : ℕ) (x : Room) (m : Model) → 0 < room_names p x → Namer (x ∷ m) p
room_namer p free m h = absurd (omega arith)
room_namer p (taken l r n) m h =
    elim (cases_eq (names p l) 0) [
      | inl e ↦ let k = value_names p r (omega arith) in record { from = 0; side = Right; place = k.0; is = k.1; at = k.2 }
      | inr e ↦ let k = value_names p l (grind arith) in record { from = 0; side = Left; place = k.0; is = k.1; at = k.2 }
    ]

pub namer : (p : ℕ) (m : Model) → 0 < count p m → Namer m p
namer p [] h = absurd (omega arith)
namer p (x ∷ m) h =
    elim (cases_eq (room_names p x) 0) [
      | inl e ↦ let k = namer p m (omega arith) in record { from = suc k.from; side = k.side; place = k.place; is = k.is; at = k.at }
      | inr e ↦ room_namer p x m (grind arith)
    ]
