-- Why the rule frees nothing that is reached, and why slots name taken places: what the laws of the heap cite. Assumes nothing.
use Rattle.std.specs.Prelude.{◌≡◌, ℕ, zero, suc, ◌<◌, Bool, true, false, cond, List, [], ◌∷◌, ◌++◌, length, ◌≢◌, nat_eq, nat_lt, slice_set, refl}
use Rattle.std.proofs.Common.{sym, ap, ◌∙◌, subst, inl, inr, arith}
use Rattle.std.proofs.Math.ListN
use Rattle.std.proofs.lemmas.Bool.Decides.{nat_tests}
use Rattle.std.proofs.lemmas.Bool.{cases_eq}
use Rattle.heap.specs.Model.{free, Model, room_at, slot_of, held_at, taken_at, is_taken, holds_of, freed}
use Rattle.heap.specs.Reach as reach
use Rattle.heap.specs.Reach.{Safe, Reached, Closed, among}
use Rattle.heap.specs.Counts.{count}
use Rattle.heap.proofs.RoomAt.{other_room}
use Rattle.heap.proofs.Counted.{slot_counted}
use Rattle.counting.specs.declared.cell.Cell.{Cell}
use Rattle.counting.specs.declared.cell.Cell.TheVariants.{Free, Taken, Dying}
use Rattle.counting.specs.Rule.{dead, last_dead, dead_in_turn, counting_rule}
use Rattle.counting.specs.Cells.{cell_at, room_of, rooms, named_of, Sound}

-- the parts of dead
pub record Dead (c : Model) (p : ℕ) : Type 0 where
  pub taken_here : taken_at c p ≡ true
  pub unheld : held_at c p ≡ false
  pub unnamed : count p c ≡ 0

pub dead_parts : (c : Model) (p : ℕ) → dead c p ≡ true → Dead c p
dead_parts c p e = record { taken_here = grind (arith, nat_tests); unheld = grind (arith, nat_tests); unnamed = grind (arith, nat_tests) }

-- the rounds
pub data Round (c : Model) (n : ℕ) : List ℕ → Type 0 where
  nothing : ((p : ℕ) → p < n → dead c p ≡ false) → Round c n []
  one : (p : ℕ) → dead c p ≡ true → Round c n (p ∷ [])

pub round : (c : Model) (n : ℕ) → Round c n (last_dead c n)
round c zero = nothing (λ p h. absurd (omega arith))
round c (suc n) = step (dead c n) refl (last_dead c n) (round c n)
  where
    step : (b : Bool) → dead c n ≡ b → (ps : List ℕ) → Round c n ps → Round c (suc n) (cond b (n ∷ []) ps)
    step true e ps r = one n e
    step false e [] (nothing f) = nothing (λ p h. elim (cases_eq p n) [ inl i ↦ ap (dead c) i ∙ e | inr ne ↦ f p (grind arith) ])
    step false e (p ∷ []) (one q d) = one q d
    step false e (p ∷ (j ∷ ps)) r = elim r [ ]

-- what is reached is not dead, and stays reached
reached_alive : (c : Model) (p : ℕ) → Reached c p → Dead c p → ⊥
reached_alive c p (reach.held q h) e = cc (sym h ∙ e.unheld)
reached_alive c p (reach.named q k s r is) e = let h = slot_counted c q s k is in let z = e.unnamed in omega arith

reached_stays : (c : Model) (q : ℕ) (p : ℕ) → Dead c q → Reached c p → Reached (slice_set c q free) p
reached_stays c q p d (reach.held j h) =
    elim (cases_eq j q) [
      | inl e ↦ absurd (reached_alive c q (subst (Reached c) e (reach.held j h)) d)
      | inr ne ↦ reach.held j (ap (λ x. nat_lt 0 (holds_of x)) (other_room c q j free ne) ∙ h)
    ]
reached_stays c q p d (reach.named j k s r is) =
    elim (cases_eq j q) [
      | inl e ↦ absurd (reached_alive c q (subst (Reached c) e r) d)
      | inr ne ↦ reach.named j k s (reached_stays c q j d r) (ap (λ x. slot_of x s) (other_room c q j free ne) ∙ is)
    ]

dead_in_turn_lost : (n : ℕ) (c : Model) (p : ℕ) → among p (dead_in_turn n c) ≡ true → Reached c p → ⊥
dead_in_turn_lost zero c p e r = cc
dead_in_turn_lost (suc n) c p e r = step (λ d. dead_in_turn_lost n d p) (last_dead c (length c)) (round c (length c)) e
  where
    step : ((d : Model) → among p (dead_in_turn n d) ≡ true → Reached d p → ⊥) → (ps : List ℕ) → Round c (length c) ps → among p (ps ++ dead_in_turn n (freed ps c)) ≢ true
    step go [] w e = go c e r
    step go (i ∷ (j ∷ ps)) w e = elim w [ ]
    step go (j ∷ []) (one q d) e =
        let k = dead_parts c q d in
        elim (cases_eq p q) [
          | inl i ↦ reached_alive c q (subst (Reached c) i r) k
          | inr ne ↦ go (slice_set c q free) (let z : nat_eq p q ≡ false = grind (arith, nat_tests) in grind (arith, nat_tests)) (reached_stays c q p k r)
        ]

pub rule_safe : Safe counting_rule
rule_safe = record {
  make = λ c p e r. cc;
  let_go = λ c p e r. dead_in_turn_lost (length c) c p e r;
  put = λ c p e r. dead_in_turn_lost (length c) c p e r;
}

-- a cell and its room
pub cell_room : (xs : List Cell) (p : ℕ) → room_at (rooms xs) p ≡ room_of (cell_at xs p)
cell_room xs p = ListN.get_or-map room_of xs p (Free 0)

pub named_taken : (x : Cell) → 0 < named_of x → is_taken (room_of x) ≡ true
named_taken (Free n) h = absurd (omega arith)
named_taken (Taken x) h = refl
named_taken (Dying l r n) h = refl

-- right counts: a place that a slot names is taken
pub sound_closed : (xs : List Cell) (f : ℕ) → Sound xs f → Closed (rooms xs)
sound_closed xs f s p side q is =
    let a = slot_counted (rooms xs) p side q is in
    let b = s.0 q.at in
    ap is_taken (cell_room xs q.at) ∙ named_taken (cell_at xs q.at) (omega arith)
