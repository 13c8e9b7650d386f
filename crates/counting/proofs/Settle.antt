-- What the rule leaves is what every order of freeing leaves. Assumes nothing.
use Rattle.std.specs.Prelude.{◌≡◌, ℕ, zero, suc, ◌<◌, ◌≤◌, Bool, true, false, ◌⊎◌, List, [], ◌∷◌, ◌++◌, length, ◌≢◌, nat_lt, slice_set, refl}
use Rattle.std.proofs.Common.{sym, ap, ◌∙◌, inl, inr, arith, length-set}
use Rattle.std.proofs.lemmas.Bool.Decides.{nat_tests}
use Rattle.std.proofs.lemmas.Bool.{cases_eq, cases_Bool}
use Rattle.std.proofs.lemmas.List.{ext_get_or}
use Rattle.heap.specs.declared.types.Value.TheVariants.{At}
use Rattle.heap.specs.Model.{free, taken, Model, room_at, slot_of, held_at, taken_at, is_taken, holds_of, freed}
use Rattle.heap.specs.Counts.{count}
use Rattle.heap.proofs.RoomAt.{within, slot_taken, not_taken, other_room, freed_room}
use Rattle.heap.proofs.Counted.{uncounted, namer}
use Rattle.counting.specs.Laws.{Dead, dead_parts, Round, nothing, one, round}
use Rattle.counting.specs.Rule.{dead, last_dead, dead_in_turn, Backed, by_hold, by_slot, Upheld, Frees, Settles, RuleSettles, OneResult}

dead_from : (c : Model) (p : ℕ) → Dead c p → dead c p ≡ true
dead_from c p h = let a = h.taken_here in let b = h.unheld in let u = h.unnamed in grind (arith, nat_tests)

pub quiet_by : (c : Model) (p : ℕ) → (Dead c p → ⊥) → dead c p ≡ false
quiet_by c p f = elim (cases_Bool (dead c p)) [ inl e ↦ absurd (f (dead_parts c p e)) | inr e ↦ e ]

pub loud : (c : Model) (p : ℕ) → dead c p ≡ false → Dead c p → ⊥
loud c p e d = cc (sym (dead_from c p d) ∙ e)

pub frees_none : (c : Model) → Frees c c
frees_none c = record { long = refl; same = λ p t. refl; keeps = λ S u p e. u.taken p e }

-- a place that is dead in d is in no set of c that upholds itself
apart : {c d : Model} {p : ℕ} → Frees c d → Dead d p → (S : ℕ → Bool) → Upheld c S → S p ≢ true
apart {c} {d} {p} f h S u e = by (u.backed p e)
  where
    by : Backed c S p → ⊥
    by (by_hold k) =
        let s : held_at d p ≡ held_at c p = ap (λ x. nat_lt 0 (holds_of x)) (f.same p (f.keeps S u p e)) in
        cc (sym (s ∙ k) ∙ h.unheld)
    by (by_slot q s k i is at) =
        let w : slot_of (room_at d q) s ≡ At k = ap (λ x. slot_of x s) (f.same q (f.keeps S u q i)) ∙ is in
        uncounted d p q s k h.unnamed w at

pub frees_one : {c d : Model} {p : ℕ} → Frees c d → Dead d p → Frees c (slice_set d p free)
frees_one {c} {d} {p} f h = record {
  long = length-set d p free ∙ f.long;
  same = λ q t. elim (cases_eq q p) [
    | inl e ↦ cc (sym t ∙ ap (λ i. taken_at (slice_set d p free) i) e ∙ ap is_taken (freed_room d p))
    | inr ne ↦ other_room d p q free ne ∙ f.same q (ap is_taken (sym (other_room d p q free ne)) ∙ t)
  ];
  keeps = λ S u q i. elim (cases_eq q p) [
    | inl e ↦ absurd (apart f h S u (ap S (sym e) ∙ i))
    | inr ne ↦ ap is_taken (other_room d p q free ne) ∙ f.keeps S u q i
  ];
}

-- what is left upholds itself
pub left_upheld : {c d : Model} → Frees c d → ((p : ℕ) → dead d p ≡ false) → Upheld c (taken_at d)
left_upheld {c} {d} f none = record { taken = λ p t. ap is_taken (sym (f.same p t)) ∙ t; backed = λ p t. why p t (cases_Bool (held_at d p)) (cases_eq (count p d) 0) }
  where
    why : (p : ℕ) → taken_at d p ≡ true → (held_at d p ≡ true) ⊎ (held_at d p ≡ false) → (count p d ≡ 0) ⊎ (count p d ≢ 0) → Backed c (taken_at d) p
    why p t (inl h) n = by_hold (ap (λ x. nat_lt 0 (holds_of x)) (sym (f.same p t)) ∙ h)
    why p t (inr h) (inl e) = absurd (loud d p (none p) (record { taken_here = t; unheld = h; unnamed = e }))
    why p t (inr h) (inr n) =
        let k = namer p d (grind arith) in
        let w = slot_taken (room_at d k.from) k.side k.place k.is in
        by_slot k.from k.side k.place w (ap (λ x. slot_of x k.side) (sym (f.same k.from w)) ∙ k.is) k.at

pub one_result : OneResult
one_result c d e s t = ext_get_or free d e (s.frees.long ∙ sym t.frees.long) (λ p _. at p (cases_Bool (taken_at d p)) (cases_Bool (taken_at e p)))
  where
    at : (p : ℕ) → (taken_at d p ≡ true) ⊎ (taken_at d p ≡ false) → (taken_at e p ≡ true) ⊎ (taken_at e p ≡ false) → room_at d p ≡ room_at e p
    at p (inl a) (inl b) = s.frees.same p a ∙ sym (t.frees.same p b)
    at p (inl a) (inr b) = cc (sym (t.frees.keeps (taken_at d) (left_upheld s.frees s.none_dead) p a) ∙ b)
    at p (inr a) (inl b) = cc (sym (s.frees.keeps (taken_at e) (left_upheld t.frees t.none_dead) p b) ∙ a)
    at p (inr a) (inr b) = not_taken _ a ∙ sym (not_taken _ b)

abbrev pub takens : Model → ℕ
takens [] = 0
takens (free ∷ c) = takens c
takens (taken l r n ∷ c) = suc (takens c)

pub takens_few : (c : Model) → takens c ≤ length c
takens_few [] = omega arith
takens_few (free ∷ c) = let h = takens_few c in omega arith
takens_few (taken l r n ∷ c) = let h = takens_few c in omega arith

pub takens_fall : (c : Model) (p : ℕ) → taken_at c p ≡ true → suc (takens (slice_set c p free)) ≡ takens c
takens_fall [] p e = cc
takens_fall (free ∷ c) zero e = cc
takens_fall (taken l r n ∷ c) zero e = refl
takens_fall (free ∷ c) (suc p) e = takens_fall c p e
takens_fall (taken l r n ∷ c) (suc p) e = ap suc (takens_fall c p e)

pub takens_none : (c : Model) (p : ℕ) → takens c ≡ 0 → taken_at c p ≡ false
takens_none [] p e = refl
takens_none (free ∷ c) zero e = refl
takens_none (free ∷ c) (suc p) e = takens_none c p e
takens_none (taken l r n ∷ c) p e = absurd (omega arith)

-- a dead place is within the list
all_quiet : (c : Model) → ((p : ℕ) → p < length c → dead c p ≡ false) → (p : ℕ) → dead c p ≡ false
all_quiet c f p = elim (cases_Bool (dead c p)) [ inl e ↦ f p (within c p (dead_parts c p e).taken_here) | inr e ↦ e ]

still : (n : ℕ) (c : Model) → ((p : ℕ) → dead c p ≡ false) → dead_in_turn n c ≡ []
still zero c f = refl
still (suc n) c f = step (still n c f) (last_dead c (length c)) (round c (length c))
  where
    step : dead_in_turn n c ≡ [] → (ps : List ℕ) → Round c (length c) ps → ps ++ dead_in_turn n (freed ps c) ≡ []
    step go [] r = go
    step go (p ∷ []) (one q d) = cc (sym d ∙ f q)
    step go (p ∷ (j ∷ ps)) r = elim r [ ]

pub rounds_settle : (n : ℕ) (c d : Model) → Frees c d → takens d ≤ n → Settles c (freed (dead_in_turn n d) d)
rounds_settle zero c d f h = record { frees = f; none_dead = λ p. let t = takens_none d p (omega arith) in grind (arith, nat_tests) }
rounds_settle (suc n) c d f h = step (λ e. rounds_settle n c e) (last_dead d (length d)) (round d (length d))
  where
    step : ((e : Model) → Frees c e → takens e ≤ n → Settles c (freed (dead_in_turn n e) e)) → (ps : List ℕ) → Round d (length d) ps → Settles c (freed (ps ++ dead_in_turn n (freed ps d)) d)
    step go [] (nothing g) = let quiet = all_quiet d g in rw (still n d quiet) (record { frees = f; none_dead = quiet })
    step go (p ∷ []) (one q e) =
        let k = dead_parts d q e in
        let t = takens_fall d q k.taken_here in
        go (slice_set d q free) (frees_one f k) (omega arith)
    step go (p ∷ (j ∷ ps)) r = elim r [ ]

pub rule_settles : RuleSettles
rule_settles c = rounds_settle (length c) c c (frees_none c) (takens_few c)
