-- Without a put, slots name only older places, so nothing is left when nothing is held. Assumes nothing.
use Rattle.std.proofs.Common.{◌≡◌, ℕ, zero, suc, ◌+◌, ◌<◌, ◌≤◌, Bool, true, false, cond, not, ◌&&◌, eqb, ltb, ◌⊎◌, List, [], ◌∷◌, ◌++◌, length, set, None, Ok, Err, Option, Result, sym, refl, ap, ◌∙◌, subst, inl, inr, arith, length-set}
use lib.ListN.{length-replicate}
use Rattle.std.proofs.lemmas.Bool.Decides.{nat_tests}
use Rattle.std.proofs.lemmas.Bool.{cases_eq, cases_Bool}
use Rattle.std.proofs.lemmas.List.{ext_get_or}
use Rattle.heap.specs.declared.types.Address.{Address}
use Rattle.heap.specs.declared.types.Side.{Side}
use Rattle.heap.specs.declared.types.Side.TheVariants.{Left, Right}
use Rattle.heap.specs.declared.types.Value.{Value}
use Rattle.heap.specs.declared.types.Value.TheVariants.{At}
use Rattle.heap.specs.declared.types.HeapRefusal.{HeapRefusal}
use Rattle.heap.specs.declared.types.HeapRefusal.TheVariants.{NoHold}
use Rattle.heap.specs.Model.{free, taken, Model, all_free, room_at, slot_of, held_at, taken_at, is_taken, holds_of, with_holds, freed, names_only, refuse, MakesBy, after, hold_refusal, hold_done, let_go_refusal}
use Rattle.heap.specs.Counts.{room_names, count}
use Rattle.heap.specs.Trace.{Event, Does, by_make, by_hold, by_let_go, by_look, by_put, Trace, done, next}
use Rattle.heap.proofs.RoomAt.{slot_taken, not_taken, same_room, other_room, freed_room, all_free_lem, holds_leave, holds_slot, holds_taken, held_named, after_both}
use Rattle.heap.proofs.Counted.{count_set, holds_count, uncounted, namer}
use Rattle.counting.specs.Laws.{Dead, dead_parts, Round, one, round}
use Rattle.counting.specs.Rule.{dead, last_dead, dead_in_turn, counting_rule, is_put, no_put, Drains}
use Rattle.counting.proofs.Settle.{quiet_by, loud, rule_settles}

record Aged (c : Model) : Type 0 where
  age : ℕ → ℕ
  clock : ℕ
  young : (p : ℕ) → age p < clock
  older : (p : ℕ) (s : Side) (k : Address) → slot_of (room_at c p) s ≡ At k → (taken_at c k.at ≡ true) × (age k.at < age p)

record Fine (n : ℕ) (c : Model) : Type 0 where
  long : length c ≡ n
  aged : Aged c
  quiet : (p : ℕ) → dead c p ≡ false

-- a dead place is freed
aged_one : {c : Model} {q : ℕ} → Aged c → Dead c q → Aged (set c q free)
aged_one {c} {q} a d = record { age = a.age; clock = a.clock; young = a.young; older = λ p s k is. at p s k is (cases_eq p q) }
  where
    at : (p : ℕ) (s : Side) (k : Address) → slot_of (room_at (set c q free) p) s ≡ At k → (p ≡ q) ⊎ (p ≡ q → ⊥) → (taken_at (set c q free) k.at ≡ true) × (a.age k.at < a.age p)
    at p s k is (inl e) = cc (ap (λ x. slot_of x s) (sym (freed_room c q) ∙ ap (room_at (set c q free)) (sym e)) ∙ is)
    at p s k is (inr ne) =
        let w : slot_of (room_at c p) s ≡ At k = ap (λ x. slot_of x s) (sym (other_room c q p free ne)) ∙ is in
        let o = a.older p s k w in
        let other : k.at ≡ q → ⊥ = uncounted c q p s k d.unnamed w in
        (ap is_taken (other_room c q k.at free other) ∙ o.0, o.1)

aged_dead_in_turn : (n : ℕ) (c : Model) → Aged c → Aged (freed (dead_in_turn n c) c)
aged_dead_in_turn zero c a = a
aged_dead_in_turn (suc n) c a = step (λ d. aged_dead_in_turn n d) (last_dead c (length c)) (round c (length c))
  where
    step : ((d : Model) → Aged d → Aged (freed (dead_in_turn n d) d)) → (ps : List ℕ) → Round c (length c) ps → Aged (freed (ps ++ dead_in_turn n (freed ps c)) c)
    step go [] r = go c a
    step go (p ∷ []) (one q e) = go (set c q free) (aged_one a (dead_parts c q e))
    step go (p ∷ (j ∷ ps)) r = elim r [ ]

-- other holds leave the slots
more_held : (c : Model) (p q : ℕ) → held_at (hold_done c p) q ≡ false → held_at c q ≡ false
more_held [] p q e = e
more_held (free ∷ c) zero zero e = e
more_held (taken l r m ∷ c) zero zero e = grind (arith, nat_tests)
more_held (x ∷ c) zero (suc q) e = e
more_held (x ∷ c) (suc p) zero e = e
more_held (x ∷ c) (suc p) (suc q) e = more_held c p q e

aged_holds : (c : Model) (p n : ℕ) → Aged c → Aged (set c p (with_holds (room_at c p) n))
aged_holds c p n a = record {
  age = a.age;
  clock = a.clock;
  young = a.young;
  older = λ q s k is. let o = a.older q s k (sym (holds_leave (λ x. slot_of x s) (holds_slot s) c p n q) ∙ is) in (holds_leave is_taken holds_taken c p n k.at ∙ o.0, o.1);
}

-- a new place
names_taken : (c : Model) (v : Value) (k : Address) → names_only (held_at c) v ≡ true → v ≡ At k → taken_at c k.at ≡ true
names_taken c v k h e = sym (ap (names_only (taken_at c)) e) ∙ held_named c v h

slot_was : (c : Model) (l r : Value) (s : Side) (k : Address) → names_only (held_at c) l ≡ true → names_only (held_at c) r ≡ true → slot_of (taken l r 1) s ≡ At k → taken_at c k.at ≡ true
slot_was c l r Left k hl hr e = names_taken c l k hl e
slot_was c l r Right k hl hr e = names_taken c r k hr e

module _ (c : Model) (l r : Value) (p : ℕ) (hl : names_only (held_at c) l ≡ true) (hr : names_only (held_at c) r ≡ true) (w : p < length c) (was : room_at c p ≡ free) where
  new_room : room_at (set c p (taken l r 1)) p ≡ taken l r 1
  new_room = same_room c p (taken l r 1) w

  not_new : (j : ℕ) → taken_at c j ≡ true → j ≡ p → ⊥
  not_new j t e = cc (sym t ∙ ap (taken_at c) e ∙ ap is_taken was)

  still_taken : (j : ℕ) → taken_at c j ≡ true → taken_at (set c p (taken l r 1)) j ≡ true
  still_taken j t = ap is_taken (other_room c p j (taken l r 1) (not_new j t)) ∙ t

  aged_made : Aged c → Aged (set c p (taken l r 1))
  aged_made a = record {
    age = λ j. cond (eqb j p) a.clock (a.age j);
    clock = suc a.clock;
    young = λ j. (let y = a.young j in grind (arith, nat_tests));
    older = λ q s k is. at q s k is (cases_eq q p);
  }
    where
      at : (q : ℕ) (s : Side) (k : Address) → slot_of (room_at (set c p (taken l r 1)) q) s ≡ At k → (q ≡ p) ⊎ (q ≡ p → ⊥)
          → (taken_at (set c p (taken l r 1)) k.at ≡ true) × (cond (eqb k.at p) a.clock (a.age k.at) < cond (eqb q p) a.clock (a.age q))
      at q s k is (inl e) =
          let t = slot_was c l r s k hl hr (ap (λ x. slot_of x s) (sym new_room ∙ ap (room_at (set c p (taken l r 1))) (sym e)) ∙ is) in
          let n = not_new k.at t in
          let y = a.young k.at in
          (still_taken k.at t, grind (arith, nat_tests))
      at q s k is (inr ne) =
          let o = a.older q s k (ap (λ x. slot_of x s) (sym (other_room c p q (taken l r 1) ne)) ∙ is) in
          let n = not_new k.at o.0 in
          let m = o.1 in
          (still_taken k.at o.0, grind (arith, nat_tests))

  quiet_made : ((j : ℕ) → dead c j ≡ false) → (j : ℕ) → dead (set c p (taken l r 1)) j ≡ false
  quiet_made f j = quiet_by (set c p (taken l r 1)) j (λ d. at d (cases_eq j p))
    where
      at : Dead (set c p (taken l r 1)) j → (j ≡ p) ⊎ (j ≡ p → ⊥) → ⊥
      at d (inl e) = cc (sym (ap (held_at (set c p (taken l r 1))) e ∙ ap (λ x. ltb 0 (holds_of x)) new_room) ∙ d.unheld)
      at d (inr ne) =
          let o = other_room c p j (taken l r 1) ne in
          let m = count_set j c p (taken l r 1) w in
          let z : room_names j (room_at c p) ≡ 0 = ap (room_names j) was in
          let u = d.unnamed in
          loud c j (f j) (record { taken_here = ap is_taken (sym o) ∙ d.taken_here; unheld = ap (λ x. ltb 0 (holds_of x)) (sym o) ∙ d.unheld; unnamed = omega arith })

-- each call keeps it
fine_hold : {n : ℕ} {c : Model} (p : ℕ) → Fine n c → Fine n (after (hold_refusal c p) c (hold_done c p))
fine_hold {n} {c} p f = after_both (Fine n) (hold_refusal c p) c _ f (record {
  long = length-set c p _ ∙ f.long;
  aged = aged_holds c p _ f.aged;
  quiet = λ q. quiet_by _ q (λ d. loud c q (f.quiet q) (record {
    taken_here = sym (holds_leave is_taken holds_taken c p _ q) ∙ d.taken_here;
    unheld = more_held c p q d.unheld;
    unnamed = sym (holds_count q c p _) ∙ d.unnamed;
  }));
})

fine_rule : {n : ℕ} (c : Model) → length c ≡ n → Aged c → Fine n (freed (dead_in_turn (length c) c) c)
fine_rule c e a = let s = rule_settles c in record { long = s.frees.long ∙ e; aged = aged_dead_in_turn (length c) c a; quiet = s.none_dead }

not_refused : (b : Bool) (x : HeapRefusal) (o : Option HeapRefusal) → refuse (not b) x o ≡ None → b ≡ true
not_refused true x o e = refl
not_refused false x o e = cc

fine_made : {n : ℕ} {c d : Model} (l r : Value) (a : Result Address HeapRefusal) → Fine n c → MakesBy counting_rule c l r a d → Fine n d
fine_made {n} {c} {d} l r (Ok p) f m =
    let h = not_refused (names_only (held_at c) l && names_only (held_at c) r) NoHold _ m.0 in
    let hl : names_only (held_at c) l ≡ true = grind (arith, nat_tests) in
    let hr : names_only (held_at c) r ≡ true = grind (arith, nat_tests) in
    let t = m.1 in
    subst (Fine n) (sym t.now) (record {
      long = length-set c p.at (taken l r 1) ∙ f.long;
      aged = aged_made c l r p.at hl hr t.within t.was f.aged;
      quiet = quiet_made c l r p.at hl hr t.within t.was f.quiet;
    })
fine_made {n} l r (Err e) f m = subst (Fine n) (sym m.1) f

fine_new : (n : ℕ) → Fine n (all_free n)
fine_new n = record {
  long = length-replicate n free;
  aged = record { age = λ p. 0; clock = 1; young = λ p. omega arith; older = λ p s k is. cc (ap (λ x. slot_of x s) (sym (all_free_lem n p)) ∙ is) };
  quiet = λ p. quiet_by _ p (λ d. cc (sym d.taken_here ∙ ap is_taken (all_free_lem n p)));
}

fine_does : {n : ℕ} {c d : Model} {e : Event} → Fine n c → Does counting_rule c e d → is_put e ≡ false → Fine n d
fine_does f (by_make {l = l} {r = r} {a = a} s) e = fine_made l r a f s.by
fine_does {n} f (by_hold {p = p} s) e = subst (Fine n) (sym s.leaves) (fine_hold p.at f)
fine_does {n} {c} f (by_let_go {p = p} s) e =
    subst (Fine n) (sym s.leaves) (after_both (Fine n) (let_go_refusal c p.at) c _ f (fine_rule _ (length-set c p.at _ ∙ f.long) (aged_holds c p.at _ f.aged)))
fine_does f (by_look s) e = f
fine_does f (by_put s) e = cc

fine_trace : {n : ℕ} {c d : Model} {es : List Event} → Fine n c → Trace counting_rule c es d → no_put es ≡ true → Fine n d
fine_trace f done h = f
fine_trace f (next {e = e} {es = es} s t) h =
    let one : is_put e ≡ false = grind (arith, nat_tests) in
    let rest : no_put es ≡ true = grind (arith, nat_tests) in
    fine_trace (fine_does f s one) t rest

-- a taken place that is not held is named by a younger one, and so on up
climbs : (c : Model) (a : Aged c) → ((p : ℕ) → dead c p ≡ false) → ((p : ℕ) → held_at c p ≡ false) → (n p : ℕ) → a.clock ≤ a.age p + n → taken_at c p ≡ true → ⊥
climbs c a quiet unheld zero p h t = let y = a.young p in omega arith
climbs c a quiet unheld (suc n) p h t =
    elim (cases_eq (count p c) 0) [
      | inl e ↦ loud c p (quiet p) (record { taken_here = t; unheld = unheld p; unnamed = e })
      | inr ne ↦ (
          let k = namer p c (grind arith) in
          let o = (a.older k.from k.side k.place k.is).1 in
          let i : a.age k.place.at ≡ a.age p = ap a.age k.at in
          climbs c a quiet unheld n k.from (omega arith) (slot_taken _ k.side k.place k.is))
    ]

pub drains : Drains
drains n es d t e unheld =
    let f = fine_trace (fine_new n) t e in
    let a = f.aged in
    ext_get_or free d (all_free n) (f.long ∙ sym (length-replicate n free)) (λ p _.
    elim (cases_Bool (taken_at d p)) [
      | inl k ↦ absurd (climbs d a f.quiet unheld a.clock p (omega arith) k)
      | inr k ↦ not_taken _ k ∙ sym (all_free_lem n p)
    ])
