-- The steps of a call on the cells. Assumes nothing.
use Rattle.std.specs.Prelude.{◌≡◌, ℕ, suc, ◌+◌, ◌-◌, ◌<◌, ◌≤◌, Bool, true, false, cond, List, [], ◌∷◌, map, length, set, Some, None, ◌≢◌, nat_lt, slice_index_or, slice_set, refl}
use Rattle.std.proofs.Common.{sym, ap, ◌∙◌, subst, arith}
use Rattle.std.proofs.lemmas.Bool.Decides.{nat_tests}
use Rattle.std.proofs.lemmas.List.{set-get_or, length-map, map-set}
use Rattle.heap.specs.declared.types.Address.{Address}
use Rattle.heap.specs.declared.types.Side.{Side}
use Rattle.heap.specs.declared.types.Side.TheVariants.{Left, Right}
use Rattle.heap.specs.declared.types.Value.{Value}
use Rattle.heap.specs.declared.types.Value.TheVariants.{Number, Nil, At}
use Rattle.heap.specs.Model.{free, taken, Model, room_at, slot_of, with_slot, written, taken_at, is_taken, holds_of, names_only}
use Rattle.heap.specs.Counts.{names, room_names, count}
use Rattle.heap.proofs.Counted.{names_self, namings_few, count_few}
use Rattle.counting.specs.Laws.{Dead, cell_room, named_taken}
use Rattle.counting.specs.declared.cell.Cell.{Cell}
use Rattle.counting.specs.declared.cell.Cell.TheVariants.{Free, Taken, Dying}
use Rattle.counting.specs.declared.cell.Pair.{Pair}
use Rattle.counting.specs.Rule.{Frees, Settles}
use Rattle.counting.specs.Chain.{links, Linked}
use Rattle.counting.specs.Cells.{cell_at, room_of, rooms, named_of, next_free, next_dying, quiet, Sound}
use Rattle.counting.specs.Work.{quiet_or_dying, Owing, Working, Settled, with_holds, with_named, raise_cell, raised, last_name, lower_cell, lowered, lower_head, lowered_head, with_slot_of, named_by, is_at}
use Rattle.counting.proofs.Settle.{quiet_by, frees_none, frees_one, takens, takens_fall}
use Rattle.counting.proofs.Chains.{no_links, linked_none, ends}
use Rattle.counting.proofs.Seen.{inside, dying_at, free_at, every_set, same_at, map_same, count_cell, less_at, more_at, linked_pop, linked_push, linked_same, some_free, free_within}

-- the first of the dying is freed, and its slots are owed
work_drop : {c : Model} {xs : List Cell} {f d n : ℕ} {l r : Value} → Working c xs f d [] → cell_at xs d ≡ Dying l r n → Working c (slice_set xs d (Free f)) d n (l ∷ (r ∷ []))
work_drop {c} {xs} {f} {d} {n} {l} {r} w is =
    let in_range = inside xs d (ap (λ x. is_taken (room_of x)) is) in
    let is_dead : Dead (rooms xs) d = record {
      taken_here = ap is_taken (cell_room xs d) ∙ ap (λ x. is_taken (room_of x)) is;
      unheld = ap (λ x. nat_lt 0 (holds_of x)) (cell_room xs d ∙ ap room_of is);
      unnamed = (let a = w.counted d in let b : named_of (cell_at xs d) ≡ 0 = ap named_of is in omega arith);
    } in
    record {
      counted = λ p. (
          let a : named_of (cell_at (slice_set xs d (Free f)) p) ≡ named_of (cell_at xs p) = same_at named_of xs d (Free f) (sym (ap named_of is)) p in
          let b = w.counted p in
          let e = count_cell p xs d (Free f) in_range in
          let g : room_names p (room_of (cell_at xs d)) ≡ names p l + names p r = ap (λ x. room_names p (room_of x)) is in
          omega arith);
      alive = every_set quiet_or_dying xs d (Free f) refl w.alive;
      dyings = linked_pop next_dying xs (Free f) (dying_at xs d ∙ ap next_dying is) refl w.dyings;
      free = linked_push next_free xs d (Free f) in_range (free_at xs d in_range ∙ ap next_free is) refl w.free;
      frees = subst (Frees c) (sym (map-set room_of xs d (Free f))) (frees_one w.frees is_dead);
    }

-- what is owed is counted
pub owed_named : {c : Model} {xs : List Cell} {f d : ℕ} {v : Value} {os : List Value} → Working c xs f d (v ∷ os) → is_at v ≡ true → 0 < named_by v xs
owed_named {v = Number z} w e = cc
owed_named {v = Nil} w e = cc
owed_named {v = At q} w e = let a = w.counted q.at in let b = names_self q in omega arith

-- one slot less names q: its cell x then, and the first dying place e
record Lower (xs : List Cell) (d : ℕ) (q : Address) (x : Cell) (e : ℕ) : Type 0 where
  less : named_of x + 1 ≡ named_of (cell_at xs q.at)
  lives : quiet_or_dying x ≡ true
  room : room_of x ≡ room_of (cell_at xs q.at)
  chain : Linked (map next_dying xs) d → Linked (map next_dying (slice_set xs q.at x)) e
  apart : next_free x ≡ next_free (cell_at xs q.at)

lower_cell_lem : (xs : List Cell) (d : ℕ) (q : Address) (x : Cell) → q.at < length xs → 0 < named_of (cell_at xs q.at) → cell_at xs q.at ≡ x → Lower xs d q (lower_cell d x) (lower_head q.at d x)
lower_cell_lem xs d q (Free n) w h is = let z : named_of (cell_at xs q.at) ≡ 0 = ap named_of is in absurd (omega arith)
lower_cell_lem xs d q (Dying l r n) w h is = let z : named_of (cell_at xs q.at) ≡ 0 = ap named_of is in absurd (omega arith)
lower_cell_lem xs d q (Taken x) w h is = by (last_name x) refl
  where
    by : (t : Bool) → last_name x ≡ t → Lower xs d q (cond t (Dying x.left x.right d) (with_named x (x.named - 1))) (cond t q.at d)
    by true t =
        let n0 : x.holds ≡ 0 = grind (arith, nat_tests) in
        let k1 : x.named ≡ 1 = grind (arith, nat_tests) in
        record {
          less = sym (ap named_of is ∙ k1);
          lives = refl;
          room = ap (taken x.left x.right) (sym n0) ∙ sym (ap room_of is);
          chain = λ c. linked_push next_dying xs q.at (Dying x.left x.right d) w (dying_at xs q.at ∙ ap next_dying is) refl c;
          apart = sym (ap next_free is);
        }
    by false t =
        let z : named_of (cell_at xs q.at) ≡ x.named = ap named_of is in
        let m : 0 < x.named = omega arith in
        record {
          less = omega arith;
          lives = grind (arith, nat_tests);
          room = sym (ap room_of is);
          chain = λ c. linked_same next_dying xs q.at (with_named x (x.named - 1)) (sym (ap next_dying is)) c;
          apart = sym (ap next_free is);
        }

work_lower : {c : Model} {xs : List Cell} {f d : ℕ} {os : List Value} (v : Value) → Working c xs f d (v ∷ os) → Working c (lowered v d xs) f (lowered_head v d xs) os
work_lower (Number z) w = record { counted = λ p. (let a = w.counted p in omega arith); alive = w.alive; dyings = w.dyings; free = w.free; frees = w.frees }
work_lower Nil w = record { counted = λ p. (let a = w.counted p in omega arith); alive = w.alive; dyings = w.dyings; free = w.free; frees = w.frees }
work_lower {c} {xs} {f} {d} {os} (At q) w =
    let h : 0 < named_of (cell_at xs q.at) = owed_named w refl in
    let in_range = inside xs q.at (named_taken (cell_at xs q.at) h) in
    let x = lower_cell d (cell_at xs q.at) in
    let k = lower_cell_lem xs d q (cell_at xs q.at) in_range h refl in
    let same = map_same room_of xs q.at x k.room in
    record {
      counted = λ p. (
          let a = less_at xs q x in_range k.less p in
          let b = w.counted p in
          let e : count p (rooms (slice_set xs q.at x)) ≡ count p (rooms xs) = ap (count p) same in
          omega arith);
      alive = every_set quiet_or_dying xs q.at x k.lives w.alive;
      dyings = k.chain w.dyings;
      free = linked_same next_free xs q.at x k.apart w.free;
      frees = subst (Frees c) (sym same) w.frees;
    }

-- a sound list of cells has no dead place
quiet_alive : (c : Model) (p : ℕ) (x : Cell) → room_at c p ≡ room_of x → named_of x ≡ count p c → quiet x ≡ true → Dead c p → ⊥
quiet_alive c p (Free n) r m e d = cc (sym d.taken_here ∙ ap is_taken r)
quiet_alive c p (Taken x) r m e d =
    let a : nat_lt 0 x.holds ≡ false = sym (ap (λ y. nat_lt 0 (holds_of y)) r) ∙ d.unheld in
    let b = d.unnamed in
    grind (arith, nat_tests)
quiet_alive c p (Dying l s n) r m e d = cc

sound_settles : (xs : List Cell) (f : ℕ) → Sound xs f → Settles (rooms xs) (rooms xs)
sound_settles xs f s = record { frees = frees_none (rooms xs); none_dead = λ p. quiet_by (rooms xs) p (quiet_alive (rooms xs) p (cell_at xs p) (cell_room xs p) (s.0 p) (s.1 p)) }

dying_or_quiet : (x : Cell) → quiet_or_dying x ≡ true → next_dying x ≡ None → quiet x ≡ true
dying_or_quiet (Free n) b e = refl
dying_or_quiet (Taken x) b e = b
dying_or_quiet (Dying l r n) b e = cc

quiet_or_dying_lem : (x : Cell) → quiet x ≡ true → quiet_or_dying x ≡ true
quiet_or_dying_lem (Free n) b = refl
quiet_or_dying_lem (Taken x) b = b
quiet_or_dying_lem (Dying l r n) b = refl

-- the end: no place is dying
pub work_end : {c : Model} {xs : List Cell} {f d : ℕ} → Working c xs f d [] → next_dying (cell_at xs d) ≡ None → Settled c xs f
work_end {c} {xs} {f} {d} w e =
    let none = ends (dying_at xs d ∙ e) w.dyings in
    let s : Sound xs f = (
      (λ p. (let a = w.counted p in omega arith)),
      (λ p. dying_or_quiet (cell_at xs p) (w.alive p) (sym (dying_at xs p) ∙ no_links (map next_dying xs) p none)),
      w.free.all,
    ) in
    record { settles = record { frees = w.frees; none_dead = (sound_settles xs f s).none_dead }; sound = s }

-- the measure
lower_room : (d : ℕ) (x : Cell) → room_of (lower_cell d x) ≡ room_of x
lower_room d (Free n) = refl
lower_room d (Dying l r n) = refl
lower_room d (Taken x) = by (last_name x) refl
  where
    by : (t : Bool) → last_name x ≡ t → room_of (cond t (Dying x.left x.right d) (with_named x (x.named - 1))) ≡ taken x.left x.right x.holds
    by true t = let n0 : x.holds ≡ 0 = grind (arith, nat_tests) in ap (taken x.left x.right) (sym n0)
    by false t = refl

pub lowered_rooms : (v : Value) (d : ℕ) (xs : List Cell) → rooms (lowered v d xs) ≡ rooms xs
lowered_rooms (Number z) d xs = refl
lowered_rooms Nil d xs = refl
lowered_rooms (At q) d xs = map_same room_of xs q.at (lower_cell d (cell_at xs q.at)) (lower_room d (cell_at xs q.at))

pub turn_falls : (xs : List Cell) (d f : ℕ) {n : ℕ} {l r : Value} (ys zs us : List Cell) (e : ℕ) → Dying l r n ≡ cell_at xs d → ys ≡ slice_set xs d (Free f) → zs ≡ lowered l n ys → us ≡ lowered r e zs → takens (rooms us) < takens (rooms xs)
turn_falls xs d f {n} {l} {r} ys zs us e is i j k =
    let m = takens_fall (rooms xs) d (ap is_taken (cell_room xs d) ∙ sym (ap (λ x. is_taken (room_of x)) is)) in
    let t : takens (rooms us) ≡ takens (slice_set (rooms xs) d free) =
    ap takens (ap rooms k ∙ lowered_rooms r e zs ∙ ap rooms j ∙ lowered_rooms l n ys ∙ ap rooms i ∙ map-set room_of xs d (Free f)) in
    omega arith

-- the same, as the code's steps tell them
pub work_dropped : {c : Model} {xs ys : List Cell} {f d n : ℕ} {l r : Value} → Working c xs f d [] → Dying l r n ≡ cell_at xs d → ys ≡ slice_set xs d (Free f) → Working c ys d n (l ∷ (r ∷ []))
work_dropped {c} {d = d} {n = n} {l = l} {r = r} w is e = subst (λ zs. Working c zs d n (l ∷ (r ∷ []))) (sym e) (work_drop w (sym is))

pub work_lowered : {c : Model} {xs ys : List Cell} {f d e : ℕ} {v : Value} {os : List Value} → Working c xs f d (v ∷ os) → ys ≡ lowered v d xs → e ≡ lowered_head v d xs → Working c ys f e os
work_lowered {c} {xs} {f = f} {d = d} {e = e} {v = v} {os = os} w i j = subst (λ zs. Working c zs f e os) (sym i) (subst (λ h. Working c (lowered v d xs) f h os) (sym j) (work_lower v w))

-- a cell that is not taken is left as it is
abbrev pub NotTaken : Cell → Type 0
NotTaken x = (y : Pair) → x ≢ Taken y

slot_other : (x : Cell) (s : Side) (v : Value) → NotTaken x → with_slot_of x s v ≡ x
slot_other (Free n) s v h = refl
slot_other (Taken x) s v h = absurd (h x refl)
slot_other (Dying l r n) s v h = refl

raise_other : (x : Cell) → NotTaken x → raise_cell x ≡ x
raise_other (Free n) h = refl
raise_other (Taken x) h = absurd (h x refl)
raise_other (Dying l r n) h = refl

pub left_alone : (g : Cell → Cell) (xs : List Cell) (p : ℕ) (x : Cell) → x ≡ cell_at xs p → g x ≡ x → xs ≡ slice_set xs p (g (cell_at xs p))
left_alone g xs p x e same = sym (ap (set xs p) (ap g (sym e) ∙ same ∙ e) ∙ set-get_or xs p (Free 0))

pub slot_left : (xs : List Cell) (p : ℕ) (x : Cell) (s : Side) (v : Value) → NotTaken x → x ≡ cell_at xs p → xs ≡ slice_set xs p (with_slot_of (cell_at xs p) s v)
slot_left xs p x s v h e = left_alone (λ y. with_slot_of y s v) xs p x e (slot_other x s v h)

pub raise_left : (xs : List Cell) (v : Value) (q : Address) (x : Cell) → v ≡ At q → NotTaken x → x ≡ cell_at xs q.at → xs ≡ raised v xs
raise_left xs v q x i h e = left_alone raise_cell xs q.at x e (raise_other x h) ∙ sym (ap (λ u. raised u xs) i)

-- sound cells, and what is owed while slots change
pub owing_none : (xs : List Cell) (f : ℕ) → Sound xs f → Owing xs f []
owing_none xs f s = record { counted = λ p. (let a = s.0 p in omega arith); still = s.1; free = record { all = s.2 } }

quiet_links : (xs : List Cell) → ((p : ℕ) → quiet (cell_at xs p) ≡ true) → links (map next_dying xs) ≡ 0
quiet_links [] f = refl
quiet_links (Free n ∷ xs) f = quiet_links xs (λ p. f (suc p))
quiet_links (Taken x ∷ xs) f = quiet_links xs (λ p. f (suc p))
quiet_links (Dying l r n ∷ xs) f = cc (sym (f 0))

pub work_owing : {xs : List Cell} {f : ℕ} {os : List Value} (d : ℕ) → Owing xs f os → Working (rooms xs) xs f d os
work_owing {xs} d o = record {
  counted = o.counted;
  alive = λ p. quiet_or_dying_lem (cell_at xs p) (o.still p);
  dyings = linked_none (quiet_links xs o.still);
  free = o.free;
  frees = frees_none (rooms xs);
}

-- one slot more names a taken place
record Raise (x : Cell) : Type 0 where
  more : named_of (raise_cell x) ≡ named_of x + 1
  still : quiet (raise_cell x) ≡ true

raise_cell_lem : (x : Cell) → is_taken (room_of x) ≡ true → quiet x ≡ true → Raise x
raise_cell_lem (Free n) t q = cc
raise_cell_lem (Taken x) t q = record { more = refl; still = grind (arith, nat_tests) }
raise_cell_lem (Dying l r n) t q = cc

raise_room : (x : Cell) → room_of (raise_cell x) ≡ room_of x
raise_room (Free n) = refl
raise_room (Taken x) = refl
raise_room (Dying l r n) = refl

raise_link : (x : Cell) → next_free (raise_cell x) ≡ next_free x
raise_link (Free n) = refl
raise_link (Taken x) = refl
raise_link (Dying l r n) = refl

raised_same : {X : Type 0} (g : Cell → X) → ((x : Cell) → g (raise_cell x) ≡ g x) → (v : Value) (xs : List Cell) → map g (raised v xs) ≡ map g xs
raised_same g same (Number z) xs = refl
raised_same g same Nil xs = refl
raised_same g same (At q) xs = map_same g xs q.at (raise_cell (cell_at xs q.at)) (same (cell_at xs q.at))

pub raised_rooms : (v : Value) (xs : List Cell) → rooms (raised v xs) ≡ rooms xs
raised_rooms = raised_same room_of raise_room

pub raised_free : (v : Value) (xs : List Cell) → map next_free (raised v xs) ≡ map next_free xs
raised_free = raised_same next_free raise_link

pub own_raise : {xs ys : List Cell} {f : ℕ} {os : List Value} (v : Value) → Owing xs f os → names_only (taken_at (rooms xs)) v ≡ true → ys ≡ raised v xs → Owing ys f (v ∷ os)
own_raise {xs} {ys} {f} {os} v o t e = subst (λ zs. Owing zs f (v ∷ os)) (sym e) (by v t)
  where
    by : (v : Value) → names_only (taken_at (rooms xs)) v ≡ true → Owing (raised v xs) f (v ∷ os)
    by (Number z) t = record { counted = λ p. (let a = o.counted p in omega arith); still = o.still; free = o.free }
    by Nil t = record { counted = λ p. (let a = o.counted p in omega arith); still = o.still; free = o.free }
    by (At q) t =
        let w = sym (ap is_taken (cell_room xs q.at)) ∙ t in
        let x = raise_cell (cell_at xs q.at) in
        let k = raise_cell_lem (cell_at xs q.at) w (o.still q.at) in
        record {
          counted = λ p. (
              let a = more_at xs q x (inside xs q.at w) k.more p in
              let b = o.counted p in
              let g : count p (rooms (slice_set xs q.at x)) ≡ count p (rooms xs) = ap (count p) (raised_rooms (At q) xs) in
              omega arith);
          still = every_set quiet xs q.at x k.still o.still;
          free = linked_same next_free xs q.at x (raise_link (cell_at xs q.at)) o.free;
        }

-- no place is named too often for its cell
pub own_small : {xs : List Cell} {f : ℕ} {os : List Value} (v : Value) → Owing xs f os → length xs ≤ 1024 → length os ≤ 1 → named_by v xs < 65535
own_small (Number z) o h k = omega arith
own_small Nil o h k = omega arith
own_small {xs} {f} {os} (At q) o h k =
    let a = o.counted q.at in
    let b = count_few q.at (rooms xs) in
    let d = namings_few q.at os in
    let e : length (rooms xs) ≡ length xs = length-map xs room_of in
    omega arith

-- a slot is replaced: the new value was owed, the old one is
record Swap (x : Cell) (s : Side) (v : Value) : Type 0 where
  count : named_of (with_slot_of x s v) ≡ named_of x
  room : room_of (with_slot_of x s v) ≡ with_slot (room_of x) s v
  names : (p : ℕ) → room_names p (room_of (with_slot_of x s v)) + names p (slot_of (room_of x) s) ≡ room_names p (room_of x) + names p v
  still : quiet (with_slot_of x s v) ≡ quiet x
  link : next_free (with_slot_of x s v) ≡ next_free x

swap_cell : (x : Cell) (s : Side) (v : Value) → is_taken (room_of x) ≡ true → quiet x ≡ true → Swap x s v
swap_cell (Free n) s v t q = cc
swap_cell (Taken x) Left v t q = record { count = refl; room = refl; names = λ p. omega arith; still = refl; link = refl }
swap_cell (Taken x) Right v t q = record { count = refl; room = refl; names = λ p. omega arith; still = refl; link = refl }
swap_cell (Dying l r n) s v t q = cc

pub own_swap : {xs ys : List Cell} {f : ℕ} {v : Value} (p : ℕ) (s : Side) → Owing xs f (v ∷ []) → is_taken (room_of (cell_at xs p)) ≡ true → ys ≡ slice_set xs p (with_slot_of (cell_at xs p) s v) → Owing ys f (slot_of (room_of (cell_at xs p)) s ∷ [])
own_swap {xs} {ys} {f} {v} p s o t e =
    let x = with_slot_of (cell_at xs p) s v in
    let k = swap_cell (cell_at xs p) s v t (o.still p) in
    let in_range = inside xs p t in
    subst (λ zs. Owing zs f (slot_of (room_of (cell_at xs p)) s ∷ [])) (sym e) (record {
      counted = λ j. (
          let a = same_at named_of xs p x k.count j in
          let b = o.counted j in
          let g = count_cell j xs p x in_range in
          let h = k.names j in
          omega arith);
      still = every_set quiet xs p x (k.still ∙ o.still p) o.still;
      free = linked_same next_free xs p x k.link o.free;
    })

pub swapped_rooms : (xs : List Cell) (p : ℕ) (s : Side) (v : Value) → is_taken (room_of (cell_at xs p)) ≡ true → quiet (cell_at xs p) ≡ true → rooms (slice_set xs p (with_slot_of (cell_at xs p) s v)) ≡ written (rooms xs) p s v
swapped_rooms xs p s v t q =
    map-set room_of xs p (with_slot_of (cell_at xs p) s v) ∙ ap (set (rooms xs) p) ((swap_cell (cell_at xs p) s v t q).room ∙ ap (λ x. with_slot x s v) (sym (cell_room xs p)))

-- a free place is taken, with slots that are owed
pub own_take : {xs ys : List Cell} {f n : ℕ} {x : Pair} → Owing xs f (x.right ∷ (x.left ∷ [])) → slice_index_or (map next_free xs) f None ≡ Some n → x.named ≡ 0 → x.holds ≡ 1 → ys ≡ slice_set xs f (Taken x) → Sound ys n
own_take {xs} {ys} {f} {n} {x} o e k0 h1 is =
    let w = free_within xs f n e in
    let k = some_free (cell_at xs f) n (sym (free_at xs f w) ∙ e) in
    let y = Taken x in
    subst (λ zs. Sound zs n) (sym is) (
      (λ p. (
          let a = same_at named_of xs f y (k0 ∙ sym k.0) p in
          let b = o.counted p in
          let g = count_cell p xs f y w in
          let h : room_names p (room_of (cell_at xs f)) ≡ 0 = ap (room_names p) k.1 in
          omega arith)),
      every_set quiet xs f y (grind (arith, nat_tests)) o.still,
      (linked_pop next_free xs y e refl o.free).all,
    )

-- other holds
pub sound_holds : {ys : List Cell} (xs : List Cell) (f p : ℕ) {x : Pair} (m : ℕ) → Sound xs f → Taken x ≡ cell_at xs p → 0 < m + x.named → ys ≡ slice_set xs p (with_holds x m) → Sound ys f
sound_holds xs f p {x} m s is pos e =
    let y = with_holds x m in
    let w = inside xs p (sym (ap (λ z. is_taken (room_of z)) is)) in
    subst (λ zs. Sound zs f) (sym e) (
      (λ j. (
          let a = same_at named_of xs p y (ap named_of is) j in
          let b = s.0 j in
          let g = count_cell j xs p y w in
          let i : room_names j (room_of (cell_at xs p)) ≡ names j x.left + names j x.right = sym (ap (λ z. room_names j (room_of z)) is) in
          omega arith)),
      every_set quiet xs p y (grind (arith, nat_tests)) s.1,
      (linked_same next_free xs p y (ap next_free is) (record { all = s.2 })).all,
    )

-- the last hold of a place that no slot names
pub work_last : {ys : List Cell} (xs : List Cell) (f p n : ℕ) {x : Pair} → Sound xs f → Taken x ≡ cell_at xs p → x.named ≡ 0 → ys ≡ slice_set xs p (Dying x.left x.right n) → Working (rooms ys) ys f p []
work_last {ys} xs f p n {x} s is k0 e =
    let y = Dying x.left x.right n in
    let o = work_owing n (owing_none xs f s) in
    let w = inside xs p (sym (ap (λ z. is_taken (room_of z)) is)) in
    subst (λ zs. Working (rooms zs) zs f p []) (sym e) (record {
      counted = λ j. (
          let a = same_at named_of xs p y (sym k0 ∙ ap named_of is) j in
          let b = s.0 j in
          let g = count_cell j xs p y w in
          let i : room_names j (room_of (cell_at xs p)) ≡ names j x.left + names j x.right = sym (ap (λ z. room_names j (room_of z)) is) in
          omega arith);
      alive = every_set quiet_or_dying xs p y refl o.alive;
      dyings = linked_push next_dying xs p y w (dying_at xs p ∙ sym (ap next_dying is)) refl o.dyings;
      free = linked_same next_free xs p y (ap next_free is) o.free;
      frees = frees_none (rooms (slice_set xs p y));
    })

pub settled_still : {ys : List Cell} {f : ℕ} {c : Model} → rooms ys ≡ c → Sound ys f → Settled c ys f
settled_still {ys} {f} e s = subst (λ c. Settled c ys f) e (record { settles = sound_settles ys f s; sound = s })

pub settled_from : {b c : Model} {ys : List Cell} {f : ℕ} → b ≡ c → Settled b ys f → Settled c ys f
settled_from {ys = ys} {f = f} e w = subst (λ c. Settled c ys f) e w
