-- What each call of a counting heap does to the model. Assumes nothing.
use Rattle.std.proofs.Common.{◌≡◌, ℕ, ◌+◌, ◌-◌, ◌<◌, true, false, not, ◌&&◌, eqb, ltb, List, [], ◌∷◌, map, length, get_or, set, Some, None, Ok, Err, Option, subst, sym, refl, ap, ◌∙◌, arith}
use lib.ListN.{length-map}
use lib.Seq.{map-set}
use Rattle.std.specs.Option.{ok_or}
use Rattle.std.proofs.lemmas.Bool.{lt-ltb, ne_eqb}
use Rattle.heap.specs.declared.types.Address.{Address}
use Rattle.heap.specs.declared.types.Side.{Side}
use Rattle.heap.specs.declared.types.Value.{Value}
use Rattle.heap.specs.declared.types.HeapRefusal.{HeapRefusal}
use Rattle.heap.specs.declared.types.HeapRefusal.TheVariants.{NotTaken, NoHold, TooManyHolds, KindChange, Full}
use Rattle.heap.specs.Model as model
use Rattle.heap.specs.Model.{taken, Model, room_at, slot_of, written, less_held, holds_of, taken_at, is_taken, held_at, names_only, same_kind, all_taken, freed, refuse, answer, after, Holds, hold_refusal, hold_done, LetsGo, let_go_refusal, let_go_done, Puts, put_refusal, put_done, Makes}
use Rattle.heap.proofs.RoomAt.{not_all_taken}
use Rattle.counting.specs.declared.cell.Cell.{Cell}
use Rattle.counting.specs.declared.cell.Cell.TheVariants.{Free, Taken, Dying}
use Rattle.counting.specs.declared.cell.Pair.{Pair}
use Rattle.counting.specs.Rule.{dead_in_turn, counting_rule, Settles}
use Rattle.counting.specs.Chain.{links, Linked}
use Rattle.counting.specs.Cells.{room_of, rooms, next_free, Sound}
use Rattle.counting.specs.Work.{with_holds, Finds, Sees}
use Rattle.counting.proofs.Settle.{one_result, rule_settles}
use Rattle.counting.proofs.Chains.{ends}
use Rattle.counting.proofs.Seen.{free_room, free_within}

-- however a model settled, the rule settles it so
by_rule : {m n : Model} → Settles m n → n ≡ freed (dead_in_turn (length m) m) m
by_rule {m} {n} s = one_result m n _ s (rule_settles m)

pub lets_go : (c d : Model) (p : Address) {l r : Value} {h : ℕ} → taken l r h ≡ room_at c p.at → 0 < h → Settles (set c p.at (taken l r (h - 1))) d → LetsGo counting_rule c p (Ok tt) d
lets_go c d p {l} {r} {h} is pos s =
    let t : held_at c p.at ≡ true = ap (λ x. ltb 0 (holds_of x)) (sym is) ∙ lt-ltb 0 h pos in
    let n : let_go_refusal c p.at ≡ None = ap (λ b. refuse (not b) NoHold None) t in
    let e : set c p.at (taken l r (h - 1)) ≡ less_held c p.at = ap (λ x. set c p.at (model.with_holds x (holds_of x - 1))) is in
    record {
      answers = sym (ap (λ o. answer o tt) n);
      leaves = by_rule s ∙ ap (λ m. freed (dead_in_turn (length m) m) m) e ∙ sym (ap (λ o. after o c (let_go_done counting_rule c p.at)) n);
    }

pub puts_done : (c d : Model) (p : Address) (s : Side) (v : Value) → taken_at c p.at ≡ true → names_only (taken_at c) v ≡ true → same_kind (slot_of (room_at c p.at) s) v ≡ true → Settles (written c p.at s v) d → Puts counting_rule c p s v (Ok tt) d
puts_done c d p s v t n k w =
    let kind = refuse (not (same_kind (slot_of (room_at c p.at) s) v)) KindChange None in
    let e : put_refusal c p.at s v ≡ None =
    ap (λ b. refuse (not (b && names_only (taken_at c) v)) NotTaken kind) t ∙ ap (λ b. refuse (not b) NotTaken kind) n ∙ ap (λ b. refuse (not b) KindChange None) k in
    record { answers = sym (ap (λ o. answer o tt) e); leaves = by_rule w ∙ sym (ap (λ o. after o c (put_done counting_rule c p.at s v)) e) }

pub holds_done : (xs ys : List Cell) (p : Address) (x : Pair) → taken x.left x.right x.holds ≡ room_at (rooms xs) p.at → (x.holds ≡ 65535 → ⊥) → ys ≡ set xs p.at (with_holds x (x.holds + 1)) → Holds (rooms xs) p (Ok tt) (rooms ys)
holds_done xs ys p x is few e =
    let c = rooms xs in
    let m : eqb x.holds 65535 ≡ false = ne_eqb x.holds 65535 few in
    let n : hold_refusal c p.at ≡ None =
    ap (λ y. refuse (not (is_taken y)) NotTaken (refuse (eqb (holds_of y) 65535) TooManyHolds None)) (sym is) ∙ ap (λ b. refuse b TooManyHolds None) m in
    record {
      answers = sym (ap (λ o. answer o tt) n);
      leaves = ap rooms e ∙ map-set room_of xs p.at (with_holds x (x.holds + 1)) ∙ ap (λ y. set c p.at (model.with_holds y (holds_of y + 1))) is ∙ sym (ap (λ o. after o c (hold_done c p.at)) n);
    }

-- an option that was asked for as an answer
pub some_of : {X E : Type 0} {x : X} (e : E) (o : Option X) → Ok x ≡ ok_or o e → o ≡ Some x
some_of e None is = cc
some_of e (Some y) is = cc

pub none_of : {X E : Type 0} {d : E} (e : E) (o : Option X) → Err d ≡ ok_or o e → o ≡ None
none_of e None is = refl
none_of e (Some y) is = cc

pub seen : (xs : List Cell) (p : ℕ) {x : Pair} (e : HeapRefusal) (o : Option Pair) → Finds xs p o → Ok x ≡ ok_or o e → Sees xs p x
seen xs p e o h is = subst (Finds xs p) (some_of e o is) h

all_taken_lem : (xs : List Cell) → links (map next_free xs) ≡ 0 → all_taken (rooms xs) ≡ true
all_taken_lem [] e = refl
all_taken_lem (Free n ∷ xs) e = absurd (omega arith)
all_taken_lem (Taken x ∷ xs) e = all_taken_lem xs e
all_taken_lem (Dying l r n ∷ xs) e = all_taken_lem xs e

module _ (xs : List Cell) (l r : Value) (h : (names_only (held_at (rooms xs)) l && names_only (held_at (rooms xs)) r) ≡ true) where
  pub makes_done : (d : Model) (p : Address) (n : ℕ) → get_or (map next_free xs) p.at None ≡ Some n → d ≡ set (rooms xs) p.at (taken l r 1) → Makes counting_rule (rooms xs) l r (Ok p) d
  makes_done d p n e is =
      let w : p.at < length (rooms xs) = simp length-map (free_within xs p.at n e) in
      let f = free_room xs p.at n e in
      record {
        by = (
          ap (λ b. refuse (not b) NoHold (refuse (all_taken (rooms xs)) Full None)) h ∙ ap (λ b. refuse b Full None) (not_all_taken (rooms xs) p.at w f),
          record { within = w; was = f; now = is },
        );
      }

  pub makes_full : (f : ℕ) → Sound xs f → None ≡ get_or (map next_free xs) f None → Makes counting_rule (rooms xs) l r (Err Full) (rooms xs)
  makes_full f s e =
      let z : Linked (map next_free xs) f = record { all = s.2 } in
      record {
        by = (
          ap (λ b. refuse (not b) NoHold (refuse (all_taken (rooms xs)) Full None)) h ∙ ap (λ b. refuse b Full None) (all_taken_lem xs (ends (sym e) z)),
          refl,
        );
      }
