-- One run of heap calls after another. Assumes nothing.
use Rattle.std.proofs.Common.{◌≡◌, ℕ, List, [], ◌∷◌, ◌++◌, length, set, Some, None, Ok, Err, Option, Result, refl, ap, ◌∙◌, length-set}
use Rattle.heap.specs.declared.types.Address.{Address}
use Rattle.heap.specs.declared.types.Side.{Side}
use Rattle.heap.specs.declared.types.Value.{Value}
use Rattle.heap.specs.declared.types.Value.TheVariants.{Number, Nil, At}
use Rattle.heap.specs.declared.types.HeapRefusal.{HeapRefusal}
use Rattle.heap.specs.Model.{Room, free, Model, Rule, freed, after, Makes, Holds, hold_refusal, LetsGo, let_go_refusal, less_held, Puts, put_refusal, written}
use Rattle.heap.specs.Trace.{Event, Does, Trace, by_make, by_hold, by_let_go, by_look, by_put, done, next}
use Rattle.heap.specs.Release.{let_go_leaves, released, releases}

pub trace_append : {rule : Rule} {m k n : Model} {es fs : List Event} → Trace rule m es k → Trace rule k fs n → Trace rule m (es ++ fs) n
trace_append done u = u
trace_append (next d t) u = next d (trace_append t u)

pub trace_one : {rule : Rule} {m n : Model} {e : Event} → Does rule m e n → Trace rule m (e ∷ []) n
trace_one d = next d done

-- one call more at the end
pub trace_push : {rule : Rule} {m k n : Model} {es : List Event} {e : Event} → Trace rule m es k → Does rule k e n → Trace rule m (es ++ e ∷ []) n
trace_push t d = trace_append t (trace_one d)

-- the calls that let go of a list of values lead to the model that is left
pub releases_trace : (rule : Rule) (vs : List Value) (m : Model) → Trace rule m (releases rule vs m) (released rule vs m)
releases_trace rule [] m = done
releases_trace rule (Number z ∷ vs) m = releases_trace rule vs m
releases_trace rule (Nil ∷ vs) m = releases_trace rule vs m
releases_trace rule (At p ∷ vs) m = next (by_let_go (record { answers = refl; leaves = refl })) (releases_trace rule vs (let_go_leaves rule m p.at))

-- and to no other
pub releases_leaves : (rule : Rule) (vs : List Value) (m n : Model) → Trace rule m (releases rule vs m) n → n ≡ released rule vs m
releases_leaves rule [] m n done = refl
releases_leaves rule (Number z ∷ vs) m n t = releases_leaves rule vs m n t
releases_leaves rule (Nil ∷ vs) m n t = releases_leaves rule vs m n t
releases_leaves rule (At p ∷ vs) m n (next (by_let_go goes) t) = after_one vs (let_go_leaves rule m p.at) _ n goes.leaves (releases_leaves rule vs (let_go_leaves rule m p.at) n) t
  where
    after_one : (vs : List Value) (k j n : Model) → j ≡ k → (Trace rule k (releases rule vs k) n → n ≡ released rule vs k) → Trace rule j (releases rule vs k) n → n ≡ released rule vs k
    after_one vs k j n e same t = same (rw e at t)

pub length_freed : (ps : List ℕ) (m : Model) → length (freed ps m) ≡ length m
length_freed [] m = refl
length_freed (p ∷ ps) m = length_freed ps (set m p free) ∙ length-set m p free

-- a place is written and others are freed, or nothing is done
length_after : (o : Option HeapRefusal) (ps : List ℕ) (m : Model) (p : ℕ) (x : Room) → length (after o m (freed ps (set m p x))) ≡ length m
length_after None ps m p x = length_freed ps (set m p x) ∙ length-set m p x
length_after (Some e) ps m p x = refl

length_holds : (m : Model) (p : Address) (a : Result (Unit {0}) HeapRefusal) (n : Model) → Holds m p a n → length n ≡ length m
length_holds m p a n holds = ap length holds.leaves ∙ length_after (hold_refusal m p.at) [] m p.at _

length_lets_go : (rule : Rule) (m : Model) (p : Address) (a : Result (Unit {0}) HeapRefusal) (n : Model) → LetsGo rule m p a n → length n ≡ length m
length_lets_go rule m p a n goes =
    ap length goes.leaves ∙ length_after (let_go_refusal m p.at) (rule.on_let_go (less_held m p.at)) m p.at _

length_puts : (rule : Rule) (m : Model) (p : Address) (s : Side) (v : Value) (a : Result (Unit {0}) HeapRefusal) (n : Model) → Puts rule m p s v a n → length n ≡ length m
length_puts rule m p s v a n puts =
    ap length puts.leaves ∙ length_after (put_refusal m p.at s v) (rule.on_put (written m p.at s v)) m p.at _

length_makes : (rule : Rule) (m : Model) (l r : Value) (a : Result Address HeapRefusal) (n : Model) → Makes rule m l r a n → length n ≡ length m
length_makes rule m l r (Ok p) n makes =
    ap length makes.by.1.now ∙ length-set (freed (rule.on_make m) m) p.at _ ∙ length_freed (rule.on_make m) m
length_makes rule m l r (Err e) n makes = ap length makes.by.1

-- no call adds a place or takes one away
pub length_does : {rule : Rule} {m n : Model} {e : Event} → Does rule m e n → length n ≡ length m
length_does (by_make makes) = length_makes _ _ _ _ _ _ makes
length_does (by_hold holds) = length_holds _ _ _ _ holds
length_does (by_let_go goes) = length_lets_go _ _ _ _ _ goes
length_does (by_look looks) = refl
length_does (by_put puts) = length_puts _ _ _ _ _ _ _ puts

pub length_trace : {rule : Rule} {m n : Model} {es : List Event} → Trace rule m es n → length n ≡ length m
length_trace done = refl
length_trace (next d t) = length_trace t ∙ length_does d
