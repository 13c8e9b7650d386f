-- A taken place stays taken. Assumes nothing.
use Rattle.std.proofs.Common.{◌≡◌, ℕ, true, List, set, Some, None, Ok, Err, Option, Result, refl, ap, ◌∙◌}
use Rattle.heap.specs.declared.types.Address.{Address}
use Rattle.heap.specs.declared.types.Side.{Side}
use Rattle.heap.specs.declared.types.Value.{Value}
use Rattle.heap.specs.declared.types.HeapRefusal.{HeapRefusal}
use Rattle.heap.specs.Model.{Room, Model, room_at, is_taken, taken_at, after, Makes, Holds, hold_refusal, LetsGo, let_go_refusal, Puts, put_refusal}
use Rattle.heap.specs.Trace.{Event, Does, by_make, by_hold, by_let_go, by_look, by_put, Trace, done, next}
use Rattle.heap.proofs.RoomAt.{holds_taken}
use Rattle.heap.proofs.Rooms.{taken_set, written_taken}
use Rattle.keep_all.specs.Kept.{keeps_all, Keeps}

-- a call that writes a taken room, or nothing
still : (m n : Model) (p k : ℕ) (o : Option HeapRefusal) (x : Room) → n ≡ after o m (set m p x) → (taken_at m p ≡ true → is_taken x ≡ true) → taken_at m k ≡ true → taken_at n k ≡ true
still m n p k None x e stays h = ap (λ w. taken_at w k) e ∙ taken_set m p x k stays h
still m n p k (Some r) x e stays h = ap (λ w. taken_at w k) e ∙ h

makes_keeps : (m n : Model) (l r : Value) (a : Result Address HeapRefusal) (k : ℕ) → Makes keeps_all m l r a n → taken_at m k ≡ true → taken_at n k ≡ true
makes_keeps m n l r (Ok p) k makes h = ap (λ w. taken_at w k) makes.by.1.now ∙ taken_set m p.at _ k (λ _. refl) h
makes_keeps m n l r (Err e) k makes h = ap (λ w. taken_at w k) makes.by.1 ∙ h

holds_keeps : (m n : Model) (p : Address) (a : Result (Unit {0}) HeapRefusal) (k : ℕ) → Holds m p a n → taken_at m k ≡ true → taken_at n k ≡ true
holds_keeps m n p a k holds = still m n p.at k (hold_refusal m p.at) _ holds.leaves (λ e. holds_taken (room_at m p.at) _ ∙ e)

lets_go_keeps : (m n : Model) (p : Address) (a : Result (Unit {0}) HeapRefusal) (k : ℕ) → LetsGo keeps_all m p a n → taken_at m k ≡ true → taken_at n k ≡ true
lets_go_keeps m n p a k goes = still m n p.at k (let_go_refusal m p.at) _ goes.leaves (λ e. holds_taken (room_at m p.at) _ ∙ e)

puts_keeps : (m n : Model) (p : Address) (s : Side) (v : Value) (a : Result (Unit {0}) HeapRefusal) (k : ℕ) → Puts keeps_all m p s v a n → taken_at m k ≡ true → taken_at n k ≡ true
puts_keeps m n p s v a k puts = still m n p.at k (put_refusal m p.at s v) _ puts.leaves (λ e. written_taken (room_at m p.at) s v ∙ e)

pub does_keeps : {m n : Model} {e : Event} → Does keeps_all m e n → (k : ℕ) → taken_at m k ≡ true → taken_at n k ≡ true
does_keeps (by_make makes) k h = makes_keeps _ _ _ _ _ k makes h
does_keeps (by_hold holds) k h = holds_keeps _ _ _ _ k holds h
does_keeps (by_let_go goes) k h = lets_go_keeps _ _ _ _ k goes h
does_keeps (by_look looks) k h = h
does_keeps (by_put puts) k h = puts_keeps _ _ _ _ _ _ k puts h

trace_keeps : {m n : Model} {es : List Event} → Trace keeps_all m es n → (k : ℕ) → taken_at m k ≡ true → taken_at n k ≡ true
trace_keeps done k h = h
trace_keeps (next d t) k h = trace_keeps t k (does_keeps d k h)

pub keeps : Keeps
keeps m n es k t h = trace_keeps t k h
