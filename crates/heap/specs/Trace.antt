-- Lists of heap calls with their answers, and what they do by a heap's rule. Assumes nothing.
use Rattle.std.specs.Prelude.{List, [], ◌∷◌, Result}
use Rattle.heap.specs.declared.types.Address.{Address}
use Rattle.heap.specs.declared.types.Side.{Side}
use Rattle.heap.specs.declared.types.Value.{Value}
use Rattle.heap.specs.declared.types.HeapRefusal.{HeapRefusal}
use Rattle.heap.specs.Model.{Model, Rule, Makes, Holds, LetsGo, Looks, Puts}

-- a call and its answer
pub data Event : Type 0 where
  makes : Value → Value → Result Address HeapRefusal → Event
  holds : Address → Result (Unit {0}) HeapRefusal → Event
  lets_go : Address → Result (Unit {0}) HeapRefusal → Event
  looks : Address → Side → Result Value HeapRefusal → Event
  puts : Address → Side → Value → Result (Unit {0}) HeapRefusal → Event

-- what one call does to the model, by the heap's rule
pub data Does (rule : Rule) : Model → Event → Model → Type 0 where
  by_make : {m n : Model} {l r : Value} {a : Result Address HeapRefusal} → Makes rule m l r a n → Does rule m (makes l r a) n
  by_hold : {m n : Model} {p : Address} {a : Result (Unit {0}) HeapRefusal} → Holds m p a n → Does rule m (holds p a) n
  by_let_go : {m n : Model} {p : Address} {a : Result (Unit {0}) HeapRefusal} → LetsGo rule m p a n → Does rule m (lets_go p a) n
  by_look : {m : Model} {p : Address} {s : Side} {a : Result Value HeapRefusal} → Looks m p s a → Does rule m (looks p s a) m
  by_put : {m n : Model} {p : Address} {s : Side} {v : Value} {a : Result (Unit {0}) HeapRefusal} → Puts rule m p s v a n → Does rule m (puts p s v a) n

-- what a list of calls does, one after the other
pub data Trace (rule : Rule) : Model → List Event → Model → Type 0 where
  done : {m : Model} → Trace rule m [] m
  next : {m k n : Model} {e : Event} {es : List Event} → Does rule m e k → Trace rule k es n → Trace rule m (e ∷ es) n
