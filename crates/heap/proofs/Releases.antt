-- A list of values that is let go of from its end. Assumes nothing.
use Rattle.std.proofs.Common.{◌≡◌, List, [], reverse, None, Ok, Err, Option, Result, sym, refl, ap, ◌∙◌, subst}
use Rattle.std.specs.Result.{result_and}
use Rattle.heap.specs.declared.types.Value.{Value}
use Rattle.heap.specs.declared.types.HeapRefusal.{HeapRefusal}
use Rattle.heap.specs.Model.{Model, Rule, answer}
use Rattle.heap.specs.Trace.{Trace}
use Rattle.heap.specs.Release.{released, first_refusal, releases, Releases}
use Rattle.heap.proofs.Traces.{releases_trace}

-- an answer so far, and what may still be refused
abbrev pub answered : Result (Unit {0}) HeapRefusal → Option HeapRefusal → Result (Unit {0}) HeapRefusal
answered a o = result_and a (answer o tt)

-- what is left, with its last value first, gives what all of it gives
pub record Releasing (rule : Rule) (m : Model) (all : List Value) (first : Result (Unit {0}) HeapRefusal) (n : Model) (left : List Value) : Type 0 where
  pub answers : answer (first_refusal rule all m) tt ≡ answered first (first_refusal rule (reverse left) n)
  pub leaves : released rule all m ≡ released rule (reverse left) n

pub go_all : {rule : Rule} {m n : Model} {all xs : List Value} {r : Result (Unit {0}) HeapRefusal} → Releasing rule m all r n xs → xs ≡ [] → Releases rule m all r n
go_all {rule = rule} {m = m} {n = n} {all = all} {xs = xs} {r = r} go e =
    let leaves : n ≡ released rule all m = sym (go.leaves ∙ ap (λ vs. released rule (reverse vs) n) e) in
    record {
      answers = sym (go.answers ∙ ap (λ vs. answered r (first_refusal rule (reverse vs) n)) e ∙ nothing_more r);
      leaves = leaves;
      traced = subst (Trace rule m (releases rule all m)) (sym leaves) (releases_trace rule all m);
    }
  where
    nothing_more : (r : Result (Unit {0}) HeapRefusal) → answered r None ≡ r
    nothing_more (Ok x) = refl
    nothing_more (Err x) = refl
