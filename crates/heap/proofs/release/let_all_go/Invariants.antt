use Rattle.std.proofs.Common.{◌≡◌, reverse, vec_items, vec_len, vec_capacity}
use Rattle.heap.proofs.Releases.{Releasing}
use Rattle.heap.proofs.release.let_all_go.Given as goal

abbrev pub invariant-loop-value : goal.invariant-loop-value
invariant-loop-value g l =
    let h = g.H.Heap in
    Releasing h.rule (h.model l.initial.heap) (reverse (vec_items l.initial.values)) l.first (h.model l.heap) (vec_items l.values) × (vec_capacity l.values ≡ vec_capacity l.initial.values)

abbrev pub decreases-loop-value : goal.decreases-loop-value
decreases-loop-value g l = vec_len l.values
