use Rattle.std.proofs.Common.{◌+◌, ◌<◌, map, length, take, sym, ap, ◌∙◌, subst, vec_len, arith}
use Rattle.heap.specs.Model.{all_free}
use Rattle.heap.specs.Places.{places_of}
use Rattle.heap.specs.Reach.{Closed}
use Rattle.heap.proofs.Cells.{places_count, places_stay, all_places, spare_then}
use Rattle.heap.proofs.Rooms.{closed_free, names_from_closed}
use Rattle.keep_all.specs.Cells.{room_of}
use Rattle.keep_all.proofs.Cells.{clear_more}
use Rattle.keep_all.proofs.Keeps.{keeps}
use Rattle.keep_all.proofs.kept.KeepAllHeap.new.Goals as goal

pub loop-at-preserved : goal.loop-at-preserved
loop-at-preserved c =
    let xs = places_of c.loop-at.places in
    let i = c.loop-at.at in
    let h : i < length xs = let same = places_stay c.loop-at.invariant.spare in omega arith in
    record {
      cleared = ap (λ ys. map room_of (take (i + 1) ys)) c.set.ensures.places ∙ clear_more xs i h c.loop-at.invariant.cleared;
      spare = spare_then c.loop-at.invariant.spare c.set.ensures.spare;
    }

pub invariant_of-result : goal.invariant_of-result
invariant_of-result c =
    let all = all_places c.loop-at.at c.loop-at.invariant.spare (omega arith) in
    let cleared = ap (map room_of) (sym all) ∙ c.loop-at.invariant.cleared in
    record { closed = names_from_closed _ (subst Closed (sym cleared) (closed_free c.loop-at.at)) }

pub returns-clause-model : goal.returns-clause-model
returns-clause-model c =
    let all = all_places c.loop-at.at c.loop-at.invariant.spare (omega arith) in
    let count = places_count c.new-places.result in
    let same = ap vec_len c.new-places.ensures in
    ap (map room_of) (sym all) ∙ c.loop-at.invariant.cleared ∙ ap all_free (omega arith)

pub returns-clause-keeps : goal.returns-clause-keeps
returns-clause-keeps c = keeps
