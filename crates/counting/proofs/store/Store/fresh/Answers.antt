use Rattle.std.proofs.Common.{◌+◌, ◌<◌, map, length, take, sym, ap, ◌∙◌, subst, vec_len, arith}
use Rattle.heap.specs.Model.{all_free}
use Rattle.heap.specs.Places.{places_of}
use Rattle.heap.proofs.Cells.{places_count, places_stay, all_places, spare_then}
use Rattle.counting.specs.Chain.{Linked}
use Rattle.counting.specs.Cells.{rooms, next_free}
use Rattle.counting.proofs.Fresh.{fresh_link, fresh_rooms, fresh_sound}
use Rattle.counting.proofs.store.Store.fresh.Goals as goal

pub loop-at-preserved : goal.loop-at-preserved
loop-at-preserved c =
    let xs = places_of c.loop-at.places in
    let i = c.loop-at.at in
    let h : i < length xs = let same = places_stay c.loop-at.invariant.spare in omega arith in
    record {
      rooms = ap (λ ys. rooms (take (i + 1) ys)) c.set.ensures.places ∙ fresh_rooms xs i c.loop-at.free h c.loop-at.invariant.rooms;
      chain = subst (λ ys. Linked (map next_free (take (i + 1) ys)) i) (sym c.set.ensures.places) (fresh_link xs i c.loop-at.free h c.loop-at.invariant.chain);
      spare = spare_then c.loop-at.invariant.spare c.set.ensures.spare;
    }

pub returns-clause-sound : goal.returns-clause-sound
returns-clause-sound c =
    let xs = places_of c.loop-at.places in
    let all = all_places c.loop-at.at c.loop-at.invariant.spare (omega arith) in
    fresh_sound xs c.loop-at.at c.loop-at.free (sym (ap rooms all) ∙ c.loop-at.invariant.rooms) (subst (λ ys. Linked (map next_free ys) c.loop-at.free) all c.loop-at.invariant.chain)

pub returns-clause-rooms : goal.returns-clause-rooms
returns-clause-rooms c =
    let all = all_places c.loop-at.at c.loop-at.invariant.spare (omega arith) in
    let count = places_count c.new-places.result in
    let same = ap vec_len c.new-places.ensures in
    sym (ap rooms all) ∙ c.loop-at.invariant.rooms ∙ ap all_free (omega arith)
