use Rattle.std.proofs.Common.{◌≡◌, ◌+◌, set, ap, ◌∙◌, arith, rules}
use Rattle.counting.specs.Cells.{places_in}
use Rattle.counting.specs.Work.{with_holds}
use Rattle.counting.proofs.Works.{sound_holds}
use Rattle.counting.proofs.Calls.{holds_done, seen}
use Rattle.counting.proofs.counting_heap.calls.CountingHeapHeap.hold.Goals as goal

pub invariant_of-self : goal.invariant_of-self
invariant_of-self c =
    let xs = places_in c.args.self.now.store in
    let sees = seen xs c.args.place.at _ c.find.result c.find.ensures c.in_ok-pair.ensures.value in
    let more : c.in_ok-holds.holds ≡ c.in_ok-pair.pair.holds + 1 = search rules in
    record { sound = sound_holds xs c.args.self.now.store.free c.args.place.at c.in_ok-holds.holds c.args.self.now.sound sees.cell (omega arith) c.set.ensures.places }

pub returns-clause-call : goal.returns-clause-call
returns-clause-call c =
    let xs = places_in c.args.self.now.store in
    let sees = seen xs c.args.place.at _ c.find.result c.find.ensures c.in_ok-pair.ensures.value in
    let more : c.in_ok-holds.holds ≡ c.in_ok-pair.pair.holds + 1 = search rules in
    holds_done xs _ c.args.place c.in_ok-pair.pair sees.room (search rules) (c.set.ensures.places ∙ ap (λ n. set xs c.args.place.at (with_holds c.in_ok-pair.pair n)) more)
