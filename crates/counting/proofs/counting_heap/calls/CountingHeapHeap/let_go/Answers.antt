use Rattle.std.proofs.Common.{rules}
use Rattle.counting.specs.Cells.{places_in}
use Rattle.counting.specs.Whole.{model_of}
use Rattle.counting.proofs.Calls.{lets_go, seen}
use Rattle.counting.proofs.counting_heap.calls.CountingHeapHeap.let_go.Goals as goal

pub returns-clause-call : goal.returns-clause-call
returns-clause-call c =
    let sees = seen (places_in c.args.self.now.store) c.args.place.at _ c.find.result c.find.ensures c.in_ok-pair.ensures.value in
    lets_go (model_of c.args.self.now) _ c.args.place sees.room (search rules) c.unhold.ensures.cells.settles
