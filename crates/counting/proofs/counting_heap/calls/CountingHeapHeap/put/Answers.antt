use Rattle.std.proofs.Common.{sym, ap, ◌∙◌, rules}
use Rattle.heap.specs.Model.{is_taken, slot_of, same_kind}
use Rattle.counting.specs.Cells.{places_in}
use Rattle.counting.specs.Whole.{model_of}
use Rattle.counting.proofs.Calls.{puts_done, seen}
use Rattle.counting.proofs.counting_heap.calls.CountingHeapHeap.put.Goals as goal

pub returns-clause-call : goal.returns-clause-call
returns-clause-call c =
    let sees = seen (places_in c.args.self.now.store) c.args.place.at _ c.find.result c.find.ensures c.in_ok-pair.ensures.value in
    puts_done (model_of c.args.self.now) _ c.args.place c.args.side c.args.value (sym (ap is_taken sees.room)) (search rules)
    (sym (ap (λ x. same_kind (slot_of x c.args.side) c.args.value) sees.room) ∙ search rules)
    c.replace.ensures.cells.settles
