use Rattle.keep_all.proofs.Writes.{holds_closed}
use Rattle.keep_all.proofs.kept.calls.KeepAllHeapHeap.let_go.Goals as goal

pub write-requires : goal.write-requires
write-requires c = holds_closed c.args.self.now c.args.place.at _ c.at-cell.result c.with_holds.result c.at-cell.ensures c.with_holds.ensures
