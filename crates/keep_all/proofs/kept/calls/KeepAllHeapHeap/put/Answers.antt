use Rattle.std.proofs.Common.{rules}
use Rattle.keep_all.proofs.Writes.{slot_closed}
use Rattle.keep_all.proofs.kept.calls.KeepAllHeapHeap.put.Goals as goal

pub write-requires : goal.write-requires
write-requires c = slot_closed c.args.self.now c.args.place.at _ c.args.value c.at-cell.result c.with_slot.result c.at-cell.ensures c.with_slot.ensures (search rules)
