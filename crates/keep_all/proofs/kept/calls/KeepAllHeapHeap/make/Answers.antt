use Rattle.std.proofs.Common.{rules}
use Rattle.keep_all.proofs.Writes.{made_closed}
use Rattle.keep_all.proofs.kept.calls.KeepAllHeapHeap.make.Goals as goal

pub write-requires : goal.write-requires
write-requires c = made_closed c.args.self.now _ c.args.left c.args.right (search rules) (search rules)
