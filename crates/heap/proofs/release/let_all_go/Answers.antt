use Rattle.std.proofs.Common.{rules}
use Rattle.heap.proofs.Releases.{go_all}
use Rattle.heap.proofs.release.let_all_go.Goals as goal

pub returns-clause-releases : goal.returns-clause-releases
returns-clause-releases g c = go_all c.loop-value.invariant.0 (search rules)
