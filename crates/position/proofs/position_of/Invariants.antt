use Rattle.std.proofs.Common.{◌≡◌, ◌≤◌, take}
use Rattle.position.specs.Lines.{breaks, since_break}
use Rattle.position.proofs.position_of.Given as goal

abbrev pub invariant-loop-b : goal.invariant-loop-b
invariant-loop-b l = (l.line ≤ l.b-index) × (l.column ≤ l.b-index) × (l.line ≡ breaks (take l.b-index l.b-items)) × (l.column ≡ since_break 0 (take l.b-index l.b-items))
