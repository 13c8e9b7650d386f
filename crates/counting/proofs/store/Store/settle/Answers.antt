use Rattle.std.proofs.Common.{sym, ap, ◌∙◌}
use Rattle.counting.specs.Cells.{next_dying, places_in}
use Rattle.heap.proofs.Cells.{spare_then}
use Rattle.counting.proofs.Seen.{not_dying}
use Rattle.counting.proofs.Works.{owed_named, work_dropped, work_lowered, work_end, turn_falls}
use Rattle.counting.proofs.store.Store.settle.Goals as goal

pub lower-dying-requires : goal.lower-dying-requires
lower-dying-requires c = owed_named (work_dropped c.loop-left.invariant.0 c.in-Dying.ensures.cell c.set.ensures.places)

pub lower-dying-requires-in-Dying : goal.lower-dying-requires-in-Dying
lower-dying-requires-in-Dying c =
    owed_named (work_lowered (work_dropped c.loop-left.invariant.0 c.in-Dying.ensures.cell c.set.ensures.places) c.lower-dying.ensures.cells c.lower-dying.ensures.head)

pub loop-left-preserved : goal.loop-left-preserved
loop-left-preserved c =
    let once = work_lowered (work_dropped c.loop-left.invariant.0 c.in-Dying.ensures.cell c.set.ensures.places) c.lower-dying.ensures.cells c.lower-dying.ensures.head in (
      work_lowered once c.lower-dying-in-Dying.ensures.cells c.lower-dying-in-Dying.ensures.head,
      spare_then c.loop-left.invariant.1 (spare_then c.set.ensures.spare (spare_then c.lower-dying.ensures.spare c.lower-dying-in-Dying.ensures.spare)),
    )

pub loop-left-smaller : goal.loop-left-smaller
loop-left-smaller c =
    turn_falls (places_in c.loop-left.self) c.loop-left.dying c.loop-left.self.free _ _ _ _ c.in-Dying.ensures.cell c.set.ensures.places c.lower-dying.ensures.cells c.lower-dying-in-Dying.ensures.cells

pub returns : goal.returns
returns c = record { cells = work_end c.loop-left.invariant.0 (ap next_dying (sym c.at.ensures.cell) ∙ not_dying c.at.result c.in_default.not-Dying); spare = c.loop-left.invariant.1 }
