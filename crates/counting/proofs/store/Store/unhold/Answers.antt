use Rattle.std.proofs.Common.{◌+◌, ◌-◌, ◌<◌, set, ap, ◌∙◌, arith}
use lib.Seq.{map-set}
use Rattle.heap.specs.Model.{taken}
use Rattle.counting.specs.declared.cell.Cell.TheVariants.{Dying}
use Rattle.counting.specs.Cells.{room_of, rooms, places_in}
use Rattle.counting.specs.Work.{with_holds}
use Rattle.counting.proofs.Works.{work_last, sound_holds, settled_still, settled_from}
use Rattle.counting.proofs.store.Store.unhold.Goals as goal

pub settle-requires : goal.settle-requires
settle-requires c = work_last (places_in c.args.self.now) c.args.self.now.free c.args.place.at 0 c.requires.sound c.requires.found (omega arith) c.set.ensures.places

pub returns-then-pair-eq0-clause-cells : goal.returns-then-pair-eq0-clause-cells
returns-then-pair-eq0-clause-cells c =
    let xs = places_in c.args.self.now in
    let x = c.args.pair in
    let p = c.args.place.at in
    settled_from (ap rooms c.set.ensures.places ∙ map-set room_of xs p (Dying x.left x.right 0) ∙ ap (λ n. set (rooms xs) p (taken x.left x.right n)) (omega arith)) c.settle.ensures.cells

pub returns-clause-cells : goal.returns-clause-cells
returns-clause-cells c =
    let xs = places_in c.args.self.now in
    let x = c.args.pair in
    let p = c.args.place.at in
    let h : 0 < (x.holds - 1) + x.named = let held = c.requires.held in grind arith in
    settled_still (ap rooms c.set-2.ensures.places ∙ map-set room_of xs p (with_holds x (x.holds - 1))) (sound_holds xs c.args.self.now.free p (x.holds - 1) c.requires.sound c.requires.found h c.set-2.ensures.places)
