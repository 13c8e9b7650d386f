use Rattle.std.proofs.Common.{arith}
use Rattle.counting.specs.Cells.{places_in}
use Rattle.counting.proofs.Seen.{first_few}
use Rattle.counting.proofs.Works.{owing_none, own_small, owed_named, settled_from}
use Rattle.counting.proofs.Puts.{put_owing, put_work, put_rooms}
use Rattle.counting.proofs.store.Store.replace.Goals as goal

pub raise-requires : goal.raise-requires
raise-requires c = own_small c.args.value (owing_none (places_in c.args.self.now) c.args.self.now.free c.requires.sound) (first_few 1024 c.args.self.now.places.cells.items) (omega arith)

pub lower-dying-requires : goal.lower-dying-requires
lower-dying-requires c = owed_named (put_owing c.requires c.raise.ensures.cells c.set_slot.ensures.cells)

pub settle-requires : goal.settle-requires
settle-requires c = put_work c.requires c.raise.ensures.cells c.set_slot.ensures.cells c.lower-dying.ensures.cells c.lower-dying.ensures.head

pub returns-clause-cells : goal.returns-clause-cells
returns-clause-cells c = settled_from (put_rooms c.requires c.raise.ensures.cells c.set_slot.ensures.cells c.lower-dying.ensures.cells) c.settle.ensures.cells
