use Rattle.std.proofs.Common.{refl, arith}
use Rattle.counting.specs.Cells.{places_in}
use Rattle.counting.proofs.Seen.{first_few}
use Rattle.counting.proofs.Works.{owing_none, own_small, own_take}
use Rattle.counting.proofs.Puts.{take_once, take_twice, take_free, take_rooms}
use Rattle.counting.proofs.store.Store.take.Goals as goal

pub raise-requires : goal.raise-requires
raise-requires c = own_small c.args.left (owing_none (places_in c.args.self.now) c.args.self.now.free c.requires.sound) (first_few 1024 c.args.self.now.places.cells.items) (omega arith)

pub raise-requires-2 : goal.raise-requires-2
raise-requires-2 c = own_small c.args.right (take_once c.requires c.raise.ensures.cells) (first_few 1024 c.raise.new.places.cells.items) (omega arith)

pub returns-clause-sound : goal.returns-clause-sound
returns-clause-sound c =
    own_take (take_twice c.requires c.raise.ensures.cells c.raise-2.ensures.cells) (take_free c.requires c.raise.ensures.cells c.raise-2.ensures.cells) refl refl c.set.ensures.places

pub returns-clause-rooms : goal.returns-clause-rooms
returns-clause-rooms c = take_rooms c.requires c.raise.ensures.cells c.raise-2.ensures.cells _ c.set.ensures.places
