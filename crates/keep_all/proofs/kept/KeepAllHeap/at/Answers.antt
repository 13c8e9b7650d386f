use Rattle.std.proofs.Common.{ap, ◌∙◌}
use Rattle.std.specs.Option.{unwrap_or}
use Rattle.heap.specs.Places.{places_of}
use Rattle.keep_all.specs.declared.cell.Cell.TheVariants.{Free}
use Rattle.keep_all.specs.Cells.{room_of}
use Rattle.keep_all.proofs.Cells.{read}
use Rattle.keep_all.proofs.kept.KeepAllHeap.at.Goals as goal

pub returns : goal.returns
returns c = ap room_of (c.unwrap_or.ensures ∙ ap (λ o. unwrap_or o Free) c.get.ensures) ∙ read (places_of c.args.self.now.places) c.args.place.at
