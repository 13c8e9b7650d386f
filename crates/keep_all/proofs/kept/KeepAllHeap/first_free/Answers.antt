use Rattle.std.proofs.Common.{◌≡◌, Some, sym, ap, ◌∙◌, arith}
use Rattle.std.specs.List.{position}
use Rattle.std.proofs.lemmas.List.Quantifiers.{position-Some}
use Rattle.heap.specs.Places.{places_of}
use Rattle.heap.proofs.Cells.{places_count}
use Rattle.keep_all.specs.declared.cell.Cell.TheVariants.{Free}
use Rattle.keep_all.specs.Cells.{is_free}
use Rattle.keep_all.proofs.Cells.{none_free, first_free}
use Rattle.keep_all.proofs.kept.KeepAllHeap.first_free.Goals as goal
use Rattle.keep_all.proofs.kept.KeepAllHeap.first_free.Goals.{In_ok-at}

found : (c : In_ok-at) → position is_free (places_of c.args.self.now.places) ≡ Some c.in_ok-at.at
found c = ap (position is_free) (sym c.as_slice.ensures) ∙ sym c.free_index.ensures ∙ c.in_ok-at.was

pub returns-in_err-at : goal.returns-in_err-at
returns-in_err-at c =
    rw c.from_residual.ensures (none_free (places_of c.args.self.now.places) (ap (position is_free) (sym c.as_slice.ensures) ∙ sym c.free_index.ensures ∙ c.in_err-at.was))

pub overflow_cast-result : goal.overflow_cast-result
overflow_cast-result c =
    let within = (position-Some is_free (places_of c.args.self.now.places) c.in_ok-at.at Free (found c)).0 in
    let count = places_count c.args.self.now.places in
    omega arith

pub returns : goal.returns
returns c = first_free (places_of c.args.self.now.places) (record { at = c.in_ok-at.at }) (found c)
