use Rattle.std.proofs.Common.{◌≡◌, ℕ, None, Err, rules, map, slice_index_or, sym, ap, ◌∙◌}
use Rattle.std.proofs.lemmas.Bool.{and_parts}
use Rattle.heap.specs.declared.types.HeapRefusal.TheVariants.{Full}
use Rattle.heap.specs.Model.{names_only, held_at}
use Rattle.heap.proofs.RoomAt.{held_named}
use Rattle.counting.specs.Cells.{places_in, rooms, next_free}
use Rattle.counting.proofs.Calls.{makes_done, makes_full, some_of, none_of}
use Rattle.counting.proofs.counting_heap.calls.CountingHeapHeap.make.Goals as goal

pub take-requires : goal.take-requires
take-requires c =
    let m = rooms (places_in c.args.self.now.store) in
    let h = and_parts (names_only (held_at m) c.args.left) (names_only (held_at m) c.args.right) (sym c.both_held.ensures ∙ c.if-not-both_held.false) in
    record {
      sound = c.args.self.now.sound;
      left = held_named m c.args.left h.0;
      right = held_named m c.args.right h.1;
      next = sym c.next_free.ensures ∙ some_of _ c.next_free.result c.in_ok-next.ensures.value;
    }

pub returns-in_err-next-clause-call : goal.returns-in_err-next-clause-call
returns-in_err-next-clause-call c =
    let full : c.from_residual.result ≡ Err Full = search rules in
    let none = sym (none_of _ c.next_free.result c.in_err-next.ensures.value) ∙ c.next_free.ensures in
    rw full (makes_full (places_in c.args.self.now.store) c.args.left c.args.right (sym c.both_held.ensures ∙ c.if-not-both_held.false) c.args.self.now.store.free c.args.self.now.sound none)

pub returns-clause-call : goal.returns-clause-call
returns-clause-call c =
    let link = λ (f : ℕ). slice_index_or (map next_free (places_in c.args.self.now.store)) f None in
    let next = ap link c.take.ensures.place ∙ sym c.next_free.ensures ∙ some_of _ c.next_free.result c.in_ok-next.ensures.value in
    makes_done (places_in c.args.self.now.store) c.args.left c.args.right (sym c.both_held.ensures ∙ c.if-not-both_held.false) _ _ c.in_ok-next.next next c.take.ensures.rooms
