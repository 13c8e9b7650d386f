use Rattle.std.proofs.Common.{sym, ap, ◌∙◌}
use Rattle.counting.specs.Cells.{places_in, next_free}
use Rattle.counting.proofs.Seen.{free_read, not_free}
use Rattle.counting.proofs.store.Store.next_free.Goals as goal

pub returns : goal.returns
returns c = sym (free_read (places_in c.args.self.now) c.args.self.now.free _ (sym c.get.ensures ∙ c.in_ok-next.was) ∙ ap next_free c.in-Free.is)

pub returns-in_default : goal.returns-in_default
returns-in_default c = sym (free_read (places_in c.args.self.now) c.args.self.now.free _ (sym c.get.ensures ∙ c.in_ok-next.was) ∙ not_free _ c.in_default.not-Free)

pub returns-in_err-next : goal.returns-in_err-next
returns-in_err-next c = c.from_residual.ensures ∙ sym (free_read (places_in c.args.self.now) c.args.self.now.free _ (sym c.get.ensures ∙ c.in_err-next.was))
