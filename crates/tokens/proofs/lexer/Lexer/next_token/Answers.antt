use Rattle.std.proofs.Common.{sym, ◌∙◌}
use Rattle.std.proofs.lemmas.Bool.{both_ways}
use Rattle.tokens.specs.State.{rest}
use Rattle.tokens.proofs.Exact.{exactly}
use Rattle.tokens.proofs.Places.{past_gap, past_found, goes_on, ends_here}
use Rattle.tokens.proofs.Steps.{lexed_stop, found_goes_on, stop_is_last}
use Rattle.tokens.proofs.lexer.Lexer.next_token.Goals as goal

pub loop-n-preserved : goal.loop-n-preserved
loop-n-preserved c = (c.loop-n.invariant.0, c.loop-n.invariant.1 ∙ past_gap c.loop-n.self c.in-Gap.n c.in-Gap.ensures.value)

pub returns-in-Found : goal.returns-in-Found
returns-in-Found c =
    let is = c.in-Found.ensures.value in
    let on = found_goes_on (rest c.loop-n.self) c.in-Found.n _ (sym is) in
    record {
      source = c.loop-n.invariant.0;
      exact = exactly c.args.self.now;
      first = goes_on _ _ _ _ on (c.loop-n.invariant.1 ∙ past_found c.loop-n.self c.in-Found.n _ is);
      stays = λ last. absurd (both_ways _ on last);
    }

pub returns-in-Stop : goal.returns-in-Stop
returns-in-Stop c =
    let is = sym c.in-Stop.ensures.value in
    let last = stop_is_last (rest c.loop-n.self) _ is in
    record {
      source = c.loop-n.invariant.0;
      exact = exactly c.args.self.now;
      first = ends_here _ _ _ _ last (c.loop-n.invariant.1 ∙ lexed_stop c.loop-n.self.pos _ (rest c.loop-n.self) is);
      stays = λ h. sym c.loop-n.invariant.1;
    }
