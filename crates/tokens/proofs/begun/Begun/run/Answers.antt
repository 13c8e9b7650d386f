use Rattle.std.proofs.Common.{◌≡◌, suc, ◌+◌, take, ap, ◌∙◌, rules, tests, arith}
use Rattle.std.specs.List.{prefix_len}
use Rattle.std.proofs.lemmas.Iterator.{YieldsList-from_slice}
use Rattle.std.proofs.lemmas.Iterator.Search.{YieldsList-from_take_while}
use Rattle.std.proofs.lemmas.Iterator.Consumers.{count_from_yields_List}
use Rattle.std.proofs.lemmas.List.Folds.{length-prefix_len}
use Rattle.tokens.proofs.begun.Begun.run.Goals as goal

pub returns : goal.returns
returns g c p meets =
    let begun = c.args.self.now in
    let after = begun.after.now in
    let long = count_from_yields_List c.take_while.result _ c.count-more.ensures.ran (YieldsList-from_take_while _ p (YieldsList-from_slice after cc) c.take_while.ensures.closure c.take_while.ensures.done (λ x b q k. search (rules, tests, meets))) ∙ length-prefix_len p after in
    let n : 1 + c.count-more.result ≡ suc (prefix_len p after) = omega arith in
    ap (λ k. take k begun.text.now) n ∙ ap (take (suc (prefix_len p after))) begun.split
