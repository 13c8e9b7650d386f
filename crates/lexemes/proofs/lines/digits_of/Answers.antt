use Rattle.std.proofs.Common.{take, ap, ◌∙◌, rules, tests}
use Rattle.std.specs.Char.{is_ascii_digit}
use Rattle.std.proofs.lemmas.Iterator.{YieldsList-from_slice}
use Rattle.std.proofs.lemmas.Iterator.Search.{YieldsList-from_take_while}
use Rattle.std.proofs.lemmas.Iterator.Consumers.{count_from_yields_List}
use Rattle.std.proofs.lemmas.List.Folds.{length-prefix_len}
use Rattle.lexemes.specs.Listing.{digits_of}
use Rattle.lexemes.proofs.lines.digits_of.Goals as goal

pub returns : goal.returns
unfolding digits_of
returns c =
    let text = c.args.text.now in
    let long = count_from_yields_List c.take_while.result _ c.count-len.ensures.ran (YieldsList-from_take_while _ is_ascii_digit (YieldsList-from_slice text cc) c.take_while.ensures.closure c.take_while.ensures.done (λ x b q k. search (rules, tests))) ∙ length-prefix_len is_ascii_digit text in
    ap (λ n. take n text) long
