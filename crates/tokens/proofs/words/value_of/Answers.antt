use Rattle.std.proofs.Common.{◌≡◌, ◌+◌, ◌-◌, ◌*◌, get_or, drop, Some, sym, ap, ◌∙◌, arith}
use Rattle.std.proofs.lemmas.List.{drop_all}
use Rattle.tokens.specs.Spelling.{reading, reading_from}
use Rattle.tokens.proofs.Runs.{reading_on, reading_grows, value_large, value_fits}
use Rattle.tokens.proofs.words.value_of.Goals as goal

pub returns-then-next-gt-LARGEST : goal.returns-then-next-gt-LARGEST
returns-then-next-gt-LARGEST c =
    let ds = c.args.digits.now in
    let i = c.loop-d.d-index in
    let on = c.loop-d.invariant.1 ∙ reading_on c.loop-d.value ds i c.loop-d-test.true in
    let grown = reading_grows (c.loop-d.value * 10 + (get_or ds i 0 - 48)) (drop (i + 1) ds) in
    sym (value_large ds (omega (arith, on, grown)))

pub returns : goal.returns
returns c =
    let ds = c.args.digits.now in
    let all : reading ds ≡ c.loop-d.value = c.loop-d.invariant.1 ∙ ap (reading_from c.loop-d.value) (drop_all c.loop-d.d-index ds c.loop-d-test.false) in
    sym (value_fits ds (omega arith) ∙ ap Some all)
