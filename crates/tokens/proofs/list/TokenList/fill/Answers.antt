use Rattle.std.proofs.Common.{◌≡◌, take, drop, ap, ◌∙◌}
use Rattle.tokens.specs.Scan.{lexed}
use Rattle.tokens.specs.State.{to_come}
use Rattle.tokens.proofs.Exact.{is_exact}
use Rattle.tokens.proofs.list.TokenList.fill.Goals as goal

pub returns : goal.returns
returns c =
    let s = c.args.source.now in
    let told = c.new.ensures in
    let start : to_come c.new.result ≡ lexed 0 s = λ i. lexed (told.place i) (drop (told.place i) (told.source i)) in
    let exact = is_exact 0 s in
    record { all = lexed 0 s; derived = exact.0; only = exact.1; first = c.take_all.ensures ∙ ap (take 2049) start }
