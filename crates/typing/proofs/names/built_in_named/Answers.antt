use Rattle.std.proofs.Common.{◌≡◌, ◌∙◌, option_map, rules, tests}
use Rattle.std.specs.Str.{bytes_eq}
use Rattle.std.proofs.lemmas.Iterator.{YieldsList-from_slice}
use Rattle.std.proofs.lemmas.Iterator.Search.{find_from_yields_List}
use Rattle.typing.specs.Names.{built_in_named}
use Rattle.typing.proofs.Found.{same_bytes, chosen, seconds}
use Rattle.typing.proofs.names.built_in_named.Goals as goal

pub returns : goal.returns
unfolding built_in_named
returns c =
    let found = find_from_yields_List (λ p. bytes_eq c.args.text.now p.0.now) _ _ c.find.result c.find.ensures.ran (YieldsList-from_slice _ c.iter.ensures.rest) (λ x b q k. search (rules, tests, same_bytes)) in
    let named : option_map (λ p. p.now.1) c.find.result ≡ built_in_named c.args.text.now = seconds c.find.result _ found ∙ simp chosen in
    search rules
