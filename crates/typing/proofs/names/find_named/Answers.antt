use Rattle.std.proofs.Common.{rules, tests}
use Rattle.std.proofs.lemmas.Iterator.{YieldsList-from_slice}
use Rattle.std.proofs.lemmas.Iterator.Consumers.{YieldsList-from_enumerate}
use Rattle.std.proofs.lemmas.Iterator.Search.{find_from_yields_List}
use Rattle.typing.specs.Names.{named}
use Rattle.typing.proofs.names.find_named.Goals as goal

pub returns : goal.returns
returns g c = find_from_yields_List (λ p. named c.args.source.now (g.T.Named.name_of p.1) c.args.text.now) _ _ _ c.find.ensures.ran (YieldsList-from_enumerate (YieldsList-from_slice c.args.items.now cc) cc) (λ x b q k. search (rules, tests))
