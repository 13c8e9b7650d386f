use Rattle.std.proofs.Common.{ap, ◌∙◌}
use Rattle.std.specs.Str.{bytes_eq}
use Rattle.typing.specs.Names.{named}
use Rattle.typing.proofs.Found.{same_bytes}
use Rattle.typing.proofs.names.is_named.Goals as goal

pub returns : goal.returns
unfolding named
returns c = same_bytes c.spelling.result.now c.args.text.now _ c.eq.ensures ∙ ap (λ l. bytes_eq l c.args.text.now) c.spelling.ensures
