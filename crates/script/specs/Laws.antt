-- What is proved of the flat code. Assumes nothing.
use Rattle.std.specs.Prelude.{◌≡◌}
use Rattle.script.specs.Tree.{Program}
use Rattle.script.specs.Flat.{flat_program}

-- the flat code loses nothing: equal codes come from equal trees
abbrev pub FlatLosesNothing : Type 0
FlatLosesNothing = (p q : Program) → flat_program p ≡ flat_program q → p ≡ q
