-- What is proved of the definitions. Assumes nothing.
use Rattle.std.specs.Prelude.{◌≡◌, ℕ, List}
use Rattle.tokens.specs.Spelling.{Item}
use Rattle.tokens.specs.Lexing.{Lexes}
use Rattle.tokens.specs.Scan.{lexed}

-- every text has the items that are computed, and no others
abbrev pub LexingIsExact : Type 0
LexingIsExact = (at : ℕ) (bs : List ℕ) → Lexes at bs (lexed at bs) × ((items : List Item) → Lexes at bs items → items ≡ lexed at bs)
