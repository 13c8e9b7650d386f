-- How a listing grows. Assumes nothing.
use Rattle.std.specs.Prelude.{◌≡◌, ℕ, List, ◌++◌}
use Rattle.lexemes.specs.declared.lines.Draft.{Draft}

-- these bytes more are written, for the same source
pub record Grows (old new : Draft) (more : List ℕ) : Type 0 where
  pub text : new.text.items ≡ old.text.items ++ more
  pub source : new.source ≡ old.source
