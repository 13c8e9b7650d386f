-- Line feeds in a text. Assumes nothing.
use Rattle.std.specs.Prelude.{ℕ, ◌+◌, cond, List, [], ◌∷◌, ◌==◌}

-- how many line feeds there are
unfoldable pub breaks : List ℕ → ℕ
breaks [] = 0
breaks (b ∷ bs) = cond (b == 10) 1 0 + breaks bs

-- how many bytes stand after the last line feed; where there is none, all of them and n more
unfoldable pub since_break : ℕ → List ℕ → ℕ
since_break n [] = n
since_break n (b ∷ bs) = since_break (cond (b == 10) 0 (n + 1)) bs
