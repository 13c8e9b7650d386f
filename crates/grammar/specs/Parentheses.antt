-- What a parenthesis in a condition encloses. Assumes nothing.
use Rattle.std.specs.Prelude.{◌≡◌, ℕ, List, ◌∷◌, ◌++◌}
use Rattle.script.specs.declared.types.Comparison.{Comparison}
use Rattle.script.specs.Tree.{Expr, Cond}
use Rattle.tokens.specs.Spelling.{mark}
use Rattle.grammar.specs.Tokens.{Tok, comparison_mark}
use Rattle.grammar.specs.Grammar.{Expression, Condition}

-- a comparison stands among these tokens
pub data HasComparison : List Tok → Type 0 where
  here : {t : Tok} {ts : List Tok} (o : Comparison) → t.symbol ≡ mark (comparison_mark o) → HasComparison (t ∷ ts)
  there : {t : Tok} {ts : List Tok} → HasComparison ts → HasComparison (t ∷ ts)

-- an expression has no comparison among its tokens, and a condition has one; so a parenthesis encloses a condition exactly if a comparison stands between it and its match
pub record ParenthesesTell : Type 0 where
  pub expression : (k d : ℕ) (inside rest : List Tok) (e : Expr) → Expression k d (inside ++ rest) e rest → HasComparison inside → ⊥
  pub condition : (k d : ℕ) (inside rest : List Tok) (c : Cond) → Condition k d (inside ++ rest) c rest → HasComparison inside
