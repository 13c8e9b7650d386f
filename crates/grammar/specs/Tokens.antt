-- Tokens as the grammar sees them. Assumes nothing.
use Rattle.std.specs.Prelude.{◌≡◌, ℕ, suc, ◌≤◌, Bool, true, List, [], ◌∷◌, length, nat_lt}
use Rattle.script.specs.declared.types.«Type».{«Type» as Ty}
use Rattle.script.specs.declared.types.«Type».TheVariants as type
use Rattle.script.specs.declared.types.Name.{Name}
use Rattle.script.specs.declared.types.Operator.{Operator}
use Rattle.script.specs.declared.types.Operator.TheVariants.{Multiply, Add, Subtract, Dot}
use Rattle.script.specs.declared.types.Comparison.{Comparison}
use Rattle.script.specs.declared.types.Comparison.TheVariants as comparison
use Rattle.tokens.specs.declared.types.Keyword.{Keyword}
use Rattle.tokens.specs.declared.types.Keyword.TheVariants as word
use Rattle.tokens.specs.declared.types.Mark.{Mark}
use Rattle.tokens.specs.declared.types.Mark.TheVariants as sign
use Rattle.tokens.specs.Spelling.{Symbol, name, end, Item}

-- a token: its symbol, its offset, the deepest nesting at which it may stand, and whether it is within the number of tokens that a script may have
pub record Tok : Type 0 where
  pub symbol : Symbol
  pub at : ℕ
  pub deepest : ℕ
  pub counted : Bool

-- the tokens of a source, the first of which is token n + 1: each inside at most 64, and at most 2,048 of them; the end is not counted
abbrev pub tokens_from : ℕ → List Item → List Tok
tokens_from n [] = []
tokens_from n (i ∷ is) = record { symbol = i.symbol; at = i.at; deepest = 64; counted = nat_lt n 2048 } ∷ tokens_from (suc n) is

-- the token is this symbol, and may stand here, inside d
pub record Is (d : ℕ) (s : Symbol) (t : Tok) : Type 0 where
  pub symbol : t.symbol ≡ s
  pub depth : d ≤ t.deepest
  pub counted : t.counted ≡ true

-- the token is a name, and this is its range of the source
pub record IsName (d : ℕ) (x : Name) (t : Tok) : Type 0 where
  pub spelling : List ℕ
  pub is : Is d (name spelling) t
  pub range : x ≡ record { at = t.at; len = length spelling }

-- the offset of the first token
abbrev pub offset : List Tok → ℕ
offset [] = 0
offset (t ∷ ts) = t.at

-- the first token's symbol; where there is none, the end
abbrev pub first : List Tok → Symbol
first [] = end
first (t ∷ ts) = t.symbol

-- the keyword of a type
abbrev pub type_word : Ty → Keyword
type_word type.Int = word.Int
type_word type.Ref = word.Ref
type_word type.Q = word.Q

-- the mark of an operator, and how tightly it binds: products bind before sums, and sums before dots
abbrev pub operator_mark : Operator → Mark
operator_mark Multiply = sign.Star
operator_mark Add = sign.Plus
operator_mark Subtract = sign.Minus
operator_mark Dot = sign.Dot

abbrev pub binds : Operator → ℕ
binds Multiply = 1
binds Add = 2
binds Subtract = 2
binds Dot = 3

-- the mark of a comparison
abbrev pub comparison_mark : Comparison → Mark
comparison_mark comparison.LessEqual = sign.LessEqual
comparison_mark comparison.GreaterEqual = sign.GreaterEqual
comparison_mark comparison.Equal = sign.EqualEqual
comparison_mark comparison.NotEqual = sign.NotEqual
comparison_mark comparison.Less = sign.Less
comparison_mark comparison.Greater = sign.Greater
