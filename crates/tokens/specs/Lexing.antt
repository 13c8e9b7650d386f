-- Which items a source has: the rules of tokens, blanks and comments. Assumes nothing.
use Rattle.std.specs.Prelude.{◌≡◌, ℕ, ◌+◌, ◌<◌, ◌≤◌, true, false, List, [], ◌∷◌, ◌++◌, length, codes, ◌≢◌}
use Rattle.byte_class.specs.Classes.{blank}
use Rattle.tokens.specs.declared.types.Trouble.TheVariants.{NoToken, OpenComment, LargeConstant}
use Rattle.tokens.specs.Spelling.{Symbol, constant, end, trouble, Item, item, Spells}

-- the largest constant
abbrev pub largest : ℕ
largest = 9223372036854775807

-- front is a token, and no longer piece that begins the same source is one
pub record Longest (front : List ℕ) (s : Symbol) (rest : List ℕ) : Type 0 where
  pub spells : Spells front s
  pub longest : (more after : List ℕ) (t : Symbol) → rest ≡ more ++ after → Spells (front ++ more) t → more ≡ []

-- a token that may stand in a source: any but a constant above the largest
abbrev pub Fits : Symbol → Type 0
Fits s = (n : ℕ) → s ≡ constant n → n ≤ largest

-- a comment's body ends here: the first closing after it is the one right behind it
abbrev pub Closes : (body rest : List ℕ) → Type 0
Closes body rest = (x y : List ℕ) → body ++ (codes "*/" ++ rest) ≡ x ++ (codes "*/" ++ y) → length body ≤ length x

-- no closing stands in the text
abbrev pub NeverCloses : List ℕ → Type 0
NeverCloses text = (x y : List ℕ) → text ≢ x ++ (codes "*/" ++ y)

-- no token, comment or blank begins the text
pub record NothingBegins (b : ℕ) (rest : List ℕ) : Type 0 where
  pub no_blank : blank b ≡ false
  pub no_comment : (after : List ℕ) → b ∷ rest ≢ codes "/*" ++ after
  pub no_token : (front after : List ℕ) (s : Symbol) → b ∷ rest ≡ front ++ after → Spells front s → ⊥

-- at the offset, this text has these items: its tokens with their offsets, and last its end or the first trouble
pub data Lexes : ℕ → List ℕ → List Item → Type 0 where
  at_end : (at : ℕ) → Lexes at [] (item end at ∷ [])
  past_blank : (at b : ℕ) (rest : List ℕ) (items : List Item) → blank b ≡ true → Lexes (at + 1) rest items → Lexes at (b ∷ rest) items
  past_comment : (at : ℕ) (body rest : List ℕ) (items : List Item) → Closes body rest → Lexes (at + (length body + 4)) rest items → Lexes at (codes "/*" ++ (body ++ (codes "*/" ++ rest))) items
  past_token : (at : ℕ) (front rest : List ℕ) (s : Symbol) (items : List Item) → Longest front s rest → Fits s → Lexes (at + length front) rest items → Lexes at (front ++ rest) (item s at ∷ items)
  open_comment : (at : ℕ) (text : List ℕ) → NeverCloses text → Lexes at (codes "/*" ++ text) (item (trouble OpenComment) at ∷ [])
  large_constant : (at n : ℕ) (front rest : List ℕ) → Longest front (constant n) rest → largest < n → Lexes at (front ++ rest) (item (trouble LargeConstant) at ∷ [])
  no_token : (at b : ℕ) (rest : List ℕ) → NothingBegins b rest → Lexes at (b ∷ rest) (item (trouble NoToken) at ∷ [])
