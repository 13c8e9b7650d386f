-- How tokens are spelled. Assumes nothing.
use Rattle.std.specs.Prelude.{◌≡◌, ℕ, ◌+◌, ◌-◌, ◌*◌, Bool, true, cond, List, [], ◌∷◌, codes, ◌≢◌}
use Rattle.byte_class.specs.Classes.{letter, digit}
use Rattle.tokens.specs.declared.types.Keyword.{Keyword}
use Rattle.tokens.specs.declared.types.Keyword.TheVariants.{Mutable, Int, Ref, Q, If, Else, While, Free, Print, Return, Nil}
use Rattle.tokens.specs.declared.types.Mark.{Mark}
use Rattle.tokens.specs.declared.types.Mark.TheVariants.{LeftParen, RightParen, LeftBrace, RightBrace, Comma, Semicolon, Assign, Plus, Minus, Star, Dot, Less, Greater, LessEqual, GreaterEqual, EqualEqual, NotEqual, Not, AndAnd, OrOr}
use Rattle.tokens.specs.declared.types.Trouble.{Trouble}
use Rattle.tokens.specs.declared.types.Trouble.TheVariants.{NoToken, OpenComment, LargeConstant}
use Rattle.tokens.specs.declared.types.Token.{Token}
use Rattle.tokens.specs.declared.types.Token.TheVariants.{Name, Constant, Keyword as AKeyword, Mark as AMark, End, Trouble as ATrouble}
use Rattle.tokens.specs.declared.types.Placed.{Placed}

-- the bytes of a keyword
abbrev pub keyword_text : Keyword → List ℕ
keyword_text Mutable = codes "mutable"
keyword_text Int = codes "int"
keyword_text Ref = codes "Ref"
keyword_text Q = codes "Q"
keyword_text If = codes "if"
keyword_text Else = codes "else"
keyword_text While = codes "while"
keyword_text Free = codes "free"
keyword_text Print = codes "print"
keyword_text Return = codes "return"
keyword_text Nil = codes "nil"

-- the bytes of a mark
abbrev pub mark_text : Mark → List ℕ
mark_text LeftParen = codes "("
mark_text RightParen = codes ")"
mark_text LeftBrace = codes "{"
mark_text RightBrace = codes "}"
mark_text Comma = codes ","
mark_text Semicolon = codes ";"
mark_text Assign = codes "="
mark_text Plus = codes "+"
mark_text Minus = codes "-"
mark_text Star = codes "*"
mark_text Dot = codes "."
mark_text Less = codes "<"
mark_text Greater = codes ">"
mark_text LessEqual = codes "<="
mark_text GreaterEqual = codes ">="
mark_text EqualEqual = codes "=="
mark_text NotEqual = codes "!="
mark_text Not = codes "!"
mark_text AndAnd = codes "&&"
mark_text OrOr = codes "||"

-- what a token stands for: a name by its bytes, a constant by its value, a keyword, a mark; then the end of the source, and why no token could be taken
pub data Symbol : Type 0 where
  name : List ℕ → Symbol
  constant : ℕ → Symbol
  keyword : Keyword → Symbol
  mark : Mark → Symbol
  end : Symbol
  trouble : Trouble → Symbol

-- a symbol and the offset of its first byte
pub record Item : Type 0 where
  pub symbol : Symbol
  pub at : ℕ

abbrev pub item : Symbol → ℕ → Item
item s i = record { symbol = s; at = i }

-- every byte of a list passes a test
abbrev pub All : (ℕ → Bool) → List ℕ → Type 0
All p [] = Unit {0}
All p (b ∷ bs) = (p b ≡ true) × All p bs

-- a letter or a digit
abbrev pub wordy : ℕ → Bool
wordy b = cond (letter b) true (digit b)

-- a decimal number with more digits after it
abbrev pub reading_from : ℕ → List ℕ → ℕ
reading_from n [] = n
reading_from n (d ∷ ds) = reading_from (n * 10 + (d - 48)) ds

-- the decimal reading of digits
abbrev pub reading : List ℕ → ℕ
reading ds = reading_from 0 ds

-- these bytes are this token: a keyword, a mark, a run of digits, or a letter with letters and digits after it that is no keyword
pub data Spells : List ℕ → Symbol → Type 0 where
  a_keyword : (k : Keyword) → Spells (keyword_text k) (keyword k)
  a_mark : (m : Mark) → Spells (mark_text m) (mark m)
  a_constant : (d : ℕ) (ds : List ℕ) → digit d ≡ true → All digit ds → Spells (d ∷ ds) (constant (reading (d ∷ ds)))
  a_name : (b : ℕ) (bs : List ℕ) → letter b ≡ true → All wordy bs → ((k : Keyword) → b ∷ bs ≢ keyword_text k) → Spells (b ∷ bs) (name (b ∷ bs))

-- what a token of the code stands for
abbrev pub symbol_of : Token → Symbol
symbol_of (Name s) = name s.now
symbol_of (Constant n) = constant n
symbol_of (AKeyword k) = keyword k
symbol_of (AMark m) = mark m
symbol_of End = end
symbol_of (ATrouble t) = trouble t

abbrev pub item_of : Placed → Item
item_of p = item (symbol_of p.token) p.at

-- the number of a refusal for a trouble
abbrev pub trouble_number : Trouble → ℕ
trouble_number NoToken = 2
trouble_number OpenComment = 2
trouble_number LargeConstant = 3

-- why no token could be taken, in words
abbrev pub trouble_words : Trouble → List ℕ
trouble_words NoToken = codes "no token begins with this byte"
trouble_words OpenComment = codes "this comment is never closed"
trouble_words LargeConstant = codes "this constant is above 9223372036854775807"
