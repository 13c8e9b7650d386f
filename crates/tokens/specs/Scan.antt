-- The items of a source, computed. Assumes nothing.
use Rattle.std.specs.Prelude.{◌≡◌, ℕ, ◌≤◌, slice_index, zero, suc, ◌+◌, Bool, true, false, cond, ◌&&◌, List, [], ◌∷◌, length, drop, Some, None, Option, ◌==◌, nat_le}
use Rattle.std.specs.List.{find, take_while}
use Rattle.std.specs.Str.{bytes_eq}
use Rattle.byte_class.specs.Classes.{class_of, digit}
use Rattle.byte_class.specs.declared.Class.{Class}
use Rattle.byte_class.specs.declared.Class.TheVariants as class
use Rattle.tokens.specs.declared.types.Keyword.{Keyword}
use Rattle.tokens.specs.declared.types.Keyword.TheVariants.{Mutable, Int, Ref, Q, If, Else, While, Free, Print, Return, Nil}
use Rattle.tokens.specs.declared.types.Mark.{Mark}
use Rattle.tokens.specs.declared.types.Mark.TheVariants.{LeftParen, RightParen, LeftBrace, RightBrace, Comma, Semicolon, Assign, Plus, Minus, Star, Dot, Less, Greater, LessEqual, GreaterEqual, EqualEqual, NotEqual, Not, AndAnd, OrOr}
use Rattle.tokens.specs.declared.types.Trouble.TheVariants.{NoToken, OpenComment, LargeConstant}
use Rattle.tokens.specs.Spelling.{Symbol, name, constant, keyword, mark, end, trouble, Item, item, keyword_text, wordy, reading}
use Rattle.tokens.specs.Lexing.{largest}

-- calls that may answer so of a byte answer as the test does
abbrev pub Answers : (ℕ → Bool → Type 0) → (ℕ → Bool) → Type 0
Answers gives p = (b : ℕ) (r : Bool) → gives b r → r ≡ p b

-- the byte stands first
abbrev pub starts : ℕ → List ℕ → Bool
starts x [] = false
starts x (b ∷ bs) = b == x

-- all keywords
abbrev pub keywords : List Keyword
keywords = Mutable ∷ Int ∷ Ref ∷ Q ∷ If ∷ Else ∷ While ∷ Free ∷ Print ∷ Return ∷ Nil ∷ []

-- the keyword that is spelled so
unfoldable pub keyword_of : List ℕ → Option Keyword
keyword_of bs = find (λ k. bytes_eq bs (keyword_text k)) keywords

-- the value of a constant that is small enough
unfoldable pub value_of : List ℕ → Option ℕ
value_of ds = cond (nat_le (reading ds) largest) (Some (reading ds)) None

-- a comment closes after so many bytes
abbrev pub ClosesAt : List ℕ → ℕ → Type 0
ClosesAt bs n = (n + 2 ≤ length bs) × (slice_index bs n ≡ 42) × (slice_index bs (n + 1) ≡ 47)

-- so many bytes further on
abbrev pub later : ℕ → Option ℕ → Option ℕ
later i None = None
later i (Some n) = Some (i + n)

-- how many bytes stand before the first closing of a comment
unfoldable pub closing : List ℕ → Option ℕ
closing [] = None
closing (b ∷ bs) = cond (b == 42 && starts 47 bs) (Some 0) (later 1 (closing bs))

-- what stands first: so many bytes to skip, a token of so many bytes, or an end
pub data Front : Type 0 where
  gap : ℕ → Front
  found : ℕ → Symbol → Front
  stop : Symbol → Front

abbrev pub word_symbol : List ℕ → Option Keyword → Symbol
word_symbol w None = name w
word_symbol w (Some k) = keyword k

abbrev pub word : List ℕ → Front
word w = found (length w) (word_symbol w (keyword_of w))

abbrev pub number_by : ℕ → Option ℕ → Front
number_by n None = stop (trouble LargeConstant)
number_by n (Some v) = found n (constant v)

abbrev pub number : List ℕ → Front
number ds = number_by (length ds) (value_of ds)

abbrev pub comment_by : Option ℕ → Front
comment_by None = stop (trouble OpenComment)
comment_by (Some n) = gap (n + 4)

-- what begins with a slash, by the text after it
abbrev pub comment : List ℕ → Front
comment bs = cond (starts 42 bs) (comment_by (closing (drop 1 bs))) (stop (trouble NoToken))

-- a mark of one byte
abbrev pub one : Mark → Front
one m = found 1 (mark m)

-- a mark of two bytes if the second stands there, else one of one byte
abbrev pub one_or_two : ℕ → Mark → Mark → List ℕ → Front
one_or_two x m n bs = cond (starts x bs) (found 2 (mark n)) (one m)

-- a mark of two bytes if the second stands there, else nothing
abbrev pub two : ℕ → Mark → List ℕ → Front
two x n bs = cond (starts x bs) (found 2 (mark n)) (stop (trouble NoToken))

-- what begins with a byte of the class, by that byte and the text after it
abbrev pub front_by : Class → ℕ → List ℕ → Front
front_by class.Letter b bs = word (b ∷ take_while wordy bs)
front_by class.Digit b bs = number (b ∷ take_while digit bs)
front_by class.Blank b bs = gap 1
front_by class.LeftParen b bs = one LeftParen
front_by class.RightParen b bs = one RightParen
front_by class.LeftBrace b bs = one LeftBrace
front_by class.RightBrace b bs = one RightBrace
front_by class.Comma b bs = one Comma
front_by class.Semicolon b bs = one Semicolon
front_by class.Equals b bs = one_or_two 61 Assign EqualEqual bs
front_by class.Plus b bs = one Plus
front_by class.Minus b bs = one Minus
front_by class.Star b bs = one Star
front_by class.Dot b bs = one Dot
front_by class.Less b bs = one_or_two 61 Less LessEqual bs
front_by class.Greater b bs = one_or_two 61 Greater GreaterEqual bs
front_by class.Bang b bs = one_or_two 61 Not NotEqual bs
front_by class.Ampersand b bs = two 38 AndAnd bs
front_by class.Pipe b bs = two 124 OrOr bs
front_by class.Slash b bs = comment bs
front_by class.Other b bs = stop (trouble NoToken)

unfoldable pub front : List ℕ → Front
front [] = stop end
front (b ∷ bs) = front_by (class_of b) b bs

-- the items of a text, by what stands first in it at the offset and by the items after its first bytes
abbrev pub items_by : (ℕ → List Item) → ℕ → Front → List Item
items_by after at (gap k) = after k
items_by after at (found k s) = item s at ∷ after k
items_by after at (stop s) = item s at ∷ []

-- the items of a text at an offset, in at most so many turns
unfoldable pub lexed_by : ℕ → ℕ → List ℕ → List Item
lexed_by zero at bs = []
lexed_by (suc n) at bs = items_by (λ k. lexed_by n (at + k) (drop k bs)) at (front bs)

-- the items of a text at an offset: each turn passes a byte or is the last
unfoldable pub lexed : ℕ → List ℕ → List Item
lexed at bs = lexed_by (suc (length bs)) at bs

-- nothing comes after the end of the source or a trouble
abbrev pub final : Symbol → Bool
final (name w) = false
final (constant n) = false
final (keyword k) = false
final (mark m) = false
final end = true
final (trouble t) = true
