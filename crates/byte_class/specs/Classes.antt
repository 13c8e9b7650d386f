-- The class of a byte, as a formula over its value. Assumes nothing.
use Rattle.std.specs.Prelude.{ℕ, Bool, true, false, cond, List, [], ◌∷◌, codes, ◌==◌, nat_le, slice_index}
use Rattle.byte_class.specs.declared.Class.{Class}
use Rattle.byte_class.specs.declared.Class.TheVariants.{Letter, Digit, Blank, LeftParen, RightParen, LeftBrace, RightBrace, Comma, Semicolon, Equals, Plus, Minus, Star, Dot, Less, Greater, Bang, Ampersand, Pipe, Slash, Other}

-- lo to hi, both included
abbrev pub within : ℕ → ℕ → ℕ → Bool
within lo hi b = cond (nat_le lo b) (nat_le b hi) false

-- one of the bytes of a list
abbrev pub among : List ℕ → ℕ → Bool
among [] b = false
among (x ∷ xs) b = cond (b == x) true (among xs b)

-- A to Z, a to z and _
abbrev pub letter : ℕ → Bool
letter b = cond (within 65 90 b) true (cond (within 97 122 b) true (b == 95))

-- 0 to 9
abbrev pub digit : ℕ → Bool
digit b = within 48 57 b

-- tab, line feed, carriage return, space
abbrev pub blank : ℕ → Bool
blank b = among (9 ∷ 10 ∷ 13 ∷ 32 ∷ []) b

-- the one byte of a text that has one
abbrev pub byte : List ℕ → ℕ
byte text = slice_index text 0

-- the byte of each class that has just one; 0 stands for no such byte
abbrev pub byte_of : Class → ℕ
byte_of Letter = 0
byte_of Digit = 0
byte_of Blank = 0
byte_of LeftParen = byte (codes "(")
byte_of RightParen = byte (codes ")")
byte_of LeftBrace = byte (codes "{")
byte_of RightBrace = byte (codes "}")
byte_of Comma = byte (codes ",")
byte_of Semicolon = byte (codes ";")
byte_of Equals = byte (codes "=")
byte_of Plus = byte (codes "+")
byte_of Minus = byte (codes "-")
byte_of Star = byte (codes "*")
byte_of Dot = byte (codes ".")
byte_of Less = byte (codes "<")
byte_of Greater = byte (codes ">")
byte_of Bang = byte (codes "!")
byte_of Ampersand = byte (codes "&")
byte_of Pipe = byte (codes "|")
byte_of Slash = byte (codes "/")
byte_of Other = 0

-- the classes of one byte
abbrev pub marks : List Class
marks =
    LeftParen ∷ RightParen ∷ LeftBrace ∷ RightBrace ∷ Comma ∷ Semicolon ∷ Equals ∷ Plus ∷ Minus ∷ Star
    ∷ Dot ∷ Less ∷ Greater ∷ Bang ∷ Ampersand ∷ Pipe ∷ Slash ∷ []

-- the class of a list whose byte this is, or Other
abbrev pub mark_of : List Class → ℕ → Class
mark_of [] b = Other
mark_of (c ∷ cs) b = cond (b == byte_of c) c (mark_of cs b)

-- the class of a byte
abbrev pub class_of : ℕ → Class
class_of b = cond (letter b) Letter (cond (digit b) Digit (cond (blank b) Blank (mark_of marks b)))
