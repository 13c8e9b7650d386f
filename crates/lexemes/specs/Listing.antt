-- The text that lists the items of a script. Assumes nothing.
use Rattle.std.specs.Prelude.{ℕ, suc, cond, List, [], ◌∷◌, ◌++◌, length, take, drop, Some, None, codes, decimal, Option, nat_lt}
use Rattle.std.specs.Char.{is_ascii_digit}
use Rattle.refusal_line.specs.Line.{refusal_line}
use Rattle.tokens.specs.Spelling.{Symbol, name, constant, keyword, mark, end, trouble, Item, keyword_text, mark_text, trouble_number, trouble_words}
use Rattle.std.specs.List.{take_while}
use Rattle.lexemes.specs.declared.refusal.Reason.{Reason}
use Rattle.lexemes.specs.declared.refusal.Reason.TheVariants.{LongSource, ManyTokens, Trouble as ByTrouble}

abbrev pub reason_number : Reason → ℕ
reason_number LongSource = 1
reason_number ManyTokens = 6
reason_number (ByTrouble t) = trouble_number t

abbrev pub reason_words : Reason → List ℕ
reason_words LongSource = codes "a script has at most 8,192 bytes"
reason_words ManyTokens = codes "this is token 2,049, and a script has at most 2,048"
reason_words (ByTrouble t) = trouble_words t

-- the line that refuses a source at an offset
abbrev pub reason_line : List ℕ → Reason → ℕ → List ℕ
reason_line source r at = refusal_line source (reason_number r) at (reason_words r)

-- the digits that a text begins with
unfoldable pub digits_of : List ℕ → List ℕ
digits_of bs = take_while is_ascii_digit bs

abbrev pub kind_text : Symbol → List ℕ
kind_text (name w) = codes "name"
kind_text (constant n) = codes "constant"
kind_text (keyword k) = codes "keyword"
kind_text (mark m) = codes "mark"
kind_text end = codes "end"
kind_text (trouble t) = codes "trouble"

-- how a symbol is spelled at the offset; what is no token has no spelling
abbrev pub spelling : List ℕ → ℕ → Symbol → List ℕ
spelling source at (name w) = w
spelling source at (constant n) = digits_of (drop at source)
spelling source at (keyword k) = keyword_text k
spelling source at (mark m) = mark_text m
spelling source at end = []
spelling source at (trouble t) = []

abbrev pub after_blank : List ℕ → List ℕ
after_blank [] = []
after_blank (b ∷ bs) = codes " " ++ (b ∷ bs)

-- OFFSET KIND SPELLING
abbrev pub item_line : List ℕ → Item → List ℕ
item_line source x = (decimal x.at ++ (codes " " ++ kind_text x.symbol)) ++ (after_blank (spelling source x.at x.symbol) ++ codes "\n")

-- why the item that has so many before it is refused, if it is
abbrev pub too_many : ℕ → Option Reason
too_many n = cond (nat_lt n 2048) None (Some ManyTokens)

abbrev pub reason_at : ℕ → Symbol → Option Reason
reason_at n (name w) = too_many n
reason_at n (constant m) = too_many n
reason_at n (keyword k) = too_many n
reason_at n (mark m) = too_many n
reason_at n end = None
reason_at n (trouble t) = Some (ByTrouble t)

abbrev pub line_by : List ℕ → Item → Option Reason → List ℕ
line_by source x None = item_line source x
line_by source x (Some r) = reason_line source r x.at

-- the lines of the items that have n before them
unfoldable pub lines_from : List ℕ → ℕ → List Item → List ℕ
lines_from source n [] = []
lines_from source n (x ∷ xs) = line_by source x (reason_at n x.symbol) ++ lines_from source (suc n) xs

-- the listing of a source that has these items
abbrev pub listing_of : List ℕ → List Item → List ℕ
listing_of source items = cond (nat_lt 8192 (length source)) (reason_line source LongSource 8192) (lines_from source 0 (take 2049 items))
