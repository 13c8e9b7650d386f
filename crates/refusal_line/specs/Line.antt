-- The text of a refusal. Assumes nothing.
use Rattle.std.specs.Prelude.{ℕ, ◌+◌, ◌-◌, ◌^◌, min, List, ◌++◌, take, codes, decimal}
use Rattle.position.specs.Lines.{breaks, since_break}

-- the line and the column of an offset, as they are counted in 64 bits
abbrev pub line_of : List ℕ → ℕ → ℕ
line_of source at = min (breaks (take at source) + 1) (2 ^ 64 - 1)

-- the column of an offset, likewise
abbrev pub column_of : List ℕ → ℕ → ℕ
column_of source at = min (since_break 0 (take at source) + 1) (2 ^ 64 - 1)

-- LINE:COLUMN: refused with NUMBER at offset OFFSET: WORDS
unfoldable pub refusal_text : (line column number at : ℕ) → List ℕ → List ℕ
refusal_text line column number at words =
    decimal line ++ (codes ":" ++ (decimal column ++ (codes ": refused with " ++ (decimal number ++ (codes " at offset " ++ (decimal at ++ (codes ": " ++ (words ++ codes "\n"))))))))

-- that line for a source that is refused at an offset
abbrev pub refusal_line : List ℕ → ℕ → ℕ → List ℕ → List ℕ
refusal_line source number at words = refusal_text (line_of source at) (column_of source at) number at words
