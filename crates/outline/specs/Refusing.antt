-- The line that says why a script is not read. Assumes nothing.
use Rattle.std.specs.Prelude.{◌≡◌, ℕ, List, codes}
use Rattle.tokens.specs.Spelling.{trouble_words}
use Rattle.reader.specs.declared.refusal.Reason.{Reason}
use Rattle.reader.specs.declared.refusal.Reason.TheVariants.{TooLong, Trouble, Wrong, TooDeep, TooMany}
use Rattle.reader.specs.declared.refusal.ReadRefusal.{ReadRefusal}
use Rattle.reader.specs.declared.read_script.ReadScript.{ReadScript}
use Rattle.reader.specs.Reading.{reason_number}
use Rattle.reader.specs.Script.{HasRead, NotRead}
use Rattle.refusal_line.specs.Line.{refusal_line}

-- why a source is not read, in words
abbrev pub reason_words : Reason → List ℕ
reason_words TooLong = codes "a script has at most 8,192 bytes"
reason_words (Trouble t) = trouble_words t
reason_words Wrong = codes "no program goes on like this"
reason_words TooDeep = codes "this stands inside more than 64 parentheses, braces, prefixes and bodies"
reason_words TooMany = codes "this is token 2,049, and a script has at most 2,048"

-- the line that refuses a source
abbrev pub line_of_refusal : List ℕ → ReadRefusal → List ℕ
line_of_refusal source r = refusal_line source (reason_number r.reason) r.at (reason_words r.reason)

-- a source is read, or a text is the line of a refusal whose offset and number are right; what the text is of a source that is read is not said
pub data ReadOrRefused (bs text : List ℕ) : Type 0 where
  read : (s : ReadScript) → HasRead bs s → ReadOrRefused bs text
  refused : (r : ReadRefusal) → NotRead bs r → text ≡ line_of_refusal bs r → ReadOrRefused bs text
