-- What reading a source comes to. Assumes nothing.
use Rattle.std.specs.Prelude.{◌≡◌, ℕ, ◌<◌, ◌≤◌, List, [], length, Ok, Err, vec_items, Result}
use Rattle.script.specs.Tree.{Program}
use Rattle.script.specs.Flat.{flat_program, formals_of, functions_of}
use Rattle.tokens.specs.Scan.{lexed}
use Rattle.grammar.specs.Grammar.{Programs}
use Rattle.grammar.specs.Refusals.{tokens, Applies, NoLater}
use Rattle.grammar.specs.Parentheses.{ParenthesesTell}
use Rattle.reader.specs.declared.refusal.ReadRefusal.{ReadRefusal}
use Rattle.reader.specs.declared.read_script.ReadScript.{ReadScript}
use Rattle.reader.specs.Reading.{reason_number}

-- the script is of an empty source
pub record Empty (s : ReadScript) : Type 0 where
  pub source : vec_items s.source ≡ []
  pub nodes : vec_items s.code.nodes ≡ []
  pub functions : vec_items s.code.functions ≡ []
  pub formals : vec_items s.code.formals ≡ []

-- the grammar derives this program from the source's tokens, and no other; a parenthesis in a condition encloses a condition exactly if a comparison stands in it
pub record Derived (bs : List ℕ) (p : Program) : Type 0 where
  pub derived : Programs (tokens (lexed 0 bs)) p
  pub only : (q : Program) → Programs (tokens (lexed 0 bs)) q → q ≡ p
  pub parentheses : ParenthesesTell

-- the source is no program within the limits; this refusal applies, and none that applies is before it
pub record First (bs : List ℕ) (at number : ℕ) : Type 0 where
  pub none : (p : Program) → Programs (tokens (lexed 0 bs)) p → ⊥
  pub applies : Applies (lexed 0 bs) at number
  pub least : (o n : ℕ) → Applies (lexed 0 bs) o n → NoLater at number o n

-- the script is of this source, which reads as this program
pub record HasRead (bs : List ℕ) (s : ReadScript) : Type 0 where
  pub small : length bs ≤ 8192
  pub source : vec_items s.source ≡ bs
  pub program : Program
  pub means : Derived bs program
  pub nodes : vec_items s.code.nodes ≡ flat_program program
  pub functions : vec_items s.code.functions ≡ functions_of 0 0 program
  pub formals : vec_items s.code.formals ≡ formals_of program

-- the source has more than 8,192 bytes, or else its reading is refused so
pub data NotRead (bs : List ℕ) (e : ReadRefusal) : Type 0 where
  too_long : 8192 < length bs → e.at ≡ 8192 → reason_number e.reason ≡ 1 → NotRead bs e
  refused : length bs ≤ 8192 → First bs e.at (reason_number e.reason) → NotRead bs e

abbrev pub ReadOutcome : List ℕ → ReadScript → Result (Unit {0}) ReadRefusal → Type 0
ReadOutcome bs s (Ok x) = HasRead bs s
ReadOutcome bs s (Err e) = NotRead bs e × Empty s
