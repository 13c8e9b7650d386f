-- What a source reads as. Assumes nothing.
use Rattle.std.specs.Prelude.{◌≡◌, ℕ, Bool, true, false, List, []}
use Rattle.script.specs.declared.types.Declarator.{Declarator}
use Rattle.script.specs.declared.types.Function.{Function}
use Rattle.script.specs.declared.types.Node.{Node}
use Rattle.script.specs.Tree.{Program}
use Rattle.script.specs.Flat.{flat_program, formals_of, functions_of}
use Rattle.tokens.specs.Scan.{lexed}
use Rattle.grammar.specs.Refusals.{Outcome, reads, refuses}
use Rattle.grammar.specs.Parse.{outcome}

abbrev pub is_reads : Outcome → Bool
is_reads (reads p) = true
is_reads (refuses o n) = false

abbrev pub program_of : Outcome → Program
program_of (reads p) = p
program_of (refuses o n) = []

-- the source is read
abbrev pub is_read : List ℕ → Bool
is_read bs = is_reads (outcome (lexed 0 bs))

-- the program of a source that is read
abbrev pub program_in : List ℕ → Program
program_in bs = program_of (outcome (lexed 0 bs))

-- its code, the table of its functions, and its formals
abbrev pub code_of : List ℕ → List Node
code_of bs = flat_program (program_in bs)

abbrev pub functions_in : List ℕ → List Function
functions_in bs = functions_of 0 0 (program_in bs)

abbrev pub formals_in : List ℕ → List Declarator
formals_in bs = formals_of (program_in bs)

-- the source is read, and these are its code, its functions and its formals
pub record IsScript (bs : List ℕ) (ns : List Node) (fs : List Function) (ds : List Declarator) : Type 0 where
  pub read : is_read bs ≡ true
  pub nodes : ns ≡ code_of bs
  pub functions : fs ≡ functions_in bs
  pub formals : ds ≡ formals_in bs
