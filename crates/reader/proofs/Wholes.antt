-- A whole source. Assumes nothing.
use Rattle.std.proofs.Common.{◌≡◌, ℕ, suc, ◌<◌, List, [], ◌∷◌, length, sym, refl, ap, ◌∙◌, arith}
use Rattle.script.specs.declared.types.Declarator.{Declarator}
use Rattle.script.specs.declared.types.Function.{Function}
use Rattle.script.specs.declared.types.Node.{Node}
use Rattle.script.specs.Tree.{Program}
use Rattle.script.specs.Flat.{flat_program, formals_of, functions_of}
use Rattle.tokens.specs.Spelling.{Item}
use Rattle.tokens.specs.Scan.{lexed, lexed_by, front}
use Rattle.grammar.specs.Tokens.{tokens_from}
use Rattle.grammar.specs.Combine.{after, many, peek, ends}
use Rattle.grammar.specs.Parse.{program, outcome, verdict}
use Rattle.grammar.specs.Refusals.{tokens, reads, refuses}
use Rattle.grammar.proofs.Exact.{is_right}
use Rattle.grammar.proofs.Items.{lexed_ended}
use Rattle.grammar.proofs.Telling.{parentheses_tell}
use Rattle.reader.specs.declared.refusal.ReadRefusal.{ReadRefusal}
use Rattle.reader.specs.declared.cursor.Cursor.{Cursor}
use Rattle.reader.specs.declared.code.Code.{Code}
use Rattle.reader.specs.Cursor.{left}
use Rattle.reader.specs.Reading.{Refused, reason_number}
use Rattle.reader.specs.Functions.{WholeProgram}
use Rattle.reader.specs.Whole.{is_reads, is_read, program_of, code_of, functions_in, formals_in, IsScript}
use Rattle.reader.specs.Script.{Derived, First}

-- the empty source is the empty program
pub empty_reads : outcome (lexed 0 []) ≡ reads []
unfolding outcome program many peek after ends lexed lexed_by front
empty_reads = refl

tokens_long : (n : ℕ) (is : List Item) → length (tokens_from n is) ≡ length is
tokens_long n [] = refl
tokens_long n (i ∷ is) = ap suc (tokens_long (suc n) is)

-- a cursor at the start of a source, and code with nothing written yet
module _ (bs : List ℕ) (c : Cursor) (at_start : left c ≡ tokens (lexed 0 bs)) where
  long : length (left c) < suc (length (lexed 0 bs))
  long = let e = ap length at_start in let l = tokens_long 0 (lexed 0 bs) in omega arith

  pub outcome_reads : {e : Cursor} {o p : Code} (w : WholeProgram c e o p) → outcome (lexed 0 bs) ≡ reads w.tree
  unfolding outcome
  outcome_reads {e} w =
      ap (λ ts. verdict (program (suc (length (lexed 0 bs))) ts)) (sym at_start) ∙ ap verdict (w.is (suc (length (lexed 0 bs))) long)

  pub outcome_refuses : {r : ReadRefusal} → Refused program c r → outcome (lexed 0 bs) ≡ refuses r.at (reason_number r.reason)
  unfolding outcome
  outcome_refuses {r} b =
      ap (λ ts. verdict (program (suc (length (lexed 0 bs))) ts)) (sym at_start) ∙ ap verdict (b.is (suc (length (lexed 0 bs))) long)
      ∙ (λ i. refuses (sym b.told.at i) (sym b.told.number i))

-- a source that reads as this program, and what is written for it
pub is_script : (bs : List ℕ) (p : Program) → outcome (lexed 0 bs) ≡ reads p → IsScript bs (flat_program p) (functions_of 0 0 p) (formals_of p)
is_script bs p e = record {
  read = ap is_reads e;
  nodes = ap (λ o. flat_program (program_of o)) (sym e);
  functions = ap (λ o. functions_of 0 0 (program_of o)) (sym e);
  formals = ap (λ o. formals_of (program_of o)) (sym e);
}

pub script_from : (bs cs : List ℕ) (p : Program) {ns : List Node} {fs : List Function} {ds : List Declarator} → cs ≡ bs → outcome (lexed 0 bs) ≡ reads p → ns ≡ flat_program p → fs ≡ functions_of 0 0 p → ds ≡ formals_of p → IsScript cs ns fs ds
script_from bs cs p b e n f d =
    let s = is_script bs p e in
    record {
      read = ap is_read b ∙ s.read;
      nodes = n ∙ s.nodes ∙ ap code_of (sym b);
      functions = f ∙ s.functions ∙ ap functions_in (sym b);
      formals = d ∙ s.formals ∙ ap formals_in (sym b);
    }

-- what a reading means, by what is proved of the grammar
pub means : (bs : List ℕ) (p : Program) → outcome (lexed 0 bs) ≡ reads p → Derived bs p
means bs p e = record {
  derived = is_right.sound (lexed 0 bs) p (lexed_ended bs) e;
  only = λ q d. ap program_of (sym (is_right.complete (lexed 0 bs) q (lexed_ended bs) d) ∙ e);
  parentheses = parentheses_tell;
}

-- a reading is no refusal
reads_apart : (p : Program) (at n : ℕ) → reads p ≡ refuses at n → ⊥
reads_apart p at n e = cc

pub first_refusal_lem : (bs : List ℕ) (at n : ℕ) → outcome (lexed 0 bs) ≡ refuses at n → First bs at n
first_refusal_lem bs at n e = record {
  none = λ p d. reads_apart p at n (sym (is_right.complete (lexed 0 bs) p (lexed_ended bs) d) ∙ e);
  applies = is_right.refused (lexed 0 bs) at n (lexed_ended bs) e;
  least = λ o m a. is_right.least (lexed 0 bs) at n o m (lexed_ended bs) e a;
}
