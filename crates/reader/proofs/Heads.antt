-- The head of a declaration. Assumes nothing.
use Rattle.std.proofs.Common.{suc, ◌≤◌, length, Ok, Err, Result, ◌∙◌, arith}
use Rattle.script.specs.declared.types.Declarator.{Declarator}
use Rattle.grammar.specs.Combine.{Parser}
use Rattle.reader.specs.declared.refusal.ReadRefusal.{ReadRefusal}
use Rattle.reader.specs.declared.cursor.Cursor.{Cursor}
use Rattle.reader.specs.Cursor.{left}
use Rattle.reader.specs.Statements.{Leads, Declares}
use Rattle.reader.proofs.Says.{hands_on}

-- a head that is read by what f has come to
pub headed : (r : Result Declarator ReadRefusal) {f h : Parser Declarator} {c e : Cursor} (i : Cursor) → Leads 0 (λ g. f) c (λ g. h) e → c.taken ≤ e.taken → Declares h e i r → Declares f c i r
headed (Ok x) {f} {h} {c} i l le d = record {
  is = l.is (suc (length (left c))) (omega arith) ∙ d.is;
  on = omega (arith, d.on);
  fall = omega (arith, d.fall, l.fall);
}
headed (Err r) i l le d = hands_on l d
