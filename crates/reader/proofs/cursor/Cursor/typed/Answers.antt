use Rattle.std.proofs.Common.{suc, length, sym, ◌∙◌, arith}
use Rattle.reader.proofs.Exits.{exits}
use Rattle.grammar.specs.Combine.{out_done}
use Rattle.grammar.specs.Parse.{typed}
use Rattle.reader.specs.Cursor.{left}
use Rattle.reader.proofs.Steps.{shorter}
use Rattle.reader.proofs.Says.{at_start, takes, leaves, stops, refuses}
use Rattle.reader.proofs.cursor.Cursor.typed.Goals as goal

pub returns-in_default : goal.returns-in_default
returns-in_default c =
    refuses (leaves _ _ _ _ (at_start (λ g. typed c.args.depth c.args.mutable) c.args.self.now) c.in_default.ensures) c.wrong.ensures

pub returns-in_err-take : goal.returns-in_err-take
returns-in_err-take c =
    rw (exits c.from_residual.result c.from_residual.ensures.1)
    (stops _ _ _ _ (at_start (λ g. typed c.args.depth c.args.mutable) c.args.self.now) c.in-Some.ensures.0 c.in_err-take.ensures)

pub returns-in_default-name : goal.returns-in_default-name
returns-in_default-name c =
    let l = takes _ _ _ _ (at_start (λ g. typed c.args.depth c.args.mutable) c.args.self.now) c.in-Some.ensures.0 c.in_ok-take.ensures in
    refuses (leaves _ _ _ _ l c.in_default-name.ensures) c.wrong-in_default-name.ensures

pub returns-in_err-take-2 : goal.returns-in_err-take-2
returns-in_err-take-2 c =
    let l = takes _ _ _ _ (at_start (λ g. typed c.args.depth c.args.mutable) c.args.self.now) c.in-Some.ensures.0 c.in_ok-take.ensures in
    rw (exits c.from_residual-in_err-take-2.result c.from_residual-in_err-take-2.ensures.1) (stops _ _ _ _ l c.in-Some-name.ensures.0 c.in_err-take-2.ensures)

pub returns : goal.returns
returns c =
    let a = c.in_ok-take.ensures in
    let b = c.in_ok-take-2.ensures in
    let l = takes _ _ _ _ (at_start (λ g. typed c.args.depth c.args.mutable) c.args.self.now) c.in-Some.ensures.0 a in
    let m = takes _ _ _ _ l c.in-Some-name.ensures.0 b in
    let n = shorter a in
    let o = shorter b in
    record {
      is = m.is (suc (length (left c.args.self.now))) (omega arith)
          ∙ (λ i. out_done (record { mutable = c.args.mutable; ty = sym c.in-Some.ensures.1 i; name = sym c.in-Some-name.ensures.1 i }) (left c.take-2.new.self));
      on = omega (arith, a.taken, b.taken);
      fall = omega arith;
    }
