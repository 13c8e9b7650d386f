use Rattle.std.proofs.Common.{sym, ◌∙◌, arith}
use Rattle.reader.proofs.Exits.{exits}
use Rattle.grammar.specs.Parse.{declarator}
use Rattle.reader.proofs.Says.{at_start, takes, leaves, stops}
use Rattle.reader.proofs.Heads.{headed}
use Rattle.reader.proofs.cursor.Cursor.declarator.Goals as goal

pub returns-in_err-take : goal.returns-in_err-take
returns-in_err-take c =
    rw (exits c.from_residual.result c.from_residual.ensures.1)
    (stops _ _ _ _ (at_start (λ g. declarator c.args.depth) c.args.self.now) (sym c.at_keyword.ensures.value ∙ c.if-at_keyword.true) c.in_err-take.ensures)

pub returns-then-at_keyword : goal.returns-then-at_keyword
returns-then-at_keyword c =
    let w = c.in_ok-take.ensures in
    let l = takes _ _ _ _ (at_start (λ g. declarator c.args.depth) c.args.self.now) (sym c.at_keyword.ensures.value ∙ c.if-at_keyword.true) w in
    headed c.typed.result _ l (omega (arith, w.taken)) c.typed.ensures

pub returns : goal.returns
returns c =
    let l = leaves _ _ _ _ (at_start (λ g. declarator c.args.depth) c.args.self.now) (sym c.at_keyword.ensures.value ∙ c.if-at_keyword.false) in
    headed c.typed-2.result _ l (omega arith) c.typed-2.ensures
