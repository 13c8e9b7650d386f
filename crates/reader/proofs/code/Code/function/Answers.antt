use Rattle.std.proofs.Common.{◌-◌, refl, ap, arith}
use Rattle.reader.proofs.Exits.{exits}
use Rattle.tokens.specs.declared.types.Mark.TheVariants as sign
use Rattle.grammar.specs.Parse.{function}
use Rattle.reader.proofs.Says.{at_start, takes, goes_on, breaks, wants, unwanted, unexpected}
use Rattle.reader.proofs.Programs.{function_written, function_shorter, function_some}
use Rattle.reader.proofs.code.Code.function.Goals as goal

pub returns-in_err-head : goal.returns-in_err-head
returns-in_err-head c =
    rw (exits c.from_residual.result c.from_residual.ensures.1) (breaks _ _ (at_start function c.args.cursor.now) c.in_err-head.ensures)

pub returns-in_err-expect : goal.returns-in_err-expect
returns-in_err-expect c =
    let d = c.in_ok-head.ensures in
    let l1 = goes_on _ _ (at_start function c.args.cursor.now) _ (λ g lt. d.is) (omega (arith, d.fall)) in
    rw (exits c.from_residual-in_err-expect.result c.from_residual-in_err-expect.ensures.1) (unwanted _ _ _ l1 c.in_err-expect.ensures)

pub returns-in_err-formals_after : goal.returns-in_err-formals_after
returns-in_err-formals_after c =
    let d = c.in_ok-head.ensures in
    let l1 = goes_on _ _ (at_start function c.args.cursor.now) _ (λ g lt. d.is) (omega (arith, d.fall)) in
    let l2 = wants _ sign.LeftParen _ l1 c.in_ok-expect.ensures in
    rw (exits c.from_residual-in_err-formals_after.result c.from_residual-in_err-formals_after.ensures.1) (breaks _ _ l2 c.in_err-formals_after.ensures)

pub returns-in_err-expect-2 : goal.returns-in_err-expect-2
returns-in_err-expect-2 c =
    let d = c.in_ok-head.ensures in
    let l1 = goes_on _ _ (at_start function c.args.cursor.now) _ (λ g lt. d.is) (omega (arith, d.fall)) in
    let l2 = wants _ sign.LeftParen _ l1 c.in_ok-expect.ensures in
    let f = c.in_ok-formals_after.ensures in
    let l3 = goes_on _ _ l2 f.list f.is f.listing.kept.fall in
    rw (exits c.from_residual-in_err-expect-2.result c.from_residual-in_err-expect-2.ensures.1) (unwanted _ _ _ l3 c.in_err-expect-2.ensures)

pub returns-in_err-statements : goal.returns-in_err-statements
returns-in_err-statements c =
    let d = c.in_ok-head.ensures in
    let l1 = goes_on _ _ (at_start function c.args.cursor.now) _ (λ g lt. d.is) (omega (arith, d.fall)) in
    let l2 = wants _ sign.LeftParen _ l1 c.in_ok-expect.ensures in
    let f = c.in_ok-formals_after.ensures in
    let l3 = goes_on _ _ l2 f.list f.is f.listing.kept.fall in
    let l4 = wants _ sign.LeftBrace _ l3 c.in_ok-expect-2.ensures in
    rw (exits c.from_residual-in_err-statements.result c.from_residual-in_err-statements.ensures.1) (breaks _ _ l4 c.in_err-statements.ensures)

pub returns-in_err-expect-3 : goal.returns-in_err-expect-3
returns-in_err-expect-3 c =
    let d = c.in_ok-head.ensures in
    let l1 = goes_on _ _ (at_start function c.args.cursor.now) _ (λ g lt. d.is) (omega (arith, d.fall)) in
    let l2 = wants _ sign.LeftParen _ l1 c.in_ok-expect.ensures in
    let f = c.in_ok-formals_after.ensures in
    let l3 = goes_on _ _ l2 f.list f.is f.listing.kept.fall in
    let l4 = wants _ sign.LeftBrace _ l3 c.in_ok-expect-2.ensures in
    let s = c.in_ok-statements.ensures in
    let l5 = goes_on _ _ l4 s.tree s.is s.moved.fall in
    rw (exits c.from_residual-in_err-expect-3.result c.from_residual-in_err-expect-3.ensures.1) (unexpected _ sign.RightBrace _ l5 c.in_err-expect-3.ensures)

pub returns : goal.returns
returns c =
    let d = c.in_ok-head.ensures in
    let l1 = goes_on _ _ (at_start function c.args.cursor.now) _ (λ g lt. d.is) (omega (arith, d.fall)) in
    let l2 = wants _ sign.LeftParen _ l1 c.in_ok-expect.ensures in
    let f = c.in_ok-formals_after.ensures in
    let l3 = goes_on _ _ l2 f.list f.is f.listing.kept.fall in
    let l4 = wants _ sign.LeftBrace _ l3 c.in_ok-expect-2.ensures in
    let s = c.in_ok-statements.ensures in
    let l5 = goes_on _ _ l4 s.tree s.is s.moved.fall in
    let l6 = takes _ _ _ _ l5 c.in_ok-expect-3.ensures.0 c.in_ok-expect-3.ensures.1 in
    record {
      tree = record { head = c.in_ok-head.head; formals = f.list; body = s.tree; close = c.statements.new.cursor.here.at };
      is = l6.is;
      written =
          function_written c.in_ok-head.head d c.in_ok-expect.ensures.1 f c.in_ok-expect-2.ensures.1 s c.in_ok-expect-3.ensures.1 c.len-first.result (c.len.result - c.len-first.result) c.len-entry.result
          c.push.ensures
          c.len-first.ensures (ap (λ n. n - c.len-first.result) c.len.ensures) c.len-entry.ensures
          c.push-2.ensures
          (record { items = c.push_reserved.ensures.items; len = c.push_reserved.ensures.len; cap = c.push_reserved.ensures.capacity; nodes = refl; formals = refl });
      shorter = function_shorter c.in_ok-head.head d c.in_ok-expect.ensures.1 f c.in_ok-expect-2.ensures.1 s c.in_ok-expect-3.ensures.1;
      some = function_some c.in_ok-head.head d c.in_ok-expect.ensures.1 f c.in_ok-expect-2.ensures.1 s c.in_ok-expect-3.ensures.1;
    }
