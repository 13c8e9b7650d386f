use Rattle.std.proofs.Common.{◌<◌, length, vec_items, sym, ap, arith}
use Rattle.tokens.proofs.Kept.{sofar_none, sofar_more, token_first}
use Rattle.tokens.proofs.list.TokenList.take_all.Goals as goal

pub loop-lexer-init : goal.loop-lexer-init
loop-lexer-init c =
    let long = c.args.self.now.items.ok.0 in
    let none = ap length c.requires in
    (omega arith, sofar_none _ _ c.requires)

pub loop-lexer-preserved : goal.loop-lexer-preserved
loop-lexer-preserved c =
    let long = c.loop-lexer.self.items.ok.0 in
    let fits : length (vec_items c.loop-lexer.self.items) < 2049 = omega arith in
    let first = token_first c.loop-lexer.lexer c.next_token-placed.new.self c.next_token-placed.result c.next_token-placed.ensures (sym c.if-is_last.ensures) in
    (omega arith, sofar_more _ _ _ _ _ _ fits c.loop-lexer.invariant.1 first c.push_reserved.ensures.items)
