use Rattle.std.proofs.Common.{◌++◌, get_or, vec_items, refl, ap, ◌∙◌}
use Rattle.tokens.specs.Spelling.{symbol_of, item_of}
use Rattle.lexemes.specs.Listing.{reason_at, line_by, lines_from}
use Rattle.lexemes.proofs.Pieces.{lines_more}
use Rattle.lexemes.proofs.lines.listing.Goals as goal

pub loop-index-init : goal.loop-index-init
unfolding lines_from
loop-index-init c = record { source = refl; text = c.new.ensures.items }

pub loop-index-preserved : goal.loop-index-preserved
loop-index-preserved c =
    let grown = c.in_ok-push_line.ensures in
    let draft = c.loop-index.draft in
    let i = c.loop-index.index in
    let p = get_or c.items-placed-items.result.now i _ in
    record {
      source = ap (λ s. s.now) grown.source ∙ c.loop-index.invariant.source;
      text = lines_more c.args.source.now c.items-placed-items.result.now i _ _ _ c.loop-index-test.true c.loop-index.invariant.text (grown.text ∙ ap (λ s. vec_items draft.text ++ line_by s (item_of p) (reason_at i (symbol_of p.token))) c.loop-index.invariant.source);
    }
