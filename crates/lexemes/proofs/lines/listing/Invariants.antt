use Rattle.std.proofs.Common.{◌≡◌, map, take, vec_items}
use Rattle.tokens.specs.Spelling.{item_of}
use Rattle.lexemes.specs.Listing.{lines_from}
use Rattle.lexemes.proofs.lines.listing.Given as goal

abbrev pub invariant-loop-index : goal.invariant-loop-index
invariant-loop-index l = record {
  source : l.draft.source.now ≡ l.source;
  text : vec_items l.draft.text ≡ lines_from l.source 0 (map item_of (take l.index l.placed-items));
}
