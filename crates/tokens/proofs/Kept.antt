-- What a list that is being filled has of the items to come. Assumes nothing.
use Rattle.std.proofs.Common.{◌≡◌, suc, ◌-◌, ◌<◌, false, List, [], ◌∷◌, ◌++◌, map, length, take, sym, ap, ◌∙◌, append_assoc, arith, length-append}
use Rattle.std.proofs.lemmas.List.{map_push}
use Rattle.std.proofs.lemmas.Bool.{cond-false}
use Rattle.tokens.specs.declared.types.Placed.{Placed}
use Rattle.tokens.specs.declared.lexer.Lexer.{Lexer}
use Rattle.tokens.specs.Spelling.{Item, symbol_of, item_of}
use Rattle.tokens.specs.Scan.{final}
use Rattle.tokens.specs.State.{to_come, Took}

-- the list has the first of all the items, and the rest, cut to what still fits, are the others
abbrev pub Sofar : List Item → List Placed → List Item → Type 0
Sofar all list rest = take 2049 all ≡ map item_of list ++ take (2049 - length list) rest

pub sofar_none : (all : List Item) (list : List Placed) → list ≡ [] → Sofar all list all
sofar_none all list is = sym (ap (λ l. map item_of l ++ take (2049 - length l) all) is)

pub sofar_more : (all : List Item) (list longer : List Placed) (rest more : List Item) (p : Placed) → length list < 2049 → Sofar all list rest → rest ≡ item_of p ∷ more → longer ≡ list ++ p ∷ [] → Sofar all longer more
sofar_more all list longer rest more p fits sofar first is =
    let left : 2049 - length list ≡ suc (2049 - length (list ++ p ∷ [])) = simp length-append (omega arith) in
    sofar
    ∙ ap (λ l. map item_of list ++ take (2049 - length list) l) first
    ∙ ap (λ n. map item_of list ++ take n (item_of p ∷ more)) left
    ∙ sym (append_assoc (map item_of list) (item_of p ∷ []) _)
    ∙ ap (λ l. l ++ take (2049 - length (list ++ p ∷ [])) more) (sym (map_push item_of list p))
    ∙ ap (λ l. map item_of l ++ take (2049 - length l) more) (sym is)

-- the item that was handed out stands first, before those still to come
pub token_first : (old new : Lexer) (p : Placed) → Took old p new → final (symbol_of p.token) ≡ false → to_come old ≡ item_of p ∷ to_come new
token_first old new p took on = took.first ∙ ap (λ l. item_of p ∷ l) (cond-false _ [] (to_come new) on)
