-- What a lexer's place says of the text from there on. Assumes nothing.
use Rattle.std.proofs.Common.{◌≡◌, ℕ, ◌+◌, Bool, true, false, cond, List, [], ◌∷◌, drop, sym, ap, ◌∙◌, arith, length-drop}
use Rattle.std.proofs.lemmas.List.{drop-drop}
use Rattle.std.proofs.lemmas.Bool.{cond-true, cond-false}
use Rattle.byte_class.specs.Classes.{class_of}
use Rattle.tokens.specs.declared.types.Ahead.{Ahead}
use Rattle.tokens.specs.declared.types.Ahead.TheVariants.{Gap, Found, Stop}
use Rattle.tokens.specs.declared.lexer.Lexer.{Lexer}
use Rattle.tokens.specs.Spelling.{Symbol, Item, item}
use Rattle.tokens.specs.Scan.{gap, found, front_by, front, lexed}
use Rattle.tokens.specs.State.{front_of, rest, Advances, to_come}
use Rattle.tokens.proofs.Steps.{gap_long, found_long, lexed_gap, lexed_found}

-- what stands first in a text, by its first byte
pub front_is : (text after : List ℕ) (b : ℕ) → text ≡ b ∷ after → front text ≡ front_by (class_of b) b after
unfolding front
front_is text after b is = ap front is

-- what stands at a lexer's place moves it on within the source
pub advances : (l : Lexer) (a : Ahead) → front_of a ≡ front (rest l) → Advances l a
advances l (Gap n) is = let h = gap_long (rest l) n (sym is) in let d = length-drop l.pos l.source.now in (h.0, omega arith)
advances l (Found n t) is = let h = found_long (rest l) n _ (sym is) in let d = length-drop l.pos l.source.now in (h.0, omega arith)
advances l (Stop t) is = tt

-- the items to come from further on in the same source
after : (l : Lexer) (n : ℕ) → lexed (l.pos + n) (drop n (rest l)) ≡ lexed (l.pos + n) (drop (l.pos + n) l.source.now)
after l n = ap (lexed (l.pos + n)) (drop-drop n l.pos l.source.now)

pub past_gap : (l : Lexer) (n : ℕ) → gap n ≡ front (rest l) → to_come l ≡ lexed (l.pos + n) (drop (l.pos + n) l.source.now)
past_gap l n is = lexed_gap l.pos n (rest l) (sym is) ∙ after l n

pub past_found : (l : Lexer) (n : ℕ) (s : Symbol) → found n s ≡ front (rest l) → to_come l ≡ item s l.pos ∷ lexed (l.pos + n) (drop (l.pos + n) l.source.now)
past_found l n s is = lexed_found l.pos n s (rest l) (sym is) ∙ ap (λ is. item s l.pos ∷ is) (after l n)

-- the items after the one handed out: those to come after a token, and none after the last
pub goes_on : (all more : List Item) (i : Item) (last : Bool) → last ≡ false → all ≡ i ∷ more → all ≡ i ∷ cond last [] more
goes_on all more i last is first = first ∙ ap (λ l. i ∷ l) (sym (cond-false last [] more is))

pub ends_here : (all more : List Item) (i : Item) (last : Bool) → last ≡ true → all ≡ i ∷ [] → all ≡ i ∷ cond last [] more
ends_here all more i last is first = first ∙ ap (λ l. i ∷ l) (sym (cond-true last [] more is))
