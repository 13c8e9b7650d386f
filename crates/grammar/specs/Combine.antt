-- Readers of tokens, and how they are put together. Assumes nothing.
use Rattle.std.specs.Prelude.{ℕ, zero, suc, Bool, cond, List, [], ◌∷◌, ◌==◌, nat_lt}
use Rattle.tokens.specs.declared.types.Keyword.{Keyword}
use Rattle.tokens.specs.declared.types.Keyword.TheVariants as word
use Rattle.tokens.specs.declared.types.Mark.{Mark}
use Rattle.tokens.specs.declared.types.Mark.TheVariants as sign
use Rattle.tokens.specs.Spelling.{Symbol, name, constant, keyword, mark, end, trouble, Item, item}
use Rattle.grammar.specs.Tokens.{Tok, offset, first}

-- the number of a keyword among the kinds of tokens
abbrev pub keyword_kind : Keyword → ℕ
keyword_kind word.Mutable = 4
keyword_kind word.Int = 5
keyword_kind word.Ref = 6
keyword_kind word.Q = 7
keyword_kind word.If = 8
keyword_kind word.Else = 9
keyword_kind word.While = 10
keyword_kind word.Free = 11
keyword_kind word.Print = 12
keyword_kind word.Return = 13
keyword_kind word.Nil = 14

-- the number of a mark among the kinds of tokens
abbrev pub mark_kind : Mark → ℕ
mark_kind sign.LeftParen = 15
mark_kind sign.RightParen = 16
mark_kind sign.LeftBrace = 17
mark_kind sign.RightBrace = 18
mark_kind sign.Comma = 19
mark_kind sign.Semicolon = 20
mark_kind sign.Assign = 21
mark_kind sign.Plus = 22
mark_kind sign.Minus = 23
mark_kind sign.Star = 24
mark_kind sign.Dot = 25
mark_kind sign.Less = 26
mark_kind sign.Greater = 27
mark_kind sign.LessEqual = 28
mark_kind sign.GreaterEqual = 29
mark_kind sign.EqualEqual = 30
mark_kind sign.NotEqual = 31
mark_kind sign.Not = 32
mark_kind sign.AndAnd = 33
mark_kind sign.OrOr = 34

-- the kind of a symbol: the end, all troubles, all names and all constants are one kind each, and so is each keyword and each mark
abbrev pub kind : Symbol → ℕ
kind end = 0
kind (trouble t) = 1
kind (name w) = 2
kind (constant n) = 3
kind (keyword k) = keyword_kind k
kind (mark m) = mark_kind m

-- the kind of the first token; where there is none, the end's
abbrev pub kind_at : List Tok → ℕ
kind_at ts = kind (first ts)

-- a test of a kind: it is this symbol's
abbrev pub is : Symbol → ℕ → Bool
is s k = k == kind s

-- why a token is refused: it can not follow, it stands too deep, it is one too many; or the gas ran out
pub data Why : Type 0 where
  why_bad : Why
  why_deep : Why
  why_many : Why
  why_gas : Why

-- what a reader makes of tokens: what it read and the tokens left, or the tokens of which it refuses the first
pub data Out (X : Type 0) : Type 0 where
  out_done : X → List Tok → Out X
  out_fail : List Tok → Why → Out X

-- a reader
abbrev pub Parser : Type 0 → Type 0
Parser X = List Tok → Out X

-- what was read goes on to f
abbrev pub next : {X Y : Type 0} → Out X → (X → Parser Y) → Out Y
next (out_done x ts) f = f x ts
next (out_fail ts n) f = out_fail ts n

-- p, and then f of what p read
unfoldable pub after : {X Y : Type 0} → Parser X → (X → Parser Y) → Parser Y
after p f ts = next (p ts) f

-- p, and then f of the offset at which p began and of what p read
unfoldable pub from : {X Y : Type 0} → Parser X → (ℕ → X → Parser Y) → Parser Y
from p f ts = next (p ts) (f (offset ts))

-- nothing more is read
abbrev pub ret : {X : Type 0} → X → Parser X
ret x ts = out_done x ts

-- the token at hand can not stand here
abbrev pub bad : {X : Type 0} → Parser X
bad ts = out_fail ts why_bad

-- the gas has run out
abbrev pub no_more : {X : Type 0} → Parser X
no_more ts = out_fail ts why_gas

-- a token without its limits
abbrev pub bare : Tok → Item
bare t = item t.symbol t.at

-- at depth d: a token whose kind passes the test is taken, unless it stands too deep or is one too many; any other is left to q
unfoldable pub on : {X : Type 0} → ℕ → (ℕ → Bool) → (Item → Parser X) → Parser X → Parser X
on d test p q [] = q []
on d test p q (t ∷ ts) =
    cond (test (kind t.symbol))
    (cond (nat_lt t.deepest d) (out_fail (t ∷ ts) why_deep) (cond t.counted (p (bare t) ts) (out_fail (t ∷ ts) why_many)))
    (q (t ∷ ts))

-- this mark, and then q
abbrev pub want : {X : Type 0} → ℕ → Mark → Parser X → Parser X
want d m q = on d (is (mark m)) (λ i. q) bad

-- the kind of the token at hand decides, and the token is not taken
unfoldable pub peek : {X : Type 0} → (ℕ → Bool) → Parser X → Parser X → Parser X
peek test p q ts = cond (test (kind_at ts)) (p ts) (q ts)

-- as long as a token passes the test it is taken, and a step leads from what was read before it to what was read with it
unfoldable pub loop : {X : Type 0} → ℕ → (ℕ → Bool) → (X → Item → Parser X) → ℕ → X → Parser X
loop d test step zero x = no_more
loop d test step (suc g) x = on d test (λ i. after (step x i) (loop d test step g)) (ret x)

-- as long as the token at hand passes the test, p is read once more
unfoldable pub many : {X Y : Type 0} → (ℕ → Bool) → Parser X → Y → (X → Y → Y) → ℕ → Parser Y
many test p none more zero = no_more
many test p none more (suc g) = peek test (after p (λ x. after (many test p none more g) (λ xs. ret (more x xs)))) (ret none)

-- p once or more, with commas between
unfoldable pub separated : {X Y : Type 0} → ℕ → Parser X → Y → (X → Y → Y) → ℕ → Parser Y
separated d p none more zero = no_more
separated d p none more (suc g) =
    after p (λ x. on d (is (mark sign.Comma)) (λ i. after (separated d p none more g) (λ xs. ret (more x xs))) (ret (more x none)))

-- a closing parenthesis, or p once or more with commas between and then a closing parenthesis
abbrev pub listed : {X Y : Type 0} → ℕ → Parser X → Y → (X → Y → Y) → ℕ → Parser Y
listed d p none more g =
    on d (is (mark sign.RightParen)) (λ i. ret none)
    (after (separated (suc d) p none more g) (λ xs. want d sign.RightParen (ret xs)))

-- the end of the source stands here
unfoldable pub ends : {X : Type 0} → X → Parser X
ends x ts = cond (kind_at ts == 0) (out_done x ts) (out_fail ts why_bad)
