-- When reading refuses, said of the items of a source, each number by itself. Assumes nothing.
use Rattle.std.specs.Prelude.{◌≡◌, ℕ, ◌<◌, ◌≤◌, true, false, List, [], ◌∷◌, ◌++◌, length}
use Rattle.script.specs.Tree.{Program}
use Rattle.tokens.specs.declared.types.Trouble.{Trouble}
use Rattle.tokens.specs.Spelling.{Item, trouble, trouble_number}
use Rattle.tokens.specs.Scan.{final}
use Rattle.grammar.specs.Tokens.{Tok, tokens_from}
use Rattle.grammar.specs.Grammar.{Programs}

-- the items of a source: tokens, whose offsets rise, and last the end or a trouble
pub data Ended : List Item → Type 0 where
  last : {i : Item} → final i.symbol ≡ true → Ended (i ∷ [])
  before : {i j : Item} {is : List Item} → final i.symbol ≡ false → i.at < j.at → Ended (j ∷ is) → Ended (i ∷ j ∷ is)

-- the same tokens, counted or not
pub data SameDepths : List Tok → List Tok → Type 0 where
  none : SameDepths [] []
  more : {t u : Tok} {ts us : List Tok} → u.symbol ≡ t.symbol → u.at ≡ t.at → u.deepest ≡ t.deepest → SameDepths ts us → SameDepths (t ∷ ts) (u ∷ us)

-- the same tokens, counted or not, and however deep they may stand
pub data SameTokens : List Tok → List Tok → Type 0 where
  none : SameTokens [] []
  more : {t u : Tok} {ts us : List Tok} → u.symbol ≡ t.symbol → u.at ≡ t.at → SameTokens ts us → SameTokens (t ∷ ts) (u ∷ us)

-- some program begins with these tokens, all limits aside
pub record BeginsProgram (ts : List Tok) : Type 0 where
  pub like : List Tok
  pub same : SameTokens ts like
  pub rest : List Tok
  pub program : Program
  pub is : Programs (like ++ rest) program

-- some program begins with these tokens, and none of them stands deeper in it than it may
pub record BeginsWithin (ts : List Tok) : Type 0 where
  pub like : List Tok
  pub same : SameDepths ts like
  pub rest : List Tok
  pub program : Program
  pub is : Programs (like ++ rest) program

abbrev pub tokens : List Item → List Tok
tokens is = tokens_from 0 is

-- the refusal of this number stands at this offset
pub data Applies (is : List Item) : ℕ → ℕ → Type 0 where
  -- 2 and 3: the last item is a trouble
  lexical : (before : List Item) (i : Item) (t : Trouble) → is ≡ before ++ i ∷ [] → i.symbol ≡ trouble t → Applies is i.at (trouble_number t)
  -- 4: a program begins with the tokens before this one, and none with these and it
  wrong : (before after : List Tok) (t : Tok) → tokens is ≡ before ++ t ∷ after → BeginsProgram before → (BeginsProgram (before ++ t ∷ []) → ⊥) → Applies is t.at 4
  -- 5: the tokens before this one stand within 64 in some program; a program begins with these and it, and in none is it inside at most 64
  deep : (before after : List Tok) (t : Tok) → tokens is ≡ before ++ t ∷ after → BeginsWithin before → BeginsProgram (before ++ t ∷ []) → (BeginsWithin (before ++ t ∷ []) → ⊥) → Applies is t.at 5
  -- 6: token 2,049
  many : (before after : List Item) (i : Item) → is ≡ before ++ i ∷ after → length before ≡ 2048 → final i.symbol ≡ false → Applies is i.at 6

-- an earlier offset, or the same one and no larger number
pub data NoLater (at number : ℕ) : ℕ → ℕ → Type 0 where
  earlier : {o n : ℕ} → at < o → NoLater at number o n
  same_place : {n : ℕ} → number ≤ n → NoLater at number at n

-- what reading a source's items comes to
pub data Outcome : Type 0 where
  reads : Program → Outcome
  refuses : ℕ → ℕ → Outcome

-- a way to read is right: it reads exactly the programs, each into its tree, and otherwise tells the refusal that applies first
pub record Right (outcome : List Item → Outcome) : Type 0 where
  pub sound : (is : List Item) (p : Program) → Ended is → outcome is ≡ reads p → Programs (tokens is) p
  pub complete : (is : List Item) (p : Program) → Ended is → Programs (tokens is) p → outcome is ≡ reads p
  pub refused : (is : List Item) (o n : ℕ) → Ended is → outcome is ≡ refuses o n → Applies is o n
  pub least : (is : List Item) (o n at number : ℕ) → Ended is → outcome is ≡ refuses o n → Applies is at number → NoLater o n at number
