-- What the kind of a symbol tells about it. Assumes nothing.
use Rattle.std.proofs.Common.{◌≡◌, ℕ, suc, Bool, true, false, cond, eqb, [], sym, refl, ap, ◌∙◌, true≢false, arith, eq-eqb, ne_eqb, eqb-true}
use Rattle.script.specs.declared.types.Operator.{Operator}
use Rattle.script.specs.declared.types.Operator.TheVariants as operator
use Rattle.script.specs.declared.types.Comparison.{Comparison}
use Rattle.script.specs.declared.types.Comparison.TheVariants as comparison
use Rattle.tokens.specs.declared.types.Keyword.{Keyword}
use Rattle.tokens.specs.declared.types.Keyword.TheVariants as word
use Rattle.tokens.specs.declared.types.Mark.{Mark}
use Rattle.tokens.specs.declared.types.Mark.TheVariants as sign
use Rattle.tokens.specs.declared.types.Trouble.TheVariants.{NoToken}
use Rattle.tokens.specs.Spelling.{Symbol, name, constant, keyword, mark, end, trouble}
use Rattle.tokens.specs.Scan.{final}
use Rattle.grammar.specs.Tokens.{type_word, operator_mark, binds, comparison_mark}
use Rattle.grammar.specs.Combine.{kind, keyword_kind, mark_kind, is}
use Rattle.grammar.specs.Parse.{is_name, is_constant, is_type, binding, operates, compares, joins, value_of, spelling, type_of, operator_of, comparison_of}

pub never : {A : Type 0} → true ≡ false → A
never e = absurd (true≢false e)

-- a symbol of a kind
abbrev decode : ℕ → Symbol
decode k =
    cond (eqb k 0) end (cond (eqb k 1) (trouble NoToken) (cond (eqb k 2) (name []) (cond (eqb k 3) (constant 0)
    (cond (eqb k 4) (keyword word.Mutable) (cond (eqb k 5) (keyword word.Int) (cond (eqb k 6) (keyword word.Ref) (cond (eqb k 7) (keyword word.Q)
    (cond (eqb k 8) (keyword word.If) (cond (eqb k 9) (keyword word.Else) (cond (eqb k 10) (keyword word.While) (cond (eqb k 11) (keyword word.Free)
    (cond (eqb k 12) (keyword word.Print) (cond (eqb k 13) (keyword word.Return) (cond (eqb k 14) (keyword word.Nil)
    (cond (eqb k 15) (mark sign.LeftParen) (cond (eqb k 16) (mark sign.RightParen) (cond (eqb k 17) (mark sign.LeftBrace) (cond (eqb k 18) (mark sign.RightBrace)
    (cond (eqb k 19) (mark sign.Comma) (cond (eqb k 20) (mark sign.Semicolon) (cond (eqb k 21) (mark sign.Assign) (cond (eqb k 22) (mark sign.Plus)
    (cond (eqb k 23) (mark sign.Minus) (cond (eqb k 24) (mark sign.Star) (cond (eqb k 25) (mark sign.Dot) (cond (eqb k 26) (mark sign.Less)
    (cond (eqb k 27) (mark sign.Greater) (cond (eqb k 28) (mark sign.LessEqual) (cond (eqb k 29) (mark sign.GreaterEqual) (cond (eqb k 30) (mark sign.EqualEqual)
    (cond (eqb k 31) (mark sign.NotEqual) (cond (eqb k 32) (mark sign.Not) (cond (eqb k 33) (mark sign.AndAnd) (mark sign.OrOr))))))))))))))))))))))))))))))))))

-- the symbol that stands for its kind
abbrev code : Symbol → Symbol
code (name w) = name []
code (constant n) = constant 0
code (keyword k) = keyword k
code (mark m) = mark m
code end = end
code (trouble t) = trouble NoToken

-- its kind tells the symbol
abbrev pub definite : Symbol → Bool
definite (name w) = false
definite (constant n) = false
definite (keyword k) = true
definite (mark m) = true
definite end = true
definite (trouble t) = false

keyword_kind_lem : (k : Keyword) → decode (keyword_kind k) ≡ keyword k
keyword_kind_lem word.Mutable = refl
keyword_kind_lem word.Int = refl
keyword_kind_lem word.Ref = refl
keyword_kind_lem word.Q = refl
keyword_kind_lem word.If = refl
keyword_kind_lem word.Else = refl
keyword_kind_lem word.While = refl
keyword_kind_lem word.Free = refl
keyword_kind_lem word.Print = refl
keyword_kind_lem word.Return = refl
keyword_kind_lem word.Nil = refl

mark_kind_lem : (m : Mark) → decode (mark_kind m) ≡ mark m
mark_kind_lem sign.LeftParen = refl
mark_kind_lem sign.RightParen = refl
mark_kind_lem sign.LeftBrace = refl
mark_kind_lem sign.RightBrace = refl
mark_kind_lem sign.Comma = refl
mark_kind_lem sign.Semicolon = refl
mark_kind_lem sign.Assign = refl
mark_kind_lem sign.Plus = refl
mark_kind_lem sign.Minus = refl
mark_kind_lem sign.Star = refl
mark_kind_lem sign.Dot = refl
mark_kind_lem sign.Less = refl
mark_kind_lem sign.Greater = refl
mark_kind_lem sign.LessEqual = refl
mark_kind_lem sign.GreaterEqual = refl
mark_kind_lem sign.EqualEqual = refl
mark_kind_lem sign.NotEqual = refl
mark_kind_lem sign.Not = refl
mark_kind_lem sign.AndAnd = refl
mark_kind_lem sign.OrOr = refl

decodes : (s : Symbol) → decode (kind s) ≡ code s
decodes (name w) = refl
decodes (constant n) = refl
decodes (keyword k) = keyword_kind_lem k
decodes (mark m) = mark_kind_lem m
decodes end = refl
decodes (trouble t) = refl

-- symbols of one kind
same_code : (s u : Symbol) → is s (kind u) ≡ true → code u ≡ code s
same_code s u e = sym (decodes u) ∙ ap decode (eqb-true _ _ e) ∙ decodes s

definite_code : (u : Symbol) → definite (code u) ≡ definite u
definite_code (name w) = refl
definite_code (constant n) = refl
definite_code (keyword k) = refl
definite_code (mark m) = refl
definite_code end = refl
definite_code (trouble t) = refl

code_itself : (u : Symbol) → definite u ≡ true → code u ≡ u
code_itself (name w) d = never (sym d)
code_itself (constant n) d = never (sym d)
code_itself (keyword k) d = refl
code_itself (mark m) d = refl
code_itself end d = refl
code_itself (trouble t) d = never (sym d)

pub only : (s u : Symbol) → definite s ≡ true → is s (kind u) ≡ true → u ≡ s
only s u d e =
    let q = same_code s u e in
    sym (code_itself u (sym (definite_code u) ∙ ap definite q ∙ definite_code s ∙ d)) ∙ q ∙ code_itself s d

pub a_name : (u : Symbol) → is_name (kind u) ≡ true → u ≡ name (spelling u)
a_name u e = by u (same_code (name []) u e)
  where
    by : (u : Symbol) → code u ≡ name [] → u ≡ name (spelling u)
    by (name w) e = refl
    by (constant n) e = absurd cc
    by (keyword k) e = absurd cc
    by (mark m) e = absurd cc
    by end e = absurd cc
    by (trouble t) e = absurd cc

pub a_constant : (u : Symbol) → is_constant (kind u) ≡ true → u ≡ constant (value_of u)
a_constant u e = by u (same_code (constant 0) u e)
  where
    by : (u : Symbol) → code u ≡ constant 0 → u ≡ constant (value_of u)
    by (name w) e = absurd cc
    by (constant n) e = refl
    by (keyword k) e = absurd cc
    by (mark m) e = absurd cc
    by end e = absurd cc
    by (trouble t) e = absurd cc

pub an_end : (u : Symbol) → kind u ≡ 0 → u ≡ end
an_end u e = only end u refl (eq-eqb (kind u) 0 e)

pub a_type : (u : Symbol) → is_type (kind u) ≡ true → u ≡ keyword (type_word (type_of u))
a_type u e = by (is (keyword word.Int) (kind u)) refl (is (keyword word.Ref) (kind u)) refl e
  where
    by : (a : Bool) → is (keyword word.Int) (kind u) ≡ a → (b : Bool) → is (keyword word.Ref) (kind u) ≡ b → cond a true (cond b true (is (keyword word.Q) (kind u))) ≡ true → u ≡ keyword (type_word (type_of u))
    by true i b j e = rw (only (keyword word.Int) u refl i) refl
    by false i true j e = rw (only (keyword word.Ref) u refl j) refl
    by false i false j e = rw (only (keyword word.Q) u refl e) refl

-- the kind of an operator
pub data Operates (n : ℕ) (u : Symbol) : Type 0 where
  operates_by : (o : Operator) → u ≡ mark (operator_mark o) → binds o ≡ n → Operates n u

pub an_operator : (n : ℕ) (u : Symbol) → operates (suc n) (kind u) ≡ true → Operates (suc n) u
an_operator n u e = by (is (mark sign.Star) (kind u)) refl (is (mark sign.Plus) (kind u)) refl (is (mark sign.Minus) (kind u)) refl (is (mark sign.Dot) (kind u)) refl (eqb-true _ _ e)
  where
    by : (a : Bool) → is (mark sign.Star) (kind u) ≡ a → (b : Bool) → is (mark sign.Plus) (kind u) ≡ b → (c : Bool) → is (mark sign.Minus) (kind u) ≡ c → (d : Bool) → is (mark sign.Dot) (kind u) ≡ d
        → cond a 1 (cond b 2 (cond c 2 (cond d 3 0))) ≡ suc n → Operates (suc n) u
    by true i b j c k d l h = operates_by operator.Multiply (only (mark sign.Star) u refl i) h
    by false i true j c k d l h = operates_by operator.Add (only (mark sign.Plus) u refl j) h
    by false i false j true k d l h = operates_by operator.Subtract (only (mark sign.Minus) u refl k) h
    by false i false j false k true l h = operates_by operator.Dot (only (mark sign.Dot) u refl l) h
    by false i false j false k false l h = absurd (omega arith)

pub operator_is : (o : Operator) → operator_of (mark (operator_mark o)) ≡ o
operator_is operator.Multiply = refl
operator_is operator.Add = refl
operator_is operator.Subtract = refl
operator_is operator.Dot = refl

pub operator_binds : (o : Operator) → binding (kind (mark (operator_mark o))) ≡ binds o
operator_binds operator.Multiply = refl
operator_binds operator.Add = refl
operator_binds operator.Subtract = refl
operator_binds operator.Dot = refl

pub data Compares (u : Symbol) : Type 0 where
  compares_by : (o : Comparison) → u ≡ mark (comparison_mark o) → Compares u

pub a_comparison : (u : Symbol) → compares (kind u) ≡ true → Compares u
a_comparison u e =
    by (is (mark sign.LessEqual) (kind u)) refl (is (mark sign.GreaterEqual) (kind u)) refl (is (mark sign.EqualEqual) (kind u)) refl (is (mark sign.NotEqual) (kind u)) refl (is (mark sign.Less) (kind u)) refl e
  where
    by : (a : Bool) → is (mark sign.LessEqual) (kind u) ≡ a → (b : Bool) → is (mark sign.GreaterEqual) (kind u) ≡ b → (c : Bool) → is (mark sign.EqualEqual) (kind u) ≡ c → (d : Bool) → is (mark sign.NotEqual) (kind u) ≡ d
        → (f : Bool) → is (mark sign.Less) (kind u) ≡ f → cond a true (cond b true (cond c true (cond d true (cond f true (is (mark sign.Greater) (kind u)))))) ≡ true → Compares u
    by true i b j c k d l f m e = compares_by comparison.LessEqual (only (mark sign.LessEqual) u refl i)
    by false i true j c k d l f m e = compares_by comparison.GreaterEqual (only (mark sign.GreaterEqual) u refl j)
    by false i false j true k d l f m e = compares_by comparison.Equal (only (mark sign.EqualEqual) u refl k)
    by false i false j false k true l f m e = compares_by comparison.NotEqual (only (mark sign.NotEqual) u refl l)
    by false i false j false k false l true m e = compares_by comparison.Less (only (mark sign.Less) u refl m)
    by false i false j false k false l false m e = compares_by comparison.Greater (only (mark sign.Greater) u refl e)

pub comparison_is : (o : Comparison) → comparison_of (mark (comparison_mark o)) ≡ o
comparison_is comparison.LessEqual = refl
comparison_is comparison.GreaterEqual = refl
comparison_is comparison.Equal = refl
comparison_is comparison.NotEqual = refl
comparison_is comparison.Less = refl
comparison_is comparison.Greater = refl

pub comparison_tests : (o : Comparison) → compares (kind (mark (comparison_mark o))) ≡ true
comparison_tests comparison.LessEqual = refl
comparison_tests comparison.GreaterEqual = refl
comparison_tests comparison.Equal = refl
comparison_tests comparison.NotEqual = refl
comparison_tests comparison.Less = refl
comparison_tests comparison.Greater = refl

-- `&&` binds by 1 and `||` by 2
pub data Joins (n : ℕ) (u : Symbol) : Type 0 where
  by_and : u ≡ mark sign.AndAnd → 1 ≡ n → Joins n u
  by_or : u ≡ mark sign.OrOr → 2 ≡ n → Joins n u

pub a_join : (n : ℕ) (u : Symbol) → joins (suc n) (kind u) ≡ true → Joins (suc n) u
a_join n u e = by (is (mark sign.AndAnd) (kind u)) refl (is (mark sign.OrOr) (kind u)) refl (eqb-true _ _ e)
  where
    by : (a : Bool) → is (mark sign.AndAnd) (kind u) ≡ a → (b : Bool) → is (mark sign.OrOr) (kind u) ≡ b → cond a 1 (cond b 2 0) ≡ suc n → Joins (suc n) u
    by true i b j h = by_and (only (mark sign.AndAnd) u refl i) h
    by false i true j h = by_or (only (mark sign.OrOr) u refl j) h
    by false i false j h = absurd (omega arith)

-- a test that the end and the troubles fail
abbrev pub Sharp : (ℕ → Bool) → Type 0
Sharp test = (test 0 ≡ false) × (test 1 ≡ false)

pub goes_on : (test : ℕ → Bool) → Sharp test → (s : Symbol) → test (kind s) ≡ true → final s ≡ false
goes_on test h (name w) e = refl
goes_on test h (constant n) e = refl
goes_on test h (keyword k) e = refl
goes_on test h (mark m) e = refl
goes_on test h end e = sym e ∙ h.0
goes_on test h (trouble t) e = sym e ∙ h.1

pub mark_sharp : (m : Mark) → Sharp (is (mark m))
mark_sharp m = (ne_eqb _ _ (λ e. other end (ap decode e) refl), ne_eqb _ _ (λ e. other (trouble NoToken) (ap decode e) refl))
  where
    other : (s : Symbol) → s ≡ decode (mark_kind m) → final s ≡ true → ⊥
    other s e f = never (sym f ∙ ap final (e ∙ mark_kind_lem m))

-- what does not bind is of no level
pub no_level : (n k : ℕ) → k ≡ 0 → eqb k (suc n) ≡ false
no_level n k e = ne_eqb k (suc n) (λ i. omega arith)

pub operates_sharp : (n : ℕ) → Sharp (operates (suc n))
operates_sharp n = (no_level n 0 refl, no_level n 0 refl)

pub joins_sharp : (n : ℕ) → Sharp (joins (suc n))
joins_sharp n = (no_level n 0 refl, no_level n 0 refl)
