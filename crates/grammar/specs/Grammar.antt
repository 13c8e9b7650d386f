-- The grammar. A rule `R d ts x rest` says that the tokens ts begin with an x, which stands inside d, and that rest comes after it.
-- Parentheses but a cast's, braces, the operand of a prefix, and the bodies of if, else and while are one deeper inside; their own marks are not. Assumes nothing.
use Rattle.std.specs.Prelude.{◌≡◌, ℕ, suc, ◌<◌, true, false, List, [], ◌∷◌, ◌≢◌}
use Rattle.script.specs.declared.types.«Type».{«Type» as Ty}
use Rattle.script.specs.declared.types.Name.{Name}
use Rattle.script.specs.declared.types.Declarator.{Declarator}
use Rattle.script.specs.declared.types.Operator.{Operator}
use Rattle.script.specs.declared.types.Comparison.{Comparison}
use Rattle.script.specs.Tree as tree
use Rattle.script.specs.Tree.{Expr, Exprs, Cond, Stmt, Stmts, Fun, Program}
use Rattle.tokens.specs.declared.types.Keyword.TheVariants.{Mutable, If, Else, While, Free, Print, Return, Nil}
use Rattle.tokens.specs.declared.types.Mark.TheVariants.{LeftParen, RightParen, LeftBrace, RightBrace, Comma, Semicolon, Assign, Minus, Not, AndAnd, OrOr}
use Rattle.tokens.specs.Spelling.{constant, keyword, mark, end}
use Rattle.grammar.specs.Tokens.{Tok, Is, IsName, offset, first, type_word, operator_mark, binds, comparison_mark}

-- a type and a name, with or without `mutable` before them
pub data Declares (d : ℕ) : List Tok → Declarator → List Tok → Type 0 where
  immutable : {ty : Ty} {x : Name} {t u : Tok} {ts : List Tok} → Is d (keyword (type_word ty)) t → IsName d x u → Declares d (t ∷ u ∷ ts) (record { mutable = false; ty = ty; name = x }) ts
  mutable : {ty : Ty} {x : Name} {m t u : Tok} {ts : List Tok} → Is d (keyword Mutable) m → Is d (keyword (type_word ty)) t → IsName d x u → Declares d (m ∷ t ∷ u ∷ ts) (record { mutable = true; ty = ty; name = x }) ts

-- expressions, by how tightly they bind: 0 for operands, 1 for products, 2 for sums, 3 for dots and so for all; binary operators group from the left
mutual
  pub data Expression : ℕ → ℕ → List Tok → Expr → List Tok → Type 0 where
    nil : {d : ℕ} {t : Tok} {ts : List Tok} → Is d (keyword Nil) t → Expression 0 d (t ∷ ts) (tree.nil t.at) ts
    number : {d n : ℕ} {t : Tok} {ts : List Tok} → Is d (constant n) t → Expression 0 d (t ∷ ts) (tree.constant t.at n) ts
    variable : {d : ℕ} {x : Name} {t : Tok} {ts : List Tok} → IsName d x t → Expression 0 d (t ∷ ts) (tree.variable x) ts
    negated : {d : ℕ} {t : Tok} {ts rest : List Tok} {e : Expr} → Is d (mark Minus) t → Expression 0 (suc d) ts e rest → Expression 0 d (t ∷ ts) (tree.negate t.at e) rest
    cast : {d : ℕ} {ty : Ty} {t u v : Tok} {ts rest : List Tok} {e : Expr} → Is d (mark LeftParen) t → Is d (keyword (type_word ty)) u → Is d (mark RightParen) v → Expression 0 (suc d) ts e rest → Expression 0 d (t ∷ u ∷ v ∷ ts) (tree.cast t.at ty e) rest
    call : {d : ℕ} {x : Name} {t u v : Tok} {ts rest : List Tok} {es : Exprs} → IsName d x t → Is d (mark LeftParen) u → Actuals (suc d) ts es (v ∷ rest) → Is d (mark RightParen) v → Expression 0 d (t ∷ u ∷ ts) (tree.call x es) rest
    group : {d : ℕ} {t u : Tok} {ts rest : List Tok} {e : Expr} → Is d (mark LeftParen) t → Expression 3 (suc d) ts e (u ∷ rest) → Is d (mark RightParen) u → Expression 0 d (t ∷ ts) e rest
    looser : {k d : ℕ} {ts rest : List Tok} {e : Expr} → k < 3 → Expression k d ts e rest → Expression (suc k) d ts e rest
    binary : {k d : ℕ} {t : Tok} {ts mid rest : List Tok} {e f : Expr} (o : Operator) → binds o ≡ suc k → Expression (suc k) d ts e (t ∷ mid) → Is d (mark (operator_mark o)) t → Expression k d mid f rest → Expression (suc k) d ts (tree.binary t.at (offset ts) o e f) rest

  -- the actuals of a call: none, or expressions with commas between them
  pub data Actuals : ℕ → List Tok → Exprs → List Tok → Type 0 where
    no_actual : {d : ℕ} {ts : List Tok} → Actuals d ts tree.none ts
    actuals : {d : ℕ} {ts rest : List Tok} {es : Exprs} → SomeActuals d ts es rest → Actuals d ts es rest

  pub data SomeActuals : ℕ → List Tok → Exprs → List Tok → Type 0 where
    last_actual : {d : ℕ} {ts rest : List Tok} {e : Expr} → Expression 3 d ts e rest → SomeActuals d ts (tree.more e tree.none) rest
    next_actual : {d : ℕ} {t : Tok} {ts mid rest : List Tok} {e : Expr} {es : Exprs} → Expression 3 d ts e (t ∷ mid) → Is d (mark Comma) t → SomeActuals d mid es rest → SomeActuals d ts (tree.more e es) rest

-- conditions: 0 for comparisons and negations, 1 for `&&`, 2 for `||` and so for all
pub data Condition : ℕ → ℕ → List Tok → Cond → List Tok → Type 0 where
  compared : {d : ℕ} {t : Tok} {ts mid rest : List Tok} {e f : Expr} (o : Comparison) → Expression 3 d ts e (t ∷ mid) → Is d (mark (comparison_mark o)) t → Expression 3 d mid f rest → Condition 0 d ts (tree.compare t.at o e f) rest
  negated : {d : ℕ} {t : Tok} {ts rest : List Tok} {c : Cond} → Is d (mark Not) t → Condition 0 (suc d) ts c rest → Condition 0 d (t ∷ ts) (tree.negated t.at c) rest
  group : {d : ℕ} {t u : Tok} {ts rest : List Tok} {c : Cond} → Is d (mark LeftParen) t → Condition 2 (suc d) ts c (u ∷ rest) → Is d (mark RightParen) u → Condition 0 d (t ∷ ts) c rest
  looser : {k d : ℕ} {ts rest : List Tok} {c : Cond} → k < 2 → Condition k d ts c rest → Condition (suc k) d ts c rest
  both : {d : ℕ} {t : Tok} {ts mid rest : List Tok} {c e : Cond} → Condition 1 d ts c (t ∷ mid) → Is d (mark AndAnd) t → Condition 0 d mid e rest → Condition 1 d ts (tree.both t.at c e) rest
  either : {d : ℕ} {t : Tok} {ts mid rest : List Tok} {c e : Cond} → Condition 2 d ts c (t ∷ mid) → Is d (mark OrOr) t → Condition 1 d mid e rest → Condition 2 d ts (tree.either t.at c e) rest

mutual
  pub data Statement : ℕ → List Tok → Stmt → List Tok → Type 0 where
    declares : {d : ℕ} {x : Declarator} {t u : Tok} {ts mid rest : List Tok} {e : Expr} → Declares d ts x (t ∷ mid) → Is d (mark Assign) t → Expression 3 d mid e (u ∷ rest) → Is d (mark Semicolon) u → Statement d ts (tree.declare (offset ts) x e) rest
    assigns : {d : ℕ} {x : Name} {t u v : Tok} {ts rest : List Tok} {e : Expr} → IsName d x t → Is d (mark Assign) u → Expression 3 d ts e (v ∷ rest) → Is d (mark Semicolon) v → Statement d (t ∷ u ∷ ts) (tree.assign x e) rest
    calls : {d : ℕ} {x : Name} {t u v w : Tok} {ts rest : List Tok} {es : Exprs} → IsName d x t → Is d (mark LeftParen) u → Actuals (suc d) ts es (v ∷ w ∷ rest) → Is d (mark RightParen) v → Is d (mark Semicolon) w → Statement d (t ∷ u ∷ ts) (tree.calls x es) rest
    -- an else belongs to the nearest if: where an if has none, none follows
    if_then : {d : ℕ} {t u v : Tok} {ts mid rest : List Tok} {c : Cond} {s : Stmt} → Is d (keyword If) t → Is d (mark LeftParen) u → Condition 2 (suc d) ts c (v ∷ mid) → Is d (mark RightParen) v → Statement (suc d) mid s rest → (first rest ≢ keyword Else) → Statement d (t ∷ u ∷ ts) (tree.if_then t.at c s) rest
    if_else : {d : ℕ} {t u v w : Tok} {ts mid more rest : List Tok} {c : Cond} {s r : Stmt} → Is d (keyword If) t → Is d (mark LeftParen) u → Condition 2 (suc d) ts c (v ∷ mid) → Is d (mark RightParen) v → Statement (suc d) mid s (w ∷ more) → Is d (keyword Else) w → Statement (suc d) more r rest → Statement d (t ∷ u ∷ ts) (tree.if_else t.at c s r) rest
    while : {d : ℕ} {t u v : Tok} {ts mid rest : List Tok} {c : Cond} {s : Stmt} → Is d (keyword While) t → Is d (mark LeftParen) u → Condition 2 (suc d) ts c (v ∷ mid) → Is d (mark RightParen) v → Statement (suc d) mid s rest → Statement d (t ∷ u ∷ ts) (tree.while t.at c s) rest
    free : {d : ℕ} {t u : Tok} {ts rest : List Tok} {e : Expr} → Is d (keyword Free) t → Expression 3 d ts e (u ∷ rest) → Is d (mark Semicolon) u → Statement d (t ∷ ts) (tree.free t.at e) rest
    print : {d : ℕ} {t u : Tok} {ts rest : List Tok} {e : Expr} → Is d (keyword Print) t → Expression 3 d ts e (u ∷ rest) → Is d (mark Semicolon) u → Statement d (t ∷ ts) (tree.print t.at e) rest
    return : {d : ℕ} {t u : Tok} {ts rest : List Tok} {e : Expr} → Is d (keyword Return) t → Expression 3 d ts e (u ∷ rest) → Is d (mark Semicolon) u → Statement d (t ∷ ts) (tree.return t.at e) rest
    block : {d : ℕ} {t u : Tok} {ts rest : List Tok} {b : Stmts} → Is d (mark LeftBrace) t → Statements (suc d) ts b (u ∷ rest) → Is d (mark RightBrace) u → Statement d (t ∷ ts) (tree.block t.at b) rest

  pub data Statements : ℕ → List Tok → Stmts → List Tok → Type 0 where
    no_statement : {d : ℕ} {ts : List Tok} → Statements d ts tree.end ts
    statement : {d : ℕ} {ts mid rest : List Tok} {s : Stmt} {b : Stmts} → Statement d ts s mid → Statements d mid b rest → Statements d ts (tree.next s b) rest

-- formals: none, or declarations with commas between them
pub data SomeFormals (d : ℕ) : List Tok → List Declarator → List Tok → Type 0 where
  last_formal : {x : Declarator} {ts rest : List Tok} → Declares d ts x rest → SomeFormals d ts (x ∷ []) rest
  next_formal : {x : Declarator} {t : Tok} {ts mid rest : List Tok} {xs : List Declarator} → Declares d ts x (t ∷ mid) → Is d (mark Comma) t → SomeFormals d mid xs rest → SomeFormals d ts (x ∷ xs) rest

pub data Formals (d : ℕ) : List Tok → List Declarator → List Tok → Type 0 where
  no_formal : {ts : List Tok} → Formals d ts [] ts
  formals : {ts rest : List Tok} {xs : List Declarator} → SomeFormals d ts xs rest → Formals d ts xs rest

pub data Function : List Tok → Fun → List Tok → Type 0 where
  function : {head : Declarator} {xs : List Declarator} {b : Stmts} {t u v w : Tok} {ts mid more rest : List Tok} → Declares 0 ts head (t ∷ mid) → Is 0 (mark LeftParen) t → Formals 1 mid xs (u ∷ v ∷ more) → Is 0 (mark RightParen) u → Is 0 (mark LeftBrace) v → Statements 1 more b (w ∷ rest) → Is 0 (mark RightBrace) w → Function ts (record { head = head; formals = xs; body = b; close = w.at }) rest

-- the tokens are a program: functions up to the end of the source
pub data Programs : List Tok → Program → Type 0 where
  finished : {t : Tok} → t.symbol ≡ end → Programs (t ∷ []) []
  next_function : {f : Fun} {p : Program} {ts rest : List Tok} → Function ts f rest → Programs rest p → Programs ts (f ∷ p)
