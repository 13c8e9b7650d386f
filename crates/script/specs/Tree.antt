-- The tree of a script. Each node has its offset: of a binary node its operator's, of any other its first byte's. Assumes nothing.
use Rattle.std.specs.Prelude.{ℕ, suc, List}
use Rattle.script.specs.declared.types.«Type».{«Type» as Ty}
use Rattle.script.specs.declared.types.Name.{Name}
use Rattle.script.specs.declared.types.Declarator.{Declarator}
use Rattle.script.specs.declared.types.Operator.{Operator}
use Rattle.script.specs.declared.types.Comparison.{Comparison}

-- expressions; a binary one also has the first byte of its left operand as it is written, parentheses included
mutual
  pub data Expr : Type 0 where
    nil : ℕ → Expr
    constant : ℕ → ℕ → Expr
    variable : Name → Expr
    negate : ℕ → Expr → Expr
    cast : ℕ → Ty → Expr → Expr
    binary : ℕ → ℕ → Operator → Expr → Expr → Expr
    call : Name → Exprs → Expr

  -- the actuals of a call
  pub data Exprs : Type 0 where
    none : Exprs
    more : Expr → Exprs → Exprs

pub data Cond : Type 0 where
  compare : ℕ → Comparison → Expr → Expr → Cond
  negated : ℕ → Cond → Cond
  both : ℕ → Cond → Cond → Cond
  either : ℕ → Cond → Cond → Cond

mutual
  pub data Stmt : Type 0 where
    declare : ℕ → Declarator → Expr → Stmt
    assign : Name → Expr → Stmt
    calls : Name → Exprs → Stmt
    if_then : ℕ → Cond → Stmt → Stmt
    if_else : ℕ → Cond → Stmt → Stmt → Stmt
    while : ℕ → Cond → Stmt → Stmt
    free : ℕ → Expr → Stmt
    print : ℕ → Expr → Stmt
    return : ℕ → Expr → Stmt
    block : ℕ → Stmts → Stmt

  -- the statements of a block or a body
  pub data Stmts : Type 0 where
    end : Stmts
    next : Stmt → Stmts → Stmts

-- a function: its declaration, its formals, its statements and the offset of its closing brace
pub record Fun : Type 0 where
  pub head : Declarator
  pub formals : List Declarator
  pub body : Stmts
  pub close : ℕ

abbrev pub Program : Type 0
Program = List Fun

-- the first byte of an expression, without parentheses round the whole
abbrev pub start : Expr → ℕ
start (nil at) = at
start (constant at n) = at
start (variable x) = x.at
start (negate at e) = at
start (cast at t e) = at
start (binary at from o l r) = from
start (call x es) = x.at

-- how many actuals there are
abbrev pub count : Exprs → ℕ
count none = 0
count (more e es) = suc (count es)
