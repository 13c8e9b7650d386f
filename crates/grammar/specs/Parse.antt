-- The reader: what it makes of tokens, one function for each method of the code. g is its gas, d how deep the tokens stand. Assumes nothing.
use Rattle.std.specs.Prelude.{ℕ, zero, suc, Bool, true, false, cond, List, [], ◌∷◌, length, ◌==◌}
use Rattle.script.specs.declared.types.«Type».{«Type» as Ty}
use Rattle.script.specs.declared.types.«Type».TheVariants as type
use Rattle.script.specs.declared.types.Name.{Name}
use Rattle.script.specs.declared.types.Declarator.{Declarator}
use Rattle.script.specs.declared.types.Operator.{Operator}
use Rattle.script.specs.declared.types.Operator.TheVariants as operator
use Rattle.script.specs.declared.types.Comparison.{Comparison}
use Rattle.script.specs.declared.types.Comparison.TheVariants as comparison
use Rattle.script.specs.Tree as tree
use Rattle.script.specs.Tree.{Expr, Exprs, Cond, Stmt, Stmts, Fun, Program}
use Rattle.tokens.specs.declared.types.Keyword.TheVariants as word
use Rattle.tokens.specs.declared.types.Mark.TheVariants as sign
use Rattle.tokens.specs.Spelling.{Symbol, name, constant, keyword, mark, end, trouble, Item, trouble_number}
use Rattle.grammar.specs.Tokens.{offset, first}
use Rattle.grammar.specs.Refusals.{tokens, Outcome, reads, refuses}
use Rattle.grammar.specs.Combine.{kind, is, Why, why_bad, why_deep, why_many, why_gas, Out, out_done, out_fail, Parser, after, from, ret, bad, no_more, on, want, loop, many, listed, ends}

-- the kind of names
abbrev pub is_name : ℕ → Bool
is_name k = is (name []) k

-- the kind of constants
abbrev pub is_constant : ℕ → Bool
is_constant k = is (constant 0) k

-- the kinds of types
abbrev pub is_type : ℕ → Bool
is_type k = cond (is (keyword word.Int) k) true (cond (is (keyword word.Ref) k) true (is (keyword word.Q) k))

-- the kinds that a declaration begins with
abbrev pub declares : ℕ → Bool
declares k = cond (is (keyword word.Mutable) k) true (is_type k)

-- how tightly the binary operator of this kind binds; 0 for what is none
abbrev pub binding : ℕ → ℕ
binding k =
    cond (is (mark sign.Star) k) 1
    (cond (is (mark sign.Plus) k) 2
    (cond (is (mark sign.Minus) k) 2
    (cond (is (mark sign.Dot) k) 3 0)))

-- the binary operators that bind so tightly
abbrev pub operates : ℕ → ℕ → Bool
operates n k = binding k == n

-- the kinds of comparisons
abbrev pub compares : ℕ → Bool
compares k =
    cond (is (mark sign.LessEqual) k) true
    (cond (is (mark sign.GreaterEqual) k) true
    (cond (is (mark sign.EqualEqual) k) true
    (cond (is (mark sign.NotEqual) k) true
    (cond (is (mark sign.Less) k) true (is (mark sign.Greater) k)))))

-- how tightly `&&` and `||` bind; 0 for any other kind
abbrev pub joining : ℕ → ℕ
joining k = cond (is (mark sign.AndAnd) k) 1 (cond (is (mark sign.OrOr) k) 2 0)

-- `&&` or `||`, whichever binds so tightly
abbrev pub joins : ℕ → ℕ → Bool
joins n k = joining k == n

-- the kinds that a statement begins with
abbrev pub begins : ℕ → Bool
begins k =
    cond (is_name k) true
    (cond (is (keyword word.If) k) true
    (cond (is (keyword word.While) k) true
    (cond (is (keyword word.Free) k) true
    (cond (is (keyword word.Print) k) true
    (cond (is (keyword word.Return) k) true
    (cond (is (mark sign.LeftBrace) k) true (declares k)))))))

-- the value of a constant
abbrev pub value_of : Symbol → ℕ
value_of (name w) = 0
value_of (constant n) = n
value_of (keyword k) = 0
value_of (mark m) = 0
value_of end = 0
value_of (trouble t) = 0

-- the bytes of a name
abbrev pub spelling : Symbol → List ℕ
spelling (name w) = w
spelling (constant n) = []
spelling (keyword k) = []
spelling (mark m) = []
spelling end = []
spelling (trouble t) = []

-- the range of a name
abbrev pub name_of : Item → Name
name_of i = record { at = i.at; len = length (spelling i.symbol) }

-- the type of a type's keyword
abbrev pub type_of : Symbol → Ty
type_of s = cond (is (keyword word.Int) (kind s)) type.Int (cond (is (keyword word.Ref) (kind s)) type.Ref type.Q)

-- the operator of an operator's mark
abbrev pub operator_of : Symbol → Operator
operator_of s =
    cond (is (mark sign.Star) (kind s)) operator.Multiply
    (cond (is (mark sign.Plus) (kind s)) operator.Add
    (cond (is (mark sign.Minus) (kind s)) operator.Subtract operator.Dot))

-- the comparison of a comparison's mark
abbrev pub comparison_of : Symbol → Comparison
comparison_of s =
    cond (is (mark sign.LessEqual) (kind s)) comparison.LessEqual
    (cond (is (mark sign.GreaterEqual) (kind s)) comparison.GreaterEqual
    (cond (is (mark sign.EqualEqual) (kind s)) comparison.Equal
    (cond (is (mark sign.NotEqual) (kind s)) comparison.NotEqual
    (cond (is (mark sign.Less) (kind s)) comparison.Less comparison.Greater))))

-- the node of `&&` or `||`
abbrev pub join_of : Symbol → ℕ → Cond → Cond → Cond
join_of s at c e = cond (is (mark sign.AndAnd) (kind s)) (tree.both at c e) (tree.either at c e)

-- what stands where a parenthesis may hold an expression or a condition
pub data Thing : Type 0 where
  thing_expr : Expr → Thing
  thing_cond : Cond → Thing

-- what operands and their chains are read as: things where merged, else expressions
abbrev pub Got : Bool → Type 0
Got true = Thing
Got false = Expr

-- an expression as it is read
abbrev pub got : (merged : Bool) → Expr → Got merged
got true e = thing_expr e
got false e = e

-- what a condition is read as: a condition where it must be one, else a thing
abbrev pub Found : Bool → Type 0
Found true = Cond
Found false = Thing

-- a condition as it is read
abbrev pub found : (must : Bool) → Cond → Found must
found true c = c
found false c = thing_cond c

-- a type and a name
abbrev pub typed : ℕ → Bool → Parser Declarator
typed d m = on d is_type (λ i. on d is_name (λ j. ret (record { mutable = m; ty = type_of i.symbol; name = name_of j })) bad) bad

-- a declaration's head: `mutable` or nothing, a type and a name
abbrev pub declarator : ℕ → Parser Declarator
declarator d = on d (is (keyword word.Mutable)) (λ i. typed d true) (typed d false)

-- the rest of a binary node after its operator; p reads its right side, start is the offset of its left side
abbrev pub binary : Parser Expr → ℕ → Expr → Item → Parser Expr
binary p start e i = after p (λ f. ret (tree.binary i.at start (operator_of i.symbol) e f))

-- after an expression k goes on, and a condition stays
abbrev pub goes : (merged : Bool) → (Expr → Parser Expr) → Got merged → Parser (Got merged)
goes true k (thing_expr e) = after (k e) (λ f. ret (thing_expr f))
goes true k (thing_cond c) = ret (thing_cond c)
goes false k e = k e

-- a chain of operators that bind at most so tightly; a reads the first operand, p the others
abbrev pub level : (merged : Bool) → ℕ → ℕ → Parser (Got merged) → Parser Expr → ℕ → Parser (Got merged)
level merged d g a p zero = a
level merged d g a p (suc n) = from (level merged d g a p n) (λ start. goes merged (loop d (operates (suc n)) (binary (level false d g p p n) start) g))

-- the actuals of a call, after its opening parenthesis; s reads an expression in it
abbrev pub actuals : ℕ → ℕ → Parser Expr → Parser Exprs
actuals d g s = listed d s tree.none tree.more g

-- a variable or a call, after its name
abbrev pub named : ℕ → ℕ → Parser Expr → Name → Parser Expr
named d g s x = on d (is (mark sign.LeftParen)) (λ i. after (actuals d g s) (λ es. ret (tree.call x es))) (ret (tree.variable x))

-- a cast after its type
abbrev pub cast_to : (merged : Bool) → ℕ → Parser Expr → ℕ → Ty → Parser (Got merged)
cast_to merged d p at ty = want d sign.RightParen (after p (λ e. ret (got merged (tree.cast at ty e))))

-- what stands in parentheses, after the opening one
abbrev pub grouped : {X : Type 0} → ℕ → Parser X → Parser X
grouped d q = after q (λ x. want d sign.RightParen (ret x))

-- an operand; p reads an operand in it, s an actual, q what stands in parentheses
abbrev pub operand_by : (merged : Bool) → ℕ → ℕ → Parser Expr → Parser Expr → Parser (Got merged) → Parser (Got merged)
operand_by merged d g p s q =
    on d is_constant (λ i. ret (got merged (tree.constant i.at (value_of i.symbol))))
    (on d is_name (λ i. after (named d g s (name_of i)) (λ e. ret (got merged e)))
    (on d (is (keyword word.Nil)) (λ i. ret (got merged (tree.nil i.at)))
    (on d (is (mark sign.Minus)) (λ i. after p (λ e. ret (got merged (tree.negate i.at e))))
    (on d (is (mark sign.LeftParen)) (λ i. on d is_type (λ j. cast_to merged d p i.at (type_of j.symbol)) (grouped d q))
    bad))))

-- any expression, by the reader of its operands
abbrev pub expression_by : ℕ → ℕ → Parser Expr → Parser Expr
expression_by d g p = level false d g p p 3

-- an operand of an expression
unfoldable pub operand : ℕ → ℕ → Parser Expr
operand zero d = no_more
operand (suc g) d = operand_by false d g (operand g (suc d)) (expression_by (suc d) g (operand g (suc d))) (expression_by (suc d) g (operand g (suc d)))

-- an expression
abbrev pub expression : ℕ → ℕ → Parser Expr
expression g d = expression_by d g (operand g d)

-- a comparison after its left side; s reads the right side
abbrev pub compared : (must : Bool) → ℕ → Parser Expr → Expr → Parser (Found must) → Parser (Found must)
compared must d s e q = on d compares (λ i. after s (λ f. ret (found must (tree.compare i.at (comparison_of i.symbol) e f)))) q

-- what a thing goes on to: a condition stays, and a comparison may follow an expression, or must
abbrev pub tested : (must : Bool) → ℕ → Parser Expr → Thing → Parser (Found must)
tested must d s (thing_cond c) = ret (found must c)
tested true d s (thing_expr e) = compared true d s e bad
tested false d s (thing_expr e) = compared false d s e (ret (thing_expr e))

-- a negation or a comparison; t reads the thing that it begins with, s the right side of a comparison, n what is negated
abbrev pub negation_by : (must : Bool) → ℕ → Parser Thing → Parser Expr → Parser Cond → Parser (Found must)
negation_by must d t s n = on d (is (mark sign.Not)) (λ i. after n (λ c. ret (found must (tree.negated i.at c)))) (after t (tested must d s))

-- the rest of an `&&` or `||` after it; p reads its right side
abbrev pub joined : Parser Cond → Cond → Item → Parser Cond
joined p c i = after p (λ e. ret (join_of i.symbol i.at c e))

-- after a condition k goes on, and an expression stays
abbrev pub holds : (must : Bool) → (Cond → Parser Cond) → Found must → Parser (Found must)
holds true k c = k c
holds false k (thing_cond c) = after (k c) (λ e. ret (thing_cond e))
holds false k (thing_expr e) = ret (thing_expr e)

-- a chain of `&&` and `||` that bind at most so tightly; a reads the first condition, p the others
abbrev pub condition_by : (must : Bool) → ℕ → ℕ → Parser (Found must) → Parser Cond → ℕ → Parser (Found must)
condition_by must d g a p zero = a
condition_by must d g a p (suc n) = after (condition_by must d g a p n) (holds must (loop d (joins (suc n)) (joined (condition_by true d g p p n)) g))

-- an operand where a parenthesis may hold a condition; q reads what stands in it
abbrev pub merged : ℕ → ℕ → Parser Thing → Parser Thing
merged g d q = operand_by true d g (operand g (suc d)) (expression g (suc d)) q

-- a negation or a comparison; where it need not be a condition, an expression
unfoldable pub negation : (must : Bool) → ℕ → ℕ → Parser (Found must)
negation must zero d = no_more
negation must (suc g) d =
    negation_by must d
    (level true d g (merged g d (condition_by false (suc d) g (negation false g (suc d)) (negation true g (suc d)) 2)) (operand g d) 3)
    (expression g d) (negation true g (suc d))

-- a condition; where it need not be one, an expression or a condition
abbrev pub condition : (must : Bool) → ℕ → ℕ → Parser (Found must)
condition must g d = condition_by must d g (negation must g d) (negation true g d) 2

-- an expression and a semicolon
abbrev pub ended : ℕ → Parser Expr → (Expr → Stmt) → Parser Stmt
ended d e f = after e (λ x. want d sign.Semicolon (ret (f x)))

-- a declaration
abbrev pub declaration : ℕ → Parser Expr → Parser Stmt
declaration d e = from (declarator d) (λ start x. want d sign.Assign (ended d e (tree.declare start x)))

-- an assignment or a call, after its name; s reads an actual
abbrev pub assignment : ℕ → ℕ → Parser Expr → Parser Expr → Name → Parser Stmt
assignment d g e s x =
    on d (is (mark sign.Assign)) (λ i. ended d e (tree.assign x))
    (on d (is (mark sign.LeftParen)) (λ i. after (actuals d g s) (λ es. want d sign.Semicolon (ret (tree.calls x es)))) bad)

-- what stands after the condition and the first body of an if
abbrev pub otherwise : ℕ → ℕ → Parser Stmt → Cond → Stmt → Parser Stmt
otherwise d at s c y = on d (is (keyword word.Else)) (λ i. after s (λ z. ret (tree.if_else at c y z))) (ret (tree.if_then at c y))

-- a condition in parentheses and a body
abbrev pub tests : ℕ → Parser Cond → Parser Stmt → (Cond → Stmt → Parser Stmt) → Parser Stmt
tests d c s k = want d sign.LeftParen (after c (λ x. want d sign.RightParen (after s (k x))))

-- a statement; e reads an expression, s an actual, c a condition, b a body, ss the statements of a block
abbrev pub statement_by : ℕ → ℕ → Parser Expr → Parser Expr → Parser Cond → Parser Stmt → Parser Stmts → Parser Stmt
statement_by d g e s c b ss =
    on d is_name (λ i. assignment d g e s (name_of i))
    (on d (is (keyword word.If)) (λ i. tests d c b (otherwise d i.at b))
    (on d (is (keyword word.While)) (λ i. tests d c b (λ x y. ret (tree.while i.at x y)))
    (on d (is (keyword word.Free)) (λ i. ended d e (tree.free i.at))
    (on d (is (keyword word.Print)) (λ i. ended d e (tree.print i.at))
    (on d (is (keyword word.Return)) (λ i. ended d e (tree.return i.at))
    (on d (is (mark sign.LeftBrace)) (λ i. after ss (λ x. want d sign.RightBrace (ret (tree.block i.at x))))
    (declaration d e)))))))

-- statements, as long as one begins; p reads one
abbrev pub statements_by : ℕ → Parser Stmt → Parser Stmts
statements_by g p = many begins p tree.end tree.next g

-- a statement
unfoldable pub statement : ℕ → ℕ → Parser Stmt
statement zero d = no_more
statement (suc g) d = statement_by d g (expression g d) (expression g (suc d)) (condition true g (suc d)) (statement g (suc d)) (statements_by g (statement g (suc d)))

-- statements
abbrev pub statements : ℕ → ℕ → Parser Stmts
statements g d = statements_by g (statement g d)

-- formals, after their opening parenthesis
abbrev pub formals : ℕ → Parser (List Declarator)
formals g = listed 0 (declarator 1) [] (λ x xs. x ∷ xs) g

-- the body of a function after its opening brace
abbrev pub body : ℕ → Declarator → List Declarator → Parser Fun
body g h xs = after (statements g 1) (λ b. on 0 (is (mark sign.RightBrace)) (λ i. ret (record { head = h; formals = xs; body = b; close = i.at })) bad)

-- a function
abbrev pub function : ℕ → Parser Fun
function g = after (declarator 0) (λ h. want 0 sign.LeftParen (after (formals g) (λ xs. want 0 sign.LeftBrace (body g h xs))))

-- a program: functions, as long as one begins, and the end of the source
unfoldable pub program : ℕ → Parser Program
program g = after (many declares (function g) [] (λ f p. f ∷ p) g) ends

-- the number of a refusal
abbrev pub why_number : Why → ℕ
why_number why_bad = 4
why_number why_deep = 5
why_number why_many = 6
why_number why_gas = 0

-- the number of the refusal of this symbol: a trouble has its own
abbrev pub number_of : Why → Symbol → ℕ
number_of n (name w) = why_number n
number_of n (constant c) = why_number n
number_of n (keyword k) = why_number n
number_of n (mark m) = why_number n
number_of n end = why_number n
number_of n (trouble t) = trouble_number t

-- what an outcome of the reader comes to
abbrev pub verdict : Out Program → Outcome
verdict (out_done p rest) = reads p
verdict (out_fail rest n) = refuses (offset rest) (number_of n (first rest))

-- what reading the items of a source comes to; the gas is enough, since each turn takes a token
unfoldable pub outcome : List Item → Outcome
outcome is = verdict (program (suc (length is)) (tokens is))
