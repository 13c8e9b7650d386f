-- What the readers of expressions and conditions give one another. A gas is enough here where it is at least the number of tokens left. Assumes nothing.
use Rattle.std.specs.Prelude.{◌≡◌, ℕ, suc, ◌+◌, ◌-◌, ◌<◌, ◌≤◌, Bool, true, false, List, [], ◌∷◌, ◌++◌, length, Some, None, Ok, Err, vec_items, vec_len, vec_capacity, Option, Result}
use Rattle.std.specs.List.{insert}
use Rattle.script.specs.declared.types.Comparison.{Comparison}
use Rattle.script.specs.declared.types.Node.{Node}
use Rattle.script.specs.Tree.{Expr, Cond}
use Rattle.script.specs.Flat.{flat, flat_cond}
use Rattle.grammar.specs.Tokens.{Tok, first}
use Rattle.grammar.specs.Combine.{Why, out_done, out_fail, Parser, kind_at, on, loop}
use Rattle.grammar.specs.Parse.{Thing as Either, thing_expr, thing_cond, Got, Found, is_type, type_of, compares, comparison_of, operates, joins, binary, joined, level, cast_to, grouped, operand_by, operand, expression, tested, condition_by, negation, condition}
use Rattle.reader.specs.declared.refusal.ReadRefusal.{ReadRefusal}
use Rattle.reader.specs.declared.cursor.Cursor.{Cursor}
use Rattle.reader.specs.declared.code.Code.{Code}
use Rattle.reader.specs.declared.code.Thing.{Thing}
use Rattle.reader.specs.declared.code.Thing.TheVariants.{Expression, Condition}
use Rattle.reader.specs.Cursor.{left}
use Rattle.reader.specs.Reading.{Refusal, Moved}

-- the comparison at hand
abbrev pub IsComparison : List Tok → Option Comparison → Type 0
IsComparison ts None = compares (kind_at ts) ≡ false
IsComparison ts (Some o) = (compares (kind_at ts) ≡ true) × (o ≡ comparison_of (first ts)) × (1 < kind_at ts)

-- e is one deeper than d; beyond 64 any depth is as good, since no token may stand there
pub record Deeper (d e : ℕ) : Type 0 where
  pub next : d < 64 → e ≡ d + 1
  pub beyond : 64 ≤ d → 64 < e

-- a node was written after the code o, or before its node i
pub record Wrote (n : Node) (o p : Code) : Type 0 where
  pub items : vec_items p.nodes ≡ vec_items o.nodes ++ (n ∷ [])
  pub len : vec_len p.nodes ≡ vec_len o.nodes + 1
  pub cap : vec_capacity o.nodes ≤ vec_capacity p.nodes
  pub functions : p.functions ≡ o.functions
  pub formals : p.formals ≡ o.formals

pub record Inserted (i : ℕ) (n : Node) (o p : Code) : Type 0 where
  pub items : vec_items p.nodes ≡ insert (vec_items o.nodes) i n
  pub len : vec_len p.nodes ≡ vec_len o.nodes + 1
  pub cap : vec_capacity o.nodes ≤ vec_capacity p.nodes
  pub functions : p.functions ≡ o.functions
  pub formals : p.formals ≡ o.formals

-- the code of what was read, and which it is
abbrev pub flat_thing : Either → List Node
flat_thing (thing_expr e) = flat e
flat_thing (thing_cond c) = flat_cond c

abbrev pub thing_of : Either → Thing
thing_of (thing_expr e) = Expression
thing_of (thing_cond c) = Condition

abbrev pub flat_got : (m : Bool) → Got m → List Node
flat_got true t = flat_thing t
flat_got false e = flat e

abbrev pub got_is : (m : Bool) → Got m → Thing
got_is true t = thing_of t
got_is false e = Expression

abbrev pub flat_found : (m : Bool) → Found m → List Node
flat_found true c = flat_cond c
flat_found false t = flat_thing t

abbrev pub found_is : (m : Bool) → Found m → Thing
found_is true c = Condition
found_is false t = thing_of t

-- what stands in parentheses at depth d
abbrev pub inside : (m : Bool) → ℕ → ℕ → Parser (Got m)
inside true g d = condition false g d
inside false g d = expression g d

-- a cast or a group, after the opening parenthesis, which stands at this offset
abbrev pub bracketed : (m : Bool) → ℕ → Parser Expr → Parser (Got m) → ℕ → Parser (Got m)
bracketed m d p q at = on d is_type (λ j. cast_to m d p at (type_of j.symbol)) (grouped d q)

-- an operand, and a chain of operators that bind at most so tightly
abbrev pub operands : (m : Bool) → ℕ → ℕ → Parser (Got m)
operands m g d = operand_by m d g (operand g (suc d)) (expression g (suc d)) (inside m g (suc d))

abbrev pub levels : (m : Bool) → ℕ → ℕ → ℕ → Parser (Got m)
levels true n g d = level true d g (operands true g d) (operand g d) n
levels false n g d = level false d (suc g) (operand (suc g) d) (operand (suc g) d) n

-- the rest of a chain after its left side; g is the operands' gas and h the chain's
abbrev pub chained : ℕ → ℕ → ℕ → ℕ → ℕ → Expr → Parser Expr
chained d n start g h = loop d (operates n) (binary (level false d g (operand g d) (operand g d) (n - 1)) start) h

-- a chain of conditions that bind at most so tightly, and the rest of one after its left side
abbrev pub conditions : (must : Bool) → ℕ → ℕ → ℕ → Parser (Found must)
conditions must n g d = condition_by must d (suc g) (negation must (suc g) d) (negation true (suc g) d) n

abbrev pub joining_on : ℕ → ℕ → ℕ → ℕ → Cond → Parser Cond
joining_on d n g h = loop d (joins n) (joined (condition_by true d g (negation true g d) (negation true g d) (n - 1))) h

-- from c to e a tree was read by f, and its code was written, in k nodes more than two a token
-- (Statements says the same of a gas above the number of tokens left: made one, either would be read at a predecessor, which is no plainer)
pub record Went {X : Type 0} (k : ℕ) (f : ℕ → Parser X) (code_of : X → List Node) (c e : Cursor) (o p : Code) : Type 0 where
  pub tree : X
  pub is : (g : ℕ) → length (left c) ≤ g → f g (left c) ≡ out_done tree (left e)
  pub code : vec_items p.nodes ≡ vec_items o.nodes ++ code_of tree
  pub moved : Moved k c e o p
  pub some : c.taken < e.taken + k

-- f refuses a token
pub record Stops {X : Type 0} (f : ℕ → Parser X) (c : Cursor) (e : ReadRefusal) : Type 0 where
  pub rest : List Tok
  pub why : Why
  pub is : (g : ℕ) → length (left c) ≤ g → f g (left c) ≡ out_fail rest why
  pub told : Refusal rest why e

abbrev pub Goes : {X Y : Type 0} → ℕ → (ℕ → Parser X) → (X → List Node) → Cursor → Cursor → Code → Code → Result Y ReadRefusal → Type 0
Goes k f code_of c e o p (Ok y) = Went k f code_of c e o p
Goes k f code_of c e o p (Err r) = Stops f c r

-- and it is said which it was
pub record Gave {X : Type 0} (k : ℕ) (f : ℕ → Parser X) (code_of : X → List Node) (kind_of : X → Thing) (c e : Cursor) (o p : Code) (y : Thing) : Type 0 where
  pub went : Went k f code_of c e o p
  pub thing : y ≡ kind_of went.tree

abbrev pub Gives : {X : Type 0} → ℕ → (ℕ → Parser X) → (X → List Node) → (X → Thing) → Cursor → Cursor → Code → Code → Result Thing ReadRefusal → Type 0
Gives k f code_of kind_of c e o p (Ok y) = Gave k f code_of kind_of c e o p y
Gives k f code_of kind_of c e o p (Err r) = Stops f c r

-- after an x, whose code follows the first nodes, reading went on to what f g x reads
pub record Onto {X Y : Type 0} (f : ℕ → X → Parser Y) (code_of : Y → List Node) (P : Y → Type 0) (x : X) (front : List Node) (c e : Cursor) (p : Code) : Type 0 where
  pub tree : Y
  pub is : (g : ℕ) → length (left c) ≤ g → f g x (left c) ≡ out_done tree (left e)
  pub code : vec_items p.nodes ≡ front ++ code_of tree
  pub thing : P tree

-- whatever x was read before, whose code begins at the node `start`
pub record Followed {X Y : Type 0} (f : ℕ → X → Parser Y) (code_of : X → List Node) (code_of' : Y → List Node) (P : Y → Type 0) (start : ℕ) (c e : Cursor) (o p : Code) : Type 0 where
  pub moved : Moved 0 c e o p
  pub onto : (x : X) (front : List Node) → vec_items o.nodes ≡ front ++ code_of x → length front ≡ start → Onto f code_of' P x front c e p

pub record Halts {X Y : Type 0} (f : ℕ → X → Parser Y) (code_of : X → List Node) (start : ℕ) (c : Cursor) (o : Code) (e : ReadRefusal) : Type 0 where
  pub rest : List Tok
  pub why : Why
  pub is : (x : X) (front : List Node) → vec_items o.nodes ≡ front ++ code_of x → length front ≡ start → (g : ℕ) → length (left c) ≤ g → f g x (left c) ≡ out_fail rest why
  pub told : Refusal rest why e

abbrev pub Follows : {X : Type 0} → (ℕ → X → Parser X) → (X → List Node) → ℕ → Cursor → Cursor → Code → Code → Result (Unit {0}) ReadRefusal → Type 0
Follows f code_of start c e o p (Ok y) = Followed f code_of code_of (λ _. Unit {0}) start c e o p
Follows f code_of start c e o p (Err r) = Halts f code_of start c o r

-- after an expression that a condition may begin with
abbrev pub Compares : (must : Bool) → ℕ → ℕ → Cursor → Cursor → Code → Code → Result Thing ReadRefusal → Type 0
Compares must d start c e o p (Ok y) = Followed (λ g x. tested must d (expression g d) (thing_expr x)) flat (flat_found must) (λ t. y ≡ found_is must t) start c e o p
Compares must d start c e o p (Err r) = Halts {Y = Found must} (λ g x. tested must d (expression g d) (thing_expr x)) flat start c o r
