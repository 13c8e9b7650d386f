-- The flat code of a tree: its nodes in reading order, with a begin before the parts of a node and its operation after them. Assumes nothing.
use Rattle.std.specs.Prelude.{ℕ, ◌+◌, List, [], ◌∷◌, ◌++◌, length}
use Rattle.script.specs.declared.types.Declarator.{Declarator}
use Rattle.script.specs.declared.types.Function.{Function}
use Rattle.script.specs.declared.types.Node.{Node}
use Rattle.script.specs.declared.types.Node.TheVariants as node
use Rattle.script.specs.Tree.{Expr, nil, constant, variable, negate, cast, binary, call, Exprs, none, more, Cond, compare, negated, both, either, Stmt, declare, assign, calls, if_then, if_else, while, free, print, return, block, Stmts, end, next, Fun, Program, count}

-- leaves are one entry that begins and gives its value
abbrev mutual
  pub flat : Expr → List Node
  flat (nil at) = node.Nil at ∷ []
  flat (constant at n) = node.Constant at n ∷ []
  flat (variable x) = node.Variable x ∷ []
  flat (negate at e) = node.Begin at ∷ (flat e ++ (node.Negate at ∷ []))
  flat (cast at t e) = node.Begin at ∷ (flat e ++ (node.Cast at t ∷ []))
  flat (binary at from o l r) = node.Begin at ∷ (flat l ++ flat r ++ (node.Binary at from o ∷ []))
  flat (call x es) = node.Begin x.at ∷ (flats es ++ (node.Call x (count es) ∷ []))

  pub flats : Exprs → List Node
  flats none = []
  flats (more e es) = flat e ++ flats es

-- a condition sets a flag; `&&` skips its right side where the left is false, `||` where it is true
abbrev pub flat_cond : Cond → List Node
flat_cond (compare at o l r) = node.Begin at ∷ (flat l ++ flat r ++ (node.Compare o ∷ []))
flat_cond (negated at c) = node.Begin at ∷ (flat_cond c ++ (node.Not ∷ []))
flat_cond (both at c d) = node.Begin at ∷ (flat_cond c ++ (node.And (length (flat_cond d)) ∷ flat_cond d))
flat_cond (either at c d) = node.Begin at ∷ (flat_cond c ++ (node.Or (length (flat_cond d)) ∷ flat_cond d))

-- a body is a scope of its own, which EndScope closes
abbrev pub scoped : List Node → List Node
scoped code = code ++ (node.EndScope ∷ [])

-- an if, by the code of its condition and of its bodies: where the condition is false, the first body is passed
abbrev pub if_then_code : ℕ → (test first : List Node) → List Node
if_then_code at test first = node.Begin at ∷ (test ++ (node.Then (length first) ∷ first))

abbrev pub if_else_code : ℕ → (test first other : List Node) → List Node
if_else_code at test first other = node.Begin at ∷ (test ++ (node.Then (length first + 1) ∷ (first ++ (node.Else (length other) ∷ other))))

-- a while, by the code of its condition and its body: Back leads to its begin
abbrev pub looped : ℕ → (test body : List Node) → List Node
looped at test body = node.Begin at ∷ (test ++ (node.Loop (length body + 1) ∷ (body ++ (node.Back (length test + length body + 2) ∷ []))))

abbrev mutual
  pub flat_stmt : Stmt → List Node
  flat_stmt (declare at d e) = node.Begin at ∷ (flat e ++ (node.Declare d ∷ []))
  flat_stmt (assign x e) = node.Begin x.at ∷ (flat e ++ (node.Assign x ∷ []))
  flat_stmt (calls x es) = node.Begin x.at ∷ (flats es ++ (node.CallStatement x (count es) ∷ []))
  flat_stmt (if_then at c s) = if_then_code at (flat_cond c) (scoped (flat_stmt s))
  flat_stmt (if_else at c s t) = if_else_code at (flat_cond c) (scoped (flat_stmt s)) (scoped (flat_stmt t))
  flat_stmt (while at c s) = looped at (flat_cond c) (scoped (flat_stmt s))
  flat_stmt (free at e) = node.Begin at ∷ (flat e ++ (node.Free ∷ []))
  flat_stmt (print at e) = node.Begin at ∷ (flat e ++ (node.Print ∷ []))
  flat_stmt (return at e) = node.Begin at ∷ (flat e ++ (node.Return ∷ []))
  flat_stmt (block at b) = node.BeginBlock at ∷ scoped (flat_stmts b)

  pub flat_stmts : Stmts → List Node
  flat_stmts end = []
  flat_stmts (next s b) = flat_stmt s ++ flat_stmts b

abbrev pub flat_formals : List Declarator → List Node
flat_formals [] = []
flat_formals (d ∷ ds) = node.Formal d ∷ flat_formals ds

abbrev pub flat_fun : Fun → List Node
flat_fun f = node.Enter f.head ∷ (flat_formals f.formals ++ flat_stmts f.body ++ (node.Leave f.close ∷ []))

abbrev pub flat_program : Program → List Node
flat_program [] = []
flat_program (f ∷ fs) = flat_fun f ++ flat_program fs

-- the formals of all functions, one after the other
abbrev pub formals_of : Program → List Declarator
formals_of [] = []
formals_of (f ∷ fs) = f.formals ++ formals_of fs

-- the table of functions: i formals and n entries stand before this program's
abbrev pub functions_of : ℕ → ℕ → Program → List Function
functions_of i n [] = []
functions_of i n (f ∷ fs) =
    record { head = f.head; first = i; formals = length f.formals; entry = n + 1 + length f.formals; close = f.close }
    ∷ functions_of (i + length f.formals) (n + length (flat_fun f)) fs
