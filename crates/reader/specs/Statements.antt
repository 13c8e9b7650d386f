-- What reading statements does. Assumes nothing.
use Rattle.std.specs.Prelude.{◌≡◌, ℕ, suc, ◌+◌, ◌-◌, ◌*◌, ◌<◌, ◌≤◌, true, List, [], ◌∷◌, ◌++◌, length, Ok, Err, vec_items, vec_len, Result}
use Rattle.script.specs.declared.types.Declarator.{Declarator}
use Rattle.script.specs.declared.types.Node.{Node}
use Rattle.script.specs.declared.types.Node.TheVariants.{Begin}
use Rattle.script.specs.Tree.{Expr, Cond, Stmt}
use Rattle.script.specs.Flat.{flat, flat_cond, flat_stmt, scoped}
use Rattle.grammar.specs.Combine.{out_done, Parser, after}
use Rattle.grammar.specs.Parse.{expression, condition, ended, tests}
use Rattle.reader.specs.declared.refusal.ReadRefusal.{ReadRefusal}
use Rattle.reader.specs.declared.cursor.Cursor.{Cursor}
use Rattle.reader.specs.declared.code.Code.{Code}
use Rattle.reader.specs.Cursor.{left}
use Rattle.reader.specs.Reading.{Moved, Read, Refused}

-- f at the cursor c has come to h at the cursor e, with the gas lowered by k
pub record Leads {X : Type 0} (k : ℕ) (f : ℕ → Parser X) (c : Cursor) (h : ℕ → Parser X) (e : Cursor) : Type 0 where
  pub is : (g : ℕ) → length (left c) < g → f g (left c) ≡ h (g - k) (left e)
  pub fall : length (left e) + k ≤ length (left c)

-- f read the head of a declaration
pub record Declared (f : Parser Declarator) (c e : Cursor) (x : Declarator) : Type 0 where
  pub is : f (left c) ≡ out_done x (left e)
  pub on : c.taken + 2 ≤ e.taken
  pub fall : length (left e) + 2 ≤ length (left c)

abbrev pub Declares : Parser Declarator → Cursor → Cursor → Result Declarator ReadRefusal → Type 0
Declares f c e (Ok x) = Declared f c e x
Declares f c e (Err r) = Refused (λ g. f) c r

-- from c to e a tree was read by f, and its code was written, with k nodes more than two a token
pub record Went {X : Type 0} (k : ℕ) (f : ℕ → Parser X) (code_of : X → List Node) (c e : Cursor) (o p : Code) : Type 0 where
  pub tree : X
  pub is : (g : ℕ) → length (left c) < g → f g (left c) ≡ out_done tree (left e)
  pub code : vec_items p.nodes ≡ vec_items o.nodes ++ code_of tree
  pub moved : Moved k c e o p

abbrev pub Goes : {X Y : Type 0} → ℕ → (ℕ → Parser X) → (X → List Node) → Cursor → Cursor → Code → Code → Result Y ReadRefusal → Type 0
Goes k f code_of c e o p (Ok y) = Went k f code_of c e o p
Goes k f code_of c e o p (Err r) = Refused f c r

-- a tree was read, and fewer tokens are left
pub record Stated {X : Type 0} (f : ℕ → Parser X) (code_of : X → List Node) (c e : Cursor) (o p : Code) : Type 0 where
  pub read : Read f code_of c e o p
  pub shorter : length (left e) < length (left c)

abbrev pub States : {X Y : Type 0} → (ℕ → Parser X) → (X → List Node) → Cursor → Cursor → Code → Code → Result Y ReadRefusal → Type 0
States f code_of c e o p (Ok y) = Stated f code_of c e o p
States f code_of c e o p (Err r) = Refused f c r

-- an expression and a semicolon, read as any statement whose code is a begin, the expression's code and this node
abbrev pub Ends : {Y : Type 0} → ℕ → ℕ → Node → Cursor → Cursor → Code → Code → Result Y ReadRefusal → Type 0
Ends d at n c e o p r =
    (f : Expr → Stmt) → ((x : Expr) → flat_stmt (f x) ≡ Begin at ∷ (flat x ++ (n ∷ [])))
    → Goes 2 (λ g. ended d (expression g d) f) flat_stmt c e o p r

-- a condition in parentheses was read, and its code was written after a begin, up to n
pub record Tested (d at : ℕ) (c e : Cursor) (o p : Code) (n : ℕ) : Type 0 where
  pub tree : Cond
  pub is : (s : ℕ → Parser Stmt) (k : ℕ → Cond → Stmt → Parser Stmt) → Leads 0 (λ g. tests d (condition true g (suc d)) (s g) (k g)) c (λ g. after (s g) (k g tree)) e
  pub code : vec_items p.nodes ≡ vec_items o.nodes ++ (Begin at ∷ flat_cond tree)
  pub moved : Moved 0 c e o p
  pub end : n ≡ vec_len p.nodes
  pub spent : vec_len p.nodes + 2 * (2048 - e.taken) + 3 ≤ vec_len o.nodes + 2 * (2048 - c.taken)

abbrev pub Tests : ℕ → ℕ → Cursor → Cursor → Code → Code → Result ℕ ReadRefusal → Type 0
Tests d at c e o p (Ok n) = Tested d at c e o p n
Tests d at c e o p (Err r) = (s : ℕ → Parser Stmt) (k : ℕ → Cond → Stmt → Parser Stmt) → Refused (λ g. tests d (condition true g (suc d)) (s g) (k g)) c r

-- a body is a statement whose code closes a scope
abbrev pub flat_body : Stmt → List Node
flat_body s = scoped (flat_stmt s)
