-- What a step of reading does to the cursor and to the code. Assumes nothing.
use Rattle.std.specs.Prelude.{◌≡◌, ℕ, ◌+◌, ◌-◌, ◌*◌, ◌<◌, ◌≤◌, true, false, List, ◌++◌, length, Some, None, Ok, Err, vec_items, vec_len, vec_capacity, Option, Result}
use Rattle.script.specs.declared.types.«Type».{«Type» as Ty}
use Rattle.script.specs.declared.types.Node.{Node}
use Rattle.script.specs.declared.types.Name.{Name}
use Rattle.script.specs.Tree.{Exprs, count}
use Rattle.script.specs.Flat.{flats}
use Rattle.tokens.specs.declared.types.Mark.{Mark}
use Rattle.tokens.specs.Spelling.{item_of, mark, trouble_number}
use Rattle.grammar.specs.Tokens.{Tok, offset, first}
use Rattle.grammar.specs.Combine.{Why, why_bad, why_deep, why_many, out_done, out_fail, Parser, kind_at, is}
use Rattle.grammar.specs.Parse.{number_of, is_name, is_type, name_of, type_of}
use Rattle.reader.specs.declared.refusal.Reason.{Reason}
use Rattle.reader.specs.declared.refusal.Reason.TheVariants.{TooLong, Trouble, Wrong, TooDeep, TooMany}
use Rattle.reader.specs.declared.refusal.ReadRefusal.{ReadRefusal}
use Rattle.reader.specs.declared.cursor.Cursor.{Cursor}
use Rattle.reader.specs.declared.code.Code.{Code}
use Rattle.reader.specs.Cursor.{left, after}

-- the number of a refusal
abbrev pub reason_number : Reason → ℕ
reason_number TooLong = 1
reason_number (Trouble t) = trouble_number t
reason_number Wrong = 4
reason_number TooDeep = 5
reason_number TooMany = 6

-- the first of these tokens is refused for this reason
pub record Refusal (ts : List Tok) (why : Why) (e : ReadRefusal) : Type 0 where
  pub at : e.at ≡ offset ts
  pub number : reason_number e.reason ≡ number_of why (first ts)

-- the token at hand was passed: it stands inside at most 64 and is among the first 2,048
pub record Passed (d : ℕ) (c e : Cursor) : Type 0 where
  pub deep : d ≤ 64
  pub counted : c.taken < 2048
  pub rest : left e ≡ after (left c)
  pub taken : e.taken ≡ c.taken + 1

-- the token at hand was not passed
pub data NotPassed (d : ℕ) (c : Cursor) (e : ReadRefusal) : Type 0 where
  too_deep : 64 < d → Refusal (left c) why_deep e → NotPassed d c e
  too_many : d ≤ 64 → 2048 ≤ c.taken → Refusal (left c) why_many e → NotPassed d c e

pub data NotExpected (m : Mark) (d : ℕ) (c : Cursor) (e : ReadRefusal) : Type 0 where
  stays : is (mark m) (kind_at (left c)) ≡ true → NotPassed d c e → NotExpected m d c e
  other : is (mark m) (kind_at (left c)) ≡ false → Refusal (left c) why_bad e → NotExpected m d c e

abbrev pub Passes : ℕ → Cursor → Cursor → Result (Unit {0}) ReadRefusal → Type 0
Passes d c e (Ok x) = Passed d c e
Passes d c e (Err r) = NotPassed d c r

-- a mark was wanted: it stands there and was passed, or not passed, or another token stands there
abbrev pub Expects : Mark → ℕ → Cursor → Cursor → Result (Unit {0}) ReadRefusal → Type 0
Expects m d c e (Ok x) = (is (mark m) (kind_at (left c)) ≡ true) × Passed d c e
Expects m d c e (Err r) = NotExpected m d c r

-- the range of the name at hand
abbrev pub IsName : Cursor → Option Name → Type 0
IsName c None = is_name (kind_at (left c)) ≡ false
IsName c (Some x) = (is_name (kind_at (left c)) ≡ true) × (x ≡ name_of (item_of c.here))

-- the type whose keyword is at hand
abbrev pub IsType : List Tok → Option Ty → Type 0
IsType ts None = is_type (kind_at ts) ≡ false
IsType ts (Some t) = (is_type (kind_at ts) ≡ true) × (t ≡ type_of (first ts)) × (1 < kind_at ts)

-- reading went on from the cursor c and the code o to e and p: at most two nodes were written for each token that was passed, and k more
pub record Moved (k : ℕ) (c e : Cursor) (o p : Code) : Type 0 where
  pub on : c.taken ≤ e.taken
  pub fall : length (left e) ≤ length (left c)
  pub spent : vec_len p.nodes + 2 * (2048 - e.taken) ≤ vec_len o.nodes + 2 * (2048 - c.taken) + k
  pub grown : vec_len o.nodes ≤ vec_len p.nodes
  pub cap : vec_capacity o.nodes ≤ vec_capacity p.nodes
  pub functions : p.functions ≡ o.functions
  pub formals : p.formals ≡ o.formals

-- there is room for two nodes a token that may still be passed, and for k more
abbrev pub Spare : ℕ → Cursor → Code → Type 0
Spare k c o = vec_len o.nodes + 2 * (2048 - c.taken) + k ≤ vec_capacity o.nodes

-- from c to e a tree was read by f, and its code was written; g is any gas that is enough
pub record Read {X : Type 0} (f : ℕ → Parser X) (code_of : X → List Node) (c e : Cursor) (o p : Code) : Type 0 where
  pub tree : X
  pub is : (g : ℕ) → length (left c) < g → f g (left c) ≡ out_done tree (left e)
  pub code : vec_items p.nodes ≡ vec_items o.nodes ++ code_of tree
  pub moved : Moved 0 c e o p
  pub some : c.taken < e.taken

-- f refuses a token
pub record Refused {X : Type 0} (f : ℕ → Parser X) (c : Cursor) (e : ReadRefusal) : Type 0 where
  pub rest : List Tok
  pub why : Why
  pub is : (g : ℕ) → length (left c) < g → f g (left c) ≡ out_fail rest why
  pub told : Refusal rest why e

abbrev pub Reads : {X Y : Type 0} → (ℕ → Parser X) → (X → List Node) → Cursor → Cursor → Code → Code → Result Y ReadRefusal → Type 0
Reads f code_of c e o p (Ok y) = Read f code_of c e o p
Reads f code_of c e o p (Err r) = Refused f c r

-- actuals were read, and counted
pub record ReadActuals (f : ℕ → Parser Exprs) (c e : Cursor) (o p : Code) (n : ℕ) : Type 0 where
  pub read : Read f flats c e o p
  pub number : n ≡ count read.tree

abbrev pub ReadsActuals : (ℕ → Parser Exprs) → Cursor → Cursor → Code → Code → Result ℕ ReadRefusal → Type 0
ReadsActuals f c e o p (Ok n) = ReadActuals f c e o p n
ReadsActuals f c e o p (Err r) = Refused f c r
