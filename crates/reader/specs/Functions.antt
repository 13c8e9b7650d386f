-- What reading functions does. Assumes nothing.
use Rattle.std.specs.Prelude.{◌≡◌, ℕ, ◌+◌, ◌-◌, ◌*◌, ◌<◌, ◌≤◌, List, [], ◌∷◌, ◌++◌, length, Ok, Err, vec_items, vec_len, vec_capacity, Result}
use Rattle.script.specs.declared.types.Declarator.{Declarator}
use Rattle.script.specs.Tree.{Fun, Program}
use Rattle.script.specs.Flat.{flat_formals, flat_program, formals_of, functions_of}
use Rattle.grammar.specs.Combine.{out_done}
use Rattle.grammar.specs.Parse.{declarator, formals, function, program}
use Rattle.reader.specs.declared.refusal.ReadRefusal.{ReadRefusal}
use Rattle.reader.specs.declared.cursor.Cursor.{Cursor}
use Rattle.reader.specs.declared.code.Code.{Code}
use Rattle.reader.specs.Cursor.{left}
use Rattle.reader.specs.Reading.{Refused}

-- there is room: two nodes and half a formal a token that may still be passed, and a function for six of them
pub record Roomy (c : Cursor) (o : Code) : Type 0 where
  pub nodes : vec_len o.nodes + 2 * (2048 - c.taken) ≤ vec_capacity o.nodes
  pub formals : 2 * vec_len o.formals + (2048 - c.taken) ≤ 2 * vec_capacity o.formals
  pub functions : 6 * vec_len o.functions + (2048 - c.taken) ≤ 6 * vec_capacity o.functions

-- tokens were passed from c to e, and what was written kept its room
pub record Kept (c e : Cursor) (o p : Code) : Type 0 where
  pub on : c.taken ≤ e.taken
  pub fall : length (left e) ≤ length (left c)
  pub nodes : vec_len p.nodes + 2 * (2048 - e.taken) ≤ vec_len o.nodes + 2 * (2048 - c.taken)
  pub formals : 2 * vec_len p.formals + (2048 - e.taken) ≤ 2 * vec_len o.formals + (2048 - c.taken)
  pub functions : 6 * vec_len p.functions + (2048 - e.taken) ≤ 6 * vec_len o.functions + (2048 - c.taken)
  pub grown_formals : vec_len o.formals ≤ vec_len p.formals
  pub cap_nodes : vec_capacity o.nodes ≤ vec_capacity p.nodes
  pub cap_formals : vec_capacity o.formals ≤ vec_capacity p.formals
  pub cap_functions : vec_capacity o.functions ≤ vec_capacity p.functions

-- formals were written, as nodes and as formals
pub record Listing (c e : Cursor) (o p : Code) (ds : List Declarator) : Type 0 where
  pub kept : Kept c e o p
  pub nodes : vec_items p.nodes ≡ vec_items o.nodes ++ flat_formals ds
  pub formals : vec_items p.formals ≡ vec_items o.formals ++ ds
  pub functions : p.functions ≡ o.functions

-- a formal was read
pub record OneFormal (c e : Cursor) (o p : Code) : Type 0 where
  pub formal : Declarator
  pub is : declarator 1 (left c) ≡ out_done formal (left e)
  pub listing : Listing c e o p (formal ∷ [])
  pub shorter : length (left e) < length (left c)

abbrev pub ReadsFormal : {Y : Type 0} → Cursor → Cursor → Code → Code → Result Y ReadRefusal → Type 0
ReadsFormal c e o p (Ok y) = OneFormal c e o p
ReadsFormal c e o p (Err r) = Refused (λ g. declarator 1) c r

-- the formals of a function were read
pub record AllFormals (c e : Cursor) (o p : Code) : Type 0 where
  pub list : List Declarator
  pub is : (g : ℕ) → length (left c) < g → formals g (left c) ≡ out_done list (left e)
  pub listing : Listing c e o p list
  pub some : c.taken < e.taken

abbrev pub ReadsFormals : {Y : Type 0} → Cursor → Cursor → Code → Code → Result Y ReadRefusal → Type 0
ReadsFormals c e o p (Ok y) = AllFormals c e o p
ReadsFormals c e o p (Err r) = Refused formals c r

-- functions were written: their code, their formals and the table of them
pub record Written (c e : Cursor) (o p : Code) (fs : Program) : Type 0 where
  pub kept : Kept c e o p
  pub nodes : vec_items p.nodes ≡ vec_items o.nodes ++ flat_program fs
  pub formals : vec_items p.formals ≡ vec_items o.formals ++ formals_of fs
  pub functions : vec_items p.functions ≡ vec_items o.functions ++ functions_of (vec_len o.formals) (vec_len o.nodes) fs

-- a function was read
pub record OneFunction (c e : Cursor) (o p : Code) : Type 0 where
  pub tree : Fun
  pub is : (g : ℕ) → length (left c) < g → function g (left c) ≡ out_done tree (left e)
  pub written : Written c e o p (tree ∷ [])
  pub shorter : length (left e) < length (left c)
  pub some : c.taken < e.taken

abbrev pub ReadsFunction : {Y : Type 0} → Cursor → Cursor → Code → Code → Result Y ReadRefusal → Type 0
ReadsFunction c e o p (Ok y) = OneFunction c e o p
ReadsFunction c e o p (Err r) = Refused function c r

-- a program was read
pub record WholeProgram (c e : Cursor) (o p : Code) : Type 0 where
  pub tree : Program
  pub is : (g : ℕ) → length (left c) < g → program g (left c) ≡ out_done tree (left e)
  pub written : Written c e o p tree

abbrev pub ReadsProgram : {Y : Type 0} → Cursor → Cursor → Code → Code → Result Y ReadRefusal → Type 0
ReadsProgram c e o p (Ok y) = WholeProgram c e o p
ReadsProgram c e o p (Err r) = Refused program c r
