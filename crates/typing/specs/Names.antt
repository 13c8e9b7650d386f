-- Names: what spells them, and what they mean. Assumes nothing.
use Rattle.std.specs.Prelude.{ℕ, suc, Bool, true, false, cond, List, [], ◌∷◌, take, Some, None, codes, Option}
use Rattle.std.specs.Str.{bytes_eq}
use Rattle.script.specs.declared.types.BuiltIn.{BuiltIn}
use Rattle.script.specs.declared.types.BuiltIn.TheVariants.{Left, Right, IsAtom, IsNil, SetLeft, SetRight}
use Rattle.script.specs.declared.types.Name.{Name}
use Rattle.script.specs.declared.types.Declarator.{Declarator}
use Rattle.script.specs.declared.types.Function.{Function}
use Rattle.script.specs.Spelling.{spelled}
use Rattle.typing.specs.declared.types.Variable.{Variable}
use Rattle.typing.specs.declared.types.Callee.{Callee}
use Rattle.typing.specs.declared.types.Callee.TheVariants.{BuiltIn as built_in, Defined as defined}

-- a source and the table of its functions, their formals one after the other
pub record Ctx : Type 0 where
  pub source : List ℕ
  pub functions : List Function
  pub formals : List Declarator

-- the name is spelled so
unfoldable pub named : List ℕ → Name → List ℕ → Bool
named src x text = bytes_eq (spelled src x) text

-- the first of these variables with that name; its slot is its place among them, counted from i
unfoldable pub find : List ℕ → List Declarator → List ℕ → ℕ → Option Variable
find src [] text i = None
find src (d ∷ ds) text i = cond (named src d.name text) (Some record { slot = i; declared = d }) (find src ds text (suc i))

-- the first of these functions with that name, and its index, counted from i
unfoldable pub find_function : List ℕ → List Function → List ℕ → ℕ → Option Callee
find_function src [] text i = None
find_function src (f ∷ fs) text i = cond (named src f.head.name text) (Some (defined i f)) (find_function src fs text (suc i))

-- the built-in of that name
unfoldable pub built_in_named : List ℕ → Option BuiltIn
built_in_named text =
    cond (bytes_eq text (codes "left")) (Some Left)
    (cond (bytes_eq text (codes "right")) (Some Right)
    (cond (bytes_eq text (codes "isAtom")) (Some IsAtom)
    (cond (bytes_eq text (codes "isNil")) (Some IsNil)
    (cond (bytes_eq text (codes "setLeft")) (Some SetLeft)
    (cond (bytes_eq text (codes "setRight")) (Some SetRight) None)))))

-- the name of a built-in that is left out of the language: it is reserved, and means nothing
unfoldable pub left_out : List ℕ → Bool
left_out text = cond (bytes_eq text (codes "acq")) true (cond (bytes_eq text (codes "rel")) true (bytes_eq text (codes "randomInt")))

abbrev pub is_some : {X : Type 0} → Option X → Bool
is_some None = false
is_some (Some x) = true

-- no function may have this name
abbrev pub reserved : List ℕ → Bool
reserved text = cond (left_out text) true (is_some (built_in_named text))

-- the built-in, or else what the functions have
abbrev pub called_by : Option BuiltIn → Option Callee → Option Callee
called_by (Some b) f = Some (built_in b)
called_by None f = f

-- what a name means in a call: the built-in, else the first function of that name; a name that is left out means nothing
abbrev pub called : Ctx → List ℕ → Option Callee
called C text = cond (left_out text) None (called_by (built_in_named text) (find_function C.source C.functions text 0))

abbrev pub callee : Ctx → Name → Option Callee
callee C x = called C (spelled C.source x)

-- the variable that a name means where these are in view, the oldest first
abbrev pub look : Ctx → List Declarator → Name → Option Variable
look C Γ x = find C.source Γ (spelled C.source x) 0

-- the function of index i may not have this name: it is reserved, or one of the i functions before has it
abbrev pub taken : Ctx → ℕ → Name → Bool
taken C i x = cond (reserved (spelled C.source x)) true (is_some (find_function C.source (take i C.functions) (spelled C.source x) 0))
