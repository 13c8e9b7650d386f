-- The faults of a script: their numbers, their order, and which ones an expression, a call or a declaration has by itself. Assumes nothing.
use Rattle.std.specs.Prelude.{ℕ, Bool, true, false, cond, List, [], ◌∷◌, length, Some, None, codes, Option, ◌==◌, nat_lt}
use Rattle.script.specs.declared.types.«Type».{«Type» as Ty}
use Rattle.script.specs.declared.types.«Type».TheVariants.{Int, Ref, Q}
use Rattle.script.specs.declared.types.Operator.{Operator}
use Rattle.script.specs.declared.types.Name.{Name}
use Rattle.typing.specs.declared.types.Variable.{Variable}
use Rattle.typing.specs.declared.types.Callee.{Callee}
use Rattle.typing.specs.declared.types.Callee.TheVariants.{BuiltIn as built_in, Defined as defined}
use Rattle.typing.specs.declared.types.Operand.{Operand}
use Rattle.typing.specs.declared.types.Want.{Want}
use Rattle.typing.specs.declared.types.Want.TheVariants.{Fit, Cast}
use Rattle.typing.specs.declared.types.Reason.{Reason}
use Rattle.typing.specs.declared.types.Reason.TheVariants.{NameTaken, NoMain, TooMany, InView, NotInView, NoFunction, WrongCount, Unfit, Immutable, Mutability, NoReturn}
use Rattle.typing.specs.declared.types.CheckRefusal.{CheckRefusal}
use Rattle.typing.specs.Names.{Ctx, find_function}
use Rattle.typing.specs.Types.{meets, wants, gives, takes, result_of, is_mutable, allowed}

-- the number of a reason
abbrev pub number_of : Reason → ℕ
number_of NameTaken = 10
number_of NoMain = 11
number_of TooMany = 12
number_of InView = 13
number_of NotInView = 14
number_of NoFunction = 15
number_of WrongCount = 16
number_of Unfit = 17
number_of Immutable = 18
number_of Mutability = 19
number_of NoReturn = 20

-- a fault comes before another: by the offset, then by the number
abbrev pub before : CheckRefusal → CheckRefusal → Bool
before f g = cond (nat_lt f.at g.at) true (cond (f.at == g.at) (nat_lt (number_of f.reason) (number_of g.reason)) false)

-- faults that were found, in any order
pub data Bag : Type 0 where
  empty : Bag
  only : CheckRefusal → Bag
  join : Bag → Bag → Bag

abbrev pub fault : ℕ → Reason → CheckRefusal
fault o r = record { at = o; reason = r }

abbrev pub one : ℕ → Reason → Bag
one o r = only (fault o r)

-- the least so far, with one more
abbrev pub note : Option CheckRefusal → CheckRefusal → Option CheckRefusal
note None f = Some f
note (Some g) f = cond (before f g) (Some f) (Some g)

-- the least so far, with those of a bag
abbrev pub noted : Option CheckRefusal → Bag → Option CheckRefusal
noted l empty = l
noted l (only f) = note l f
noted l (join a b) = noted (noted l a) b

abbrev pub operand : Option Ty → ℕ → Operand
operand t o = record { ty = t; start = o }

-- a type that is known and is what is wanted
abbrev pub fitted : Option Ty → Want → Bool
fitted None w = false
fitted (Some t) w = meets t w

-- a type that is known and is not what is wanted
abbrev pub unfit : Option Ty → Want → ℕ → Bag
unfit None w o = empty
unfit (Some t) w o = cond (meets t w) empty (one o Unfit)

abbrev pub unless : Bool → ℕ → Reason → Bag
unless b o r = cond b empty (one o r)

abbrev pub when : Bool → Option Ty → Option Ty
when b t = cond b t None

-- actuals that do not fit their formals
abbrev pub misfits : List Operand → List Ty → Bag
misfits [] ts = empty
misfits (a ∷ vs) [] = empty
misfits (a ∷ vs) (t ∷ ts) = join (unfit a.ty (Fit t) a.start) (misfits vs ts)

-- all actuals fit, and there is one for each formal
abbrev pub all_fit : List Operand → List Ty → Bool
all_fit [] [] = true
all_fit [] (t ∷ ts) = false
all_fit (a ∷ vs) [] = false
all_fit (a ∷ vs) (t ∷ ts) = cond (fitted a.ty (Fit t)) (all_fit vs ts) false

-- the faults of a call of x (true: a call statement) with n actuals, in a function of that mutability
abbrev pub call_faults : Ctx → Bool → Bool → Name → ℕ → Option Callee → List Operand → Bag
call_faults C statement m x n None vs = one x.at NoFunction
call_faults C statement m x n (Some g) vs = join (unless (allowed statement m (is_mutable g)) x.at Mutability) (cond (n == length (takes C g)) (misfits vs (takes C g)) (one x.at WrongCount))

-- the type of a call, if it has no fault
abbrev pub call_type : Ctx → Bool → Option Callee → List Operand → Option Ty
call_type C m None vs = None
call_type C m (Some g) vs = when (allowed false m (is_mutable g)) (when (all_fit vs (takes C g)) (Some (result_of g)))

abbrev pub type_at : Option Variable → Option Ty
type_at None = None
type_at (Some v) = Some v.declared.ty

abbrev pub slot_of : Option Variable → ℕ
slot_of None = 0
slot_of (Some v) = v.slot

-- a variable that is used is in view
abbrev pub unseen : Option Variable → ℕ → Bag
unseen None o = one o NotInView
unseen (Some v) o = empty

-- a name that is declared is not
abbrev pub seen : Option Variable → ℕ → Bag
seen None o = empty
seen (Some v) o = one o InView

abbrev pub assign_faults : Option Variable → ℕ → Operand → Bag
assign_faults None o p = one o NotInView
assign_faults (Some v) o p = join (unfit p.ty (Fit v.declared.ty) p.start) (unless v.declared.mutable o Immutable)

abbrev pub negate_type : Option Ty → Option Ty
negate_type a = when (fitted a (Fit Int)) (Some Int)

abbrev pub cast_type : Ty → Option Ty → Option Ty
cast_type t a = when (fitted a (Cast t)) (Some t)

abbrev pub binary_type : Operator → Option Ty → Option Ty → Option Ty
binary_type o a b = when (fitted a (Fit (wants o))) (when (fitted b (Fit (wants o))) (Some (gives o)))

abbrev pub is_int : Ty → Bool
is_int Int = true
is_int Ref = false
is_int Q = false

-- one formal, of type int
abbrev pub one_int : List Ty → Bool
one_int [] = false
one_int (t ∷ []) = is_int t
one_int (t ∷ u ∷ ts) = false

-- the function that a run begins with
abbrev pub main_of : Ctx → Option Callee
main_of C = find_function C.source C.functions (codes "main") 0

abbrev pub name_at : Callee → ℕ
name_at (built_in b) = 0
name_at (defined i f) = f.head.name.at

-- `main` is there, and the first one has one formal, of type int
abbrev pub main_faults : Ctx → Option Callee → Bag
main_faults C None = one (length C.source) NoMain
main_faults C (Some g) = unless (one_int (takes C g)) (name_at g) NoMain
