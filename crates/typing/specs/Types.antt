-- Types: what fits what, and what operators, casts and functions take and give. Assumes nothing.
use Rattle.std.specs.Prelude.{Bool, true, false, cond, not, List, [], ◌∷◌, take, drop}
use Rattle.script.specs.declared.types.«Type».{«Type» as Ty}
use Rattle.script.specs.declared.types.«Type».TheVariants.{Int, Ref, Q}
use Rattle.script.specs.declared.types.BuiltIn.{BuiltIn}
use Rattle.script.specs.declared.types.BuiltIn.TheVariants.{Left, Right, IsAtom, IsNil, SetLeft, SetRight}
use Rattle.script.specs.declared.types.Operator.{Operator}
use Rattle.script.specs.declared.types.Operator.TheVariants.{Multiply, Add, Subtract, Dot}
use Rattle.script.specs.declared.types.Declarator.{Declarator}
use Rattle.typing.specs.declared.types.Callee.{Callee}
use Rattle.typing.specs.declared.types.Callee.TheVariants.{BuiltIn as built_in, Defined as defined}
use Rattle.typing.specs.declared.types.Want.{Want}
use Rattle.typing.specs.declared.types.Want.TheVariants.{Fit, Cast}
use Rattle.typing.specs.Names.{Ctx}

-- an expression of the first type fits where the second is wanted
abbrev pub fits : Ty → Ty → Bool
fits Int Int = true
fits Int Ref = false
fits Int Q = true
fits Ref Int = false
fits Ref Ref = true
fits Ref Q = true
fits Q Int = false
fits Q Ref = false
fits Q Q = true

-- an expression of the first type can be cast to the second
abbrev pub castable : Ty → Ty → Bool
castable Int Int = true
castable Int Ref = false
castable Int Q = true
castable Ref Int = false
castable Ref Ref = true
castable Ref Q = true
castable Q Int = true
castable Q Ref = true
castable Q Q = true

-- an expression of this type is what is wanted
abbrev pub meets : Ty → Want → Bool
meets t (Fit w) = fits t w
meets t (Cast w) = castable t w

-- what both operands of an operator must fit
abbrev pub wants : Operator → Ty
wants Multiply = Int
wants Add = Int
wants Subtract = Int
wants Dot = Q

-- the type of what an operator gives
abbrev pub gives : Operator → Ty
gives Multiply = Int
gives Add = Int
gives Subtract = Int
gives Dot = Ref

-- the built-ins' types, formals and mutability
abbrev pub built_in_gives : BuiltIn → Ty
built_in_gives Left = Q
built_in_gives Right = Q
built_in_gives IsAtom = Int
built_in_gives IsNil = Int
built_in_gives SetLeft = Int
built_in_gives SetRight = Int

abbrev pub built_in_takes : BuiltIn → List Ty
built_in_takes Left = Ref ∷ []
built_in_takes Right = Ref ∷ []
built_in_takes IsAtom = Q ∷ []
built_in_takes IsNil = Q ∷ []
built_in_takes SetLeft = Ref ∷ Q ∷ []
built_in_takes SetRight = Ref ∷ Q ∷ []

abbrev pub built_in_mutable : BuiltIn → Bool
built_in_mutable Left = false
built_in_mutable Right = false
built_in_mutable IsAtom = false
built_in_mutable IsNil = false
built_in_mutable SetLeft = true
built_in_mutable SetRight = true

-- the declared types
abbrev pub types_of : List Declarator → List Ty
types_of [] = []
types_of (d ∷ ds) = d.ty ∷ types_of ds

-- what a function's actuals must fit, one by one
abbrev pub takes : Ctx → Callee → List Ty
takes C (built_in b) = built_in_takes b
takes C (defined i f) = types_of (take f.formals (drop f.first C.formals))

-- the type of a call
abbrev pub result_of : Callee → Ty
result_of (built_in b) = built_in_gives b
result_of (defined i f) = f.head.ty

abbrev pub is_mutable : Callee → Bool
is_mutable (built_in b) = built_in_mutable b
is_mutable (defined i f) = f.head.mutable

-- a call (true: a call statement) may stand in a function of the first mutability and call one of the second: a mutable function is called by
-- mutable ones only, and only it by a call statement
abbrev pub allowed : Bool → Bool → Bool → Bool
allowed statement caller called = cond called caller (not statement)
