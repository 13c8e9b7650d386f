-- The derived order of faults is the order of the rules.
use Rattle.std.proofs.Common.{◌≡◌, ℕ, Bool, true, false, cond, [], ◌∷◌, get_or, Some, refl, ap, ◌∙◌, nat_lt, ℤ, pos}
use Rattle.std.specs.Bool.{◌==◌}
use Rattle.std.specs.declared.cmp.Ordering.{Ordering}
use Rattle.std.specs.declared.cmp.Ordering.TheVariants.{Less, Equal, Greater}
use Rattle.std.specs.Ordering.{is_lt, ord_min, int_cmp, ordering_then}
use Rattle.typing.specs.declared.types.Reason.{Reason}
use Rattle.typing.specs.declared.types.Reason.TheVariants.{NameTaken, NoMain, TooMany, InView, NotInView, NoFunction, WrongCount, Unfit, Immutable, Mutability, NoReturn}
use Rattle.typing.specs.declared.types.CheckRefusal.{CheckRefusal}
use Rattle.typing.specs.contracts.types.CheckRefusalOrd.TheImpl as fault_ord
use Rattle.typing.specs.contracts.types.ReasonOrd.TheImpl as reason_ord
use denote.Enum.Declared.{tag_of}
use Rattle.typing.specs.contracts.types.Reason.{the_type}
use Rattle.typing.specs.Faults.{before, note, number_of}

-- a reason is compared by its number
numbered : (r s : Reason) → (reason_ord.ghosts).cmp r s ≡ int_cmp (pos (number_of r)) (pos (number_of s))
numbered r s = ap (λ n. int_cmp n (code s)) (code_of r) ∙ ap (λ n. int_cmp (pos (number_of r)) n) (code_of s)
  where
    code : Reason → ℤ
    code r = get_or (pos 10 ∷ pos 11 ∷ pos 12 ∷ pos 13 ∷ pos 14 ∷ pos 15 ∷ pos 16 ∷ pos 17 ∷ pos 18 ∷ pos 19 ∷ pos 20 ∷ []) (tag_of the_type r) (pos 0)

    code_of : (r : Reason) → code r ≡ pos (number_of r)
    code_of NameTaken = refl
    code_of NoMain = refl
    code_of TooMany = refl
    code_of InView = refl
    code_of NotInView = refl
    code_of NoFunction = refl
    code_of WrongCount = refl
    code_of Unfit = refl
    code_of Immutable = refl
    code_of Mutability = refl
    code_of NoReturn = refl

int_less : (a b : ℕ) → is_lt (int_cmp (pos a) (pos b)) ≡ nat_lt a b
int_less a b = by (nat_lt a b) (nat_lt b a)
  where
    by : (below above : Bool) → is_lt (cond below Less (cond above Greater Equal)) ≡ below
    by true above = refl
    by false true = refl
    by false false = refl

first_less : (a b : Bool) (o : Ordering) → is_lt (ordering_then (cond a Less (cond b Equal Greater)) o) ≡ cond a true (cond b (is_lt o) false)
first_less true b o = refl
first_less false true o = refl
first_less false false o = refl

is_before : (f g : CheckRefusal) → is_lt ((fault_ord.ghosts).cmp f g) ≡ before f g
is_before f g = first_less (nat_lt f.at g.at) (f.at == g.at) _ ∙ ap (λ b. cond (nat_lt f.at g.at) true (cond (f.at == g.at) b false)) (ap is_lt (numbered f.reason g.reason) ∙ int_less (number_of f.reason) (number_of g.reason))

pub lesser : (f g : CheckRefusal) → Some (ord_min (fault_ord.ghosts).cmp g f) ≡ note (Some g) f
lesser f g = rw (is_before f g) (by (before f g))
  where
    by : (b : Bool) → Some (cond b f g) ≡ cond b (Some f) (Some g)
    by true = refl
    by false = refl
