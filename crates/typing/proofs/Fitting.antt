-- Actuals beside the types that they must fit, one by one.
use Rattle.std.proofs.Common.{◌≡◌, suc, Bool, true, false, cond, ◌&&◌, nat_eq, Option, ◌⊎◌, inl, inr, List, [], ◌∷◌, length, map, refl, ap, ◌∙◌, arith}
use Rattle.std.specs.List.{list_all, zip}
use Rattle.std.proofs.lemmas.Bool.{ne_eqb}
use Rattle.script.specs.declared.types.«Type».{«Type» as Ty}
use Rattle.typing.specs.declared.types.Operand.{Operand}
use Rattle.typing.specs.declared.types.CheckRefusal.{CheckRefusal}
use Rattle.typing.specs.Types.{types_of}
use Rattle.script.specs.declared.types.Declarator.{Declarator}
use Rattle.typing.specs.declared.types.Want.TheVariants.{Fit}
use Rattle.typing.specs.Faults.{fitted, noted, misfits, all_fit}

module _ {X : Type 0} (type_of : X → Ty) where
  pub all_fit_zip : (vs : List Operand) (xs : List X) → length vs ≡ length xs → list_all (λ p. fitted p.0.ty (Fit (type_of p.1))) (zip vs xs) ≡ all_fit vs (map type_of xs)
  all_fit_zip [] [] e = refl
  all_fit_zip [] (x ∷ xs) e = absurd (omega arith)
  all_fit_zip (v ∷ vs) [] e = absurd (omega arith)
  all_fit_zip (v ∷ vs) (x ∷ xs) e = and_then (fitted v.ty (Fit (type_of x))) _ _ (all_fit_zip vs xs (omega arith))
    where
      and_then : (b c d : Bool) → c ≡ d → b && c ≡ cond b d false
      and_then true c d e = e
      and_then false c d e = refl

  not_fit : (vs : List Operand) (xs : List X) → (length vs ≡ length xs → ⊥) → false ≡ all_fit vs (map type_of xs)
  not_fit [] [] h = absurd (h refl)
  not_fit [] (x ∷ xs) h = refl
  not_fit (v ∷ vs) [] h = refl
  not_fit (v ∷ vs) (x ∷ xs) h = by (fitted v.ty (Fit (type_of x))) _ (not_fit vs xs (λ e. h (ap suc e)))
    where
      by : (b d : Bool) → false ≡ d → false ≡ cond b d false
      by true d e = e
      by false d e = refl

  pub all_fit_apart : (vs : List Operand) (xs : List X) → (length vs ≡ length xs → ⊥) → nat_eq (length vs) (length xs) ≡ all_fit vs (map type_of xs)
  all_fit_apart vs xs h = ne_eqb (length vs) (length xs) h ∙ not_fit vs xs h

  -- no actual or no formal is left
  pub misfits_over : (l : Option CheckRefusal) (vs : List Operand) (xs : List X) → (vs ≡ []) ⊎ (xs ≡ []) → noted l (misfits vs (map type_of xs)) ≡ l
  misfits_over l vs xs (inl p) = rw p refl
  misfits_over l vs xs (inr p) = rw p (none vs)
    where
      none : (vs : List Operand) → noted l (misfits vs []) ≡ l
      none [] = refl
      none (v ∷ vs) = refl

-- the types of declarations
pub types_of_is : (ds : List Declarator) → types_of ds ≡ map (λ d. d.ty) ds
types_of_is [] = refl
types_of_is (d ∷ ds) = ap (λ ts. d.ty ∷ ts) (types_of_is ds)

pub types_of_long : (ds : List Declarator) → length (types_of ds) ≡ length ds
types_of_long [] = refl
types_of_long (d ∷ ds) = ap suc (types_of_long ds)
