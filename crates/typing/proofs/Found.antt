-- What a search by name and the order of faults give.
use Rattle.std.proofs.Common.{◌≡◌, ◌||◌, ℕ, suc, ◌+◌, Bool, true, false, cond, List, [], ◌∷◌, Some, None, Option, option_map, refl, sym, ap, ◌∙◌, add-one, find, Bor}
use Rattle.std.specs.Bool.{◌==◌, one_answer}
use Rattle.std.specs.Str.{bytes_eq}
use Rattle.std.specs.Cmp.Lexicographic.{pointwise}
use Rattle.std.proofs.lemmas.Slice.Eq.{slice_eq-Decides, bytes_eq-Decides}
use Rattle.std.proofs.lemmas.Bool.Decides.{Decides-eqb}
use Rattle.std.specs.List.{enumerate_from}
use Rattle.script.specs.declared.types.Declarator.{Declarator}
use Rattle.script.specs.declared.types.Function.{Function}
use Rattle.typing.specs.declared.types.Callee.TheVariants.{Defined as defined}
use Rattle.typing.specs.declared.types.Variable.{Variable}
use Rattle.typing.specs.Names.{named, find as find_variable, find_function}

abbrev variable : ℕ → Declarator → Variable
variable i d = record { slot = i; declared = d }

-- what is found is the first item, or else is found in the others
map_cond : {X Y : Type 0} (b : Bool) (f : X → Y) (x : X) (o : Option X) (p : Option Y) → option_map f o ≡ p → option_map f (cond b (Some x) o) ≡ cond b (Some (f x)) p
map_cond true f x o p h = refl
map_cond false f x o p h = h

-- the first item of a list that passes, as a definition of the rules finds it, and as `find` over `enumerate` does
module _ {X Y : Type 0} (passes : X → Bool) (made : ℕ → X → Y) (first : List X → ℕ → Option Y) (none : (i : ℕ) → first [] i ≡ None) (more : (x : X) (xs : List X) (i : ℕ) → first (x ∷ xs) i ≡ cond (passes x) (Some (made i x)) (first xs (suc i))) where
  found_from : (xs : List X) (i : ℕ) → option_map (λ p. made p.0 p.1) (find (λ p. passes p.1) (enumerate_from i xs)) ≡ first xs i
  found_from [] i = sym (none i)
  found_from (x ∷ xs) i = map_cond (passes x) (λ p. made p.0 p.1) (i, x) _ _ (found_from xs (i + 1) ∙ ap (first xs) (add-one i)) ∙ sym (more x xs i)

  found : (xs : List X) (o : Option (ℕ × Bor X)) → option_map (λ p. (p.0, p.1.now)) o ≡ find (λ p. passes p.1) (enumerate_from 0 xs) → option_map (λ p. made p.0 p.1.now) o ≡ first xs 0
  found xs None h = ap (option_map (λ p. made p.0 p.1)) h ∙ found_from xs 0
  found xs (Some p) h = ap (option_map (λ p. made p.0 p.1)) h ∙ found_from xs 0

module _ (src text : List ℕ) where
  pub function_found : (fs : List Function) (o : Option (ℕ × Bor Function)) → option_map (λ p. (p.0, p.1.now)) o ≡ find (λ p. named src p.1.head.name text) (enumerate_from 0 fs)
      → option_map (λ p. defined p.0 p.1.now) o ≡ find_function src fs text 0
  unfolding find_function
  function_found = found (λ f. named src f.head.name text) defined (λ fs i. find_function src fs text i) (λ i. refl) (λ f fs i. refl)

  pub variable_found : (vs : List Declarator) (o : Option (ℕ × Bor Declarator)) → option_map (λ p. (p.0, p.1.now)) o ≡ find (λ p. named src p.1.name text) (enumerate_from 0 vs)
      → option_map (λ p. variable p.0 p.1.now) o ≡ find_variable src vs text 0
  unfolding find_variable
  variable_found = found (λ v. named src v.name text) variable (λ vs i. find_variable src vs text i) (λ i. refl) (λ v vs i. refl)

-- what `==` of two slices of bytes answers
pub same_bytes : (a b : List ℕ) (r : Bool) → r ≡ pointwise ◌==◌ a b → r ≡ bytes_eq a b
same_bytes a b r e = one_answer _ _ (slice_eq-Decides Decides-eqb a b r e) (bytes_eq-Decides a b)

-- the same, the other way round
pub same_bytes_back : (a b : List ℕ) → pointwise ◌==◌ a b ≡ bytes_eq b a
same_bytes_back a b = let d = slice_eq-Decides Decides-eqb a b _ refl in one_answer _ _ (λ e. sym (d.0 e), λ p. d.1 (sym p)) (bytes_eq-Decides b a)

or_else : (x y z : Bool) → x || (y || (z || false)) ≡ cond x true (cond y true z)
or_else true y z = refl
or_else false true z = refl
or_else false false true = refl
or_else false false false = refl

-- what `contains` of three texts answers
pub one_of_three : (a b d t : List ℕ) → pointwise ◌==◌ a t || (pointwise ◌==◌ b t || (pointwise ◌==◌ d t || false)) ≡ cond (bytes_eq t a) true (cond (bytes_eq t b) true (bytes_eq t d))
one_of_three a b d t = rw (same_bytes_back a t, same_bytes_back b t, same_bytes_back d t) (or_else (bytes_eq t a) (bytes_eq t b) (bytes_eq t d))

-- a choice between two items, of which a function is taken
pub chosen : {X Y : Type 0} (b : Bool) (f : X → Y) (o p : Option X) → option_map f (cond b o p) ≡ cond b (option_map f o) (option_map f p)
chosen true f o p = refl
chosen false f o p = refl

-- the second parts of what is behind references
pub seconds : {K X : Type 0} (o : Option (Bor (K × X))) (p : Option (K × X)) → option_map (λ r. r.now) o ≡ p → option_map (λ r. r.now.1) o ≡ option_map (λ r. r.1) p
seconds None p h = ap (option_map (λ r. r.1)) h
seconds (Some r) p h = ap (option_map (λ r. r.1)) h
