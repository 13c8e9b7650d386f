-- What readers of tokens come to at a cursor, step by step. Assumes nothing.
use Rattle.std.proofs.Common.{◌≡◌, ℕ, ◌+◌, ◌-◌, ◌<◌, ◌≤◌, Bool, true, false, List, length, sym, refl, ap, ◌∙◌, arith}
use native.Mathlib.Nat.{sub-zero}
use Rattle.tokens.specs.declared.types.Mark.{Mark}
use Rattle.tokens.specs.Spelling.{Item, item_of, mark}
use Rattle.grammar.specs.Tokens.{Tok}
use Rattle.grammar.specs.Combine.{Why, why_bad, out_done, out_fail, Parser, next, after, from, bad, on, want, kind_at, is}
use Rattle.reader.specs.declared.refusal.ReadRefusal.{ReadRefusal}
use Rattle.reader.specs.declared.cursor.Cursor.{Cursor}
use Rattle.reader.specs.Cursor.{left}
use Rattle.reader.specs.Statements.{Leads}
use Rattle.reader.proofs.Steps.{on_passed, on_stuck, on_other, shorter, told_of}
use Rattle.reader.specs.Reading.{Refusal, Passed, NotPassed, NotExpected, stays, other, Refused}

module _ {X : Type 0} {k : ℕ} {f : ℕ → Parser X} {c e : Cursor} where
  pub fails : (h : ℕ → Parser X) (ts : List Tok) (why : Why) {r : ReadRefusal} → Leads k f c h e → ((g : ℕ) → length (left e) < g → h g (left e) ≡ out_fail ts why) → Refusal ts why r → Refused f c r
  fails h ts why l bad told = record { rest = ts; why = why; is = λ g lt. l.is g lt ∙ bad (g - k) (omega (arith, l.fall)); told = told }

  module _ (d : ℕ) (test : ℕ → Bool) (p : ℕ → Item → Parser X) (q : ℕ → Parser X) (l : Leads k f c (λ g. on d test (p g) (q g)) e) where
    pub takes : {i : Cursor} → test (kind_at (left e)) ≡ true → Passed d e i → Leads k f c (λ g. p g (item_of e.here)) i
    takes {i} h w = record {
      is = λ g lt. l.is g lt ∙ on_passed d e test (p (g - k)) (q (g - k)) h w;
      fall = omega (arith, l.fall, shorter w);
    }

    pub leaves : test (kind_at (left e)) ≡ false → Leads k f c q e
    leaves h = record { is = λ g lt. l.is g lt ∙ on_other d e test (p (g - k)) (q (g - k)) h; fall = l.fall }

    pub stops : {r : ReadRefusal} → test (kind_at (left e)) ≡ true → NotPassed d e r → Refused f c r
    stops h n = fails _ _ _ l (λ g lt. on_stuck d e test (p g) (q g) h n) (told_of n)

  -- the token at hand cannot stand here
  pub refuses : {r : ReadRefusal} → Leads k f c (λ g. bad) e → Refusal (left e) why_bad r → Refused f c r
  refuses l t = fails _ _ _ l (λ g lt. refl) t

  -- a mark that was wanted
  module _ (d : ℕ) (m : Mark) (q : ℕ → Parser X) (l : Leads k f c (λ g. want d m (q g)) e) where
    pub wants : {i : Cursor} → (is (mark m) (kind_at (left e)) ≡ true) × Passed d e i → Leads k f c q i
    wants x = takes _ _ _ _ l x.0 x.1

    pub unwanted : {r : ReadRefusal} → NotExpected m d e r → Refused f c r
    unwanted (stays h n) = stops _ _ _ _ l h n
    unwanted (other h t) = refuses (leaves _ _ _ _ l h) t

  -- a mark that was wanted for where it stands
  pub unexpected : (d : ℕ) (m : Mark) (p : ℕ → Item → Parser X) {r : ReadRefusal} → Leads k f c (λ g. on d (is (mark m)) (p g) bad) e → NotExpected m d e r → Refused f c r
  unexpected d m p l (stays h n) = stops _ _ _ _ l h n
  unexpected d m p l (other h t) = refuses (leaves _ _ _ _ l h) t

  module _ {Y : Type 0} (p : ℕ → Parser Y) (q : ℕ → Y → Parser X) (l : Leads k f c (λ g. after (p g) (q g)) e) where
    -- p reads a tree
    pub goes_on : {i : Cursor} (x : Y) → ((g : ℕ) → length (left e) < g → p g (left e) ≡ out_done x (left i)) → length (left i) ≤ length (left e) → Leads k f c (λ g. q g x) i
    unfolding after
    goes_on {i} x h w = record {
      is = λ g lt. l.is g lt ∙ ap (λ o. next o (q (g - k))) (h (g - k) (omega (arith, l.fall)));
      fall = omega (arith, l.fall);
    }

    pub breaks : {r : ReadRefusal} → Refused p e r → Refused f c r
    unfolding after
    breaks b = fails _ _ _ l (λ g lt. ap (λ o. next o (q g)) (b.is g lt)) b.told

-- nothing has been read yet
pub at_start : {X : Type 0} (f : ℕ → Parser X) (c : Cursor) → Leads 0 f c f c
at_start f c = record { is = λ g lt. ap (λ n. f n (left c)) (sym (sub-zero g)); fall = omega arith }

-- the gas that h lowers
pub lowers : {X : Type 0} {f : ℕ → Parser X} {c e : Cursor} (h : ℕ → Parser X) → Leads 0 f c (λ g. h (g - 1)) e → length (left e) + 1 ≤ length (left c) → Leads 1 f c h e
lowers {e = e} h l le = record { is = λ g lt. l.is g lt ∙ ap (λ n. h (n - 1) (left e)) (sub-zero g); fall = le }

-- a result that is handed on
pub hands_on : {X : Type 0} {k : ℕ} {f h : ℕ → Parser X} {c e : Cursor} {r : ReadRefusal} → Leads k f c h e → Refused h e r → Refused f c r
hands_on l b = fails _ _ _ l b.is b.told

module _ {X Y : Type 0} {k : ℕ} {f : ℕ → Parser X} {c e : Cursor} (p : ℕ → Parser Y) (q : ℕ → ℕ → Y → Parser X) (l : Leads k f c (λ g. from (p g) (q g)) e) where
  -- p reads a tree, and where it began is told
  pub goes_from : {i : Cursor} (x : Y) → ((g : ℕ) → length (left e) < g → p g (left e) ≡ out_done x (left i)) → length (left i) ≤ length (left e) → Leads k f c (λ g. q g e.here.at x) i
  unfolding from
  goes_from {i} x h w = record {
    is = λ g lt. l.is g lt ∙ ap (λ o. next o (q (g - k) e.here.at)) (h (g - k) (omega (arith, l.fall)));
    fall = omega (arith, l.fall);
  }

  pub breaks_from : {r : ReadRefusal} → Refused p e r → Refused f c r
  unfolding from
  breaks_from b = fails _ _ _ l (λ g lt. ap (λ o. next o (q g e.here.at)) (b.is g lt)) b.told

-- f comes to h with the gas lowered, and no token was passed
pub record Opens {X : Type 0} (f : ℕ → Parser X) (c : Cursor) (h : ℕ → Parser X) : Type 0 where
  pub is : (g : ℕ) → length (left c) < g → f g (left c) ≡ h (g - 1) (left c)

module _ {X : Type 0} {f : ℕ → Parser X} {c : Cursor} (d : ℕ) (test : ℕ → Bool) (p : ℕ → Item → Parser X) (q : ℕ → Parser X) (l : Opens f c (λ g. on d test (p g) (q g))) where
  pub first_takes : {i : Cursor} → test (kind_at (left c)) ≡ true → Passed d c i → Leads 1 f c (λ g. p g (item_of c.here)) i
  first_takes {i} h w = record {
    is = λ g lt. l.is g lt ∙ on_passed d c test (p (g - 1)) (q (g - 1)) h w;
    fall = omega (arith, shorter w);
  }

  pub first_leaves : test (kind_at (left c)) ≡ false → Opens f c q
  first_leaves h = record { is = λ g lt. l.is g lt ∙ on_other d c test (p (g - 1)) (q (g - 1)) h }

  pub first_stops : {r : ReadRefusal} → test (kind_at (left c)) ≡ true → NotPassed d c r → Refused f c r
  first_stops h n = record { rest = _; why = _; is = λ g lt. l.is g lt ∙ on_stuck d c test (p (g - 1)) (q (g - 1)) h n; told = told_of n }
