-- What each way of putting readers together does at a cursor. Assumes nothing.
use Rattle.std.proofs.Common.{◌≡◌, ℕ, zero, suc, ◌<◌, ◌≤◌, Bool, true, false, List, length, sym, refl, ap, arith}
use Rattle.std.proofs.lemmas.Bool.{lt-ltb, le-ltb}
use Rattle.tokens.specs.declared.types.Mark.{Mark}
use Rattle.tokens.specs.declared.types.Token.{Token}
use Rattle.tokens.specs.Spelling.{Item, item_of, symbol_of, mark}
use Rattle.grammar.specs.Tokens.{Tok, offset}
use Rattle.grammar.specs.Combine.{Why, why_bad, why_deep, why_many, out_done, out_fail, Parser, kind, kind_at, is, on, want, after, from, next}
use Rattle.reader.specs.declared.refusal.ReadRefusal.{ReadRefusal}
use Rattle.reader.specs.declared.cursor.Cursor.{Cursor}
use Rattle.reader.specs.Cursor.{left}
use Rattle.reader.specs.Reading.{Refusal, Passed, NotPassed, too_deep, too_many, NotExpected, stays, other}

-- the kind of a token of the code
abbrev pub kind_of : Token → ℕ
kind_of t = kind (symbol_of t)

-- why a token was not passed
abbrev pub why_of : {d : ℕ} {c : Cursor} {r : ReadRefusal} → NotPassed d c r → Why
why_of (too_deep l t) = why_deep
why_of (too_many l m t) = why_many

pub told_of : {d : ℕ} {c : Cursor} {r : ReadRefusal} (n : NotPassed d c r) → Refusal (left c) (why_of n) r
told_of (too_deep l t) = t
told_of (too_many l m t) = t

abbrev pub why_not : {m : Mark} {d : ℕ} {c : Cursor} {r : ReadRefusal} → NotExpected m d c r → Why
why_not (stays h n) = why_of n
why_not (other h t) = why_bad

pub told_not : {m : Mark} {d : ℕ} {c : Cursor} {r : ReadRefusal} (n : NotExpected m d c r) → Refusal (left c) (why_not n) r
told_not (stays h n) = told_of n
told_not (other h t) = t

-- a token that is passed is one fewer
pub shorter : {d : ℕ} {c b : Cursor} → Passed d c b → length (left c) ≡ suc (length (left b))
shorter p = ap (λ ts. suc (length ts)) (sym p.rest)

module _ {X : Type 0} (d : ℕ) (c : Cursor) (test : ℕ → Bool) (p : Item → Parser X) (q : Parser X) where
  pub on_passed : {b : Cursor} → test (kind_at (left c)) ≡ true → Passed d c b → on d test p q (left c) ≡ p (item_of c.here) (left b)
  unfolding on
  on_passed {b} h s = rw (h, le-ltb 64 d s.deep, lt-ltb c.taken 2048 s.counted) (ap (p (item_of c.here)) (sym s.rest))

  pub on_stuck : {r : ReadRefusal} → test (kind_at (left c)) ≡ true → (n : NotPassed d c r) → on d test p q (left c) ≡ out_fail (left c) (why_of n)
  unfolding on
  on_stuck h (too_deep l t) = rw (h, lt-ltb 64 d l) refl
  on_stuck h (too_many l m t) = rw (h, le-ltb 64 d l, le-ltb c.taken 2048 m) refl

  pub on_other : test (kind_at (left c)) ≡ false → on d test p q (left c) ≡ q (left c)
  unfolding on
  on_other h = rw h refl

module _ {X : Type 0} (m : Mark) (d : ℕ) (c : Cursor) (q : Parser X) where
  pub wanted : {b : Cursor} → (is (mark m) (kind_at (left c)) ≡ true) × Passed d c b → want d m q (left c) ≡ q (left b)
  wanted h = on_passed d c _ _ _ h.0 h.1

  pub unwanted : {r : ReadRefusal} (n : NotExpected m d c r) → want d m q (left c) ≡ out_fail (left c) (why_not n)
  unwanted (stays h n) = on_stuck d c _ _ _ h n
  unwanted (other h t) = on_other d c _ _ _ h

module _ {X Y : Type 0} (p : Parser X) (f : X → Parser Y) (ts : List Tok) where
  pub after_done : {x : X} {us : List Tok} → p ts ≡ out_done x us → after p f ts ≡ f x us
  unfolding after
  after_done h = ap (λ o. next o f) h

  pub after_fail : {us : List Tok} {w : Why} → p ts ≡ out_fail us w → after p f ts ≡ out_fail us w
  unfolding after
  after_fail h = ap (λ o. next o f) h

module _ {X Y : Type 0} (p : Parser X) (f : ℕ → X → Parser Y) (ts : List Tok) where
  pub from_done : {x : X} {us : List Tok} → p ts ≡ out_done x us → from p f ts ≡ f (offset ts) x us
  unfolding from
  from_done h = ap (λ o. next o (f (offset ts))) h

  pub from_fail : {us : List Tok} {w : Why} → p ts ≡ out_fail us w → from p f ts ≡ out_fail us w
  unfolding from
  from_fail h = ap (λ o. next o (f (offset ts))) h

-- a gas above n has a predecessor
pub at_suc : {A : Type 0} (f : ℕ → A) (y : A) (n : ℕ) → ((g : ℕ) → n ≤ g → f (suc g) ≡ y) → (g : ℕ) → n < g → f g ≡ y
at_suc f y n h zero l = absurd (omega arith)
at_suc f y n h (suc g) l = h g (omega arith)
