-- A reader that is read as long as a token passes a test, turn by turn. Assumes nothing.
use Rattle.std.proofs.Common.{◌≡◌, ℕ, zero, suc, ◌+◌, ◌-◌, ◌<◌, ◌≤◌, Bool, true, false, List, [], ◌∷◌, ◌++◌, length, vec_items, sym, refl, ap, ◌∙◌, append_assoc, append-nil, sub-one, arith}
use native.Mathlib.Nat.{sub-zero}
use Rattle.script.specs.Tree.{Stmt, end, next}
use Rattle.script.specs.Flat.{flat_stmt, flat_stmts}
use Rattle.grammar.specs.Tokens.{Tok}
use Rattle.grammar.specs.Combine.{Why, Out, out_done, out_fail, Parser, next as go, after, ret, peek, many, kind_at}
use Rattle.grammar.specs.Parse.{begins, statement, statements}
use Rattle.reader.specs.declared.refusal.ReadRefusal.{ReadRefusal}
use Rattle.reader.specs.declared.cursor.Cursor.{Cursor}
use Rattle.reader.specs.declared.code.Code.{Code}
use Rattle.reader.specs.Cursor.{left}
use Rattle.reader.specs.Reading.{Moved, Refused}
use Rattle.reader.proofs.Paths.{moves, and, moved_by}
use Rattle.reader.proofs.Chains.{stay}
use Rattle.reader.specs.Statements.{Went, Stated}

-- what was read turn by turn, put before what is read after it
abbrev pub together : {X Y : Type 0} → (X → Y → Y) → List X → Y → Y
together more [] y = y
together more (x ∷ xs) y = more x (together more xs y)

pub together_more : {X Y : Type 0} (more : X → Y → Y) (xs : List X) (x : X) (y : Y) → together more (xs ++ (x ∷ [])) y ≡ together more xs (more x y)
together_more more [] x y = refl
together_more more (z ∷ zs) x y = ap (more z) (together_more more zs x y)

module _ {X Y : Type 0} (test : ℕ → Bool) (p : Parser X) (none : Y) (more : X → Y → Y) where
  pub many_step : (g : ℕ) (ts us : List Tok) (x : X) → test (kind_at ts) ≡ true → 0 < g → p ts ≡ out_done x us → many test p none more g ts ≡ go (many test p none more (g - 1) us) (λ y. ret (more x y))
  unfolding many peek after
  many_step zero ts us x h lt is = absurd (omega arith)
  many_step (suc g) ts us x h lt is = rw (h, is, sub-one) refl

  pub many_stop : (g : ℕ) (ts : List Tok) → test (kind_at ts) ≡ false → 0 < g → many test p none more g ts ≡ out_done none ts
  unfolding many peek
  many_stop zero ts h lt = absurd (omega arith)
  many_stop (suc g) ts h lt = rw h refl

  pub many_fail : (g : ℕ) (ts us : List Tok) (why : Why) → test (kind_at ts) ≡ true → 0 < g → p ts ≡ out_fail us why → many test p none more g ts ≡ out_fail us why
  unfolding many peek after
  many_fail zero ts us why h lt is = absurd (omega arith)
  many_fail (suc g) ts us why h lt is = rw (h, is) refl

-- from c to e some turns were made
pub record Turned {X Y : Type 0} (test : ℕ → Bool) (p : ℕ → Parser X) (none : Y) (more : X → Y → Y) (c e : Cursor) : Type 0 where
  pub list : List X
  pub turns : ℕ
  pub is : (g : ℕ) → length (left c) < g → many test (p g) none more g (left c) ≡ go (many test (p g) none more (g - turns) (left e)) (λ y. ret (together more list y))
  pub fall : length (left e) + turns ≤ length (left c)

pub go_none : {Y : Type 0} (o : Out Y) → o ≡ go o (λ y. ret y)
go_none (out_done y ts) = refl
go_none (out_fail ts why) = refl

pub go_more : {X Y : Type 0} (more : X → Y → Y) (xs : List X) (x : X) (o : Out Y) → go (go o (λ y. ret (more x y))) (λ y. ret (together more xs y)) ≡ go o (λ y. ret (together more (xs ++ (x ∷ [])) y))
go_more more xs x (out_done y ts) = ap (λ z. out_done z ts) (sym (together_more more xs x y))
go_more more xs x (out_fail ts why) = refl

module _ {X Y : Type 0} {test : ℕ → Bool} {p : ℕ → Parser X} {none : Y} {more : X → Y → Y} where
  unfoldable pub no_turn : (c : Cursor) → Turned test p none more c c
  no_turn c = record {
    list = [];
    turns = 0;
    is = λ g lt. ap (λ n. many test (p g) none more n (left c)) (sym (sub-zero g)) ∙ go_none _;
    fall = omega arith;
  }

  module _ {c e : Cursor} (t : Turned test p none more c e) where
    unfoldable pub turn : {i : Cursor} (x : X) → test (kind_at (left e)) ≡ true → ((g : ℕ) → length (left e) < g → p g (left e) ≡ out_done x (left i)) → length (left i) < length (left e) → Turned test p none more c i
    turn {i} x h reads fall = record {
      list = t.list ++ (x ∷ []);
      turns = t.turns + 1;
      is = λ g lt.
          let f = t.fall in
          let s : g - t.turns - 1 ≡ g - (t.turns + 1) = omega arith in
          t.is g lt
          ∙ ap (λ o. go o (λ y. ret (together more t.list y))) (many_step test (p g) none more (g - t.turns) (left e) (left i) x h (omega arith) (reads g (omega arith)))
          ∙ go_more more t.list x _
          ∙ ap (λ n. go (many test (p g) none more n (left i)) (λ y. ret (together more (t.list ++ (x ∷ [])) y))) s;
      fall = omega (arith, t.fall);
    }

    pub turned_all : test (kind_at (left e)) ≡ false → (g : ℕ) → length (left c) < g → many test (p g) none more g (left c) ≡ out_done (together more t.list none) (left e)
    turned_all h g lt =
        let f = t.fall in
        t.is g lt ∙ ap (λ o. go o (λ y. ret (together more t.list y))) (many_stop test (p g) none more (g - t.turns) (left e) h (omega arith))

    pub turn_fails : {r : ReadRefusal} → test (kind_at (left e)) ≡ true → Refused p e r → Refused (λ g. many test (p g) none more g) c r
    turn_fails h b = record {
      rest = b.rest;
      why = b.why;
      is = λ g lt.
          let f = t.fall in
          t.is g lt ∙ ap (λ o. go o (λ y. ret (together more t.list y))) (many_fail test (p g) none more (g - t.turns) (left e) b.rest b.why h (omega arith) (b.is g (omega arith)));
      told = b.told;
    }

-- the statements so far
pub record Listed (d : ℕ) (c e : Cursor) (o p : Code) : Type 0 where
  pub turned : Turned begins (λ g. statement g d) end next c e
  pub code : vec_items p.nodes ≡ vec_items o.nodes ++ flat_stmts (together next turned.list end)
  pub moved : Moved 0 c e o p

flat_more : (xs : List Stmt) (x : Stmt) → flat_stmts (together next (xs ++ (x ∷ [])) end) ≡ flat_stmts (together next xs end) ++ flat_stmt x
flat_more [] x = append-nil (flat_stmt x)
flat_more (z ∷ zs) x = ap (λ l. flat_stmt z ++ l) (flat_more zs x) ∙ sym (append_assoc (flat_stmt z) _ _)

pub listed_none : (d : ℕ) (c : Cursor) (o : Code) → Listed d c c o o
unfolding no_turn
listed_none d c o = record {
  turned = no_turn c;
  code = sym (append-nil _);
  moved = stay;
}

module _ {d : ℕ} {c e : Cursor} {o p : Code} (l : Listed d c e o p) where
  pub listed_more : {i : Cursor} {q : Code} → begins (kind_at (left e)) ≡ true → Stated (λ g. statement g d) flat_stmt e i p q → Listed d c i o q
  unfolding turn
  listed_more {i} {q} h a =
      let r = a.read in
      record {
        turned = turn l.turned r.tree h r.is a.shorter;
        code = r.code ∙ ap (λ ns. ns ++ flat_stmt r.tree) l.code ∙ append_assoc (vec_items o.nodes) _ _ ∙ ap (λ ns. vec_items o.nodes ++ ns) (sym (flat_more l.turned.list r.tree));
        moved = moved_by (and (moves l.moved) (moves r.moved)) (omega arith);
      }

  pub listed_all : begins (kind_at (left e)) ≡ false → Went 0 (λ g. statements g d) flat_stmts c e o p
  listed_all h = record { tree = together next l.turned.list end; is = turned_all l.turned h; code = l.code; moved = l.moved }
