-- How far reading went and what it wrote, step by step. Assumes nothing.
use Rattle.std.proofs.Common.{◌≡◌, ℕ, ◌+◌, ◌-◌, ◌*◌, ◌<◌, ◌≤◌, List, [], ◌∷◌, ◌++◌, length, take, drop, vec_items, vec_len, vec_capacity, refl, ap, ◌∙◌, append_assoc, arith}
use Rattle.std.proofs.lemmas.List.{drop_at, take-append-le, take_all}
use Rattle.std.specs.List.{insert}
use Rattle.script.specs.declared.types.Node.{Node}
use Rattle.reader.specs.declared.cursor.Cursor.{Cursor}
use Rattle.reader.specs.declared.code.Code.{Code}
use Rattle.reader.specs.Cursor.{left}
use Rattle.reader.specs.Reading.{Passed, Moved}
use Rattle.reader.specs.Terms.{Wrote, Inserted}
use Rattle.reader.proofs.Steps.{shorter}

-- a is two for each token that was surely passed, and b bounds the nodes written beside
pub record Path (a b : ℕ) (c e : Cursor) (o p : Code) : Type 0 where
  pub on : 2 * c.taken + a ≤ 2 * e.taken
  pub fall : 2 * length (left e) + a ≤ 2 * length (left c)
  pub spent : vec_len p.nodes + 2 * (2048 - e.taken) + a ≤ vec_len o.nodes + 2 * (2048 - c.taken) + b
  pub grown : vec_len o.nodes ≤ vec_len p.nodes
  pub cap : vec_capacity o.nodes ≤ vec_capacity p.nodes
  pub functions : p.functions ≡ o.functions
  pub formals : p.formals ≡ o.formals

pub pass : {d : ℕ} {c e : Cursor} {o : Code} → Passed d c e → Path 2 0 c e o o
pass s =
    let l = shorter s in
    record { on = omega arith; fall = omega arith; spent = omega arith; grown = omega arith; cap = omega arith; functions = refl; formals = refl }

pub wrote : {n : Node} {c : Cursor} {o p : Code} → Wrote n o p → Path 0 1 c c o p
wrote w = record { on = omega arith; fall = omega arith; spent = omega arith; grown = omega arith; cap = w.cap; functions = w.functions; formals = w.formals }

pub inserts : {i : ℕ} {n : Node} {c : Cursor} {o p : Code} → Inserted i n o p → Path 0 1 c c o p
inserts w = record { on = omega arith; fall = omega arith; spent = omega arith; grown = omega arith; cap = w.cap; functions = w.functions; formals = w.formals }

pub moves : {k : ℕ} {c e : Cursor} {o p : Code} → Moved k c e o p → Path 0 k c e o p
moves m = record { on = omega (arith, m.on); fall = omega (arith, m.fall); spent = omega (arith, m.spent); grown = m.grown; cap = m.cap; functions = m.functions; formals = m.formals }

pub and : {a b a' b' : ℕ} {c d e : Cursor} {o p q : Code} → Path a b c d o p → Path a' b' d e p q → Path (a + a') (b + b') c e o q
and x y = record {
  on = omega (arith, x.on, y.on);
  fall = omega (arith, x.fall, y.fall);
  spent = omega (arith, x.spent, y.spent);
  grown = omega (arith, x.grown, y.grown);
  cap = omega (arith, x.cap, y.cap);
  functions = y.functions ∙ x.functions;
  formals = y.formals ∙ x.formals;
}

pub moved_by : {a b k : ℕ} {c e : Cursor} {o p : Code} → Path a b c e o p → b ≤ a + k → Moved k c e o p
moved_by x l = record {
  on = omega (arith, x.on);
  fall = omega (arith, x.fall);
  spent = omega (arith, x.spent);
  grown = x.grown;
  cap = x.cap;
  functions = x.functions;
  formals = x.formals;
}

pub some_by : {a b : ℕ} (k : ℕ) {c e : Cursor} {o p : Code} → Path a b c e o p → 0 < a + k → c.taken < e.taken + k
some_by k x l = omega (arith, x.on)

-- a node before and a node after
pub around : {n m : Node} {o p q r : Code} (ns : List Node) → Wrote n o p → vec_items q.nodes ≡ vec_items p.nodes ++ ns → Wrote m q r → vec_items r.nodes ≡ vec_items o.nodes ++ (n ∷ (ns ++ (m ∷ [])))
around {n} {m} {o} {p} {q} {r} ns w h v = v.items ∙ ap (λ l. l ++ (m ∷ [])) (h ∙ ap (λ l. l ++ ns) w.items) ∙ simp append_assoc

pub insert_at : (xs c ys : List Node) (n : ℕ) (x : Node) → xs ≡ c ++ ys → length c ≡ n → insert xs n x ≡ c ++ (x ∷ ys)
insert_at xs c ys n x e l =
    let front : take n (c ++ ys) ≡ c = take-append-le n c ys (omega arith) ∙ take_all n c (omega arith) in
    let back : drop n (c ++ ys) ≡ ys = drop_at c ys n l in
    rw (e, front, back) refl
