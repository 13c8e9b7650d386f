-- Formals, one after another. Assumes nothing.
use Rattle.std.proofs.Common.{◌≡◌, ℕ, zero, suc, ◌+◌, ◌-◌, ◌<◌, ◌≤◌, true, false, List, [], ◌∷◌, ◌++◌, length, Ok, Err, vec_items, Result, sym, refl, ap, ◌∙◌, append_assoc, append-nil, sub-one, arith}
use native.Mathlib.Nat.{sub-zero}
use Rattle.script.specs.declared.types.Declarator.{Declarator}
use Rattle.script.specs.declared.types.Node.TheVariants as node
use Rattle.script.specs.Flat.{flat_formals}
use Rattle.tokens.specs.declared.types.Mark.TheVariants as sign
use Rattle.tokens.specs.Spelling.{mark}
use Rattle.grammar.specs.Tokens.{Tok}
use Rattle.grammar.specs.Combine.{Why, out_done, out_fail, Parser, next as go, after, ret, on, want, separated, kind_at, is}
use Rattle.grammar.specs.Parse.{declarator, formals}
use Rattle.reader.specs.declared.refusal.ReadRefusal.{ReadRefusal}
use Rattle.reader.specs.declared.cursor.Cursor.{Cursor}
use Rattle.reader.specs.declared.code.Code.{Code}
use Rattle.reader.specs.Cursor.{left}
use Rattle.reader.specs.Reading.{Passed, NotPassed, Refused, Passes, Expects}
use Rattle.reader.specs.Statements.{Leads}
use Rattle.reader.specs.Functions.{Kept, Listing, OneFormal, ReadsFormals}
use Rattle.reader.proofs.Steps.{shorter, on_passed, on_other}
use Rattle.reader.proofs.Says.{at_start, takes, leaves, stops, goes_on, breaks, wants, unwanted}
use Rattle.reader.proofs.Turns.{together, together_more, go_none, go_more}

abbrev pub cons : Declarator → List Declarator → List Declarator
cons x xs = x ∷ xs

abbrev commas : ℕ → Parser (List Declarator)
commas g = separated 1 (declarator 1) [] (λ x xs. x ∷ xs) g

pub together_self : {X : Type 0} (xs : List X) → together (λ x ys. x ∷ ys) xs [] ≡ xs
together_self [] = refl
together_self (x ∷ xs) = ap (λ l. x ∷ l) (together_self xs)

flat_append : (xs ys : List Declarator) → flat_formals (xs ++ ys) ≡ flat_formals xs ++ flat_formals ys
flat_append [] ys = refl
flat_append (x ∷ xs) ys = ap (λ l. node.Formal x ∷ l) (flat_append xs ys)

-- one formal and what follows it
one_more : (g : ℕ) (ts us : List Tok) (x : Declarator) → 0 < g → declarator 1 ts ≡ out_done x us → commas g ts ≡ on 1 (is (mark sign.Comma)) (λ i. after (commas (g - 1)) (λ xs. ret (x ∷ xs))) (ret (x ∷ [])) us
unfolding separated after
one_more zero ts us x lt reads = absurd (omega arith)
one_more (suc g) ts us x lt reads = rw (reads, sub-one) refl

one_fails : (g : ℕ) (ts us : List Tok) (why : Why) → 0 < g → declarator 1 ts ≡ out_fail us why → commas g ts ≡ out_fail us why
unfolding separated after
one_fails zero ts us why lt bad = absurd (omega arith)
one_fails (suc g) ts us why lt bad = rw bad refl

after_go : {X Y : Type 0} (p : Parser X) (q : X → Parser Y) (ts : List Tok) → after p q ts ≡ go (p ts) q
unfolding after
after_go p q ts = refl

-- formals so far, each with the comma after it
pub record Parted (c e : Cursor) (o p : Code) : Type 0 where
  pub list : List Declarator
  pub turns : ℕ
  pub is : (g : ℕ) → length (left c) < g → commas g (left c) ≡ go (commas (g - turns) (left e)) (λ y. ret (together (λ x xs. x ∷ xs) list y))
  pub fall : length (left e) + turns ≤ length (left c)
  pub listing : Listing c e o p list

pub same_room : (c : Cursor) (o : Code) → Kept c c o o
same_room c o = record { on = omega arith; fall = omega arith; nodes = omega arith; formals = omega arith; functions = omega arith; grown_formals = omega arith; cap_nodes = omega arith; cap_formals = omega arith; cap_functions = omega arith }

pub listing_none : (c : Cursor) (o : Code) → Listing c c o o []
listing_none c o = record { kept = same_room c o; nodes = sym (append-nil _); formals = sym (append-nil _); functions = refl }

pub parted_none : (c : Cursor) (o : Code) → Parted c c o o
parted_none c o = record {
  list = [];
  turns = 0;
  is = λ g lt. ap (λ n. commas n (left c)) (sym (sub-zero g)) ∙ go_none _;
  fall = omega arith;
  listing = listing_none c o;
}

pub kept_both : {c e i : Cursor} {o p q : Code} → Kept c e o p → Kept e i p q → Kept c i o q
kept_both a b = record { on = omega arith; fall = omega arith; nodes = omega arith; formals = omega arith; functions = omega arith; grown_formals = omega arith; cap_nodes = omega arith; cap_formals = omega arith; cap_functions = omega arith }

pub kept_passed : {d : ℕ} {c e i : Cursor} {o p : Code} → Kept c e o p → Passed d e i → Kept c i o p
kept_passed a w = let n = shorter w in record { on = omega arith; fall = omega arith; nodes = omega arith; formals = omega arith; functions = omega arith; grown_formals = omega arith; cap_nodes = omega arith; cap_formals = omega arith; cap_functions = omega arith }

pub listing_both : {c e i : Cursor} {o p q : Code} {xs ys : List Declarator} → Listing c e o p xs → Listing e i p q ys → Listing c i o q (xs ++ ys)
listing_both {o = o} {xs = xs} {ys = ys} a b = record {
  kept = kept_both a.kept b.kept;
  nodes = b.nodes ∙ ap (λ l. l ++ flat_formals ys) a.nodes ∙ append_assoc (vec_items o.nodes) _ _ ∙ ap (λ l. vec_items o.nodes ++ l) (sym (flat_append xs ys));
  formals = b.formals ∙ ap (λ l. l ++ ys) a.formals ∙ append_assoc (vec_items o.formals) _ _;
  functions = b.functions ∙ a.functions;
}

pub listing_passed : {d : ℕ} {c e i : Cursor} {o p : Code} {xs : List Declarator} → Listing c e o p xs → Passed d e i → Listing c i o p xs
listing_passed a w = record { kept = kept_passed a.kept w; nodes = a.nodes; formals = a.formals; functions = a.functions }

module _ {c e i : Cursor} {o p q : Code} (t : Parted c e o p) (one : OneFormal e i p q) where
  came : (g : ℕ) → length (left c) < g → commas g (left c) ≡ go (on 1 (is (mark sign.Comma)) (λ k. after (commas (g - t.turns - 1)) (λ xs. ret (one.formal ∷ xs))) (ret (one.formal ∷ [])) (left i)) (λ y. ret (together (λ x xs. x ∷ xs) t.list y))
  came g lt =
      let f = t.fall in
      t.is g lt ∙ ap (λ v. go v (λ y. ret (together (λ x xs. x ∷ xs) t.list y))) (one_more (g - t.turns) (left e) (left i) one.formal (omega arith) one.is)

  pub parted_more : {j : Cursor} → is (mark sign.Comma) (kind_at (left i)) ≡ true → Passed 1 i j → Parted c j o q
  parted_more {j} h w = record {
    list = t.list ++ (one.formal ∷ []);
    turns = t.turns + 1;
    is = λ g lt.
        let f = t.fall in
        let s : g - t.turns - 1 ≡ g - (t.turns + 1) = omega arith in
        came g lt
        ∙ ap (λ v. go v (λ y. ret (together (λ x xs. x ∷ xs) t.list y))) (on_passed 1 i (is (mark sign.Comma)) (λ k. after (commas (g - t.turns - 1)) (λ xs. ret (one.formal ∷ xs))) (ret (one.formal ∷ [])) h w ∙ after_go _ _ _)
        ∙ go_more (λ x xs. x ∷ xs) t.list one.formal _
        ∙ ap (λ n. go (commas n (left j)) (λ y. ret (together (λ x xs. x ∷ xs) (t.list ++ (one.formal ∷ [])) y))) s;
    fall = omega (arith, t.fall, one.shorter, shorter w);
    listing = listing_passed (listing_both t.listing one.listing) w;
  }

  pub parted_all : is (mark sign.Comma) (kind_at (left i)) ≡ false → (g : ℕ) → length (left c) < g → commas g (left c) ≡ out_done (t.list ++ (one.formal ∷ [])) (left i)
  parted_all h g lt =
      came g lt
      ∙ ap (λ v. go v (λ y. ret (together (λ x xs. x ∷ xs) t.list y))) (on_other 1 i (is (mark sign.Comma)) (λ k. after (commas (g - t.turns - 1)) (λ xs. ret (one.formal ∷ xs))) (ret (one.formal ∷ [])) h)
      ∙ ap (λ y. out_done y (left i)) (sym (together_more (λ x xs. x ∷ xs) t.list one.formal []) ∙ together_self _)

  pub parted_stops : {r : ReadRefusal} → is (mark sign.Comma) (kind_at (left i)) ≡ true → NotPassed 1 i r → Refused commas c r
  parted_stops {r} h n =
      let b = stops _ _ _ _ (at_start (λ g. on 1 (is (mark sign.Comma)) (λ k. after (commas g) (λ xs. ret (one.formal ∷ xs))) (ret (one.formal ∷ []))) i) h n in
      record {
        rest = b.rest;
        why = b.why;
        is = λ g lt. let f = t.fall in let s = one.shorter in came g lt ∙ ap (λ v. go v (λ y. ret (together (λ x xs. x ∷ xs) t.list y))) (b.is (g - t.turns - 1) (omega arith));
        told = b.told;
      }

pub parted_fails : {c e : Cursor} {o p : Code} {r : ReadRefusal} → Parted c e o p → Refused (λ g. declarator 1) e r → Refused commas c r
parted_fails {c} {e} t b = record {
  rest = b.rest;
  why = b.why;
  is = λ g lt.
      let f = t.fall in
      t.is g lt ∙ ap (λ v. go v (λ y. ret (together (λ x xs. x ∷ xs) t.list y))) (one_fails (g - t.turns) (left e) b.rest b.why (omega arith) (b.is (suc (length (left e))) (omega arith)));
  told = b.told;
}

-- formals, where the first token does not close them
module _ (c : Cursor) (open' : is (mark sign.RightParen) (kind_at (left c)) ≡ false) where
  some_formals : Leads 0 formals c (λ g. after (commas g) (λ xs. want 0 sign.RightParen (ret xs))) c
  some_formals = leaves _ _ _ _ (at_start formals c) open'

  pub formals_fail : {r : ReadRefusal} → Refused commas c r → Refused formals c r
  formals_fail b = breaks _ _ some_formals b

  pub formals_end : (r : Result (Unit {0}) ReadRefusal) {e i : Cursor} {o p q : Code} (j : Cursor) → Parted c e o p → OneFormal e i p q → is (mark sign.Comma) (kind_at (left i)) ≡ false → Expects sign.RightParen 0 i j r → ReadsFormals c j o q r
  formals_end (Ok y) {e} {i} {o} {p} {q} j t one h x =
      let all = listing_both t.listing one.listing in
      let l = goes_on _ _ some_formals {i = i} (t.list ++ (one.formal ∷ [])) (parted_all t one h) all.kept.fall in
      record {
        list = t.list ++ (one.formal ∷ []);
        is = (wants _ sign.RightParen _ l {i = j} x).is;
        listing = listing_passed all x.1;
        some = omega (arith, all.kept.on, x.1.taken);
      }
  formals_end (Err b) {e} {i} {o} {p} {q} j t one h x =
      unwanted _ _ _ (goes_on _ _ some_formals {i = i} (t.list ++ (one.formal ∷ [])) (parted_all t one h) (listing_both t.listing one.listing).kept.fall) x

-- no formals
pub formals_none : (r : Result (Unit {0}) ReadRefusal) (c j : Cursor) (o : Code) → is (mark sign.RightParen) (kind_at (left c)) ≡ true → Passes 0 c j r → ReadsFormals c j o o r
formals_none (Ok y) c j o h w = record {
  list = [];
  is = (takes _ _ _ _ (at_start formals c) {i = j} h w).is;
  listing = listing_passed (listing_none c o) w;
  some = omega (arith, w.taken);
}
formals_none (Err b) c j o h n = stops _ _ _ _ (at_start formals c) h n
