-- The code of statements, as it is written. Assumes nothing.
use Rattle.std.proofs.Common.{◌≡◌, ℕ, ◌+◌, ◌-◌, ◌<◌, ◌≤◌, List, [], ◌∷◌, ◌++◌, length, Ok, Err, Result, sym, ap, ◌∙◌, append_assoc, arith, length-append}
use Rattle.std.specs.List.{insert}
use Rattle.script.specs.declared.types.Node.{Node}
use Rattle.script.specs.declared.types.Node.TheVariants as node
use Rattle.script.specs.Flat.{if_then_code, if_else_code, looped}
use Rattle.grammar.specs.Combine.{Parser}
use Rattle.reader.specs.declared.refusal.ReadRefusal.{ReadRefusal}
use Rattle.reader.specs.declared.cursor.Cursor.{Cursor}
use Rattle.reader.specs.declared.code.Code.{Code}
use Rattle.reader.specs.Cursor.{left}
use Rattle.reader.specs.Statements.{Leads, Goes, States}
use Rattle.reader.proofs.Paths.{insert_at}
use Rattle.reader.proofs.Says.{Opens, hands_on}

module _ {X Y : Type 0} {k : ℕ} {f h : ℕ → Parser X} {c e : Cursor} (code_of : X → List Node) (i : Cursor) (o p : Code) (l : Leads k f c h e) where
  -- what is read after a token, by what f has come to there
  pub reads_on : (r : Result Y ReadRefusal) → c.taken < e.taken → length (left e) + 1 ≤ length (left c) → Goes 2 h code_of e i o p r → States f code_of c i o p r
  reads_on (Ok y) w s a =
      let m = a.moved in
      record {
        read = record {
          tree = a.tree;
          is = λ g lt. l.is g lt ∙ a.is (g - k) (omega (arith, l.fall));
          code = a.code;
          moved = record { on = omega arith; fall = omega (arith, l.fall); spent = omega arith; grown = m.grown; cap = m.cap; functions = m.functions; formals = m.formals };
          some = omega arith;
        };
        shorter = omega arith;
      }
  reads_on (Err b) w s a = hands_on l a

  pub goes_further : (r : Result Y ReadRefusal) → c.taken ≤ e.taken → Goes 2 h code_of e i o p r → Goes 2 f code_of c i o p r
  goes_further (Ok y) w a =
      let m = a.moved in
      record {
        tree = a.tree;
        is = λ g lt. l.is g lt ∙ a.is (g - k) (omega (arith, l.fall));
        code = a.code;
        moved = record { on = omega arith; fall = omega (arith, l.fall); spent = omega arith; grown = m.grown; cap = m.cap; functions = m.functions; formals = m.formals };
      }
  goes_further (Err b) w a = hands_on l a

-- what f comes to at once
pub opens_reads : {X Y : Type 0} (r : Result Y ReadRefusal) {f h : ℕ → Parser X} {c : Cursor} (code_of : X → List Node) (e : Cursor) (o p : Code) → Opens f c h → States (λ g. h (g - 1)) code_of c e o p r → States f code_of c e o p r
opens_reads (Ok y) code_of e o p l a = record {
  read = record { tree = a.read.tree; is = λ g lt. l.is g lt ∙ a.read.is g lt; code = a.read.code; moved = a.read.moved; some = a.read.some };
  shorter = a.shorter;
}
opens_reads (Err b) code_of e o p l a = record { rest = a.rest; why = a.why; is = λ g lt. l.is g lt ∙ a.is g lt; told = a.told }

pub rest_long : (a body : List Node) {b : List Node} (m n : ℕ) → b ≡ a ++ body → m ≡ length a → n ≡ length b → n - m ≡ length body
rest_long a body m n e p q = let l = length-append a body in let k = ap length e in omega arith

-- the code of an if or a while, as its skips are put in: a is written up to its test, b up to its first body
module _ (xs test body : List Node) {a b : List Node} (at start : ℕ) (ea : a ≡ xs ++ (node.Begin at ∷ test)) (eb : b ≡ a ++ body) (begins : start ≡ length a) where
  put : {d : List Node} (n : Node) → d ≡ insert b start n → d ≡ xs ++ (node.Begin at ∷ (test ++ (n ∷ body)))
  put n e = e ∙ insert_at b a body start n eb (sym begins) ∙ ap (λ l. l ++ (n ∷ body)) ea ∙ append_assoc xs (node.Begin at ∷ test) (n ∷ body)

  pub then_code : {d : List Node} (skip : ℕ) → skip ≡ length body → d ≡ insert b start (node.Then skip) → d ≡ xs ++ if_then_code at test body
  then_code skip s e = put _ e ∙ ap (λ n. xs ++ (node.Begin at ∷ (test ++ (node.Then n ∷ body)))) s

  -- d has the skip over the first body, e the second body too, and f the skip over it
  pub else_code : {d e f : List Node} (skip other passed : ℕ) (more : List Node) → skip ≡ length body → d ≡ insert b start (node.Then (skip + 1)) → e ≡ d ++ more → other ≡ length d → passed ≡ length more → f ≡ insert e other (node.Else passed) → f ≡ xs ++ if_else_code at test body more
  else_code {d} {e} {f} skip other passed more s p q o k r =
      r ∙ insert_at e d more other (node.Else passed) q (sym o)
      ∙ ap (λ l. l ++ (node.Else passed ∷ more)) (put _ p)
      ∙ (λ i. (xs ++ (node.Begin at ∷ (test ++ (node.Then (s i + 1) ∷ body)))) ++ (node.Else (k i) ∷ more))
      ∙ simp append_assoc

  pub loop_code : {d e : List Node} (skip back : ℕ) → skip ≡ length body + 1 → d ≡ insert b start (node.Loop skip) → back ≡ length d - length xs → e ≡ d ++ (node.Back back ∷ []) → e ≡ xs ++ looped at test body
  loop_code {d} {e} skip back s p k q =
      let here = put _ p in
      let n : back ≡ length test + length body + 2 =
      let l = ap length here in
      let l1 = length-append xs (node.Begin at ∷ (test ++ (node.Loop skip ∷ body))) in
      let l2 = length-append test (node.Loop skip ∷ body) in
      omega arith in
      q
      ∙ ap (λ l. l ++ (node.Back back ∷ [])) here
      ∙ (λ i. (xs ++ (node.Begin at ∷ (test ++ (node.Loop (s i) ∷ body)))) ++ (node.Back (n i) ∷ []))
      ∙ simp append_assoc
