-- Functions, one after another. Assumes nothing.
use Rattle.std.proofs.Common.{◌≡◌, ℕ, suc, ◌+◌, ◌-◌, ◌<◌, true, false, eqb, List, [], ◌∷◌, ◌++◌, length, vec_items, vec_len, vec_capacity, sym, refl, ap, ◌∙◌, append_assoc, append-nil, add-zero, arith, length-append}
use Rattle.script.specs.declared.types.Function.{Function}
use Rattle.script.specs.declared.types.Declarator.{Declarator}
use Rattle.script.specs.declared.types.Node.TheVariants as node
use Rattle.script.specs.Tree.{Program}
use Rattle.script.specs.Flat.{flat_formals, flat_stmts, flat_fun, flat_program, formals_of, functions_of}
use Rattle.grammar.specs.Combine.{why_bad, out_done, out_fail, many, ends, kind_at}
use Rattle.grammar.specs.Parse.{declarator, statements, declares, function, program}
use Rattle.reader.specs.declared.refusal.ReadRefusal.{ReadRefusal}
use Rattle.reader.specs.declared.cursor.Cursor.{Cursor}
use Rattle.reader.specs.declared.code.Code.{Code}
use Rattle.reader.specs.Cursor.{left}
use Rattle.reader.specs.Reading.{Passed, Refusal, Refused}
use Rattle.reader.specs.Terms.{Wrote}
use Rattle.reader.specs.Statements.{Leads, Declared, Went}
use Rattle.reader.specs.Functions.{Kept, AllFormals, Written, OneFunction, WholeProgram}
use Rattle.reader.proofs.Steps.{shorter}
use Rattle.reader.proofs.Says.{at_start, goes_on, breaks, fails}
use Rattle.reader.proofs.Turns.{Turned, no_turn, turn, turned_all, turn_fails}
use Rattle.reader.proofs.Commas.{same_room, kept_both, together_self}

flat_append : (xs ys : Program) → flat_program (xs ++ ys) ≡ flat_program xs ++ flat_program ys
flat_append [] ys = refl
flat_append (x ∷ xs) ys = ap (λ l. flat_fun x ++ l) (flat_append xs ys) ∙ sym (append_assoc (flat_fun x) _ _)

formals_append : (xs ys : Program) → formals_of (xs ++ ys) ≡ formals_of xs ++ formals_of ys
formals_append [] ys = refl
formals_append (x ∷ xs) ys = ap (λ l. x.formals ++ l) (formals_append xs ys) ∙ sym (append_assoc x.formals _ _)

functions_append : (i n : ℕ) (xs ys : Program) → functions_of i n (xs ++ ys) ≡ functions_of i n xs ++ functions_of (i + length (formals_of xs)) (n + length (flat_program xs)) ys
functions_append i n [] ys = (λ k. functions_of (sym (add-zero i) k) (sym (add-zero n) k) ys)
functions_append i n (x ∷ xs) ys =
    ap (λ l. record { head = x.head; first = i; formals = length x.formals; entry = n + 1 + length x.formals; close = x.close } ∷ l)
    (functions_append (i + length x.formals) (n + length (flat_fun x)) xs ys
    ∙ (λ k. functions_of (i + length x.formals) (n + length (flat_fun x)) xs ++ functions_of (at_formals k) (at_nodes k) ys))
  where
    at_formals : i + length x.formals + length (formals_of xs) ≡ i + length (x.formals ++ formals_of xs)
    at_formals = let l = length-append x.formals (formals_of xs) in omega arith

    at_nodes : n + length (flat_fun x) + length (flat_program xs) ≡ n + length (flat_fun x ++ flat_program xs)
    at_nodes = let l = length-append (flat_fun x) (flat_program xs) in omega arith

pub written_none : (c : Cursor) (o : Code) → Written c c o o []
written_none c o = record { kept = same_room c o; nodes = sym (append-nil _); formals = sym (append-nil _); functions = sym (append-nil _) }

pub written_both : {c e i : Cursor} {o p q : Code} {xs ys : Program} → Written c e o p xs → Written e i p q ys → Written c i o q (xs ++ ys)
written_both {c} {e} {i} {o} {p} {q} {xs} {ys} a b =
    let nodes_long : vec_len p.nodes ≡ vec_len o.nodes + length (flat_program xs) =
    let l = ap length a.nodes in let k = length-append (vec_items o.nodes) (flat_program xs) in let m = o.nodes.ok.0 in let n = p.nodes.ok.0 in omega arith in
    let formals_long : vec_len p.formals ≡ vec_len o.formals + length (formals_of xs) =
    let l = ap length a.formals in let k = length-append (vec_items o.formals) (formals_of xs) in let m = o.formals.ok.0 in let n = p.formals.ok.0 in omega arith in
    record {
      kept = kept_both a.kept b.kept;
      nodes = b.nodes ∙ ap (λ l. l ++ flat_program ys) a.nodes ∙ append_assoc (vec_items o.nodes) _ _ ∙ ap (λ l. vec_items o.nodes ++ l) (sym (flat_append xs ys));
      formals = b.formals ∙ ap (λ l. l ++ formals_of ys) a.formals ∙ append_assoc (vec_items o.formals) _ _ ∙ ap (λ l. vec_items o.formals ++ l) (sym (formals_append xs ys));
      functions =
          b.functions
          ∙ (λ k. a.functions k ++ functions_of (formals_long k) (nodes_long k) ys)
          ∙ append_assoc (vec_items o.functions) _ _
          ∙ ap (λ l. vec_items o.functions ++ l) (sym (functions_append (vec_len o.formals) (vec_len o.nodes) xs ys));
    }

ends_there : (fs : Program) (e : Cursor) → eqb (kind_at (left e)) 0 ≡ true → ends fs (left e) ≡ out_done fs (left e)
unfolding ends
ends_there fs e h = rw h refl

ends_not : (fs : Program) (e : Cursor) → eqb (kind_at (left e)) 0 ≡ false → ends fs (left e) ≡ out_fail (left e) why_bad
unfolding ends
ends_not fs e h = rw h refl

-- the functions so far
pub record Programmed (c e : Cursor) (o p : Code) : Type 0 where
  pub turned : Turned declares function [] (λ f fs. f ∷ fs) c e
  pub written : Written c e o p turned.list

pub programmed_none : (c : Cursor) (o : Code) → Programmed c c o o
unfolding no_turn
programmed_none c o = record { turned = no_turn c; written = written_none c o }

module _ {c e : Cursor} {o p : Code} (l : Programmed c e o p) where
  pub programmed_more : {i : Cursor} {q : Code} → declares (kind_at (left e)) ≡ true → OneFunction e i p q → Programmed c i o q
  unfolding turn
  programmed_more h f = record { turned = turn l.turned f.tree h f.is f.shorter; written = written_both l.written f.written }

  to_end : declares (kind_at (left e)) ≡ false → Leads 0 program c (λ g. ends l.turned.list) e
  unfolding program
  to_end h =
      goes_on (λ g. many declares (function g) [] (λ f fs. f ∷ fs) g) (λ g. ends) (at_start program c) l.turned.list
      (λ g lt. turned_all l.turned h g lt ∙ ap (λ fs. out_done fs (left e)) (together_self l.turned.list)) l.written.kept.fall

  pub programmed_fails : {r : ReadRefusal} → declares (kind_at (left e)) ≡ true → Refused function e r → Refused program c r
  unfolding program
  programmed_fails h b = breaks (λ g. many declares (function g) [] (λ f fs. f ∷ fs) g) (λ g. ends) (at_start program c) (turn_fails l.turned h b)

  pub programmed_all : declares (kind_at (left e)) ≡ false → eqb (kind_at (left e)) 0 ≡ true → WholeProgram c e o p
  programmed_all h z = record { tree = l.turned.list; is = λ g lt. (to_end h).is g lt ∙ ended; written = l.written }
    where
      ended : ends l.turned.list (left e) ≡ out_done l.turned.list (left e)
      ended = ends_there l.turned.list e z

  pub programmed_bad : {r : ReadRefusal} → declares (kind_at (left e)) ≡ false → eqb (kind_at (left e)) 0 ≡ false → Refusal (left e) why_bad r → Refused program c r
  programmed_bad h z t = fails _ _ _ (to_end h) (λ g lt. ends_not l.turned.list e z) t

flat_long : (ds : List Declarator) → length (flat_formals ds) ≡ length ds
flat_long [] = refl
flat_long (d ∷ ds) = ap suc (flat_long ds)

-- p is o with a function more
pub record Entered (f : Function) (o p : Code) : Type 0 where
  pub items : vec_items p.functions ≡ vec_items o.functions ++ (f ∷ [])
  pub len : vec_len p.functions ≡ vec_len o.functions + 1
  pub cap : vec_capacity p.functions ≡ vec_capacity o.functions
  pub nodes : p.nodes ≡ o.nodes
  pub formals : p.formals ≡ o.formals

-- the parts of a function
module _ (h : Declarator) {c0 c1 c2 c3 c4 c5 c6 : Cursor} {o1 o2 o3 : Code} (head : Declared (declarator 0) c0 c1 h) (w1 : Passed 0 c1 c2) (fs : AllFormals c2 c3 o1 o2) (w2 : Passed 0 c3 c4) (s : Went 0 (λ g. statements g 1) flat_stmts c4 c5 o2 o3) (w3 : Passed 0 c5 c6) where
  pub function_some : c0.taken < c6.taken
  function_some = let k = fs.listing.kept.on in let m = s.moved.on in omega arith

  pub function_shorter : length (left c6) < length (left c0)
  function_shorter =
      let k = fs.listing.kept.fall in
      let m = s.moved.fall in
      let l1 = shorter w1 in
      let l2 = shorter w2 in
      let l3 = shorter w3 in
      omega arith

  module _ {o0 o4 p : Code} (enter : Wrote (node.Enter h) o0 o1) (leave : Wrote (node.Leave c5.here.at) o3 o4) {f : Function} (e : Entered f o4 p) where
    same_functions : o4.functions ≡ o0.functions
    same_functions = leave.functions ∙ s.moved.functions ∙ fs.listing.functions ∙ enter.functions

    function_kept : Kept c0 c6 o0 p
    function_kept =
        let k = fs.listing.kept in
        let m = s.moved in
        let a1 = ap vec_len same_functions in
        let a2 = ap vec_capacity same_functions in
        let b1 = ap vec_len m.formals in
        let b2 = ap vec_capacity m.formals in
        let b3 = ap vec_len enter.formals in
        let b4 = ap vec_capacity enter.formals in
        let d1 = ap vec_len (e.formals ∙ leave.formals) in
        let d2 = ap vec_capacity (e.formals ∙ leave.formals) in
        let n1 = ap vec_len e.nodes in
        let n2 = ap vec_capacity e.nodes in
        let l1 = shorter w1 in
        let l2 = shorter w2 in
        let l3 = shorter w3 in
        let some = fs.some in
        record { on = omega arith; fall = omega arith; nodes = omega arith; formals = omega arith; functions = omega arith; grown_formals = omega arith; cap_nodes = omega arith; cap_formals = omega arith; cap_functions = omega arith }

  pub function_written : {o0 o4 p : Code} (first count entry : ℕ) → Wrote (node.Enter h) o0 o1 → first ≡ vec_len o0.formals → count ≡ vec_len o2.formals - first → entry ≡ vec_len o2.nodes → Wrote (node.Leave c5.here.at) o3 o4 → Entered (record { head = h; first = first; formals = count; entry = entry; close = c5.here.at }) o4 p → Written c0 c6 o0 p (record { head = h; formals = fs.list; body = s.tree; close = c5.here.at } ∷ [])
  function_written {o0} first count entry enter x y z leave e =
      let l1 = ap length fs.listing.formals in
      let l2 = length-append (vec_items o1.formals) fs.list in
      let l3 = o1.formals.ok.0 in
      let l4 = o2.formals.ok.0 in
      let l5 = ap vec_len enter.formals in
      let counted : count ≡ length fs.list = omega arith in
      let n1 = ap length fs.listing.nodes in
      let n2 = length-append (vec_items o1.nodes) (flat_formals fs.list) in
      let n3 = o1.nodes.ok.0 in
      let n4 = o2.nodes.ok.0 in
      let n5 = flat_long fs.list in
      let n6 = enter.len in
      let starts : entry ≡ vec_len o0.nodes + 1 + length fs.list = omega arith in
      record {
        kept = function_kept enter leave e;
        nodes =
            ap vec_items e.nodes ∙ leave.items
            ∙ ap (λ l. l ++ (node.Leave c5.here.at ∷ [])) (s.code ∙ ap (λ l. l ++ flat_stmts s.tree) (fs.listing.nodes ∙ ap (λ l. l ++ flat_formals fs.list) enter.items))
            ∙ simp (append_assoc, append-nil);
        formals =
            ap vec_items (e.formals ∙ leave.formals ∙ s.moved.formals) ∙ fs.listing.formals ∙ ap (λ v. vec_items v ++ fs.list) enter.formals
            ∙ ap (λ l. vec_items o0.formals ++ l) (sym (append-nil fs.list));
        functions =
            e.items
            ∙ (λ k. vec_items (same_functions enter leave e k) ++ (record { head = h; first = x k; formals = counted k; entry = starts k; close = c5.here.at } ∷ []));
      }
