-- The tree of a flat code. The entries are gone through once; what is begun or done stands on stacks, the newest first. Assumes nothing.
use Rattle.std.proofs.Common.{◌≡◌, ℕ, ◌+◌, false, List, [], ◌∷◌, ◌++◌, length, take, drop, sym, refl, ap, ◌∙◌, append_assoc, append-nil, arith}
use Rattle.std.proofs.lemmas.List.{take_at, drop_at}
use Rattle.script.specs.declared.types.«Type».TheVariants.{Int}
use Rattle.script.specs.declared.types.Comparison.TheVariants.{Less}
use Rattle.script.specs.declared.types.Declarator.{Declarator}
use Rattle.script.specs.declared.types.Node.{Node}
use Rattle.script.specs.declared.types.Node.TheVariants as node
use Rattle.script.specs.Tree.{Expr, nil, constant, variable, negate, cast, binary, call, Exprs, none, more, Cond, compare, negated, both, either, Stmt, declare, assign, calls, if_then, if_else, while, free, print, return, block, Stmts, end, next, Fun, Program, count}
use Rattle.script.specs.Flat.{flat, flats, flat_cond, flat_stmt, flat_stmts, flat_formals, flat_fun, flat_program, scoped}
use Rattle.script.specs.Laws.{FlatLosesNothing}

-- a node that began, a condition that is done, and one whose right side is still to come
data Mark : Type 0 where
  begun : ℕ → Mark
  whole : Cond → Mark
  and_left : ℕ → Cond → Mark
  or_left : ℕ → Cond → Mark

-- what opened a scope
data Opener : Type 0 where
  in_block : ℕ → Opener
  in_then : ℕ → Cond → Opener
  in_else : ℕ → Cond → Stmt → Opener
  in_loop : ℕ → Cond → Opener

-- a scope and its statements so far, the newest first
record Frame : Type 0 where
  opener : Opener
  ran : List Stmt

abbrev frame : Opener → List Stmt → Frame
frame o ss = record { opener = o; ran = ss }

-- where a stack does not have what the code of a tree puts there, anything will do
abbrev top : List Expr → Expr
top [] = nil 0
top (e ∷ es) = e

abbrev place : List Mark → ℕ
place [] = 0
place (begun at ∷ ms) = at
place (whole c ∷ ms) = 0
place (and_left at c ∷ ms) = 0
place (or_left at c ∷ ms) = 0

abbrev tested : List Mark → Cond
tested [] = compare 0 Less (nil 0) (nil 0)
tested (begun at ∷ ms) = compare 0 Less (nil 0) (nil 0)
tested (whole c ∷ ms) = c
tested (and_left at c ∷ ms) = c
tested (or_left at c ∷ ms) = c

-- a condition is done: where it is a right side, the whole is
abbrev settle : Cond → List Mark → List Mark
settle c [] = whole c ∷ []
settle c (begun at ∷ ms) = whole c ∷ begun at ∷ ms
settle c (whole d ∷ ms) = whole c ∷ whole d ∷ ms
settle c (and_left at l ∷ ms) = settle (both at l c) ms
settle c (or_left at l ∷ ms) = settle (either at l c) ms

-- the newest first, back in order
abbrev exprs_of : List Expr → Exprs → Exprs
exprs_of [] acc = acc
exprs_of (e ∷ es) acc = exprs_of es (more e acc)

abbrev stmts_of : List Stmt → Stmts → Stmts
stmts_of [] acc = acc
stmts_of (s ∷ ss) acc = stmts_of ss (next s acc)

abbrev newest : List Stmt → Stmt
newest [] = block 0 end
newest (s ∷ ss) = s

abbrev said : Stmt → List Frame → List Frame
said s [] = []
said s (f ∷ fs) = frame f.opener (s ∷ f.ran) ∷ fs

abbrev close : Opener → List Stmt → Stmt
close (in_block at) ss = block at (stmts_of ss end)
close (in_then at c) ss = if_then at c (newest ss)
close (in_else at c s) ss = if_else at c s (newest ss)
close (in_loop at c) ss = while at c (newest ss)

abbrev closed : List Frame → List Frame
closed [] = []
closed (f ∷ fs) = said (close f.opener f.ran) fs

-- an else makes the if that was just done go on
abbrev else_opener : Stmt → Opener
else_opener (declare at d e) = in_block 0
else_opener (assign x e) = in_block 0
else_opener (calls x es) = in_block 0
else_opener (if_then at c s) = in_else at c s
else_opener (if_else at c s t) = in_block 0
else_opener (while at c s) = in_block 0
else_opener (free at e) = in_block 0
else_opener (print at e) = in_block 0
else_opener (return at e) = in_block 0
else_opener (block at b) = in_block 0

abbrev reopened : List Frame → List Frame
reopened [] = []
reopened (f ∷ fs) = frame (else_opener (newest f.ran)) [] ∷ frame f.opener (drop 1 f.ran) ∷ fs

abbrev statements : List Frame → Stmts
statements [] = end
statements (f ∷ fs) = stmts_of f.ran end

-- expressions, conditions, scopes, the function's declaration and formals so far, the functions before it
unfoldable tree : List Node → List Expr → List Mark → List Frame → Declarator → List Declarator → Program → Program
tree [] es ms fs h xs p = p
tree (node.Nil at ∷ ns) es ms fs h xs p = tree ns (nil at ∷ es) ms fs h xs p
tree (node.Constant at n ∷ ns) es ms fs h xs p = tree ns (constant at n ∷ es) ms fs h xs p
tree (node.Variable x ∷ ns) es ms fs h xs p = tree ns (variable x ∷ es) ms fs h xs p
tree (node.Begin at ∷ ns) es ms fs h xs p = tree ns es (begun at ∷ ms) fs h xs p
tree (node.Negate at ∷ ns) es ms fs h xs p = tree ns (negate at (top es) ∷ drop 1 es) (drop 1 ms) fs h xs p
tree (node.Cast at ty ∷ ns) es ms fs h xs p = tree ns (cast at ty (top es) ∷ drop 1 es) (drop 1 ms) fs h xs p
tree (node.Binary at from o ∷ ns) es ms fs h xs p = tree ns (binary at from o (top (drop 1 es)) (top es) ∷ drop 2 es) (drop 1 ms) fs h xs p
tree (node.Call x n ∷ ns) es ms fs h xs p = tree ns (call x (exprs_of (take n es) none) ∷ drop n es) (drop 1 ms) fs h xs p
tree (node.Compare o ∷ ns) es ms fs h xs p = tree ns (drop 2 es) (settle (compare (place ms) o (top (drop 1 es)) (top es)) (drop 1 ms)) fs h xs p
tree (node.Not ∷ ns) es ms fs h xs p = tree ns es (settle (negated (place (drop 1 ms)) (tested ms)) (drop 2 ms)) fs h xs p
tree (node.And k ∷ ns) es ms fs h xs p = tree ns es (and_left (place (drop 1 ms)) (tested ms) ∷ drop 2 ms) fs h xs p
tree (node.Or k ∷ ns) es ms fs h xs p = tree ns es (or_left (place (drop 1 ms)) (tested ms) ∷ drop 2 ms) fs h xs p
tree (node.Declare d ∷ ns) es ms fs h xs p = tree ns (drop 1 es) (drop 1 ms) (said (declare (place ms) d (top es)) fs) h xs p
tree (node.Assign x ∷ ns) es ms fs h xs p = tree ns (drop 1 es) (drop 1 ms) (said (assign x (top es)) fs) h xs p
tree (node.CallStatement x n ∷ ns) es ms fs h xs p = tree ns (drop n es) (drop 1 ms) (said (calls x (exprs_of (take n es) none)) fs) h xs p
tree (node.Free ∷ ns) es ms fs h xs p = tree ns (drop 1 es) (drop 1 ms) (said (free (place ms) (top es)) fs) h xs p
tree (node.Print ∷ ns) es ms fs h xs p = tree ns (drop 1 es) (drop 1 ms) (said (print (place ms) (top es)) fs) h xs p
tree (node.Return ∷ ns) es ms fs h xs p = tree ns (drop 1 es) (drop 1 ms) (said (return (place ms) (top es)) fs) h xs p
tree (node.BeginBlock at ∷ ns) es ms fs h xs p = tree ns es ms (frame (in_block at) [] ∷ fs) h xs p
tree (node.Then k ∷ ns) es ms fs h xs p = tree ns es (drop 2 ms) (frame (in_then (place (drop 1 ms)) (tested ms)) [] ∷ fs) h xs p
tree (node.Else k ∷ ns) es ms fs h xs p = tree ns es ms (reopened fs) h xs p
tree (node.Loop k ∷ ns) es ms fs h xs p = tree ns es (drop 2 ms) (frame (in_loop (place (drop 1 ms)) (tested ms)) [] ∷ fs) h xs p
tree (node.Back k ∷ ns) es ms fs h xs p = tree ns es ms fs h xs p
tree (node.EndScope ∷ ns) es ms fs h xs p = tree ns es ms (closed fs) h xs p
tree (node.Enter d ∷ ns) es ms fs h xs p = tree ns es ms (frame (in_block 0) [] ∷ fs) d [] p
tree (node.Formal d ∷ ns) es ms fs h xs p = tree ns es ms fs h (xs ++ d ∷ []) p
tree (node.Leave at ∷ ns) es ms fs h xs p = tree ns es ms (drop 1 fs) h xs (p ++ record { head = h; formals = xs; body = statements fs; close = at } ∷ [])

-- the actuals, the newest first, before what stood there
abbrev pushed : Exprs → List Expr → List Expr
pushed none es = es
pushed (more e r) es = pushed r (e ∷ es)

pushed_front : (r : Exprs) (es fs : List Expr) → pushed r (es ++ fs) ≡ pushed r es ++ fs
pushed_front none es fs = refl
pushed_front (more e r) es fs = pushed_front r (e ∷ es) fs

pushed_long : (r : Exprs) (es : List Expr) → length (pushed r es) ≡ count r + length es
pushed_long none es = omega arith
pushed_long (more e r) es = let h = pushed_long r (e ∷ es) in omega arith

abbrev joined : Exprs → Exprs → Exprs
joined none acc = acc
joined (more e r) acc = more e (joined r acc)

joined_none : (r : Exprs) → joined r none ≡ r
joined_none none = refl
joined_none (more e r) = ap (more e) (joined_none r)

pushed_exprs : (r : Exprs) (es : List Expr) (acc : Exprs) → exprs_of (pushed r es) acc ≡ exprs_of es (joined r acc)
pushed_exprs none es acc = refl
pushed_exprs (more e r) es acc = pushed_exprs r (e ∷ es) acc

-- as many as there are actuals are taken from the stack again
taken : (r : Exprs) (es : List Expr) → exprs_of (take (count r) (pushed r es)) none ≡ r
taken r es =
    let long : length (pushed r []) ≡ count r = pushed_long r [] ∙ omega arith in
    ap (λ l. exprs_of (take (count r) l) none) (pushed_front r [] es) ∙ ap (λ l. exprs_of l none) (take_at (pushed r []) es (count r) long) ∙ pushed_exprs r [] none ∙ joined_none r

left : (r : Exprs) (es : List Expr) → drop (count r) (pushed r es) ≡ es
left r es =
    let long : length (pushed r []) ≡ count r = pushed_long r [] ∙ omega arith in
    ap (drop (count r)) (pushed_front r [] es) ∙ drop_at (pushed r []) es (count r) long

three : (a b c d : List Node) → ((a ++ b) ++ c) ++ d ≡ a ++ (b ++ (c ++ d))
three a b c d = simp append_assoc

mutual
  unfolding tree

  -- the code of an expression leaves it on the stack, and nothing else is changed
  expr_done : (e : Expr) (ns : List Node) (es : List Expr) (ms : List Mark) (fs : List Frame) (h : Declarator) (xs : List Declarator) (p : Program) → tree (flat e ++ ns) es ms fs h xs p ≡ tree ns (e ∷ es) ms fs h xs p
  expr_done (nil at) ns es ms fs h xs p = refl
  expr_done (constant at n) ns es ms fs h xs p = refl
  expr_done (variable x) ns es ms fs h xs p = refl
  expr_done (negate at e) ns es ms fs h xs p =
      ap (λ l. tree l es (begun at ∷ ms) fs h xs p) (append_assoc (flat e) _ ns) ∙ expr_done e (node.Negate at ∷ ns) es (begun at ∷ ms) fs h xs p
  expr_done (cast at ty e) ns es ms fs h xs p =
      ap (λ l. tree l es (begun at ∷ ms) fs h xs p) (append_assoc (flat e) _ ns) ∙ expr_done e (node.Cast at ty ∷ ns) es (begun at ∷ ms) fs h xs p
  expr_done (binary at from o l r) ns es ms fs h xs p =
      ap (λ l. tree l es (begun at ∷ ms) fs h xs p) (three (flat l) (flat r) _ ns)
      ∙ expr_done l (flat r ++ (node.Binary at from o ∷ ns)) es (begun at ∷ ms) fs h xs p
      ∙ expr_done r (node.Binary at from o ∷ ns) (l ∷ es) (begun at ∷ ms) fs h xs p
  expr_done (call x r) ns es ms fs h xs p =
      ap (λ l. tree l es (begun x.at ∷ ms) fs h xs p) (append_assoc (flats r) _ ns)
      ∙ exprs_done r (node.Call x (count r) ∷ ns) es (begun x.at ∷ ms) fs h xs p
      ∙ ap (λ l. tree ns (call x l ∷ drop (count r) (pushed r es)) ms fs h xs p) (taken r es)
      ∙ ap (λ l. tree ns (call x r ∷ l) ms fs h xs p) (left r es)

  exprs_done : (r : Exprs) (ns : List Node) (es : List Expr) (ms : List Mark) (fs : List Frame) (h : Declarator) (xs : List Declarator) (p : Program) → tree (flats r ++ ns) es ms fs h xs p ≡ tree ns (pushed r es) ms fs h xs p
  exprs_done none ns es ms fs h xs p = refl
  exprs_done (more e r) ns es ms fs h xs p =
      ap (λ l. tree l es ms fs h xs p) (append_assoc (flat e) (flats r) ns) ∙ expr_done e (flats r ++ ns) es ms fs h xs p ∙ exprs_done r ns (e ∷ es) ms fs h xs p

cond_done : (c : Cond) (ns : List Node) (es : List Expr) (ms : List Mark) (fs : List Frame) (h : Declarator) (xs : List Declarator) (p : Program) → tree (flat_cond c ++ ns) es ms fs h xs p ≡ tree ns es (settle c ms) fs h xs p
unfolding tree
cond_done (compare at o l r) ns es ms fs h xs p =
    ap (λ l. tree l es (begun at ∷ ms) fs h xs p) (three (flat l) (flat r) _ ns)
    ∙ expr_done l (flat r ++ (node.Compare o ∷ ns)) es (begun at ∷ ms) fs h xs p
    ∙ expr_done r (node.Compare o ∷ ns) (l ∷ es) (begun at ∷ ms) fs h xs p
cond_done (negated at c) ns es ms fs h xs p =
    ap (λ l. tree l es (begun at ∷ ms) fs h xs p) (append_assoc (flat_cond c) _ ns) ∙ cond_done c (node.Not ∷ ns) es (begun at ∷ ms) fs h xs p
cond_done (both at c d) ns es ms fs h xs p =
    ap (λ l. tree l es (begun at ∷ ms) fs h xs p) (append_assoc (flat_cond c) _ ns)
    ∙ cond_done c (node.And (length (flat_cond d)) ∷ (flat_cond d ++ ns)) es (begun at ∷ ms) fs h xs p
    ∙ cond_done d ns es (and_left at c ∷ ms) fs h xs p
cond_done (either at c d) ns es ms fs h xs p =
    ap (λ l. tree l es (begun at ∷ ms) fs h xs p) (append_assoc (flat_cond c) _ ns)
    ∙ cond_done c (node.Or (length (flat_cond d)) ∷ (flat_cond d ++ ns)) es (begun at ∷ ms) fs h xs p
    ∙ cond_done d ns es (or_left at c ∷ ms) fs h xs p

-- a statement of one expression
simple : (e : Expr) (n : Node) (ns : List Node) (at : ℕ) (es : List Expr) (ms : List Mark) (fs : List Frame) (h : Declarator) (xs : List Declarator) (p : Program) → tree ((flat e ++ (n ∷ [])) ++ ns) es (begun at ∷ ms) fs h xs p ≡ tree (n ∷ ns) (e ∷ es) (begun at ∷ ms) fs h xs p
simple e n ns at es ms fs h xs p = ap (λ l. tree l es (begun at ∷ ms) fs h xs p) (append_assoc (flat e) _ ns) ∙ expr_done e (n ∷ ns) es (begun at ∷ ms) fs h xs p

-- a condition and what goes on after it
tested_first : (c : Cond) (n : Node) (code ns : List Node) (at : ℕ) (es : List Expr) (ms : List Mark) (fs : List Frame) (h : Declarator) (xs : List Declarator) (p : Program) → tree ((flat_cond c ++ (n ∷ code)) ++ ns) es (begun at ∷ ms) fs h xs p ≡ tree (n ∷ (code ++ ns)) es (whole c ∷ begun at ∷ ms) fs h xs p
tested_first c n code ns at es ms fs h xs p = ap (λ l. tree l es (begun at ∷ ms) fs h xs p) (append_assoc (flat_cond c) _ ns) ∙ cond_done c (n ∷ (code ++ ns)) es (begun at ∷ ms) fs h xs p

-- statements, the newest first, before what stood there
abbrev run_on : Stmts → List Stmt → List Stmt
run_on end ss = ss
run_on (next s b) ss = run_on b (s ∷ ss)

abbrev linked : Stmts → Stmts → Stmts
linked end acc = acc
linked (next s b) acc = next s (linked b acc)

linked_end : (b : Stmts) → linked b end ≡ b
linked_end end = refl
linked_end (next s b) = ap (next s) (linked_end b)

run_on_stmts : (b : Stmts) (ss : List Stmt) (acc : Stmts) → stmts_of (run_on b ss) acc ≡ stmts_of ss (linked b acc)
run_on_stmts end ss acc = refl
run_on_stmts (next s b) ss acc = run_on_stmts b (s ∷ ss) acc

in_order : (b : Stmts) → stmts_of (run_on b []) end ≡ b
in_order b = run_on_stmts b [] end ∙ linked_end b

mutual
  unfolding tree

  -- the code of a statement adds it to its scope, and nothing else is changed
  stmt_done : (s : Stmt) (ns : List Node) (es : List Expr) (ms : List Mark) (o : Opener) (ss : List Stmt) (fs : List Frame) (h : Declarator) (xs : List Declarator) (p : Program) → tree (flat_stmt s ++ ns) es ms (frame o ss ∷ fs) h xs p ≡ tree ns es ms (frame o (s ∷ ss) ∷ fs) h xs p
  stmt_done (declare at d e) ns es ms o ss fs h xs p = simple e (node.Declare d) ns at es ms (frame o ss ∷ fs) h xs p
  stmt_done (assign x e) ns es ms o ss fs h xs p = simple e (node.Assign x) ns x.at es ms (frame o ss ∷ fs) h xs p
  stmt_done (calls x r) ns es ms o ss fs h xs p =
      ap (λ l. tree l es (begun x.at ∷ ms) (frame o ss ∷ fs) h xs p) (append_assoc (flats r) _ ns)
      ∙ exprs_done r (node.CallStatement x (count r) ∷ ns) es (begun x.at ∷ ms) (frame o ss ∷ fs) h xs p
      ∙ ap (λ l. tree ns (drop (count r) (pushed r es)) ms (frame o (calls x l ∷ ss) ∷ fs) h xs p) (taken r es)
      ∙ ap (λ l. tree ns l ms (frame o (calls x r ∷ ss) ∷ fs) h xs p) (left r es)
  stmt_done (if_then at c s) ns es ms o ss fs h xs p =
      tested_first c (node.Then (length (scoped (flat_stmt s)))) (scoped (flat_stmt s)) ns at es ms (frame o ss ∷ fs) h xs p
      ∙ ap (λ l. tree l es ms (frame (in_then at c) [] ∷ frame o ss ∷ fs) h xs p) (append_assoc (flat_stmt s) _ ns)
      ∙ stmt_done s (node.EndScope ∷ ns) es ms (in_then at c) [] (frame o ss ∷ fs) h xs p
  stmt_done (if_else at c s t) ns es ms o ss fs h xs p =
      tested_first c (node.Then (length (scoped (flat_stmt s)) + 1)) (scoped (flat_stmt s) ++ (node.Else (length (scoped (flat_stmt t))) ∷ scoped (flat_stmt t))) ns at es ms (frame o ss ∷ fs) h xs p
      ∙ ap (λ l. tree l es ms (frame (in_then at c) [] ∷ frame o ss ∷ fs) h xs p) (three (flat_stmt s) _ _ ns)
      ∙ stmt_done s (node.EndScope ∷ node.Else (length (scoped (flat_stmt t))) ∷ (scoped (flat_stmt t) ++ ns)) es ms (in_then at c) [] (frame o ss ∷ fs) h xs p
      ∙ ap (λ l. tree l es ms (frame (in_else at c s) [] ∷ frame o ss ∷ fs) h xs p) (append_assoc (flat_stmt t) _ ns)
      ∙ stmt_done t (node.EndScope ∷ ns) es ms (in_else at c s) [] (frame o ss ∷ fs) h xs p
  stmt_done (while at c s) ns es ms o ss fs h xs p =
      tested_first c (node.Loop (length (scoped (flat_stmt s)) + 1)) (scoped (flat_stmt s) ++ (node.Back (length (flat_cond c) + length (scoped (flat_stmt s)) + 2) ∷ [])) ns at es ms (frame o ss ∷ fs) h xs p
      ∙ ap (λ l. tree l es ms (frame (in_loop at c) [] ∷ frame o ss ∷ fs) h xs p) (three (flat_stmt s) _ _ ns)
      ∙ stmt_done s (node.EndScope ∷ node.Back (length (flat_cond c) + length (scoped (flat_stmt s)) + 2) ∷ ns) es ms (in_loop at c) [] (frame o ss ∷ fs) h xs p
  stmt_done (free at e) ns es ms o ss fs h xs p = simple e node.Free ns at es ms (frame o ss ∷ fs) h xs p
  stmt_done (print at e) ns es ms o ss fs h xs p = simple e node.Print ns at es ms (frame o ss ∷ fs) h xs p
  stmt_done (return at e) ns es ms o ss fs h xs p = simple e node.Return ns at es ms (frame o ss ∷ fs) h xs p
  stmt_done (block at b) ns es ms o ss fs h xs p =
      ap (λ l. tree l es ms (frame (in_block at) [] ∷ frame o ss ∷ fs) h xs p) (append_assoc (flat_stmts b) _ ns)
      ∙ stmts_done b (node.EndScope ∷ ns) es ms (in_block at) [] (frame o ss ∷ fs) h xs p
      ∙ ap (λ l. tree ns es ms (frame o (block at l ∷ ss) ∷ fs) h xs p) (in_order b)

  stmts_done : (b : Stmts) (ns : List Node) (es : List Expr) (ms : List Mark) (o : Opener) (ss : List Stmt) (fs : List Frame) (h : Declarator) (xs : List Declarator) (p : Program) → tree (flat_stmts b ++ ns) es ms (frame o ss ∷ fs) h xs p ≡ tree ns es ms (frame o (run_on b ss) ∷ fs) h xs p
  stmts_done end ns es ms o ss fs h xs p = refl
  stmts_done (next s b) ns es ms o ss fs h xs p =
      ap (λ l. tree l es ms (frame o ss ∷ fs) h xs p) (append_assoc (flat_stmt s) (flat_stmts b) ns)
      ∙ stmt_done s (flat_stmts b ++ ns) es ms o ss fs h xs p
      ∙ stmts_done b ns es ms o (s ∷ ss) fs h xs p

formals_done : (ds : List Declarator) (ns : List Node) (es : List Expr) (ms : List Mark) (fs : List Frame) (h : Declarator) (xs : List Declarator) (p : Program) → tree (flat_formals ds ++ ns) es ms fs h xs p ≡ tree ns es ms fs h (xs ++ ds) p
unfolding tree
formals_done [] ns es ms fs h xs p = ap (λ l. tree ns es ms fs h l p) (sym (append-nil xs))
formals_done (d ∷ ds) ns es ms fs h xs p =
    formals_done ds ns es ms fs h (xs ++ d ∷ []) p ∙ ap (λ l. tree ns es ms fs h l p) (append_assoc xs (d ∷ []) ds)

fun_done : (f : Fun) (ns : List Node) (h : Declarator) (xs : List Declarator) (p : Program) → tree (flat_fun f ++ ns) [] [] [] h xs p ≡ tree ns [] [] [] f.head f.formals (p ++ f ∷ [])
unfolding tree
fun_done f ns h xs p =
    ap (λ l. tree l [] [] (frame (in_block 0) [] ∷ []) f.head [] p) (three (flat_formals f.formals) (flat_stmts f.body) _ ns)
    ∙ formals_done f.formals (flat_stmts f.body ++ (node.Leave f.close ∷ ns)) [] [] (frame (in_block 0) [] ∷ []) f.head [] p
    ∙ stmts_done f.body (node.Leave f.close ∷ ns) [] [] (in_block 0) [] [] f.head f.formals p
    ∙ ap (λ b. tree ns [] [] [] f.head f.formals (p ++ record { head = f.head; formals = f.formals; body = b; close = f.close } ∷ [])) (in_order f.body)

program_done : (q : Program) (h : Declarator) (xs : List Declarator) (p : Program) → tree (flat_program q) [] [] [] h xs p ≡ p ++ q
unfolding tree
program_done [] h xs p = sym (append-nil p)
program_done (f ∷ q) h xs p = fun_done f (flat_program q) h xs p ∙ program_done q f.head f.formals (p ++ f ∷ []) ∙ append_assoc p (f ∷ []) q

abbrev anything : Declarator
anything = record { mutable = false; ty = Int; name = record { at = 0; len = 0 } }

pub loses_nothing : FlatLosesNothing
loses_nothing p q e = sym (program_done p anything [] []) ∙ ap (λ l. tree l [] [] [] anything [] []) e ∙ program_done q anything [] []
