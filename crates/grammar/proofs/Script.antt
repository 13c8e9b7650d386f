-- The reader of statements and programs looks no further, and can be completed. Assumes nothing.
use Rattle.std.proofs.Common.{ℕ, zero, suc, ◌+◌, ◌<◌, Bool, true, false, ◌||◌, List, [], ◌∷◌, refl, arith}
use Rattle.std.proofs.lemmas.Bool.{or_parts}
use Rattle.script.specs.declared.types.Name.{Name}
use Rattle.script.specs.declared.types.Declarator.{Declarator}
use Rattle.script.specs.Tree as tree
use Rattle.script.specs.Tree.{Expr, Cond, Stmt, Stmts}
use Rattle.tokens.specs.declared.types.Keyword.TheVariants as word
use Rattle.tokens.specs.declared.types.Mark.TheVariants as sign
use Rattle.tokens.specs.Spelling.{name, keyword, mark, Item}
use Rattle.grammar.specs.Combine.{is, Parser, after, ret, bad, on, want}
use Rattle.grammar.specs.Parse.{is_name, is_type, declares, begins, name_of, type_of, typed, declarator, actuals, expression, ended, declaration, assignment, otherwise, tests, statement_by, statements_by, statement, formals, body, function, program}
use Rattle.grammar.proofs.Symbols.{never}
use Rattle.grammar.proofs.Local.{Alive, Less, no_kind, ret_lo, bad_lo, ret_alive, takes_lo, ret_good, on_alive, after_alive, Good, less_is, less_refl, less_none, seq, seq_from, map, gas_good, want_lo, want_alive, wants, then_mark, closing, opt_alive, many_good, not_end, less_end, ends_lo, ends_alive}
use Rattle.grammar.proofs.Reader.{ends_expression, ends_test, listed_good, actuals_good, expression_alive, expression_good, condition_good}

-- the kinds that go on with a statement and with statements
abbrev pub ends_statement : ℕ → Bool
ends_statement k = is (keyword word.Else) k

abbrev pub ends_statements : ℕ → Bool
ends_statements k = begins k || is (keyword word.Else) k

sl : Less begins ends_statements
sl = record { so = λ k e. (or_parts (begins k) _ e).0 }

ql : Less ends_statement ends_statements
ql = less_is ends_statements (keyword word.Else) refl

typed_good : {Q : ℕ → Bool} (d : ℕ) (m : Bool) → Good Q true (typed d m) (typed d m)
typed_good {Q = Q} d m =
    record {
      lo = takes_lo d is_type (refl, refl) never inner bad_lo;
      alive = on_alive d is_type _ _ (keyword word.Int) refl refl (λ i. (inner i).alive);
    }
  where
    inner : (i : Item)
        → Good {X = Declarator} Q true (on d is_name (λ j. ret (record { mutable = m; ty = type_of i.symbol; name = name_of j })) bad) (on d is_name (λ j. ret (record { mutable = m; ty = type_of i.symbol; name = name_of j })) bad)
    inner i =
        record {
          lo = takes_lo d is_name (refl, refl) never (λ j. ret_good _) bad_lo;
          alive = on_alive d is_name _ _ (name []) refl refl (λ j. ret_alive _ less_none);
        }

declarator_good : {Q : ℕ → Bool} (d : ℕ) → Good Q true (declarator d) (declarator d)
declarator_good d =
    record {
      lo = takes_lo d (is (keyword word.Mutable)) (refl, refl) never (λ i. typed_good d true) (typed_good d false).lo;
      alive = on_alive d (is (keyword word.Mutable)) _ _ (keyword word.Mutable) refl refl (λ i. (typed_good d true).alive);
    }

module _ (d : ℕ) where
  ended_good : {Q : ℕ → Bool} (e E : Parser Expr) (f : Expr → Stmt) → Good ends_expression true e E → Good Q true (ended d e f) (ended d E f)
  ended_good e E f h = closing d sign.Semicolon f refl h

  declaration_good : {Q : ℕ → Bool} (e E : Parser Expr) → Good ends_expression true e E → Good Q true (declaration d e) (declaration d E)
  declaration_good {Q = Q} e E h =
      seq_from {S = no_kind} never (declarator_good d) (λ o x. want_alive {w = true} d sign.Assign refl (ended_good {Q = Q} e E (tree.declare o x) h).alive) (λ o x. want_lo d sign.Assign (ended_good e E (tree.declare o x) h))

  assignment_good : {Q : ℕ → Bool} (g G : ℕ) → g < G → (e E s S : Parser Expr) (x : Name) → Good ends_expression true e E → Good ends_expression true s S → Good Q true (assignment d g e s x) (assignment d G E S x)
  assignment_good {Q = Q} g G lt e E s S x h k =
      record {
        lo =
            takes_lo d (is (mark sign.Assign)) (refl, refl) never (λ i. ended_good e E (tree.assign x) h)
            (takes_lo d (is (mark sign.LeftParen)) (refl, refl) never (λ i. call) bad_lo);
        alive = on_alive d (is (mark sign.Assign)) _ _ (mark sign.Assign) refl refl (λ i. (ended_good e E (tree.assign x) h).alive);
      }
    where
      call : Good Q true (after (actuals d g s) (λ es. want d sign.Semicolon (ret (tree.calls x es)))) (after (actuals d G S) (λ es. want d sign.Semicolon (ret (tree.calls x es))))
      call = closing d sign.Semicolon (tree.calls x) refl (actuals_good g G lt {Q = no_kind} d s S k)

  otherwise_good : (b B : Parser Stmt) (at : ℕ) → Good ends_statement true b B → (x : Cond) → Good ends_statement true (after b (otherwise d at b x)) (after B (otherwise d at B x))
  otherwise_good b B at h x =
      seq (λ e. less_refl) h (λ y. opt_alive d (is (keyword word.Else)) _ _ (refl, refl) less_refl less_refl)
      (λ y. takes_lo d (is (keyword word.Else)) (refl, refl) (λ e. less_refl) (λ i. map (tree.if_else at x y) h) (ret_lo (tree.if_then at x y)))

  tests_good : (c C : Parser Cond) (b B : Parser Stmt) (k K : Cond → Stmt → Parser Stmt) → Good ends_test true c C → ((x : Cond) → Good ends_statement true (after b (k x)) (after B (K x))) → Good ends_statement true (tests d c b k) (tests d C B K)
  tests_good c C b B k K h j = wants d sign.LeftParen (then_mark d sign.RightParen refl h j)

  statement_by_good : (g G : ℕ) → g < G → (e E s S : Parser Expr) (c C : Parser Cond) (b B : Parser Stmt) (ss SS : Parser Stmts) → Good ends_expression true e E → Good ends_expression true s S → Good ends_test true c C
      → Good ends_statement true b B → Good ends_statements false ss SS → Good ends_statement true (statement_by d g e s c b ss) (statement_by d G E S C B SS)
  statement_by_good g G lt e E s S c C b B ss SS he hs hc hb hss =
      record {
        lo =
            takes_lo d is_name (refl, refl) never names
            (takes_lo d (is (keyword word.If)) (refl, refl) never ifs
            (takes_lo d (is (keyword word.While)) (refl, refl) never whiles
            (takes_lo d (is (keyword word.Free)) (refl, refl) never (λ i. ends_with (tree.free i.at))
            (takes_lo d (is (keyword word.Print)) (refl, refl) never (λ i. ends_with (tree.print i.at))
            (takes_lo d (is (keyword word.Return)) (refl, refl) never (λ i. ends_with (tree.return i.at))
            (takes_lo d (is (mark sign.LeftBrace)) (refl, refl) never blocks
            (declaration_good e E he).lo))))));
        alive = on_alive d is_name _ _ (name []) refl refl (λ i. (names i).alive);
      }
    where
      names : (i : Item) → Good ends_statement true (assignment d g e s (name_of i)) (assignment d G E S (name_of i))
      names i = assignment_good g G lt e E s S (name_of i) he hs

      ifs : (i : Item) → Good ends_statement true (tests d c b (otherwise d i.at b)) (tests d C B (otherwise d i.at B))
      ifs i = tests_good c C b B _ _ hc (otherwise_good b B i.at hb)

      whiles : (i : Item) → Good ends_statement true (tests d c b (λ x y. ret (tree.while i.at x y))) (tests d C B (λ x y. ret (tree.while i.at x y)))
      whiles i = tests_good c C b B _ _ hc (λ x. map (tree.while i.at x) hb)

      ends_with : (f : Expr → Stmt) → Good ends_statement true (ended d e f) (ended d E f)
      ends_with f = ended_good e E f he

      blocks : (i : Item) → Good ends_statement false (after ss (λ x. want d sign.RightBrace (ret (tree.block i.at x)))) (after SS (λ x. want d sign.RightBrace (ret (tree.block i.at x))))
      blocks i = closing d sign.RightBrace (tree.block i.at) refl hss

pub statement_alive : (G d : ℕ) → 1 < G → Alive true no_kind ends_statement (statement G d)
unfolding statement
statement_alive zero d h = absurd (omega arith)
statement_alive (suc G) d h =
    on_alive d is_name _ _ (name []) refl refl (λ i. on_alive d (is (mark sign.Assign)) _ _ {w = true} (mark sign.Assign) refl refl (λ j. after_alive (expression G d) _ (expression_alive G d (omega arith)) (want_alive {w = true} d sign.Semicolon refl (ret_alive _ less_none))))

statements_by_good : (g G : ℕ) → g < G → (p P : Parser Stmt) → Good ends_statement true p P → Good ends_statements false (statements_by g p) (statements_by G P)
statements_by_good g G lt p P h = many_good g G lt begins tree.end tree.next sl ql h

pub statement_good : (g G d : ℕ) → g + 1 < G → Good ends_statement true (statement g d) (statement G d)
unfolding statement
statement_good g zero d h = absurd (omega arith)
statement_good zero (suc G) d h = gas_good (statement_alive (suc G) d (omega arith))
statement_good (suc g) (suc G) d h =
    let b = statement_good g G (suc d) (omega arith) in
    statement_by_good d g G (omega arith) _ _ _ _ _ _ _ _ _ _ (expression_good g G d (omega arith)) (expression_good g G (suc d) (omega arith)) (condition_good true g G (suc d) (omega arith)) b (statements_by_good g G (omega arith) _ _ b)

module _ (g G : ℕ) (h : g + 1 < G) where
  body_good : (x : Declarator) (xs : List Declarator) → Good no_kind false (body g x xs) (body G x xs)
  body_good x xs =
      seq never (statements_by_good g G (omega arith) _ _ (statement_good g G 1 h))
      (λ b. on_alive 0 (is (mark sign.RightBrace)) _ _ {w = true} (mark sign.RightBrace) refl refl (λ i. ret_alive _ less_none))
      (λ b. takes_lo 0 (is (mark sign.RightBrace)) (refl, refl) never (λ i. ret_good _) bad_lo)

  formals_good : Good no_kind true (formals g) (formals G)
  formals_good = listed_good (is (mark sign.Comma)) 0 g G (omega arith) (declarator 1) (declarator 1) [] (λ x xs. x ∷ xs) refl refl less_none (declarator_good {Q = no_kind} 1)

  function_good : Good no_kind true (function g) (function G)
  function_good = then_mark 0 sign.LeftParen refl (declarator_good {Q = no_kind} 0) (λ x. then_mark 0 sign.LeftBrace refl formals_good (λ xs. body_good x xs))

pub program_good : (g G : ℕ) → g + 1 < G → Good not_end false (program g) (program G)
unfolding program
program_good g G h = seq (λ e. less_end declares refl) (many_good g G (omega arith) declares [] (λ f p. f ∷ p) less_refl less_none (function_good g G h)) (λ p. ends_alive p refl) (λ p. ends_lo p)
