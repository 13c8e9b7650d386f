-- The statements by their first token. Assumes nothing.
use Rattle.std.proofs.Common.{◌≡◌, ℕ, zero, suc, ◌-◌, ◌<◌, true, false, length, refl, ap, sub-one, arith}
use Rattle.script.specs.Tree as tree
use Rattle.script.specs.Tree.{Stmt}
use Rattle.tokens.specs.declared.types.Keyword.TheVariants as word
use Rattle.tokens.specs.declared.types.Mark.TheVariants as sign
use Rattle.tokens.specs.declared.types.Token.TheVariants.{Keyword as AKeyword, Mark as AMark}
use Rattle.tokens.specs.Spelling.{item_of, keyword, mark}
use Rattle.grammar.specs.Combine.{Parser, after, ret, on, want, kind_at, is}
use Rattle.grammar.specs.Parse.{is_name, name_of, expression, condition, ended, declaration, assignment, otherwise, tests, statement, statements}
use Rattle.reader.specs.declared.refusal.ReadRefusal.{ReadRefusal}
use Rattle.reader.specs.declared.cursor.Cursor.{Cursor}
use Rattle.reader.specs.Cursor.{left}
use Rattle.reader.specs.Reading.{Passed, NotPassed, Refused}
use Rattle.reader.specs.Statements.{Leads}
use Rattle.reader.proofs.Steps.{kind_of}
use Rattle.reader.proofs.Says.{Opens, first_takes, first_leaves, first_stops}

-- the kind of no token that a statement but a declaration begins with
abbrev pub IsOther : ℕ → Type 0
IsOther k = (is (keyword word.If) k ≡ false) × (is (keyword word.While) k ≡ false) × (is (keyword word.Free) k ≡ false) × (is (keyword word.Print) k ≡ false) × (is (keyword word.Return) k ≡ false) × (is (mark sign.LeftBrace) k ≡ false)

-- what is tried from each test on
abbrev braced : ℕ → ℕ → Parser Stmt
braced d g = on d (is (mark sign.LeftBrace)) (λ i. after (statements g (suc d)) (λ x. want d sign.RightBrace (ret (tree.block i.at x)))) (declaration d (expression g d))

abbrev returned : ℕ → ℕ → Parser Stmt
returned d g = on d (is (keyword word.Return)) (λ i. ended d (expression g d) (tree.return i.at)) (braced d g)

abbrev printed : ℕ → ℕ → Parser Stmt
printed d g = on d (is (keyword word.Print)) (λ i. ended d (expression g d) (tree.print i.at)) (returned d g)

abbrev freed : ℕ → ℕ → Parser Stmt
freed d g = on d (is (keyword word.Free)) (λ i. ended d (expression g d) (tree.free i.at)) (printed d g)

abbrev repeated : ℕ → ℕ → Parser Stmt
repeated d g = on d (is (keyword word.While)) (λ i. tests d (condition true g (suc d)) (statement g (suc d)) (λ x y. ret (tree.while i.at x y))) (freed d g)

abbrev chosen : ℕ → ℕ → Parser Stmt
chosen d g = on d (is (keyword word.If)) (λ i. tests d (condition true g (suc d)) (statement g (suc d)) (otherwise d i.at (statement g (suc d)))) (repeated d g)

abbrev named : ℕ → ℕ → Parser Stmt
named d g = on d is_name (λ i. assignment d g (expression g d) (expression g (suc d)) (name_of i)) (chosen d g)

module _ (d : ℕ) (c : Cursor) where
  opens : Opens (λ g. statement g d) c (named d)
  unfolding statement
  opens = record { is = step }
    where
      step : (g : ℕ) → length (left c) < g → statement g d (left c) ≡ named d (g - 1) (left c)
      step zero lt = absurd (omega arith)
      step (suc g) lt = rw sub-one refl

  module _ (no_name : is_name (kind_at (left c)) ≡ false) where
    to_if : Opens (λ g. statement g d) c (chosen d)
    to_if = first_leaves _ _ _ _ opens no_name

    module _ (no_if : is (keyword word.If) (kind_at (left c)) ≡ false) where
      to_while : Opens (λ g. statement g d) c (repeated d)
      to_while = first_leaves _ _ _ _ to_if no_if

      module _ (no_while : is (keyword word.While) (kind_at (left c)) ≡ false) where
        to_free : Opens (λ g. statement g d) c (freed d)
        to_free = first_leaves _ _ _ _ to_while no_while

        module _ (no_free : is (keyword word.Free) (kind_at (left c)) ≡ false) where
          to_print : Opens (λ g. statement g d) c (printed d)
          to_print = first_leaves _ _ _ _ to_free no_free

          module _ (no_print : is (keyword word.Print) (kind_at (left c)) ≡ false) where
            to_return : Opens (λ g. statement g d) c (returned d)
            to_return = first_leaves _ _ _ _ to_print no_print

            module _ (no_return : is (keyword word.Return) (kind_at (left c)) ≡ false) where
              to_brace : Opens (λ g. statement g d) c (braced d)
              to_brace = first_leaves _ _ _ _ to_return no_return

              pub to_declaration : is (mark sign.LeftBrace) (kind_at (left c)) ≡ false → Opens (λ g. statement g d) c (λ g. declaration d (expression g d))
              to_declaration no_brace = first_leaves _ _ _ _ to_brace no_brace

  -- a token was passed, by its kind
  module _ {i : Cursor} where
    pub takes_name : is_name (kind_at (left c)) ≡ true → Passed d c i → Leads 1 (λ g. statement g d) c (λ g. assignment d g (expression g d) (expression g (suc d)) (name_of (item_of c.here))) i
    takes_name h w = first_takes _ _ _ _ opens h w

    pub takes_if : c.here.token ≡ AKeyword word.If → Passed d c i → Leads 1 (λ g. statement g d) c (λ g. tests d (condition true g (suc d)) (statement g (suc d)) (otherwise d c.here.at (statement g (suc d)))) i
    takes_if h w = first_takes _ _ _ _ (to_if (ap (λ t. is_name (kind_of t)) h)) (ap (λ t. is (keyword word.If) (kind_of t)) h) w

    pub takes_while : c.here.token ≡ AKeyword word.While → Passed d c i → Leads 1 (λ g. statement g d) c (λ g. tests d (condition true g (suc d)) (statement g (suc d)) (λ x y. ret (tree.while c.here.at x y))) i
    takes_while h w = first_takes _ _ _ _ (to_while (ap (λ t. is_name (kind_of t)) h) (ap (λ t. is (keyword word.If) (kind_of t)) h)) (ap (λ t. is (keyword word.While) (kind_of t)) h) w

    pub takes_free : c.here.token ≡ AKeyword word.Free → Passed d c i → Leads 1 (λ g. statement g d) c (λ g. ended d (expression g d) (tree.free c.here.at)) i
    takes_free h w = first_takes _ _ _ _ (to_free (ap (λ t. is_name (kind_of t)) h) (ap (λ t. is (keyword word.If) (kind_of t)) h) (ap (λ t. is (keyword word.While) (kind_of t)) h)) (ap (λ t. is (keyword word.Free) (kind_of t)) h) w

    pub takes_print : c.here.token ≡ AKeyword word.Print → Passed d c i → Leads 1 (λ g. statement g d) c (λ g. ended d (expression g d) (tree.print c.here.at)) i
    takes_print h w = first_takes _ _ _ _ (to_print (ap (λ t. is_name (kind_of t)) h) (ap (λ t. is (keyword word.If) (kind_of t)) h) (ap (λ t. is (keyword word.While) (kind_of t)) h) (ap (λ t. is (keyword word.Free) (kind_of t)) h)) (ap (λ t. is (keyword word.Print) (kind_of t)) h) w

    pub takes_return : c.here.token ≡ AKeyword word.Return → Passed d c i → Leads 1 (λ g. statement g d) c (λ g. ended d (expression g d) (tree.return c.here.at)) i
    takes_return h w = first_takes _ _ _ _ (to_return (ap (λ t. is_name (kind_of t)) h) (ap (λ t. is (keyword word.If) (kind_of t)) h) (ap (λ t. is (keyword word.While) (kind_of t)) h) (ap (λ t. is (keyword word.Free) (kind_of t)) h) (ap (λ t. is (keyword word.Print) (kind_of t)) h)) (ap (λ t. is (keyword word.Return) (kind_of t)) h) w

    pub takes_brace : c.here.token ≡ AMark sign.LeftBrace → Passed d c i → Leads 1 (λ g. statement g d) c (λ g. after (statements g (suc d)) (λ x. want d sign.RightBrace (ret (tree.block c.here.at x)))) i
    takes_brace h w = first_takes _ _ _ _ (to_brace (ap (λ t. is_name (kind_of t)) h) (ap (λ t. is (keyword word.If) (kind_of t)) h) (ap (λ t. is (keyword word.While) (kind_of t)) h) (ap (λ t. is (keyword word.Free) (kind_of t)) h) (ap (λ t. is (keyword word.Print) (kind_of t)) h) (ap (λ t. is (keyword word.Return) (kind_of t)) h)) (ap (λ t. is (mark sign.LeftBrace) (kind_of t)) h) w

  -- the first token of a statement was not passed
  module _ {r : ReadRefusal} (n : NotPassed d c r) where
    pub stops_name : is_name (kind_at (left c)) ≡ true → Refused (λ g. statement g d) c r
    stops_name h = first_stops _ _ _ _ opens h n

    pub stops_if : c.here.token ≡ AKeyword word.If → Refused (λ g. statement g d) c r
    stops_if h = first_stops _ _ _ _ (to_if (ap (λ t. is_name (kind_of t)) h)) (ap (λ t. is (keyword word.If) (kind_of t)) h) n

    pub stops_while : c.here.token ≡ AKeyword word.While → Refused (λ g. statement g d) c r
    stops_while h = first_stops _ _ _ _ (to_while (ap (λ t. is_name (kind_of t)) h) (ap (λ t. is (keyword word.If) (kind_of t)) h)) (ap (λ t. is (keyword word.While) (kind_of t)) h) n

    pub stops_free : c.here.token ≡ AKeyword word.Free → Refused (λ g. statement g d) c r
    stops_free h = first_stops _ _ _ _ (to_free (ap (λ t. is_name (kind_of t)) h) (ap (λ t. is (keyword word.If) (kind_of t)) h) (ap (λ t. is (keyword word.While) (kind_of t)) h)) (ap (λ t. is (keyword word.Free) (kind_of t)) h) n

    pub stops_print : c.here.token ≡ AKeyword word.Print → Refused (λ g. statement g d) c r
    stops_print h = first_stops _ _ _ _ (to_print (ap (λ t. is_name (kind_of t)) h) (ap (λ t. is (keyword word.If) (kind_of t)) h) (ap (λ t. is (keyword word.While) (kind_of t)) h) (ap (λ t. is (keyword word.Free) (kind_of t)) h)) (ap (λ t. is (keyword word.Print) (kind_of t)) h) n

    pub stops_return : c.here.token ≡ AKeyword word.Return → Refused (λ g. statement g d) c r
    stops_return h = first_stops _ _ _ _ (to_return (ap (λ t. is_name (kind_of t)) h) (ap (λ t. is (keyword word.If) (kind_of t)) h) (ap (λ t. is (keyword word.While) (kind_of t)) h) (ap (λ t. is (keyword word.Free) (kind_of t)) h) (ap (λ t. is (keyword word.Print) (kind_of t)) h)) (ap (λ t. is (keyword word.Return) (kind_of t)) h) n

    pub stops_brace : c.here.token ≡ AMark sign.LeftBrace → Refused (λ g. statement g d) c r
    stops_brace h = first_stops _ _ _ _ (to_brace (ap (λ t. is_name (kind_of t)) h) (ap (λ t. is (keyword word.If) (kind_of t)) h) (ap (λ t. is (keyword word.While) (kind_of t)) h) (ap (λ t. is (keyword word.Free) (kind_of t)) h) (ap (λ t. is (keyword word.Print) (kind_of t)) h) (ap (λ t. is (keyword word.Return) (kind_of t)) h)) (ap (λ t. is (mark sign.LeftBrace) (kind_of t)) h) n
