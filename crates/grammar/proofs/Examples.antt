-- Runs of the reader. Assumes nothing.
use Rattle.std.proofs.Common.{◌≡◌, ℕ, zero, suc, false, List, [], ◌∷◌, refl}
use Rattle.script.specs.declared.types.«Type».TheVariants as type
use Rattle.script.specs.declared.types.Name.{Name}
use Rattle.script.specs.declared.types.Operator.TheVariants as operator
use Rattle.script.specs.declared.types.Comparison.TheVariants as comparison
use Rattle.script.specs.Tree as tree
use Rattle.tokens.specs.declared.types.Keyword.TheVariants as word
use Rattle.tokens.specs.declared.types.Mark.TheVariants as sign
use Rattle.tokens.specs.declared.types.Trouble.TheVariants.{OpenComment}
use Rattle.tokens.specs.Spelling.{name, constant, keyword, mark, end, trouble, Item, item}
use Rattle.grammar.specs.Refusals.{Outcome, reads, refuses}
use Rattle.grammar.specs.Combine.{after, from, on, peek, loop, many, separated, ends}
use Rattle.grammar.specs.Parse.{operand, negation, statement, program, outcome}

abbrev n : ℕ → Name
n at = record { at = at; len = 1 }

-- int f(int a) {
abbrev opening : List Item → List Item
opening is =
    item (keyword word.Int) 0 ∷ item (name (102 ∷ [])) 4 ∷ item (mark sign.LeftParen) 5
    ∷ item (keyword word.Int) 6 ∷ item (name (97 ∷ [])) 10 ∷ item (mark sign.RightParen) 11 ∷ item (mark sign.LeftBrace) 13 ∷ is

-- }
abbrev closing : ℕ → List Item
closing at = item (mark sign.RightBrace) at ∷ item end 90 ∷ []

abbrev script : tree.Stmts → ℕ → Outcome
script b at =
    reads (record {
      head = record { mutable = false; ty = type.Int; name = n 4 };
      formals = record { mutable = false; ty = type.Int; name = n 10 } ∷ [];
      body = b;
      close = at;
    } ∷ [])

-- return a + 2 * 3;
one :
    outcome (opening (item (keyword word.Return) 15 ∷ item (name (97 ∷ [])) 22 ∷ item (mark sign.Plus) 24 ∷ item (constant 2) 26 ∷ item (mark sign.Star) 28 ∷ item (constant 3) 30 ∷ item (mark sign.Semicolon) 31 ∷ closing 33))
    ≡ script (tree.next (tree.return 15 (tree.binary 24 22 operator.Add (tree.variable (n 22)) (tree.binary 28 26 operator.Multiply (tree.constant 26 2) (tree.constant 30 3)))) tree.end) 33
unfolding outcome program statement negation operand after from on peek loop many separated ends
one = refl

-- return a 2; : the constant is refused
two : outcome (opening (item (keyword word.Return) 15 ∷ item (name (97 ∷ [])) 22 ∷ item (constant 2) 24 ∷ item (mark sign.Semicolon) 25 ∷ closing 27)) ≡ refuses 24 4
unfolding outcome program statement negation operand after from on peek loop many separated ends
two = refl

-- if ((a) < 1 && !((a) == 2)) f((Q) - 1);
three :
    outcome (opening (item (keyword word.If) 15 ∷ item (mark sign.LeftParen) 18 ∷ item (mark sign.LeftParen) 19 ∷ item (name (97 ∷ [])) 20 ∷ item (mark sign.RightParen) 21 ∷ item (mark sign.Less) 23 ∷ item (constant 1) 25
    ∷ item (mark sign.AndAnd) 27 ∷ item (mark sign.Not) 30 ∷ item (mark sign.LeftParen) 31 ∷ item (mark sign.LeftParen) 32 ∷ item (name (97 ∷ [])) 33 ∷ item (mark sign.RightParen) 34 ∷ item (mark sign.EqualEqual) 36 ∷ item (constant 2) 39
    ∷ item (mark sign.RightParen) 40 ∷ item (mark sign.RightParen) 41 ∷ item (name (102 ∷ [])) 43 ∷ item (mark sign.LeftParen) 44 ∷ item (mark sign.LeftParen) 45 ∷ item (keyword word.Q) 46 ∷ item (mark sign.RightParen) 47
    ∷ item (mark sign.Minus) 49 ∷ item (constant 1) 51 ∷ item (mark sign.RightParen) 52 ∷ item (mark sign.Semicolon) 53 ∷ closing 55))
    ≡ script (tree.next (tree.if_then 15
    (tree.both 27 (tree.compare 23 comparison.Less (tree.variable (n 20)) (tree.constant 25 1)) (tree.negated 30 (tree.compare 36 comparison.Equal (tree.variable (n 33)) (tree.constant 39 2))))
    (tree.calls (n 43) (tree.more (tree.cast 45 type.Q (tree.negate 49 (tree.constant 51 1))) tree.none))) tree.end) 55
unfolding outcome program statement negation operand after from on peek loop many separated ends
three = refl

-- if ((a)) : a comparison is wanted before the second closing parenthesis
four :
    outcome (opening (item (keyword word.If) 15 ∷ item (mark sign.LeftParen) 18 ∷ item (mark sign.LeftParen) 19 ∷ item (name (97 ∷ [])) 20 ∷ item (mark sign.RightParen) 21 ∷ item (mark sign.RightParen) 22 ∷ closing 24))
    ≡ refuses 22 4
unfolding outcome program statement negation operand after from on peek loop many separated ends
four = refl

-- a comment that does not end has its own number
five : outcome (opening (item (trouble OpenComment) 15 ∷ [])) ≡ refuses 15 2
unfolding outcome program statement negation operand after from on peek loop many separated ends
five = refl

-- so many opening braces, from an offset on
abbrev braces : ℕ → ℕ → List Item
braces zero at = item end at ∷ []
braces (suc n) at = item (mark sign.LeftBrace) at ∷ braces n (suc at)

-- the brace at 15 is inside 1, the one at 78 inside 64, and the one at 79 too deep
six : outcome (opening (braces 70 15)) ≡ refuses 79 5
unfolding outcome program statement negation operand after from on peek loop many separated ends
six = refl

-- with one brace less the next token is the end, which can not stand there
seven : outcome (opening (braces 64 15)) ≡ refuses 79 4
unfolding outcome program statement negation operand after from on peek loop many separated ends
seven = refl
