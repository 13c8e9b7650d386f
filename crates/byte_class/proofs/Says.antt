-- What the class of a byte says of the byte. Assumes nothing.
use Rattle.std.proofs.Common.{◌≡◌, ℕ, true, false, eqb, List, [], ◌∷◌, ◌∙◌, arith}
use Rattle.std.proofs.lemmas.Bool.{cond_both, cond-true, cond-false, eqb-true}
use Rattle.std.proofs.lemmas.Bool.Decides.{nat_tests}
use Rattle.byte_class.specs.declared.Class.{Class}
use Rattle.byte_class.specs.declared.Class.TheVariants.{Letter, Digit, Blank, LeftParen, RightParen, LeftBrace, RightBrace, Comma, Semicolon, Equals, Plus, Minus, Star, Dot, Less, Greater, Bang, Ampersand, Pipe, Slash, Other}
use Rattle.byte_class.specs.Classes.{letter, digit, blank, byte_of, marks, mark_of, class_of}

abbrev pub Says : Class → ℕ → Type 0
Says Letter b = letter b ≡ true
Says Digit b = digit b ≡ true
Says Blank b = blank b ≡ true
Says LeftParen b = b ≡ byte_of LeftParen
Says RightParen b = b ≡ byte_of RightParen
Says LeftBrace b = b ≡ byte_of LeftBrace
Says RightBrace b = b ≡ byte_of RightBrace
Says Comma b = b ≡ byte_of Comma
Says Semicolon b = b ≡ byte_of Semicolon
Says Equals b = b ≡ byte_of Equals
Says Plus b = b ≡ byte_of Plus
Says Minus b = b ≡ byte_of Minus
Says Star b = b ≡ byte_of Star
Says Dot b = b ≡ byte_of Dot
Says Less b = b ≡ byte_of Less
Says Greater b = b ≡ byte_of Greater
Says Bang b = b ≡ byte_of Bang
Says Ampersand b = b ≡ byte_of Ampersand
Says Pipe b = b ≡ byte_of Pipe
Says Slash b = b ≡ byte_of Slash
Says Other b = blank b ≡ false

-- each class of a list says that the byte is its own
abbrev Single : List Class → ℕ → Type 0
Single [] b = Unit {0}
Single (c ∷ cs) b = (b ≡ byte_of c → Says c b) × Single cs b

mark_says : (cs : List Class) (b : ℕ) → Single cs b → blank b ≡ false → Says (mark_of cs b) b
mark_says [] b s apart = apart
mark_says (c ∷ cs) b (here, s) apart = cond_both (eqb b (byte_of c)) c (mark_of cs b) (λ d. Says d b) (λ e. here (eqb-true b (byte_of c) e)) (λ e. mark_says cs b s apart)

all_single : (b : ℕ) → Single marks b
all_single b = (λ e. e, (λ e. e, (λ e. e, (λ e. e, (λ e. e, (λ e. e, (λ e. e, (λ e. e, (λ e. e, (λ e. e, (λ e. e, (λ e. e, (λ e. e, (λ e. e, (λ e. e, (λ e. e, (λ e. e, tt)))))))))))))))))

pub class_says : (b : ℕ) → Says (class_of b) b
class_says b =
    cond_both (letter b) Letter _ (λ c. Says c b) (λ e. e)
    (λ _. cond_both (digit b) Digit _ (λ c. Says c b) (λ e. e)
    (λ _. cond_both (blank b) Blank (mark_of marks b) (λ c. Says c b) (λ e. e) (λ apart. mark_says marks b (all_single b) apart)))

pub letter_class : (b : ℕ) → letter b ≡ true → class_of b ≡ Letter
letter_class b h = cond-true (letter b) Letter _ h

digit_apart : (b : ℕ) → digit b ≡ true → letter b ≡ false
digit_apart b h = grind (arith, nat_tests)

pub digit_class : (b : ℕ) → digit b ≡ true → class_of b ≡ Digit
digit_class b h = cond-false (letter b) Letter _ (digit_apart b h) ∙ cond-true (digit b) Digit _ h

blank_apart : (b : ℕ) → blank b ≡ true → (letter b ≡ false) × (digit b ≡ false)
blank_apart b h = (grind (arith, nat_tests), grind (arith, nat_tests))

pub blank_class : (b : ℕ) → blank b ≡ true → class_of b ≡ Blank
blank_class b h =
    let apart = blank_apart b h in
    cond-false (letter b) Letter _ apart.0 ∙ cond-false (digit b) Digit _ apart.1 ∙ cond-true (blank b) Blank _ h
