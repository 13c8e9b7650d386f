-- Expressions have no comparison among their tokens, and conditions have one. Assumes nothing.
use Rattle.std.proofs.Common.{◌≡◌, ℕ, ◌<◌, ◌≤◌, ◌⊎◌, List, [], ◌∷◌, ◌++◌, sym, refl, ap, ◌∙◌, subst, inl, inr, append_assoc, arith}
use mathlib.Core.List.{append_cancel_right}
use Rattle.script.specs.declared.types.«Type».{«Type» as Ty}
use Rattle.script.specs.declared.types.«Type».TheVariants as type
use Rattle.script.specs.declared.types.Operator.{Operator}
use Rattle.script.specs.declared.types.Operator.TheVariants.{Multiply, Add, Subtract, Dot}
use Rattle.script.specs.declared.types.Comparison.{Comparison}
use Rattle.script.specs.declared.types.Comparison.TheVariants.{LessEqual, GreaterEqual, Equal, NotEqual, Less, Greater}
use Rattle.script.specs.Tree.{Expr, Exprs, Cond}
use Rattle.tokens.specs.Spelling.{Symbol, mark, keyword}
use Rattle.grammar.specs.Tokens.{Tok, Is, comparison_mark, operator_mark, type_word}
use Rattle.grammar.specs.Grammar as grammar
use Rattle.grammar.specs.Grammar.{Expression, Actuals, SomeActuals, Condition}
use Rattle.grammar.specs.Combine.{kind}
use Rattle.grammar.specs.Parentheses.{HasComparison, here, there, ParenthesesTell}

-- the kinds of comparisons are 26 to 31
abbrev Apart : ℕ → Type 0
Apart k = (k < 26) ⊎ (31 < k)

comparison_kind : (o : Comparison) → (26 ≤ kind (mark (comparison_mark o))) × (kind (mark (comparison_mark o)) ≤ 31)
comparison_kind LessEqual = (omega arith, omega arith)
comparison_kind GreaterEqual = (omega arith, omega arith)
comparison_kind Equal = (omega arith, omega arith)
comparison_kind NotEqual = (omega arith, omega arith)
comparison_kind Less = (omega arith, omega arith)
comparison_kind Greater = (omega arith, omega arith)

operator_apart : (o : Operator) → Apart (kind (mark (operator_mark o)))
operator_apart Multiply = inl (omega arith)
operator_apart Add = inl (omega arith)
operator_apart Subtract = inl (omega arith)
operator_apart Dot = inl (omega arith)

type_apart : (ty : Ty) → Apart (kind (keyword (type_word ty)))
type_apart type.Int = inl (omega arith)
type_apart type.Ref = inl (omega arith)
type_apart type.Q = inl (omega arith)

-- a token of another kind is no comparison
other : (t : Tok) (s : Symbol) → t.symbol ≡ s → Apart (kind s) → (o : Comparison) → t.symbol ≡ mark (comparison_mark o) → ⊥
other t s is (inl low) o e = let k = comparison_kind o in omega (arith, ap kind (sym is ∙ e))
other t s is (inr high) o e = let k = comparison_kind o in omega (arith, ap kind (sym is ∙ e))

-- the tokens from ts to rest, none of which is a comparison
record Plain (ts rest : List Tok) : Type 0 where
  tokens : List Tok
  split : ts ≡ tokens ++ rest
  none : HasComparison tokens → ⊥

abbrev No : List Tok → Type 0
No ts = HasComparison ts → ⊥

no_none : No []
no_none h = elim h [ ]

no_more : (t : Tok) (ts : List Tok) → ((o : Comparison) → t.symbol ≡ mark (comparison_mark o) → ⊥) → No ts → No (t ∷ ts)
no_more t ts not none (here o e) = not o e
no_more t ts not none (there h) = none h

no_both : (ts us : List Tok) → No ts → No us → No (ts ++ us)
no_both [] us a b = b
no_both (t ∷ ts) us a b = no_more t (ts ++ us) (λ o e. a (here o e)) (no_both ts us (λ h. a (there h)) b)

nothing : (ts : List Tok) → Plain ts ts
nothing ts = record { tokens = []; split = refl; none = no_none }

before : {d : ℕ} {s : Symbol} {t : Tok} {ts rest : List Tok} → Is d s t → Apart (kind s) → Plain ts rest → Plain (t ∷ ts) rest
before {s = s} {t = t} i apart p =
    record { tokens = t ∷ p.tokens; split = ap (λ l. t ∷ l) p.split; none = no_more t p.tokens (other t s i.symbol apart) p.none }

along : {ts mid rest : List Tok} → Plain ts mid → Plain mid rest → Plain ts rest
along {rest = rest} p q =
    record {
      tokens = p.tokens ++ q.tokens;
      split = p.split ∙ ap (λ l. p.tokens ++ l) q.split ∙ sym (append_assoc p.tokens q.tokens rest);
      none = no_both p.tokens q.tokens p.none q.none;
    }

mutual
  plain : {k d : ℕ} {ts rest : List Tok} {e : Expr} → Expression k d ts e rest → Plain ts rest
  plain (grammar.nil i) = before i (inl (omega arith)) (nothing _)
  plain (grammar.number i) = before i (inl (omega arith)) (nothing _)
  plain (grammar.variable n) = before n.is (inl (omega arith)) (nothing _)
  plain (grammar.negated i e) = before i (inl (omega arith)) (plain e)
  plain (grammar.cast {ty = ty} i u v e) = before i (inl (omega arith)) (before u (type_apart ty) (before v (inl (omega arith)) (plain e)))
  plain (grammar.call n u es v) = before n.is (inl (omega arith)) (before u (inl (omega arith)) (along (plain_actuals es) (before v (inl (omega arith)) (nothing _))))
  plain (grammar.group i e u) = before i (inl (omega arith)) (along (plain e) (before u (inl (omega arith)) (nothing _)))
  plain (grammar.looser l e) = plain e
  plain (grammar.binary o b e i f) = along (plain e) (before i (operator_apart o) (plain f))

  plain_actuals : {d : ℕ} {ts rest : List Tok} {es : Exprs} → Actuals d ts es rest → Plain ts rest
  plain_actuals grammar.no_actual = nothing _
  plain_actuals (grammar.actuals es) = plain_some es

  plain_some : {d : ℕ} {ts rest : List Tok} {es : Exprs} → SomeActuals d ts es rest → Plain ts rest
  plain_some (grammar.last_actual e) = plain e
  plain_some (grammar.next_actual e i es) = along (plain e) (before i (inl (omega arith)) (plain_some es))

-- the tokens from ts to rest, one of which is a comparison
record Compared (ts rest : List Tok) : Type 0 where
  tokens : List Tok
  split : ts ≡ tokens ++ rest
  one : HasComparison tokens

after : (ts us : List Tok) → HasComparison us → HasComparison (ts ++ us)
after [] us h = h
after (t ∷ ts) us h = there (after ts us h)

ahead : (ts us : List Tok) → HasComparison ts → HasComparison (ts ++ us)
ahead ts us (here o e) = here o e
ahead (t ∷ ts) us (there h) = there (ahead ts us h)

-- with more tokens in front, and with more behind
on_left : {ts mid rest : List Tok} (used : List Tok) → ts ≡ used ++ mid → Compared mid rest → Compared ts rest
on_left {rest = rest} used e q =
    record { tokens = used ++ q.tokens; split = e ∙ ap (λ l. used ++ l) q.split ∙ sym (append_assoc used q.tokens rest); one = after used q.tokens q.one }

on_right : {ts mid rest : List Tok} (used : List Tok) → mid ≡ used ++ rest → Compared ts mid → Compared ts rest
on_right {rest = rest} used e p =
    record { tokens = p.tokens ++ used; split = p.split ∙ ap (λ l. p.tokens ++ l) e ∙ sym (append_assoc p.tokens used rest); one = ahead p.tokens used p.one }

compared : {k d : ℕ} {ts rest : List Tok} {c : Cond} → Condition k d ts c rest → Compared ts rest
compared (grammar.compared {t = t} o e i f) =
    let p = plain e in
    let q = plain f in
    on_left p.tokens p.split (record { tokens = t ∷ q.tokens; split = ap (λ l. t ∷ l) q.split; one = here o i.symbol })
compared (grammar.negated {t = t} i c) = on_left (t ∷ []) refl (compared c)
compared (grammar.group {t = t} {u = u} i c v) = on_left (t ∷ []) refl (on_right (u ∷ []) refl (compared c))
compared (grammar.looser l c) = compared c
compared (grammar.both {t = t} c i e) = on_right (t ∷ (compared e).tokens) (ap (λ l. t ∷ l) (compared e).split) (compared c)
compared (grammar.either {t = t} c i e) = on_right (t ∷ (compared e).tokens) (ap (λ l. t ∷ l) (compared e).split) (compared c)

pub parentheses_tell : ParenthesesTell
parentheses_tell = record {
  expression = λ k d inside rest e x h. let p = plain x in p.none (subst HasComparison (append_cancel_right inside p.tokens rest p.split) h);
  condition = λ k d inside rest c x. let p = compared x in subst HasComparison (sym (append_cancel_right inside p.tokens rest p.split)) p.one;
}
