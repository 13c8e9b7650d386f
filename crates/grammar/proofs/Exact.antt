-- The reader is right: it reads exactly the programs, and refuses exactly where and why it must. Assumes nothing.
use Rattle.std.proofs.Common.{◌≡◌, ℕ, suc, ◌+◌, ◌<◌, ◌≤◌, true, false, ltb, List, [], ◌∷◌, ◌++◌, length, sym, refl, ap, ◌∙◌, subst, arith, ltb-false, ltb-true}
use Rattle.script.specs.Tree.{Program}
use Rattle.tokens.specs.declared.types.Trouble.{Trouble}
use Rattle.tokens.specs.declared.types.Trouble.TheVariants.{NoToken, OpenComment, LargeConstant}
use Rattle.tokens.specs.Spelling.{Symbol, name, constant, keyword, mark, end, trouble, Item, trouble_number}
use Rattle.tokens.specs.Scan.{final}
use Rattle.grammar.specs.Tokens.{Tok, tokens_from, offset, first}
use Rattle.grammar.specs.Grammar.{Programs}
use Rattle.grammar.specs.Refusals.{Ended, last, before, BeginsProgram, BeginsWithin, tokens, Applies, lexical, wrong, deep, many, NoLater, earlier, same_place, reads, refuses, Right}
use Rattle.grammar.specs.Combine.{kind_at, Why, why_bad, why_deep, why_many, why_gas, Out, out_done, out_fail}
use Rattle.grammar.specs.Parse.{program, why_number, number_of, verdict, outcome}
use Rattle.grammar.proofs.Symbols.{never, an_end}
use Rattle.grammar.proofs.Local.{Eaten, nothing, bite}
use Rattle.grammar.proofs.Sound.{derived}
use Rattle.grammar.proofs.Fuel.{enough_gas}
use Rattle.grammar.proofs.Refusing.{closes, Read, read, not_read, eaten_eq, begins_within, front_within, refused_bad, refused_deep, Told, Refused, refused, fails_more, done_more, done_eats}

-- the token of an item that comes after n others
abbrev tok : ℕ → Item → Tok
tok n i = record { symbol = i.symbol; at = i.at; deepest = 64; counted = ltb n 2048 }

as_long : (n : ℕ) (is : List Item) → length (tokens_from n is) ≡ length is
as_long n [] = refl
as_long n (i ∷ is) = ap suc (as_long (suc n) is)

-- where reading stops among the items: at i, which comes after as many as are in front
pub record Place (n : ℕ) (is : List Item) (pre rest : List Tok) : Type 0 where
  pub front : List Item
  pub i : Item
  pub back : List Item
  pub pos : ℕ
  pub split : is ≡ front ++ (i ∷ back)
  pub counts : pos ≡ length front + n
  pub rest_is : rest ≡ tok pos i ∷ tokens_from (suc pos) back
  pub ended : Ended (i ∷ back)
  pub few : pos ≤ 2048

here : (n : ℕ) (i : Item) (back : List Item) → n ≤ 2048 → Ended (i ∷ back) → Place n (i ∷ back) [] (tok n i ∷ tokens_from (suc n) back)
here n i back l e = record { front = []; i = i; back = back; pos = n; split = refl; counts = omega arith; rest_is = refl; ended = e; few = l }

further : (n : ℕ) (i : Item) (is : List Item) (pre rest : List Tok) (t : Tok) → Place (suc n) is pre rest → Place n (i ∷ is) (t ∷ pre) rest
further n i is pre rest t r =
    record { front = i ∷ r.front; i = r.i; back = r.back; pos = r.pos; split = ap (λ is. i ∷ is) r.split; counts = omega (arith, r.counts); rest_is = r.rest_is; ended = r.ended; few = r.few }

place : (n : ℕ) {is : List Item} {rest pre : List Tok} → n ≤ 2048 → Ended is → Eaten rest pre (tokens_from n is) → Place n is pre rest
place n l (last {i = i} f) e = by e refl
  where
    by : {rest pre ts : List Tok} → Eaten rest pre ts → ts ≡ tok n i ∷ [] → Place n (i ∷ []) pre rest
    by nothing q = rw q (here n i [] l (last f))
    by (bite {t = t} k c e) q = let z : t ≡ tok n i = cc in never (sym f ∙ ap (λ t. final t.symbol) (sym z) ∙ k)
place n l (before {i = i} {j = j} {is = is} f lt en) e = by e refl (λ rest pre l e. place (suc n) l en e)
  where
    by : {rest pre ts : List Tok} → Eaten rest pre ts → ts ≡ tok n i ∷ tokens_from (suc n) (j ∷ is)
        → ((rest pre : List Tok) → suc n ≤ 2048 → Eaten rest pre (tokens_from (suc n) (j ∷ is)) → Place (suc n) (j ∷ is) pre rest) → Place n (i ∷ j ∷ is) pre rest
    by nothing q rec = rw q (here n i (j ∷ is) l (before f lt en))
    by {rest = rest} (bite {t = t} {pre = pre} {ts = us} k c e) q rec =
        let z : t ≡ tok n i = cc in
        let y : us ≡ tokens_from (suc n) (j ∷ is) = cc in
        let m = ltb-true n 2048 (ap (λ t. t.counted) (sym z) ∙ c) in
        further n i (j ∷ is) pre rest t (rec rest pre (omega arith) (subst (Eaten rest pre) y e))

alone : {i : Item} {back : List Item} → Ended (i ∷ back) → final i.symbol ≡ true → back ≡ []
alone (last f) e = refl
alone (before f l en) e = never (sym e ∙ f)

-- the gas is enough
enough : (is : List Item) (rest : List Tok) (why : Why) → program (suc (length is)) (tokens is) ≡ out_fail rest why → why ≡ why_gas → ⊥
enough is rest why e q = enough_gas (suc (length is)) (tokens is) rest (omega (arith, as_long 0 is)) (e ∙ ap (out_fail rest) q)

-- what was read
pub record Was (is : List Item) (p : Program) : Type 0 where
  pub rest : List Tok
  pub run : program (suc (length is)) (tokens is) ≡ out_done p rest

was : (is : List Item) (p : Program) → outcome is ≡ reads p → Was is p
unfolding outcome
was is p e = by (program (suc (length is)) (tokens is)) refl e
  where
    by : (o : Out Program) → program (suc (length is)) (tokens is) ≡ o → verdict o ≡ reads p → Was is p
    by (out_done q rest) i e = let z : q ≡ p = cc in record { rest = rest; run = i ∙ ap (λ p. out_done p rest) z }
    by (out_fail rest why) i e = absurd cc

sound : (is : List Item) (p : Program) → Ended is → outcome is ≡ reads p → Programs (tokens is) p
sound is p en e =
    let w = was is p e in
    let d = derived (tokens is) p w.rest (suc (length is)) w.run in
    let s = place 0 (omega arith) en (done_eats (suc (length is)) (tokens is) w.rest p w.run).eaten in
    let k : s.i.symbol ≡ end = an_end s.i.symbol (ap kind_at (sym s.rest_is) ∙ d.end) in
    let b : s.back ≡ [] = alone s.ended (ap final k) in
    closes d.all (s.rest_is ∙ ap (λ is. tok s.pos s.i ∷ tokens_from (suc s.pos) is) b) k

complete : (is : List Item) (p : Program) → Ended is → Programs (tokens is) p → outcome is ≡ reads p
unfolding outcome
complete is p en w = by (program (suc (length is)) (tokens is)) refl
  where
    r : Read (tokens is) p
    r = read w

    G : ℕ
    G = r.gives.gas + suc (length is) + 2

    g : program G (tokens is) ≡ out_done p r.rest
    g = r.gives.is G (omega arith)

    by : (o : Out Program) → program (suc (length is)) (tokens is) ≡ o → verdict o ≡ reads p
    by (out_done q rest) i =
        let z : out_done q rest ≡ out_done p r.rest = sym (done_more (suc (length is)) G (omega arith) (tokens is) rest q i) ∙ g in
        let y : q ≡ p = cc in
        ap reads y
    by (out_fail rest why) i = absurd (not_read (fails_more (suc (length is)) G (omega arith) (tokens is) rest why (enough is rest why i) i) g)

-- what was refused: at the item i, and why
pub record Stopped (is : List Item) (o n : ℕ) : Type 0 where
  pub rest : List Tok
  pub why : Why
  pub run : program (suc (length is)) (tokens is) ≡ out_fail rest why
  pub goes : why ≡ why_gas → ⊥
  pub told : Refused (tokens is) rest why
  pub at : Place 0 is told.pre rest
  pub o_is : o ≡ at.i.at
  pub n_is : n ≡ number_of why at.i.symbol

stopped : (is : List Item) (o n : ℕ) → Ended is → outcome is ≡ refuses o n → Stopped is o n
unfolding outcome
stopped is o n en e = by (program (suc (length is)) (tokens is)) refl e
  where
    by : (x : Out Program) → program (suc (length is)) (tokens is) ≡ x → verdict x ≡ refuses o n → Stopped is o n
    by (out_done q rest) i e = absurd cc
    by (out_fail rest why) i e =
        let r = refused (suc (length is)) (tokens is) rest why (enough is rest why i) i in
        let s = place 0 (omega arith) en r.eaten in
        let a : o ≡ offset rest = cc in
        let b : n ≡ number_of why (first rest) = cc in
        record { rest = rest; why = why; run = i; goes = enough is rest why i; told = r; at = s; o_is = a ∙ ap offset s.rest_is; n_is = b ∙ ap (λ ts. number_of why (first ts)) s.rest_is }

-- a refusal of another token than a trouble
plain_applies : (is : List Item) (why : Why) (rest : List Tok) → program (suc (length is)) (tokens is) ≡ out_fail rest why → (why ≡ why_gas → ⊥) → (r : Refused (tokens is) rest why)
    → (p : Place 0 is r.pre rest) → Applies is p.i.at (why_number why)
plain_applies is why rest run g r p = by why r.told run g
  where
    t : Tok
    t = tok p.pos p.i

    far : List Tok
    far = tokens_from (suc p.pos) p.back

    eaten : Eaten (t ∷ far) r.pre (tokens is)
    eaten = subst (λ rest. Eaten rest r.pre (tokens is)) p.rest_is r.eaten

    by : (why : Why) → Told why r.pre rest → program (suc (length is)) (tokens is) ≡ out_fail rest why → (why ≡ why_gas → ⊥) → Applies is p.i.at (why_number why)
    by why_bad h run g = wrong r.pre far t (eaten_eq eaten) (begins_within r.live) (refused_bad (suc (length is)) (tokens is) r.pre t far (run ∙ ap (λ rest. out_fail rest why_bad) p.rest_is) eaten)
    by why_deep h run g =
        deep r.pre far t (eaten_eq eaten) r.live (subst (Told why_deep r.pre) p.rest_is h)
        (refused_deep (suc (length is)) (tokens is) r.pre t far (run ∙ ap (λ rest. out_fail rest why_deep) p.rest_is) eaten)
    by why_many h run g =
        let k = subst (Told why_many r.pre) p.rest_is h in
        let l = ltb-false p.pos 2048 k.1 in
        many p.front p.back p.i p.split (omega (arith, p.counts, p.few)) k.2
    by why_gas h run g = absurd (g refl)

applies : (is : List Item) (o n : ℕ) → Ended is → outcome is ≡ refuses o n → Applies is o n
applies is o n en e = subst (λ k. Applies is k n) (sym x.o_is) (subst (Applies is x.at.i.at) (sym x.n_is) (by x.at.i.symbol refl))
  where
    x : Stopped is o n
    x = stopped is o n en e

    plain : Applies is x.at.i.at (why_number x.why)
    plain = plain_applies is x.why x.rest x.run x.goes x.told x.at

    by : (s : Symbol) → x.at.i.symbol ≡ s → Applies is x.at.i.at (number_of x.why s)
    by (name w) q = plain
    by (constant c) q = plain
    by (keyword k) q = plain
    by (mark m) q = plain
    by end q = plain
    by (trouble t) q = lexical x.at.front x.at.i t (x.at.split ∙ ap (λ b. x.at.front ++ (x.at.i ∷ b)) (alone x.at.ended (ap final q))) q

-- two tokens of one list: the second stands before the first, is the first, or stands after it
pub data Order (pre : List Tok) (t : Tok) (rest ahead : List Tok) (u : Tok) (after : List Tok) : Type 0 where
  inside : (more : List Tok) → pre ≡ (ahead ++ (u ∷ [])) ++ more → Order pre t rest ahead u after
  same : pre ≡ ahead → t ≡ u → Order pre t rest ahead u after
  beyond : (more : List Tok) → rest ≡ more ++ (u ∷ after) → Order pre t rest ahead u after

order : (pre ahead : List Tok) (t u : Tok) (rest after : List Tok) → pre ++ (t ∷ rest) ≡ ahead ++ (u ∷ after) → Order pre t rest ahead u after
order [] [] t u rest after e = same refl (cc)
order [] (b ∷ ahead) t u rest after e = beyond ahead (cc)
order (a ∷ pre) [] t u rest after e = let z : a ≡ u = cc in inside pre (ap (λ x. x ∷ pre) z)
order (a ∷ pre) (b ∷ ahead) t u rest after e =
    let z : a ≡ b = cc in
    let y : pre ++ (t ∷ rest) ≡ ahead ++ (u ∷ after) = cc in
    by z (order pre ahead t u rest after y)
  where
    by : a ≡ b → Order pre t rest ahead u after → Order (a ∷ pre) t rest (b ∷ ahead) u after
    by z (inside more e) = inside more (ap (λ x. x ∷ pre) z ∙ ap (λ x. b ∷ x) e)
    by z (same e i) = same (ap (λ x. x ∷ pre) z ∙ ap (λ x. b ∷ x) e) i
    by z (beyond more e) = beyond more e

-- a token before the refused one is counted and not last
eaten_token : {rest pre ts : List Tok} (ahead : List Tok) (u : Tok) (more : List Tok) → Eaten rest pre ts → pre ≡ (ahead ++ (u ∷ [])) ++ more → (final u.symbol ≡ false) × (u.counted ≡ true)
eaten_token [] u more nothing e = absurd cc
eaten_token [] u more (bite {t = t} {pre = pre} f c k) e = let z : t ≡ u = cc in (ap (λ t. final t.symbol) (sym z) ∙ f, ap (λ t. t.counted) (sym z) ∙ c)
eaten_token (a ∷ ahead) u more nothing e = absurd cc
eaten_token (a ∷ ahead) u more (bite {t = t} {pre = pre} f c k) e = let z : pre ≡ (ahead ++ (u ∷ [])) ++ more = cc in eaten_token ahead u more k z

-- offsets rise
later : {i : Item} {back : List Item} → Ended (i ∷ back) → (m : ℕ) (more : List Tok) (u : Tok) (after : List Tok) → tokens_from m back ≡ more ++ (u ∷ after) → i.at < u.at
later (last f) m [] u after e = absurd cc
later (last f) m (a ∷ more) u after e = absurd cc
later (before {i = i} {j = j} {is = is} f l en) m [] u after e = let z : tok m j ≡ u = cc in subst (λ t. i.at < t.at) z l
later (before {j = j} {is = is} f l en) m (a ∷ more) u after e = let z : tokens_from (suc m) is ≡ more ++ (u ∷ after) = cc in let k = later en (suc m) more u after z in omega arith

-- the tokens of items in two parts
tokens_split : (n : ℕ) (front : List Item) (i : Item) (back : List Item) → tokens_from n (front ++ (i ∷ back)) ≡ tokens_from n front ++ (tok (length front + n) i ∷ tokens_from (suc (length front + n)) back)
tokens_split n [] i back = let z : n ≡ 0 + n = omega arith in ap (λ k. tok k i ∷ tokens_from (suc k) back) z
tokens_split n (j ∷ front) i back =
    let z : length front + suc n ≡ suc (length front) + n = omega arith in
    ap (λ ts. tok n j ∷ ts) (tokens_split (suc n) front i back ∙ ap (λ k. tokens_from (suc n) front ++ (tok k i ∷ tokens_from (suc k) back)) z)

trouble_small : (t : Trouble) → trouble_number t ≤ 3
trouble_small NoToken = omega arith
trouble_small OpenComment = omega arith
trouble_small LargeConstant = omega arith

-- the number of a refusal, by what is not so
number_most : (why : Why) (s : Symbol) (n : ℕ) → 3 ≤ n → why_number why ≤ n → number_of why s ≤ n
number_most why (name w) n l h = h
number_most why (constant c) n l h = h
number_most why (keyword k) n l h = h
number_most why (mark m) n l h = h
number_most why end n l h = h
number_most why (trouble t) n l h = omega (arith, trouble_small t)

why_most : (why : Why) → why_number why ≤ 6
why_most why_bad = omega arith
why_most why_deep = omega arith
why_most why_many = omega arith
why_most why_gas = omega arith

least : (is : List Item) (o n at number : ℕ) → Ended is → outcome is ≡ refuses o n → Applies is at number → NoLater o n at number
least is o n at number en e a = by at number a
  where
    x : Stopped is o n
    x = stopped is o n en e

    pre : List Tok
    pre = x.told.pre

    t : Tok
    t = tok x.at.pos x.at.i

    far : List Tok
    far = tokens_from (suc x.at.pos) x.at.back

    eaten : Eaten (t ∷ far) pre (tokens is)
    eaten = subst (λ rest. Eaten rest pre (tokens is)) x.at.rest_is x.told.eaten

    where_is : (ahead : List Tok) (u : Tok) (after : List Tok) → tokens is ≡ ahead ++ (u ∷ after) → Order pre t far ahead u after
    where_is ahead u after e = order pre ahead t u far after (sym (eaten_eq eaten) ∙ e)

    -- at the same token
    here_at : (u : Tok) (k : ℕ) → t ≡ u → n ≤ k → NoLater o n u.at k
    here_at u k z l = let q : u.at ≡ o = ap (λ t. t.at) (sym z) ∙ sym x.o_is in rw q (same_place l)

    -- at a later one
    there : (more : List Tok) (u : Tok) (after : List Tok) (k : ℕ) → far ≡ more ++ (u ∷ after) → NoLater o n u.at k
    there more u after k e = let l = later x.at.ended (suc x.at.pos) more u after e in earlier (omega (arith, x.o_is))

    begun : (ahead : List Tok) (u : Tok) (more : List Tok) → pre ≡ (ahead ++ (u ∷ [])) ++ more → BeginsWithin (ahead ++ (u ∷ []))
    begun ahead u more e = front_within (ahead ++ (u ∷ [])) more (subst BeginsWithin e x.told.live)

    -- the refused token itself begins no program, or not within its depth
    no_four : (why : Why) → Told why pre (t ∷ far) → (BeginsProgram (pre ++ (t ∷ [])) → ⊥) → why_number why ≤ 4
    no_four why_bad h d = omega arith
    no_four why_deep h d = absurd (d h)
    no_four why_many h d = absurd (d (begins_within h.0))
    no_four why_gas h d = absurd h

    no_five : (why : Why) → Told why pre (t ∷ far) → (BeginsWithin (pre ++ (t ∷ [])) → ⊥) → why_number why ≤ 5
    no_five why_bad h d = omega arith
    no_five why_deep h d = omega arith
    no_five why_many h d = absurd (d h.0)
    no_five why_gas h d = absurd h

    told : Told x.why pre (t ∷ far)
    told = subst (Told x.why pre) x.at.rest_is x.told.told

    most : (k : ℕ) → 3 ≤ k → why_number x.why ≤ k → n ≤ k
    most k l h = omega (arith, x.n_is, number_most x.why x.at.i.symbol k l h)

    moved : (P : List Tok → Type 0) (ahead : List Tok) (u : Tok) → pre ≡ ahead → t ≡ u → (P (ahead ++ (u ∷ [])) → ⊥) → P (pre ++ (t ∷ [])) → ⊥
    moved P ahead u e z d h = d (subst P (ap (λ p. p ++ (t ∷ [])) e ∙ ap (λ v. ahead ++ (v ∷ [])) z) h)

    by : (at number : ℕ) → Applies is at number → NoLater o n at number
    by at number (lexical bi i y e s) = on (where_is (tokens_from 0 bi) (tok (length bi + 0) i) [] (ap (tokens_from 0) e ∙ tokens_split 0 bi i []))
      where
        on : Order pre t far (tokens_from 0 bi) (tok (length bi + 0) i) [] → NoLater o n i.at (trouble_number y)
        on (inside more q) = never (sym (ap final s) ∙ (eaten_token (tokens_from 0 bi) (tok (length bi + 0) i) more eaten q).0)
        on (same q z) = here_at (tok (length bi + 0) i) (trouble_number y) z (omega (arith, x.n_is, ap (number_of x.why) (ap (λ t. t.symbol) z ∙ s)))
        on (beyond more q) = there more (tok (length bi + 0) i) [] (trouble_number y) q
    by at number (wrong ahead after u e b d) = on (where_is ahead u after e)
      where
        on : Order pre t far ahead u after → NoLater o n u.at 4
        on (inside more q) = absurd (d (begins_within (begun ahead u more q)))
        on (same q z) = here_at u 4 z (most 4 (omega arith) (no_four x.why told (moved BeginsProgram ahead u q z d)))
        on (beyond more q) = there more u after 4 q
    by at number (deep ahead after u e w b d) = on (where_is ahead u after e)
      where
        on : Order pre t far ahead u after → NoLater o n u.at 5
        on (inside more q) = absurd (d (begun ahead u more q))
        on (same q z) = here_at u 5 z (most 5 (omega arith) (no_five x.why told (moved BeginsWithin ahead u q z d)))
        on (beyond more q) = there more u after 5 q
    by at number (many bi ai i e l f) = on (where_is (tokens_from 0 bi) (tok (length bi + 0) i) (tokens_from (suc (length bi + 0)) ai) (ap (tokens_from 0) e ∙ tokens_split 0 bi i ai))
      where
        on : Order pre t far (tokens_from 0 bi) (tok (length bi + 0) i) (tokens_from (suc (length bi + 0)) ai) → NoLater o n i.at 6
        on (inside more q) = let k = ltb-true (length bi + 0) 2048 (eaten_token (tokens_from 0 bi) (tok (length bi + 0) i) more eaten q).1 in absurd (omega arith)
        on (same q z) = here_at (tok (length bi + 0) i) 6 z (most 6 (omega arith) (why_most x.why))
        on (beyond more q) = there more (tok (length bi + 0) i) (tokens_from (suc (length bi + 0)) ai) 6 q

pub is_right : Right outcome
is_right = record { sound = sound; complete = complete; refused = applies; least = least }
