-- What a refusal of tokens says: a program begins with the tokens before it, and none with it as it stands. Assumes nothing.
use Rattle.std.proofs.Common.{◌≡◌, ℕ, ◌+◌, ◌<◌, Bool, true, false, List, [], ◌∷◌, ◌++◌, sym, refl, ap, ◌∙◌, subst, append_assoc, arith}
use mathlib.Core.List.{append_cancel_right}
use Rattle.script.specs.Tree.{Program}
use Rattle.tokens.specs.Spelling.{end}
use Rattle.tokens.specs.Scan.{final}
use Rattle.grammar.specs.Tokens.{Tok}
use Rattle.grammar.specs.Grammar.{Programs, finished, next_function}
use Rattle.grammar.specs.Refusals as refusal
use Rattle.grammar.specs.Refusals.{SameDepths, SameTokens, BeginsProgram, BeginsWithin}
use Rattle.grammar.specs.Combine.{kind, kind_at, Why, why_bad, why_deep, why_many, why_gas, Out, out_done, out_fail}
use Rattle.grammar.specs.Parse.{program}
use Rattle.grammar.proofs.Symbols.{never}
use Rattle.grammar.proofs.Local.{same, Front, empty, token, Eaten, nothing, bite, Fails, fails, Over, too_deep, too_many, Twin, Lo, done0, done1, bad0, bad1, over, gas, Alive, no_kind, not_end, exact_front, front_nil, reads_exactly, alike_self}
use Rattle.grammar.proofs.Script.{program_good}
use Rattle.grammar.proofs.Sound.{Functions, no_function, one_function, Whole, derived}
use Rattle.grammar.proofs.Complete.{Gives}
use Rattle.grammar.proofs.Reading.{program_complete}

-- programs, and functions up to an end that is last
pub closes : {ts rest : List Tok} {p : Program} {t : Tok} → Functions ts p rest → rest ≡ t ∷ [] → t.symbol ≡ end → Programs ts p
closes no_function e s = rw e (finished s)
closes (one_function k l) e s = next_function k (closes l e s)

pub record Closed (ts : List Tok) (p : Program) : Type 0 where
  pub t : Tok
  pub whole : Whole ts p (t ∷ [])

pub closed : {ts : List Tok} {p : Program} → Programs ts p → Closed ts p
closed (finished {t = t} s) = record { t = t; whole = record { all = no_function; end = ap kind s } }
closed (next_function k l) = let r = closed l in record { t = r.t; whole = record { all = one_function k r.whole.all; end = r.whole.end } }

-- what any program's tokens are read as
pub record Read (ts : List Tok) (p : Program) : Type 0 where
  pub rest : List Tok
  pub gives : Gives (λ g. program g) ts p rest

pub read : {ts : List Tok} {p : Program} → Programs ts p → Read ts p
read w = let r = closed w in record { rest = r.t ∷ []; gives = program_complete r.whole }

-- an end to put after a completion
abbrev fin : Tok
fin = record { symbol = end; at = 0; deepest = 0; counted = false }

reads_to : (G : ℕ) (ts : List Tok) (p : Program) → program G ts ≡ out_done p (fin ∷ []) → Programs ts p
reads_to G ts p e = closes (derived ts p (fin ∷ []) G e).all refl refl

pub not_read : {X : Type 0} {o : Out X} {x : X} {z : List Tok} → Fails o → o ≡ out_done x z → ⊥
not_read (fails f) e = cc

-- fronts
pub eaten_front : {s : Bool} {rest pre ts : List Tok} → Eaten rest pre ts → Front s rest pre ts
eaten_front nothing = empty
eaten_front {s = s} (bite {t = t} n c e) = token (alike_self s t) (eaten_front e)

pub eaten_eq : {rest pre ts : List Tok} → Eaten rest pre ts → ts ≡ pre ++ rest
eaten_eq nothing = refl
eaten_eq (bite {t = t} n c e) = ap (λ ts. t ∷ ts) (eaten_eq e)

one_way : {rest pre mid ts : List Tok} → Eaten rest pre ts → Eaten rest mid ts → pre ≡ mid
one_way {rest = rest} {pre = pre} {mid = mid} a b = append_cancel_right pre mid rest (sym (eaten_eq a) ∙ eaten_eq b)

depths_self : (ts : List Tok) → SameDepths ts ts
depths_self [] = refusal.none
depths_self (t ∷ ts) = refusal.more refl refl refl (depths_self ts)

same_last : (pre : List Tok) (t u : Tok) → u.symbol ≡ t.symbol → u.at ≡ t.at → SameTokens (pre ++ (t ∷ [])) (pre ++ (u ∷ []))
same_last [] t u e i = refusal.more e i refusal.none
same_last (v ∷ pre) t u e i = refusal.more refl refl (same_last pre t u e i)

depths_last : (pre : List Tok) (t u : Tok) → u.symbol ≡ t.symbol → u.at ≡ t.at → u.deepest ≡ t.deepest → SameDepths (pre ++ (t ∷ [])) (pre ++ (u ∷ []))
depths_last [] t u e i d = refusal.more e i d refusal.none
depths_last (v ∷ pre) t u e i d = refusal.more refl refl refl (depths_last pre t u e i d)

same_depths : {ts us : List Tok} → SameDepths ts us → SameTokens ts us
same_depths refusal.none = refusal.none
same_depths (refusal.more e i d r) = refusal.more e i (same_depths r)

pub begins_within : {ts : List Tok} → BeginsWithin ts → BeginsProgram ts
begins_within w = record { like = w.like; same = same_depths w.same; rest = w.rest; program = w.program; is = w.is }

-- a front of what a program begins with
pub record CutDepths (a b like : List Tok) : Type 0 where
  pub one : List Tok
  pub two : List Tok
  pub is : like ≡ one ++ two
  pub same : SameDepths a one

cut_depths : (a b : List Tok) {like : List Tok} → SameDepths (a ++ b) like → CutDepths a b like
cut_depths [] b {like = like} s = record { one = []; two = like; is = refl; same = refusal.none }
cut_depths (t ∷ a) b (refusal.more {u = u} e i d r) = let c = cut_depths a b r in record { one = u ∷ c.one; two = c.two; is = ap (λ us. u ∷ us) c.is; same = refusal.more e i d c.same }

pub front_within : (a b : List Tok) → BeginsWithin (a ++ b) → BeginsWithin a
front_within a b w =
    let c = cut_depths a b w.same in
    record { like = c.one; same = c.same; rest = c.two ++ w.rest; program = w.program; is = subst (λ ts. Programs ts w.program) (ap (λ us. us ++ w.rest) c.is ∙ append_assoc c.one c.two w.rest) w.is }

-- tokens like pre and t, and then z: t's double stands after a front like pre
pub record Double (pre : List Tok) (t : Tok) (all z : List Tok) : Type 0 where
  pub v : Tok
  pub symbol : v.symbol ≡ t.symbol
  pub front : Front false (v ∷ z) pre all

double : (pre : List Tok) (t : Tok) {like : List Tok} (z : List Tok) → SameTokens (pre ++ (t ∷ [])) like → Double pre t (like ++ z) z
double [] t z (refusal.more {u = u} e i refusal.none) = record { v = u; symbol = e; front = empty }
double (s ∷ pre) t z (refusal.more {u = u} e i r) = let d = double pre t z r in record { v = d.v; symbol = d.symbol; front = token (record { symbol = e; at = i; self = λ k. never (sym k) }) d.front }

pub record Deepened (pre : List Tok) (t : Tok) (all z : List Tok) : Type 0 where
  pub v : Tok
  pub symbol : v.symbol ≡ t.symbol
  pub deepest : v.deepest ≡ t.deepest
  pub front : Front false (v ∷ z) pre all

deepened : (pre : List Tok) (t : Tok) {like : List Tok} (z : List Tok) → SameDepths (pre ++ (t ∷ [])) like → Deepened pre t (like ++ z) z
deepened [] t z (refusal.more {u = u} e i d refusal.none) = record { v = u; symbol = e; deepest = d; front = empty }
deepened (s ∷ pre) t z (refusal.more {u = u} e i k r) = let d = deepened pre t z r in record { v = d.v; symbol = d.symbol; deepest = d.deepest; front = token (record { symbol = e; at = i; self = λ k. never (sym k) }) d.front }

-- what an outcome says of reading with more gas
more_gas : (g G : ℕ) → g + 1 < G → {ts : List Tok} {o : Out Program} → program g ts ≡ o → Lo not_end (program G) ts false o
more_gas g G l {ts = ts} e = subst (Lo not_end (program G) ts false) e ((program_good g G l).lo ts)

-- no program begins with a refused token, whatever the limits of those before it
dead_bad : (g : ℕ) (ts pre rest : List Tok) → program g ts ≡ out_fail rest why_bad → Eaten rest pre ts → (z all : List Tok) (p : Program) → Front false z pre all → kind_at z ≡ kind_at rest → Programs all p → ⊥
dead_bad g ts pre rest e i z all p f k w = by (more_gas g G (omega arith) e) refl i k
  where
    r : Gives (λ g. program g) all p (read w).rest
    r = (read w).gives

    G : ℕ
    G = r.gas + g + 2

    by : {out : List Tok} {why : Why} → Lo not_end (program G) ts false (out_fail out why) → why ≡ why_bad → Eaten out pre ts → kind_at z ≡ kind_at out → ⊥
    by (bad0 h) y i k =
        let n : pre ≡ [] = one_way i nothing in
        let q : all ≡ z = front_nil (subst (λ us. Front false z us all) n f) in
        not_read (h z k) (subst (λ us. program G us ≡ out_done p (read w).rest) q (r.is G (omega arith)))
    by (bad1 t mid c x j h m) y i k =
        let n : pre ≡ t ∷ mid = one_way i j in
        not_read (h z all (subst (λ us. Front false z us all) n f) k) (r.is G (omega arith))
    by (over mid c x u j (too_deep s a) h m) y i k = cc
    by (over mid c x u j (too_many s a b n l) h m) y i k = cc
    by gas y i k = cc

dead_deep : (g : ℕ) (ts pre : List Tok) (t : Tok) (rest : List Tok) → program g ts ≡ out_fail (t ∷ rest) why_deep → Eaten (t ∷ rest) pre ts → (v : Tok) (z all : List Tok) (p : Program)
    → Front false (v ∷ z) pre all → v.symbol ≡ t.symbol → v.deepest ≡ t.deepest → Programs all p → ⊥
dead_deep g ts pre t rest e i v z all p f s d w = by (more_gas g G (omega arith) e) refl refl i
  where
    r : Gives (λ g. program g) all p (read w).rest
    r = (read w).gives

    G : ℕ
    G = r.gas + g + 2

    by : {out : List Tok} {why : Why} → Lo not_end (program G) ts false (out_fail out why) → out ≡ t ∷ rest → why ≡ why_deep → Eaten out pre ts → ⊥
    by (bad0 h) q y i = cc
    by (bad1 a mid c x j h m) q y i = cc
    by (over {t = a} {rest = more} mid c x u j o h m) q y i =
        let n : pre ≡ mid = one_way i j in
        let k : t ≡ a = cc in
        not_read (h v z all (subst (λ us. Front false (v ∷ z) us all) n f) (s ∙ ap (λ t. t.symbol) k) (subst (λ y. Twin y a v) (sym y) (d ∙ ap (λ t. t.deepest) k))) (r.is G (omega arith))
    by gas q y i = cc

pub refused_bad : (g : ℕ) (ts pre : List Tok) (t : Tok) (rest : List Tok) → program g ts ≡ out_fail (t ∷ rest) why_bad → Eaten (t ∷ rest) pre ts → BeginsProgram (pre ++ (t ∷ [])) → ⊥
refused_bad g ts pre t rest e i b = let d = double pre t b.rest b.same in dead_bad g ts pre (t ∷ rest) e i (d.v ∷ b.rest) (b.like ++ b.rest) b.program d.front (ap kind d.symbol) b.is

pub refused_deep : (g : ℕ) (ts pre : List Tok) (t : Tok) (rest : List Tok) → program g ts ≡ out_fail (t ∷ rest) why_deep → Eaten (t ∷ rest) pre ts → BeginsWithin (pre ++ (t ∷ [])) → ⊥
refused_deep g ts pre t rest e i b = let d = deepened pre t b.rest b.same in dead_deep g ts pre t rest e i d.v b.rest (b.like ++ b.rest) b.program d.front d.symbol d.deepest b.is

-- what else a refusal tells of its token
abbrev pub Told : Why → List Tok → List Tok → Type 0
Told why_bad pre rest = Unit {0}
Told why_deep pre [] = ⊥
Told why_deep pre (t ∷ rest) = BeginsProgram (pre ++ (t ∷ []))
Told why_many pre [] = ⊥
Told why_many pre (t ∷ rest) = BeginsWithin (pre ++ (t ∷ [])) × (t.counted ≡ false) × (final t.symbol ≡ false)
Told why_gas pre rest = ⊥

pub record Refused (ts rest : List Tok) (why : Why) : Type 0 where
  pub pre : List Tok
  pub eaten : Eaten rest pre ts
  pub live : BeginsWithin pre
  pub told : Told why pre rest

-- pre and a completion are a program
alive : (G : ℕ) (pre c all : List Tok) (p : Program) → all ≡ pre ++ c → program G all ≡ out_done p (fin ∷ []) → BeginsWithin pre
alive G pre c all p q e = record { like = pre; same = depths_self pre; rest = c; program = p; is = subst (λ ts. Programs ts p) q (reads_to G all p e) }

refused_by : (G : ℕ) (ts rest : List Tok) (why : Why) → (why ≡ why_gas → ⊥) → Alive false no_kind not_end (program G) → Lo not_end (program G) ts false (out_fail rest why) → Refused ts rest why
refused_by G ts rest why n a (bad0 h) = record { pre = []; eaten = nothing; live = alive G [] (a.c ++ (fin ∷ [])) (a.c ++ (fin ∷ [])) a.x refl (a.reads (fin ∷ []) refl); told = tt }
refused_by G ts rest why n a (bad1 t pre c x e h g) =
    record {
      pre = t ∷ pre;
      eaten = e;
      live = alive G (t ∷ pre) (c ++ (fin ∷ [])) ((t ∷ pre) ++ (c ++ (fin ∷ []))) x refl (g (fin ∷ []) ((t ∷ pre) ++ (c ++ (fin ∷ []))) (exact_front (t ∷ pre) (c ++ (fin ∷ [])) true) refl);
      told = tt;
    }
refused_by G ts rest why n a (over {t = t} {rest = more} pre c x u e o h g) = by o
  where
    all : List Tok
    all = pre ++ (u ∷ (c ++ (fin ∷ [])))

    is : program G all ≡ out_done x (fin ∷ [])
    is = g (fin ∷ []) all (exact_front pre (u ∷ (c ++ (fin ∷ []))) true) refl

    whole : Programs ((pre ++ (u ∷ [])) ++ (c ++ (fin ∷ []))) x
    whole = subst (λ ts. Programs ts x) (sym (append_assoc pre (u ∷ []) (c ++ (fin ∷ [])))) (reads_to G all x is)

    by : {why : Why} → Over t u why → Refused ts (t ∷ more) why
    by (too_deep s i) =
        record { pre = pre; eaten = e; live = alive G pre (u ∷ (c ++ (fin ∷ []))) all x refl is; told = record { like = pre ++ (u ∷ []); same = same_last pre t u s i; rest = c ++ (fin ∷ []); program = x; is = whole } }
    by (too_many s i d k f) =
        record {
          pre = pre;
          eaten = e;
          live = alive G pre (u ∷ (c ++ (fin ∷ []))) all x refl is;
          told = (record { like = pre ++ (u ∷ []); same = depths_last pre t u s i d; rest = c ++ (fin ∷ []); program = x; is = whole }, k, f);
        }
refused_by G ts rest why n a gas = absurd (n refl)

pub refused : (g : ℕ) (ts rest : List Tok) (why : Why) → (why ≡ why_gas → ⊥) → program g ts ≡ out_fail rest why → Refused ts rest why
refused g ts rest why n e = refused_by (g + 2) ts rest why n (program_good g (g + 2) (omega arith)).alive (more_gas g (g + 2) (omega arith) e)

-- with more gas the outcome is the same
twin_self : {t u : Tok} {why : Why} → Over t u why → Twin why t t
twin_self (too_deep s i) = refl
twin_self (too_many s i d k f) = refl

pub fails_more : (g G : ℕ) → g + 1 < G → (ts rest : List Tok) (why : Why) → (why ≡ why_gas → ⊥) → program g ts ≡ out_fail rest why → Fails (program G ts)
fails_more g G l ts rest why n e = by n (more_gas g G l e)
  where
    by : {rest : List Tok} {why : Why} → (why ≡ why_gas → ⊥) → Lo not_end (program G) ts false (out_fail rest why) → Fails (program G ts)
    by n (bad0 h) = h ts refl
    by {rest = rest} n (bad1 t pre c x i h g) = h rest ts (eaten_front i) refl
    by n (over {t = t} {rest = more} pre c x u i o h g) = h t more ts (eaten_front i) refl (twin_self o)
    by n gas = absurd (n refl)

pub done_more : (g G : ℕ) → g + 1 < G → (ts rest : List Tok) (p : Program) → program g ts ≡ out_done p rest → program G ts ≡ out_done p rest
done_more g G l ts rest p e = by (more_gas g G l e)
  where
    by : {rest : List Tok} {p : Program} → Lo not_end (program G) ts false (out_done p rest) → program G ts ≡ out_done p rest
    by (done0 h) = h ts (same refl)
    by {rest = rest} (done1 t pre i h) = reads_exactly (h true rest ts (eaten_front i) (same refl))

-- what was read was eaten
pub record Eats (rest ts : List Tok) : Type 0 where
  pub pre : List Tok
  pub eaten : Eaten rest pre ts

pub done_eats : (g : ℕ) (ts rest : List Tok) (p : Program) → program g ts ≡ out_done p rest → Eats rest ts
done_eats g ts rest p e = by (more_gas g (g + 2) (omega arith) e)
  where
    by : {rest : List Tok} {p : Program} → Lo not_end (program (g + 2)) ts false (out_done p rest) → Eats rest ts
    by (done0 h) = record { pre = []; eaten = nothing }
    by (done1 t pre i h) = record { pre = t ∷ pre; eaten = i }
