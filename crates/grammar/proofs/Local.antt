-- A reader looks no further than the token at which it stops, and what it has read can be completed. Assumes nothing.
use Rattle.std.proofs.Common.{◌≡◌, ℕ, zero, suc, ◌<◌, Bool, true, false, cond, eqb, ltb, ◌⊎◌, List, [], ◌∷◌, ◌++◌, sym, refl, ap, ◌∙◌, inl, inr, append_assoc, arith, le-ltb, eq-eqb, ne_eqb, eqb-true, not}
use Rattle.std.proofs.lemmas.Bool.{not-false, cond-true, cond-false}
use Rattle.tokens.specs.declared.types.Mark.{Mark}
use Rattle.tokens.specs.declared.types.Mark.TheVariants as sign
use Rattle.tokens.specs.Spelling.{Symbol, mark, Item, item}
use Rattle.tokens.specs.Scan.{final}
use Rattle.grammar.specs.Tokens.{Tok, offset}
use Rattle.grammar.specs.Combine.{kind, kind_at, is, Why, why_bad, why_deep, why_many, why_gas, Out, out_done, out_fail, Parser, next, after, from, ret, bad, no_more, bare, on, want, peek, loop, many, separated, ends}
use Rattle.grammar.proofs.Symbols.{never, Sharp, goes_on, mark_sharp}

-- the same kind of token stands there, or one that nothing of Q goes on with
pub data Near (Q : ℕ → Bool) (a b : List Tok) : Type 0 where
  same : kind_at b ≡ kind_at a → Near Q a b
  stop : Q (kind_at b) ≡ false → Near Q a b

-- the same token but for its limits; where s is true, with them
pub record Alike (s : Bool) (t u : Tok) : Type 0 where
  pub symbol : u.symbol ≡ t.symbol
  pub at : u.at ≡ t.at
  pub self : s ≡ true → u ≡ t

-- all is pre, but for limits, and then z
pub data Front (s : Bool) (z : List Tok) : List Tok → List Tok → Type 0 where
  empty : Front s z [] z
  token : {t u : Tok} {pre all : List Tok} → Alike s t u → Front s z pre all → Front s z (t ∷ pre) (u ∷ all)

-- ts is pre, of tokens that are counted and not last, and then rest
pub data Eaten (rest : List Tok) : List Tok → List Tok → Type 0 where
  nothing : Eaten rest [] rest
  bite : {t : Tok} {pre ts : List Tok} → final t.symbol ≡ false → t.counted ≡ true → Eaten rest pre ts → Eaten rest (t ∷ pre) (t ∷ ts)

pub data Fails {X : Type 0} (o : Out X) : Type 0 where
  fails : {rest : List Tok} {why : Why} → o ≡ out_fail rest why → Fails o

-- x is read; where limits may be lower, it may also fail
pub data Gets {X : Type 0} (s : Bool) (o : Out X) (x : X) (z : List Tok) : Type 0 where
  exactly : o ≡ out_done x z → Gets s o x z
  limited : s ≡ false → Fails o → Gets s o x z

-- u is the token t with the limit that it breaks raised
pub data Over (t u : Tok) : Why → Type 0 where
  too_deep : u.symbol ≡ t.symbol → u.at ≡ t.at → Over t u why_deep
  too_many : u.symbol ≡ t.symbol → u.at ≡ t.at → u.deepest ≡ t.deepest → t.counted ≡ false → final t.symbol ≡ false → Over t u why_many

-- v has the same limit
abbrev pub Twin : Why → Tok → Tok → Type 0
Twin why_bad t v = ⊥
Twin why_deep t v = v.deepest ≡ t.deepest
Twin why_many t v = v.counted ≡ t.counted
Twin why_gas t v = ⊥

-- P is the reader p with more gas; o is what p makes of ts; the Bool: it reads a token at least
pub data Lo {X : Type 0} (Q : ℕ → Bool) (P : Parser X) (ts : List Tok) : Bool → Out X → Type 0 where
  done0 : {x : X} → ((z : List Tok) → Near Q ts z → P z ≡ out_done x z) → Lo Q P ts false (out_done x ts)
  done1 : {w : Bool} {x : X} {rest : List Tok} (t : Tok) (pre : List Tok) → Eaten rest (t ∷ pre) ts
      → ((s : Bool) (z all : List Tok) → Front s z (t ∷ pre) all → Near Q rest z → Gets s (P all) x z) → Lo Q P ts w (out_done x rest)
  bad0 : {w : Bool} → ((z : List Tok) → kind_at z ≡ kind_at ts → Fails (P z)) → Lo Q P ts w (out_fail ts why_bad)
  bad1 : {w : Bool} {rest : List Tok} (t : Tok) (pre c : List Tok) (x : X) → Eaten rest (t ∷ pre) ts
      → ((z all : List Tok) → Front false z (t ∷ pre) all → kind_at z ≡ kind_at rest → Fails (P all))
      → ((z all : List Tok) → Front true (c ++ z) (t ∷ pre) all → Q (kind_at z) ≡ false → P all ≡ out_done x z) → Lo Q P ts w (out_fail rest why_bad)
  over : {w : Bool} {t : Tok} {rest : List Tok} {why : Why} (pre c : List Tok) (x : X) (u : Tok) → Eaten (t ∷ rest) pre ts → Over t u why
      → ((v : Tok) (z all : List Tok) → Front false (v ∷ z) pre all → v.symbol ≡ t.symbol → Twin why t v → Fails (P all))
      → ((z all : List Tok) → Front true (u ∷ (c ++ z)) pre all → Q (kind_at z) ≡ false → P all ≡ out_done x z) → Lo Q P ts w (out_fail (t ∷ rest) why)
  gas : {w : Bool} {rest : List Tok} → Lo Q P ts w (out_fail rest why_gas)

-- some text is read, whose first token is none that S goes on with; where w is true, it has a first token, at this offset
pub record Alive {X : Type 0} (w : Bool) (S Q : ℕ → Bool) (P : Parser X) : Type 0 where
  pub c : List Tok
  pub x : X
  pub at : ℕ
  pub begins : w ≡ true → (z : List Tok) → offset (c ++ z) ≡ at
  pub reads : (z : List Tok) → Q (kind_at z) ≡ false → P (c ++ z) ≡ out_done x z
  pub first : (z : List Tok) → Q (kind_at z) ≡ false → S (kind_at (c ++ z)) ≡ false

-- what Q stops, S stops
pub record Less (S Q : ℕ → Bool) : Type 0 where
  pub so : (k : ℕ) → Q k ≡ false → S k ≡ false

abbrev pub no_kind : ℕ → Bool
no_kind k = false

-- outcomes
pub fails_by : {X : Type 0} {a b : Out X} → a ≡ b → Fails b → Fails a
fails_by e (fails f) = fails (e ∙ f)

pub next_fails : {X Y : Type 0} {o : Out X} (F : X → Parser Y) → Fails o → Fails (next o F)
next_fails F (fails f) = fails (ap (λ o. next o F) f)

pub gets_by : {X : Type 0} {s : Bool} {a b : Out X} {x : X} {z : List Tok} → a ≡ b → Gets s b x z → Gets s a x z
gets_by e (exactly f) = exactly (e ∙ f)
gets_by e (limited i f) = limited i (fails_by e f)

pub gets_next : {X Y : Type 0} {s : Bool} {o : Out X} {x : X} {mid : List Tok} {y : Y} {z : List Tok} (F : X → Parser Y) → Gets s o x mid → Gets s (F x mid) y z → Gets s (next o F) y z
gets_next F (exactly e) g = gets_by (ap (λ o. next o F) e) g
gets_next F (limited i f) g = limited i (next_fails F f)

pub gets_fails : {X Y : Type 0} {s : Bool} {o : Out X} {x : X} {mid : List Tok} (F : X → Parser Y) → Gets s o x mid → Fails (F x mid) → Fails (next o F)
gets_fails F (exactly e) f = fails_by (ap (λ o. next o F) e) f
gets_fails F (limited i f) g = next_fails F f

pub reads_exactly : {X : Type 0} {o : Out X} {x : X} {z : List Tok} → Gets true o x z → o ≡ out_done x z
reads_exactly (exactly e) = e
reads_exactly (limited i f) = never i

-- fronts
pub record Split (s : Bool) (z pre mid all : List Tok) : Type 0 where
  pub far : List Tok
  pub one : Front s far pre all
  pub two : Front s z mid far

pub split : {s : Bool} {z all : List Tok} (pre mid : List Tok) → Front s z (pre ++ mid) all → Split s z pre mid all
split [] mid f = record { far = _; one = empty; two = f }
split (t ∷ pre) mid (token a f) = let r = split pre mid f in record { far = r.far; one = token a r.one; two = r.two }

pub eaten_on : {mid rest pre ts more : List Tok} → Eaten mid pre ts → Eaten rest more mid → Eaten rest (pre ++ more) ts
eaten_on nothing f = f
eaten_on (bite n c e) f = bite n c (eaten_on e f)

pub alike_self : (s : Bool) (t : Tok) → Alike s t t
alike_self s t = record { symbol = refl; at = refl; self = λ e. refl }

pub exact_front : (pre z : List Tok) (s : Bool) → Front s z pre (pre ++ z)
exact_front [] z s = empty
exact_front (t ∷ pre) z s = token (alike_self s t) (exact_front pre z s)

front_kind : {s : Bool} {ts rest pre z all : List Tok} {t : Tok} → Eaten rest (t ∷ pre) ts → Front s z (t ∷ pre) all → kind_at all ≡ kind_at ts
front_kind (bite n c e) (token a f) = ap kind a.symbol

front_offset : {s : Bool} {ts rest pre z all : List Tok} {t : Tok} → Eaten rest (t ∷ pre) ts → Front s z (t ∷ pre) all → offset all ≡ offset ts
front_offset (bite n c e) (token a f) = a.at

head_kind : {s : Bool} {ts rest pre z all : List Tok} {t v : Tok} → Eaten (t ∷ rest) pre ts → Front s (v ∷ z) pre all → v.symbol ≡ t.symbol → kind_at all ≡ kind_at ts
head_kind nothing empty e = ap kind e
head_kind (bite n c i) (token a f) e = ap kind a.symbol

head_offset : {s : Bool} {ts rest pre z all : List Tok} {t v : Tok} → Eaten (t ∷ rest) pre ts → Front s (v ∷ z) pre all → v.at ≡ t.at → offset all ≡ offset ts
head_offset nothing empty e = e
head_offset (bite n c i) (token a f) e = a.at

pub over_symbol : {t u : Tok} {why : Why} → Over t u why → u.symbol ≡ t.symbol
over_symbol (too_deep e i) = e
over_symbol (too_many e i f c n) = e

pub over_at : {t u : Tok} {why : Why} → Over t u why → u.at ≡ t.at
over_at (too_deep e i) = i
over_at (too_many e i f c n) = i

-- what goes on
pub nearer : {S Q : ℕ → Bool} {a b : List Tok} → Less S Q → Near Q a b → Near S a b
nearer l (same e) = same e
nearer l (stop e) = stop (l.so _ e)

pub looser : {X : Type 0} {Q : ℕ → Bool} {P : Parser X} {ts : List Tok} {w : Bool} {o : Out X} → Lo Q P ts w o → Lo Q P ts false o
looser (done0 h) = done0 h
looser (done1 t pre e h) = done1 t pre e h
looser (bad0 h) = bad0 h
looser (bad1 t pre c x e h g) = bad1 t pre c x e h g
looser (over pre c x u e r k h) = over pre c x u e r k h
looser gas = gas

-- a larger set of tokens that go on
pub wider : {X : Type 0} {S Q : ℕ → Bool} {P : Parser X} {ts : List Tok} {w : Bool} {o : Out X} → Less S Q → Lo S P ts w o → Lo Q P ts w o
wider l (done0 h) = done0 (λ z n. h z (nearer l n))
wider l (done1 t pre e h) = done1 t pre e (λ s z all f n. h s z all f (nearer l n))
wider l (bad0 h) = bad0 h
wider l (bad1 t pre c x e h g) = bad1 t pre c x e h (λ z all f q. g z all f (l.so _ q))
wider l (over pre c x u e r k h) = over pre c x u e r k (λ z all f q. h z all f (l.so _ q))
wider l gas = gas

-- a test that fails at ts fails at what is near it
stays : {test Q : ℕ → Bool} {ts : List Tok} → test (kind_at ts) ≡ false → Less test Q → (z : List Tok) → Near Q ts z → test (kind_at z) ≡ false
stays {test = test} h l z (same e) = ap test e ∙ h
stays h l z (stop e) = l.so _ e

-- R is P wherever the kind of token at ts stands, and where P may read nothing also where Q stops
along : {X : Type 0} {Q : ℕ → Bool} {P R : Parser X} {w : Bool} {ts : List Tok} {o : Out X} → ((z : List Tok) → kind_at z ≡ kind_at ts → R z ≡ P z)
    → (w ≡ false → (z : List Tok) → Near Q ts z → R z ≡ P z) → Lo Q P ts w o → Lo Q R ts w o
along b n (done0 f) = done0 (λ z i. n refl z i ∙ f z i)
along b n (done1 t pre e f) = done1 t pre e (λ s z all r i. gets_by (b all (front_kind e r)) (f s z all r i))
along b n (bad0 f) = bad0 (λ z i. fails_by (b z i) (f z i))
along b n (bad1 t pre c x e f g) = bad1 t pre c x e (λ z all r i. fails_by (b all (front_kind e r)) (f z all r i)) (λ z all r i. b all (front_kind e r) ∙ g z all r i)
along b n (over pre c x u e r k f) =
    over pre c x u e r (λ v z all i j w. fails_by (b all (head_kind e i j)) (k v z all i j w)) (λ z all i j. b all (head_kind e i (over_symbol r)) ∙ f z all i j)
along b n gas = gas

-- ret and bad
pub ret_lo : {X : Type 0} {Q : ℕ → Bool} (x : X) (ts : List Tok) → Lo Q (ret x) ts false (out_done x ts)
ret_lo x ts = done0 (λ z n. refl)

pub bad_lo : {X : Type 0} {Q : ℕ → Bool} {w : Bool} (ts : List Tok) → Lo {X = X} Q bad ts w (out_fail ts why_bad)
bad_lo ts = bad0 (λ z e. fails refl)

-- no token is needed for x to be read
empty_alive : {X : Type 0} {S Q : ℕ → Bool} {P : Parser X} (x : X) → ((z : List Tok) → Q (kind_at z) ≡ false → P z ≡ out_done x z) → Less S Q → Alive false S Q P
empty_alive x r l = record { c = []; x = x; at = 0; begins = λ e. never (sym e); reads = r; first = λ z q. l.so _ q }

pub ret_alive : {X : Type 0} {S Q : ℕ → Bool} (x : X) → Less S Q → Alive false S Q (ret x)
ret_alive x l = empty_alive x (λ z q. refl) l

-- on
pub on_else : {X : Type 0} (d : ℕ) (test : ℕ → Bool) (p : Item → Parser X) (q : Parser X) (ts : List Tok) → Sharp test → test (kind_at ts) ≡ false → on d test p q ts ≡ q ts
unfolding on
on_else d test p q [] z h = refl
on_else d test p q (t ∷ ts) z h = rw h refl

pub on_it : {X : Type 0} (d : ℕ) (test : ℕ → Bool) (p : Item → Parser X) (q : Parser X) (t : Tok) (ts : List Tok) → test (kind t.symbol) ≡ true → ltb t.deepest d ≡ false → t.counted ≡ true
    → on d test p q (t ∷ ts) ≡ p (bare t) ts
unfolding on
on_it d test p q t ts h i c = rw (h, i, c) refl

on_deep : {X : Type 0} (d : ℕ) (test : ℕ → Bool) (p : Item → Parser X) (q : Parser X) (t : Tok) (ts : List Tok) → test (kind t.symbol) ≡ true → ltb t.deepest d ≡ true → on d test p q (t ∷ ts) ≡ out_fail (t ∷ ts) why_deep
unfolding on
on_deep d test p q t ts h i = rw (h, i) refl

on_many : {X : Type 0} (d : ℕ) (test : ℕ → Bool) (p : Item → Parser X) (q : Parser X) (t : Tok) (ts : List Tok) → test (kind t.symbol) ≡ true → ltb t.deepest d ≡ false → t.counted ≡ false
    → on d test p q (t ∷ ts) ≡ out_fail (t ∷ ts) why_many
unfolding on
on_many d test p q t ts h i c = rw (h, i, c) refl

alike_bare : {s : Bool} {t u : Tok} → Alike s t u → bare u ≡ bare t
alike_bare {t = t} {u = u} a = ap (λ s. item s u.at) a.symbol ∙ ap (λ i. item t.symbol i) a.at

module _ {X : Type 0} (d : ℕ) (test : ℕ → Bool) (P : Item → Parser X) (R : Parser X) where
  -- a token that passes the test is taken, or breaks a limit
  on_case : (u : Tok) (all : List Tok) → test (kind u.symbol) ≡ true → Fails (on d test P R (u ∷ all)) ⊎ (on d test P R (u ∷ all) ≡ P (bare u) all)
  on_case u all h = by (ltb u.deepest d) refl u.counted refl
    where
      by : (b : Bool) → ltb u.deepest d ≡ b → (c : Bool) → u.counted ≡ c → Fails (on d test P R (u ∷ all)) ⊎ (on d test P R (u ∷ all) ≡ P (bare u) all)
      by true i c j = inl (fails (on_deep d test P R u all h i))
      by false i false j = inl (fails (on_many d test P R u all h i j))
      by false i true j = inr (on_it d test P R u all h i j)

  alike_test : {s : Bool} {t u : Tok} → test (kind t.symbol) ≡ true → Alike s t u → test (kind u.symbol) ≡ true
  alike_test h a = ap (λ s. test (kind s)) a.symbol ∙ h

  taken_gets : (s : Bool) (t u : Tok) (all : List Tok) {x : X} {z : List Tok} → test (kind t.symbol) ≡ true → ltb t.deepest d ≡ false → t.counted ≡ true → Alike s t u
      → Gets s (P (bare t) all) x z → Gets s (on d test P R (u ∷ all)) x z
  taken_gets true t u all h i c a g = gets_by (ap (λ v. on d test P R (v ∷ all)) (a.self refl) ∙ on_it d test P R t all h i c) g
  taken_gets false t u all {x = x} {z = z} h i c a g = by (on_case u all (alike_test h a))
    where
      by : Fails (on d test P R (u ∷ all)) ⊎ (on d test P R (u ∷ all) ≡ P (bare u) all) → Gets false (on d test P R (u ∷ all)) x z
      by (inl f) = limited refl f
      by (inr e) = gets_by (e ∙ ap (λ i. P i all) (alike_bare a)) g

  taken_fails : {s : Bool} (t u : Tok) (all : List Tok) → test (kind t.symbol) ≡ true → Alike s t u → Fails (P (bare t) all) → Fails (on d test P R (u ∷ all))
  taken_fails t u all h a f = by (on_case u all (alike_test h a))
    where
      by : Fails (on d test P R (u ∷ all)) ⊎ (on d test P R (u ∷ all) ≡ P (bare u) all) → Fails (on d test P R (u ∷ all))
      by (inl f) = f
      by (inr e) = fails_by (e ∙ ap (λ i. P i all) (alike_bare a)) f

  gets_front : (s : Bool) (t : Tok) (pre z : List Tok) {all : List Tok} {x : X} → test (kind t.symbol) ≡ true → ltb t.deepest d ≡ false → t.counted ≡ true → Front s z (t ∷ pre) all
      → ((all : List Tok) → Front s z pre all → Gets s (P (bare t) all) x z) → Gets s (on d test P R all) x z
  gets_front s t pre z h i c (token {u = u} {all = all} a r) g = taken_gets s t u all h i c a (g all r)

  fails_front : (t : Tok) (pre z : List Tok) {all : List Tok} → test (kind t.symbol) ≡ true → Front false z (t ∷ pre) all → ((all : List Tok) → Front false z pre all → Fails (P (bare t) all))
      → Fails (on d test P R all)
  fails_front t pre z h (token {u = u} {all = all} a r) g = taken_fails t u all h a (g all r)

  is_front : (t : Tok) (pre y : List Tok) {all : List Tok} {x : X} {z : List Tok} → test (kind t.symbol) ≡ true → ltb t.deepest d ≡ false → t.counted ≡ true → Front true y (t ∷ pre) all
      → ((all : List Tok) → Front true y pre all → P (bare t) all ≡ out_done x z) → on d test P R all ≡ out_done x z
  is_front t pre y h i c (token {u = u} {all = all} a r) g = reads_exactly (taken_gets true t u all h i c a (exactly (g all r)))

pub front_nil : {s : Bool} {z all : List Tok} → Front s z [] all → all ≡ z
front_nil empty = refl

module _ {X : Type 0} {Q : ℕ → Bool} (d : ℕ) (test : ℕ → Bool) (P : Item → Parser X) (R : Parser X) where
  taken : {w v : Bool} (t : Tok) {ts : List Tok} {o : Out X} → Sharp test → test (kind t.symbol) ≡ true → ltb t.deepest d ≡ false → t.counted ≡ true → Alive v no_kind Q (P (bare t))
      → Lo Q (P (bare t)) ts false o → Lo Q (on d test P R) (t ∷ ts) w o
  taken t sh h i c a (done0 f) =
      done1 t [] (bite (goes_on test sh _ h) c nothing) (λ s z all r n. gets_front d test P R s t [] z h i c r (λ all r. exactly (ap (P (bare t)) (front_nil r) ∙ f z n)))
  taken t sh h i c a (done1 v pre e f) =
      done1 t (v ∷ pre) (bite (goes_on test sh _ h) c e) (λ s z all r n. gets_front d test P R s t (v ∷ pre) z h i c r (λ all r. f s z all r n))
  taken t sh h i c a (bad0 f) =
      bad1 t [] a.c a.x (bite (goes_on test sh _ h) c nothing)
      (λ z all r n. fails_front d test P R t [] z h r (λ all r. fails_by (ap (P (bare t)) (front_nil r)) (f z n)))
      (λ z all r n. is_front d test P R t [] (a.c ++ z) h i c r (λ all r. ap (P (bare t)) (front_nil r) ∙ a.reads z n))
  taken t sh h i c a (bad1 v pre y x e f g) =
      bad1 t (v ∷ pre) y x (bite (goes_on test sh _ h) c e)
      (λ z all r n. fails_front d test P R t (v ∷ pre) z h r (λ all r. f z all r n))
      (λ z all r n. is_front d test P R t (v ∷ pre) (y ++ z) h i c r (λ all r. g z all r n))
  taken t sh h i c a (over pre y x u e r k f) =
      over (t ∷ pre) y x u (bite (goes_on test sh _ h) c e) r
      (λ v z all r n w. fails_front d test P R t pre (v ∷ z) h r (λ all r. k v z all r n w))
      (λ z all r n. is_front d test P R t pre (u ∷ (y ++ z)) h i c r (λ all r. f z all r n))
  taken t sh h i c a gas = gas

  left : {w : Bool} {ts : List Tok} {o : Out X} → Sharp test → test (kind_at ts) ≡ false → (w ≡ false → Less test Q) → Lo Q R ts w o → Lo Q (on d test P R) ts w o
  left sh h l = along (λ z e. on_else d test P R z sh (ap test e ∙ h)) (λ w z n. on_else d test P R z sh (stays h (l w) z n))

  deep_lo : {w v : Bool} (t : Tok) (ts : List Tok) → test (kind t.symbol) ≡ true → ltb t.deepest d ≡ true → ((i : Item) → Alive v no_kind Q (P i)) → Lo Q (on d test P R) (t ∷ ts) w (out_fail (t ∷ ts) why_deep)
  deep_lo {w = w} t ts h i a =
      over [] (a (bare t)).c (a (bare t)).x up nothing (too_deep refl refl)
      (λ v z all r n k. fails (ap (on d test P R) (front_nil r) ∙ on_deep d test P R v z (ap (λ s. test (kind s)) n ∙ h) (ap (λ j. ltb j d) k ∙ i)))
      (λ z all r n. ap (on d test P R) (front_nil r) ∙ on_it d test P R up _ h (le-ltb d d (omega arith)) refl ∙ (a (bare t)).reads z n)
    where
      up : Tok
      up = record { symbol = t.symbol; at = t.at; deepest = d; counted = true }

  many_over : {w v : Bool} (t : Tok) (ts : List Tok) → Sharp test → test (kind t.symbol) ≡ true → ltb t.deepest d ≡ false → t.counted ≡ false → ((i : Item) → Alive v no_kind Q (P i))
      → Lo Q (on d test P R) (t ∷ ts) w (out_fail (t ∷ ts) why_many)
  many_over {w = w} t ts sh h i c a =
      over [] (a (bare t)).c (a (bare t)).x up nothing (too_many refl refl refl c (goes_on test sh _ h))
      (λ v z all r n k. fails_by (ap (on d test P R) (front_nil r)) (dead v z n (k ∙ c)))
      (λ z all r n. ap (on d test P R) (front_nil r) ∙ on_it d test P R up _ h i refl ∙ (a (bare t)).reads z n)
    where
      up : Tok
      up = record { symbol = t.symbol; at = t.at; deepest = t.deepest; counted = true }

      dead : (v : Tok) (z : List Tok) → v.symbol ≡ t.symbol → v.counted ≡ false → Fails (on d test P R (v ∷ z))
      dead v z n k = by (ltb v.deepest d) refl
        where
          by : (b : Bool) → ltb v.deepest d ≡ b → Fails (on d test P R (v ∷ z))
          by true j = fails (on_deep d test P R v z (ap (λ s. test (kind s)) n ∙ h) j)
          by false j = fails (on_many d test P R v z (ap (λ s. test (kind s)) n ∙ h) j k)

  pub on_lo : {w v : Bool} {p : Item → Parser X} {q : Parser X} → Sharp test → (w ≡ false → Less test Q) → ((i : Item) → Alive v no_kind Q (P i))
      → ((i : Item) (ts : List Tok) → Lo Q (P i) ts false (p i ts)) → ((ts : List Tok) → Lo Q R ts w (q ts)) → (ts : List Tok) → Lo Q (on d test P R) ts w (on d test p q ts)
  unfolding on
  on_lo z l a hp hq [] = left z z.0 l (hq [])
  on_lo {w = w} {p = p} {q = q} z l a hp hq (t ∷ ts) = by (test (kind t.symbol)) refl (ltb t.deepest d) refl t.counted refl
    where
      by : (b : Bool) → test (kind t.symbol) ≡ b → (e : Bool) → ltb t.deepest d ≡ e → (c : Bool) → t.counted ≡ c
          → Lo Q (on d test P R) (t ∷ ts) w (cond b (cond e (out_fail (t ∷ ts) why_deep) (cond c (p (bare t) ts) (out_fail (t ∷ ts) why_many))) (q (t ∷ ts)))
      by true h true i c j = deep_lo t ts h i a
      by true h false i false j = many_over t ts z h i j a
      by true h false i true j = taken t z h i j (a (bare t)) (hp (bare t) ts)
      by false h true i c j = left z h l (hq (t ∷ ts))
      by false h false i c j = left z h l (hq (t ∷ ts))

  pub on_alive : {w v : Bool} {S : ℕ → Bool} (s : Symbol) → test (kind s) ≡ true → S (kind s) ≡ false → ((i : Item) → Alive v no_kind Q (P i)) → Alive w S Q (on d test P R)
  on_alive {v = v} {S = S} s h n a = record { c = t ∷ b.c; x = b.x; at = 0; begins = λ e z. refl; reads = λ z q. on_it d test P R t (b.c ++ z) h (le-ltb d d (omega arith)) refl ∙ b.reads z q; first = λ z q. n }
    where
      t : Tok
      t = record { symbol = s; at = 0; deepest = d; counted = true }

      b : Alive v no_kind Q (P (item s 0))
      b = a (item s 0)

  pub else_alive : {w : Bool} → Sharp test → Alive w test Q R → Alive w no_kind Q (on d test P R)
  else_alive sh a = record { c = a.c; x = a.x; at = a.at; begins = a.begins; reads = λ z q. on_else d test P R _ sh (a.first z q) ∙ a.reads z q; first = λ z q. refl }

-- after
module _ {X Y : Type 0} {S Q : ℕ → Bool} (P : Parser X) (F : X → Parser Y) where
  -- p has read nothing
  then0 : {v : Bool} → (v ≡ false → Less S Q) → (x : X) {ts : List Tok} {o : Out Y} → ((z : List Tok) → Near S ts z → P z ≡ out_done x z) → Lo Q (F x) ts v o → Lo Q (after P F) ts false o
  unfolding after
  then0 l x h f = looser (along (λ z e. ap (λ o. next o F) (h z (same e))) (λ w z n. ap (λ o. next o F) (h z (nearer (l w) n))) f)

-- R is P and then F wherever t and pre stand first
module _ {X Y : Type 0} {S Q : ℕ → Bool} (P : Parser X) (F : X → Parser Y) (R : Parser Y) where
  -- p has read t and pre
  then1 : {w v k : Bool} → (v ≡ false → Less S Q) → (x : X) {ts rest : List Tok} {o : Out Y} (t : Tok) (pre : List Tok)
      → ((s : Bool) (z all : List Tok) → Front s z (t ∷ pre) all → R all ≡ next (P all) F) → Eaten rest (t ∷ pre) ts
      → ((s : Bool) (z all : List Tok) → Front s z (t ∷ pre) all → Near S rest z → Gets s (P all) x z) → Alive k S Q (F x) → Lo Q (F x) rest v o → Lo Q R ts w o
  then1 l x t pre b e h a (done0 f) = done1 t pre e (λ s z all r n. gets_by (b s z all r) (gets_next F (h s z all r (nearer (l refl) n)) (exactly (f z n))))
  then1 l x t pre b e h a (done1 u mid i f) =
      done1 t (pre ++ (u ∷ mid)) (eaten_on e i)
      (λ s z all r n. let j = split (t ∷ pre) (u ∷ mid) r in gets_by (b s j.far all j.one) (gets_next F (h s j.far all j.one (same (front_kind i j.two))) (f s z j.far j.two n)))
  then1 l x t pre b e h a (bad0 f) =
      bad1 t pre a.c a.x e (λ z all r n. fails_by (b false z all r) (gets_fails F (h false z all r (same n)) (f z n)))
      (λ z all r n. b true _ all r ∙ ap (λ o. next o F) (reads_exactly (h true _ all r (stop (a.first z n)))) ∙ a.reads z n)
  then1 l x t pre b e h a (bad1 u mid c y i f g) =
      bad1 t (pre ++ (u ∷ mid)) c y (eaten_on e i)
      (λ z all r n. let j = split (t ∷ pre) (u ∷ mid) r in fails_by (b false j.far all j.one) (gets_fails F (h false j.far all j.one (same (front_kind i j.two))) (f z j.far j.two n)))
      (λ z all r n. let j = split (t ∷ pre) (u ∷ mid) r in b true j.far all j.one ∙ ap (λ o. next o F) (reads_exactly (h true j.far all j.one (same (front_kind i j.two)))) ∙ g z j.far j.two n)
  then1 l x t pre b e h a (over mid c y u i q k f) =
      over (t ∷ (pre ++ mid)) c y u (eaten_on e i) q
      (λ v z all r n w. let j = split (t ∷ pre) mid r in fails_by (b false j.far all j.one) (gets_fails F (h false j.far all j.one (same (head_kind i j.two n))) (k v z j.far j.two n w)))
      (λ z all r n. let j = split (t ∷ pre) mid r in b true j.far all j.one ∙ ap (λ o. next o F) (reads_exactly (h true j.far all j.one (same (head_kind i j.two (over_symbol q))))) ∙ f z j.far j.two n)
  then1 l x t pre b e h a gas = gas

module _ {X Y : Type 0} {S Q : ℕ → Bool} (P : Parser X) (F : X → Parser Y) where
  then : {w v k : Bool} → (v ≡ false → Less S Q) → {f : X → Parser Y} {ts : List Tok} {o : Out X} → ((x : X) → Alive k S Q (F x)) → ((x : X) (ts : List Tok) → Lo Q (F x) ts v (f x ts)) → Lo S P ts w o
      → Lo Q (after P F) ts w (next o f)
  unfolding after
  then l a hf (done0 h) = then0 P F l _ h (hf _ _)
  then l a hf (done1 t pre e h) = then1 P F (after P F) l _ t pre (λ s z all r. refl) e h (a _) (hf _ _)
  then l a hf (bad0 h) = bad0 (λ z n. next_fails F (h z n))
  then l a hf (bad1 t pre c x e h g) =
      bad1 t pre (c ++ (a x).c) (a x).x e (λ z all r n. next_fails F (h z all r n))
      (λ z all r n. ap (λ o. next o F) (g ((a x).c ++ z) all (rw append_assoc at r) ((a x).first z n)) ∙ (a x).reads z n)
  then l a hf (over pre c x u e r k h) =
      over pre (c ++ (a x).c) (a x).x u e r (λ v z all i n w. next_fails F (k v z all i n w))
      (λ z all i n. ap (λ o. next o F) (h ((a x).c ++ z) all (rw append_assoc at i) ((a x).first z n)) ∙ (a x).reads z n)
  then l a hf gas = gas

  pub after_lo : {w v k : Bool} → (v ≡ false → Less S Q) → {p : Parser X} {f : X → Parser Y} → ((ts : List Tok) → Lo S P ts w (p ts)) → ((x : X) → Alive k S Q (F x))
      → ((x : X) (ts : List Tok) → Lo Q (F x) ts v (f x ts)) → (ts : List Tok) → Lo Q (after P F) ts w (after p f ts)
  unfolding after
  after_lo l hp a hf ts = then l a hf (hp ts)

  pub after_alive : {w k : Bool} {T : ℕ → Bool} (p : Alive w T S P) → Alive k S Q (F p.x) → Alive w T Q (after P F)
  unfolding after
  after_alive p a = record {
    c = p.c ++ a.c;
    x = a.x;
    at = p.at;
    begins = λ e z. ap offset (append_assoc p.c a.c z) ∙ p.begins e (a.c ++ z);
    reads = λ z n. ap (λ s. next (P s) F) (append_assoc p.c a.c z) ∙ ap (λ o. next o F) (p.reads _ (a.first z n)) ∙ a.reads z n;
    first = λ z n. rw (append_assoc p.c a.c z) (p.first _ (a.first z n));
  }

-- from
module _ {X Y : Type 0} {S Q : ℕ → Bool} (P : Parser X) (F : ℕ → X → Parser Y) where
  begun : {w v k : Bool} → w ≡ true → (v ≡ false → Less S Q) → {f : ℕ → X → Parser Y} {ts : List Tok} {o : Out X} → ((n : ℕ) (x : X) → Alive k S Q (F n x))
      → ((n : ℕ) (x : X) (ts : List Tok) → Lo Q (F n x) ts v (f n x ts)) → Lo S P ts w o → Lo Q (from P F) ts w (next o (f (offset ts)))
  unfolding from
  begun i l a hf (done0 h) = never (sym i)
  begun i l {ts = ts} a hf (done1 t pre e h) = then1 P (F (offset ts)) (from P F) l _ t pre (λ s z all r. ap (λ n. next (P all) (F n)) (front_offset e r)) e h (a _ _) (hf _ _ _)
  begun i l a hf (bad0 h) = bad0 (λ z n. next_fails (F (offset z)) (h z n))
  begun i l {ts = ts} a hf (bad1 t pre c x e h g) =
      bad1 t pre (c ++ (a (offset ts) x).c) (a (offset ts) x).x e (λ z all r n. next_fails (F (offset all)) (h z all r n))
      (λ z all r n. ap (λ k. next (P all) (F k)) (front_offset e r) ∙ ap (λ o. next o (F (offset ts))) (g ((a (offset ts) x).c ++ z) all (rw append_assoc at r) ((a (offset ts) x).first z n)) ∙ (a (offset ts) x).reads z n)
  begun i l {ts = ts} a hf (over pre c x u e r k h) =
      over pre (c ++ (a (offset ts) x).c) (a (offset ts) x).x u e r (λ v z all i n w. next_fails (F (offset all)) (k v z all i n w))
      (λ z all i n. ap (λ k. next (P all) (F k)) (head_offset e i (over_at r)) ∙ ap (λ o. next o (F (offset ts))) (h ((a (offset ts) x).c ++ z) all (rw append_assoc at i) ((a (offset ts) x).first z n)) ∙ (a (offset ts) x).reads z n)
  begun i l a hf gas = gas

  pub from_lo : {v k : Bool} → (v ≡ false → Less S Q) → {p : Parser X} {f : ℕ → X → Parser Y} → ((ts : List Tok) → Lo S P ts true (p ts)) → ((n : ℕ) (x : X) → Alive k S Q (F n x))
      → ((n : ℕ) (x : X) (ts : List Tok) → Lo Q (F n x) ts v (f n x ts)) → (ts : List Tok) → Lo Q (from P F) ts true (from p f ts)
  unfolding from
  from_lo l hp a hf ts = begun refl l a hf (hp ts)

  pub from_alive : {k : Bool} {T : ℕ → Bool} (p : Alive true T S P) → Alive k S Q (F p.at p.x) → Alive true T Q (from P F)
  unfolding from
  from_alive p a = record {
    c = p.c ++ a.c;
    x = a.x;
    at = p.at;
    begins = λ e z. ap offset (append_assoc p.c a.c z) ∙ p.begins refl (a.c ++ z);
    reads =
        λ z q. ap (λ s. next (P s) (F (offset s))) (append_assoc p.c a.c z) ∙ ap (λ k. next (P (p.c ++ (a.c ++ z))) (F k)) (p.begins refl (a.c ++ z)) ∙ ap (λ o. next o (F p.at)) (p.reads _ (a.first z q)) ∙ a.reads z q;
    first = λ z q. rw (append_assoc p.c a.c z) (p.first _ (a.first z q));
  }

-- sets of kinds
pub less_is : (Q : ℕ → Bool) (s : Symbol) → Q (kind s) ≡ true → Less (is s) Q
less_is Q s h = record { so = λ k e. ne_eqb k (kind s) (λ i. never (sym h ∙ ap Q (sym i) ∙ e)) }

pub less_refl : {Q : ℕ → Bool} → Less Q Q
less_refl = record { so = λ k e. e }

pub less_none : {Q : ℕ → Bool} → Less no_kind Q
less_none = record { so = λ k e. refl }

-- a reader and what it becomes with more gas
pub record Good {X : Type 0} (Q : ℕ → Bool) (w : Bool) (p P : Parser X) : Type 0 where
  pub lo : (ts : List Tok) → Lo Q P ts w (p ts)
  pub alive : Alive w no_kind Q P

dull : {X : Type 0} {w : Bool} {S Q : ℕ → Bool} {P : Parser X} → Alive w S Q P → Alive false S Q P
dull a = record { c = a.c; x = a.x; at = 0; begins = λ e. never (sym e); reads = a.reads; first = a.first }

pub wide_alive : {X : Type 0} {w : Bool} {T S Q : ℕ → Bool} {P : Parser X} → Less S Q → Alive w T S P → Alive w T Q P
wide_alive l a = record { c = a.c; x = a.x; at = a.at; begins = a.begins; reads = λ z q. a.reads z (l.so _ q); first = λ z q. a.first z (l.so _ q) }

-- the rules once more, for both halves together
pub seq : {X Y : Type 0} {S Q : ℕ → Bool} {w v k : Bool} {p P : Parser X} {f F : X → Parser Y} → (v ≡ false → Less S Q) → Good S w p P → ((x : X) → Alive k S Q (F x))
    → ((x : X) (ts : List Tok) → Lo Q (F x) ts v (f x ts)) → Good Q w (after p f) (after P F)
seq {p = p} {P = P} {F = F} l h a hf = record { lo = after_lo P F l {p = p} h.lo a hf; alive = after_alive P F h.alive (a _) }

pub seq_from : {X Y : Type 0} {S Q : ℕ → Bool} {v k : Bool} {p P : Parser X} {f F : ℕ → X → Parser Y} → (v ≡ false → Less S Q) → Good S true p P → ((n : ℕ) (x : X) → Alive k S Q (F n x))
    → ((n : ℕ) (x : X) (ts : List Tok) → Lo Q (F n x) ts v (f n x ts)) → Good Q true (from p f) (from P F)
seq_from {p = p} {P = P} {F = F} l h a hf = record { lo = from_lo P F l {p = p} h.lo a hf; alive = from_alive P F h.alive (a _ _) }

pub map : {X Y : Type 0} {Q : ℕ → Bool} {w : Bool} {p P : Parser X} (f : X → Y) → Good Q w p P → Good Q w (after p (λ x. ret (f x))) (after P (λ x. ret (f x)))
map f h = seq (λ e. less_refl) h (λ x. ret_alive (f x) less_refl) (λ x ts. ret_lo (f x) ts)

pub ret_good : {X : Type 0} {Q : ℕ → Bool} (x : X) → Good Q false (ret x) (ret x)
ret_good x = record { lo = λ ts. ret_lo x ts; alive = ret_alive x less_none }

pub gas_good : {X : Type 0} {Q : ℕ → Bool} {w : Bool} {P : Parser X} → Alive w no_kind Q P → Good Q w no_more P
gas_good a = record { lo = λ ts. gas; alive = a }

pub weak : {X : Type 0} {Q : ℕ → Bool} {w : Bool} {p P : Parser X} → Good Q w p P → Good Q false p P
weak h = record { lo = λ ts. looser (h.lo ts); alive = dull h.alive }

pub wide : {X : Type 0} {S Q : ℕ → Bool} {w : Bool} {p P : Parser X} → Less S Q → Good S w p P → Good Q w p P
wide l h = record { lo = λ ts. wider l (h.lo ts); alive = wide_alive l h.alive }

-- a token that passes the test is taken, and p reads on; any other is left to q
pub takes_lo : {X : Type 0} {Q : ℕ → Bool} {w v : Bool} (d : ℕ) (test : ℕ → Bool) {p P : Item → Parser X} {q R : Parser X} → Sharp test → (w ≡ false → Less test Q) → ((i : Item) → Good Q v (p i) (P i))
    → ((ts : List Tok) → Lo Q R ts w (q ts)) → (ts : List Tok) → Lo Q (on d test P R) ts w (on d test p q ts)
takes_lo d test {P = P} {R = R} z l h = on_lo d test P R z l (λ i. (h i).alive) (λ i. (weak (h i)).lo)

-- a mark, and then p
pub want_lo : {X : Type 0} {Q : ℕ → Bool} (d : ℕ) (m : Mark) {w : Bool} {p P : Parser X} → Good Q w p P → (ts : List Tok) → Lo Q (want d m P) ts true (want d m p ts)
want_lo d m {p = p} {P = P} h ts = on_lo d (is (mark m)) (λ t. P) bad {p = λ t. p} {q = bad} (mark_sharp m) never (λ t. h.alive) (λ t ts. looser (h.lo ts)) bad_lo ts

pub want_alive : {X : Type 0} {w v : Bool} {S Q : ℕ → Bool} (d : ℕ) (m : Mark) → S (kind (mark m)) ≡ false → {P : Parser X} → Alive v no_kind Q P → Alive w S Q (want d m P)
want_alive d m s a = on_alive d (is (mark m)) _ bad (mark m) (eq-eqb (kind (mark m)) _ refl) s (λ t. a)

pub wants : {X : Type 0} {Q : ℕ → Bool} {w : Bool} {p P : Parser X} (d : ℕ) (m : Mark) → Good Q w p P → Good Q true (want d m p) (want d m P)
wants d m h = record { lo = want_lo d m h; alive = want_alive d m refl h.alive }

-- p, then a mark, and then what follows
pub then_mark : {X Y : Type 0} {S Q : ℕ → Bool} {w v : Bool} {p P : Parser X} {f F : X → Parser Y} (d : ℕ) (m : Mark) → S (kind (mark m)) ≡ false → Good S w p P → ((x : X) → Good Q v (f x) (F x))
    → Good Q w (after p (λ x. want d m (f x))) (after P (λ x. want d m (F x)))
then_mark d m s h k = seq never h (λ x. want_alive {w = true} d m s (k x).alive) (λ x. want_lo d m (k x))

pub closing : {X Y : Type 0} {S Q : ℕ → Bool} {w : Bool} {p P : Parser X} (d : ℕ) (m : Mark) (f : X → Y) → S (kind (mark m)) ≡ false → Good S w p P
    → Good Q w (after p (λ x. want d m (ret (f x)))) (after P (λ x. want d m (ret (f x))))
closing d m f s h = then_mark d m s h (λ x. ret_good (f x))

pub opt_alive : {X : Type 0} {S Q : ℕ → Bool} (d : ℕ) (test : ℕ → Bool) (P : Item → Parser X) (x : X) → Sharp test → Less test Q → Less S Q → Alive false S Q (on d test P (ret x))
opt_alive d test P x sharp l m = empty_alive x (λ z q. on_else d test P (ret x) z sharp (l.so _ q)) m

-- loop
module _ {X : Type 0} {Q : ℕ → Bool} (d : ℕ) (test : ℕ → Bool) (F : X → Item → Parser X) where
  pub loop_alive : {T : ℕ → Bool} (g : ℕ) (x : X) → 0 < g → Sharp test → Less test Q → Less T Q → Alive false T Q (loop d test F g x)
  unfolding loop
  loop_alive zero x h z l m = absurd (omega arith)
  loop_alive (suc g) x h z l m = opt_alive d test (λ i. after (F x i) (loop d test F g)) x z l m

  pub loop_lo : {S : ℕ → Bool} {f : X → Item → Parser X} → Sharp test → Less test Q → Less S Q → ((x : X) (i : Item) → Good S true (f x i) (F x i)) → (g G : ℕ) → g < G → (x : X) (ts : List Tok)
      → Lo Q (loop d test F G x) ts false (loop d test f g x ts)
  unfolding loop
  loop_lo z l m h zero G lt x ts = gas
  loop_lo z l m h (suc g) zero lt x ts = absurd (omega arith)
  loop_lo {f = f} z l m h (suc g) (suc G) lt x ts =
      on_lo d test (λ i. after (F x i) (loop d test F G)) (ret x) {p = λ i. after (f x i) (loop d test f g)} {q = ret x} z (λ e. l)
      (λ i. after_alive (F x i) (loop d test F G) (h x i).alive (loop_alive G _ (omega arith) z l m))
      (λ i ts. looser (after_lo (F x i) (loop d test F G) (λ e. m) {p = f x i} (h x i).lo (λ y. loop_alive G y (omega arith) z l m) (λ y ts. loop_lo z l m h g G (omega arith) y ts) ts))
      (λ ts. ret_lo x ts) ts

pub loop_good : {X : Type 0} {S Q : ℕ → Bool} (d g G : ℕ) → g < G → (test : ℕ → Bool) {f F : X → Item → Parser X} → Sharp test → Less test Q → Less S Q
    → ((x : X) (i : Item) → Good S true (f x i) (F x i)) → (x : X) → Good Q false (loop d test f g x) (loop d test F G x)
loop_good d g G lt test {f = f} {F = F} z l m h x = record { lo = loop_lo d test F {f = f} z l m h g G lt x; alive = loop_alive d test F G x (omega arith) z l less_none }

-- peek and many
module _ {X : Type 0} {Q : ℕ → Bool} (test : ℕ → Bool) (P R : Parser X) where
  goes_in : {ts : List Tok} {o : Out X} → test (kind_at ts) ≡ true → Lo Q P ts true o → Lo Q (peek test P R) ts true o
  unfolding peek
  goes_in h = along (λ z e. cond-true _ _ _ (ap test e ∙ h)) never

  goes_by : {ts : List Tok} (x : X) → test (kind_at ts) ≡ false → Less test Q → ((z : List Tok) → R z ≡ out_done x z) → Lo Q (peek test P R) ts false (out_done x ts)
  unfolding peek
  goes_by x h l f = done0 (λ z n. cond-false _ _ _ (stays h l z n) ∙ f z)

module _ {X Y : Type 0} {Q : ℕ → Bool} (test : ℕ → Bool) (P : Parser X) (none : Y) (more : X → Y → Y) where
  pub many_alive : {T : ℕ → Bool} (g : ℕ) → 0 < g → Less test Q → Less T Q → Alive false T Q (many test P none more g)
  unfolding many peek
  many_alive zero h l m = absurd (omega arith)
  many_alive (suc g) h l m = empty_alive none (λ z q. cond-false _ _ _ (l.so _ q)) m

  pub many_lo : {S : ℕ → Bool} {p : Parser X} → Less test Q → Less S Q → Good S true p P → (g G : ℕ) → g < G → (ts : List Tok) → Lo Q (many test P none more G) ts false (many test p none more g ts)
  unfolding many peek
  many_lo l m h zero G lt ts = gas
  many_lo l m h (suc g) zero lt ts = absurd (omega arith)
  many_lo {p = p} l m h (suc g) (suc G) lt ts = by (test (kind_at ts)) refl (record { lo = λ ts. many_lo l m h g G (omega arith) ts; alive = many_alive G (omega arith) l less_none })
    where
      by : (b : Bool) → test (kind_at ts) ≡ b → Good Q false (many test p none more g) (many test P none more G)
          → Lo Q (peek test (after P (λ x. after (many test P none more G) (λ xs. ret (more x xs)))) (ret none)) ts false (cond b (after p (λ x. after (many test p none more g) (λ xs. ret (more x xs))) ts) (out_done none ts))
      by true e k =
          looser (goes_in test _ (ret none) e
          (after_lo P (λ x. after (many test P none more G) (λ xs. ret (more x xs))) (λ e. m) {p = p} h.lo
          (λ x. after_alive (many test P none more G) (λ xs. ret (more x xs)) (many_alive G (omega arith) l m) (ret_alive _ less_refl)) (λ x. (map (more x) k).lo) ts))
      by false e k = goes_by test _ (ret none) none e l (λ z. refl)

pub many_good : {X Y : Type 0} {S Q : ℕ → Bool} (g G : ℕ) → g < G → (test : ℕ → Bool) {p P : Parser X} (none : Y) (more : X → Y → Y) → Less test Q → Less S Q → Good S true p P
    → Good Q false (many test p none more g) (many test P none more G)
many_good g G lt test {P = P} none more l m h = record { lo = many_lo test P none more l m h g G lt; alive = many_alive test P none more G (omega arith) l less_none }

-- separated and listed
module _ {X Y : Type 0} {S Q : ℕ → Bool} (d : ℕ) (P : Parser X) (none : Y) (more : X → Y → Y) where
  pub separated_alive : {w : Bool} {T : ℕ → Bool} (g : ℕ) → 0 < g → Q (kind (mark sign.Comma)) ≡ true → Less S Q → Alive w T S P → Alive w T Q (separated d P none more g)
  unfolding separated
  separated_alive zero h l m a = absurd (omega arith)
  separated_alive (suc g) h l m a = after_alive P _ a (opt_alive d (is (mark sign.Comma)) _ _ (mark_sharp sign.Comma) (less_is Q (mark sign.Comma) l) m)

  pub separated_good : {p : Parser X} → Q (kind (mark sign.Comma)) ≡ true → Less S Q → Good S true p P → (g G : ℕ) → g < G → Good Q true (separated d p none more g) (separated d P none more G)
  unfolding separated
  separated_good l m h zero G lt = gas_good (separated_alive G (omega arith) l m h.alive)
  separated_good l m h (suc g) zero lt = absurd (omega arith)
  separated_good l m h (suc g) (suc G) lt =
      let k = separated_good l m h g G (omega arith) in
      seq (λ e. m) h (λ x. opt_alive d (is (mark sign.Comma)) _ _ (mark_sharp sign.Comma) (less_is Q (mark sign.Comma) l) m)
      (λ x. takes_lo d (is (mark sign.Comma)) (mark_sharp sign.Comma) (λ e. less_is Q (mark sign.Comma) l) (λ i. map (more x) k) (ret_lo (more x none)))

-- the end
abbrev pub not_end : ℕ → Bool
not_end k = not (eqb k 0)

pub less_end : (S : ℕ → Bool) → S 0 ≡ false → Less S not_end
less_end S h = record { so = λ k e. ap S (eqb-true k 0 (not-false _ e)) ∙ h }

pub ends_lo : {X : Type 0} (x : X) (ts : List Tok) → Lo not_end (ends x) ts false (ends x ts)
unfolding ends
ends_lo x ts = by (eqb (kind_at ts) 0) refl
  where
    by : (b : Bool) → eqb (kind_at ts) 0 ≡ b → Lo not_end (ends x) ts false (cond b (out_done x ts) (out_fail ts why_bad))
    by true h = done0 (λ z n. cond-true _ _ _ (near z n))
      where
        near : (z : List Tok) → Near not_end ts z → eqb (kind_at z) 0 ≡ true
        near z (same e) = ap (λ k. eqb k 0) e ∙ h
        near z (stop e) = not-false _ e
    by false h = bad0 (λ z e. fails (cond-false _ _ _ (ap (λ k. eqb k 0) e ∙ h)))

pub ends_alive : {X : Type 0} {S : ℕ → Bool} (x : X) → S 0 ≡ false → Alive false S not_end (ends x)
unfolding ends
ends_alive {S = S} x s = empty_alive x (λ z q. cond-true _ _ _ (not-false _ q)) (less_end S s)
