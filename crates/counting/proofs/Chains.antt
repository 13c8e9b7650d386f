-- A place joins a chain, leaves it, or ends it. Assumes nothing.
use Rattle.std.specs.Prelude.{◌≡◌, ℕ, zero, suc, ◌<◌, true, List, [], ◌∷◌, length, set, Some, None, Option, slice_index_or, slice_set, refl}
use Rattle.std.proofs.Common.{sym, ap, ◌∙◌, arith}
use Rattle.std.proofs.lemmas.List.{get_or-set_same, set-set, set-get_or}
use Rattle.counting.specs.Chain.{links, linked, onward, Linked}

links_push : (ns : List (Option ℕ)) (p h : ℕ) → p < length ns → slice_index_or ns p None ≡ None → links (slice_set ns p (Some h)) ≡ suc (links ns)
links_push [] p h w e = absurd (omega arith)
links_push (None ∷ ns) zero h w e = refl
links_push (Some n ∷ ns) zero h w e = cc
links_push (None ∷ ns) (suc p) h w e = links_push ns p h (omega arith) e
links_push (Some n ∷ ns) (suc p) h w e = ap suc (links_push ns p h (omega arith) e)

links_pop : (ns : List (Option ℕ)) (p n : ℕ) → slice_index_or ns p None ≡ Some n → links ns ≡ suc (links (slice_set ns p None))
links_pop [] p n e = cc
links_pop (None ∷ ns) zero n e = cc
links_pop (Some m ∷ ns) zero n e = refl
links_pop (None ∷ ns) (suc p) n e = links_pop ns p n e
links_pop (Some m ∷ ns) (suc p) n e = ap suc (links_pop ns p n e)

pub no_links : (ns : List (Option ℕ)) (p : ℕ) → links ns ≡ 0 → slice_index_or ns p None ≡ None
no_links [] p e = refl
no_links (None ∷ ns) zero e = refl
no_links (None ∷ ns) (suc p) e = no_links ns p e
no_links (Some n ∷ ns) p e = absurd (omega arith)

pub linked_none : {ns : List (Option ℕ)} {h : ℕ} → links ns ≡ 0 → Linked ns h
linked_none {ns} {h} e = record { all = ap (λ k. linked k ns h) e }

pub push : {ns : List (Option ℕ)} {h : ℕ} (p : ℕ) → p < length ns → slice_index_or ns p None ≡ None → Linked ns h → Linked (slice_set ns p (Some h)) p
push {ns} {h} p w e l =
    let ms = set ns p (Some h) in
    let back : set (slice_set ns p (Some h)) p None ≡ ns = set-set ns p (Some h) None ∙ ap (set ns p) (sym e) ∙ set-get_or ns p None in
    record { all = ap (λ k. linked k ms p) (links_push ns p h w e) ∙ ap (λ o. onward o (λ n. linked (links ns) (slice_set ms p None) n)) (get_or-set_same ns p (Some h) None w) ∙ ap (λ m. linked (links ns) m h) back ∙ l.all }

pub pop : {ns : List (Option ℕ)} {h n : ℕ} → slice_index_or ns h None ≡ Some n → Linked ns h → Linked (slice_set ns h None) n
pop {ns} {h} {n} e l =
    let rest = set ns h None in
    record { all = sym (ap (λ k. linked k ns h) (links_pop ns h n e) ∙ ap (λ o. onward o (λ m. linked (links rest) rest m)) e) ∙ l.all }

ends_at : (k : ℕ) (ns : List (Option ℕ)) (h : ℕ) → slice_index_or ns h None ≡ None → linked k ns h ≡ true → k ≡ 0
ends_at zero ns h e l = refl
ends_at (suc k) ns h e l = cc (sym l ∙ ap (λ o. onward o (λ n. linked k (slice_set ns h None) n)) e)

pub ends : {ns : List (Option ℕ)} {h : ℕ} → slice_index_or ns h None ≡ None → Linked ns h → links ns ≡ 0
ends {ns} {h} e l = ends_at (links ns) ns h e l.all
