-- The rows of memtables, and what a write more leaves of them.
use Rattle.std.proofs.Common.{◌≡◌, ◌≢◌, ◌==◌, ◌≤◌, ◌<◌, inl, inr, ⊎_elim, suc, Some, ℕ, ◌+◌, Bool, true, false, cond, List, [], ◌∷◌, ◌++◌, length, take, drop, filter, refl, sym, ap, ◌∙◌, arith, ne_eqb, eq-eqb, append-nil}
use Rattle.std.proofs.lemmas.List.{take-append-le, drop-append-le, length-take, length-drop, take_all}
use Rattle.sv_model.specs.declared.writes.Write.{Write}
use Rattle.std.specs.Prelude.{slice_get}
use Rattle.sv_model.specs.Journal.{of_family, borne_by}
use Rattle.sv_model.specs.Steady.{IsBorne}

filter-push : (p : Write → Bool) (J : List Write) (w : Write)
    → filter p (J ++ w ∷ []) ≡ filter p J ++ cond (p w) (w ∷ []) []
filter-push p [] w = refl
filter-push p (v ∷ J) w = by (p v) (filter-push p J w)
  where
    by : (b : Bool) → filter p (J ++ w ∷ []) ≡ filter p J ++ cond (p w) (w ∷ []) []
        → cond b (v ∷ filter p (J ++ w ∷ [])) (filter p (J ++ w ∷ [])) ≡ cond b (v ∷ filter p J) (filter p J) ++ cond (p w) (w ∷ []) []
    by true h = ap (λ l. v ∷ l) h
    by false h = h

-- a memtable that the write does not bear has the same rows
pub borne-other : (m : ℕ) (J : List Write) (w : Write) → w.mem ≢ m → borne_by m (J ++ w ∷ []) ≡ borne_by m J
borne-other m J w d =
    filter-push (λ v. v.mem == m) J w ∙ ap (λ b. borne_by m J ++ cond b (w ∷ []) []) (ne_eqb w.mem m d)
    ∙ append-nil (borne_by m J)

pub borne-same : (J : List Write) (w : Write) → borne_by w.mem (J ++ w ∷ []) ≡ borne_by w.mem J ++ w ∷ []
borne-same J w =
    filter-push (λ v. v.mem == w.mem) J w ∙ ap (λ b. borne_by w.mem J ++ cond b (w ∷ []) []) (eq-eqb w.mem w.mem refl)

pub family-same : (J : List Write) (w : Write) → of_family w.family (J ++ w ∷ []) ≡ of_family w.family J ++ w ∷ []
family-same J w =
    filter-push (λ v. v.family == w.family) J w
    ∙ ap (λ b. of_family w.family J ++ cond b (w ∷ []) []) (eq-eqb w.family w.family refl)

pub family-other : (f : ℕ) (J : List Write) (w : Write) → w.family ≢ f → of_family f (J ++ w ∷ []) ≡ of_family f J
family-other f J w d =
    filter-push (λ v. v.family == f) J w ∙ ap (λ b. of_family f J ++ cond b (w ∷ []) []) (ne_eqb w.family f d)
    ∙ append-nil (of_family f J)

-- rows that stood in the family's writes stand there when one comes after
pub rows-stand : (rows F : List Write) (a : ℕ) (w : Write) → rows ≡ take (length rows) (drop a F) → a ≤ length F
    → rows ≡ take (length rows) (drop a (F ++ w ∷ []))
rows-stand rows F a w h le =
    let n : length rows ≤ length (drop a F) = omega (arith, ap length h, length-take (length rows) (drop a F)) in
    h
    ∙ sym (ap (take (length rows)) (drop-append-le a F (w ∷ []) le) ∙ take-append-le (length rows) (drop a F) (w ∷ []) n)

-- and the rows of the memtable that ends where the family's writes do go on with it
pub rows-grow : (rows F : List Write) (a : ℕ) (w : Write) → rows ≡ take (length rows) (drop a F)
    → a + length rows ≡ length F → rows ++ w ∷ [] ≡ take (length (rows ++ w ∷ [])) (drop a (F ++ w ∷ []))
rows-grow rows F a w h end =
    let le : a ≤ length F = omega arith in
    let n : length (drop a F) ≡ length rows = omega (arith, length-drop a F) in
    let all : rows ≡ drop a F = h ∙ take_all (length rows) (drop a F) (omega arith) in
    let d : drop a (F ++ w ∷ []) ≡ rows ++ w ∷ [] = drop-append-le a F (w ∷ []) le ∙ ap (λ l. l ++ w ∷ []) (sym all) in
    sym (ap (take (length (rows ++ w ∷ []))) d ∙ take_all (length (rows ++ w ∷ [])) (rows ++ w ∷ []) (omega arith))

pub rows-stand-any : (rows F : List Write) (a : ℕ) (w : Write) → rows ≡ take (length rows) (drop a F)
    → rows ≡ take (length rows) (drop a (F ++ w ∷ []))
rows-stand-any [] F a w h = refl
rows-stand-any (x ∷ rows) F a w h =
    rows-stand (x ∷ rows) F a w h
    (omega (arith, ap (λ (l : List Write). length l) h, length-take (length (x ∷ rows)) (drop a F), length-drop a F))

-- no write is of this family
pub unowned : (J : List Write) (f : ℕ) → ((i : ℕ) (w : Write) → slice_get J i ≡ Some w → w.family < f)
    → of_family f J ≡ []
unowned [] f h = refl
unowned (w ∷ J) f h =
    ap (λ b. cond b (w ∷ of_family f J) (of_family f J)) (ne_eqb w.family f (λ q. let lt = h 0 w refl in omega arith))
    ∙ unowned J f (λ i. h (suc i))

-- no write bears this memtable
pub unborne : (J : List Write) (m : ℕ) → ((i : ℕ) (w : Write) → slice_get J i ≡ Some w → w.mem < m) → borne_by m J ≡ []
unborne [] m h = refl
unborne (w ∷ J) m h =
    ap (λ b. cond b (w ∷ borne_by m J) (borne_by m J)) (ne_eqb w.mem m (λ q. let lt = h 0 w refl in omega arith))
    ∙ unborne J m (λ i. h (suc i))

-- a write bears one of the memtables, or none
pub mem-within : (memtables families : ℕ) (w : Write) → IsBorne memtables families w → w.mem ≤ memtables
mem-within memtables families w h = ⊎_elim (λ q. q.1) (λ q. omega (arith, q.0)) h.by

-- and so while more of them are made
pub borne-on : (memtables families m f : ℕ) (w : Write) → memtables ≤ m → families ≤ f → IsBorne memtables families w
    → IsBorne m f w
borne-on memtables families m f w p q h = record {
  family_made = omega (arith, h.family_made, q);
  by = ⊎_elim (λ o. inl (o.0, omega (arith, o.1, p), o.2)) (λ o. inr o) h.by;
}
