-- Lists that are made of the families that were kept.
use Rattle.std.proofs.Common.{◌≡◌, ◌≤◌, ◌⊎◌, ⊎_elim, inl, inr, ℕ, zero, suc, ◌+◌, List, [], ◌∷◌, ◌++◌, length, map, take, Some, slice_get, append-nil, arith, refl, sym, ap, ◌∙◌}
use Rattle.std.proofs.lemmas.List.{length-append, length-map, append_assoc}
use Rattle.std.proofs.lemmas.Option.{slice_get_within}
use Rattle.sv_model.specs.declared.openings.OpenFamily.{OpenFamily}
use Rattle.sv_model.proofs.Entries.{some}
use Rattle.sv_state.specs.Openings.{by_id, numbered, opening_numbers, opening_write, opening_writes}

-- ---- the item after those so far
take-next : {A : Type 0} (l : List A) (i : ℕ) (x : A) → slice_get l i ≡ Some x → take (suc i) l ≡ take i l ++ x ∷ []
take-next [] i x e = absurd (cc)
take-next (y ∷ l) zero x e = ap (λ z. z ∷ []) (some e)
take-next (y ∷ l) (suc i) x e = ap (λ z. y ∷ z) (take-next l i x e)

pub get-push : {A : Type 0} (l : List A) (y : A) (n : ℕ) (x : A) → slice_get (l ++ y ∷ []) n ≡ Some x → (slice_get l n ≡ Some x) ⊎ ((n ≡ length l) × (x ≡ y))
get-push [] y zero x e = inr (refl, sym (some e))
get-push [] y (suc n) x e = absurd (cc)
get-push (z ∷ l) y zero x e = inl e
get-push (z ∷ l) y (suc n) x e = ⊎_elim (λ old. inl old) (λ new. inr (ap suc new.0, new.1)) (get-push l y n x e)

length-so-far : {A : Type 0} (l : List A) (i : ℕ) → i ≤ length l → length (take i l) ≡ i
length-so-far [] zero h = refl
length-so-far [] (suc i) h = absurd (omega (arith, h))
length-so-far (x ∷ l) zero h = refl
length-so-far (x ∷ l) (suc i) h = ap suc (length-so-far l i (omega (arith, h)))

-- ---- what is made by id
pub length-by_id : {A : Type 0} (make : ℕ → OpenFamily → A) (id : ℕ) (l : List OpenFamily) → length (by_id make id l) ≡ length l
length-by_id make id [] = refl
length-by_id make id (f ∷ l) = ap suc (length-by_id make (suc id) l)

pub by_id-at : {A : Type 0} (make : ℕ → OpenFamily → A) (id n i : ℕ) (l : List OpenFamily) (f : OpenFamily) → n ≡ id + i → slice_get l i ≡ Some f
    → slice_get (by_id make id l) i ≡ Some (make n f)
by_id-at make id n i [] f q e = absurd (cc)
by_id-at make id n zero (g ∷ l) f q e = ap Some ((λ j. make ((let p : id ≡ n = omega (arith, q) in p) j) (some e j)))
by_id-at make id n (suc i) (g ∷ l) f q e = by_id-at make (suc id) n i l f (omega (arith, q)) e

pub at-by_id : {A : Type 0} (make : ℕ → OpenFamily → A) (id n i : ℕ) (l : List OpenFamily) (y : A) → n ≡ id + i → slice_get (by_id make id l) i ≡ Some y
    → (f : OpenFamily) × (slice_get l i ≡ Some f) × (y ≡ make n f)
at-by_id make id n i [] y q e = absurd (cc)
at-by_id make id n zero (f ∷ l) y q e = (f, refl, sym (some e) ∙ ap (λ k. make k f) (let p : id ≡ n = omega (arith, q) in p))
at-by_id make id n (suc i) (f ∷ l) y q e = at-by_id make (suc id) n i l y (omega (arith, q)) e

by_id-grown : {A : Type 0} (make : ℕ → OpenFamily → A) (id n : ℕ) (l : List OpenFamily) (f : OpenFamily) → n ≡ id + length l
    → by_id make id (l ++ f ∷ []) ≡ by_id make id l ++ make n f ∷ []
by_id-grown make id n [] f q = ap (λ k. make k f ∷ []) (let p : id ≡ n = omega (arith, q) in p)
by_id-grown make id n (g ∷ l) f q = ap (λ z. make id g ∷ z) (by_id-grown make (suc id) n l f (omega (arith, q)))

pub by_id-push : {A : Type 0} (make : ℕ → OpenFamily → A) (l : List OpenFamily) (f : OpenFamily)
    → by_id make 0 (l ++ f ∷ []) ≡ by_id make 0 l ++ make (length l) f ∷ []
by_id-push make l f = by_id-grown make 0 (length l) l f (omega arith)

-- ---- writes, numbers and files of one family more
writes-grown : (id n : ℕ) (l : List OpenFamily) (f : OpenFamily) → n ≡ id + length l
    → opening_writes id (l ++ f ∷ []) ≡ opening_writes id l ++ map (opening_write n) f.writes.items
writes-grown id n [] f q = append-nil (map (opening_write id) f.writes.items) ∙ ap (λ k. map (opening_write k) f.writes.items) (let p : id ≡ n = omega (arith, q) in p)
writes-grown id n (g ∷ l) f q =
    let own = map (opening_write id) g.writes.items in
    ap (λ z. own ++ z) (writes-grown (suc id) n l f (omega (arith, q)))
    ∙ sym (append_assoc own (opening_writes (suc id) l) (map (opening_write n) f.writes.items))

writes-push : (l : List OpenFamily) (f : OpenFamily) → opening_writes 0 (l ++ f ∷ []) ≡ opening_writes 0 l ++ map (opening_write (length l)) f.writes.items
writes-push l f = writes-grown 0 (length l) l f (omega arith)

numbers-grown : (id n : ℕ) (l : List OpenFamily) (f : OpenFamily) → n ≡ id + length l
    → opening_numbers id (l ++ f ∷ []) ≡ opening_numbers id l ++ map (numbered n) f.files.items
numbers-grown id n [] f q = append-nil (map (numbered id) f.files.items) ∙ ap (λ k. map (numbered k) f.files.items) (let p : id ≡ n = omega (arith, q) in p)
numbers-grown id n (g ∷ l) f q =
    let own = map (numbered id) g.files.items in
    ap (λ z. own ++ z) (numbers-grown (suc id) n l f (omega (arith, q)))
    ∙ sym (append_assoc own (opening_numbers (suc id) l) (map (numbered n) f.files.items))

numbers-push : (l : List OpenFamily) (f : OpenFamily) → opening_numbers 0 (l ++ f ∷ []) ≡ opening_numbers 0 l ++ map (numbered (length l)) f.files.items
numbers-push l f = numbers-grown 0 (length l) l f (omega arith)

-- the writes so far and the next family's are some of all
pub writes-room : (id i : ℕ) (l : List OpenFamily) (f : OpenFamily) → slice_get l i ≡ Some f
    → length (opening_writes id (take i l)) + length f.writes.items ≤ length (opening_writes id l)
writes-room id i [] f e = absurd (cc)
writes-room id zero (g ∷ l) f e =
    let own = map (opening_write id) g.writes.items in
    omega (arith, length-append own (opening_writes (suc id) l), length-map g.writes.items (opening_write id), ap (λ (z : OpenFamily). length z.writes.items) (some e))
writes-room id (suc i) (g ∷ l) f e =
    let own = map (opening_write id) g.writes.items in
    omega (arith, length-append own (opening_writes (suc id) l), length-append own (opening_writes (suc id) (take i l)), writes-room (suc id) i l f e)

-- ---- the same, as a loop over all goes on
pub take-more : {A : Type 0} (l : List A) (i : ℕ) (x : A) → slice_get l i ≡ Some x → take (i + 1) l ≡ take i l ++ x ∷ []
take-more l i x e = ap (λ n. take n l) (let p : i + 1 ≡ suc i = omega arith in p) ∙ take-next l i x e

so-far : (l : List OpenFamily) (i : ℕ) (f : OpenFamily) → slice_get l i ≡ Some f → length (take i l) ≡ i
so-far l i f e = length-so-far l i (omega (arith, slice_get_within l i f e))

pub writes-more : (l : List OpenFamily) (i : ℕ) (f : OpenFamily) → slice_get l i ≡ Some f
    → opening_writes 0 (take (i + 1) l) ≡ opening_writes 0 (take i l) ++ map (opening_write i) f.writes.items
writes-more l i f e =
    ap (opening_writes 0) (take-more l i f e) ∙ writes-push (take i l) f
    ∙ ap (λ n. opening_writes 0 (take i l) ++ map (opening_write n) f.writes.items) (so-far l i f e)

pub numbers-more : (l : List OpenFamily) (i : ℕ) (f : OpenFamily) → slice_get l i ≡ Some f
    → opening_numbers 0 (take (i + 1) l) ≡ opening_numbers 0 (take i l) ++ map (numbered i) f.files.items
numbers-more l i f e =
    ap (opening_numbers 0) (take-more l i f e) ∙ numbers-push (take i l) f
    ∙ ap (λ n. opening_numbers 0 (take i l) ++ map (numbered n) f.files.items) (so-far l i f e)
