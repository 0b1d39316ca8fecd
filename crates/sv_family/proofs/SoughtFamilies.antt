-- What the scan of the families finds.
use Rattle.std.proofs.Common.{◌≡◌, ℕ, zero, suc, ◌+◌, ◌<◌, Bool, true, false, cond, not, ◌==◌, zero-add, ◌&&◌, ◌||◌, List, [], ◌∷◌, length, get_or, Option, Some, None, is_some, IsSomeAnd, slice_get, arith, refl, sym, ap, subst, ◌∙◌, ltb}
use Rattle.std.specs.Prelude.{position, option_map}
use Rattle.std.specs.List.{position_or_len, list_any}
use Rattle.std.proofs.lemmas.Bool.{lt-ltb, ne_eqb}
use Rattle.std.proofs.lemmas.Bool.Decides.{nat_tests}
use Rattle.std.proofs.lemmas.List.Quantifiers.{position-Some}
use Rattle.std.proofs.lemmas.Option.{slice_get-get_or}
use Rattle.std.proofs.lemmas.Slice.Eq.{bytes_eq-Decides}
use Rattle.std.specs.Str.{bytes_eq}
use Rattle.sv_model.specs.declared.records.Family.{Family}
use Rattle.sv_model.specs.declared.refusals.Refusal.{Refusal}
use Rattle.sv_model.specs.declared.refusals.Refusal.TheVariants as refusal
use Rattle.sv_model.specs.Lists.{bit, total}
use Rattle.sv_model.specs.Refusals.{first_due}
use Rattle.sv_model.specs.Families.{AtMostOne, IsOwn, IsStanding, is_retired}
use Rattle.sv_family.specs.Refused.{dropped_refusal, has_handle, is_own, is_standing, stands, when}

-- ---- the scan
any_next : (b rest : Bool) (k n : ℕ) → rest ≡ ltb k n → (b || rest) ≡ ltb (cond (not b) (1 + k) 0) (suc n)
any_next true rest k n e = sym (lt-ltb 0 (suc n) (omega arith))
any_next false rest k n e = grind (arith, nat_tests)

any_within : {A : Type 0} (p : A → Bool) (l : List A) → list_any p l ≡ ltb (position_or_len p l) (length l)
any_within p [] = refl
any_within p (x ∷ l) = any_next (p x) (list_any p l) (position_or_len p l) (length l) (any_within p l)

some_if : (b : Bool) (i : ℕ) → is_some (cond b (Some i) None) ≡ b
some_if true i = refl
some_if false i = refl

pub position_any : {A : Type 0} (p : A → Bool) (l : List A) → is_some (position p l) ≡ list_any p l
position_any p l = some_if (ltb (position_or_len p l) (length l)) (position_or_len p l) ∙ sym (any_within p l)

-- ---- what the tests say
both : (a b : Bool) → (a && b) ≡ true → (a ≡ true) × (b ≡ true)
both true b h = (refl, h)
both false b h = let e : false ≡ true = h in absurd (cc)

neither : (b : Bool) → not b ≡ true → b ≡ false
neither true h = let e : false ≡ true = h in absurd (cc)
neither false h = refl

read_true : (handles : List Bool) (lane : ℕ) → get_or handles lane false ≡ true → slice_get handles lane ≡ Some true
read_true [] lane h = let e : false ≡ true = h in absurd (cc)
read_true (b ∷ handles) zero h = ap Some h
read_true (b ∷ handles) (suc lane) h = read_true handles lane h

pub own_is : (lane : ℕ) (name : List ℕ) (f : Family) → is_own lane name f ≡ true → IsOwn lane name f
own_is lane name f h =
    let e = both (bytes_eq f.name name) (get_or f.handles lane false) h in
    record { name_is = (bytes_eq-Decides f.name name).0 e.0; handle = read_true f.handles lane e.1 }

pub standing_is : (name : List ℕ) (f : Family) → is_standing name f ≡ true → IsStanding name f
standing_is name f h =
    let e = both (bytes_eq f.name name) (not f.dropped) h in
    record { name_is = (bytes_eq-Decides f.name name).0 e.0; stands = neither f.dropped e.1 }

-- ---- what the scan finds
found_at : {A : Type 0} (p : A → Bool) (Is : A → Type 0) → ((x : A) → p x ≡ true → Is x) → (l : List A) (i : ℕ) →
    i < length l → ((d : A) → p (get_or l i d) ≡ true) → IsSomeAnd (slice_get l i) Is
found_at p Is means [] i within h = absurd (omega arith)
found_at p Is means (x ∷ l) i within h =
    subst (λ o. IsSomeAnd o Is) (sym (slice_get-get_or (x ∷ l) i x within)) (means (get_or (x ∷ l) i x) (h x))

position_is : {A : Type 0} (p : A → Bool) (Is : A → Type 0) → ((x : A) → p x ≡ true → Is x) →
    (l : List A) (i : ℕ) → position p l ≡ Some i → IsSomeAnd (slice_get l i) Is
position_is p Is means [] i h = let e : None ≡ Some i = h in absurd (cc)
position_is p Is means (x ∷ l) i h =
    found_at p Is means (x ∷ l) i (position-Some p (x ∷ l) i x h).0 (λ d. (position-Some p (x ∷ l) i d h).1)

module _ (families self : List Family) (same : families ≡ self) where
  pub own_at : (lane : ℕ) (name : List ℕ) (i : ℕ) → Some i ≡ position (is_own lane name) families →
      IsSomeAnd (slice_get self i) (IsOwn lane name)
  own_at lane name i h =
      position_is (is_own lane name) (IsOwn lane name) (own_is lane name) self i
      (sym (h ∙ ap (position (is_own lane name)) same))

  pub own_exact : (lane : ℕ) (name : List ℕ) (found : Option ℕ) → found ≡ position (is_own lane name) families →
      is_some found ≡ has_handle self lane name
  own_exact lane name found h =
      ap is_some (h ∙ ap (position (is_own lane name)) same) ∙ position_any (is_own lane name) self

  pub standing_at : (name : List ℕ) (i : ℕ) → Some i ≡ position (is_standing name) families →
      IsSomeAnd (slice_get self i) (IsStanding name)
  standing_at name i h =
      position_is (is_standing name) (IsStanding name) (standing_is name) self i
      (sym (h ∙ ap (position (is_standing name)) same))

  pub standing_exact : (name : List ℕ) (found : Option ℕ) → found ≡ position (is_standing name) families →
      is_some found ≡ stands self name
  standing_exact name found h =
      ap is_some (h ∙ ap (position (is_standing name)) same) ∙ position_any (is_standing name) self

-- ---- what is there is found
any_at : {A : Type 0} (p : A → Bool) (l : List A) (i : ℕ) (x : A) → slice_get l i ≡ Some x → p x ≡ true →
    list_any p l ≡ true
any_at p [] i x at h = let e : None ≡ Some x = at in absurd (cc)
any_at p (y ∷ l) zero x at h = let e : y ≡ x = cc in ap (λ b. b || list_any p l) (ap p e ∙ h)
any_at p (y ∷ l) (suc i) x at h = later (p y) (list_any p l) (any_at p l i x at h)
  where
    later : (a b : Bool) → b ≡ true → (a || b) ≡ true
    later true b e = refl
    later false b e = e

read_is_true : (handles : List Bool) (lane : ℕ) → slice_get handles lane ≡ Some true → get_or handles lane false ≡ true
read_is_true [] lane h = let e : None ≡ Some true = h in absurd (cc)
read_is_true (b ∷ handles) zero h = cc
read_is_true (b ∷ handles) (suc lane) h = read_is_true handles lane h

pub own_test : (lane : ℕ) (name : List ℕ) (f : Family) → IsOwn lane name f → is_own lane name f ≡ true
own_test lane name f h =
    ap (λ b. b && get_or f.handles lane false) ((bytes_eq-Decides f.name name).1 h.name_is)
    ∙ read_is_true f.handles lane h.handle

pub standing_test : (name : List ℕ) (f : Family) → IsStanding name f → is_standing name f ≡ true
standing_test name f h =
    ap (λ b. b && not f.dropped) ((bytes_eq-Decides f.name name).1 h.name_is) ∙ ap not h.stands

pub own_known : (families : List Family) (lane : ℕ) (name : List ℕ) (g : ℕ) (z : Family) →
    slice_get families g ≡ Some z → IsOwn lane name z → has_handle families lane name ≡ true
own_known families lane name g z at h = any_at (is_own lane name) families g z at (own_test lane name z h)

pub standing_known : (families : List Family) (name : List ℕ) (g : ℕ) (z : Family) →
    slice_get families g ≡ Some z → IsStanding name z → stands families name ≡ true
standing_known families name g z at h = any_at (is_standing name) families g z at (standing_test name z h)

-- ---- the lane's family is dropped, or it is not
none_any : {A : Type 0} (p : A → Bool) (l : List A) → ((i : ℕ) (x : A) → slice_get l i ≡ Some x → p x ≡ false) →
    list_any p l ≡ false
none_any p [] none = refl
none_any p (x ∷ l) none = ap (λ b. b || list_any p l) (none 0 x refl) ∙ none_any p l (λ i y at. none (suc i) y at)

module _ (families : List Family) (lane : ℕ) (name : List ℕ) (id : ℕ) (found : IsSomeAnd (slice_get families id) (IsOwn lane name)) where
  the_own : (o : Option Family) → IsSomeAnd o (IsOwn lane name) → (x : Family) × (o ≡ Some x) × IsOwn lane name x
  the_own None h = absurd h
  the_own (Some x) h = (x, refl, h)

  read_dropped : (b : Bool) → option_map (λ f. f.dropped) (slice_get families id) ≡ Some b →
      (x : Family) × (slice_get families id ≡ Some x) × IsOwn lane name x × (x.dropped ≡ b)
  read_dropped b e =
      let h = the_own (slice_get families id) found in
      let same : Some h.0.dropped ≡ Some b = ap (option_map (λ (f : Family). f.dropped)) (sym h.1) ∙ e in
      (h.0, h.1, h.2, cc)

  -- the handle is of a dropped family
  dropped_due : option_map (λ f. f.dropped) (slice_get families id) ≡ Some true →
      dropped_refusal families lane name ≡ Some refusal.Dropped
  dropped_due e =
      let h = read_dropped true e in
      let passes : (is_own lane name h.0 && h.0.dropped) ≡ true = ap (λ b. b && h.0.dropped) (own_test lane name h.0 h.2) ∙ h.3 in
      ap (λ b. when b refusal.Dropped) (any_at (λ f. is_own lane name f && f.dropped) families id h.0 h.1 passes)

  -- no other handle of the name is the lane's
  dropped_not_due : AtMostOne (IsOwn lane name) families →
      option_map (λ f. f.dropped) (slice_get families id) ≡ Some false → dropped_refusal families lane name ≡ None
  dropped_not_due one e =
      let h = read_dropped false e in
      ap (λ b. when b refusal.Dropped) (none_any (λ f. is_own lane name f && f.dropped) families (λ i x at. fails (is_own lane name x) x.dropped (λ own.
      let own_x = own_is lane name x own in
      let here : i ≡ id = one i id x h.0 at h.1 own_x h.2 in
      let same : Some x ≡ Some h.0 = sym at ∙ ap (slice_get families) here ∙ h.1 in
      let x_is : x ≡ h.0 = cc in
      ap (λ (f : Family). f.dropped) x_is ∙ h.3)))
    where
      fails : (a b : Bool) → (a ≡ true → b ≡ false) → (a && b) ≡ false
      fails true b h = h refl
      fails false b h = refl

  -- and so after another test
  pub dropped_due_next : (first : Option Refusal) → first ≡ None →
      option_map (λ f. f.dropped) (slice_get families id) ≡ Some true →
      first_due (first ∷ dropped_refusal families lane name ∷ []) ≡ Some refusal.Dropped
  dropped_due_next first none e =
      ap (λ d. first_due (d ∷ dropped_refusal families lane name ∷ [])) none
      ∙ ap (λ d. first_due (d ∷ [])) (dropped_due e)

  pub dropped_not_due_next : (first : Option Refusal) → first ≡ None → AtMostOne (IsOwn lane name) families →
      option_map (λ f. f.dropped) (slice_get families id) ≡ Some false →
      first_due (first ∷ dropped_refusal families lane name ∷ []) ≡ None
  dropped_not_due_next first none one e =
      ap (λ d. first_due (d ∷ dropped_refusal families lane name ∷ [])) none
      ∙ ap (λ d. first_due (d ∷ [])) (dropped_not_due one e)

-- ---- no lane has a handle
none_held : (handles : List Bool) → (total bit handles == 0) ≡ not (list_any (λ held. held) handles)
none_held [] = refl
none_held (true ∷ handles) = ne_eqb (1 + total bit handles) 0 (λ e. omega (arith, e))
none_held (false ∷ handles) = ap (λ n. n == 0) (zero-add (total bit handles)) ∙ none_held handles

pub retired_is : (f : Family) (held : Bool) → held ≡ list_any (λ held. held) f.handles → f.dropped ≡ true →
    not held ≡ is_retired f
retired_is f held held_is dropped =
    ap not held_is ∙ sym (none_held f.handles) ∙ sym (ap (λ b. b && (total bit f.handles == 0)) dropped)
