-- The laws of families stand where one is changed, made or taken back.
use Rattle.std.proofs.Common.{◌≡◌, ◌≢◌, ℕ, zero, suc, ◌<◌, ◌⊎◌, inl, inr, Bool, true, false, nat_le, List, [], ◌∷◌, ◌++◌, length, replicate, Option, Some, None, slice_get, set, arith, refl, sym, ap, subst, ◌∙◌, length-set, length-append, append-nil}
use Rattle.std.specs.Option.{option_to_list}
use Rattle.std.proofs.lemmas.Bool.{leb-false}
use Rattle.sv_model.specs.declared.records.Family.{Family}
use Rattle.sv_model.specs.declared.refusals.Refusal.{Refusal}
use Rattle.sv_model.specs.declared.refusals.Refusal.TheVariants as refusal
use Rattle.sv_model.specs.Families.{AreFamilies, AtMostOne, Each, HasHandle, InRange, IsDefault, IsOwn, IsStanding, default_family, first_options}
use Rattle.sv_model.proofs.Registers.{entry-old, entry-same, entry-else, entry_push, entry_change}
use Rattle.sv_model.proofs.RefusalLaws.{none_due}
use Rattle.sv_model.specs.declared.limits.TheConstants.{MAX_FAMILIES}
use Rattle.sv_family.specs.Calls.{new_family}
use Rattle.sv_family.specs.Refused.{create_refusal, handle_refusal, has_handle, stands, taken_refusal, when}
use Rattle.sv_family.proofs.SoughtFamilies.{own_known, standing_known}
use Rattle.sv_model.proofs.Basics.{apart_or}

pub some : {A : Type 0} (x y : A) → Some x ≡ Some y → x ≡ y
some x y e = cc

pub get_set : {A : Type 0} (l : List A) (i k : ℕ) (y z : A) → slice_get (set l i y) k ≡ Some z →
    ((k ≡ i) × (z ≡ y)) ⊎ ((k ≢ i) × (slice_get l k ≡ Some z))
get_set l i k y z h = elim (entry_change l (suc i) (suc k) y z h) [
  | inl here ↦ inl (let e = here.0 in omega arith, here.1)
  | inr other ↦ inr (λ e. other.0 (ap suc e), other.1)
]

get_push : {A : Type 0} (l : List A) (k : ℕ) (y z : A) → slice_get (l ++ y ∷ []) k ≡ Some z →
    (slice_get l k ≡ Some z) ⊎ ((k ≡ length l) × (z ≡ y))
get_push l k y z h = elim (entry_push l y (suc k) z h) [
  | inl old ↦ inl old
  | inr new ↦ inr (let e = new.0 in omega arith, new.1)
]

-- ---- one family is changed
most_set : (Is : Family → Type 0) (families : List Family) (id : ℕ) (y : Family) → AtMostOne Is families →
    (Is y → (g : ℕ) (z : Family) → slice_get families g ≡ Some z → Is z → g ≡ id) →
    AtMostOne Is (set families id y)
most_set Is families id y h only f g a b f_is g_is a_so b_so = elim (get_set families id f y a f_is) [
  | inl here ↦ (let at = here.0 in elim (get_set families id g y b g_is) [
    | inl there ↦ (let e = there.0 in omega arith)
    | inr there ↦ (let e = only (subst Is here.1 a_so) g b there.1 b_so in omega arith)
  ])
  | inr here ↦ elim (get_set families id g y b g_is) [
    | inl there ↦ (let at = there.0 in let e = only (subst Is there.1 b_so) f a here.1 a_so in omega arith)
    | inr there ↦ h f g a b here.1 there.1 a_so b_so
  ]
]

each_set : (Is : Family → Type 0) (families : List Family) (id : ℕ) (y : Family) → Each Is families → Is y →
    Each Is (set families id y)
each_set Is families id y h so f x f_is = elim (get_set families id f y x f_is) [
  | inl here ↦ subst Is (sym here.1) so
  | inr other ↦ h f x other.1
]

-- The change keeps what the laws speak of.
pub record Keeps (families : List Family) (id : ℕ) (x y : Family) : Type 0 where
  pub at : slice_get families id ≡ Some x
  pub name_is : y.name ≡ x.name
  pub dropped : y.dropped ≡ false → x.dropped ≡ false
  pub meant : (lane g : ℕ) (z : Family) → HasHandle lane y → slice_get families g ≡ Some z → HasHandle lane z →
      z.name ≡ x.name → g ≡ id
  pub options : InRange y.options
  pub lanes : length y.handles ≡ 32
  pub default : id ≡ 0 → (y.dropped ≡ false) × ((lane : ℕ) → lane < 32 → HasHandle lane y)

module _ (families : List Family) (id : ℕ) (x y : Family) (h : AreFamilies families) (k : Keeps families id x y) where
  default_set : IsDefault (set families id y)
  default_set = elim (apart_or 0 id) [
    | inl here ↦ (
        let e : x ≡ h.default.it = some x h.default.it (sym k.at ∙ ap (slice_get families) (sym here) ∙ h.default.at) in
        record {
          it = y;
          at = subst (λ i. slice_get (set families id y) i ≡ Some y) (sym here) (entry-same families (suc id) x y k.at);
          name_is = k.name_is ∙ ap (λ (f : Family). f.name) e ∙ h.default.name_is;
          stands = (k.default (sym here)).0;
        })
    | inr other ↦ record {
      it = h.default.it;
      at = entry-else families (suc id) (suc 0) y (λ e. other (omega arith)) ∙ h.default.at;
      name_is = h.default.name_is;
      stands = h.default.stands;
    }
  ]

  home_set : (lane : ℕ) (z : Family) → lane < 32 → slice_get (set families id y) 0 ≡ Some z → HasHandle lane z
  home_set lane z few z_is = elim (get_set families id 0 y z z_is) [
    | inl here ↦ subst (HasHandle lane) (sym here.1) ((k.default (sym here.0)).1 lane few)
    | inr other ↦ h.home lane z few other.1
  ]

  pub lawful_set : AreFamilies (set families id y)
  lawful_set = record {
    few = (let e = length-set families id y in let few = h.few in omega arith);
    default = default_set;
    home = home_set;
    distinct = λ name. most_set (IsStanding name) families id y (h.distinct name) (λ so g z g_is z_so.
        h.distinct name g id z x g_is k.at z_so (record { name_is = sym k.name_is ∙ so.name_is; stands = k.dropped so.stands }));
    meant = λ lane name. most_set (IsOwn lane name) families id y (h.meant lane name) (λ so g z g_is z_so.
        k.meant lane g z so.handle g_is z_so.handle (z_so.name_is ∙ sym so.name_is ∙ k.name_is));
    options = each_set (λ f. InRange f.options) families id y h.options k.options;
    lanes = each_set (λ f. length f.handles ≡ 32) families id y h.lanes k.lanes;
  }

-- ---- one is made
first_in_range : InRange first_options
first_in_range =
    record { rows_least = omega arith; rows_most = omega arith; lists_least = omega arith; lists_most = omega arith }

pub none_true : (n lane : ℕ) → slice_get (replicate n false) lane ≡ Some true → ⊥
none_true zero lane h = let clash : None ≡ Some true = h in cc
none_true (suc n) zero h = let clash : Some false ≡ Some true = h in cc
none_true (suc n) (suc lane) h = none_true n lane h

most_push : (Is : Family → Type 0) (families : List Family) (y : Family) → AtMostOne Is families →
    (Is y → (g : ℕ) (z : Family) → slice_get families g ≡ Some z → Is z → ⊥) → AtMostOne Is (families ++ y ∷ [])
most_push Is families y h none f g a b f_is g_is a_so b_so = elim (get_push families f y a f_is) [
  | inl old ↦ elim (get_push families g y b g_is) [
    | inl there ↦ h f g a b old there a_so b_so
    | inr there ↦ absurd (none (subst Is there.1 b_so) f a old a_so)
  ]
  | inr new ↦ (let at = new.0 in elim (get_push families g y b g_is) [
    | inl there ↦ absurd (none (subst Is new.1 a_so) g b there b_so)
    | inr there ↦ (let e = there.0 in omega arith)
  ])
]

each_push : (Is : Family → Type 0) (families : List Family) (y : Family) → Each Is families → Is y →
    Each Is (families ++ y ∷ [])
each_push Is families y h so f x f_is = elim (get_push families f y x f_is) [
  | inl old ↦ h f x old
  | inr new ↦ subst Is (sym new.1) so
]

-- The family is new to the others.
pub record IsNew (families : List Family) (y : Family) : Type 0 where
  pub room : length families < 16
  pub free : (name : List ℕ) → IsStanding name y → (g : ℕ) (z : Family) → slice_get families g ≡ Some z →
      IsStanding name z → ⊥
  pub unmeant : (lane : ℕ) (name : List ℕ) → IsOwn lane name y → (g : ℕ) (z : Family) →
      slice_get families g ≡ Some z → IsOwn lane name z → ⊥
  pub options : InRange y.options
  pub lanes : length y.handles ≡ 32

pub lawful_push : (families : List Family) (y : Family) → AreFamilies families → IsNew families y →
    AreFamilies (families ++ y ∷ [])
lawful_push families y h new = record {
  few = (let room = new.room in omega (arith, length-append families (y ∷ [])));
  default = record {
    it = h.default.it;
    at = entry-old families (y ∷ []) (suc 0) h.default.it h.default.at;
    name_is = h.default.name_is;
    stands = h.default.stands;
  };
  home = λ lane z few z_is. h.home lane z few (
      let first : slice_get (families ++ y ∷ []) 0 ≡ Some h.default.it = entry-old families (y ∷ []) (suc 0) h.default.it h.default.at in
      h.default.at ∙ sym first ∙ z_is);
  distinct = λ name. most_push (IsStanding name) families y (h.distinct name) (new.free name);
  meant = λ lane name. most_push (IsOwn lane name) families y (h.meant lane name) (new.unmeant lane name);
  options = each_push (λ f. InRange f.options) families y h.options new.options;
  lanes = each_push (λ f. length f.handles ≡ 32) families y h.lanes new.lanes;
}

-- what a lane makes is new, where it is not refused
only_lane : (n lane other : ℕ) → slice_get (set (replicate n false) lane true) other ≡ Some true → other ≡ lane
only_lane n lane other h = elim (get_set (replicate n false) lane other true true h) [
  | inl here ↦ here.0
  | inr apart ↦ absurd (none_true n other apart.1)
]

none_due_of : (b : Bool) (e : Refusal) → when b e ≡ None → b ≡ false
none_due_of true e h = let clash : Some e ≡ None = h in absurd (cc)
none_due_of false e h = refl

-- where no refusal is due
pub record IsFree (families : List Family) (lane : ℕ) (name : List ℕ) : Type 0 where
  pub untaken : stands families name ≡ false
  pub unheld : has_handle families lane name ≡ false
  pub room : length families < 16

pub free_is : (families : List Family) (lane : ℕ) (name : List ℕ) → create_refusal families lane name ≡ None →
    IsFree families lane name
free_is families lane name h =
    let first = none_due (taken_refusal families name) _ h in
    let second = none_due (handle_refusal families lane name) _ first.1 in
    let third = none_due (when (nat_le MAX_FAMILIES (length families)) refusal.TooManyFamilies) [] second.1 in
    record {
      untaken = none_due_of (stands families name) refusal.NameTaken first.0;
      unheld = none_due_of (has_handle families lane name) refusal.AlreadyOpen second.0;
      room = leb-false 16 (length families) (none_due_of (nat_le MAX_FAMILIES (length families)) refusal.TooManyFamilies third.0);
    }

pub lawful_create : (families self : List Family) (lane : ℕ) (name : List ℕ) (y : Family) → families ≡ self →
    AreFamilies families → create_refusal self lane name ≡ None → y ≡ new_family lane name →
    AreFamilies (families ++ y ∷ [])
lawful_create families self lane name y same h due y_is =
    let free = free_is families lane name (ap (λ l. create_refusal l lane name) same ∙ due) in
    subst (λ f. AreFamilies (families ++ f ∷ [])) (sym y_is) (lawful_push families (new_family lane name) h (record {
      room = free.room;
      free = λ other own g z g_is so. (
          let clash : true ≡ false = sym (standing_known families name g z g_is (record { name_is = so.name_is ∙ sym own.name_is; stands = so.stands })) ∙ free.untaken in
          cc);
      unmeant = λ k other own g z g_is so. (
          let here : k ≡ lane = only_lane 32 lane k own.handle in
          let meant : IsOwn lane name z = record { name_is = so.name_is ∙ sym own.name_is; handle = subst (λ l. HasHandle l z) here so.handle } in
          let clash : true ≡ false = sym (own_known families lane name g z g_is meant) ∙ free.unheld in
          cc);
      options = first_in_range;
      lanes = length-set (replicate 32 false) lane true;
    }))

-- ---- the one made last is taken back
get_old : {A : Type 0} (l m : List A) (k : ℕ) (z : A) → slice_get l k ≡ Some z → slice_get (l ++ m) k ≡ Some z
get_old l m k z h = entry-old l m (suc k) z h

first_of : {A : Type 0} (l : List A) (y x : A) → 1 < length (l ++ y ∷ []) → slice_get (l ++ y ∷ []) 0 ≡ Some x →
    slice_get l 0 ≡ Some x
first_of [] y x more h = absurd (omega arith)
first_of (z ∷ l) y x more h = h

lawful_rest : (rest : List Family) (y : Family) → 1 < length (rest ++ y ∷ []) → AreFamilies (rest ++ y ∷ []) →
    AreFamilies rest
lawful_rest rest y more h = record {
  few = (let few = h.few in omega (arith, length-append rest (y ∷ [])));
  default = record {
    it = h.default.it;
    at = first_of rest y h.default.it more h.default.at;
    name_is = h.default.name_is;
    stands = h.default.stands;
  };
  home = λ lane z few z_is. h.home lane z few (get_old rest (y ∷ []) 0 z z_is);
  distinct = λ name f g a b f_is g_is. h.distinct name f g a b (get_old rest (y ∷ []) f a f_is) (get_old rest (y ∷ []) g b g_is);
  meant = λ lane name f g a b f_is g_is. h.meant lane name f g a b (get_old rest (y ∷ []) f a f_is) (get_old rest (y ∷ []) g b g_is);
  options = λ f x f_is. h.options f x (get_old rest (y ∷ []) f x f_is);
  lanes = λ f x f_is. h.lanes f x (get_old rest (y ∷ []) f x f_is);
}

pub lawful_pop : (families self rest : List Family) (last : Option Family) → families ≡ self → 1 < length self →
    families ≡ rest ++ option_to_list last → AreFamilies families → AreFamilies rest
lawful_pop families self rest None same more e h = subst AreFamilies (e ∙ append-nil rest) h
lawful_pop families self rest (Some y) same more e h =
    lawful_rest rest y (subst (λ l. 1 < length l) (sym same ∙ e) more) (subst AreFamilies e h)

-- ---- the default family alone
only_first : (f : ℕ) (y x : Family) → slice_get (y ∷ []) f ≡ Some x → (f ≡ 0) × (x ≡ y)
only_first zero y x h = (refl, sym (some y x h))
only_first (suc f) y x h = let e : None ≡ Some x = h in absurd (cc)

all_true : (n lane : ℕ) → lane < n → slice_get (replicate n true) lane ≡ Some true
all_true zero lane h = absurd (omega arith)
all_true (suc n) zero h = refl
all_true (suc n) (suc lane) h = all_true n lane (omega arith)

most_one : (Is : Family → Type 0) (y : Family) → AtMostOne Is (y ∷ [])
most_one Is y f g a b f_is g_is a_so b_so = (only_first f y a f_is).0 ∙ sym (only_first g y b g_is).0

each_one : (Is : Family → Type 0) (y : Family) → Is y → Each Is (y ∷ [])
each_one Is y so f x f_is = subst Is (sym (only_first f y x f_is).1) so

first_lawful : AreFamilies (default_family ∷ [])
first_lawful = record {
  few = omega arith;
  default = record { it = default_family; at = refl; name_is = refl; stands = refl };
  home = λ lane z few z_is. subst (HasHandle lane) (sym (only_first 0 default_family z z_is).1) (all_true 32 lane few);
  distinct = λ name. most_one (IsStanding name) default_family;
  meant = λ lane name. most_one (IsOwn lane name) default_family;
  options = each_one (λ f. InRange f.options) default_family first_in_range;
  lanes = each_one (λ f. length f.handles ≡ 32) default_family refl;
}

pub lawful_new : (none families : List Family) (y : Family) → none ≡ [] → y ≡ default_family →
    families ≡ none ++ y ∷ [] → AreFamilies families
lawful_new none families y none_is y_is e =
    subst AreFamilies (sym (e ∙ ap (λ l. l ++ y ∷ []) none_is ∙ ap (λ f. f ∷ []) y_is)) first_lawful
