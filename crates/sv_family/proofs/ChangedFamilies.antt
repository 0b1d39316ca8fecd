-- The family that a call reads and changes, and that the laws stand after it.
use Rattle.std.proofs.Common.{◌≡◌, ℕ, suc, ◌<◌, ◌≤◌, ◌⊎◌, inl, inr, Bool, true, false, not, ◌&&◌, nat_le, List, [], ◌∷◌, length, get_or, Option, Some, None, IsSomeAnd, slice_get, set, arith, refl, sym, ap, subst, ◌∙◌, length-set}
use Rattle.std.specs.Option.{option_map}
use Rattle.std.proofs.lemmas.Bool.{leb-true}
use Rattle.std.proofs.lemmas.Option.{slice_get_within, slice_get_read}
use Rattle.sv_model.specs.declared.records.Family.{Family}
use Rattle.sv_model.specs.declared.settings.Options.{Options}
use Rattle.sv_model.specs.declared.settings.OptionName.{OptionName}
use Rattle.sv_model.specs.declared.settings.OptionName.TheVariants.{MemtableRows, MaxImmutable}
use Rattle.sv_model.specs.declared.refusals.Refusal.{Refusal}
use Rattle.sv_model.specs.declared.refusals.Refusal.TheVariants as refusal
use Rattle.sv_model.specs.Families.{AreFamilies, HasHandle, InRange, IsOwn, IsOwnStanding, IsStanding, greatest_of}
use Rattle.sv_model.proofs.Registers.{entry-same, entry-else}
use Rattle.sv_model.proofs.RefusalLaws.{none_due}
use Rattle.sv_family.specs.Calls.{IsChanged, IsGivenUp, as_dropped, with_option, with_handle, without_handles, as_set}
use Rattle.sv_family.specs.Refused.{change_refusal, has_handle, option_refusal, set_refusal, when}
use Rattle.sv_family.proofs.SoughtFamilies.{own_known}
use Rattle.sv_family.proofs.LawfulFamilies.{lawful_set, get_set, none_true, some}
use Rattle.sv_model.proofs.Basics.{apart_or}

-- the family at the place that was found, as the code reads it there
pub record WasRead (Is : Family → Type 0) (families self : List Family) (n id : ℕ) (r : Family) : Type 0 where
  pub same : families ≡ self
  pub place : n ≡ id
  pub there : IsSomeAnd (slice_get self id) Is
  pub read : r ≡ get_or families n r

some_such : (Is : Family → Type 0) (o : Option Family) → IsSomeAnd o Is → (x : Family) × (o ≡ Some x) × Is x
some_such Is None h = absurd h
some_such Is (Some x) h = (x, refl, h)

-- the lane's family, which was found not to be dropped
pub own_standing : (families : List Family) (lane : ℕ) (name : List ℕ) (id : ℕ) →
    IsSomeAnd (slice_get families id) (IsOwn lane name) →
    option_map (λ f. f.dropped) (slice_get families id) ≡ Some false →
    IsSomeAnd (slice_get families id) (IsOwnStanding lane name)
own_standing families lane name id = by (slice_get families id)
  where
    by : (o : Option Family) → IsSomeAnd o (IsOwn lane name) → option_map (λ f. f.dropped) o ≡ Some false →
        IsSomeAnd o (IsOwnStanding lane name)
    by None h e = absurd h
    by (Some x) h e = let same : Some x.dropped ≡ Some false = e in record { own = h; stands = some x.dropped false same }

module _ (Is : Family → Type 0) (families self : List Family) (n id : ℕ) (r : Family) (w : WasRead Is families self n id r) where
  there : (x : Family) × (slice_get families n ≡ Some x) × Is x
  there =
      let h = some_such Is (slice_get self id) w.there in
      (h.0, ap (λ l. slice_get l n) w.same ∙ ap (slice_get self) w.place ∙ h.1, h.2)

  pub read_within : n < length families
  read_within = slice_get_within families n there.0 there.1

  pub read_at : slice_get families n ≡ Some r
  read_at = slice_get_read families (length families) n r refl read_within w.read

  pub read_is : Is r
  read_is = subst Is (some there.0 r (sym there.1 ∙ read_at)) there.2

  pub changed_is : (change : Family → Family) → IsChanged Is change self id (set families n (change r))
  changed_is change = record {
    it = r;
    at = sym (ap (slice_get self) w.place) ∙ sym (ap (λ l. slice_get l n) w.same) ∙ read_at;
    was = read_is;
    changed = ap (λ l. set l n (change r)) w.same ∙ ap (λ i. set self i (change r)) w.place;
  }

-- ---- what the changes leave of handles
held_before : (handles : List Bool) (lane k : ℕ) → slice_get (set handles lane false) k ≡ Some true →
    slice_get handles k ≡ Some true
held_before handles lane k h = elim (get_set handles lane k false true h) [
  | inl here ↦ (let clash : true ≡ false = here.1 in absurd (cc))
  | inr apart ↦ apart.1
]

held_after : (handles : List Bool) (lane k : ℕ) → slice_get (set handles lane true) k ≡ Some true →
    (k ≡ lane) ⊎ (slice_get handles k ≡ Some true)
held_after handles lane k h = elim (get_set handles lane k true true h) [
  | inl here ↦ inl here.0
  | inr apart ↦ inr apart.1
]

still_held : (handles : List Bool) (lane k : ℕ) → slice_get handles k ≡ Some true →
    slice_get (set handles lane true) k ≡ Some true
still_held handles lane k h =
    let After : ℕ → Type 0 = λ n. slice_get (set handles lane true) n ≡ Some true in
    elim (apart_or k lane) [
      | inl here ↦ subst After (sym here) (entry-same handles (suc lane) true true (ap (slice_get handles) (sym here) ∙ h))
      | inr apart ↦ entry-else handles (suc lane) (suc k) true (λ e. apart (omega arith)) ∙ h
    ]

-- ---- which values are in range
in_range : (value most : ℕ) (e : Refusal) → when (not (nat_le 1 value && nat_le value most)) e ≡ None →
    (1 ≤ value) × (value ≤ most)
in_range value most e h = by (nat_le 1 value) (nat_le value most) refl refl h
  where
    by : (a b : Bool) → nat_le 1 value ≡ a → nat_le value most ≡ b → when (not (a && b)) e ≡ None →
        (1 ≤ value) × (value ≤ most)
    by true true x y q = (leb-true 1 value x, leb-true value most y)
    by true false x y q = absurd (let clash : Some e ≡ None = q in cc)
    by false b x y q = absurd (let clash : Some e ≡ None = q in cc)

pub set_in_range : (families : List Family) (lane : ℕ) (name : List ℕ) (option : OptionName) (value : ℕ) →
    set_refusal families lane name option value ≡ None → (1 ≤ value) × (value ≤ greatest_of option)
set_in_range families lane name option value h =
    in_range value (greatest_of option) (refusal.BadOption value 1 (greatest_of option))
    (none_due (option_refusal option value) (change_refusal families lane name ∷ []) h).0

option_in_range : (option : OptionName) (value : ℕ) (o : Options) → InRange o →
    (1 ≤ value) × (value ≤ greatest_of option) → InRange (with_option option value o)
option_in_range MemtableRows value o h v =
    record { rows_least = v.0; rows_most = v.1; lists_least = h.lists_least; lists_most = h.lists_most }
option_in_range MaxImmutable value o h v =
    record { rows_least = h.rows_least; rows_most = h.rows_most; lists_least = v.0; lists_most = v.1 }

-- ---- the changes
module _ (families self : List Family) (n id : ℕ) (r : Family) (h : AreFamilies families) where
  -- a handle that stood keeps its name for the lane
  meant_kept : slice_get families n ≡ Some r → (k g : ℕ) (z : Family) → HasHandle k r →
      slice_get families g ≡ Some z → HasHandle k z → z.name ≡ r.name → g ≡ n
  meant_kept at k g z held g_is z_held name_is =
      h.meant k r.name g n z r g_is at (record { name_is = name_is; handle = z_held })
      (record { name_is = refl; handle = held })

  -- so does the default family
  home_kept : slice_get families n ≡ Some r → n ≡ 0 → (k : ℕ) → k < 32 → HasHandle k r
  home_kept at e k few = h.home k r few (ap (slice_get families) (sym e) ∙ at)

  default_stands : slice_get families n ≡ Some r → n ≡ 0 → r.dropped ≡ false
  default_stands at e =
      let is : r ≡ h.default.it = some r h.default.it (sym at ∙ ap (slice_get families) e ∙ h.default.at) in
      ap (λ (f : Family). f.dropped) is ∙ h.default.stands

  pub lawful_retire : WasRead IsGivenUp families self n id r → AreFamilies (set families n (without_handles r))
  lawful_retire w =
      let at = read_at IsGivenUp families self n id r w in
      let gone : r.dropped ≡ true = read_is IsGivenUp families self n id r w in
      lawful_set families n r (without_handles r) h (record {
        at = at;
        name_is = refl;
        dropped = λ e. e;
        meant = λ k g z held. absurd (none_true 32 k held);
        options = h.options n r at;
        lanes = refl;
        default = λ e. absurd (let clash : true ≡ false = sym gone ∙ default_stands at e in cc);
      })

  module _ (lane : ℕ) (name : List ℕ) where
    pub lawful_release : WasRead (IsOwn lane name) families self n id r → 0 < id →
        AreFamilies (set families n (with_handle lane false r))
    lawful_release w other =
        let at = read_at (IsOwn lane name) families self n id r w in
        lawful_set families n r (with_handle lane false r) h (record {
          at = at;
          name_is = refl;
          dropped = λ e. e;
          meant = λ k g z held. meant_kept at k g z (held_before r.handles lane k held);
          options = h.options n r at;
          lanes = length-set r.handles lane false ∙ h.lanes n r at;
          default = λ e. absurd (omega (arith, w.place));
        })

    pub lawful_drop : WasRead (IsOwnStanding lane name) families self n id r → 0 < id →
        AreFamilies (set families n (as_dropped r))
    lawful_drop w other =
        let at = read_at (IsOwnStanding lane name) families self n id r w in
        lawful_set families n r (as_dropped r) h (record {
          at = at;
          name_is = refl;
          dropped = λ e. absurd (let clash : true ≡ false = e in cc);
          meant = meant_kept at;
          options = h.options n r at;
          lanes = h.lanes n r at;
          default = λ e. absurd (omega (arith, w.place));
        })

    pub lawful_open : WasRead (IsStanding name) families self n id r → has_handle self lane name ≡ false →
        AreFamilies (set families n (with_handle lane true r))
    lawful_open w none =
        let at = read_at (IsStanding name) families self n id r w in
        let is = read_is (IsStanding name) families self n id r w in
        lawful_set families n r (with_handle lane true r) h (record {
          at = at;
          name_is = refl;
          dropped = λ e. e;
          meant = λ k g z held g_is z_held name_is. elim (held_after r.handles lane k held) [
            | inl here ↦ absurd (
                let handle : HasHandle lane z = subst (λ l. HasHandle l z) here z_held in
                let own : IsOwn lane name z = record { name_is = name_is ∙ is.name_is; handle = handle } in
                let known : has_handle families lane name ≡ true = own_known families lane name g z g_is own in
                let clash : true ≡ false = sym known ∙ ap (λ l. has_handle l lane name) w.same ∙ none in
                cc)
            | inr before ↦ meant_kept at k g z before g_is z_held name_is
          ];
          options = h.options n r at;
          lanes = length-set r.handles lane true ∙ h.lanes n r at;
          default = λ e. (is.stands, λ k few. still_held r.handles lane k (home_kept at e k few));
        })

    pub lawful_option : (option : OptionName) (value : ℕ) →
        WasRead (IsOwnStanding lane name) families self n id r → (1 ≤ value) × (value ≤ greatest_of option) →
        AreFamilies (set families n (as_set option value r))
    lawful_option option value w fits =
        let at = read_at (IsOwnStanding lane name) families self n id r w in
        lawful_set families n r (as_set option value r) h (record {
          at = at;
          name_is = refl;
          dropped = λ e. e;
          meant = meant_kept at;
          options = option_in_range option value r.options (h.options n r at) fits;
          lanes = h.lanes n r at;
          default = λ e. (default_stands at e, home_kept at e);
        })
