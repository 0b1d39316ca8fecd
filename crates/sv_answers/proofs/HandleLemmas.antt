-- The family that the lane means by a name: what the lane was told of it, and the refusals where there is none or where
-- it is dropped.
use Rattle.std.proofs.Common.{◌≡◌, ℕ, zero, suc, Bool, true, false, not, ◌&&◌, ◌||◌, List, [], ◌∷◌, Option, Some, None, refl, sym, ◌∙◌, ap, subst, cond}
use Rattle.std.specs.Prelude.{option_map, slice_get}
use Rattle.std.specs.List.{list_any}
use Rattle.sv_model.specs.declared.records.Family.{Family}
use Rattle.sv_model.specs.declared.refusals.Refusal.{Refusal}
use Rattle.sv_model.specs.declared.refusals.Refusal.TheVariants as refusal
use Rattle.sv_model.specs.Books.{Books}
use Rattle.sv_model.specs.Families.{IsOwn, IsStanding}
use Rattle.sv_model.specs.Refusals.{first_due}
use Rattle.sv_model.specs.Registers.{Has}
use Rattle.sv_model.proofs.RefusalLaws.{none_due}
use Rattle.sv_family.specs.Refused.{change_refusal, dropped_refusal, find_refusal, has_handle, is_own, stands, when}
use Rattle.sv_family.proofs.SoughtFamilies.{dropped_due_next, own_is, own_known, standing_is, standing_known}
use Rattle.sv_state.specs.Planning.{MeantAt}
use Rattle.sv_script.specs.declared.commands.Command.{Command}
use Rattle.sv_script.specs.declared.replies.Reply.TheVariants as reply
use Rattle.sv_replies.specs.Due.{due, dropped_cause, first_of, handle_cause, no_handle}
use Rattle.sv_replies.specs.Known.{Known}
use Rattle.sv_replies.specs.Knows.{Knows, OwnAre}
use Rattle.sv_replies.specs.Moments.{WasDropped}
use Rattle.sv_replies.specs.ReplyFits.{Met, ReplyFits}
use Rattle.sv_replies.specs.Settings.{Setting}
use Rattle.sv_replies.proofs.MetLaws.{through}
use Rattle.sv_replies.proofs.DueLemmas.{dropped-fits, first-here, first-next, handle-due, handle-free, known-handle, known-none, known-stands, no_family-fits, not_open-fits, stands-free}

-- ---- the test of a list, and the item that passes it

any_has : {A : Type 0} (p : A → Bool) (P : A → Type 0) → ((x : A) → p x ≡ true → P x) → (l : List A)
    → list_any p l ≡ true → (n : ℕ) × (x : A) × (slice_get l n ≡ Some x) × P x
any_has p P means [] h = let e : false ≡ true = h in absurd (cc)
any_has {A} p P means (x ∷ l) h = by (p x) refl (any_has p P means l)
  where
    by : (b : Bool) → p x ≡ b → (list_any p l ≡ true → (n : ℕ) × (y : A) × (slice_get l n ≡ Some y) × P y)
        → (n : ℕ) × (y : A) × (slice_get (x ∷ l) n ≡ Some y) × P y
    by true e rest = (zero, x, refl, means x e)
    by false e rest = let k = rest (sym (ap (λ b. b || list_any p l) e) ∙ h) in (suc k.0, k.1, k.2, k.3)

pub both : (a b : Bool) → (a && b) ≡ true → (a ≡ true) × (b ≡ true)
both true b h = (refl, h)
both false b h = let e : false ≡ true = h in absurd (cc)

-- a family of which the lane has a handle by the name, and which is dropped
record IsOwnDropped (lane : ℕ) (name : List ℕ) (x : Family) : Type 0 where
  own : IsOwn lane name x
  dropped : x.dropped ≡ true

own_dropped : (lane : ℕ) (name : List ℕ) (x : Family) → (is_own lane name x && x.dropped) ≡ true → IsOwnDropped lane name x
own_dropped lane name x h = let e = both (is_own lane name x) x.dropped h in record { own = own_is lane name x e.0; dropped = e.1 }

module _ (s : Setting) (b : Books) (k : Known) (knows : Knows b k) (own : OwnAre s.lane b k) (name : List ℕ) where
  -- ---- without a handle

  pub no_own : has_handle b.families s.lane name ≡ false → Has (IsOwn s.lane name) b.families → ⊥
  no_own none (zero, x, at, is) = let e : None ≡ Some x = at in absurd (cc)
  no_own none (suc n, x, at, is) =
      let e : true ≡ false = sym (own_known b.families s.lane name n x at is) ∙ none in absurd (cc)

  pub no_standing : stands b.families name ≡ false → Has (IsStanding name) b.families → ⊥
  no_standing none (zero, x, at, is) = let e : None ≡ Some x = at in absurd (cc)
  no_standing none (suc n, x, at, is) =
      let e : true ≡ false = sym (standing_known b.families name n x at is) ∙ none in absurd (cc)

  pub standing-at : stands b.families name ≡ true → Has (IsStanding name) b.families
  standing-at standing =
      let at = any_has _ (IsStanding name) (standing_is name) b.families standing in
      (suc at.0, at.1, at.2, at.3)

  -- the lane has none, and is told so
  pub find-fits : (c : Command) (e : Refusal) → find_refusal b.families s.lane name ≡ Some e
      → (k.handles name ≡ None → due k c ≡ Some (no_handle name)) → ReplyFits s b k c (reply.Refused e)
  find-fits c e is comes = by (has_handle b.families s.lane name) refl (stands b.families name) refl
    where
      by : (h : Bool) → has_handle b.families s.lane name ≡ h → (t : Bool) → stands b.families name ≡ t
          → ReplyFits s b k c (reply.Refused e)
      by true has t standing =
          let q : None ≡ Some e = sym (ap (λ h. when (not h) (cond (stands b.families name) refusal.NotOpen refusal.NoFamily)) has) ∙ is in
          absurd (cc)
      by false none true standing =
          let q : Some refusal.NotOpen ≡ Some e =
          sym (ap (λ (z : Bool × Bool). when (not z.0) (cond z.1 refusal.NotOpen refusal.NoFamily)) (λ i. (none i, standing i))) ∙ is in
          let same : refusal.NotOpen ≡ e = cc in
          subst (λ z. ReplyFits s b k c (reply.Refused z)) same
          (not_open-fits k name s b c (comes (known-none s.lane b k name own (no_own none))) (standing-at standing))
      by false none false standing =
          let q : Some refusal.NoFamily ≡ Some e =
          sym (ap (λ (z : Bool × Bool). when (not z.0) (cond z.1 refusal.NotOpen refusal.NoFamily)) (λ i. (none i, standing i))) ∙ is in
          let same : refusal.NoFamily ≡ e = cc in
          subst (λ z. ReplyFits s b k c (reply.Refused z)) same
          (no_family-fits k name s b c knows (comes (known-none s.lane b k name own (no_own none))) (no_standing standing))

  -- ---- with a handle

  pub own-handle : has_handle b.families s.lane name ≡ true → (f : ℕ) × (k.handles name ≡ Some f)
  own-handle has =
      let at = any_has _ (IsOwn s.lane name) (own_is s.lane name) b.families has in
      (at.0, known-handle s.lane b k name at.0 own (at.1, at.2, at.3))

  pub handle-is : find_refusal b.families s.lane name ≡ None → (f : ℕ) × (k.handles name ≡ Some f)
  handle-is none = by (has_handle b.families s.lane name) refl
    where
      by : (h : Bool) → has_handle b.families s.lane name ≡ h → (f : ℕ) × (k.handles name ≡ Some f)
      by true has = own-handle has
      by false has =
          let q : Some (cond (stands b.families name) refusal.NotOpen refusal.NoFamily) ≡ None =
          sym (ap (λ h. when (not h) (cond (stands b.families name) refusal.NotOpen refusal.NoFamily)) has) ∙ none in
          absurd (cc)

  -- The lane has no handle of the name, or that of a dropped family, and is told so.
  pub change-fits : (c : Command) (e : Refusal) → change_refusal b.families s.lane name ≡ Some e
      → due k c ≡ first_of (handle_cause k name ∷ dropped_cause k name ∷ [])
      → ((f : ℕ) → k.handles name ≡ Some f → WasDropped b f → Met s b k c refusal.Dropped)
      → ReplyFits s b k c (reply.Refused e)
  change-fits c e is comes met = by (find_refusal b.families s.lane name) refl
    where
      dropped : find_refusal b.families s.lane name ≡ None → (d : Bool)
          → list_any (λ x. is_own s.lane name x && x.dropped) b.families ≡ d → ReplyFits s b k c (reply.Refused e)
      dropped none true any =
          let q : Some refusal.Dropped ≡ Some e =
          sym (ap (λ z. first_due (z ∷ dropped_refusal b.families s.lane name ∷ [])) none ∙ ap (λ d. first_due (when d refusal.Dropped ∷ [])) any) ∙ is in
          let same : refusal.Dropped ≡ e = cc in
          let at = any_has _ (IsOwnDropped s.lane name) (own_dropped s.lane name) b.families any in
          let has = known-handle s.lane b k name at.0 own (at.1, at.2, at.3.own) in
          subst (λ z. ReplyFits s b k c (reply.Refused z)) same
          (dropped-fits k name s b c at.0 (comes ∙ first-next (handle_cause k name) (dropped_cause k name ∷ []) (handle-free k name at.0 has)) has (met at.0 has (at.1, at.2, at.3.dropped)))
      dropped none false any =
          let q : None ≡ Some e =
          sym (ap (λ z. first_due (z ∷ dropped_refusal b.families s.lane name ∷ [])) none ∙ ap (λ d. first_due (when d refusal.Dropped ∷ [])) any) ∙ is in
          absurd (cc)

      by : (o : Option Refusal) → find_refusal b.families s.lane name ≡ o → ReplyFits s b k c (reply.Refused e)
      by None none = dropped none (list_any (λ x. is_own s.lane name x && x.dropped) b.families) refl
      by (Some r) found =
          let q : Some r ≡ Some e = sym (ap (λ z. first_due (z ∷ dropped_refusal b.families s.lane name ∷ [])) found) ∙ is in
          let same : r ≡ e = cc in
          find-fits c e (found ∙ ap Some same) (λ none. comes ∙ first-here (handle_cause k name) (dropped_cause k name ∷ []) (no_handle name) (handle-due k name none))

  -- the lane has a handle of a family that is not dropped
  pub change-free : change_refusal b.families s.lane name ≡ None
      → (f : ℕ) × (k.handles name ≡ Some f) × ((c : Command) → due k c ≡ first_of (handle_cause k name ∷ dropped_cause k name ∷ []) → due k c ≡ None)
  change-free none = by (has_handle b.families s.lane name) refl (none_due (find_refusal b.families s.lane name) (dropped_refusal b.families s.lane name ∷ []) none).0
    where
      stood : (f : ℕ) (x : Family) → slice_get b.families f ≡ Some x → IsOwn s.lane name x → find_refusal b.families s.lane name ≡ None
          → (d : Bool) → x.dropped ≡ d → x.dropped ≡ false
      stood f x at is found false q = q
      stood f x at is found true q =
          let z : Some refusal.Dropped ≡ None =
          sym (dropped_due_next b.families s.lane name f (through (slice_get b.families f) x (IsOwn s.lane name) at is) (find_refusal b.families s.lane name) found
          (ap (option_map (λ (y : Family). y.dropped)) at ∙ ap Some q))
          ∙ none in
          absurd (cc)

      by : (h : Bool) → has_handle b.families s.lane name ≡ h → find_refusal b.families s.lane name ≡ None
          → (f : ℕ) × (k.handles name ≡ Some f) × ((c : Command) → due k c ≡ first_of (handle_cause k name ∷ dropped_cause k name ∷ []) → due k c ≡ None)
      by true has found =
          let at = any_has _ (IsOwn s.lane name) (own_is s.lane name) b.families has in
          let is = known-handle s.lane b k name at.0 own (at.1, at.2, at.3) in (
            at.0,
            is,
            λ c comes.
                stands-free k name c at.0 (comes ∙ first-next (handle_cause k name) (dropped_cause k name ∷ []) (handle-free k name at.0 is)) is
                (known-stands b k at.0 at.1 knows at.2 (stood at.0 at.1 at.2 at.3 found at.1.dropped refl)),
          )
      by false has found =
          let q : Some (cond (stands b.families name) refusal.NotOpen refusal.NoFamily) ≡ None =
          sym (ap (λ h. when (not h) (cond (stands b.families name) refusal.NotOpen refusal.NoFamily)) has) ∙ found in
          absurd (cc)

  -- ---- the family that is meant

  module _ (m : MeantAt b s.lane name) where
    pub meant-handle : k.handles name ≡ Some m.family
    meant-handle = known-handle s.lane b k name m.family own (m.is_open.family, m.is_open.family_at, m.own)

    pub meant-free : (c : Command) → due k c ≡ first_of (handle_cause k name ∷ dropped_cause k name ∷ []) → due k c ≡ None
    meant-free c comes =
        stands-free k name c m.family (comes ∙ first-next (handle_cause k name) (dropped_cause k name ∷ []) (handle-free k name m.family meant-handle)) meant-handle
        (known-stands b k m.family m.is_open.family knows m.is_open.family_at m.is_open.stands)
