-- When no refusal is due, and why the reply fits where one is: without a handle of the name, and of a dropped family.
use Rattle.std.proofs.Common.{◌≡◌, ℕ, suc, Bool, true, false, List, [], ◌∷◌, length, Option, Some, None, refl, sym, ◌∙◌, ap}
use Rattle.std.specs.Prelude.{slice_get, is_none, option_map}
use Rattle.sv_model.specs.declared.records.Family.{Family}
use Rattle.sv_model.specs.declared.refusals.Refusal.TheVariants as refusal
use Rattle.sv_model.specs.declared.settings.OptionName.{OptionName}
use Rattle.sv_model.specs.Books.{Books}
use Rattle.sv_model.specs.Families.{IsOwn, IsStanding}
use Rattle.sv_model.specs.Refusals.{key_refusal, value_refusal}
use Rattle.sv_model.specs.Registers.{Has}
use Rattle.sv_model.proofs.Entries.{some}
use Rattle.sv_script.specs.declared.commands.Command.{Command}
use Rattle.sv_script.specs.declared.commands.Command.TheVariants as command
use Rattle.sv_script.specs.declared.replies.Reply.TheVariants as reply
use Rattle.sv_replies.specs.Due.{Cause, cause_where, default_cause, dropped_cause, dropped_of, due, first_of, handle_cause, key_cause, no_handle, option_cause, pins_cause, refuses, value_cause}
use Rattle.sv_replies.specs.Known.{Known}
use Rattle.sv_replies.specs.Knows.{Knows, OwnAre}
use Rattle.sv_replies.specs.ReplyFits.{Met, ReplyFits}
use Rattle.sv_replies.specs.Settings.{Setting}
use Rattle.sv_replies.specs.Moments.{IsAt}
use Rattle.sv_replies.proofs.MomentLemmas.{none_stands}
use Rattle.sv_replies.proofs.MetLaws.{fits_due, fits_met}

-- ---- the first of causes

pub first-next : (d : Option Cause) (ds : List (Option Cause)) → d ≡ None → first_of (d ∷ ds) ≡ first_of ds
first-next d ds none = ap (λ z. first_of (z ∷ ds)) none

pub first-here : (d : Option Cause) (ds : List (Option Cause)) (cause : Cause) → d ≡ Some cause
    → first_of (d ∷ ds) ≡ Some cause
first-here d ds cause is = ap (λ z. first_of (z ∷ ds)) is

-- ---- each item

pub key-free : (key : List ℕ) → key_refusal (length key) ≡ None → key_cause key ≡ None
key-free key none = ap (option_map refuses) none

pub value-free : (value : List ℕ) → value_refusal (length value) ≡ None → value_cause value ≡ None
value-free value none = ap (option_map refuses) none

module _ (k : Known) (name : List ℕ) where
  pub handle-free : (f : ℕ) → k.handles name ≡ Some f → handle_cause k name ≡ None
  handle-free f has = ap (λ (o : Option ℕ). cause_where (is_none o) (no_handle name)) has

  pub handle-due : k.handles name ≡ None → handle_cause k name ≡ Some (no_handle name)
  handle-due none = ap (λ (o : Option ℕ). cause_where (is_none o) (no_handle name)) none

  dropped-is : (f : ℕ) (d : Bool) → k.handles name ≡ Some f → (k.families f).dropped ≡ d
      → dropped_cause k name ≡ cause_where d (refuses refusal.Dropped)
  dropped-is f d has is =
      ap (λ (o : Option ℕ). cause_where (dropped_of k o) (refuses refusal.Dropped)) has ∙ ap (λ z. cause_where z (refuses refusal.Dropped)) is

  pub dropped-free : (f : ℕ) → k.handles name ≡ Some f → (k.families f).dropped ≡ false → dropped_cause k name ≡ None
  dropped-free f has stands = dropped-is f false has stands

  -- ---- what is due of each command, after the tests of its words and its handle

  pub put-due : (key value : List ℕ) (f : ℕ) → key_refusal (length key) ≡ None → value_refusal (length value) ≡ None
      → k.handles name ≡ Some f
      → due k (command.Put name key value) ≡ first_of (dropped_cause k name ∷ [])
  put-due key value f at in_value has =
      first-next (key_cause key) (value_cause value ∷ handle_cause k name ∷ dropped_cause k name ∷ []) (key-free key at)
      ∙ first-next (value_cause value) (handle_cause k name ∷ dropped_cause k name ∷ []) (value-free value in_value)
      ∙ first-next (handle_cause k name) (dropped_cause k name ∷ []) (handle-free f has)

  pub delete-due : (key : List ℕ) (f : ℕ) → key_refusal (length key) ≡ None → k.handles name ≡ Some f
      → due k (command.Delete name key) ≡ first_of (dropped_cause k name ∷ [])
  delete-due key f at has =
      first-next (key_cause key) (handle_cause k name ∷ dropped_cause k name ∷ []) (key-free key at)
      ∙ first-next (handle_cause k name) (dropped_cause k name ∷ []) (handle-free f has)

  pub get-free : (key : List ℕ) (f : ℕ) → key_refusal (length key) ≡ None → k.handles name ≡ Some f
      → due k (command.Get name key) ≡ None
  get-free key f at has =
      first-next (key_cause key) (handle_cause k name ∷ []) (key-free key at) ∙ first-next (handle_cause k name) [] (handle-free f has)

  pub gets-free : (n : ℕ) (key : List ℕ) (f : ℕ) → key_refusal (length key) ≡ None → k.handles name ≡ Some f
      → due k (command.Gets n name key) ≡ None
  gets-free n key f at has =
      first-next (key_cause key) (handle_cause k name ∷ []) (key-free key at) ∙ first-next (handle_cause k name) [] (handle-free f has)

  pub flush-due : (f : ℕ) → k.handles name ≡ Some f → due k (command.Flush name) ≡ first_of (dropped_cause k name ∷ [])
  flush-due f has = first-next (handle_cause k name) (dropped_cause k name ∷ []) (handle-free f has)

  pub compact-due : (f : ℕ) → k.handles name ≡ Some f
      → due k (command.Compact name) ≡ first_of (dropped_cause k name ∷ [])
  compact-due f has = first-next (handle_cause k name) (dropped_cause k name ∷ []) (handle-free f has)

  pub drop-due : (f : ℕ) → default_cause name ≡ None → k.handles name ≡ Some f
      → due k (command.Drop name) ≡ first_of (dropped_cause k name ∷ [])
  drop-due f other has =
      first-next (default_cause name) (handle_cause k name ∷ dropped_cause k name ∷ []) other
      ∙ first-next (handle_cause k name) (dropped_cause k name ∷ []) (handle-free f has)

  pub set-due : (option : OptionName) (value f : ℕ) → option_cause option value ≡ None → k.handles name ≡ Some f
      → due k (command.Set name option value) ≡ first_of (dropped_cause k name ∷ [])
  set-due option value f within has =
      first-next (option_cause option value) (handle_cause k name ∷ dropped_cause k name ∷ []) within
      ∙ first-next (handle_cause k name) (dropped_cause k name ∷ []) (handle-free f has)

  pub release-free : (f : ℕ) → default_cause name ≡ None → k.handles name ≡ Some f → due k (command.Release name) ≡ None
  release-free f other has =
      first-next (default_cause name) (handle_cause k name ∷ []) other ∙ first-next (handle_cause k name) [] (handle-free f has)

  pub pin-free : (f : ℕ) → k.handles name ≡ Some f → pins_cause k ≡ None → due k (command.Pin name) ≡ None
  pin-free f has room =
      first-next (handle_cause k name) (pins_cause k ∷ []) (handle-free f has) ∙ first-next (pins_cause k) [] room

  -- ---- with a handle, of a family that is not dropped or that is

  -- none is due
  pub stands-free : (c : Command) (f : ℕ) → due k c ≡ first_of (dropped_cause k name ∷ []) → k.handles name ≡ Some f
      → (k.families f).dropped ≡ false → due k c ≡ None
  stands-free c f is has stands = is ∙ first-next (dropped_cause k name) [] (dropped-free f has stands)

  -- Dropped, by the lane itself or by another
  pub dropped-fits : (s : Setting) (b : Books) (c : Command) (f : ℕ) → due k c ≡ first_of (dropped_cause k name ∷ [])
      → k.handles name ≡ Some f
      → Met s b k c refusal.Dropped → ReplyFits s b k c (reply.Refused refusal.Dropped)
  dropped-fits s b c f is has met = by (k.families f).dropped refl
    where
      by : (d : Bool) → (k.families f).dropped ≡ d → ReplyFits s b k c (reply.Refused refusal.Dropped)
      by true itself =
          fits_due s b k c (refuses refusal.Dropped) refusal.Dropped (is ∙ first-here (dropped_cause k name) [] (refuses refusal.Dropped) (dropped-is f true has itself)) (λ e. absurd (cc)) refl
      by false other = fits_met s b k c refusal.Dropped (stands-free c f is has other) met

  -- ---- without a handle

  pub not_open-fits : (s : Setting) (b : Books) (c : Command) → due k c ≡ Some (no_handle name)
      → Has (IsStanding name) b.families
      → ReplyFits s b k c (reply.Refused refusal.NotOpen)
  not_open-fits s b c is stands =
      fits_due s b k c (no_handle name) refusal.NotOpen is (λ e. absurd (cc)) (stands.0, stands.1, stands.2, stands.3.name_is)

  pub no_family-fits : (s : Setting) (b : Books) (c : Command) → Knows b k → due k c ≡ Some (no_handle name)
      → (Has (IsStanding name) b.families → ⊥)
      → ReplyFits s b k c (reply.Refused refusal.NoFamily)
  no_family-fits s b c knows is none =
      fits_due s b k c (no_handle name) refusal.NoFamily is (λ e. absurd (cc)) (none_stands b k name knows none)

-- ---- what the books say of the handle

pub known-handle : (lane : ℕ) (b : Books) (k : Known) (name : List ℕ) (f : ℕ) → OwnAre lane b k
    → IsAt (IsOwn lane name) b.families f → k.handles name ≡ Some f
known-handle lane b k name f own at = (own.handles name f).1 at

pub known-none : (lane : ℕ) (b : Books) (k : Known) (name : List ℕ) → OwnAre lane b k
    → (Has (IsOwn lane name) b.families → ⊥) → k.handles name ≡ None
known-none lane b k name own none = by (k.handles name) refl
  where
    by : (o : Option ℕ) → k.handles name ≡ o → k.handles name ≡ None
    by None e = e
    by (Some f) e = absurd (let at = (own.handles name f).0 e in none (suc f, at.0, at.1, at.2))

-- a family that stands was not dropped by the lane
pub known-stands : (b : Books) (k : Known) (f : ℕ) (x : Family) → Knows b k → slice_get b.families f ≡ Some x
    → x.dropped ≡ false → (k.families f).dropped ≡ false
known-stands b k f x knows at stands = by (k.families f).dropped refl
  where
    by : (d : Bool) → (k.families f).dropped ≡ d → (k.families f).dropped ≡ false
    by false e = e
    by true e =
        absurd (let y = (knows.families f).dropped e in let q : true ≡ false = sym y.2 ∙ ap (λ (z : Family). z.dropped) (some (sym y.1 ∙ at)) ∙ stands in cc)
