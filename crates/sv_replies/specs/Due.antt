-- Which refusal a command meets whatever the books say: the first that its own words and the lane's earlier replies
-- make due.
use Rattle.std.specs.Prelude.{◌≡◌, ◌≤◌, ◌<◌, ℕ, suc, zero, Bool, true, false, not, ◌&&◌, nat_le, nat_lt, ◌==◌, if◌then◌else◌, List, [], ◌∷◌, length, Option, Some, None, is_some, is_none, option_map}
use Rattle.std.specs.Str.{bytes_eq}
use Rattle.sv_model.specs.declared.settings.OptionName.{OptionName}
use Rattle.sv_model.specs.declared.refusals.Refusal.{Refusal}
use Rattle.sv_model.specs.declared.refusals.Refusal.TheVariants as refusal
use Rattle.sv_model.specs.Books.{Books}
use Rattle.sv_model.specs.Families.{default_name, greatest_of}
use Rattle.sv_model.specs.Refusals.{key_refusal, value_refusal}
use Rattle.sv_script.specs.declared.commands.Command.{Command}
use Rattle.sv_script.specs.declared.commands.Command.TheVariants as command
use Rattle.sv_replies.specs.Known.{Known, Pinned}
use Rattle.sv_replies.specs.Settings.{Setting}
use Rattle.sv_replies.specs.Moments.{IsTaken, NamedAreDropped}

-- what makes a refusal due
pub data Cause : Type 0 where
  refuses : Refusal → Cause
  -- the lane has no handle of the name
  no_handle : List ℕ → Cause
  -- the lane has so many holds
  held : ℕ → Cause

-- ---- the items of the orders

abbrev pub cause_where : Bool → Cause → Option Cause
cause_where true cause = Some cause
cause_where false cause = None

abbrev pub of_refusal : Option Refusal → Option Cause
of_refusal fault = option_map refuses fault

abbrev pub key_cause : List ℕ → Option Cause
key_cause key = of_refusal (key_refusal (length key))

abbrev pub value_cause : List ℕ → Option Cause
value_cause value = of_refusal (value_refusal (length value))

abbrev pub default_cause : List ℕ → Option Cause
default_cause name = cause_where (bytes_eq name default_name) (refuses refusal.IsDefault)

abbrev pub option_cause : OptionName → ℕ → Option Cause
option_cause option value =
    cause_where (not (nat_le 1 value && nat_le value (greatest_of option)))
    (refuses (refusal.BadOption value 1 (greatest_of option)))

abbrev pub open_cause : Known → List ℕ → Option Cause
open_cause k name = cause_where (is_some (k.handles name)) (refuses refusal.AlreadyOpen)

abbrev pub handle_cause : Known → List ℕ → Option Cause
handle_cause k name = cause_where (is_none (k.handles name)) (no_handle name)

-- the lane dropped the family itself
abbrev pub dropped_of : Known → Option ℕ → Bool
dropped_of k None = false
dropped_of k (Some f) = (k.families f).dropped

abbrev pub dropped_cause : Known → List ℕ → Option Cause
dropped_cause k name = cause_where (dropped_of k (k.handles name)) (refuses refusal.Dropped)

-- the least free pin among so many, from this one on
abbrev pub free_among : (ℕ → Option Pinned) → ℕ → ℕ → Option ℕ
free_among pins zero at = None
free_among pins (suc n) at = if is_none (pins at) then Some at else free_among pins n (suc at)

abbrev pub free_pin : Known → Option ℕ
free_pin k = free_among k.pins 16 0

abbrev pub pins_cause : Known → Option Cause
pins_cause k = cause_where (is_none (free_pin k)) (refuses refusal.TooManyPins)

abbrev pub pin_cause : Known → ℕ → Option Cause
pin_cause k pin = cause_where (is_none (k.pins pin)) (refuses refusal.NoPin)

abbrev pub hold_cause : Known → Option Cause
hold_cause k = cause_where (k.holds == 255) (refuses refusal.TooManyHolds)

abbrev pub unhold_cause : Known → Option Cause
unhold_cause k = cause_where (k.holds == 0) (refuses refusal.NoHold)

abbrev pub purge_cause : Known → Option Cause
purge_cause k = cause_where (nat_lt 0 k.holds) (held k.holds)

-- ---- the orders

abbrev pub first_of : List (Option Cause) → Option Cause
first_of [] = None
first_of (None ∷ causes) = first_of causes
first_of (Some cause ∷ causes) = Some cause

abbrev pub due : Known → Command → Option Cause
due k (command.Put family key value) =
    first_of (key_cause key ∷ value_cause value ∷ handle_cause k family ∷ dropped_cause k family ∷ [])
due k (command.Delete family key) = first_of (key_cause key ∷ handle_cause k family ∷ dropped_cause k family ∷ [])
due k (command.Get family key) = first_of (key_cause key ∷ handle_cause k family ∷ [])
due k (command.Getp pin key) = first_of (key_cause key ∷ pin_cause k pin ∷ [])
due k (command.Gets snapshot family key) = first_of (key_cause key ∷ handle_cause k family ∷ [])
due k (command.Flush family) = first_of (handle_cause k family ∷ dropped_cause k family ∷ [])
due k (command.Compact family) = first_of (handle_cause k family ∷ dropped_cause k family ∷ [])
due k (command.Open family) = open_cause k family
due k (command.Release family) = first_of (default_cause family ∷ handle_cause k family ∷ [])
due k (command.Drop family) = first_of (default_cause family ∷ handle_cause k family ∷ dropped_cause k family ∷ [])
due k (command.Set family option value) =
    first_of (option_cause option value ∷ handle_cause k family ∷ dropped_cause k family ∷ [])
due k (command.Pin family) = first_of (handle_cause k family ∷ pins_cause k ∷ [])
due k (command.Unpin pin) = pin_cause k pin
due k command.Hold = hold_cause k
due k command.Unhold = unhold_cause k
due k command.Live = unhold_cause k
due k command.Purge = purge_cause k
due k command.Scan = purge_cause k
due k command = None

-- ---- what comes where a cause is there

-- Without a handle of the name: no family stands that has it, or one had it.
abbrev pub NoHandle : Books → Known → List ℕ → Refusal → Type 0
NoHandle books k name refusal.NoFamily = NamedAreDropped books k name
NoHandle books k name refusal.NotOpen = IsTaken books name
NoHandle books k name e = ⊥

-- Holds stand: as many as shown, with one lane just its own.
pub record HoldsStand (s : Setting) (own count : ℕ) : Type 0 where
  pub some : 0 < count
  pub least : own ≤ count
  pub alone : s.lanes ≡ 1 → count ≡ own

abbrev pub IsHeld : Setting → ℕ → Refusal → Type 0
IsHeld s own (refusal.Disabled count) = HoldsStand s own count
IsHeld s own e = ⊥

-- the refusal that comes of the cause
abbrev pub ComesOf : Setting → Books → Known → Cause → Refusal → Type 0
ComesOf s books k (refuses r) e = e ≡ r
ComesOf s books k (no_handle name) e = NoHandle books k name e
ComesOf s books k (held own) e = IsHeld s own e
