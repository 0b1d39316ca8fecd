-- What the earlier replies of a lane tell: one fold over its commands and replies, in their order.
use Rattle.std.specs.Prelude.{ℕ, ◌+◌, ◌==◌, max, Bool, true, false, if◌then◌else◌, List, [], ◌∷◌, Option, Some, None, fold}
use Rattle.std.specs.List.{list_any}
use Rattle.std.specs.Str.{bytes_eq}
use Rattle.sv_model.specs.Families.{default_name}
use Rattle.sv_script.specs.Answered.{Answered}
use Rattle.sv_script.specs.declared.commands.Command.{Command}
use Rattle.sv_script.specs.declared.commands.Command.TheVariants as command
use Rattle.sv_script.specs.declared.replies.Reply.{Reply}
use Rattle.sv_script.specs.declared.replies.Reply.TheVariants as reply

-- what a lane was told of a family
pub record FamilyKnown : Type 0 where
  -- the greatest write number or cut
  pub seen : ℕ
  -- the greatest serial
  pub serial : ℕ
  -- how far flushes reach, and how far flushes and compactions do
  pub flushed : ℕ
  pub reached : ℕ
  -- the lane dropped it
  pub dropped : Bool

-- a pin of a lane: the family of its SuperVersion, and the serial
pub record Pinned : Type 0 where
  pub family : ℕ
  pub serial : ℕ

pub record Known : Type 0 where
  -- by name, the family of which the lane has a handle
  pub handles : List ℕ → Option ℕ
  -- by name, the families that were shown to have it
  pub named : List ℕ → ℕ → Bool
  -- the greatest id of a family that the lane made
  pub created : ℕ
  pub families : ℕ → FamilyKnown
  -- the greatest number of a file that the lane made
  pub file : ℕ
  pub pins : ℕ → Option Pinned
  pub holds : ℕ
  -- the families that a get or a pin asked for since the last rest, each once
  pub touched : List ℕ
  -- how many writes were accepted
  pub accepted : ℕ
  -- the snapshots that were Live once, and those that the lane ended
  pub snapshots : ℕ → Bool
  pub ended : ℕ → Bool

-- ---- at first

abbrev pub nothing_known : FamilyKnown
nothing_known = record { seen = 0; serial = 0; flushed = 0; reached = 0; dropped = false }

-- each lane has a handle of `default` from the start
abbrev pub at_first : Known
at_first = record {
  handles = λ name. if bytes_eq name default_name then Some 0 else None;
  named = λ name family. false;
  created = 0;
  families = λ family. nothing_known;
  file = 0;
  pins = λ pin. None;
  holds = 0;
  touched = [];
  accepted = 0;
  snapshots = λ snapshot. false;
  ended = λ snapshot. false;
}

-- ---- what one reply adds

-- the function with another answer at one number
abbrev pub with_at : {A : Type 0} → (ℕ → A) → ℕ → A → ℕ → A
with_at f at x n = if n == at then x else f n

abbrev pub with_handle : (List ℕ → Option ℕ) → List ℕ → Option ℕ → List ℕ → Option ℕ
with_handle handles name family other = if bytes_eq other name then family else handles other

-- more is known of the family, where there is one
abbrev pub learns : (FamilyKnown → FamilyKnown) → Option ℕ → Known → Known
learns more None k = k
learns more (Some f) k = record k { families = with_at k.families f (more (k.families f)) }

abbrev pub saw : ℕ → FamilyKnown → FamilyKnown
saw n x = record x { seen = max x.seen n }

abbrev pub met : ℕ → FamilyKnown → FamilyKnown
met sv x = record x { serial = max x.serial sv }

abbrev pub flushed_to : ℕ → FamilyKnown → FamilyKnown
flushed_to to x = record x { flushed = max x.flushed to; reached = max x.reached to }

abbrev pub reached_to : ℕ → FamilyKnown → FamilyKnown
reached_to to x = record x { reached = max x.reached to }

abbrev pub as_dropped : FamilyKnown → FamilyKnown
as_dropped x = record x { dropped = true }

-- a write more of the family was accepted
abbrev pub wrote : Option ℕ → ℕ → Known → Known
wrote family n k = record (learns (saw n) family k) { accepted = k.accepted + 1 }

-- a read of the family that was answered
abbrev pub read : Option ℕ → Reply → Known → Known
read family (reply.Found value cut sv) k = learns (met sv) family (learns (saw cut) family k)
read family (reply.Absent cut sv) k = learns (met sv) family (learns (saw cut) family k)
read family r k = k

-- the family is asked for
abbrev pub touches : Option ℕ → Known → Known
touches None k = k
touches (Some f) k = record k { touched = if list_any (λ g. g == f) k.touched then k.touched else f ∷ k.touched }

abbrev pub file_made : ℕ → Known → Known
file_made number k = record k { file = max k.file number }

-- the lane has a handle of the family, which has this name
abbrev pub has_handle : List ℕ → ℕ → Known → Known
has_handle name id k = record k {
  handles = with_handle k.handles name (Some id);
  named = λ other family.
      if bytes_eq other name then (if family == id then true else k.named other family) else k.named other family;
}

abbrev pub pinned : Option ℕ → ℕ → ℕ → Known → Known
pinned None pin sv k = k
pinned (Some f) pin sv k = record k { pins = with_at k.pins pin (Some (record { family = f; serial = sv })) }

abbrev pub family_of_pin : Option Pinned → Option ℕ
family_of_pin None = None
family_of_pin (Some p) = Some p.family

-- a read at a snapshot that was answered
abbrev pub read_at : ℕ → Option ℕ → Reply → Known → Known
read_at snapshot family (reply.Found value cut sv) k =
    record (learns (met sv) family k) { snapshots = with_at k.snapshots snapshot true }
read_at snapshot family (reply.Absent cut sv) k =
    record (learns (met sv) family k) { snapshots = with_at k.snapshots snapshot true }
read_at snapshot family r k = k

-- what is known after one more command with its reply
abbrev pub learn : Known → Command → Reply → Known
learn k (command.Put family key value) (reply.Put n) = wrote (k.handles family) n k
learn k (command.Delete family key) (reply.Delete n) = wrote (k.handles family) n k
learn k (command.Get family key) r = touches (k.handles family) (read (k.handles family) r k)
learn k (command.Getp pin key) r = read (family_of_pin (k.pins pin)) r k
learn k (command.Gets snapshot family key) r = read_at snapshot (k.handles family) r k
learn k (command.Flush family) (reply.Flush number from to) =
    file_made number (learns (flushed_to to) (k.handles family) k)
learn k (command.Compact family) (reply.Compact number from to) =
    file_made number (learns (reached_to to) (k.handles family) k)
learn k (command.Create family) (reply.Create id) = record (has_handle family id k) { created = max k.created id }
learn k (command.Open family) (reply.Open id) = has_handle family id k
learn k (command.Release family) reply.Release = record k { handles = with_handle k.handles family None }
learn k (command.Drop family) reply.Drop = learns as_dropped (k.handles family) k
learn k (command.Set family option value) (reply.Set sv) = learns (met sv) (k.handles family) k
learn k (command.Pin family) (reply.Pin pin sv) =
    touches (k.handles family) (pinned (k.handles family) pin sv (learns (met sv) (k.handles family) k))
learn k (command.Pin family) r = touches (k.handles family) k
learn k (command.Unpin pin) reply.Unpin = record k { pins = with_at k.pins pin None }
learn k command.Hold (reply.Hold count) = record k { holds = count }
learn k command.Unhold (reply.Unhold count) = record k { holds = count }
learn k command.Rest r = record k { touched = [] }
learn k command.Snap (reply.Snap snapshot at) = record k { snapshots = with_at k.snapshots snapshot true }
learn k (command.Unsnap snapshot) reply.Unsnap = record k {
  snapshots = with_at k.snapshots snapshot true;
  ended = with_at k.ended snapshot true;
}
learn k command r = k

-- what is known after all of these
abbrev pub known_after : List Answered → Known
known_after earlier = fold (λ k a. learn k a.command a.reply) at_first earlier
