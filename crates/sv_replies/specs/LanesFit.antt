-- What holds of the replies of all lanes together.
use Rattle.std.specs.Prelude.{◌≡◌, ◌<◌, ◌⊎◌, ℕ, Bool, true, List, [], ◌∷◌, ◌++◌, length, take, map, flat_map, slice_get, Option, Some, None}
use Rattle.sv_model.specs.declared.writes.Op.{Op}
use Rattle.sv_model.specs.declared.writes.Op.TheVariants as op
use Rattle.sv_model.specs.declared.writes.Write.{Write}
use Rattle.sv_model.specs.declared.refusals.Refusal.TheVariants as refusal
use Rattle.sv_model.specs.Books.{Books}
use Rattle.sv_model.specs.Journal.{Change, by_lane, change_of}
use Rattle.sv_model.specs.Lists.{Distinct, Every, In}
use Rattle.sv_script.specs.Answered.{Answered}
use Rattle.sv_script.specs.declared.commands.Command.{Command}
use Rattle.sv_script.specs.declared.commands.Command.TheVariants as command
use Rattle.sv_script.specs.declared.replies.Reply.{Reply}
use Rattle.sv_script.specs.declared.replies.Reply.TheVariants as reply
use Rattle.sv_replies.specs.Known.{Known, at_first, known_after, learn}
use Rattle.sv_replies.specs.ReplyFits.{RepliesFit}

-- ---- the journal

abbrev pub change_in : Option ℕ → List ℕ → Op → List Change
change_in None key op = []
change_in (Some family) key op = record { family = family; key = key; op = op } ∷ []

-- the write that an accepted command asked for
abbrev pub change_asked : Known → Command → Reply → List Change
change_asked k (command.Put name key value) (reply.Put n) = change_in (k.handles name) key (op.Put value)
change_asked k (command.Delete name key) (reply.Delete n) = change_in (k.handles name) key op.Delete
change_asked k command reply = []

-- the accepted writes of a lane of which so much is known, in order
abbrev pub changes_from : Known → List Answered → List Change
changes_from k [] = []
changes_from k (a ∷ all) = change_asked k a.command a.reply ++ changes_from (learn k a.command a.reply) all

abbrev pub accepted : List Answered → List Change
accepted all = changes_from at_first all

-- the write is of one of so many lanes, or of the opening
abbrev pub IsOfLanes : ℕ → Write → Type 0
IsOfLanes lanes w = (w.lane < lanes) ⊎ ((w.mem ≡ 0) × (w.lane ≡ 255))

-- The journal has just the accepted writes of each lane, each once, in the lane's order, beside those of the opening.
pub record IsJournalOf (books : Books) (lanes : List (List Answered)) : Type 0 where
  pub each : (lane : ℕ) (all : List Answered) → slice_get lanes lane ≡ Some all
      → map change_of (by_lane lane books.journal) ≡ accepted all
  pub only : Every (IsOfLanes (length lanes)) books.journal

-- ---- once

abbrev pub purged_by : Reply → List ℕ
purged_by (reply.Purge numbers) = numbers
purged_by (reply.Scan numbers) = numbers
purged_by reply = []

-- the snapshot that an answered command ended
abbrev pub ended_by : Command → Reply → List ℕ
ended_by (command.Unsnap snapshot) reply.Unsnap = snapshot ∷ []
ended_by command reply = []

-- all numbers that purges and scans showed to a lane, and all snapshots that it ended
abbrev pub purged_of : List Answered → List ℕ
purged_of all = flat_map (λ a. purged_by a.reply) all

abbrev pub ended_of : List Answered → List ℕ
ended_of all = flat_map (λ a. ended_by a.command a.reply) all

-- the same of all lanes
abbrev pub purged : List (List Answered) → List ℕ
purged lanes = flat_map purged_of lanes

abbrev pub ended : List (List Answered) → List ℕ
ended lanes = flat_map ended_of lanes

-- the snapshot of which a command was told that there is none
abbrev pub missing_in : Command → Reply → List ℕ
missing_in (command.Unsnap snapshot) (reply.Refused refusal.NoSnapshot) = snapshot ∷ []
missing_in (command.Gets snapshot name key) (reply.Refused refusal.NoSnapshot) = snapshot ∷ []
missing_in command reply = []

-- Where a lane is told that there is no such snapshot, though it was Live once to its knowledge, some lane ended it.
abbrev pub MissingWereEnded : List (List Answered) → Type 0
MissingWereEnded lanes = (lane n snapshot : ℕ) (all : List Answered) (a : Answered) → slice_get lanes lane ≡ Some all
    → slice_get all n ≡ Some a → In snapshot (missing_in a.command a.reply)
    → (known_after (take n all)).snapshots snapshot ≡ true → In snapshot (ended lanes)

-- ---- the law

-- Each lane's replies fit the books. No number was purged twice, and no snapshot ended twice.
pub record LanesFit (told : Bool) (books : Books) (lanes : List (List Answered)) : Type 0 where
  pub each : (lane : ℕ) (all : List Answered) → slice_get lanes lane ≡ Some all
      → RepliesFit (record { lane = lane; lanes = length lanes; told = told }) books all
  pub journal : IsJournalOf books lanes
  pub purged_once : Distinct (purged lanes)
  pub ended_once : Distinct (ended lanes)
  pub missing : MissingWereEnded lanes
