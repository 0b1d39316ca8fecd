-- How much a command makes: SuperVersions, memtables and file numbers.
use Rattle.std.specs.Prelude.{◌≡◌, ◌≤◌, ◌+◌, ℕ, List, Some, length, slice_get}
use Rattle.sv_model.specs.declared.records.FileMeta.{FileMeta}
use Rattle.sv_model.specs.declared.refusals.Refusal.TheVariants as refusal
use Rattle.sv_model.specs.Books.{Books}
use Rattle.sv_model.specs.Lists.{total}
use Rattle.sv_script.specs.Answered.{Answered}
use Rattle.sv_script.specs.declared.commands.Command.{Command}
use Rattle.sv_script.specs.declared.commands.Command.TheVariants as command
use Rattle.sv_script.specs.declared.replies.Reply.{Reply}
use Rattle.sv_script.specs.declared.replies.Reply.TheVariants as reply

-- ---- what the books show

-- So many numbers were drawn for files, each the next one, in order.
pub record Draws (a b : Books) (count : ℕ) : Type 0 where
  pub long : length b.metas ≡ length a.metas + count
  pub next : b.files.next ≡ a.files.next + count
  pub each : (i : ℕ) (m : FileMeta) → length a.metas ≤ i → slice_get b.metas i ≡ Some m
      → m.number + length a.metas ≡ a.files.next + i

-- Of the SuperVersions that were made so many came without a new memtable, and so many numbers were drawn.
pub record Grows (a b : Books) (installs count : ℕ) : Type 0 where
  pub made : length b.supers + length a.memtables ≡ length a.supers + length b.memtables + installs
  pub draws : Draws a b count

-- ---- what replies show

-- 1 where a SuperVersion was made without a new memtable: an option was set, or a file was made
abbrev pub installs_by : Reply → ℕ
installs_by (reply.Set sv) = 1
installs_by (reply.Flush number from to) = 1
installs_by (reply.Compact number from to) = 1
installs_by r = 0

-- 1 where a file was made
abbrev pub files_by : Reply → ℕ
files_by (reply.Flush number from to) = 1
files_by (reply.Compact number from to) = 1
files_by r = 0

-- 1 where an output may have been begun: it was made, or it was given up for one of these causes
abbrev pub begins_by : Reply → ℕ
begins_by (reply.Flush number from to) = 1
begins_by (reply.Compact number from to) = 1
begins_by (reply.Refused refusal.OutOfMemory) = 1
begins_by (reply.Refused (refusal.DirFault number)) = 1
begins_by (reply.Refused (refusal.BadFile number place)) = 1
begins_by (reply.Refused refusal.Dropped) = 1
begins_by (reply.Refused refusal.RegisterFull) = 1
begins_by (reply.Refused refusal.TooManyLive) = 1
begins_by r = 0

-- only flushes and compactions draw numbers
abbrev pub draws_by : Command → Reply → ℕ
draws_by (command.Flush name) r = begins_by r
draws_by (command.Compact name) r = begins_by r
draws_by command r = 0

-- ---- both

-- A command made what its reply shows. It drew a number for each file that it made, and so many at most.
pub record Makes (a b : Books) (r : Reply) (most : ℕ) : Type 0 where
  pub count : ℕ
  pub grows : Grows a b (installs_by r) count
  pub least : files_by r ≤ count
  pub most_is : count ≤ most

abbrev pub installs_of : List Answered → ℕ
installs_of all = total (λ a. installs_by a.reply) all

abbrev pub files_made : List Answered → ℕ
files_made all = total (λ a. files_by a.reply) all

abbrev pub draws_of : List Answered → ℕ
draws_of all = total (λ a. draws_by a.command a.reply) all

-- the same of all that was answered since the books `a`
pub record MakesAll (a b : Books) (all : List Answered) : Type 0 where
  pub count : ℕ
  pub grows : Grows a b (installs_of all) count
  pub least : files_made all ≤ count
  pub most : count ≤ draws_of all
