-- Puts and deletes.
use Rattle.std.specs.Prelude.{◌<◌, ℕ, List}
use Rattle.sv_model.specs.declared.writes.Op.{Op}
use Rattle.sv_model.specs.declared.refusals.Refusal.{Refusal}
use Rattle.sv_model.specs.declared.refusals.Refusal.TheVariants as refusal
use Rattle.sv_model.specs.Books.{Books}
use Rattle.sv_model.specs.Reads.{IsWrittenAt}
use Rattle.sv_model.specs.Moments.{WasStalled, WereManyMemtables, WereManyLive, WereAllMade}
use Rattle.sv_replies.specs.Known.{Known}
use Rattle.sv_replies.specs.Settings.{Setting}
use Rattle.sv_replies.specs.Moments.{WasDropped, WasJournalFull}

-- the write of its number in its family, after all that the lane had seen
pub record Writes (s : Setting) (books : Books) (k : Known) (key : List ℕ) (op : Op) (n family : ℕ) : Type 0 where
  pub later : (k.families family).seen < n
  pub written : IsWrittenAt books s.lane family key op n

-- what a refused write says of the books
abbrev pub WriteMet : Books → Known → Refusal → ℕ → Type 0
WriteMet books k refusal.Dropped family = WasDropped books family
WriteMet books k refusal.JournalFull family = WasJournalFull books
WriteMet books k refusal.Stalled family = WasStalled books family (k.families family).flushed
WriteMet books k refusal.TooManyMemtables family = WereManyMemtables books
WriteMet books k refusal.RegisterFull family = WereAllMade books
WriteMet books k refusal.TooManyLive family = WereManyLive books
WriteMet books k e family = ⊥
