-- Flushes.
use Rattle.std.specs.Prelude.{◌<◌, ◌≤◌, ℕ, List, false}
use Rattle.sv_model.specs.declared.refusals.Refusal.{Refusal}
use Rattle.sv_model.specs.declared.refusals.Refusal.TheVariants as refusal
use Rattle.sv_model.specs.Books.{Books}
use Rattle.sv_model.specs.Reads.{IsOutput}
use Rattle.sv_model.specs.Moments.{WasFlushed, WasCapturedFor, WereManyMemtables, WereManyLive, WereAllNumbered}
use Rattle.sv_replies.specs.Known.{Known}
use Rattle.sv_replies.specs.Settings.{Setting}
use Rattle.sv_replies.specs.Moments.{WasDropped}

-- The file covers at least one write, and all that the lane had seen; its number is above each that the lane was shown.
-- Something may lie below it.
pub record Flushes (books : Books) (k : Known) (number from to family : ℕ) : Type 0 where
  pub range : from < to
  pub later : (k.families family).seen ≤ to
  pub newer : k.file < number
  pub cuts : List ℕ
  pub output :
      IsOutput books family (record {
        number = number;
        from = from;
        to = to;
        bottom = record { last = false; cuts = cuts };
      })

-- a file of the family is under way, for another lane
abbrev pub IsBusy : Setting → Books → ℕ → ℕ → Type 0
IsBusy s books number family = (1 < s.lanes) × WasCapturedFor books family number

-- what a refused flush says of the books
abbrev pub FlushMet : Setting → Books → Known → Refusal → ℕ → Type 0
FlushMet s books k refusal.Dropped family = WasDropped books family
FlushMet s books k (refusal.Busy number) family = IsBusy s books number family
FlushMet s books k refusal.NothingToFlush family = WasFlushed books family (k.families family).seen
FlushMet s books k refusal.RegisterFull family = WereAllNumbered books
FlushMet s books k refusal.TooManyMemtables family = WereManyMemtables books
FlushMet s books k refusal.TooManyLive family = WereManyLive books
FlushMet s books k (refusal.DirFault number) family = WasCapturedFor books family number
FlushMet s books k e family = ⊥
