-- Compactions.
use Rattle.std.specs.Prelude.{◌≡◌, ◌<◌, ◌≤◌, ℕ, List, true, false}
use Rattle.sv_model.specs.declared.refusals.Refusal.{Refusal}
use Rattle.sv_model.specs.declared.refusals.Refusal.TheVariants as refusal
use Rattle.sv_model.specs.Books.{Books}
use Rattle.sv_model.specs.Reads.{IsOutput}
use Rattle.sv_model.specs.Moments.{WasCapturedFor, WereManyLive, WereAllNumbered}
use Rattle.sv_replies.specs.Known.{Known}
use Rattle.sv_replies.specs.Settings.{Setting}
use Rattle.sv_replies.specs.Moments.{WasDropped, WasMerged}
use Rattle.sv_replies.specs.FlushLaw.{IsBusy}

-- The file covers the family's writes from the first on, as far as flushes and compactions reached that the lane was
-- shown. Its number is above each that the lane was shown. Nothing lies below it.
pub record Compacts (books : Books) (k : Known) (number from to family : ℕ) : Type 0 where
  pub whole : from ≡ 0
  pub some : 0 < to
  pub far : (k.families family).reached ≤ to
  pub newer : k.file < number
  pub cuts : List ℕ
  pub output :
      IsOutput books family (record {
        number = number;
        from = from;
        to = to;
        bottom = record { last = true; cuts = cuts };
      })

-- what a refused compaction says of the books
abbrev pub CompactMet : Setting → Books → Known → Refusal → ℕ → Type 0
CompactMet s books k refusal.Dropped family = WasDropped books family
CompactMet s books k (refusal.Busy number) family = IsBusy s books number family
CompactMet s books k refusal.NothingToCompact family = WasMerged books family (k.families family).flushed
CompactMet s books k refusal.RegisterFull family = WereAllNumbered books
CompactMet s books k refusal.TooManyLive family = WereManyLive books
CompactMet s books k (refusal.DirFault number) family = WasCapturedFor books family number
CompactMet s books k (refusal.BadFile number place) family = (s.told ≡ false) × WasCapturedFor books family number
CompactMet s books k e family = ⊥
