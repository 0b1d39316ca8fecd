-- Options are set.
use Rattle.std.specs.Prelude.{◌≡◌, ◌<◌, ℕ}
use Rattle.sv_model.specs.declared.settings.OptionName.{OptionName}
use Rattle.sv_model.specs.declared.settings.OptionName.TheVariants.{MemtableRows, MaxImmutable}
use Rattle.sv_model.specs.declared.settings.Options.{Options}
use Rattle.sv_model.specs.declared.records.SuperVersion.{SuperVersion}
use Rattle.sv_model.specs.declared.refusals.Refusal.{Refusal}
use Rattle.sv_model.specs.declared.refusals.Refusal.TheVariants as refusal
use Rattle.sv_model.specs.Books.{Books}
use Rattle.sv_model.specs.Moments.{WereManyLive, WereAllMade}
use Rattle.sv_replies.specs.Known.{Known}
use Rattle.sv_replies.specs.Moments.{IsIn, WasDropped}

abbrev pub value_of : OptionName → Options → ℕ
value_of MemtableRows o = o.memtable_rows
value_of MaxImmutable o = o.max_immutable

-- the SuperVersion is of the family, and has that option at that value
pub record HasOption (family : ℕ) (option : OptionName) (value : ℕ) (s : SuperVersion) : Type 0 where
  pub family_is : s.descriptor.family ≡ family
  pub value_is : value_of option s.descriptor.options ≡ value

-- The SuperVersion is newer than each that the lane was shown.
pub record Sets (books : Books) (k : Known) (option : OptionName) (value serial family : ℕ) : Type 0 where
  pub newer : (k.families family).serial < serial
  pub set : IsIn (HasOption family option value) books.supers serial

-- what a refused setting says of the books
abbrev pub SetMet : Books → Refusal → ℕ → Type 0
SetMet books refusal.Dropped family = WasDropped books family
SetMet books refusal.RegisterFull family = WereAllMade books
SetMet books refusal.TooManyLive family = WereManyLive books
SetMet books e family = ⊥
