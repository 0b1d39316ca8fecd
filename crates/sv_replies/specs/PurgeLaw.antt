-- Purges and scans.
use Rattle.std.specs.Prelude.{◌≡◌, ◌⊎◌, ℕ, List}
use Rattle.std.specs.List.Sorted.{IsStrictlyIncreasing}
use Rattle.sv_model.specs.declared.records.FileStatus.TheVariants.{Gone}
use Rattle.sv_model.specs.declared.refusals.Refusal.{Refusal}
use Rattle.sv_model.specs.declared.refusals.Refusal.TheVariants as refusal
use Rattle.sv_model.specs.Books.{Books}
use Rattle.sv_model.specs.Lists.{In}
use Rattle.sv_model.specs.Numbers.{IsRegistered}
use Rattle.sv_model.specs.Registers.{Has}
use Rattle.sv_replies.specs.Known.{Known}
use Rattle.sv_replies.specs.Due.{HoldsStand}
use Rattle.sv_replies.specs.Settings.{Setting}

-- the numbers ascend, and each is Gone
pub record Purges (books : Books) (numbers : List ℕ) : Type 0 where
  pub rising : IsStrictlyIncreasing numbers
  pub gone : (n : ℕ) → In n numbers → IsRegistered books.files.numbers n Gone

-- the number is registered
abbrev pub IsKnownNumber : Books → ℕ → Type 0
IsKnownNumber books n = Has (λ f. f.number ≡ n) books.files.numbers

-- what a refused purge says of the books
abbrev pub PurgeMet : Setting → Books → Known → Refusal → Type 0
PurgeMet s books k (refusal.Disabled count) = HoldsStand s k.holds count
PurgeMet s books k (refusal.DirFault number) = IsKnownNumber books number
PurgeMet s books k e = ⊥

-- The same of a scan, whose listing has the number 0.
abbrev pub ScanMet : Setting → Books → Known → Refusal → Type 0
ScanMet s books k (refusal.Disabled count) = HoldsStand s k.holds count
ScanMet s books k (refusal.DirFault number) = (number ≡ 0) ⊎ IsKnownNumber books number
ScanMet s books k e = ⊥
