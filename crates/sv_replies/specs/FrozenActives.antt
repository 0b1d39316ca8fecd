-- Each SuperVersion's active memtable is that of its family's current, or is frozen.
use Rattle.std.specs.Prelude.{◌≡◌, ◌⊎◌, ℕ}
use Rattle.sv_model.specs.declared.records.SuperVersion.{SuperVersion}
use Rattle.sv_model.specs.Books.{Books}
use Rattle.sv_model.specs.Lists.{In}
use Rattle.sv_model.specs.Registers.{EachEntry, Has}
use Rattle.sv_model.specs.Steady.{IsCurrent}

-- the memtable was ever a member of a list
abbrev pub WasListed : Books → ℕ → Type 0
WasListed b m = Has (λ l. In m l.members) b.lists

abbrev pub IsActiveOrListed : Books → SuperVersion → Type 0
IsActiveOrListed b x = (s : ℕ) (c : SuperVersion) → IsCurrent b.tops b.supers x.descriptor.family s c
    → (x.descriptor.active ≡ c.descriptor.active) ⊎ WasListed b x.descriptor.active

abbrev pub ActivesAreFrozen : Books → Type 0
ActivesAreFrozen b = EachEntry (λ n x. IsActiveOrListed b x) b.supers
