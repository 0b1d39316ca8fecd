-- What the calls of a registry give and leave.
use Rattle.std.specs.Prelude.{◌≡◌, ◌+◌, ◌*◌, ◌<◌, ℕ, true, cond, nat_le, List, [], ◌∷◌, ◌++◌, length, Option, Some, None}
use Rattle.sv_model.specs.declared.records.SuperVersion.{SuperVersion}
use Rattle.sv_model.specs.declared.records.Descriptor.{Descriptor}
use Rattle.sv_model.specs.declared.refusals.Refusal.{Refusal}
use Rattle.sv_model.specs.declared.refusals.Refusal.TheVariants.{RegisterFull, TooManyLive}
use Rattle.sv_model.specs.Named.{super_live, UsesMemtable, UsesList, UsesVersion}
use Rattle.sv_model.specs.Registers.{entry, Has}
use Rattle.sv_model.specs.Places as model
use Rattle.sv_model.specs.Places.{live_count, IsLeastFree, HavePlaces, place_of, gone_super}
use Rattle.sv_registry.specs.declared.registry.Freed.{Freed}
use Rattle.sv_model.specs.declared.limits.TheConstants.{MAX_PLACES, MAX_SUPERS}

-- the refusal that is due where 256 are Live
abbrev pub full_refusal : List SuperVersion → Option Refusal
full_refusal supers = cond (nat_le MAX_PLACES (live_count super_live supers)) (Some TooManyLive) None

-- the refusal that making a SuperVersion meets: 1,048,576 were made, or 256 are Live
abbrev pub make_refusal : List SuperVersion → Option Refusal
make_refusal supers = cond (nat_le MAX_SUPERS (length supers)) (Some RegisterFull) (full_refusal supers)

-- A Live SuperVersion with this descriptor is made at the least free place, under the next serial.
pub record IsMade (old : List SuperVersion) (descriptor : Descriptor) (pack : ℕ) (new : List SuperVersion) : Type 0 where
  pub place : ℕ
  pub within : place < 256
  pub least : IsLeastFree super_live place_of old place
  pub made : new ≡ old ++ record { descriptor = descriptor; place = place; live = true } ∷ []
  pub pack_is : pack ≡ (length old + 1) * 256 + place

-- Each Live SuperVersion has a place of its own, below 256.
abbrev pub HaveOwnPlaces : List SuperVersion → Type 0
HaveOwnPlaces = HavePlaces super_live place_of 256

-- the SuperVersion made last is Live
abbrev pub IsJustMade : List SuperVersion → Type 0
IsJustMade = model.IsJustMade super_live

-- the pack is that of a Live SuperVersion, whose serial and record these are
pub record IsLivePack (supers : List SuperVersion) (pack : ℕ) : Type 0 where
  pub serial : ℕ
  pub it : SuperVersion
  pub at : entry supers serial ≡ Some it
  pub live : it.live ≡ true
  pub within : it.place < 256
  pub pack_is : pack ≡ serial * 256 + it.place

-- The Live SuperVersion of this serial is Gone, and nothing else changed.
abbrev pub IsEnded : List SuperVersion → ℕ → SuperVersion → List SuperVersion → Type 0
IsEnded = model.IsEnded super_live gone_super

-- A part is freed exactly where it is not named any more.
abbrev pub Frees : Type 0 → ℕ → Option ℕ → Type 0
Frees named part (Some freed) = (freed ≡ part) × (named → ⊥)
Frees named part None = named

-- The SuperVersion of this pack is Gone, and each part is freed that no other Live one names.
pub record IsReclaimed (old : List SuperVersion) (pack : ℕ) (freed : Freed) (new : List SuperVersion) : Type 0 where
  pub serial : ℕ
  pub it : SuperVersion
  pub pack_is : pack ≡ serial * 256 + it.place
  pub ended : IsEnded old serial it new
  pub active : Frees (Has (UsesMemtable it.descriptor.active) new) it.descriptor.active freed.active
  pub list : Frees (Has (UsesList it.descriptor.list) new) it.descriptor.list freed.list
  pub version : Frees (Has (UsesVersion it.descriptor.version) new) it.descriptor.version freed.version
