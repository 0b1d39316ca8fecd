-- What holds of each Version of the register.
use Rattle.std.specs.Prelude.{◌≡◌, ◌≤◌, ℕ, false, refl}
use Rattle.std.proofs.Common.{arith}
use Rattle.sv_model.specs.declared.records.Version.{Version}
use Rattle.sv_model.specs.Lists.{times}
use Rattle.sv_model.specs.Named.{numbers_of}
use Rattle.sv_model.specs.Ranges.{FilesJoin}
use Rattle.sv_version.specs.Changes.{gone_version}

-- The ranges of its files join, and each number stands once.
pub record IsSound (v : Version) : Type 0 where
  pub once : (n : ℕ) → times n (numbers_of v.files) ≤ 1
  pub joins : (to : ℕ) × FilesJoin 0 v.files to

pub sound_seldom : (v : Version) (n : ℕ) → IsSound v → times n (numbers_of v.files) ≤ 64
sound_seldom v n sound = omega (arith, sound.once n)

pub gone_sound : (v : Version) → IsSound v → (numbers_of (gone_version v).files ≡ numbers_of v.files) × ((gone_version v).live ≡ false) × IsSound (gone_version v)
gone_sound v sound = (refl, refl, record { once = sound.once; joins = sound.joins })
