-- SuperVersions of several families that were current at one moment.
use Rattle.std.specs.Prelude.{◌≡◌, ◌<◌, ◌≤◌, ℕ, List}
use Rattle.sv_model.specs.declared.records.SuperVersion.{SuperVersion}
use Rattle.sv_model.specs.Lists.{In}
use Rattle.sv_model.specs.Registers.{EachEntry}

-- a family with the serial of a SuperVersion
pub record Seen : Type 0 where
  pub family : ℕ
  pub serial : ℕ

-- No SuperVersion of the one's family was made after it and up to the other.
abbrev pub IsCurrentAt : List SuperVersion → Seen → Seen → Type 0
IsCurrentAt supers one other = EachEntry (λ n s. s.descriptor.family ≡ one.family → one.serial < n → n ≤ other.serial → ⊥) supers

-- each was still current when any other of them was made
abbrev pub AreTogether : List SuperVersion → List Seen → Type 0
AreTogether supers list = (one other : Seen) → In one list → In other list → IsCurrentAt supers one other
