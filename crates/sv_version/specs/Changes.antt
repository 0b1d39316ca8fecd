-- What a call does to the Versions ever made.
use Rattle.std.specs.Prelude.{◌≡◌, ℕ, ◌+◌, ◌++◌, ◌∷◌, List, [], Some, true, false, length}
use Rattle.sv_model.specs.declared.records.FileMeta.{FileMeta}
use Rattle.sv_model.specs.declared.records.Version.{Version}
use Rattle.sv_model.specs.Lists.{IsChosen}
use Rattle.sv_model.specs.Named.{numbers_of, HasFile}
use Rattle.sv_model.specs.Registers.{entry, change, Has}

-- a live Version with these files
abbrev pub live_version : List FileMeta → Version
live_version files = record { files = files; live = true }

-- A Version with these files was made, and has the next id.
pub record IsMade (old : List Version) (files : List FileMeta) (new : List Version) (id : ℕ) : Type 0 where
  pub next : id ≡ length old + 1
  pub made : new ≡ old ++ live_version files ∷ []

-- a Version keeps its files and is Gone
abbrev pub gone_version : Version → Version
gone_version v = record { files = v.files; live = false }

-- The Version is Gone. Given are its files that no other Version names, the oldest first, each once.
pub record IsReleased (old : List Version) (id : ℕ) (new : List Version) (answer : List ℕ) : Type 0 where
  pub gone : (v : Version) → entry old id ≡ Some v → new ≡ change old id (gone_version v)
  pub given : (v : Version) → entry old id ≡ Some v → IsChosen (λ n. Has (HasFile n) new → ⊥) (numbers_of v.files) answer
