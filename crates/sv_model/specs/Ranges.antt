-- Ranges of writes: a file covers the writes `from + 1` to `to` of its family.
use Rattle.std.specs.Prelude.{◌≡◌, ℕ, List, [], ◌∷◌}
use Rattle.sv_model.specs.declared.records.FileMeta.{FileMeta}

-- The ranges of the files begin at the one end, join without gap, and end at the other.
abbrev pub FilesJoin : ℕ → List FileMeta → ℕ → Type 0
FilesJoin from [] to = from ≡ to
FilesJoin from (f ∷ files) to = (f.from ≡ from) × FilesJoin f.to files to

-- the last write that the files cover, where they begin after this one
abbrev pub reach_from : ℕ → List FileMeta → ℕ
reach_from from [] = from
reach_from from (f ∷ files) = reach_from f.to files

-- the last write that the files cover
abbrev pub reach_of : List FileMeta → ℕ
reach_of files = reach_from 0 files
