-- The lists and the Versions that the tests begin with.
use Rattle.std.specs.Prelude.{List, [], ◌∷◌, true, false}
use Rattle.sv_model.specs.declared.records.MemtableList.{MemtableList}
use Rattle.sv_model.specs.declared.records.Version.{Version}
use Rattle.sv_model.specs.declared.records.FileMeta.{FileMeta}
use Rattle.sv_imm.specs.Changes.{live_list}
use Rattle.sv_version.specs.Changes.{live_version}

-- no member, then memtable 7, then memtables 7 and 8
abbrev pub three_lists : List MemtableList
three_lists = live_list [] ∷ live_list (7 ∷ []) ∷ live_list (7 ∷ 8 ∷ []) ∷ []

-- file 1 of the writes 1 to 10
abbrev pub older_file : FileMeta
older_file = record { number = 1; from = 0; to = 10; bottom = record { last = false; cuts = [] } }

-- file 2 of the writes 11 to 20
abbrev pub newer_file : FileMeta
newer_file = record { number = 2; from = 10; to = 20; bottom = record { last = false; cuts = [] } }

-- file 3 of the writes 1 to 20, with nothing below it
abbrev pub merged_file : FileMeta
merged_file = record { number = 3; from = 0; to = 20; bottom = record { last = true; cuts = [] } }

-- no file, then file 1, then files 1 and 2
abbrev pub three_versions : List Version
three_versions = live_version [] ∷ live_version (older_file ∷ []) ∷ live_version (older_file ∷ newer_file ∷ []) ∷ []
