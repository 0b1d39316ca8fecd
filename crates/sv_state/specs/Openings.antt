-- What a store that was kept is opened from, and the books that it begins with.
use Rattle.std.specs.Prelude.{◌≡◌, ◌≤◌, ◌<◌, ◌++◌, ◌∷◌, ℕ, suc, true, false, List, [], Some, length, map, flat_map, slice_get}
use Rattle.std.specs.Option.{option_map}
use Rattle.sv_model.specs.declared.records.FileMeta.{FileMeta}
use Rattle.sv_model.specs.declared.records.SuperVersion.{SuperVersion}
use Rattle.sv_model.specs.declared.records.Memtable.{Memtable}
use Rattle.sv_model.specs.declared.records.MemtableList.{MemtableList}
use Rattle.sv_model.specs.declared.records.Version.{Version}
use Rattle.sv_model.specs.declared.records.Top.{Top}
use Rattle.sv_model.specs.declared.writes.Row.{Row}
use Rattle.sv_model.specs.declared.writes.Write.{Write}
use Rattle.sv_model.specs.declared.openings.OpenFamily.{OpenFamily}
use Rattle.sv_model.specs.declared.openings.Opening.{Opening}
use Rattle.sv_model.specs.declared.limits.TheConstants.{MAX_FAMILIES, MAX_WRITES}
use Rattle.sv_model.specs.Books.{Books}
use Rattle.sv_model.specs.Families.{InRange, default_name}
use Rattle.sv_model.specs.Flat.{AreCuts}
use Rattle.sv_model.specs.Lists.{Distinct, Every}
use Rattle.sv_model.specs.Named.{numbers_of}
use Rattle.sv_model.specs.Ranges.{FilesJoin}
use Rattle.sv_files.specs.Calls.{live_file, opened}
use Rattle.sv_family.specs.Openings.{open_families}

-- ---- what the families have, family by family

-- the write of a row that was kept: no memtable bears it and no lane made it
abbrev pub opening_write : ℕ → Row → Write
opening_write family row = record { family = family; key = row.key; op = row.op; mem = 0; lane = 255 }

-- the writes of these families, of which the first has this id
abbrev pub opening_writes : ℕ → List OpenFamily → List Write
opening_writes id [] = []
opening_writes id (f ∷ families) = map (opening_write id) f.writes.items ++ opening_writes (suc id) families

-- the file's number with its family
abbrev pub numbered : ℕ → FileMeta → ℕ × ℕ
numbered family file = (family, file.number)

abbrev pub opening_numbers : ℕ → List OpenFamily → List (ℕ × ℕ)
opening_numbers id [] = []
opening_numbers id (f ∷ families) = map (numbered id) f.files.items ++ opening_numbers (suc id) families

abbrev pub opening_files : List OpenFamily → List FileMeta
opening_files families = flat_map (λ f. f.files.items) families

-- ---- what may be opened

-- A family's options are within range. Its files have ranges of at least one write each, which begin at 0, join and end
-- where its writes do. They have lawful cuts, and none but the first has nothing below it.
pub record IsOpenFamily (f : OpenFamily) : Type 0 where
  pub options : InRange f.options
  pub joins : FilesJoin 0 f.files.items (length f.writes.items)
  pub some : Every (λ m. m.from < m.to) f.files.items
  pub cuts : Every (λ m. AreCuts m.from m.to m.bottom.cuts) f.files.items
  pub above : (i : ℕ) (m : FileMeta) → slice_get f.files.items i ≡ Some m → 0 < i → m.bottom.last ≡ false

-- There are 1 to 16 families with distinct names, the first is `default`, and each is as above. The numbers of all files
-- are distinct, at least 1 and below the opening's next. The writes of all families are at most 262,144. The next file
-- number is not below the opening's.
pub record MayOpen (opening : Opening) (next : ℕ) : Type 0 where
  pub most : length opening.families.items ≤ MAX_FAMILIES
  pub default : option_map (λ f. f.name) (slice_get opening.families.items 0) ≡ Some default_name
  pub names : Distinct (map (λ f. f.name) opening.families.items)
  pub each : Every IsOpenFamily opening.families.items
  pub distinct : Distinct (numbers_of (opening_files opening.families.items))
  pub within : Every (λ n. (1 ≤ n) × (n < opening.next)) (numbers_of (opening_files opening.families.items))
  pub few : length (opening_writes 0 opening.families.items) ≤ MAX_WRITES
  pub least : 1 ≤ next
  pub next_is : opening.next ≤ next

-- ---- the books

-- what is made of each of these families by its id, of which the first has this one
abbrev pub by_id : {A : Type 0} → (ℕ → OpenFamily → A) → ℕ → List OpenFamily → List A
by_id make id [] = []
by_id make id (f ∷ families) = make id f ∷ by_id make (suc id) families

abbrev pub open_super : ℕ → OpenFamily → SuperVersion
open_super id f = record {
  descriptor = record { family = id; active = suc id; list = suc id; version = suc id; base = length f.writes.items; options = f.options };
  place = id;
  live = true;
}

abbrev pub open_memtable : ℕ → OpenFamily → Memtable
open_memtable id f = record { family = id; first = length f.writes.items; cell = id; live = true }

abbrev pub open_list : ℕ → OpenFamily → MemtableList
open_list id f = record { members = []; live = true }

abbrev pub open_version : ℕ → OpenFamily → Version
open_version id f = record { files = f.files.items; live = true }

abbrev pub open_top : ℕ → OpenFamily → Top
open_top id f = record { current = Some (suc id); last = suc id }

-- Family i has memtable i + 1 in cell i, SuperVersion i + 1 at place i, and its files in its last Version; just the
-- named numbers are registered, each Live.
abbrev pub opened_books : List OpenFamily → ℕ → Books
opened_books families next = record {
  journal = opening_writes 0 families;
  supers = by_id open_super 0 families;
  memtables = by_id open_memtable 0 families;
  lists = by_id open_list 0 families;
  versions = by_id open_version 0 families;
  files = opened next (map live_file (opening_numbers 0 families));
  metas = opening_files families;
  families = open_families families;
  tops = by_id open_top 0 families;
  snapshots = [];
}
