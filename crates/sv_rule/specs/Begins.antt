-- The table, the books and the directory at the opening.
use Rattle.std.specs.Prelude.{◌≡◌, ◌≢◌, ◌<◌, ◌≤◌, ◌+◌, ◌*◌, ℕ, suc, List, [], Option, Some, None, length, slice_index}
use mathlib.Core.Option as maybe
use lib.ListN.{get_elem?}
use Rattle.sv_model.specs.declared.records.FileStatus.TheVariants.{Live}
use Rattle.sv_model.specs.Books.{Books}
use Rattle.sv_model.specs.Cells.{Cell}
use Rattle.sv_model.specs.Files.{Files}
use Rattle.sv_model.specs.HeldFiles.{FilesHold}
use Rattle.sv_model.specs.Lawful.{Lawful}
use Rattle.sv_model.specs.Openings.{IsOpening}
use Rattle.sv_model.specs.Registers.{EachEntry}
use Rattle.sv_rule.specs.declared.parts.Stored.{Stored}
use Rattle.sv_rule.specs.declared.parts.Stored.TheVariants as is
use Rattle.sv_model.specs.Supers.{pack}
use Rattle.sv_model.specs.Tasks.{handle}
use Rattle.sv_rule.specs.Table.{cell_word, number_word, reference_word, slot_home}
use Rattle.sv_rule.specs.Views.{Disk}

-- The words: family f, of so many, has SuperVersion f + 1, which lies at place f and has one holder.
pub record FirstWords (families : ℕ) (ws : List ℕ) : Type 0 where
  pub long : length ws ≡ 851
  pub numbers : (f : ℕ) → f < families → slice_index ws (number_word f) ≡ pack (suc f) f
  pub references : (f : ℕ) → f < families → slice_index ws (reference_word f) ≡ suc f * 4294967296 + 1
  pub zeros : (k : ℕ) → ((f : ℕ) → f < families → k ≢ number_word f) → ((f : ℕ) → f < families → k ≢ reference_word f)
      → slice_index ws k ≡ 0

module _ {S D C B : Type 0} where
  -- cell c has the memtable of family c without rows, and is vacant where there is no such family
  pub record FirstCell (cell : C → Option Cell) (families c : ℕ) (xs : List (Stored S D C B)) : Type 0 where
    pub it : C
    pub at : get_elem? xs (cell_word c) ≡ maybe.some (is.Cell it)
    pub has : c < families → cell it ≡ Some (record { id = suc c; rows = [] })
    pub vacant : families ≤ c → cell it ≡ None

  -- the slots: the state, the directory, the cells, and nothing at the slots of lanes
  pub record FirstSlots (books : S → Books) (disk : D → Disk) (cell : C → Option Cell) (b : Books) (d : Disk)
      (xs : List (Stored S D C B)) : Type 0 where
    pub long : length xs ≡ 578
    pub state : S
    pub state_at : get_elem? xs 0 ≡ maybe.some (is.State state)
    pub books_are : books state ≡ b
    pub dir : D
    pub dir_at : get_elem? xs 1 ≡ maybe.some (is.Dir dir)
    pub disk_is : disk dir ≡ d
    pub cells : (c : ℕ) → c < 64 → FirstCell cell (length b.families) c xs
    pub nothing : (i : ℕ) → i < 512 → get_elem? xs (slot_home i) ≡ maybe.some is.Nothing

-- The books: each lane has a handle of `default` and of no other family, each registered number is Live, and the
-- directory has their files.
pub record FirstBooks (b : Books) (d : Disk) : Type 0 where
  pub opening : IsOpening b
  pub lawful : Lawful b
  pub default : (lane : ℕ) → lane < 32 → handle b.families lane 0 ≡ 1
  pub others : (lane f : ℕ) → 0 < f → handle b.families lane f ≡ 0
  pub numbers : EachEntry (λ i x. x.status ≡ Live) b.files.numbers
  pub files : (files : Files) → d.files ≡ Some files → FilesHold b files files
