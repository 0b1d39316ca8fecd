-- When a SuperVersion may go, and what is left.
use Rattle.std.specs.Prelude.{◌≡◌, ◌+◌, ◌*◌, ℕ, Bool, true, false, List, Some, slice_get}
use Rattle.sv_model.specs.declared.records.SuperVersion.{SuperVersion}
use Rattle.sv_model.specs.declared.records.Memtable.{Memtable}
use Rattle.sv_model.specs.declared.records.Top.{Top}
use Rattle.sv_model.specs.Registers.{entry, EachEntry}
use Rattle.sv_model.specs.Books.{Books}
use Rattle.sv_model.specs.Named.{HasLast}
use Rattle.sv_model.specs.Steady.{Sound}
use Rattle.sv_laws.specs.Cleaning.{AreCellsGone, IsCleaned}
use Rattle.sv_objects.specs.declared.objects.Objects.{Objects}

-- no two Live memtables have one cell
abbrev pub AreApart : List Memtable → Type 0
AreApart memtables = EachEntry (λ n y. y.live ≡ true → EachEntry (λ k z. z.live ≡ true → z.cell ≡ y.cell → k ≡ n) memtables) memtables

-- the books with these objects
abbrev pub with_objects : Books → Objects → Books
with_objects b o = record b { supers = o.supers; memtables = o.memtables; lists = o.lists; versions = o.versions; files = o.files }

-- The objects are those of sound books, and the pack is that of a Live SuperVersion that is current of no family. Said
-- is whether its Version is the last one of a family that is not retired.
pub record CanClean (o : Objects) (pack : ℕ) (said : Bool) : Type 0 where
  pub rest : Books
  pub sound : Sound (with_objects rest o)
  pub serial : ℕ
  pub it : SuperVersion
  pub at : entry o.supers serial ≡ Some it
  pub live : it.live ≡ true
  pub pack_is : pack ≡ serial * 256 + it.place
  pub free : (f : ℕ) (t : Top) → slice_get rest.tops f ≡ Some t → t.current ≡ Some serial → ⊥
  pub stays : said ≡ true → HasLast it.descriptor.version rest.families rest.tops
  pub goes : said ≡ false → HasLast it.descriptor.version rest.families rest.tops → ⊥

-- The SuperVersion is Gone with all that it alone named, and these are the cells of the memtables that went.
pub record Cleaned {old : Objects} {pack : ℕ} {said : Bool} (can : CanClean old pack said) (new : Objects) (cells : List ℕ) : Type 0 where
  pub cleaned : IsCleaned (with_objects can.rest old) (with_objects can.rest new) can.serial can.it
  pub gone : AreCellsGone old.memtables new.memtables cells
