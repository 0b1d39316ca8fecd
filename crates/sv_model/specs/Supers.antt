-- What lanes read in the books: SuperVersions by serial and by pack, the current of each family, and how far its
-- writes go.
use Rattle.std.specs.Prelude.{◌≡◌, ℕ, ◌+◌, ◌*◌, ◌/◌, ◌%◌, ◌==◌, cond, true, List, Option, Some, None, length, slice_get}
use Rattle.sv_model.specs.declared.writes.Write.{Write}
use Rattle.sv_model.specs.declared.records.SuperVersion.{SuperVersion}
use Rattle.sv_model.specs.declared.records.Top.{Top}
use Rattle.sv_model.specs.Journal.{of_family}
use Rattle.sv_model.specs.Registers.{entry}
use Rattle.sv_model.specs.Books.{Books, end_of}

-- a pack as a word: a serial with a place
abbrev pub pack : ℕ → ℕ → ℕ
pack serial place = serial * 256 + place

-- the SuperVersion of the serial is Live, at the place
pub record LiveAt (supers : List SuperVersion) (serial place : ℕ) : Type 0 where
  pub sv : SuperVersion
  pub is : entry supers serial ≡ Some sv
  pub live : sv.live ≡ true
  pub place_is : sv.place ≡ place

-- t is the serial of a SuperVersion of the family f
pub record IsSerialOf (supers : List SuperVersion) (f t : ℕ) : Type 0 where
  pub sv : SuperVersion
  pub is : entry supers t ≡ Some sv
  pub family : sv.descriptor.family ≡ f

-- p is the pack of a SuperVersion of the family f
pub record IsPackOf (supers : List SuperVersion) (f p : ℕ) : Type 0 where
  pub sv : SuperVersion
  pub is : entry supers (p / 256) ≡ Some sv
  pub family : sv.descriptor.family ≡ f
  pub place : sv.place ≡ p % 256

-- ---- currents

abbrev pub pack_at : ℕ → Option SuperVersion → ℕ
pack_at serial None = 0
pack_at serial (Some x) = pack serial x.place

abbrev pub pack_of_serial : List SuperVersion → Option ℕ → ℕ
pack_of_serial supers None = 0
pack_of_serial supers (Some s) = pack_at s (entry supers s)

abbrev pub current_serial : Option Top → Option ℕ
current_serial None = None
current_serial (Some t) = t.current

-- the pack of the family's current, 0 where it has none
abbrev pub current_in : List SuperVersion → List Top → ℕ → ℕ
current_in supers tops f = pack_of_serial supers (current_serial (slice_get tops f))

abbrev pub current_of : Books → ℕ → ℕ
current_of b f = current_in b.supers b.tops f

-- 1 where the family has a current
abbrev pub has_current : Books → ℕ → ℕ
has_current b f = cond (current_of b f == 0) 0 1

-- ---- writes

-- the number of writes of the family f
abbrev pub writes : List Write → ℕ → ℕ
writes journal f = length (of_family f journal)

abbrev pub end_in : List Write → Option SuperVersion → ℕ
end_in journal None = 0
end_in journal (Some x) = end_of journal x

-- the number of writes of its family that the SuperVersion of a pack shows
abbrev pub end_at : Books → ℕ → ℕ
end_at b p = end_in b.journal (entry b.supers (p / 256))
