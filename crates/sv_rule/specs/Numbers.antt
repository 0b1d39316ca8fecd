-- The number words are the packs of the currents, but for the family of a work that is set or begun.
use Rattle.std.specs.Prelude.{List, Some, length, ℕ, ◌/◌, ◌<◌, ◌≡◌, ◌≢◌, ◌≤◌, ◌⊎◌}
use Rattle.sv_model.specs.Books.{Books}
use Rattle.sv_model.specs.Lawful.{Lawful}
use Rattle.sv_model.specs.Registers.{EachEntry, entry}
use Rattle.sv_model.specs.declared.records.Memtable.{Memtable}
use Rattle.sv_model.specs.declared.records.SuperVersion.{SuperVersion}
use Rattle.sv_model.specs.Supers.{IsPackOf, IsSerialOf, current_of, end_at, writes}
use Rattle.sv_rule.specs.UnderWay.{excepts}
use Rattle.sv_rule.specs.Views.{Work}

-- the number word n of family f
pub record NumberOk (b : Books) (work : Work) (f n : ℕ) : Type 0 where
  pub current : excepts f work ≡ 0 → n ≡ current_of b f
  pub marks : n < 256 → n ≡ 0
  pub is : 256 ≤ n → IsPackOf b.supers f n
  pub other : 0 < excepts f work → 256 ≤ n → n ≢ current_of b f
  -- it is the newest of the family's SuperVersions but for the current
  pub last : 256 ≤ n → (t : ℕ) → IsSerialOf b.supers f t → (t ≤ n / 256)
      ⊎ ((0 < excepts f work) × (t ≡ current_of b f / 256))
  pub first : 0 < excepts f work → n ≡ 0 → (t : ℕ) → IsSerialOf b.supers f t → t ≡ current_of b f / 256
  pub ends : 256 ≤ n → end_at b n ≡ writes b.journal f

-- the SuperVersion begins where its active memtable does, which is of its family
pub record IsBased (memtables : List Memtable) (x : SuperVersion) : Type 0 where
  pub active : Memtable
  pub at : entry memtables x.descriptor.active ≡ Some active
  pub family : active.family ≡ x.descriptor.family
  pub base : x.descriptor.base ≡ active.first

pub record Numbers (b : Books) (work : Work) (number : ℕ → ℕ) : Type 0 where
  pub lawful : Lawful b
  pub word : (f : ℕ) → f < 16 → NumberOk b work f (number f)
  -- the current of a work that is set or begun is the newest of all SuperVersions
  pub top : (f : ℕ) → f < 16 → 0 < excepts f work → 256 ≤ current_of b f → current_of b f / 256 ≡ length b.supers
  -- `default` has had a current from the opening on
  pub default : 0 < excepts 0 work → 256 ≤ number 0
  -- each SuperVersion, also one that is Gone, begins where its active memtable does
  pub based : EachEntry (λ t x. IsBased b.memtables x) b.supers
