-- The SuperVersion that was current before goes at once.
use Rattle.std.specs.Prelude.{◌≡◌, ◌+◌, ◌*◌, ℕ, Option, Some, None}
use Rattle.sv_model.specs.declared.records.SuperVersion.{SuperVersion}
use Rattle.sv_model.specs.Books.{Books}
use Rattle.sv_model.specs.Steady.{IsCurrent}
use Rattle.sv_laws.specs.Cleaning.{IsCleaned}

-- The SuperVersion of the pack is Gone, with all that it alone named.
pub record PackGoes (a b : Books) (pack : ℕ) : Type 0 where
  pub s : ℕ
  pub x : SuperVersion
  pub pack_is : pack ≡ s * 256 + x.place
  pub cleaned : IsCleaned a b s x

abbrev pub GoesIf : Books → Books → Option ℕ → Type 0
GoesIf a b None = b ≡ a
GoesIf a b (Some pack) = PackGoes a b pack

-- The SuperVersion that was the family's current in the books `a` goes, with all that it alone names in the books `m`.
pub record CurrentGoes (a m b : Books) (family : ℕ) : Type 0 where
  pub s : ℕ
  pub x : SuperVersion
  pub was : IsCurrent a.tops a.supers family s x
  pub cleaned : IsCleaned m b s x

-- The family has a new current by R, and the one before is Gone.
pub record Renews (R : Books → Books → Type 0) (family : ℕ) (a b : Books) : Type 0 where
  pub mid : Books
  pub is : R a mid
  pub goes : CurrentGoes a mid b family
