-- A family's handles, its drop, its retirement, and the end of its current.
use Rattle.std.specs.Prelude.{◌≡◌, ◌<◌, ◌⊎◌, ℕ, true, false, Some, None, length, replicate, slice_get, slice_set}
use Rattle.sv_model.specs.declared.records.Family.{Family}
use Rattle.sv_model.specs.declared.records.Top.{Top}
use Rattle.sv_model.specs.Books.{Books}
use Rattle.sv_model.specs.Families.{is_retired}
use Rattle.sv_model.specs.declared.limits.TheConstants.{MAX_LANES}

-- The family keeps its name and its options. Its current stands, or it has none any more. Where it is retired by it,
-- it had a current, which is its last Version's holder from then on.
pub record ChangesFamily (a b : Books) (f : ℕ) (o y : Family) (t u : Top) : Type 0 where
  pub at : slice_get a.families f ≡ Some o
  pub on : slice_get a.tops f ≡ Some t
  pub name_is : y.name ≡ o.name
  pub options_are : y.options ≡ o.options
  pub handles : length y.handles ≡ length o.handles
  pub dropped : o.dropped ≡ true → y.dropped ≡ true
  pub default : f ≡ 0 → y.dropped ≡ false
  pub last_is : u.last ≡ t.last
  pub current : (u.current ≡ t.current) ⊎ (u.current ≡ None)
  pub back : is_retired y ≡ false → is_retired o ≡ false
  pub ended : is_retired y ≡ true → u.current ≡ None
  pub had : is_retired y ≡ true → is_retired o ≡ false → (s : ℕ) × (t.current ≡ Some s)
  pub is : b ≡ record a { families = slice_set a.families f y; tops = slice_set a.tops f u }

-- A family that some lane has a handle of is dropped; it is not default.
pub record IsDropped (a b : Books) (f lane : ℕ) : Type 0 where
  pub it : Family
  pub at : slice_get a.families f ≡ Some it
  pub other : 0 < f
  pub handle : slice_get it.handles lane ≡ Some true
  pub is : b ≡ record a { families = slice_set a.families f (record it { dropped = true }) }

-- The lane gets a handle of a family that is not dropped.
pub record IsOpened (a b : Books) (f lane : ℕ) : Type 0 where
  pub it : Family
  pub at : slice_get a.families f ≡ Some it
  pub stands : it.dropped ≡ false
  pub is : b ≡ record a { families = slice_set a.families f (record it { handles = slice_set it.handles lane true }) }

abbrev pub released : Family → ℕ → Family
released it lane = record it { handles = slice_set it.handles lane false }

-- The lane has a handle of the family no more, and the family is not retired by it.
pub record IsReleased (a b : Books) (f lane : ℕ) : Type 0 where
  pub it : Family
  pub at : slice_get a.families f ≡ Some it
  pub handle : slice_get it.handles lane ≡ Some true
  pub kept : is_retired (released it lane) ≡ false
  pub is : b ≡ record a { families = slice_set a.families f (released it lane) }

-- The family is retired by it: it has no current any more, which is Live until it is cleaned up.
pub record IsRetired (a b : Books) (f lane : ℕ) : Type 0 where
  pub it : Family
  pub at : slice_get a.families f ≡ Some it
  pub handle : slice_get it.handles lane ≡ Some true
  pub retired : is_retired (released it lane) ≡ true
  pub top : Top
  pub on : slice_get a.tops f ≡ Some top
  pub s : ℕ
  pub current : top.current ≡ Some s
  pub is : b ≡ record a {
    families = slice_set a.families f (released it lane);
    tops = slice_set a.tops f (record top { current = None });
  }

-- At the close: a family that is not dropped has no current any more. Its last Version stays named.
pub record IsCurrentEnded (a b : Books) (f : ℕ) : Type 0 where
  pub it : Family
  pub at : slice_get a.families f ≡ Some it
  pub stands : it.dropped ≡ false
  pub top : Top
  pub on : slice_get a.tops f ≡ Some top
  pub is : b ≡ record a { tops = slice_set a.tops f (record top { current = None }) }

abbrev pub without_handles : Family → Family
without_handles it = record it { handles = replicate MAX_LANES false }

-- At the close: no lane has a handle of a dropped family any more. It is retired by it, and has no current any more.
pub record IsForgotten (a b : Books) (f : ℕ) : Type 0 where
  pub it : Family
  pub at : slice_get a.families f ≡ Some it
  pub gone : it.dropped ≡ true
  pub top : Top
  pub on : slice_get a.tops f ≡ Some top
  pub s : ℕ
  pub current : top.current ≡ Some s
  pub is : b ≡ record a {
    families = slice_set a.families f (without_handles it);
    tops = slice_set a.tops f (record top { current = None });
  }
