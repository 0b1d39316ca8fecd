-- A family's current ends.
use Rattle.std.specs.Prelude.{◌≡◌, ◌<◌, ◌≤◌, ℕ, List, Option, true, None, Some, length, slice_get, sum}
use Rattle.sv_model.specs.declared.records.Family.{Family}
use Rattle.sv_model.specs.declared.records.Top.{Top}
use Rattle.sv_model.specs.declared.sv_refs.SvRef.{SvRef}
use Rattle.sv_model.specs.declared.refusals.Refusal.{Refusal}
use Rattle.sv_model.specs.declared.refusals.Refusal.TheVariants as refusal
use Rattle.sv_model.specs.declared.reports.End.{End}
use Rattle.sv_model.specs.declared.reports.End.TheVariants as end
use Rattle.sv_model.specs.declared.records.FileStatus.TheVariants.{Gone, Live}
use Rattle.sv_model.specs.Books.{Books, FileRegister}
use Rattle.sv_model.specs.Families.{is_retired}
use Rattle.sv_model.specs.Lists.{In}
use Rattle.sv_model.specs.Numbers.{IsReady, IsRegistered}
use Rattle.sv_model.specs.Summaries.{obsolete_of}
use Rattle.sv_laws.specs.Growing.{IsPlaced}
use Rattle.sv_objects.specs.declared.bodies.Body.{Body}
use Rattle.sv_state.specs.Currents.{HasCurrentAt}
use Rattle.sv_state.specs.Gone.{IsFree}
use Rattle.sv_store.specs.Closing.{LetsGo}
use Rattle.sv_store.specs.Removals.{DirSeen, FilesGoIfTold, with_gone}
use Rattle.sv_store.specs.Standing.{HaveCurrents, IsAlone, IsStill}

-- ---- snapshots

-- Snapshots alone changed, and none was taken.
pub record EndsSnapshots (a b : Books) : Type 0 where
  pub taken : length b.snapshots ≡ length a.snapshots
  pub is : b ≡ record a { snapshots = b.snapshots }

-- ---- one family

-- the reference is that of a Live SuperVersion that is current of no family
pub record MayReclaim (b : Books) (old : Option (SvRef Body)) : Type 0 where
  pub r : SvRef Body
  pub old_is : old ≡ Some r
  pub free : IsFree b r.pack

-- The family has a current, and each Live SuperVersion is some family's.
pub record CanEndCurrent (b : Books) (family : ℕ) : Type 0 where
  pub alone : IsAlone b
  pub current : HasCurrentAt b family

-- The family, which had a current, has none any more; its last Version is as before.
pub record LosesCurrent (a b : Books) (family : ℕ) : Type 0 where
  pub top : Top
  pub on : slice_get a.tops family ≡ Some top
  pub s : ℕ
  pub current : top.current ≡ Some s
  pub placed : IsPlaced a.tops b.tops family (record top { current = None })
  pub is : b ≡ record a { families = b.families; tops = b.tops }

-- The family is let go: it is retired where it is dropped. The others are as they were.
pub record LetsFamilyGo (a b : Books) (family : ℕ) : Type 0 where
  pub it : Family
  pub at : slice_get a.families family ≡ Some it
  pub now : Family
  pub lets_go : LetsGo it now
  pub retired : it.dropped ≡ true → is_retired now ≡ true
  pub placed : IsPlaced a.families b.families family now

-- Nothing is made: no register is longer, no number is drawn, none becomes Live, and no file is removed.
pub record MakesNothing (a b : Books) : Type 0 where
  pub supers : length b.supers ≡ length a.supers
  pub memtables : length b.memtables ≡ length a.memtables
  pub lists : length b.lists ≡ length a.lists
  pub versions : length b.versions ≡ length a.versions
  pub numbers : length b.files.numbers ≡ length a.files.numbers
  pub gone : (n : ℕ) → IsRegistered b.files.numbers n Gone → IsRegistered a.files.numbers n Gone
  pub lives : (n : ℕ) → IsRegistered b.files.numbers n Live → IsRegistered a.files.numbers n Live
  pub is : b ≡ record a {
    supers = b.supers;
    memtables = b.memtables;
    lists = b.lists;
    versions = b.versions;
    files = record a.files { numbers = b.files.numbers };
    families = b.families;
    tops = b.tops;
  }

-- The family loses its current, which goes.
pub record EndsCurrent (a b : Books) (family : ℕ) : Type 0 where
  pub top : Top
  pub on : slice_get a.tops family ≡ Some top
  pub placed : IsPlaced a.tops b.tops family (record top { current = None })
  pub lets_go : LetsFamilyGo a b family
  pub still : IsStill a.files → IsStill b.files
  pub makes : MakesNothing a b

-- ---- all families

-- Each family that is not retired has its current, and nothing else is Live.
pub record CanClose (b : Books) : Type 0 where
  pub alone : IsAlone b
  pub currents : HaveCurrents b

-- a family is let go, and has no current
pub record IsLetGo (a b : Books) (family : ℕ) : Type 0 where
  pub top : (t : Top) → slice_get a.tops family ≡ Some t → slice_get b.tops family ≡ Some (record t { current = None })
  pub family_is : (x : Family) → slice_get a.families family ≡ Some x → (y : Family) × (slice_get b.families family ≡ Some y) × LetsGo x y
  pub none : (t : Top) → slice_get b.tops family ≡ Some t → t.current ≡ None
  pub retired : (y : Family) → slice_get b.families family ≡ Some y → y.dropped ≡ true → is_retired y ≡ true

-- a family is as it was
pub record IsKept (a b : Books) (family : ℕ) : Type 0 where
  pub top : slice_get b.tops family ≡ slice_get a.tops family
  pub family_is : slice_get b.families family ≡ slice_get a.families family

-- The families below this id are let go, and the others are as they were.
pub record EndsCurrents (a b : Books) (count : ℕ) : Type 0 where
  pub ended : (f : ℕ) → f < count → IsLetGo a b f
  pub kept : (f : ℕ) → count ≤ f → IsKept a b f
  pub still : IsStill a.files → IsStill b.files
  pub makes : MakesNothing a b

-- ---- files

-- No purge, no output and no hold is under way.
pub record CanRemove (files : FileRegister) : Type 0 where
  pub still : IsStill files
  pub free : sum files.holds ≡ 0

-- Of the numbers that nothing needs these are Gone, with their files; the others are left.
pub record RemovesObsolete (old new : FileRegister) (d : DirSeen) : Type 0 where
  pub gone : List ℕ
  pub ready : (n : ℕ) → In n gone → IsReady old n
  pub is : new ≡ with_gone old gone
  pub files : FilesGoIfTold gone (obsolete_of new.numbers) d.files d.later
  pub later : d.before ≤ d.now

-- how a close ends whose removals were refused so, or not
abbrev pub end_after : Option Refusal → End
end_after None = end.Clean
end_after (Some refusal.OutOfMemory) = end.OutOfMemory
end_after (Some e) = end.DirFault
