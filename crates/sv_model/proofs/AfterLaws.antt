-- Books come after themselves, and after what those come after that they come after.
use Rattle.std.proofs.Common.{◌≡◌, ◌∙◌, ℕ, List, [], ◌++◌, refl, sym, ap, subst, append_assoc, arith}
use Rattle.std.proofs.lemmas.List.{append-nil}
use Rattle.sv_model.specs.declared.records.SuperVersion.{SuperVersion}
use Rattle.sv_model.specs.declared.records.Descriptor.{Descriptor}
use Rattle.sv_model.specs.declared.records.Memtable.{Memtable}
use Rattle.sv_model.specs.declared.records.MemtableList.{MemtableList}
use Rattle.sv_model.specs.declared.records.Version.{Version}
use Rattle.sv_model.specs.declared.records.RegisteredFile.{RegisteredFile}
use Rattle.sv_model.specs.declared.records.Family.{Family}
use Rattle.sv_model.specs.declared.records.Snapshot.{Snapshot}
use Rattle.sv_model.specs.Lists.{In}
use Rattle.sv_model.specs.Registers.{GoesOn, Has}
use Rattle.sv_model.specs.Books.{Books}
use Rattle.sv_model.specs.After.{After, Continues, KeepsSuper, KeepsMemtable, KeepsList, KeepsVersion, KeepsNumber, KeepsFamily, KeepsSnapshot}
use Rattle.sv_model.proofs.Registers.{goes-same, goes-on}

-- ---- a record keeps itself, and keeping goes through
pub super-itself : (x : SuperVersion) → KeepsSuper x x
super-itself x = record { descriptor = refl; place = refl; gone = λ h. h }

pub super-through : (x y z : SuperVersion) → KeepsSuper x y → KeepsSuper y z → KeepsSuper x z
super-through x y z p q = record { descriptor = q.descriptor ∙ p.descriptor; place = q.place ∙ p.place; gone = λ h. q.gone (p.gone h) }

pub memtable-itself : (x : Memtable) → KeepsMemtable x x
memtable-itself x = record { family = refl; first = refl; cell = refl; gone = λ h. h }

pub memtable-through : (x y z : Memtable) → KeepsMemtable x y → KeepsMemtable y z → KeepsMemtable x z
memtable-through x y z p q = record { family = q.family ∙ p.family; first = q.first ∙ p.first; cell = q.cell ∙ p.cell; gone = λ h. q.gone (p.gone h) }

pub list-itself : (x : MemtableList) → KeepsList x x
list-itself x = record { members = refl; gone = λ h. h }

pub list-through : (x y z : MemtableList) → KeepsList x y → KeepsList y z → KeepsList x z
list-through x y z p q = record { members = q.members ∙ p.members; gone = λ h. q.gone (p.gone h) }

pub version-itself : (x : Version) → KeepsVersion x x
version-itself x = record { files = refl; gone = λ h. h }

pub version-through : (x y z : Version) → KeepsVersion x y → KeepsVersion y z → KeepsVersion x z
version-through x y z p q = record { files = q.files ∙ p.files; gone = λ h. q.gone (p.gone h) }

pub number-itself : (x : RegisteredFile) → KeepsNumber x x
number-itself x = record { number = refl; family = refl; gone = λ h. h }

pub number-through : (x y z : RegisteredFile) → KeepsNumber x y → KeepsNumber y z → KeepsNumber x z
number-through x y z p q = record { number = q.number ∙ p.number; family = q.family ∙ p.family; gone = λ h. q.gone (p.gone h) }

pub family-itself : (x : Family) → KeepsFamily x x
family-itself x = record { name = refl; dropped = λ h. h }

pub family-through : (x y z : Family) → KeepsFamily x y → KeepsFamily y z → KeepsFamily x z
family-through x y z p q = record { name = q.name ∙ p.name; dropped = λ h. q.dropped (p.dropped h) }

pub snapshot-itself : (x : Snapshot) → KeepsSnapshot x x
snapshot-itself x = record { at = refl; gone = λ h. h }

pub snapshot-through : (x y z : Snapshot) → KeepsSnapshot x y → KeepsSnapshot y z → KeepsSnapshot x z
snapshot-through x y z p q = record { at = q.at ∙ p.at; gone = λ h. q.gone (p.gone h) }

pub continues-itself : {A : Type 0} (l : List A) → Continues l l
continues-itself l = ([], sym (append-nil l))

pub continues-through : {A : Type 0} (a b c : List A) → Continues a b → Continues b c → Continues a c
continues-through a b c f g = (f.0 ++ g.0, g.1 ∙ ap (λ z. z ++ g.0) f.1 ∙ append_assoc a f.0 g.0)

-- a family that had a SuperVersion still has one
pub has-super : (family : ℕ) (a b : List SuperVersion) → GoesOn KeepsSuper a b → Has (λ s. s.descriptor.family ≡ family) a → Has (λ s. s.descriptor.family ≡ family) b
has-super family a b goes has =
    let k = goes has.0 has.1 has.2 in
    (has.0, k.0, k.1, ap (λ (d : Descriptor). d.family) k.2.descriptor ∙ has.3)

-- ---- books
pub after-itself : (a : Books) → After a a
after-itself a = record {
  journal = continues-itself a.journal;
  rows = λ l m x at has. refl;
  supers = goes-same KeepsSuper a.supers super-itself;
  memtables = goes-same KeepsMemtable a.memtables memtable-itself;
  lists = goes-same KeepsList a.lists list-itself;
  versions = goes-same KeepsVersion a.versions version-itself;
  numbers = goes-same KeepsNumber a.files.numbers number-itself;
  metas = continues-itself a.metas;
  next = omega arith;
  families = goes-same KeepsFamily a.families family-itself;
  tops = λ family x at. (x, at, record { reach = omega arith; ended = λ has none. none });
  snapshots = goes-same KeepsSnapshot a.snapshots snapshot-itself;
}

pub after-through : (a b c : Books) → After a b → After b c → After a c
after-through a b c f g = record {
  journal = continues-through a.journal b.journal c.journal f.journal g.journal;
  rows = λ l m x at has.
      let p = f.lists l x at in
      g.rows l m p.0 p.1 (subst (λ (members : List ℕ). In m members) (sym p.2.members) has) ∙ f.rows l m x at has;
  supers = goes-on KeepsSuper a.supers b.supers c.supers super-through f.supers g.supers;
  memtables = goes-on KeepsMemtable a.memtables b.memtables c.memtables memtable-through f.memtables g.memtables;
  lists = goes-on KeepsList a.lists b.lists c.lists list-through f.lists g.lists;
  versions = goes-on KeepsVersion a.versions b.versions c.versions version-through f.versions g.versions;
  numbers = goes-on KeepsNumber a.files.numbers b.files.numbers c.files.numbers number-through f.numbers g.numbers;
  metas = continues-through a.metas b.metas c.metas f.metas g.metas;
  next = omega (arith, f.next, g.next);
  families = goes-on KeepsFamily a.families b.families c.families family-through f.families g.families;
  tops = λ family x at.
      let p = f.tops family x at in
      let q = g.tops family p.0 p.1 in (
        q.0,
        q.1,
        record {
          reach = omega (arith, p.2.reach, q.2.reach);
          ended = λ has none. q.2.ended (has-super family a.supers b.supers f.supers has) (p.2.ended has none);
        },
      );
  snapshots = goes-on KeepsSnapshot a.snapshots b.snapshots c.snapshots snapshot-through f.snapshots g.snapshots;
}
