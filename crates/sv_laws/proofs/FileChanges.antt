-- File numbers, holds and jobs.
use Rattle.sv_laws.proofs.SnapshotLaws.{snapshots-kept}
use Rattle.std.proofs.Common.{ℕ, List, refl, sym, subst, arith, inl}
use Rattle.sv_model.specs.declared.records.SuperVersion.{SuperVersion}
use Rattle.sv_model.specs.declared.records.FileMeta.{FileMeta}
use Rattle.sv_model.specs.Lists.{In}
use Rattle.sv_model.specs.Registers.{GoesOn}
use Rattle.sv_model.specs.After.{Continues, KeepsSuper, KeepsMemtable, KeepsList, KeepsVersion, KeepsNumber, KeepsFamily, After, KeepsSnapshot}
use Rattle.sv_model.specs.Books.{Books}
use Rattle.sv_model.specs.Lawful.{Lawful}
use Rattle.sv_model.specs.Steady.{Sound, IsAwaited}
use Rattle.sv_model.proofs.Registers.{goes-same}
use Rattle.sv_model.proofs.AfterLaws.{continues-itself, super-itself, memtable-itself, list-itself, version-itself, number-itself, family-itself, snapshot-itself}
use Rattle.sv_laws.specs.Captures.{ChangesFiles}
use Rattle.sv_laws.proofs.StillFits.{describes-on, last-on, awaited-on}
use Rattle.sv_model.proofs.Entries.{in-left}

in-continues : (X Y : List FileMeta) → Continues X Y → (m : FileMeta) → In m X → In m Y
in-continues X Y c m i = subst (In m) (sym c.1) (in-left m X c.0 i)

module _ (a b : Books) (k : Sound a) (h : ChangesFiles a b) where
  law : Lawful a
  law = k.lawful

  abbrev e : Books
  e = record a { files = b.files; metas = b.metas }

  gx : (m : FileMeta) → In m a.metas → In m b.metas
  gx = in-continues a.metas b.metas h.metas

  gm : GoesOn KeepsMemtable a.memtables a.memtables
  gm = goes-same KeepsMemtable a.memtables memtable-itself

  gl : GoesOn KeepsList a.lists a.lists
  gl = goes-same KeepsList a.lists list-itself

  gv : GoesOn KeepsVersion a.versions a.versions
  gv = goes-same KeepsVersion a.versions version-itself

  sound : Sound e
  sound = record {
    lawful = record {
      memtables = law.memtables;
      lists = law.lists;
      versions = law.versions;
      files = λ n. (λ w. (law.files n).0 ((h.live n).1 w), λ w. (h.live n).0 ((law.files n).1 w));
      descriptors = λ i r at live.
          describes-on a.files.numbers b.files.numbers h.goes a.metas b.metas gx a.journal a.memtables a.memtables
          a.lists a.lists a.versions a.versions gm gl gv r.descriptor (law.descriptors i r at live);
      lasts = λ g t te.
          last-on a.files.numbers b.files.numbers h.goes a.metas b.metas gx a.journal a.versions a.versions gv g
          t.last (law.lasts g t te);
      rows = law.rows;
      tops = law.tops;
      paired = law.paired;
      numbers = h.numbers;
      metas = h.metas_are;
      cuts = h.cuts;
      snapshots = snapshots-kept a e law.snapshots (record {
        journal = continues-itself a.journal;
        snapshots = refl;
        lasts = λ g m i. inl i;
        awaited = h.clear;
      });
      places = law.places;
      cells = law.cells;
      distinct = law.distinct;
      default = law.default;
      limits = record {
        families = law.limits.families;
        supers = law.limits.supers;
        live_supers = law.limits.live_supers;
        live_memtables = law.limits.live_memtables;
        captured = h.few;
        writes = law.limits.writes;
        holds = h.holds;
        jobs = h.jobs;
        options = law.limits.options;
      };
    };
    steady = record {
      borne = k.steady.borne;
      supers_of = k.steady.supers_of;
      listed = k.steady.listed;
      awaited = h.awaited;
      covers = h.covers;
      retired = k.steady.retired;
      busy = h.busy;
      captured = h.families;
      holds = h.lanes;
      handles = k.steady.handles;
      memtables_made = k.steady.memtables_made;
      lists_made = k.steady.lists_made;
      versions_made = k.steady.versions_made;
    };
  }

  after : After a e
  after = record {
    journal = continues-itself a.journal;
    supers = goes-same KeepsSuper a.supers super-itself;
    memtables = gm;
    lists = gl;
    versions = gv;
    numbers = h.goes;
    metas = h.metas;
    next = h.next;
    families = goes-same KeepsFamily a.families family-itself;
    tops = λ g t at. (t, at, record { reach = omega arith; ended = λ _ z. z });
    rows = λ l m z at i. refl;
    snapshots = goes-same KeepsSnapshot a.snapshots snapshot-itself;
  }

  pub files-changed : Sound b × After a b
  files-changed = subst (λ (z : Books). Sound z × After a z) (sym h.is) (sound, after)

pub awaited-metas : (a : Books) (Y : List FileMeta) → ((m : FileMeta) → In m a.metas → In m Y)
    → (n : ℕ) (x : SuperVersion) → IsAwaited a.journal a.memtables a.lists a.versions a.metas n x.descriptor
    → IsAwaited a.journal a.memtables a.lists a.versions Y n x.descriptor
awaited-metas a Y gx n x w =
    awaited-on a.files.numbers a.files.numbers (goes-same KeepsNumber a.files.numbers number-itself) a.metas Y gx
    a.journal a.memtables a.memtables a.lists a.lists a.versions a.versions
    (goes-same KeepsMemtable a.memtables memtable-itself) (goes-same KeepsList a.lists list-itself) (goes-same KeepsVersion a.versions version-itself) n x.descriptor w
