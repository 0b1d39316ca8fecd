-- A cleanup keeps the books sound.
use Rattle.sv_laws.proofs.SnapshotLaws.{snapshots-kept}
use Rattle.sv_laws.proofs.BorneRows.{borne-on}
use Rattle.sv_model.specs.Snapshots.{IsLastFile}
use Rattle.std.proofs.Common.{◌≡◌, ◌≢◌, ◌≤◌, ℕ, inl, inr, ⊎_elim, Bool, true, false, List, length, take, drop, Some, refl, sym, ap, ◌∙◌, subst, arith}
use Rattle.std.specs.Prelude.{slice_get}
use Rattle.sv_model.specs.declared.records.SuperVersion.{SuperVersion}
use Rattle.sv_model.specs.declared.records.Memtable.{Memtable}
use Rattle.sv_model.specs.declared.records.MemtableList.{MemtableList}
use Rattle.sv_model.specs.declared.records.Version.{Version}
use Rattle.sv_model.specs.declared.records.FileMeta.{FileMeta}
use Rattle.sv_model.specs.declared.records.RegisteredFile.{RegisteredFile}
use Rattle.sv_model.specs.declared.records.Top.{Top}
use Rattle.sv_model.specs.Journal.{borne_by, of_family}
use Rattle.sv_model.specs.Lists.{In, bit}
use Rattle.sv_model.specs.Named.{numbers_of, UsesMemtable, UsesList, UsesVersion, NamedMemtable, NamedVersion, NamedFile}
use Rattle.sv_model.specs.Registers.{entry, change, GoesOn}
use Rattle.sv_model.specs.After.{KeepsSuper, KeepsMemtable, KeepsList, KeepsVersion, KeepsNumber, KeepsFamily, After, KeepsSnapshot}
use Rattle.sv_model.specs.Books.{Books}
use Rattle.sv_model.specs.Lawful.{Lawful}
use Rattle.sv_model.specs.Steady.{Sound, IsCurrent, IsListed}
use Rattle.sv_model.proofs.Registers.{entry-else, entry_change, length-change, goes-change, goes-same, total-change}
use Rattle.sv_model.proofs.AfterLaws.{continues-itself, super-itself, family-itself, snapshot-itself}
use Rattle.sv_laws.specs.Cleaning.{IsCleaned}
use Rattle.sv_laws.proofs.StillFits.{describes-on, last-on, awaited-on, reach-on}
use Rattle.sv_laws.proofs.Registers.{goes-back, has-shrink, live-back, total-le}
use Rattle.sv_laws.proofs.EndsLaws.{files-goes, files-captures, files_live, files-live, numbers-ended, files-captured_numbers}
use Rattle.sv_laws.proofs.Apart.{false_true}

lives_le : (b c : Bool) → (b ≡ false → c ≡ false) → bit c ≤ bit b
lives_le true true h = omega arith
lives_le b false h = omega arith
lives_le false true h = let f : true ≡ false = h refl in absurd (cc)

module _ (a b : Books) (k : Sound a) (s : ℕ) (x : SuperVersion) (h : IsCleaned a b s x) where
  law : Lawful a
  law = k.lawful

  abbrev y : SuperVersion
  y = record x { live = false }

  abbrev S : List SuperVersion
  S = change a.supers s (record x { live = false })

  abbrev N : List RegisteredFile
  N = b.files.numbers

  abbrev e : Books
  e = record a {
    supers = S;
    memtables = b.memtables;
    lists = b.lists;
    versions = b.versions;
    files = record a.files { numbers = N };
  }

  gm : GoesOn KeepsMemtable a.memtables b.memtables
  gm = h.memtables.goes

  gl : GoesOn KeepsList a.lists b.lists
  gl = h.lists.goes

  gv : GoesOn KeepsVersion a.versions b.versions
  gv = h.versions.goes

  gn : GoesOn KeepsNumber a.files.numbers b.files.numbers
  gn = files-goes (NamedFile b.versions) a.files.numbers N h.numbers

  gx : (m : FileMeta) → In m a.metas → In m a.metas
  gx m i = i

  -- what names something afterwards named it before
  list_back : (n : ℕ) (z : MemtableList) → entry b.lists n ≡ Some z → z.live ≡ true
      → (w : MemtableList) × (entry a.lists n ≡ Some w) × (w.live ≡ true) × (z.members ≡ w.members)
  list_back n z at live =
      let t = goes-back KeepsList a.lists b.lists gl h.lists.long n z at in
      (t.0, t.1, live-back t.0.live z.live t.2.gone live, t.2.members)

  version_back : (n : ℕ) (z : Version) → entry b.versions n ≡ Some z → z.live ≡ true
      → (w : Version) × (entry a.versions n ≡ Some w) × (w.live ≡ true) × (z.files ≡ w.files)
  version_back n z at live =
      let t = goes-back KeepsVersion a.versions b.versions gv h.versions.long n z at in
      (t.0, t.1, live-back t.0.live z.live t.2.gone live, t.2.files)

  memtable-named : (m : ℕ) → NamedMemtable S b.lists m → NamedMemtable a.supers a.lists m
  memtable-named m = ⊎_elim
      (λ w. inl (has-shrink (UsesMemtable m) a.supers s y (λ u. false_true u.live) w))
      (λ w. let t = list_back w.0 w.1 w.2 w.3.live in inr (w.0, t.0, t.1, record { live = t.2; has = subst (In m) t.3 w.3.has }))

  version-named : (v : ℕ) → NamedVersion S a.families a.tops v → NamedVersion a.supers a.families a.tops v
  version-named v = ⊎_elim (λ w. inl (has-shrink (UsesVersion v) a.supers s y (λ u. false_true u.live) w)) (λ w. inr w)

  file-named : (n : ℕ) → NamedFile b.versions n → NamedFile a.versions n
  file-named n w = let t = version_back w.0 w.1 w.2 w.3.live in (
    w.0,
    t.0,
    t.1,
    record {
      live = t.2;
      has = subst (λ l. In n (numbers_of l)) t.3 w.3.has;
    },
  )

  current_apart : (g i : ℕ) (t : Top) → slice_get a.tops g ≡ Some t → t.current ≡ Some i → i ≢ s
  current_apart g i t te cur q = h.free g t te (cur ∙ ap Some q)

  current_back : (g i : ℕ) (z : SuperVersion) → IsCurrent a.tops S g i z → IsCurrent a.tops a.supers g i z
  current_back g i z c = record {
    top = c.top;
    at = c.at;
    is = c.is;
    has = sym (entry-else a.supers s i y (current_apart g i c.top c.at c.is)) ∙ c.has;
  }

  last_back : (g : ℕ) (m : FileMeta) → IsLastFile b.versions a.tops g m → IsLastFile a.versions a.tops g m
  last_back g m w =
      let t = goes-back KeepsVersion a.versions b.versions gv h.versions.long w.top.last w.version w.version_at in
      record { top = w.top; top_at = w.top_at; version = t.0; version_at = t.1; has = subst (In m) t.2.files w.has }

  lawful : Lawful e
  lawful = record {
    memtables = λ m. (λ w. ((h.memtables.exact m).0 w).1, λ w. (h.memtables.exact m).1 ((law.memtables m).1 (memtable-named m w), w));
    lists = λ l. (λ w. ((h.lists.exact l).0 w).1, λ w. (h.lists.exact l).1 ((law.lists l).1 (has-shrink (UsesList l) a.supers s y (λ u. false_true u.live) w), w));
    versions = λ v. (λ w. ((h.versions.exact v).0 w).1, λ w. (h.versions.exact v).1 ((law.versions v).1 (version-named v w), w));
    files = λ n. (
      λ w. (files_live (NamedFile b.versions) a.files.numbers N h.numbers n w).1,
      λ w. files-live (NamedFile b.versions) a.files.numbers N h.numbers n ((law.files n).1 (file-named n w)) w,
    );
    descriptors = λ i r at live. ⊎_elim
        (λ q. false_true (sym (ap (λ (w : SuperVersion). w.live) q.1) ∙ live))
        (λ q. describes-on a.files.numbers N gn a.metas a.metas gx a.journal a.memtables b.memtables a.lists b.lists a.versions b.versions gm gl gv r.descriptor (law.descriptors i r q.1 live))
        (entry_change a.supers s i y r at);
    lasts = λ g t te.
        last-on a.files.numbers N gn a.metas a.metas gx a.journal a.versions b.versions gv g t.last (law.lasts g t te);
    rows = λ m it at. let t = goes-back KeepsMemtable a.memtables b.memtables gm h.memtables.long m it at in let w = law.rows m t.0 t.1 in
        record {
          within = omega (arith, w.within, t.2.first, ap (λ i. length (of_family i a.journal)) t.2.family);
          rows = subst
              (λ (z : ℕ × ℕ). borne_by m a.journal ≡ take (length (borne_by m a.journal)) (drop z.0 (of_family z.1 a.journal)))
              (λ i. (sym t.2.first i, sym t.2.family i)) w.rows;
          few = w.few;
        };
    tops = λ g i z t ze te cur. let o = law.tops g i z t ze te cur in record {
      it = o.it;
      at = entry-else a.supers s i y (current_apart g i t te cur) ∙ o.at;
      live = o.live;
      family_is = o.family_is;
      last_is = o.last_is;
      options_are = o.options_are;
      greatest = λ n w p of_g. ⊎_elim
          (λ q. omega (arith, q.0, o.greatest s x h.at (ap (λ (u : SuperVersion). u.descriptor.family) (sym q.1) ∙ of_g)))
          (λ q. o.greatest n w q.1 of_g)
          (entry_change a.supers s n y w p);
      ends = o.ends;
    };
    paired = law.paired;
    numbers = numbers-ended (NamedFile b.versions) a.files.numbers N h.numbers a.files.captured a.files.next
        law.numbers;
    metas = law.metas ∙ sym (files-captured_numbers (NamedFile b.versions) a.files.numbers N h.numbers);
    cuts = law.cuts;
    snapshots = snapshots-kept a e law.snapshots (record {
      journal = continues-itself a.journal;
      snapshots = refl;
      lasts = λ g m i. inl (last_back g m i);
      awaited = λ g m i. inl i;
    });
    places = λ n z at live. ⊎_elim
        (λ q. false_true (sym (ap (λ (w : SuperVersion). w.live) q.1) ∙ live))
        (λ q. ((law.places n z q.1 live).0, λ j w p wl pl. ⊎_elim (λ u. false_true (sym (ap (λ (o : SuperVersion). o.live) u.1) ∙ wl)) (λ u. (law.places n z q.1 live).1 j w u.1 wl pl) (entry_change a.supers s j y w p)))
        (entry_change a.supers s n y z at);
    cells = λ n z at live.
        let t = goes-back KeepsMemtable a.memtables b.memtables gm h.memtables.long n z at in
        let l = law.cells n t.0 t.1 (live-back t.0.live z.live t.2.gone live) in
        (omega (arith, l.0, t.2.cell), λ j w p wl pl. let u = goes-back KeepsMemtable a.memtables b.memtables gm h.memtables.long j w p in l.1 j u.0 u.1 (live-back u.0.live w.live u.2.gone wl) (sym u.2.cell ∙ pl ∙ t.2.cell));
    distinct = law.distinct;
    default = law.default;
    limits = record {
      families = law.limits.families;
      supers = omega (arith, law.limits.supers, length-change a.supers s y);
      live_supers = omega
          (arith, law.limits.live_supers, total-change (λ (w : SuperVersion). bit w.live) a.supers s x y h.at);
      live_memtables = omega (
        arith,
        law.limits.live_memtables,
        total-le KeepsMemtable (λ (m : Memtable). bit m.live) (λ m n r. lives_le m.live n.live r.gone) a.memtables
            b.memtables h.memtables.long gm,
      );
      captured = omega (arith, law.limits.captured, files-captures (NamedFile b.versions) a.files.numbers N h.numbers);
      writes = law.limits.writes;
      holds = law.limits.holds;
      jobs = law.limits.jobs;
      options = law.limits.options;
    };
  }

  listed_law : (l m : ℕ) (z : MemtableList) → entry b.lists l ≡ Some z → In m z.members
      → IsListed b.memtables a.tops S m
  listed_law l m z at i =
      let t = goes-back KeepsList a.lists b.lists gl h.lists.long l z at in
      let o = k.steady.listed l m t.0 t.1 (subst (In m) t.2.members i) in
      let u = gm m o.it o.at in
      record {
        it = u.0;
        at = u.1;
        before = λ j w c.
            o.before j w (subst (λ g. IsCurrent a.tops a.supers g j w) u.2.family (current_back u.0.family j w c));
      }

  sound : Sound e
  sound = record {
    lawful = lawful;
    steady = record {
      borne = λ i w at.
          borne-on (length a.memtables) (length a.families) (length b.memtables) (length a.families) w
          (omega (arith, h.memtables.long)) (omega arith) (k.steady.borne i w at);
      supers_of = λ n r at. ⊎_elim
          (λ q. omega (arith, k.steady.supers_of s x h.at, ap (λ (u : SuperVersion). u.descriptor.family) q.1))
          (λ q. k.steady.supers_of n r q.1)
          (entry_change a.supers s n y r at);
      listed = listed_law;
      awaited = λ g n i z ca cur.
          awaited-on a.files.numbers N gn a.metas a.metas gx a.journal a.memtables b.memtables a.lists b.lists
          a.versions b.versions gm gl gv n z.descriptor (k.steady.awaited g n i z ca (current_back g i z cur));
      covers = k.steady.covers;
      retired = k.steady.retired;
      busy = k.steady.busy;
      captured = k.steady.captured;
      holds = k.steady.holds;
      handles = k.steady.handles;
      memtables_made = omega (arith, k.steady.memtables_made, h.memtables.long, length-change a.supers s y);
      lists_made = omega (arith, k.steady.lists_made, h.lists.long, length-change a.supers s y);
      versions_made = omega (arith, k.steady.versions_made, h.versions.long, length-change a.supers s y);
    };
  }

  after : After a e
  after = record {
    journal = continues-itself a.journal;
    supers = goes-change KeepsSuper a.supers s x y super-itself h.at
        (record { descriptor = refl; place = refl; gone = λ _. refl });
    memtables = gm;
    lists = gl;
    versions = gv;
    numbers = gn;
    metas = continues-itself a.metas;
    next = omega arith;
    families = goes-same KeepsFamily a.families family-itself;
    tops = λ g t at. (t, at, record { reach = reach-on a.versions b.versions gv t.last; ended = λ _ z. z });
    rows = λ l m z at i. refl;
    snapshots = goes-same KeepsSnapshot a.snapshots snapshot-itself;
  }

  pub cleaned : Sound b × After a b
  cleaned = subst (λ (z : Books). Sound z × After a z) (sym h.is) (sound, after)
