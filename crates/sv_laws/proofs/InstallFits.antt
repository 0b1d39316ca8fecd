-- A SuperVersion becomes current: what it names fits together, and so does what others name still.
use Rattle.sv_model.specs.Snapshots.{IsLastFile, SnapshotsStand, IsAwaitedFile}
use Rattle.std.proofs.Common.{◌≡◌, ◌≢◌, ℕ, ◌+◌, ◌⊎◌, inl, ⊎_elim, true, List, [], ◌∷◌, ◌++◌, length, take, drop, Some, refl, sym, ap, ◌∙◌, subst, arith, length-append}
use Rattle.std.specs.Prelude.{slice_get}
use mathlib.Core.Logic.{dite}
use native.Mathlib.Decide.{ℕ_discrete}
use Rattle.sv_model.specs.declared.writes.Write.{Write}
use Rattle.sv_model.specs.declared.records.SuperVersion.{SuperVersion}
use Rattle.sv_model.specs.declared.records.Descriptor.{Descriptor}
use Rattle.sv_model.specs.declared.records.Memtable.{Memtable}
use Rattle.sv_model.specs.declared.records.Version.{Version}
use Rattle.sv_model.specs.declared.records.FileMeta.{FileMeta}
use Rattle.sv_model.specs.declared.records.Family.{Family}
use Rattle.sv_model.specs.declared.records.Top.{Top}
use Rattle.sv_model.specs.declared.records.FileStatus.TheVariants.{Pending, Live}
use Rattle.sv_model.specs.Journal.{borne_by, of_family}
use Rattle.sv_model.specs.Lists.{In}
use Rattle.sv_model.specs.Named.{numbers_of}
use Rattle.sv_model.specs.Registers.{entry, GoesOn}
use Rattle.sv_model.specs.After.{KeepsMemtable, KeepsList, KeepsVersion, KeepsNumber}
use Rattle.sv_model.specs.Books.{Books, FileRegister}
use Rattle.sv_model.specs.Numbers.{NumbersStand, captured_numbers}
use Rattle.sv_model.specs.Lawful.{Lawful}
use Rattle.sv_model.specs.Described.{Describes, LastFits, FilesStand, BearsFrom, IsTop}
use Rattle.sv_model.specs.Steady.{Sound}
use Rattle.sv_model.proofs.Registers.{entry-old, entry-new, entry_push, entry_le}
use Rattle.sv_model.proofs.AfterLaws.{continues-itself}
use Rattle.sv_laws.specs.Installs.{Installs, IsNewMemtable, IsNewVersion}
use Rattle.sv_model.proofs.Entries.{some}
use Rattle.sv_laws.proofs.GrownRegisters.{grown_entry, grown-old, placed_get}
use Rattle.sv_laws.proofs.Settled.{settled-others, settled_other, numbers-settled, marked-captured_numbers}
use Rattle.sv_laws.proofs.StillFits.{last-on, describes-on, join-le}
use Rattle.sv_laws.proofs.InstallNames.{memtables-on, lists-on, versions-on, numbers-on}
use Rattle.sv_laws.proofs.SnapshotLaws.{snapshots-kept}
use Rattle.sv_laws.proofs.BorneRows.{unborne, mem-within}
use Rattle.sv_laws.proofs.Apart.{live_grabbed, live_pending}

module _ (a b : Books) (k : Sound a) (f : ℕ) (r : Family) (x : SuperVersion) (h : Installs a b f r x) where
  abbrev S : List SuperVersion
  S = a.supers ++ x ∷ []

  abbrev d : Descriptor
  d = x.descriptor

  abbrev top : Top
  top = record { current = Some (length a.supers + 1); last = x.descriptor.version }

  abbrev PM : ℕ → Memtable → Type 0
  PM = IsNewMemtable a f x.descriptor.active

  abbrev PV : ℕ → Version → Type 0
  PV = IsNewVersion b.files.numbers x.descriptor.version

  law : Lawful a
  law = k.lawful

  gm : GoesOn KeepsMemtable a.memtables b.memtables
  gm = memtables-on a b k f r x h

  gl : GoesOn KeepsList a.lists b.lists
  gl = lists-on a b k f r x h

  gv : GoesOn KeepsVersion a.versions b.versions
  gv = versions-on a b k f r x h

  gn : GoesOn KeepsNumber a.files.numbers b.files.numbers
  gn = numbers-on a b k f r x h

  gx : (m : FileMeta) → In m a.metas → In m a.metas
  gx m i = i

  sup : (i : ℕ) (s : SuperVersion) → entry S i ≡ Some s
      → (entry a.supers i ≡ Some s) ⊎ ((i ≡ length a.supers + 1) × (s ≡ x))
  sup = entry_push a.supers x

  pub descriptors_law : (i : ℕ) (s : SuperVersion) → entry S i ≡ Some s → s.live ≡ true
      → Describes a.journal b.memtables b.lists b.versions b.files.numbers a.metas s.descriptor
  descriptors_law i s e l = ⊎_elim
      (λ o. describes-on a.files.numbers b.files.numbers gn a.metas a.metas gx a.journal a.memtables b.memtables a.lists b.lists a.versions b.versions gm gl gv s.descriptor (law.descriptors i s o l))
      (λ o. subst (λ (w : SuperVersion). Describes a.journal b.memtables b.lists b.versions b.files.numbers a.metas w.descriptor) (sym o.1) h.describes)
      (sup i s e)

  new-last : LastFits a.journal b.versions b.files.numbers a.metas f d.version
  new-last =
      let t = h.describes in
      record {
        version = t.version;
        at = t.version_at;
        to = t.middle;
        files = subst (λ i. FilesStand b.files.numbers a.metas i t.version.files t.middle) h.family_is t.files;
        within = omega (
          arith,
          join-le a.journal b.memtables d.family t.list.members t.middle d.base t.members,
          t.within,
          ap (λ i. length (of_family i a.journal)) h.family_is,
        );
      }

  pub lasts_law : (g : ℕ) (t : Top) → slice_get b.tops g ≡ Some t
      → LastFits a.journal b.versions b.files.numbers a.metas g t.last
  lasts_law g t w = ⊎_elim
      (λ q. subst (λ (z : ℕ × Top). LastFits a.journal b.versions b.files.numbers a.metas z.0 z.1.last) (λ i. (sym q.0 i, sym q.1 i)) new-last)
      (λ q. last-on a.files.numbers b.files.numbers gn a.metas a.metas gx a.journal a.versions b.versions gv g t.last (law.lasts g t q.1))
      (placed_get a.tops b.tops f top h.tops g t w)

  fresh : (m : ℕ) → m ≡ length a.memtables + 1 → borne_by m a.journal ≡ []
  fresh m q =
      unborne a.journal m
      (λ i w e. omega (arith, mem-within (length a.memtables) (length a.families) w (k.steady.borne i w e), q))

  pub rows_law : (m : ℕ) (y : Memtable) → entry b.memtables m ≡ Some y → BearsFrom a.journal m y
  rows_law m y e = ⊎_elim
      (λ o. law.rows m y o)
      (λ o. let none = fresh m o.0 in record {
        within = omega (arith, o.1.first_is, ap (λ i. length (of_family i a.journal)) o.1.family_is);
        rows = none ∙ sym (ap (λ (l : List Write). take (length l) (drop y.first (of_family y.family a.journal))) none);
        few = omega (arith, ap (λ (l : List Write). length l) none);
      })
      (grown_entry PM a.memtables b.memtables h.memtables m y e)

  pub tops_law : (g s : ℕ) (y : Family) (t : Top) → slice_get b.families g ≡ Some y → slice_get b.tops g ≡ Some t
      → t.current ≡ Some s → IsTop a.journal S g y t.last s
  tops_law g s y t e w cur = ⊎_elim
      (λ q.
      let s_is : s ≡ length a.supers + 1 = some (sym cur ∙ ap (λ (z : Top). z.current) q.1) in
      let y_is : y ≡ r = some (sym e ∙ ap (slice_get b.families) q.0 ∙ h.families.here) in
      record {
        it = x;
        at = entry-new a.supers x s s_is;
        live = h.live;
        family_is = h.family_is ∙ sym q.0;
        last_is = ap (λ (z : Top). z.last) (sym q.1);
        options_are = sym h.options_are ∙ ap (λ (z : Family). z.options) (sym y_is);
        greatest = λ n z o _. omega (arith, entry_le S n z o, length-append a.supers (x ∷ []), s_is);
        ends = h.ends ∙ ap (λ i. length (of_family i a.journal)) (sym q.0);
      })
      (λ q.
      let o = law.tops g s y t (sym (h.families.others g q.0) ∙ e) q.1 cur in
      record {
        it = o.it;
        at = entry-old a.supers (x ∷ []) s o.it o.at;
        live = o.live;
        family_is = o.family_is;
        last_is = o.last_is;
        options_are = o.options_are;
        greatest = λ n z p of_g. ⊎_elim
            (λ z_old. o.greatest n z z_old of_g)
            (λ z_new. absurd (q.0 (sym of_g ∙ ap (λ (w : SuperVersion). w.descriptor.family) z_new.1 ∙ h.family_is)))
            (sup n z p);
        ends = o.ends;
      })
      (placed_get a.tops b.tops f top h.tops g t w)

  pub numbers_law : NumbersStand b.files.numbers b.files.captured b.files.next
  numbers_law = ⊎_elim
      (λ q. subst (λ (F : FileRegister). NumbersStand F.numbers F.captured F.next) (sym q) law.numbers)
      (λ o. numbers-settled f o.number Live a.files b.files o.settled law.numbers (λ e. live_pending e) (λ e. live_grabbed e))
      h.files

  pub metas_law : numbers_of a.metas ≡ captured_numbers b.files.numbers
  metas_law = ⊎_elim
      (λ q. law.metas ∙ ap (λ (F : FileRegister). captured_numbers F.numbers) (sym q))
      (λ o. law.metas ∙ sym (marked-captured_numbers o.number Pending Live a.files.numbers b.files.numbers o.settled.numbers))
      h.files

  -- ---- captured numbers, and snapshots

  pub captured_back : (g : ℕ) → g ≢ f → slice_get b.files.captured g ≡ slice_get a.files.captured g
  captured_back g apart = ⊎_elim
      (λ q. ap (λ (F : FileRegister). slice_get F.captured g) q)
      (λ o. settled-others f o.number Live a.files b.files o.settled g apart)
      h.files

  pub captured_old : (g n : ℕ) → slice_get b.files.captured g ≡ Some (Some n)
      → slice_get a.files.captured g ≡ Some (Some n)
  captured_old g n e = ⊎_elim
      (λ q. ap (λ (F : FileRegister). slice_get F.captured g) (sym q) ∙ e)
      (λ o. (settled_other f o.number Live a.files b.files o.settled g n e).1)
      h.files

  last_back : (g : ℕ) (m : FileMeta) → IsLastFile b.versions b.tops g m
      → IsLastFile a.versions a.tops g m ⊎ IsAwaitedFile a.files.captured a.metas g m
  last_back g m w = dite (ℕ_discrete g f)
      (λ q. subst (λ i. IsLastFile a.versions a.tops i m ⊎ IsAwaitedFile a.files.captured a.metas i m) (sym q) (h.lasts m (subst (λ i. IsLastFile b.versions b.tops i m) q w)))
      (λ q.
      let top_at = sym (h.tops.others g q) ∙ w.top_at in
      let t = law.lasts g w.top top_at in
      let same : w.version ≡ t.version =
      some (sym w.version_at ∙ grown-old PV a.versions b.versions h.versions w.top.last t.version t.at) in
      inl (record {
        top = w.top;
        top_at = top_at;
        version = t.version;
        version_at = t.at;
        has = subst (λ (z : Version). In m z.files) same w.has;
      }))

  pub snapshots_law : SnapshotsStand a.journal b.versions b.files.captured a.metas b.tops a.snapshots
  snapshots_law =
      snapshots-kept a (record a { versions = b.versions; files = b.files; tops = b.tops }) law.snapshots (record {
        journal = continues-itself a.journal;
        snapshots = refl;
        lasts = last_back;
        awaited = λ g m w. inl (record { captured_is = captured_old g m.number w.captured_is; covered = w.covered });
      })
