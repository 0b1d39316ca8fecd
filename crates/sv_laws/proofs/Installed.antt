-- A SuperVersion becomes current: the books stay sound, and come after those before.
use Rattle.std.proofs.Common.{◌≡◌, ◌≢◌, ◌≤◌, ℕ, suc, ◌+◌, ◌⊎◌, inl, inr, ⊎_elim, true, false, Bool, ◌&&◌, ◌==◌, List, [], ◌∷◌, ◌++◌, length, Some, None, refl, sym, ap, ◌∙◌, subst, arith, length-append}
use Rattle.std.specs.Prelude.{slice_get}
use mathlib.Core.Logic.{dite}
use native.Mathlib.Decide.{ℕ_discrete}
use Rattle.sv_model.specs.declared.records.SuperVersion.{SuperVersion}
use Rattle.sv_model.specs.declared.records.Descriptor.{Descriptor}
use Rattle.sv_model.specs.declared.records.Memtable.{Memtable}
use Rattle.sv_model.specs.declared.records.MemtableList.{MemtableList}
use Rattle.sv_model.specs.declared.records.Version.{Version}
use Rattle.sv_model.specs.declared.records.FileMeta.{FileMeta}
use Rattle.sv_model.specs.declared.records.Family.{Family}
use Rattle.sv_model.specs.declared.records.Top.{Top}
use Rattle.sv_model.specs.declared.records.FileStatus.TheVariants.{Live}
use Rattle.sv_model.specs.Lists.{In, total, bit, Every}
use Rattle.sv_model.specs.Registers.{entry, GoesOn}
use Rattle.sv_model.specs.After.{KeepsSuper, KeepsMemtable, KeepsList, KeepsVersion, KeepsNumber, KeepsFamily, After, KeepsSnapshot}
use Rattle.sv_model.specs.Books.{Books, FileRegister}
use Rattle.sv_model.specs.Families.{is_retired, InRange}
use Rattle.sv_model.specs.Lawful.{Lawful}
use Rattle.sv_model.specs.Steady.{Sound, Steady, IsCurrent, IsListed, IsAwaited}
use Rattle.sv_model.proofs.Lists.{total-push}
use Rattle.sv_model.proofs.Registers.{entry-old, entry-new, entry_push, entry_le, goes-same, goes-push, length-change}
use Rattle.sv_model.proofs.AfterLaws.{continues-itself, super-itself, family-itself, snapshot-itself}
use Rattle.sv_laws.specs.Installs.{Installs, IsNewMemtable, IsNewList, IsNewVersion}
use Rattle.sv_model.proofs.Entries.{some}
use Rattle.sv_model.proofs.Basics.{none_some}
use Rattle.sv_laws.proofs.GrownRegisters.{grown_entry, grown-old, grown-longer, grown-shorter, grown-total, placed_get, placed-goes, get_within}
use Rattle.sv_laws.proofs.Settled.{settled-captured}
use Rattle.sv_laws.proofs.StillFits.{awaited-on, reach-on, join_in}
use Rattle.sv_laws.proofs.InstallNames.{memtables-on, lists-on, versions-on, numbers-on, memtables_law, lists_law, versions_law, files_law}
use Rattle.sv_laws.proofs.InstallFits.{descriptors_law, lasts_law, rows_law, tops_law, numbers_law, metas_law, snapshots_law, captured_back, captured_old}
use Rattle.sv_laws.proofs.InstallPlaces.{places_law, cells_law, fam, distinct_law, default_law, captures_same, holds_same, jobs_same, next_same}
use Rattle.sv_laws.proofs.OpenFamilies.{current-top}
use Rattle.sv_laws.proofs.BorneRows.{borne-on}

bit_le : (b : Bool) → bit b ≤ 1
bit_le true = omega arith
bit_le false = omega arith

module _ (a b : Books) (k : Sound a) (f : ℕ) (r : Family) (x : SuperVersion) (h : Installs a b f r x) where
  abbrev S : List SuperVersion
  S = a.supers ++ x ∷ []

  abbrev d : Descriptor
  d = x.descriptor

  abbrev top : Top
  top = record { current = Some (length a.supers + 1); last = x.descriptor.version }

  abbrev PM : ℕ → Memtable → Type 0
  PM = IsNewMemtable a f x.descriptor.active

  abbrev PL : ℕ → MemtableList → Type 0
  PL = IsNewList a x.descriptor.active x.descriptor.list

  abbrev PV : ℕ → Version → Type 0
  PV = IsNewVersion b.files.numbers x.descriptor.version

  abbrev c : Books
  c = record a {
    supers = S;
    memtables = b.memtables;
    lists = b.lists;
    versions = b.versions;
    files = b.files;
    families = b.families;
    tops = b.tops;
  }

  law : Lawful a
  law = k.lawful

  gm : GoesOn KeepsMemtable a.memtables b.memtables
  gm = memtables-on a b k f r x h

  gl : GoesOn KeepsList a.lists b.lists
  gl = lists-on a b k f r x h

  gv : GoesOn KeepsVersion a.versions b.versions
  gv = versions-on a b k f r x h

  gn : GoesOn KeepsNumber a.files.numbers b.files.numbers
  gn = numbers-on a b k f r x h

  gx : (m : FileMeta) → In m a.metas → In m a.metas
  gx m i = i

  sup : (i : ℕ) (s : SuperVersion) → entry S i ≡ Some s
      → (entry a.supers i ≡ Some s) ⊎ ((i ≡ length a.supers + 1) × (s ≡ x))
  sup = entry_push a.supers x

  lawful : Lawful c
  lawful = record {
    memtables = memtables_law a b k f r x h;
    lists = lists_law a b k f r x h;
    versions = versions_law a b k f r x h;
    files = files_law a b k f r x h;
    descriptors = descriptors_law a b k f r x h;
    lasts = lasts_law a b k f r x h;
    rows = rows_law a b k f r x h;
    tops = tops_law a b k f r x h;
    paired = h.paired;
    numbers = numbers_law a b k f r x h;
    metas = metas_law a b k f r x h;
    cuts = law.cuts;
    snapshots = snapshots_law a b k f r x h;
    places = places_law a b k f r x h;
    cells = cells_law a b k f r x h;
    distinct = distinct_law a b k f r x h;
    default = default_law a b k f r x h;
    limits = record {
      families = h.few_families;
      supers = omega (arith, h.room.few, length-append a.supers (x ∷ []));
      live_supers = omega
          (arith, h.room.few_live, total-push (λ (s : SuperVersion). bit s.live) a.supers x, bit_le x.live);
      live_memtables = grown-total PM a.memtables b.memtables h.memtables (λ (m : Memtable). bit m.live) 64
          (λ m. bit_le m.live) law.limits.live_memtables (λ n y p. p.room.few);
      captured = omega (arith, law.limits.captured, (captures_same a b k f r x h));
      writes = law.limits.writes;
      holds = subst (Every (λ i. i ≤ 255)) (sym (holds_same a b k f r x h)) law.limits.holds;
      jobs = omega (arith, law.limits.jobs, (jobs_same a b k f r x h));
      options = λ g y e. ⊎_elim
          (λ q. subst (λ (u : Family). InRange u.options) (sym q.1) h.in_range)
          (λ q. law.limits.options g y q.1)
          (fam a b k f r x h g y e);
    };
  }

  -- ---- what the state keeps beside

  current_back : (g s : ℕ) (y : SuperVersion) → IsCurrent b.tops S g s y
      → ((g ≡ f) × (y ≡ x)) ⊎ ((g ≢ f) × IsCurrent a.tops a.supers g s y)
  current_back g s y cur = ⊎_elim
      (λ q.
      let s_is : s ≡ length a.supers + 1 = some (sym cur.is ∙ ap (λ (z : Top). z.current) q.1) in
      inl (q.0, some (sym cur.has ∙ entry-new a.supers x s s_is)))
      (λ q.
      let t = current-top a law g s cur.top q.1 cur.is in
      inr (
        q.0,
        record {
          top = cur.top;
          at = q.1;
          is = cur.is;
          has = t.2.at ∙ (sym (entry-old a.supers (x ∷ []) s t.2.it t.2.at) ∙ cur.has);
        },
      ))
      (placed_get a.tops b.tops f top h.tops g cur.top cur.at)

  listed-on : (m : ℕ) → IsListed a.memtables a.tops a.supers m → IsListed b.memtables b.tops S m
  listed-on m w = record {
    it = w.it;
    at = grown-old PM a.memtables b.memtables h.memtables m w.it w.at;
    before = λ s y cur. ⊎_elim
        (λ q. ⊎_elim
        (λ o. omega (arith, entry_le a.memtables m w.it w.at, o, ap (λ (z : SuperVersion). z.descriptor.active) q.1))
        (λ o. omega (arith, w.before o.0 o.1 (subst (λ g. IsCurrent a.tops a.supers g o.0 o.1) (sym q.0) o.2), o.3, ap (λ (z : SuperVersion). z.descriptor.active) q.1))
        h.onward)
        (λ q. w.before s y q.1)
        (current_back w.it.family s y cur);
  }

  listed_law : (l m : ℕ) (z : MemtableList) → entry b.lists l ≡ Some z → In m z.members
      → IsListed b.memtables b.tops S m
  listed_law l m z e i = ⊎_elim
      (λ o. listed-on m (k.steady.listed l m z o i))
      (λ o.
      let t = h.describes in
      let z_is : z ≡ t.list = some (sym e ∙ ap (entry b.lists) o.1.is_list ∙ t.list_at) in
      let w =
      join_in a.journal b.memtables d.family t.list.members t.middle d.base m t.members
      (subst (λ (u : MemtableList). In m u.members) z_is i) in
      record {
        it = w.0;
        at = w.1;
        before = λ s y cur. ⊎_elim
            (λ q. omega (arith, (o.1.members m i).1, ap (λ (u : SuperVersion). u.descriptor.active) q.1))
            (λ q. absurd (q.0 (w.2 ∙ h.family_is)))
            (current_back w.0.family s y cur);
      })
      (grown_entry PL a.lists b.lists h.lists l z e)

  awaited_law : (g n s : ℕ) (y : SuperVersion) → slice_get b.files.captured g ≡ Some (Some n)
      → IsCurrent b.tops S g s y → IsAwaited a.journal b.memtables b.lists b.versions a.metas n y.descriptor
  awaited_law g n s y e cur = ⊎_elim
      (λ q. subst (λ (w : SuperVersion). IsAwaited a.journal b.memtables b.lists b.versions a.metas n w.descriptor) (sym q.1) (h.awaited n (ap (slice_get b.files.captured) (sym q.0) ∙ e)))
      (λ q. awaited-on a.files.numbers b.files.numbers gn a.metas a.metas gx a.journal a.memtables b.memtables a.lists b.lists a.versions b.versions gm gl gv n y.descriptor (k.steady.awaited g n s y (sym (captured_back a b k f r x h g q.0) ∙ e) q.1))
      (current_back g s y cur)

  steady : Steady c
  steady = record {
    borne = λ i w e.
        borne-on (length a.memtables) (length a.families) (length b.memtables) (length b.families) w
        (grown-longer PM a.memtables b.memtables h.memtables) h.more (k.steady.borne i w e);
    supers_of = λ n s e. ⊎_elim
        (λ o. omega (arith, k.steady.supers_of n s o, h.more))
        (λ o. omega (arith, get_within b.families f r h.families.here, ap (λ (w : SuperVersion). w.descriptor.family) o.1, h.family_is))
        (sup n s e);
    listed = listed_law;
    awaited = awaited_law;
    covers = λ g n m e i q. k.steady.covers g n m (captured_old a b k f r x h g n e) i q;
    retired = λ g y t ye te q. ⊎_elim
        (λ o. absurd (let z : false ≡ true = ap (λ (b : Bool). b && (total bit r.handles == 0)) (sym h.stands) ∙ ap is_retired (sym o.1) ∙ q in cc))
        (λ o. k.steady.retired g y t o.1 (sym (h.tops.others g o.0) ∙ te) q)
        (fam a b k f r x h g y ye);
    busy = λ g n e. dite (ℕ_discrete g f)
        (λ q. omega (arith, q, get_within b.families f r h.families.here))
        (λ q. omega (arith, k.steady.busy g n (sym (captured_back a b k f r x h g q) ∙ e), h.more));
    captured = ⊎_elim
        (λ q. ap (λ (F : FileRegister). length F.captured) q)
        (λ o. ap length (settled-captured f o.number Live a.files b.files o.settled) ∙ length-change a.files.captured (suc f) None)
        h.files
        ∙ k.steady.captured;
    holds = ap length (holds_same a b k f r x h) ∙ k.steady.holds;
    handles = λ g y e. ⊎_elim
        (λ q. ap (λ (u : Family). length u.handles) q.1 ∙ h.handles)
        (λ q. k.steady.handles g y q.1)
        (fam a b k f r x h g y e);
    memtables_made = omega (
      arith,
      k.steady.memtables_made,
      grown-shorter PM a.memtables b.memtables h.memtables,
      length-append a.supers (x ∷ []),
    );
    lists_made = omega
        (arith, k.steady.lists_made, grown-shorter PL a.lists b.lists h.lists, length-append a.supers (x ∷ []));
    versions_made = omega (
      arith,
      k.steady.versions_made,
      grown-shorter PV a.versions b.versions h.versions,
      length-append a.supers (x ∷ []),
    );
  }

  after : After a c
  after = record {
    journal = continues-itself a.journal;
    supers = goes-push KeepsSuper a.supers x super-itself;
    memtables = gm;
    lists = gl;
    versions = gv;
    numbers = gn;
    metas = continues-itself a.metas;
    next = omega (arith, (next_same a b k f r x h));
    families = placed-goes a.families b.families f r h.families KeepsFamily family-itself
        (λ y e. let t = h.was y e in record {
          name = t.0;
          dropped = λ dr. absurd (let q : false ≡ true = sym t.1 ∙ dr in cc);
        });
    tops = λ g t e. dite (ℕ_discrete g f)
        (λ q. (
          top,
          ap (slice_get b.tops) q ∙ h.tops.here,
          record {
            reach = h.reach t (ap (slice_get a.tops) (sym q) ∙ e);
            ended = λ _ none.
                absurd (let had = h.had t (ap (slice_get a.tops) (sym q) ∙ e) in none_some had.0 (sym none ∙ had.1));
          },
        ))
        (λ q. (
          t,
          h.tops.others g q ∙ e,
          record {
            reach = reach-on a.versions b.versions gv t.last;
            ended = λ _ none. none;
          },
        ));
    rows = λ l m z e i. refl;
    snapshots = goes-same KeepsSnapshot a.snapshots snapshot-itself;
  }

  pub installed : Sound b × After a b
  installed =
      subst (λ (z : Books). Sound z × After a z) (sym h.rest) (record { lawful = lawful; steady = steady }, after)
