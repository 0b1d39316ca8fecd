-- Snapshots are taken and released.
use Rattle.std.proofs.Common.{◌≡◌, ◌<◌, ◌≤◌, ℕ, zero, suc, inl, inr, ⊎_elim, true, false, List, [], ◌∷◌, ◌++◌, length, Some, refl, sym, ap, ◌∙◌, subst, arith, length-append}
use Rattle.std.proofs.lemmas.List.{take_all}
use Rattle.std.specs.Prelude.{slice_get}
use Rattle.sv_model.specs.declared.records.Version.{Version}
use Rattle.sv_model.specs.declared.records.FileMeta.{FileMeta}
use Rattle.sv_model.specs.declared.records.Snapshot.{Snapshot}
use Rattle.sv_model.specs.Journal.{of_family}
use Rattle.sv_model.specs.Ranges.{FilesJoin}
use Rattle.sv_model.specs.Lists.{In, bit, total}
use Rattle.sv_model.specs.Registers.{entry, change, GoesOn}
use Rattle.sv_model.specs.Snapshots.{SnapshotsStand, cut_of, IsClear}
use Rattle.sv_model.specs.After.{After, KeepsSnapshot}
use Rattle.sv_model.specs.Books.{Books}
use Rattle.sv_model.specs.Steady.{Sound}
use Rattle.sv_model.proofs.Lists.{total-push}
use Rattle.sv_model.proofs.Registers.{entry_push, entry_change, total-change, goes-push, goes-change, length-change}
use Rattle.sv_model.proofs.AfterLaws.{after-itself, snapshot-itself}
use Rattle.sv_laws.specs.Snapping.{IsSnapped, IsUnsnapped}
use Rattle.sv_model.proofs.Entries.{some}
use Rattle.sv_laws.proofs.Apart.{false_true}

join-within : (files : List FileMeta) (from to : ℕ) → FilesJoin from files to
    → ((i : ℕ) (m : FileMeta) → slice_get files i ≡ Some m → m.from < m.to) → (i : ℕ) (m : FileMeta)
    → slice_get files i ≡ Some m → (from ≤ to) × (m.to ≤ to)
join-within [] from to j each i m e = absurd (cc)
join-within (n ∷ files) from to j each zero m e =
    let q : n ≡ m = cc in
    let rest = reach files n.to to j.1 (λ i x o. each (suc i) x o) in
    (omega (arith, each 0 n refl, j.0, rest), omega (arith, rest, ap (λ (z : FileMeta). z.to) q))
  where
    reach : (fs : List FileMeta) (a b : ℕ) → FilesJoin a fs b
        → ((i : ℕ) (m : FileMeta) → slice_get fs i ≡ Some m → m.from < m.to) → a ≤ b
    reach [] a b j each = omega (arith, j)
    reach (f ∷ fs) a b j each = omega (arith, each 0 f refl, j.0, reach fs f.to b j.1 (λ i. each (suc i)))
join-within (n ∷ files) from to j each (suc i) m e =
    let h = join-within files n.to to j.1 (λ p x o. each (suc p) x o) i m e in
    (omega (arith, each 0 n refl, j.0, h.0), h.1)

abbrev Stand : Books → List Snapshot → Type 0
Stand a snapshots = SnapshotsStand a.journal a.versions a.files.captured a.metas a.tops snapshots

-- only snapshots changed
module _ (a : Books) (k : Sound a) (snapshots : List Snapshot) (stand : SnapshotsStand a.journal a.versions a.files.captured a.metas a.tops snapshots) (goes : GoesOn KeepsSnapshot a.snapshots snapshots) where
  abbrev e : Books
  e = record a { snapshots = snapshots }

  sound : Sound e
  sound = record {
    lawful = record {
      memtables = k.lawful.memtables;
      lists = k.lawful.lists;
      versions = k.lawful.versions;
      files = k.lawful.files;
      descriptors = k.lawful.descriptors;
      lasts = k.lawful.lasts;
      rows = k.lawful.rows;
      tops = k.lawful.tops;
      paired = k.lawful.paired;
      numbers = k.lawful.numbers;
      metas = k.lawful.metas;
      cuts = k.lawful.cuts;
      places = k.lawful.places;
      cells = k.lawful.cells;
      distinct = k.lawful.distinct;
      default = k.lawful.default;
      limits = record {
        families = k.lawful.limits.families;
        supers = k.lawful.limits.supers;
        live_supers = k.lawful.limits.live_supers;
        live_memtables = k.lawful.limits.live_memtables;
        captured = k.lawful.limits.captured;
        writes = k.lawful.limits.writes;
        holds = k.lawful.limits.holds;
        jobs = k.lawful.limits.jobs;
        options = k.lawful.limits.options;
      };
      snapshots = stand;
    };
    steady = record {
      borne = k.steady.borne;
      supers_of = k.steady.supers_of;
      listed = k.steady.listed;
      awaited = k.steady.awaited;
      covers = k.steady.covers;
      retired = k.steady.retired;
      busy = k.steady.busy;
      captured = k.steady.captured;
      holds = k.steady.holds;
      handles = k.steady.handles;
      memtables_made = k.steady.memtables_made;
      lists_made = k.steady.lists_made;
      versions_made = k.steady.versions_made;
    };
  }

  after : After a e
  after = let i = after-itself a in record {
    journal = i.journal;
    rows = i.rows;
    supers = i.supers;
    memtables = i.memtables;
    lists = i.lists;
    versions = i.versions;
    numbers = i.numbers;
    metas = i.metas;
    next = i.next;
    families = i.families;
    tops = λ f t at. (t, at, record { reach = omega arith; ended = λ has none. none });
    snapshots = goes;
  }

  pub snapshots-changed : Sound e × After a e
  snapshots-changed = (sound, after)

-- A snapshot of now stands: no file's range goes beyond it.
now-stands : (a : Books) → Sound a → total (λ s. bit s.live) a.snapshots < 64 → length a.snapshots < 1048576
    → Stand a (a.snapshots ++ record { at = length a.journal; live = true } ∷ [])
now-stands b k few_live few =
    let h = k.lawful.snapshots in
    let snapshots = b.snapshots in
    let y : Snapshot = record { at = length b.journal; live = true } in
    let cut : (f : ℕ) → cut_of b.journal (length b.journal) f ≡ length (of_family f b.journal) =
    λ f. ap (λ l. length (of_family f l)) (take_all (length b.journal) b.journal (omega arith)) in
    record {
      within = λ n s e. ⊎_elim
          (λ o. h.within n s o)
          (λ o. omega (arith, ap (λ (z : Snapshot). z.at) o.1))
          (entry_push snapshots y n s e);
      few = omega (arith, few_live, total-push (λ (s : Snapshot). bit s.live) snapshots y);
      made = omega (arith, few, length-append snapshots (y ∷ []));
      lasts = λ n s e l f file w. ⊎_elim
          (λ o. h.lasts n s o l f file w)
          (λ o.
          let t = k.lawful.lasts f w.top w.top_at in
          let same : w.version ≡ t.version = some (sym w.version_at ∙ t.at) in
          let i = subst (λ (v : Version). In file v.files) same w.has in
          let j =
          join-within t.version.files 0 t.to t.files.joins (λ p m q. (t.files.each p m q).some) i.at file i.is in
          subst (λ (z : Snapshot). IsClear (cut_of b.journal z.at f) file) (sym o.1)
          (inr (inl (omega (arith, j.1, t.within, cut f)))))
          (entry_push snapshots y n s e);
      awaited = λ n s e l f file w. ⊎_elim
          (λ o. h.awaited n s o l f file w)
          (λ o. subst (λ (z : Snapshot). IsClear (cut_of b.journal z.at f) file) (sym o.1) (inr (inl (omega (arith, k.steady.covers f file.number file w.captured_is w.covered refl, cut f)))))
          (entry_push snapshots y n s e);
    }

pub snapped : (a b : Books) → Sound a → IsSnapped a b → Sound b × After a b
snapped a b k h =
    let y : Snapshot = record { at = length a.journal; live = true } in
    subst (λ (z : Books). Sound z × After a z) (sym h.is)
    (snapshots-changed a k (a.snapshots ++ y ∷ []) (now-stands a k h.few_live h.few) (goes-push KeepsSnapshot a.snapshots y snapshot-itself))

-- one less to keep cuts for
fewer-stand : (a : Books) → Sound a → (n : ℕ) (x : Snapshot) → entry a.snapshots n ≡ Some x
    → Stand a (change a.snapshots n (record x { live = false }))
fewer-stand a k n x at =
    let h = k.lawful.snapshots in
    let y : Snapshot = record x { live = false } in
    record {
      within = λ i s e. ⊎_elim
          (λ o. omega (arith, h.within n x at, ap (λ (z : Snapshot). z.at) o.1))
          (λ o. h.within i s o.1)
          (entry_change a.snapshots n i y s e);
      few = omega (arith, h.few, total-change (λ (s : Snapshot). bit s.live) a.snapshots n x y at);
      made = omega (arith, h.made, length-change a.snapshots n y);
      lasts = λ i s e l. ⊎_elim
          (λ o. false_true (sym (ap (λ (z : Snapshot). z.live) o.1) ∙ l))
          (λ o. h.lasts i s o.1 l)
          (entry_change a.snapshots n i y s e);
      awaited = λ i s e l. ⊎_elim
          (λ o. false_true (sym (ap (λ (z : Snapshot). z.live) o.1) ∙ l))
          (λ o. h.awaited i s o.1 l)
          (entry_change a.snapshots n i y s e);
    }

pub unsnapped : (a b : Books) → Sound a → (n : ℕ) (x : Snapshot) → IsUnsnapped a b n x → Sound b × After a b
unsnapped a b k n x h =
    let y : Snapshot = record x { live = false } in
    subst (λ (z : Books). Sound z × After a z) (sym h.is)
    (snapshots-changed a k (change a.snapshots n y) (fewer-stand a k n x h.at) (goes-change KeepsSnapshot a.snapshots n x y snapshot-itself h.at (record { at = refl; gone = λ e. refl })))
