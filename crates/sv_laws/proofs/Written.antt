-- A write more keeps the books sound.
use Rattle.sv_laws.proofs.SnapshotLaws.{snapshots-kept}
use Rattle.std.proofs.Common.{◌≡◌, ◌≢◌, ◌≤◌, ℕ, ◌+◌, List, [], ◌∷◌, ◌++◌, length, take, drop, Some, refl, sym, ap, ◌∙◌, subst, inl, inr, ⊎_elim, arith, length-append}
use Rattle.std.specs.Prelude.{slice_get}
use mathlib.Core.Logic.{dite}
use native.Mathlib.Decide.{ℕ_discrete}
use Rattle.sv_model.specs.declared.writes.Write.{Write}
use Rattle.sv_model.specs.declared.records.SuperVersion.{SuperVersion}
use Rattle.sv_model.specs.declared.records.Memtable.{Memtable}
use Rattle.sv_model.specs.declared.records.MemtableList.{MemtableList}
use Rattle.sv_model.specs.declared.records.Descriptor.{Descriptor}
use Rattle.sv_model.specs.declared.records.Family.{Family}
use Rattle.sv_model.specs.declared.records.Top.{Top}
use Rattle.sv_model.specs.Journal.{of_family, borne_by}
use Rattle.sv_model.specs.Lists.{In}
use Rattle.sv_model.specs.Registers.{entry}
use Rattle.sv_model.specs.Books.{Books}
use Rattle.sv_model.specs.After.{KeepsSuper, KeepsMemtable, KeepsList, KeepsVersion, KeepsNumber, KeepsFamily, After, KeepsSnapshot}
use Rattle.sv_model.specs.Lawful.{Lawful}
use Rattle.sv_model.specs.Described.{Describes, BearsFrom, IsTop}
use Rattle.sv_model.specs.Steady.{Sound, IsCurrent, IsAwaited, IsBorne}
use Rattle.sv_model.proofs.Registers.{goes-same, entry_le}
use Rattle.sv_model.proofs.AfterLaws.{continues-itself, super-itself, memtable-itself, list-itself, version-itself, number-itself, family-itself, snapshot-itself}
use Rattle.sv_laws.specs.Writes.{IsWritten}
use Rattle.sv_model.proofs.Entries.{some, get_push, in-left}
use Rattle.sv_laws.proofs.BorneRows.{borne-other, borne-same, family-same, family-other, rows-stand-any, rows-grow}
use Rattle.sv_laws.proofs.StillFits.{join-still}
use Rattle.sv_laws.proofs.OpenFamilies.{of_f, says, ends-at}

module _ (a b : Books) (k : Sound a) (f : ℕ) (w : Write) (h : IsWritten a b f w) where
  law : Lawful a
  law = k.lawful

  abbrev c : SuperVersion
  c = h.c

  abbrev J : List Write
  J = a.journal

  abbrev K : List Write
  K = a.journal ++ w ∷ []

  abbrev e : Books
  e = record a { journal = K }

  longer : (g : ℕ) → length (of_family g J) ≤ length (of_family g K)
  longer g = dite (ℕ_discrete w.family g)
      (λ q. let p : of_family g K ≡ of_family g J ++ w ∷ [] = subst (λ i. of_family i K ≡ of_family i J ++ w ∷ []) q (family-same J w) in omega (arith, ap (λ (l : List Write). length l) p, length-append (of_family g J) (w ∷ [])))
      (λ q. omega (arith, ap (λ (l : List Write). length l) (family-other g J w q)))

  d : Describes a.journal a.memtables a.lists a.versions a.files.numbers a.metas h.c.descriptor
  d = says a k f h.s c h.is_open

  -- a memtable that is the active one is of the family
  of_active : (m : ℕ) (it : Memtable) → w.mem ≡ m → entry a.memtables m ≡ Some it → it ≡ d.active
  of_active m it q at = some (sym at ∙ ap (entry a.memtables) (sym q ∙ h.mem_is) ∙ d.active_at)

  -- a member of any list has the same rows
  member-same : (l m : ℕ) (x : MemtableList) → entry a.lists l ≡ Some x → In m x.members → borne_by m K ≡ borne_by m J
  member-same l m x at i = borne-other m J w (λ q.
      let t = k.steady.listed l m x at i in
      let of : t.it.family ≡ f =
      ap (λ (z : Memtable). z.family) (of_active m t.it q t.at) ∙ d.active_family ∙ of_f a k f h.s c h.is_open in
      let below = t.before h.s c (subst (λ g. IsCurrent a.tops a.supers g h.s c) (sym of) h.is_open.current) in
      omega (arith, below, q, h.mem_is))

  describes : (x : Descriptor) → Describes J a.memtables a.lists a.versions a.files.numbers a.metas x
      → Describes K a.memtables a.lists a.versions a.files.numbers a.metas x
  describes x t = record {
    active = t.active;
    active_at = t.active_at;
    active_family = t.active_family;
    base = t.base;
    within = omega (arith, t.within, longer x.family);
    list = t.list;
    list_at = t.list_at;
    version = t.version;
    version_at = t.version_at;
    middle = t.middle;
    files = t.files;
    members = join-still J K a.memtables x.family t.list.members t.middle x.base
        (λ m i. member-same x.list m t.list t.list_at i) t.members;
  }

  awaited : (n : ℕ) (x : Descriptor) → IsAwaited J a.memtables a.lists a.versions a.metas n x
      → IsAwaited K a.memtables a.lists a.versions a.metas n x
  awaited n x t = record {
    file = t.file;
    covered = t.covered;
    number_is = t.number_is;
    some = t.some;
    list = t.list;
    list_at = t.list_at;
    version = t.version;
    version_at = t.version_at;
    fits = ⊎_elim
        (λ u. inl (record {
          from_is = u.from_is;
          above = u.above;
          front = u.front;
          back = u.back;
          parts = u.parts;
          joins = join-still J K a.memtables x.family u.front t.file.from t.file.to
              (λ m i. member-same x.list m t.list t.list_at (subst (In m) (sym u.parts) (in-left m u.front u.back i)))
              u.joins;
        }))
        (λ u. inr u)
        t.fits;
  }

  ends : c.descriptor.base + length (borne_by c.descriptor.active J) ≡ length (of_family f J)
  ends = ends-at a k f h.s c h.is_open

  rows_law : (m : ℕ) (it : Memtable) → entry a.memtables m ≡ Some it → BearsFrom K m it
  rows_law m it at = dite (ℕ_discrete w.mem m) mine other
    where
      was : BearsFrom J m it
      was = law.rows m it at

      mine : w.mem ≡ m → BearsFrom K m it
      mine q =
          let s = of_active m it q at in
          let fam : it.family ≡ w.family =
          ap (λ (x : Memtable). x.family) s ∙ d.active_family ∙ of_f a k f h.s c h.is_open ∙ sym h.family_is in
          let first : it.first ≡ c.descriptor.base = ap (λ (x : Memtable). x.first) s ∙ sym d.base in
          let rows : borne_by m K ≡ borne_by m J ++ w ∷ [] =
          subst (λ i. borne_by i K ≡ borne_by i J ++ w ∷ []) q (borne-same J w) in
          let writes : of_family it.family K ≡ of_family it.family J ++ w ∷ [] =
          subst (λ i. of_family i K ≡ of_family i J ++ w ∷ []) (sym fam) (family-same J w) in
          let end : it.first + length (borne_by m J) ≡ length (of_family it.family J) =
          omega (
            arith,
            ends,
            first,
            ap (λ i. length (borne_by i J)) (sym h.mem_is ∙ q),
            ap (λ i. length (of_family i J)) (fam ∙ h.family_is),
          ) in
          record {
            within = omega (arith, was.within, longer it.family);
            rows = subst (λ (z : List Write × List Write). z.0 ≡ take (length z.0) (drop it.first z.1))
                (λ i. (sym rows i, sym writes i))
                (rows-grow (borne_by m J) (of_family it.family J) it.first w was.rows end);
            few = omega (
              arith,
              h.few_rows,
              ap (λ i. length (borne_by i J)) q,
              ap (λ (l : List Write). length l) rows,
              length-append (borne_by m J) (w ∷ []),
            );
          }

      other : w.mem ≢ m → BearsFrom K m it
      other apart =
          let rows : borne_by m K ≡ borne_by m J = borne-other m J w apart in
          record {
            within = omega (arith, was.within, longer it.family);
            rows = subst (λ (l : List Write). l ≡ take (length l) (drop it.first (of_family it.family K))) (sym rows)
                (dite (ℕ_discrete w.family it.family)
                (λ q. let writes : of_family it.family K ≡ of_family it.family J ++ w ∷ [] = subst (λ i. of_family i K ≡ of_family i J ++ w ∷ []) q (family-same J w) in
                subst (λ (l : List Write). borne_by m J ≡ take (length (borne_by m J)) (drop it.first l)) (sym writes)
                (rows-stand-any (borne_by m J) (of_family it.family J) it.first w was.rows))
                (λ q. subst (λ (l : List Write). borne_by m J ≡ take (length (borne_by m J)) (drop it.first l)) (sym (family-other it.family J w q)) was.rows));
            few = omega (arith, was.few, ap (λ (l : List Write). length l) rows);
          }

  tops_law : (g s : ℕ) (y : Family) (t : Top) → slice_get a.families g ≡ Some y → slice_get a.tops g ≡ Some t
      → t.current ≡ Some s → IsTop K a.supers g y t.last s
  tops_law g s y t ye te cur =
      record {
        it = o.it;
        at = o.at;
        live = o.live;
        family_is = o.family_is;
        last_is = o.last_is;
        options_are = o.options_are;
        greatest = o.greatest;
        ends = dite (ℕ_discrete g f) mine other;
      }
    where
      o : IsTop J a.supers g y t.last s
      o = law.tops g s y t ye te cur

      mine : g ≡ f → o.it.descriptor.base + length (borne_by o.it.descriptor.active K) ≡ length (of_family g K)
      mine q =
          let p = h.is_open.current in
          let t_is : t ≡ p.top = some (sym te ∙ ap (slice_get a.tops) q ∙ p.at) in
          let s_is : s ≡ h.s = some (sym cur ∙ ap (λ (x : Top). x.current) t_is ∙ p.is) in
          let it_is : o.it ≡ c = some (sym o.at ∙ ap (entry a.supers) s_is ∙ p.has) in
          let active : w.mem ≡ o.it.descriptor.active =
          h.mem_is ∙ ap (λ (x : SuperVersion). x.descriptor.active) (sym it_is) in
          let rows : borne_by o.it.descriptor.active K ≡ borne_by o.it.descriptor.active J ++ w ∷ [] =
          subst (λ j. borne_by j K ≡ borne_by j J ++ w ∷ []) active (borne-same J w) in
          let writes : of_family g K ≡ of_family g J ++ w ∷ [] =
          subst (λ j. of_family j K ≡ of_family j J ++ w ∷ []) (h.family_is ∙ sym q) (family-same J w) in
          omega (
            arith,
            o.ends,
            ap (λ (l : List Write). length l) rows,
            ap (λ (l : List Write). length l) writes,
            length-append (borne_by o.it.descriptor.active J) (w ∷ []),
            length-append (of_family g J) (w ∷ []),
          )

      other : g ≢ f → o.it.descriptor.base + length (borne_by o.it.descriptor.active K) ≡ length (of_family g K)
      other apart =
          let de = law.descriptors s o.it o.at o.live in
          let not_same : w.mem ≢ o.it.descriptor.active =
          λ q. apart (sym o.family_is ∙ sym de.active_family ∙ ap (λ (x : Memtable). x.family) (of_active o.it.descriptor.active de.active q de.active_at) ∙ d.active_family ∙ of_f a k f h.s c h.is_open) in
          omega (
            arith,
            o.ends,
            ap (λ (l : List Write). length l) (borne-other o.it.descriptor.active J w not_same),
            ap (λ (l : List Write). length l) (family-other g J w (λ q. apart (sym q ∙ h.family_is))),
          )

  mine : IsBorne (length a.memtables) (length a.families) w
  mine =
      let low = entry_le a.memtables c.descriptor.active d.active d.active_at in
      record {
        family_made = omega
            (arith, k.steady.supers_of h.s c h.is_open.current.has, of_f a k f h.s c h.is_open, h.family_is);
        by = inl (omega (arith, low.0, h.mem_is), omega (arith, low.1, h.mem_is), h.by_lane);
      }

  sound : Sound e
  sound = record {
    lawful = record {
      memtables = law.memtables;
      lists = law.lists;
      versions = law.versions;
      files = law.files;
      descriptors = λ s r at l. describes r.descriptor (law.descriptors s r at l);
      lasts = λ g t te. let u = law.lasts g t te in record {
        version = u.version;
        at = u.at;
        to = u.to;
        files = u.files;
        within = omega (arith, u.within, longer g);
      };
      rows = rows_law;
      tops = tops_law;
      paired = law.paired;
      numbers = law.numbers;
      metas = law.metas;
      cuts = law.cuts;
      snapshots = snapshots-kept a e law.snapshots (record {
        journal = (w ∷ [], refl);
        snapshots = refl;
        lasts = λ g m i. inl i;
        awaited = λ g m i. inl i;
      });
      places = law.places;
      cells = law.cells;
      distinct = law.distinct;
      default = law.default;
      limits = record {
        families = law.limits.families;
        supers = law.limits.supers;
        live_supers = law.limits.live_supers;
        live_memtables = law.limits.live_memtables;
        captured = law.limits.captured;
        writes = omega (arith, h.few, length-append a.journal (w ∷ []));
        holds = law.limits.holds;
        jobs = law.limits.jobs;
        options = law.limits.options;
      };
    };
    steady = record {
      borne = λ i v at. ⊎_elim
          (λ o. k.steady.borne i v o)
          (λ o. subst (IsBorne (length a.memtables) (length a.families)) (sym o) mine)
          (get_push a.journal w i v at);
      supers_of = k.steady.supers_of;
      listed = k.steady.listed;
      awaited = λ g n s x ca cur. awaited n x.descriptor (k.steady.awaited g n s x ca cur);
      covers = λ g n m c i q. omega (arith, k.steady.covers g n m c i q, longer g);
      retired = k.steady.retired;
      busy = k.steady.busy;
      captured = k.steady.captured;
      holds = k.steady.holds;
      handles = k.steady.handles;
      memtables_made = k.steady.memtables_made;
      lists_made = k.steady.lists_made;
      versions_made = k.steady.versions_made;
    };
  }

  after : After a e
  after = record {
    journal = (w ∷ [], refl);
    supers = goes-same KeepsSuper a.supers super-itself;
    memtables = goes-same KeepsMemtable a.memtables memtable-itself;
    lists = goes-same KeepsList a.lists list-itself;
    versions = goes-same KeepsVersion a.versions version-itself;
    numbers = goes-same KeepsNumber a.files.numbers number-itself;
    metas = continues-itself a.metas;
    next = omega arith;
    families = goes-same KeepsFamily a.families family-itself;
    tops = λ g t at. (t, at, record { reach = omega arith; ended = λ _ z. z });
    rows = λ l m x at i. member-same l m x at i;
    snapshots = goes-same KeepsSnapshot a.snapshots snapshot-itself;
  }

  pub written : Sound b × After a b
  written = subst (λ (z : Books). Sound z × After a z) (sym h.is) (sound, after)
