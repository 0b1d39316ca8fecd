-- A file is captured: a flush or a compaction begins.
use Rattle.sv_model.specs.Flat.{AreCuts}
use Rattle.sv_laws.specs.Snapping.{IsClearOfLive}
use Rattle.sv_model.specs.Snapshots.{IsAwaitedFile}
use Rattle.sv_model.proofs.Metas.{drawn, numbers_of-push, captured_numbers-push}
use Rattle.sv_model.proofs.Entries.{some, in_append, in-left, in-cons, in-none, in-right, every_push}
use Rattle.sv_model.proofs.Basics.{none_some}
use Rattle.std.proofs.Common.{◌≡◌, ◌≢◌, ◌<◌, ◌≤◌, ℕ, zero, suc, ◌+◌, ◌⊎◌, inl, inr, ⊎_elim, List, [], ◌∷◌, ◌++◌, length, Option, Some, None, refl, sym, ap, ◌∙◌, subst, arith}
use Rattle.std.specs.Prelude.{slice_get, is_some}
use mathlib.Core.Logic.{dite}
use native.Mathlib.Decide.{ℕ_discrete}
use Rattle.sv_model.specs.declared.records.SuperVersion.{SuperVersion}
use Rattle.sv_model.specs.declared.records.Memtable.{Memtable}
use Rattle.sv_model.specs.declared.records.MemtableList.{MemtableList}
use Rattle.sv_model.specs.declared.records.Version.{Version}
use Rattle.sv_model.specs.declared.records.FileMeta.{FileMeta}
use Rattle.sv_model.specs.declared.records.RegisteredFile.{RegisteredFile}
use Rattle.sv_model.specs.declared.records.FileStatus.TheVariants.{Pending}
use Rattle.sv_model.specs.Lists.{In, same, bit}
use Rattle.sv_model.specs.Ranges.{reach_of, FilesJoin}
use Rattle.sv_model.specs.Journal.{borne_by, of_family}
use Rattle.sv_model.specs.Registers.{entry, change}
use Rattle.sv_model.specs.After.{KeepsNumber, After}
use Rattle.sv_model.specs.Books.{Books}
use Rattle.sv_model.specs.Numbers.{NumbersStand, registered}
use Rattle.sv_model.specs.Described.{MembersJoin, FilesStand}
use Rattle.sv_model.specs.Steady.{Sound, IsCurrent, IsAwaited}
use Rattle.sv_model.proofs.Lists.{same_other, same-le, total-push}
use Rattle.sv_model.proofs.Registers.{entry-old, entry-new, entry_push, entry-same, entry-else, entry_change, goes-push, length-change}
use Rattle.sv_model.proofs.AfterLaws.{number-itself}
use Rattle.sv_laws.specs.Captures.{IsFileCaptured, IsFlushBegun, IsMergePlanned}
use Rattle.sv_laws.proofs.StillFits.{join-le, join_reach}
use Rattle.sv_laws.proofs.OpenFamilies.{of_f, says, one-current}
use Rattle.sv_laws.proofs.FileChanges.{files-changed, awaited-metas}
use Rattle.sv_laws.proofs.Apart.{pending_grabbed, pending_live}

-- ---- a capture

none-registered : (n : ℕ) (l : List RegisteredFile)
    → ((i : ℕ) (x : RegisteredFile) → entry l i ≡ Some x → x.number ≡ n → ⊥) → registered n l ≡ 0
none-registered n [] h = refl
none-registered n (x ∷ l) h =
    omega (arith, same_other n x.number (λ q. h 1 x refl (sym q)), none-registered n l (λ i y e q. by i y e q))
  where
    by : (i : ℕ) (y : RegisteredFile) → entry l i ≡ Some y → y.number ≡ n → ⊥
    by zero y e q = absurd (cc)
    by (suc i) y e q = h (suc (suc i)) y e q

module _ (a b : Books) (k : Sound a) (f : ℕ) (file : FileMeta) (h : IsFileCaptured a b f file) where
  abbrev n : ℕ
  n = a.files.next

  abbrev y : RegisteredFile
  y = record { number = n; status = Pending; family = Some f }

  abbrev N : List RegisteredFile
  N = a.files.numbers ++ y ∷ []

  abbrev C : List (Option ℕ)
  C = change a.files.captured (suc f) (Some n)

  abbrev e : Books
  e = record a { files = record a.files { numbers = N; captured = C; next = n + 1 }; metas = a.metas ++ file ∷ [] }

  law : NumbersStand a.files.numbers a.files.captured a.files.next
  law = k.lawful.numbers

  entry_is : (i : ℕ) (x : RegisteredFile) → entry N i ≡ Some x
      → (entry a.files.numbers i ≡ Some x) ⊎ ((i ≡ length a.files.numbers + 1) × (x ≡ y))
  entry_is = entry_push a.files.numbers y

  captured_is : (g m : ℕ) → slice_get C g ≡ Some (Some m)
      → ((g ≡ f) × (m ≡ n)) ⊎ ((g ≢ f) × (slice_get a.files.captured g ≡ Some (Some m)))
  captured_is g m q = ⊎_elim
      (λ o. inl ((let i : g ≡ f = omega (arith, o.0) in i), some o.1))
      (λ o. inr ((λ i. o.0 (ap suc i)), o.1))
      (entry_change a.files.captured (suc f) (suc g) (Some n) (Some m) q)

  others : (g : ℕ) → g ≢ f → slice_get C g ≡ slice_get a.files.captured g
  others g d = entry-else a.files.captured (suc f) (suc g) (Some n) (λ q. d (let i : g ≡ f = omega (arith, q) in i))

  not_idle : (m : ℕ) → slice_get a.files.captured f ≡ Some (Some m) → ⊥
  not_idle m q = none_some m (some (sym h.idle ∙ q))

  numbers : NumbersStand N C (n + 1)
  numbers = record {
    once = λ m. dite (ℕ_discrete m n)
        (λ q. omega (arith, total-push (λ (x : RegisteredFile). same m x.number) a.files.numbers y, same-le m n, none-registered m a.files.numbers (λ i x at o. omega (arith, law.below i x at, o, q))))
        (λ q. omega (arith, law.once m, total-push (λ (x : RegisteredFile). same m x.number) a.files.numbers y, same_other m n q));
    below = λ i x at. ⊎_elim
        (λ o. omega (arith, law.below i x o))
        (λ o. omega (arith, ap (λ (z : RegisteredFile). z.number) o.1))
        (entry_is i x at);
    pending = λ i x at p. ⊎_elim
        (λ o. let w = law.pending i x o p in (w.0, w.1, others w.0 (λ q. not_idle x.number (ap (slice_get a.files.captured) (sym q) ∙ w.2)) ∙ w.2))
        (λ o. (f, ap (λ (z : RegisteredFile). z.family) o.1, entry-same a.files.captured (suc f) None (Some n) h.idle ∙ ap (λ (z : RegisteredFile). Some (Some z.number)) (sym o.1)))
        (entry_is i x at);
    held = λ g m q. ⊎_elim
        (λ o. (
          length a.files.numbers + 1,
          y,
          entry-new a.files.numbers y (length a.files.numbers + 1) refl,
          record {
            number_is = sym o.1;
            status_is = refl;
            family_is = ap Some (sym o.0);
          },
        ))
        (λ o. let w = law.held g m o.1 in (w.0, w.1, entry-old a.files.numbers (y ∷ []) w.0 w.1 w.2, w.3))
        (captured_is g m q);
    drawn = λ i x at p. ⊎_elim
        (λ o. law.drawn i x o p)
        (λ o. omega (arith, law.least, ap (λ (z : RegisteredFile). z.number) o.1))
        (entry_is i x at);
    grabbed = λ i x at p g m q. ⊎_elim
        (λ o. ⊎_elim (λ u. omega (arith, law.below i x o, u.1)) (λ u. law.grabbed i x o p g m u.1) (captured_is g m q))
        (λ o. pending_grabbed (ap (λ (z : RegisteredFile). z.status) (sym o.1) ∙ p))
        (entry_is i x at);
    least = omega arith;
    most = omega (arith, h.more);
  }

  -- a meta was there, or is this one
  meta_is : (m : FileMeta) → In m (a.metas ++ file ∷ []) → In m a.metas ⊎ (m ≡ file)
  meta_is m i =
      ⊎_elim
      (λ o. inl o)
      (λ o. ⊎_elim (λ q. inr q) (λ q. absurd (in-none m q)) (in-cons m file [] o))
      (in_append m a.metas (file ∷ []) i)

  drawn_before : (m : FileMeta) → In m a.metas → m.number < n
  drawn_before = drawn a.files.numbers a.files.captured a.files.next a.metas law k.lawful.metas

  -- what is to be a file was so before, or is clear of the Live snapshots
  clear : (g : ℕ) (m : FileMeta) → IsAwaitedFile C (a.metas ++ file ∷ []) g m
      → IsAwaitedFile a.files.captured a.metas g m ⊎ IsClearOfLive a.journal a.snapshots g m
  clear g m w = ⊎_elim
      (λ o. ⊎_elim
      (λ i. absurd (omega (arith, drawn_before m i, o.1)))
      (λ i. inr (subst (λ (z : ℕ × FileMeta). IsClearOfLive a.journal a.snapshots z.0 z.1) (λ j. (sym o.0 j, sym i j)) h.cuts.clear))
      (meta_is m w.covered))
      (λ o. ⊎_elim
      (λ i. inl (record { captured_is = o.1; covered = i }))
      (λ i. let v = law.held g m.number o.1 in absurd (omega (arith, law.below v.0 v.1 v.2, v.3.number_is, ap (λ (z : FileMeta). z.number) i, h.number_is)))
      (meta_is m w.covered))
      (captured_is g m.number w.captured_is)

  -- what is captured awaits, where this number does
  pub captured : f < length a.families → file.to ≤ length (of_family f a.journal)
      → ((s : ℕ) (x : SuperVersion) → IsCurrent a.tops a.supers f s x → IsAwaited a.journal a.memtables a.lists a.versions (a.metas ++ file ∷ []) n x.descriptor)
      → Sound b × After a b
  captured made within awaits = subst (λ (z : Books). Sound z × After a z) (sym h.is) (files-changed a e k (record {
    numbers = numbers;
    goes = goes-push KeepsNumber a.files.numbers y number-itself;
    metas = (file ∷ [], refl);
    metas_are = numbers_of-push a.metas file ∙ (λ i. k.lawful.metas i ++ h.number_is i ∷ [])
        ∙ sym (captured_numbers-push a.files.numbers y);
    cuts = every_push (λ (m : FileMeta). AreCuts m.from m.to m.bottom.cuts) a.metas file k.lawful.cuts h.cuts.cuts;
    clear = clear;
    next = omega arith;
    live = λ m. (
      λ w. (w.0, w.1, entry-old a.files.numbers (y ∷ []) w.0 w.1 w.2, w.3),
      λ w. ⊎_elim
          (λ o. (w.0, w.1, o, w.3))
          (λ o. pending_live (ap (λ (z : RegisteredFile). z.status) (sym o.1) ∙ w.3.status_is))
          (entry_is w.0 w.1 w.2),
    );
    few = omega (arith, h.few, total-push (λ (x : RegisteredFile). bit (is_some x.family)) a.files.numbers y);
    holds = k.lawful.limits.holds;
    lanes = k.steady.holds;
    jobs = k.lawful.limits.jobs;
    families = length-change a.files.captured (suc f) (Some n) ∙ k.steady.captured;
    busy = λ g m q. ⊎_elim (λ o. omega (arith, made, o.0)) (λ o. k.steady.busy g m o.1) (captured_is g m q);
    covers = λ g m w q i r. ⊎_elim
        (λ o. ⊎_elim
        (λ u. absurd (omega (arith, drawn_before w u, r, o.1)))
        (λ u. omega (arith, within, ap (λ (z : FileMeta). z.to) u, ap (λ j. length (of_family j a.journal)) o.0))
        (meta_is w i))
        (λ o. ⊎_elim
        (λ u. k.steady.covers g m w o.1 u r)
        (λ u. (let v = law.held g m o.1 in absurd (omega (arith, law.below v.0 v.1 v.2, v.3.number_is, r, ap (λ (z : FileMeta). z.number) u, h.number_is))))
        (meta_is w i))
        (captured_is g m q);
    awaited = λ g m s x q c. ⊎_elim
        (λ o. subst (λ i. IsAwaited a.journal a.memtables a.lists a.versions (a.metas ++ file ∷ []) i x.descriptor) (sym o.1) (awaits s x (subst (λ i. IsCurrent a.tops a.supers i s x) o.0 c)))
        (λ o. awaited-metas a (a.metas ++ file ∷ []) (λ i j. in-left i a.metas (file ∷ []) j) m x (k.steady.awaited g m s x o.1 c))
        (captured_is g m q);
    is = refl;
  }))

join-some : (J : List _) (M : List Memtable) (f : ℕ) (ms : List ℕ) (from to : ℕ) → 0 < length ms
    → MembersJoin J M f from ms to → from < to
join-some J M f [] from to p h = absurd (omega arith)
join-some J M f (m ∷ ms) from to p h = omega (arith, h.0.some, join-le J M f ms (from + length (borne_by m J)) to h.1)

append-none : {A : Type 0} (l : List A) → l ≡ l ++ []
append-none [] = refl
append-none (x ∷ l) = ap (λ z. x ∷ z) (append-none l)

pub flush-begun : (a b : Books) (k : Sound a) (f : ℕ) (file : FileMeta) → IsFlushBegun a b f file → Sound b × After a b
flush-begun a b k f file h =
    let c = h.c in
    let p = h.is_open in
    let d = says a k f h.s c p in
    let list_is : d.list ≡ h.list = some (sym d.list_at ∙ h.list_at) in
    let version_is : d.version ≡ h.version = some (sym d.version_at ∙ h.version_at) in
    let from : d.middle ≡ file.from =
    sym (join_reach d.version.files 0 d.middle d.files.joins) ∙ ap (λ (v : Version). reach_of v.files) version_is
    ∙ sym h.from_is in
    let joins : MembersJoin a.journal a.memtables c.descriptor.family file.from h.list.members file.to =
    subst (λ (z : ℕ × (List ℕ × ℕ)). MembersJoin a.journal a.memtables c.descriptor.family z.0 z.1.0 z.1.1)
    (λ i. (from i, (ap (λ (l : MemtableList). l.members) list_is i, sym h.to_is i))) d.members in
    captured a b k f file h.captured (omega (arith, k.steady.supers_of h.s c p.current.has, of_f a k f h.s c p))
    (omega (arith, h.to_is, d.within, ap (λ j. length (of_family j a.journal)) (of_f a k f h.s c p))) (λ s x cur.
    subst
    (λ (z : SuperVersion). IsAwaited a.journal a.memtables a.lists a.versions (a.metas ++ file ∷ []) a.files.next z.descriptor)
    (one-current a.tops a.supers f h.s s c x p.current cur) (record {
      file = file;
      covered = in-right file a.metas (file ∷ []) (record { at = 0; is = refl });
      number_is = h.captured.number_is;
      some = join-some a.journal a.memtables c.descriptor.family h.list.members file.from file.to h.some joins;
      list = h.list;
      list_at = h.list_at;
      version = h.version;
      version_at = h.version_at;
      fits = inl (record {
        from_is = h.from_is;
        above = h.kind;
        front = h.list.members;
        back = [];
        parts = append-none h.list.members;
        joins = joins;
      });
    }))

pub merge-planned : (a b : Books) (k : Sound a) (f : ℕ) (file : FileMeta) → IsMergePlanned a b f file
    → Sound b × After a b
merge-planned a b k f file h =
    let c = h.c in
    let p = h.is_open in
    let d = says a k f h.s c p in
    let version_is : d.version ≡ h.version = some (sym d.version_at ∙ h.version_at) in
    let files =
    subst (λ (v : Version). FilesStand a.files.numbers a.metas c.descriptor.family v.files d.middle) version_is
    d.files in
    captured a b k f file h.captured (omega (arith, k.steady.supers_of h.s c p.current.has, of_f a k f h.s c p))
    (omega (arith, h.to_is, join_reach h.version.files 0 d.middle files.joins, join-le a.journal a.memtables c.descriptor.family d.list.members d.middle c.descriptor.base d.members, d.within, ap (λ j. length (of_family j a.journal)) (of_f a k f h.s c p)))
    (λ s x cur.
    subst
    (λ (z : SuperVersion). IsAwaited a.journal a.memtables a.lists a.versions (a.metas ++ file ∷ []) a.files.next z.descriptor)
    (one-current a.tops a.supers f h.s s c x p.current cur) (record {
      file = file;
      covered = in-right file a.metas (file ∷ []) (record { at = 0; is = refl });
      number_is = h.captured.number_is;
      some = omega (
        arith,
        h.from_is,
        h.to_is,
        files-some h.version.files 0 d.middle h.some files.joins (λ i m e. (files.each i m e).some),
        join_reach h.version.files 0 d.middle files.joins,
      );
      list = d.list;
      list_at = d.list_at;
      version = h.version;
      version_at = h.version_at;
      fits = inr (record { last_is = h.kind; from_is = h.from_is; to_is = h.to_is });
    }))
  where
    files-some : (fs : List FileMeta) (from to : ℕ) → 0 < length fs → FilesJoin from fs to
        → ((i : ℕ) (m : FileMeta) → slice_get fs i ≡ Some m → m.from < m.to) → from < to
    files-some [] from to p j each = absurd (omega arith)
    files-some (m ∷ []) from to p j each = omega (arith, each 0 m refl, j.0, j.1)
    files-some (m ∷ (n ∷ fs)) from to p j each = omega (arith, each 0 m refl, j.0, files-some (n ∷ fs) m.to to (omega arith) j.1 (λ i. each (suc i)))
