-- What the books of a moment, in which a call was refused, say of what the lane was told.
use Rattle.std.proofs.Common.{◌≡◌, ◌<◌, ◌≤◌, ◌+◌, inl, inr, ⊎_elim, ℕ, zero, suc, Bool, true, false, List, [], ◌∷◌, length, Some, refl, sym, ◌∙◌, ap, subst, arith}
use Rattle.sv_model.specs.declared.records.FileMeta.{FileMeta}
use Rattle.sv_model.specs.declared.records.MemtableList.{MemtableList}
use Rattle.sv_model.specs.declared.records.Memtable.{Memtable}
use Rattle.sv_model.specs.declared.records.SuperVersion.{SuperVersion}
use Rattle.sv_model.specs.declared.records.Version.{Version}
use Rattle.sv_model.specs.Books.{Books, files_of}
use Rattle.sv_model.specs.Described.{Describes, IsFileOf, MembersJoin}
use Rattle.sv_model.specs.Families.{IsStanding}
use Rattle.sv_model.specs.Journal.{borne_by, of_family}
use Rattle.sv_model.specs.Lists.{In, bit, total}
use Rattle.sv_model.specs.Moments.{BeginsFrom, ReachesTo, WasFlushed, WasStalled, WereManyLive, WereManyMemtables}
use Rattle.sv_model.specs.Ranges.{reach_from, reach_of}
use Rattle.sv_model.specs.Reads.{IsCapturedFor}
use Rattle.sv_model.specs.Registers.{Has, entry}
use Rattle.sv_model.specs.Steady.{Sound}
use Rattle.sv_laws.specs.Installs.{IsOpen}
use Rattle.sv_model.proofs.Entries.{in-suc, some}
use Rattle.sv_laws.proofs.OpenFamilies.{ends-at, last-files, member, of_f, says}
use Rattle.sv_laws.proofs.StillFits.{join-le, join_reach}
use Rattle.sv_replies.specs.Known.{Known}
use Rattle.sv_replies.specs.Knows.{Knows}
use Rattle.sv_replies.specs.Moments.{NamedAreDropped, WasMerged}

-- ---- counts

total-length : {A : Type 0} (g : A → Bool) (l : List A) → total (λ x. bit (g x)) l ≤ length l
total-length g [] = omega arith
total-length g (x ∷ l) = by (g x) (total-length g l)
  where
    by : (b : Bool) → total (λ y. bit (g y)) l ≤ length l → bit b + total (λ y. bit (g y)) l ≤ suc (length l)
    by true h = omega (arith, h)
    by false h = omega (arith, h)

-- as many as are Live were made
pub many_memtables : (a : Books) → 64 ≤ total (λ m. bit m.live) a.memtables → WereManyMemtables a
many_memtables a h = omega (arith, h, total-length (λ (m : Memtable). m.live) a.memtables)

pub many_live : (a : Books) → 256 ≤ total (λ s. bit s.live) a.supers → WereManyLive a
many_live a h = omega (arith, h, total-length (λ (s : SuperVersion). s.live) a.supers)

not_less : (m n : ℕ) → m ≡ n → m < n → ⊥
not_less m n e lt = absurd (omega (arith, e, lt))

-- ---- families

-- no family stands that has the name
pub none_stands : (a : Books) (k : Known) (name : List ℕ) → Knows a k → (Has (IsStanding name) a.families → ⊥)
    → NamedAreDropped a k name
none_stands a k name knows none id is =
    let x = knows.named name id is in
    (x.0, x.1, by x.0.dropped refl)
  where
    by : (d : Bool) → (knows.named name id is).0.dropped ≡ d → (knows.named name id is).0.dropped ≡ true
    by true e = e
    by false e =
        let x = knows.named name id is in
        absurd (none (suc id, x.0, x.1, record { name_is = x.2; stands = e }))

-- ---- files and memtables

-- the last of files ends where they reach
last_reaches : (files : List FileMeta) (from : ℕ) → 0 < length files
    → (file : FileMeta) × In file files × (file.to ≡ reach_from from files)
last_reaches [] from more = absurd (omega (arith, more))
last_reaches (f ∷ []) from more = (f, record { at = 0; is = refl }, refl)
last_reaches (f ∷ g ∷ files) from more =
    let rest = last_reaches (g ∷ files) f.to (omega arith) in
    (rest.0, in-suc rest.0 f (g ∷ files) rest.1, rest.2)

reaches_none : (files : List FileMeta) → 0 < reach_of files → 0 < length files
reaches_none [] more = absurd (omega (arith, more))
reaches_none (f ∷ files) more = omega arith

module _ (a : Books) (f s : ℕ) (c : SuperVersion) (sound : Sound a) (o : IsOpen a f s c) (k : Known) (knows : Knows a k) where
  abbrev pub named : Describes a.journal a.memtables a.lists a.versions a.files.numbers a.metas c.descriptor
  named = says a sound f s c o

  middle_is : reach_of named.version.files ≡ named.middle
  middle_is = join_reach named.version.files 0 named.middle named.files.joins

  -- the files reach as far as the lane was shown
  pub reached : (k.families f).reached ≤ named.middle
  reached = ⊎_elim
      (λ none. omega (arith, none))
      (λ at.
      let same : reach_of (files_of a.versions at.0.last) ≡ reach_of named.version.files = ap reach_of (last-files a sound f s c o at.0 at.1 named.version named.version_at) in
      omega (arith, at.2, same, middle_is))
      (knows.families f).reached

  flushed : (k.families f).flushed ≤ named.middle
  flushed = omega (arith, (knows.families f).flushed, reached)

  -- the active memtable begins where the members end
  active : Has (BeginsFrom f (k.families f).flushed) a.memtables
  active = (
    c.descriptor.active,
    named.active,
    named.active_at,
    record {
      family_is = named.active_family ∙ of_f a sound f s c o;
      from = omega (arith, flushed, named.base, join-le a.journal a.memtables c.descriptor.family named.list.members named.middle c.descriptor.base named.members);
    },
  )

  abbrev first-of : List ℕ → Type 0
  first-of members =
      (m : ℕ) × In m members × ((it : Memtable) × (entry a.memtables m ≡ Some it) × BeginsFrom f (k.families f).flushed it)

  first : (members : List ℕ) → 0 < length members
      → MembersJoin a.journal a.memtables c.descriptor.family named.middle members c.descriptor.base
      → first-of members
  first [] more joins = absurd (omega (arith, more))
  first (m ∷ members) more joins = (
    m,
    record { at = 0; is = refl },
    (joins.0.it, joins.0.at, record { family_is = joins.0.family_is ∙ of_f a sound f s c o; from = omega (arith, flushed, joins.0.first_is) }),
  )

  -- Stalled: the list has a member.
  pub was-stalled : (list : MemtableList) → entry a.lists c.descriptor.list ≡ Some list → 0 < length list.members
      → WasStalled a f (k.families f).flushed
  unfolding active
  was-stalled list at more =
      let same : named.list ≡ list = some (sym named.list_at ∙ at) in
      let m = first named.list.members (omega (arith, more, ap (λ (z : MemtableList). length z.members) same)) named.members in
      record {
        one = (m.0, m.2.0, m.2.1, m.2.2);
        other = active;
        apart = λ e. not_less m.0 c.descriptor.active e (member a sound f s c o m.0 named.list named.list_at m.1).1;
      }

  is_file : (file : FileMeta) (upto : ℕ) → In file named.version.files → upto ≤ file.to → ReachesTo a f upto file
  is_file file upto has far =
      let it : IsFileOf a.files.numbers a.metas c.descriptor.family file = named.files.each has.at file has.is in
      record {
        captured = subst (λ g. Has (IsCapturedFor g file.number) a.files.numbers) (of_f a sound f s c o) it.captured;
        covers = it.covers;
        reaches = far;
      }

  -- Nothing to flush: the active memtable is empty, and the list has no member.
  pub was-flushed : (list : MemtableList) → entry a.lists c.descriptor.list ≡ Some list → length list.members ≡ 0
      → length (borne_by c.descriptor.active a.journal) ≡ 0 → WasFlushed a f (k.families f).seen
  was-flushed list at none empty =
      let same : named.list ≡ list = some (sym named.list_at ∙ at) in
      let base = no_members named.list.members (omega (arith, none, ap (λ (z : MemtableList). length z.members) same)) named.members in
      let whole : named.middle ≡ length (of_family f a.journal) = omega (arith, base, empty, ends-at a sound f s c o) in
      by (k.families f).seen refl whole
    where
      no_members : (members : List ℕ) → length members ≡ 0
          → MembersJoin a.journal a.memtables c.descriptor.family named.middle members c.descriptor.base
          → named.middle ≡ c.descriptor.base
      no_members [] none joins = joins
      no_members (m ∷ members) none joins = absurd (omega (arith, none))

      by : (n : ℕ) → (k.families f).seen ≡ n → named.middle ≡ length (of_family f a.journal)
          → WasFlushed a f (k.families f).seen
      by zero e whole = inl e
      by (suc n) e whole =
          let last = last_reaches named.version.files 0 (reaches_none named.version.files (omega (arith, middle_is, whole, (knows.families f).seen, e))) in
          inr (last.0, is_file last.0 (k.families f).seen last.1 (omega (arith, last.2, middle_is, whole, (knows.families f).seen)))

  -- Nothing to compact: the Version has no file, or one with nothing below it.
  pub was-merged-none : (version : Version) → entry a.versions c.descriptor.version ≡ Some version
      → version.files ≡ [] → WasMerged a f (k.families f).flushed
  was-merged-none version at none =
      let same : named.version ≡ version = some (sym named.version_at ∙ at) in
      let reach : reach_of named.version.files ≡ 0 = ap (λ (z : Version). reach_of z.files) same ∙ ap reach_of none in
      inl (omega (arith, flushed, middle_is, reach))

  pub was-merged-one : (version : Version) (file : FileMeta) → entry a.versions c.descriptor.version ≡ Some version
      → version.files ≡ file ∷ []
      → file.bottom.last ≡ true → WasMerged a f (k.families f).flushed
  was-merged-one version file at one last =
      let same : named.version ≡ version = some (sym named.version_at ∙ at) in
      let files : named.version.files ≡ file ∷ [] = ap (λ (z : Version). z.files) same ∙ one in
      let reach : reach_of named.version.files ≡ file.to = ap reach_of files in
      inr (
        file,
        record {
          reaches = is_file file (k.families f).flushed (subst (λ (z : List FileMeta). In file z) (sym files) (record { at = 0; is = refl })) (omega (arith, flushed, middle_is, reach));
          last = last;
        },
      )
