-- What sound books say of an open family and its current.
use Rattle.sv_model.specs.Snapshots.{IsLastFile}
use Rattle.std.proofs.Common.{◌≡◌, ◌≢◌, ◌<◌, ◌≤◌, ℕ, ◌+◌, ◌⊎◌, inl, inr, ⊎_elim, true, false, List, [], ◌∷◌, ◌++◌, length, Some, refl, sym, ap, ◌∙◌, subst, arith, set, length-set}
use Rattle.std.specs.Prelude.{slice_get}
use Rattle.sv_model.specs.declared.records.SuperVersion.{SuperVersion}
use Rattle.sv_model.specs.declared.records.Memtable.{Memtable}
use Rattle.sv_model.specs.declared.records.MemtableList.{MemtableList}
use Rattle.sv_model.specs.declared.records.Version.{Version}
use Rattle.sv_model.specs.declared.records.FileMeta.{FileMeta}
use Rattle.sv_model.specs.declared.records.Family.{Family}
use Rattle.sv_model.specs.declared.records.Top.{Top}
use Rattle.sv_model.specs.Journal.{borne_by, of_family}
use Rattle.sv_model.specs.Lists.{In}
use Rattle.sv_model.specs.Named.{numbers_of, IsLive, memtable_live, list_live, version_live}
use Rattle.sv_model.specs.Ranges.{reach_of}
use Rattle.sv_model.specs.Registers.{entry}
use Rattle.sv_model.specs.Books.{Books, files_of}
use Rattle.sv_model.specs.Described.{Describes, IsTop}
use Rattle.sv_model.specs.Families.{InRange}
use Rattle.sv_model.specs.Lawful.{Lawful}
use Rattle.sv_model.specs.Steady.{Sound, IsCurrent}
use Rattle.sv_laws.specs.Installs.{IsOpen, next_top}
use Rattle.sv_model.proofs.Entries.{some, in-cons, in-suc}
use Rattle.sv_model.proofs.Registers.{get-some}
use Rattle.sv_laws.proofs.StillFits.{files-at, join_in}
use Rattle.sv_laws.proofs.BorneRows.{unborne, mem-within}
use Rattle.sv_laws.proofs.GrownRegisters.{get_within}

-- a current is that of a family, and as lawful books have it
pub current-top : (a : Books) → Lawful a → (g s : ℕ) (t : Top) → slice_get a.tops g ≡ Some t → t.current ≡ Some s
    → (y : Family) × (slice_get a.families g ≡ Some y) × IsTop a.journal a.supers g y t.last s
current-top a law g s t e c =
    let y = get-some a.families g (omega (arith, get_within a.tops g t e, law.paired)) in
    (y.0, y.1, law.tops g s y.0 t y.1 e c)

-- a family has one current
pub one-current : (tops : List Top) (supers : List SuperVersion) (f s r : ℕ) (x y : SuperVersion)
    → IsCurrent tops supers f s x → IsCurrent tops supers f r y → x ≡ y
one-current tops supers f s r x y p q =
    let t = some (sym p.at ∙ q.at) in
    let n = some (sym p.is ∙ ap (λ (z : Top). z.current) t ∙ q.is) in
    some (sym p.has ∙ ap (entry supers) n ∙ q.has)

pub numbers_push : (xs : List FileMeta) (f : FileMeta) (n : ℕ) → In n (numbers_of (xs ++ f ∷ []))
    → In n (numbers_of xs) ⊎ (n ≡ f.number)
numbers_push [] f n i = ⊎_elim (λ q. inr q) (λ j. inl j) (in-cons n f.number [] i)
numbers_push (x ∷ xs) f n i = ⊎_elim
    (λ q. inl (record { at = 0; is = ap Some (sym q) }))
    (λ j. ⊎_elim (λ o. inl (in-suc n x.number (numbers_of xs) o)) (λ o. inr o) (numbers_push xs f n j))
    (in-cons n x.number (numbers_of (xs ++ f ∷ [])) i)

pub numbers-push : (xs : List FileMeta) (f : FileMeta) → In f.number (numbers_of (xs ++ f ∷ []))
numbers-push [] f = record { at = 0; is = refl }
numbers-push (x ∷ xs) f = in-suc f.number x.number (numbers_of (xs ++ f ∷ [])) (numbers-push xs f)

module _ (a : Books) (k : Sound a) (f s : ℕ) (c : SuperVersion) (o : IsOpen a f s c) where
  pub top-is : IsTop a.journal a.supers f o.family o.current.top.last s
  top-is = k.lawful.tops f s o.family o.current.top o.family_at o.current.at o.current.is

  c_is : top-is.it ≡ c
  c_is = some (sym top-is.at ∙ o.current.has)

  pub c_live : c.live ≡ true
  c_live = ap (λ (w : SuperVersion). w.live) (sym c_is) ∙ top-is.live

  pub of_f : c.descriptor.family ≡ f
  of_f = ap (λ (w : SuperVersion). w.descriptor.family) (sym c_is) ∙ top-is.family_is

  pub last_is : c.descriptor.version ≡ o.current.top.last
  last_is = ap (λ (w : SuperVersion). w.descriptor.version) (sym c_is) ∙ top-is.last_is

  pub options_are : o.family.options ≡ c.descriptor.options
  options_are = sym (ap (λ (w : SuperVersion). w.descriptor.options) (sym c_is) ∙ top-is.options_are)

  pub ends-at : c.descriptor.base + length (borne_by c.descriptor.active a.journal) ≡ length (of_family f a.journal)
  ends-at =
      ap (λ (w : SuperVersion). w.descriptor.base + length (borne_by w.descriptor.active a.journal)) (sym c_is)
      ∙ top-is.ends

  pub says : Describes a.journal a.memtables a.lists a.versions a.files.numbers a.metas c.descriptor
  says = k.lawful.descriptors s c o.current.has c_live

  pub active-lives : IsLive memtable_live a.memtables c.descriptor.active
  active-lives =
      (k.lawful.memtables c.descriptor.active).1 (inl (s, c, o.current.has, record { live = c_live; is = refl }))

  pub list-lives : IsLive list_live a.lists c.descriptor.list
  list-lives = (k.lawful.lists c.descriptor.list).1 (s, c, o.current.has, record { live = c_live; is = refl })

  pub version-lives : IsLive version_live a.versions c.descriptor.version
  version-lives =
      (k.lawful.versions c.descriptor.version).1 (inl (s, c, o.current.has, record { live = c_live; is = refl }))

  -- a member of its list is Live, and was made before the active memtable
  pub member : (m : ℕ) (z : MemtableList) → entry a.lists c.descriptor.list ≡ Some z → In m z.members
      → IsLive memtable_live a.memtables m × (m < c.descriptor.active)
  member m z e i =
      let lives = list-lives in
      let h = k.steady.listed c.descriptor.list m z e i in
      let w =
      join_in a.journal a.memtables c.descriptor.family says.list.members says.middle c.descriptor.base m says.members
      (subst (λ (u : MemtableList). In m u.members) (some (sym e ∙ says.list_at)) i) in
      let of = ap (λ (u : Memtable). u.family) (some (sym h.at ∙ w.1)) ∙ w.2 ∙ of_f in (
        (k.lawful.memtables m).1 (inr (
          c.descriptor.list,
          z,
          e,
          record {
            live = ap (λ (u : MemtableList). u.live) (some (sym e ∙ lives.at)) ∙ lives.live;
            has = i;
          },
        )),
        h.before s c (subst (λ g. IsCurrent a.tops a.supers g s c) (sym of) o.current),
      )

  pub was : (y : Family) → slice_get a.families f ≡ Some y → (o.family.name ≡ y.name) × (y.dropped ≡ false)
  was y e =
      let q : o.family ≡ y = some (sym o.family_at ∙ e) in
      (ap (λ (u : Family). u.name) q, ap (λ (u : Family). u.dropped) (sym q) ∙ o.stands)

  pub had : (t : Top) → slice_get a.tops f ≡ Some t → (i : ℕ) × (t.current ≡ Some i)
  had t e = (s, ap (λ (u : Top). u.current) (some (sym e ∙ o.current.at)) ∙ o.current.is)

  pub in-range : InRange o.family.options
  in-range = k.lawful.limits.options f o.family o.family_at

  pub has-handles : length o.family.handles ≡ 32
  has-handles = k.steady.handles f o.family o.family_at

  pub name-free : (g : ℕ) (y : Family) → g ≢ f → slice_get a.families g ≡ Some y → y.dropped ≡ false
      → o.family.name ≡ y.name → ⊥
  name-free g y apart e st n = apart (k.lawful.distinct g f y o.family e o.family_at st o.stands (sym n))

  -- the last Version's files are those of the Version that the current names
  pub last-files : (t : Top) → slice_get a.tops f ≡ Some t → (v : Version)
      → entry a.versions c.descriptor.version ≡ Some v → files_of a.versions t.last ≡ v.files
  last-files t e v h =
      ap (λ (u : Top). files_of a.versions u.last) (some (sym e ∙ o.current.at))
      ∙ ap (files_of a.versions) (sym last_is) ∙ files-at a.versions c.descriptor.version v h

  pub last-same : (t : Top) → slice_get a.tops f ≡ Some t
      → reach_of (files_of a.versions t.last) ≤ reach_of (files_of a.versions c.descriptor.version)
  last-same t e =
      omega (
        arith,
        ap (λ (u : Top). reach_of (files_of a.versions u.last)) (some (sym e ∙ o.current.at)),
        ap (λ v. reach_of (files_of a.versions v)) last_is,
      )

  pub paired-set : (t : Top) → length (set a.tops f t) ≡ length a.families
  paired-set t = length-set a.tops f t ∙ k.lawful.paired

  pub fresh-mem : borne_by (length a.memtables + 1) a.journal ≡ []
  fresh-mem =
      unborne a.journal (length a.memtables + 1)
      (λ i w e. omega (arith, mem-within (length a.memtables) (length a.families) w (k.steady.borne i w e)))

  -- where the current's Version stays the last one, its files are still those of the last one
  pub last-still : (T : List Top) → slice_get T f ≡ Some (next_top a c.descriptor.version) → (file : FileMeta)
      → IsLastFile a.versions T f file → IsLastFile a.versions a.tops f file
  last-still T e file w =
      let last : w.top.last ≡ c.descriptor.version = ap (λ (u : Top). u.last) (some (sym w.top_at ∙ e)) in
      record {
        top = o.current.top;
        top_at = o.current.at;
        version = w.version;
        version_at = ap (entry a.versions) (sym last_is ∙ sym last) ∙ w.version_at;
        has = w.has;
      }
