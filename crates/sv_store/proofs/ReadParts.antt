-- What the memtables of a family's current SuperVersion have: the writes that stand in none of its files.
use Rattle.std.proofs.Common.{◌≡◌, ◌≤◌, ◌<◌, ◌+◌, ◌-◌, ℕ, Bool, nat_le, true, false, inl, inr, List, [], ◌∷◌, length, take, Option, Some, None, refl, sym, ap, ◌∙◌, subst, arith}
use Rattle.std.specs.Prelude.{◌==◌, cond, slice_get}
use Rattle.std.specs.Option.{option_or}
use Rattle.std.proofs.lemmas.Bool.{cases_Bool, leb-true, leb-false}
use Rattle.sv_model.specs.declared.records.Descriptor.{Descriptor}
use Rattle.sv_model.specs.declared.records.Family.{Family}
use Rattle.sv_model.specs.declared.records.Memtable.{Memtable}
use Rattle.sv_model.specs.declared.records.MemtableList.{MemtableList}
use Rattle.sv_model.specs.declared.records.SuperVersion.{SuperVersion}
use Rattle.sv_model.specs.declared.records.Version.{Version}
use Rattle.sv_model.specs.declared.writes.Op.{Op}
use Rattle.sv_model.specs.declared.writes.Row.{Row}
use Rattle.sv_model.specs.declared.writes.Write.{Write}
use Rattle.sv_model.specs.Books.{Books, end_of}
use Rattle.sv_model.specs.Cells.{Cell}
use Rattle.sv_model.specs.Described.{Describes, FilesStand, IsTop}
use Rattle.sv_model.specs.Flat.{range_of}
use Rattle.sv_model.specs.Journal.{borne_by, newest_op, of_family, rows_of}
use Rattle.sv_model.specs.Lawful.{Lawful}
use Rattle.sv_model.specs.Ranges.{reach_of}
use Rattle.sv_model.specs.Registers.{entry}
use Rattle.sv_model.specs.Steady.{IsCurrent}
use Rattle.sv_model.proofs.Entries.{some}
use Rattle.sv_laws.proofs.OpenFamilies.{current-top}
use Rattle.sv_laws.proofs.StillFits.{join_reach}
use Rattle.sv_objects.specs.declared.bodies.Body.{Body}
use Rattle.sv_objects.specs.Makings.{IsCellOf}
use Rattle.sv_objects.specs.Shown.{shown}
use Rattle.sv_reads.specs.Bodies.{HaveRows}
use Rattle.sv_reads.specs.Parts.{FindsAfter, FindsBefore, rows_in}
use Rattle.sv_reads.proofs.BodyParts.{borne_range, frozen_range, parts_unread, range_past}
use Rattle.sv_reads.proofs.PartLooks.{finds_after}
use Rattle.sv_state.specs.Currents.{HasCurrentAt}
use Rattle.sv_state.specs.Refs.{AreFrozenAt, IsBodyOf, IsRefOf}
use Rattle.sv_store.specs.Reading.{IsThrough, newest_unfiled}
use Rattle.sv_store.specs.Standing.{Stands}
use Rattle.sv_store.proofs.ActiveCells.{rows-length}
use Rattle.sv_store.proofs.CellLaws.{cell_now, in-cell}

-- each frozen memtable has the rows of the member at its place
have-rows : (J : List Write) (M : List Memtable) (ms : List ℕ) (xs : List (ℕ × Cell)) → AreFrozenAt J M ms xs → HaveRows J ms xs
have-rows J M [] [] h = tt
have-rows J M [] (x ∷ xs) h = absurd h
have-rows J M (m ∷ ms) [] h = absurd h
have-rows J M (m ∷ ms) (x ∷ xs) h = (ap (λ (z : Cell). z.rows) h.0.rows, have-rows J M ms xs h.1)

module _ (b : Books) (law : Lawful b) (f s : ℕ) (x : SuperVersion) (current : IsCurrent b.tops b.supers f s x) where
  top : (y : Family) × (slice_get b.families f ≡ Some y) × IsTop b.journal b.supers f y current.top.last s
  top = current-top b law f s current.top current.at current.is

  it_is : top.2.it ≡ x
  it_is = some (sym top.2.at ∙ current.has)

  pub current-live : x.live ≡ true
  current-live = subst (λ (z : SuperVersion). z.live ≡ true) it_is top.2.live

  pub current-of : x.descriptor.family ≡ f
  current-of = ap (λ (z : SuperVersion). z.descriptor.family) (sym it_is) ∙ top.2.family_is

  pub current-last : x.descriptor.version ≡ current.top.last
  current-last = ap (λ (z : SuperVersion). z.descriptor.version) (sym it_is) ∙ top.2.last_is

  pub current-ends : x.descriptor.base + length (borne_by x.descriptor.active b.journal) ≡ length (of_family f b.journal)
  current-ends = ap (end_of b.journal) (sym it_is) ∙ top.2.ends

  pub describes : Describes b.journal b.memtables b.lists b.versions b.files.numbers b.metas x.descriptor
  describes = law.descriptors s x current.has current-live

  -- the files of its Version are the family's
  pub current-files : (version : Version) → entry b.versions x.descriptor.version ≡ Some version
      → FilesStand b.files.numbers b.metas f version.files describes.middle
  current-files version at =
      let same = some (sym describes.version_at ∙ at) in
      subst (λ (z : Version × ℕ). FilesStand b.files.numbers b.metas z.1 z.0.files describes.middle) (λ i. (same i, current-of i)) describes.files

  pub current-reach : (version : Version) → entry b.versions x.descriptor.version ≡ Some version → reach_of version.files ≡ describes.middle
  current-reach version at = join_reach version.files 0 describes.middle (current-files version at).joins

-- the active memtable is in its cell
pub active-cell : (b : Books) (cells : List (Option Cell)) → Stands b cells None → (f s : ℕ) (x : SuperVersion) → IsCurrent b.tops b.supers f s x
    → (cell : ℕ) → IsCellOf b.memtables x.descriptor.active cell → slice_get cells cell ≡ Some (Some (cell_now b.journal x.descriptor.active))
active-cell b cells h f s x current cell is =
    let law = h.sound.lawful in
    let l = (law.memtables x.descriptor.active).1 (inl (s, x, current.has, record { live = current-live b law f s x current; is = refl })) in
    let live : is.it.live ≡ true = ap (λ (z : Memtable). z.live) (some (sym is.at ∙ l.at)) ∙ l.live in
    subst (λ n. slice_get cells n ≡ Some (Some (cell_now b.journal x.descriptor.active))) is.is
    (in-cell b law cells h.cells_hold x.descriptor.active is.it is.at live)

-- ---- what is found in the memtables

module _ (b : Books) (law : Lawful b) (f s : ℕ) (x : SuperVersion) (current : IsCurrent b.tops b.supers f s x)
    (version : Version) (at : entry b.versions x.descriptor.version ≡ Some version) (body : Body) (is : IsBodyOf b x.descriptor body) where
  abbrev d : Describes b.journal b.memtables b.lists b.versions b.files.numbers b.metas x.descriptor
  d = describes b law f s x current

  abbrev base : ℕ
  base = x.descriptor.base

  abbrev active_rows : List Row
  active_rows = rows_of (borne_by x.descriptor.active b.journal)

  abbrev frozen : List (ℕ × Cell)
  frozen = shown body.frozen

  active-range : range_of b.journal f base (length (of_family f b.journal)) ≡ active_rows
  active-range =
      let count = length (borne_by x.descriptor.active b.journal) in
      let family : f ≡ d.active.family = sym (d.active_family ∙ current-of b law f s x current) in
      let end : length (of_family f b.journal) ≡ d.active.first + count = sym (current-ends b law f s x current) ∙ ap (λ (n : ℕ). n + count) d.base in
      (λ i. range_of b.journal (family i) (d.base i) (end i))
      ∙ borne_range b.journal x.descriptor.active d.active (law.rows x.descriptor.active d.active d.active_at)

  frozen-parts : (range_of b.journal f d.middle base ≡ rows_in frozen) × (d.middle + length (rows_in frozen) ≡ base)
  frozen-parts =
      let list : is.list ≡ d.list = some (sym is.list_at ∙ d.list_at) in
      let rows = subst (λ (l : MemtableList). HaveRows b.journal l.members frozen) list (have-rows b.journal b.memtables is.list.members frozen is.frozen) in
      subst (λ g. (range_of b.journal g d.middle base ≡ rows_in frozen) × (d.middle + length (rows_in frozen) ≡ base)) (current-of b law f s x current)
      (frozen_range b.journal b.memtables x.descriptor.family d.middle d.list.members frozen base law.rows d.members rows)

  module _ (key : List ℕ) (cut : ℕ) (within : cut ≤ length (of_family f b.journal)) (newest newer : Option Op)
      (active : FindsAfter base active_rows key cut newest) (older : FindsBefore base frozen key cut newer) where
    low : cut ≤ d.middle → newest_op key (range_of b.journal f d.middle cut) ≡ option_or newest newer
    low le =
        let before = older (omega (arith, frozen-parts.1)) in
        let none : cut - base ≡ 0 = omega (arith, le, frozen-parts.1) in
        let none_before : cut - (base - length (rows_in frozen)) ≡ 0 = omega (arith, le, frozen-parts.1) in
        let here : newest ≡ None = active.newest ∙ ap (λ (n : ℕ). newest_op key (take n active_rows)) none ∙ no-rows active_rows in
        let there : newer ≡ None = before.newest ∙ ap (λ (n : ℕ). newest_op key (take n (rows_in frozen))) none_before ∙ no-rows (rows_in frozen) in
        ap (newest_op key) (range_past b.journal f d.middle cut le) ∙ (λ i. option_or (sym here i) (sym there i))
      where
        no-rows : (l : List Row) → newest_op key (take 0 l) ≡ None
        no-rows [] = refl
        no-rows (r ∷ l) = refl

    -- the newest of the writes that stand in no file
    pub unfiled : newest_unfiled b f version key cut ≡ option_or newest newer
    unfiled =
        ap (λ (n : ℕ). newest_op key (range_of b.journal f n cut)) (current-reach b law f s x current version at)
        ∙ elim (cases_Bool (nat_le cut d.middle)) [
          | inl some ↦ low (leb-true cut d.middle some)
          | inr other ↦
              let above = leb-false cut d.middle other in
              parts_unread b.journal f d.middle base (length (of_family f b.journal)) key cut active_rows frozen newest newer (omega (arith, above)) within
              (omega (arith, current-ends b law f s x current)) active-range active frozen-parts.0 frozen-parts.1 older
        ]

  -- the active memtable's row is it, whatever the frozen ones have
  pub unfiled-active : (key : List ℕ) (cut : ℕ) → cut ≤ length (of_family f b.journal) → (op : Op) → FindsAfter base active_rows key cut (Some op)
      → newest_unfiled b f version key cut ≡ Some op
  unfiled-active key cut within op active =
      let from = base - length (rows_in frozen) in
      unfiled key cut within (Some op) (newest_op key (take (cut - from) (rows_in frozen))) active
      (λ few. finds_after from (rows_in frozen) key cut (newest_op key (take (cut - from) (rows_in frozen))) refl)

-- ---- a family that has a current is read through it

pub now-through : (b : Books) → Lawful b → (f : ℕ) → (at : HasCurrentAt b f) → (version : Version) × IsThrough b f at.serial version
now-through b law f at =
    let t = current-top b law f at.serial at.top at.at at.is in
    let current : IsCurrent b.tops b.supers f at.serial t.2.it = record { top = at.top; at = at.at; is = at.is; has = t.2.at } in
    let d = describes b law f at.serial t.2.it current in
    (d.version, record { super = t.2.it; current = current; version_at = d.version_at })

abbrev pub at-through : (b : Books) (f serial : ℕ) (version : Version) → IsThrough b f serial version → HasCurrentAt b f
at-through b f serial version t = record { top = t.current.top; at = t.current.at; serial = serial; is = t.current.is }

-- the body of the reference is that of the SuperVersion
pub body-through : (b : Books) (f serial : ℕ) (version : Version) (t : IsThrough b f serial version) (pack : ℕ) (body : Body)
    → IsRefOf b serial pack body → IsBodyOf b t.super.descriptor body
body-through b f serial version t pack body r =
    let same : r.it ≡ t.super = some (sym r.at ∙ t.current.has) in
    subst (λ (z : SuperVersion). IsBodyOf b z.descriptor body) same r.body_is

filtered-le : {A : Type 0} (keep : Bool) (x : A) (f l : List A) → length f ≤ length l → length (cond keep (x ∷ f) f) ≤ length (x ∷ l)
filtered-le true x f l h = omega (arith, h)
filtered-le false x f l h = omega (arith, h)

family-le : (f : ℕ) (journal : List Write) → length (of_family f journal) ≤ length journal
family-le f [] = omega arith
family-le f (w ∷ ws) = filtered-le (w.family == f) w (of_family f ws) ws (family-le f ws)

pub few-writes-of : (b : Books) → Lawful b → (f : ℕ) → length (of_family f b.journal) ≤ 262144
few-writes-of b law f = omega (arith, family-le f b.journal, law.limits.writes)

-- ---- the reference of its current

module _ (b : Books) (cells : List (Option Cell)) (h : Stands b cells None) (f : ℕ) (at : HasCurrentAt b f) (pack : ℕ) (body : Body)
    (r : IsRefOf b at.serial pack body) where
  held : IsCurrent b.tops b.supers f at.serial r.it
  held = record { top = at.top; at = at.at; is = at.is; has = r.at }

  pub held-place : r.it.place < 256
  held-place = (h.sound.lawful.places at.serial r.it r.at (current-live b h.sound.lawful f at.serial r.it held)).0

  pub held-cell : slice_get cells body.cell ≡ Some (Some (cell_now b.journal r.it.descriptor.active))
  held-cell = active-cell b cells h f at.serial r.it held body.cell r.body_is.cell

  pub held-ends : body.descriptor.base + length (rows_of (borne_by r.it.descriptor.active b.journal)) ≡ length (of_family f b.journal)
  held-ends =
      ap (λ (d : Descriptor). d.base + length (rows_of (borne_by r.it.descriptor.active b.journal))) r.body_is.descriptor_is
      ∙ ap (λ (n : ℕ). r.it.descriptor.base + n) (rows-length (borne_by r.it.descriptor.active b.journal))
      ∙ current-ends b h.sound.lawful f at.serial r.it held
