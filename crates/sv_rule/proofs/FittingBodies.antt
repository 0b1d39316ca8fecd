-- When a body fits the books, and when its lane may add a reference of it.
use Rattle.std.proofs.Common.{Some, ap, arith, inl, inr, map, refl, slice_get, subst, sym, true, ℕ, ⊎_elim, ◌<◌, ◌∙◌, ◌≡◌}
use Rattle.sv_model.specs.Books.{Books}
use Rattle.sv_model.specs.Lawful.{Lawful}
use Rattle.sv_model.specs.Lists.{Every, In}
use Rattle.sv_model.specs.Registers.{entry}
use Rattle.sv_model.specs.Supers.{current_of, current_serial, pack, pack_at, pack_of_serial}
use Rattle.sv_model.specs.declared.records.Descriptor.{Descriptor}
use Rattle.sv_model.specs.declared.records.Memtable.{Memtable}
use Rattle.sv_model.specs.declared.records.MemtableList.{MemtableList}
use Rattle.sv_model.specs.declared.records.SuperVersion.{SuperVersion}
use Rattle.sv_model.specs.declared.records.Top.{Top}
use Rattle.sv_model.specs.declared.records.Version.{Version}
use Rattle.sv_rule.proofs.Basics.{some_is}
use Rattle.sv_rule.proofs.CurrentLaws.{get_lt, some-at}
use Rattle.sv_rule.proofs.Sums.{at_le, same-self}
use Rattle.sv_rule.specs.Fits.{BodyFits, Fits, IsFrozenAt}
use Rattle.sv_rule.specs.LockPlays.{HasRef}
use Rattle.sv_rule.specs.ReferencePlays.{CanAdd}
use Rattle.sv_rule.specs.Table.{holds, names}
use Rattle.sv_rule.specs.Views.{Bodied, Body, Desk, LaneView, away, borrow, idle}

-- ---- a SuperVersion that is Live

-- the body has what the registers give the descriptor
pub record IsBodyIn (b : Books) (d : Descriptor) (body : Body) : Type 0 where
  pub descriptor_is : body.descriptor ≡ d
  pub active : Memtable
  pub active_at : entry b.memtables d.active ≡ Some active
  pub cell_is : body.cell ≡ active.cell
  pub list : MemtableList
  pub list_at : entry b.lists d.list ≡ Some list
  pub members : list.members ≡ map (λ k. k.frozen.id) body.frozen
  pub frozen : Every (IsFrozenAt b) body.frozen
  pub version : Version
  pub version_at : entry b.versions d.version ≡ Some version
  pub files_are : body.files ≡ version.files

module _ (b : Books) (lawful : Lawful b) (serial : ℕ) (super : SuperVersion) (at : entry b.supers serial ≡ Some super)
    (x : Bodied) (is : x.pack ≡ pack serial super.place) (has : IsBodyIn b super.descriptor x.body) where
  pub live-fits : super.live ≡ true → BodyFits b x
  live-fits live =
      let d = lawful.descriptors serial super at live in
      let place = lawful.places serial super at live in
      record {
        serial = serial;
        super = super;
        at = at;
        pack_is = is;
        within = place.0;
        descriptor = has.descriptor_is;
        fits = d;
        cell_is = has.cell_is ∙ ap (λ (m : Memtable). m.cell) (some_is (sym has.active_at ∙ d.active_at));
        members = ap (λ (l : MemtableList). l.members) (some_is (sym d.list_at ∙ has.list_at)) ∙ has.members;
        frozen = has.frozen;
        files = has.files_are ∙ ap (λ (v : Version). v.files) (some_is (sym has.version_at ∙ d.version_at));
      }

  -- ---- the current of a family

  module _ (f : ℕ) (top : Top) (on : slice_get b.tops f ≡ Some top) (current : top.current ≡ Some serial) where
    pub current-near : f < 16
    current-near = omega (arith, get_lt b.tops f top on, lawful.paired, lawful.limits.families)

    pub current-pack : x.pack ≡ current_of b f
    current-pack = is ∙ sym (ap (λ t. pack_of_serial b.supers (current_serial t)) on
        ∙ (ap (pack_of_serial b.supers) current ∙ ap (pack_at serial) at))

    pub current-fits : BodyFits b x
    current-fits =
        let family = some-at b.families f (omega (arith, get_lt b.tops f top on, lawful.paired)) in
        let k = lawful.tops f serial family.0 top family.1 on current in
        live-fits (ap (λ (s : SuperVersion). s.live) (some_is (sym at ∙ k.at)) ∙ k.live)

    -- under the DB lock, with no work, a reference of it may be added
    pub adds-current : (v : LaneView) (d : Desk) → v.locks.db ≡ Some d → d.work ≡ idle → d.books ≡ b → CanAdd x v
    adds-current v d lock rest books = inr (
      d,
      f,
      lock,
      rest,
      current-near,
      current-pack ∙ sym (ap (λ (z : Books). current_of z f) books),
      subst (λ (z : Books). BodyFits z x) (sym books) current-fits,
    )

-- ---- a SuperVersion of which the lane has a reference

names_self : (p floor : ℕ) → names p (borrow p floor) ≡ 1
names_self p floor = same-self p

pub ref-holds : (v : LaneView) (p : ℕ) → HasRef v p → 0 < holds p v
ref-holds v p h = ⊎_elim
    (λ z. omega (arith, z))
    (λ z. omega (arith, at_le (names p) away refl v.slots.slot z.0, ap (names p) z.3, names_self p z.1))
    h

-- it may add one more, without any lock
pub adds-own : (v : LaneView) (x : Bodied) → HasRef v x.pack → In x v.known.bodies → CanAdd x v
adds-own v x h known = inl (ref-holds v x.pack h, known)

-- what it knows fits the books that fit
pub known-fits : (b : Books) (v : LaneView) → Fits b v.known → (x : Bodied) → In x v.known.bodies → BodyFits b x
known-fits b v fits x known = fits.bodies known.at x known.is
