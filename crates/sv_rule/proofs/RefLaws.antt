-- A SuperVersion of which someone has a reference is Live, and what it names is not Gone.
use Rattle.std.proofs.Common.{List, Some, ap, arith, inl, inr, refl, sym, true, ℕ, ⊎_elim, ◌%◌, ◌/◌, ◌<◌, ◌∙◌, ◌≡◌, ◌≤◌}
use Rattle.sv_model.specs.Supers.{IsPackOf, LiveAt, pack}
use mathlib.Core.Option.{some}
use lib.ListN.{get_elem?}
use Rattle.atomic_table.specs.Table.{State}
use Rattle.sv_model.specs.Books.{Books}
use Rattle.sv_model.specs.Lawful.{Lawful}
use Rattle.sv_model.specs.Lists.{In, times, at}
use Rattle.sv_model.specs.Named.{IsLiveList, IsLiveMemtable, IsLiveVersion, numbers_of}
use Rattle.sv_model.specs.Numbers.{IsRegistered}
use Rattle.sv_model.specs.Registers.{entry}
use Rattle.sv_model.specs.declared.records.Descriptor.{Descriptor}
use Rattle.sv_model.specs.declared.records.FileStatus.TheVariants.{Live}
use Rattle.sv_model.specs.declared.records.Memtable.{Memtable}
use Rattle.sv_model.specs.declared.records.MemtableList.{MemtableList}
use Rattle.sv_model.specs.declared.records.SuperVersion.{SuperVersion}
use Rattle.sv_model.specs.declared.records.Version.{Version}
use Rattle.sv_model.proofs.Registers.{entry_le}
use Rattle.sv_rule.specs.Fits.{BodyFits}
use Rattle.sv_rule.specs.Ledger.{Places}
use Rattle.sv_rule.specs.LockPlays.{HasRef}
use Rattle.sv_rule.specs.SlotPlays.{IsShown}
use Rattle.sv_rule.specs.Table.{holders, holds, names, owers, reference, slot_of}
use Rattle.sv_rule.specs.Views.{Bodied, LaneView, SlotView, away, borrow}
use Rattle.sv_rule.proofs.Basics.{some_is}
use Rattle.sv_rule.proofs.CurrentLaws.{pack_le}
use Rattle.sv_rule.proofs.Places.{held_place}
use Rattle.sv_rule.proofs.Sums.{at_le, same-self, term_le}

-- what a SuperVersion names, directly or through its list or Version, is Live
pub record NamesLive (b : Books) (d : Descriptor) : Type 0 where
  pub active : IsLiveMemtable b.memtables d.active
  pub list : IsLiveList b.lists d.list
  pub version : IsLiveVersion b.versions d.version
  pub members : (m : ℕ) (x : MemtableList) → entry b.lists d.list ≡ Some x → In m x.members
      → IsLiveMemtable b.memtables m
  pub files : (n : ℕ) (x : Version) → entry b.versions d.version ≡ Some x → In n (numbers_of x.files)
      → IsRegistered b.files.numbers n Live

pub names-live : (b : Books) → Lawful b → (n : ℕ) (s : SuperVersion) → entry b.supers n ≡ Some s → s.live ≡ true
    → NamesLive b s.descriptor
names-live b lawful n s at live =
    let list = (lawful.lists s.descriptor.list).1 (n, s, at, record { live = live; is = refl }) in
    let version = (lawful.versions s.descriptor.version).1 (inl (n, s, at, record { live = live; is = refl })) in
    record {
      active = (lawful.memtables s.descriptor.active).1 (inl (n, s, at, record { live = live; is = refl }));
      list = list;
      version = version;
      members = λ m x e has. (lawful.memtables m).1 (inr (
        s.descriptor.list,
        x,
        e,
        record {
          live = ap (λ (l : MemtableList). l.live) (some_is (sym e ∙ list.at))
              ∙ list.live;
          has = has;
        },
      ));
      files = λ k x e has. (lawful.files k).1 (
        s.descriptor.version,
        x,
        e,
        record { live = ap (λ (v : Version). v.live) (some_is (sym e ∙ version.at)) ∙ version.live; has = has },
      );
    }

-- the SuperVersion of a body whose pack is Live is Live
pub body-live : (b : Books) (x : Bodied) (t : BodyFits b x) → LiveAt b.supers (x.pack / 256) (x.pack % 256)
    → t.super.live ≡ true
body-live b x t p =
    let same_serial : t.serial ≡ x.pack / 256 = omega (arith, t.pack_is, t.within) in
    ap (λ (s : SuperVersion). s.live) (some_is (sym t.at ∙ (ap (entry b.supers) same_serial ∙ p.is))) ∙ p.live

pub body-big : (b : Books) (x : Bodied) → BodyFits b x → 256 ≤ x.pack
body-big b x t = omega (arith, t.pack_is, (entry_le b.supers t.serial t.super t.at).0)

-- what a body tells without the books, where its SuperVersion is Live
pub shown-of : (b : Books) → Lawful b → (f : ℕ) (x : Bodied) → BodyFits b x → IsPackOf b.supers f x.pack
    → LiveAt b.supers (x.pack / 256) (x.pack % 256) → IsShown f x
shown-of b lawful f x t of live =
    let serial : t.serial ≡ x.pack / 256 = omega (arith, t.pack_is, t.within) in
    let same : t.super ≡ of.sv = some_is (sym t.at ∙ (ap (entry b.supers) serial ∙ of.is)) in
    let active = (names-live b lawful t.serial t.super t.at (body-live b x t live)).active in
    let memtable : active.it ≡ t.fits.active = some_is (sym active.at ∙ t.fits.active_at) in
    let cells = lawful.cells t.super.descriptor.active active.it active.at active.live in
    let upto = pack_le of in record {
      family = ap (λ (d : Descriptor). d.family) t.descriptor
          ∙ (ap (λ (s : SuperVersion). s.descriptor.family) same ∙ of.family);
      cell = omega (arith, t.cell_is, ap (λ (m : Memtable). m.cell) memtable, cells.0);
      pack = body-big b x t;
      small = omega (arith, upto, lawful.limits.supers);
    }

module _ {S : Type 0} (s : State S LaneView) (supers : List SuperVersion)
    (places : Places supers (reference s) (holders s) (owers s)) where
  -- whoever holds a pack
  pub held-live : (p : ℕ) → 256 ≤ p → 0 < holders s p → LiveAt supers (p / 256) (p % 256)
  held-live p big h =
      let p_is : pack (p / 256) (p % 256) ≡ p = omega arith in
      (held_place supers (reference s) (reference s) (holders s) (holders s) (owers s) (owers s) places (p / 256)
      (p % 256) (omega arith) (omega arith) (omega (arith, ap (holders s) p_is))).1

  names_one : (p : ℕ) (x : SlotView) (n : ℕ) → x ≡ borrow p n → names p x ≡ 1
  names_one p x n e = ap (names p) e ∙ same-self p

  -- a lane with a reference in hand, or a borrow
  pub ref-live : (id : ℕ) (v : LaneView) → get_elem? s.views id ≡ some v → (p : ℕ) → 256 ≤ p → HasRef v p
      → LiveAt supers (p / 256) (p % 256)
  ref-live id v me p big has = held-live p big (⊎_elim
      (λ (h : 1 ≤ times p v.hand). omega (arith, h, term_le (holds p) s.views id v me))
      (λ (h : (f : ℕ) × (floor : ℕ) × (f < 16) × (slot_of v f ≡ borrow p floor)). omega (
        arith,
        at_le (names p) away refl v.slots.slot h.0,
        names_one p (slot_of v h.0) h.1 h.3,
        term_le (holds p) s.views id v me,
      ))
      has)
