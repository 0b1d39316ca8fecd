-- What the plans of a write and of a flush allow.
use Rattle.std.proofs.Common.{◌≡◌, ◌<◌, ◌+◌, ◌∷◌, ⊎_elim, ℕ, Bool, true, false, List, [], length, Option, Some, None, Ok, Err, refl, sym, ap, ◌∙◌, subst, arith, length-append}
use Rattle.std.specs.Prelude.{cond, nat_le, nat_lt, slice_get}
use Rattle.sv_model.specs.declared.refusals.Refusal.{Refusal}
use Rattle.sv_model.specs.declared.refusals.Refusal.TheVariants as refusal
use Rattle.sv_model.specs.declared.settings.Options.{Options}
use Rattle.sv_model.specs.declared.writes.Write.{Write}
use Rattle.sv_model.specs.Books.{Books}
use Rattle.sv_model.specs.Families.{InRange}
use Rattle.sv_model.specs.Journal.{borne_by, of_family}
use Rattle.sv_model.specs.Registers.{entry}
use Rattle.sv_model.specs.Steady.{Sound}
use Rattle.sv_model.proofs.RefusalLaws.{none_due}
use Rattle.sv_model.proofs.Registers.{entry-new, get-some}
use Rattle.sv_journal.specs.Calls.{journal_refusal}
use Rattle.sv_laws.specs.Installs.{IsOpen, live_super, next_top}
use Rattle.sv_laws.specs.NewCurrents.{IsSwitched}
use Rattle.sv_laws.proofs.GrownRegisters.{get_within, placed-set}
use Rattle.sv_laws.proofs.OpenFamilies.{fresh-mem, in-range}
use Rattle.sv_state.specs.declared.planning.FlushPlan.{FlushPlan}
use Rattle.sv_state.specs.declared.planning.Plan.{Plan}
use Rattle.sv_state.specs.declared.planning.Plan.TheVariants.{Add, Switch}
use Rattle.sv_state.specs.Capturing.{CanBegin}
use Rattle.sv_state.specs.Planning.{IsCellIf, IsFlushPlan, IsPlanOf, MeantAt, Planned, active_rows, busy_refusal, flush_refusal, is_switch_due, nothing_refusal, write_refusal}
use Rattle.sv_state.specs.Seen.{StateSeen}
use Rattle.sv_state.specs.Writing.{CanWrite}
use Rattle.sv_state_bench.specs.Freezing.{HasRow}

-- ---- a plan that was made

-- the family meant, that nothing is due, and what the plan is
pub record Clear {T : Type 0} (b : Books) (lane : ℕ) (name : List ℕ) (fault : MeantAt b lane name → Option Refusal) (is_plan : MeantAt b lane name → T → Type 0) (plan : T) : Type 0 where
  pub meant : MeantAt b lane name
  pub none : fault meant ≡ None
  pub is : is_plan meant plan

pub clear : {T : Type 0} (b : Books) (lane : ℕ) (name : List ℕ) (fault : MeantAt b lane name → Option Refusal) (is_plan : MeantAt b lane name → T → Type 0) (plan : T)
    → Planned b lane name fault is_plan (Ok plan) → Clear b lane name fault is_plan plan
clear {T} b lane name fault is_plan plan p = ⊎_elim
    (λ h. let z : Ok plan ≡ Err h.0 = h.2 in absurd (cc))
    (λ h. record { meant = h.0; none = h.1; is = h.2 })
    p

few-writes : (J : List Write) → journal_refusal J ≡ None → length J < 262144
few-writes J h = by (nat_le 262144 (length J)) refl h
  where
    by : (b : Bool) → nat_le 262144 (length J) ≡ b → journal_refusal J ≡ None → length J < 262144
    by true q h = let z : journal_refusal J ≡ Some refusal.JournalFull = ap (λ c. cond c (Some refusal.JournalFull) None) q in absurd (cc)
    by false q h = grind arith

not-due : (rows : ℕ) (o : Options) → is_switch_due rows o ≡ false → InRange o → rows < 65536
not-due rows o h r = let m = r.rows_most in grind arith

is-due : (rows : ℕ) (o : Options) → is_switch_due rows o ≡ true → InRange o → 0 < rows
is-due rows o h r = let m = r.rows_least in grind arith

module _ (b : Books) (k : Sound b) (lane : ℕ) (name : List ℕ) (plan : Plan) (p : Clear b lane name (write_refusal b) (IsPlanOf b) plan) where
  pub few-of : length b.journal < 262144
  few-of = few-writes b.journal (none_due (journal_refusal b.journal) _ p.none).0

pub may-append : (s : StateSeen) (b : Books) → s.books ≡ b → Sound b → (lane : ℕ) (name : List ℕ) (f c : ℕ) → Clear b lane name (write_refusal b) (IsPlanOf b) (Add f c)
    → lane < 32 → 0 < s.spare → CanWrite s lane f
may-append s b q k lane name f c p low room =
    let m = p.meant in
    subst (λ (z : ℕ × Books). CanWrite (record { books = z.1; spare = s.spare }) lane z.0) (λ i. (sym p.is.0 i, sym q i))
    (record {
      lane_is = low;
      room = room;
      few = few-of b k lane name (Add f c) p;
      serial = m.serial;
      it = m.it;
      is_open = record { current = m.is_open.current; family = m.is_open.family; family_at = m.is_open.family_at; stands = m.is_open.stands };
      few_rows = not-due (active_rows b m) m.is_open.family.options p.is.2 (in-range b k m.family m.serial m.it m.is_open);
    })

pub may-switch : (b : Books) → Sound b → (lane : ℕ) (name : List ℕ) (f c : ℕ) → Clear b lane name (write_refusal b) (IsPlanOf b) (Switch f c) → HasRow b f
may-switch b k lane name f c p =
    let m = p.meant in
    subst (HasRow b) (sym p.is.0) (record {
      serial = m.serial;
      it = m.it;
      is_open = m.is_open;
      row = is-due (active_rows b m) m.is_open.family.options p.is.2 (in-range b k m.family m.serial m.it m.is_open);
    })

-- ---- after a switch

module _ (a b : Books) (k : Sound a) (f : ℕ) (w : IsSwitched a b f) where
  pub now-open : IsOpen b f (length a.supers + 1)
      (live_super (record w.c.descriptor { active = length a.memtables + 1; list = length a.lists + 1; base = length (of_family f a.journal) }) w.place)
  now-open = record {
    current = record {
      top = next_top a w.c.descriptor.version;
      at = ap (λ (z : Books). slice_get z.tops f) w.is ∙ (placed-set a.tops f w.is_open.current.top (next_top a w.c.descriptor.version) w.is_open.current.at).here;
      is = refl;
      has = ap (λ (z : Books). entry z.supers (length a.supers + 1)) w.is ∙ entry-new a.supers _ (length a.supers + 1) refl;
    };
    family = w.is_open.family;
    family_at = ap (λ (z : Books). slice_get z.families f) w.is ∙ w.is_open.family_at;
    stands = w.is_open.stands;
  }

  pub may-write-next : (s t : StateSeen) → s.books ≡ a → t.books ≡ b → (lane : ℕ) → lane < 32 → t.spare ≡ s.spare → 0 < s.spare → length a.journal < 262144 → CanWrite t lane f
  may-write-next s t p q lane low spare room few =
      subst (λ (z : Books). CanWrite (record { books = z; spare = t.spare }) lane f) (sym q) (record {
        lane_is = low;
        room = omega (arith, spare, room);
        few = subst (λ (J : List Write). length J < 262144) (sym (ap (λ (z : Books). z.journal) w.is)) few;
        serial = _;
        it = _;
        is_open = now-open;
        few_rows = subst (λ (l : List Write). length l < 65536) (sym (ap (λ (z : Books). borne_by (length a.memtables + 1) z.journal) w.is ∙ fresh-mem a k f w.s w.c w.is_open)) (omega arith);
      })

  pub may-begin-next : slice_get a.files.captured f ≡ Some None → CanBegin b f
  may-begin-next idle = record {
    serial = _;
    it = _;
    is_open = now-open;
    list = _;
    list_at = ap (λ (z : Books). entry z.lists (length a.lists + 1)) w.is ∙ entry-new a.lists _ (length a.lists + 1) refl;
    some = omega (arith, length-append w.list.members (w.c.descriptor.active ∷ []));
    idle = ap (λ (z : Books). slice_get z.files.captured f) w.is ∙ idle;
  }

-- ---- a flush

module _ (b : Books) (k : Sound b) (lane : ℕ) (name : List ℕ) (plan : FlushPlan) (p : Clear b lane name (flush_refusal b) (IsFlushPlan b) plan) where
  rest : (busy_refusal (slice_get b.files.captured p.meant.family) ≡ None) × (nothing_refusal (active_rows b p.meant) (length p.meant.list.members) ≡ None)
  rest =
      let o = none_due (busy_refusal (slice_get b.files.captured p.meant.family)) _ p.none in
      (o.0, (none_due (nothing_refusal (active_rows b p.meant) (length p.meant.list.members)) _ o.1).0)

  idle-at : (c : Option (Option ℕ)) → (f : ℕ) → f < 16 → slice_get b.files.captured f ≡ c → busy_refusal c ≡ None → slice_get b.files.captured f ≡ Some None
  idle-at None f low q h = let g = get-some b.files.captured f (omega (arith, low, k.steady.captured)) in (let z : None ≡ Some g.0 = sym q ∙ g.1 in absurd (cc))
  idle-at (Some None) f low q h = q
  idle-at (Some (Some n)) f low q h = absurd (cc)

  pub idle : slice_get b.files.captured p.meant.family ≡ Some None
  idle = idle-at _ p.meant.family
      (omega (arith, get_within b.families p.meant.family p.meant.is_open.family p.meant.is_open.family_at, k.lawful.limits.families)) refl rest.0

  some-of : (rows members : ℕ) → nothing_refusal rows members ≡ None → nat_lt 0 rows ≡ false → 0 < members
  some-of rows members h q = grind arith

  pub may-begin : plan.cell ≡ None → CanBegin b plan.family
  may-begin q = subst (CanBegin b) (sym p.is.family_is) (record {
    serial = p.meant.serial;
    it = p.meant.it;
    is_open = p.meant.is_open;
    list = p.meant.list;
    list_at = p.meant.list_at;
    some = some-of (active_rows b p.meant) (length p.meant.list.members) rest.1
        (by (nat_lt 0 (active_rows b p.meant)) refl (subst (λ c. IsCellIf b.memtables p.meant.it.descriptor.active (nat_lt 0 (active_rows b p.meant)) c) q p.is.cell));
    idle = idle;
  })
    where
      by : (r : Bool) → nat_lt 0 (active_rows b p.meant) ≡ r → IsCellIf b.memtables p.meant.it.descriptor.active r None → nat_lt 0 (active_rows b p.meant) ≡ false
      by true q h = absurd h
      by false q h = q

  pub may-freeze : (cell : ℕ) → plan.cell ≡ Some cell → HasRow b plan.family
  may-freeze cell q = subst (HasRow b) (sym p.is.family_is) (record {
    serial = p.meant.serial;
    it = p.meant.it;
    is_open = p.meant.is_open;
    row = by (nat_lt 0 (active_rows b p.meant)) refl (subst (λ c. IsCellIf b.memtables p.meant.it.descriptor.active (nat_lt 0 (active_rows b p.meant)) c) q p.is.cell);
  })
    where
      by : (r : Bool) → nat_lt 0 (active_rows b p.meant) ≡ r → IsCellIf b.memtables p.meant.it.descriptor.active r (Some cell) → 0 < active_rows b p.meant
      by true q h = grind arith
      by false q h = absurd h
