-- What a put answers, put together from its plan, its switch and its row.
use Rattle.std.proofs.Common.{Bool, Err, List, None, Ok, Option, Result, Some, [], ap, arith, false, inl, inr, length, refl, subst, sym, true, ℕ, ⊎_elim, ◌<◌, ◌∙◌, ◌∷◌, ◌≡◌}
use Rattle.std.specs.Prelude.{IfOk, OnErr, cond, nat_le}
use Rattle.sv_cells.specs.Calls.{memtables_refusal}
use Rattle.sv_installs.proofs.Changed.{cleans-journal}
use Rattle.sv_journal.specs.Calls.{journal_refusal}
use Rattle.sv_laws.proofs.GrownRegisters.{get_within}
use Rattle.sv_model.proofs.RefusalLaws.{none_due}
use Rattle.sv_model.specs.Books.{Books}
use Rattle.sv_model.specs.Families.{InRange}
use Rattle.sv_model.specs.Lawful.{Lawful}
use Rattle.sv_model.specs.Refusals.{IsDue, Refuses, first_due}
use Rattle.sv_model.specs.declared.refusals.Refusal.{Refusal}
use Rattle.sv_model.specs.declared.refusals.Refusal.TheVariants as refusal
use Rattle.sv_model.specs.declared.settings.Options.{Options}
use Rattle.sv_model.specs.declared.writes.Row.{Row}
use Rattle.sv_model.specs.declared.writes.Write.{Write}
use Rattle.sv_puts.specs.Putting.{Accepts, Answers, IsSwitchAlone, PutsAs, StopsAs, Switches}
use Rattle.sv_puts.specs.Rows.{CanAppend}
use Rattle.sv_puts.specs.Switching.{CanSwitchIn, IsEmptyIn}
use Rattle.sv_registry.specs.Calls.{make_refusal}
use Rattle.sv_state.specs.Planning.{IsPlanOf, MeantAt, Planned, active_rows, is_switch_due, only_if, stall_refusal, switch_due, write_refusal}
use Rattle.sv_state.specs.Seen.{StateSeen}
use Rattle.sv_state.specs.declared.planning.Plan.{Plan}
use Rattle.sv_state.specs.declared.planning.Plan.TheVariants.{Add, Switch}

-- ---- refusals

stops-same : (l : ℕ) (a b : Books) (name : List ℕ) (e : Refusal) → b ≡ a → StopsAs l a b name e
stops-same l a b name refusal.OutOfMemory q = inl q
stops-same l a b name e q = q

stops-switched : (l : ℕ) (a b : Books) (name : List ℕ) (e : Refusal) → IsDue None e → IsSwitchAlone l a b name
    → StopsAs l a b name e
stops-switched l a b name refusal.OutOfMemory d s = inr s
stops-switched l a b name e d s = absurd (cc)

-- the plan was refused
pub plan-refused : (l : ℕ) (a b : Books) (name : List ℕ) (row : Row) (r : Result Plan Refusal) (e : Refusal) → r ≡ Err e
    → Planned a l name (write_refusal a) (IsPlanOf a) r → b ≡ a → Answers l name row (Err e) a b
plan-refused l a b name row r e q p k = record {
  planned = ⊎_elim
      (λ h. inl (h.0, h.1, ap Err (let z : e ≡ h.0 = cc (q, h.2) in z)))
      (λ h. inr (h.0, subst (λ (z : Result Plan Refusal). Refuses (write_refusal a h.0) z) q h.1, tt))
      p;
  stops = stops-same l a b name e k;
}

-- ---- what an accepted plan says

-- the family meant, that nothing is due, and the plan
pub record Clear (l : ℕ) (b : Books) (name : List ℕ) (plan : Plan) : Type 0 where
  pub meant : MeantAt b l name
  pub none : write_refusal b meant ≡ None
  pub is : IsPlanOf b meant plan

pub clear : (l : ℕ) (b : Books) (name : List ℕ) (r : Result Plan Refusal) (plan : Plan) → r ≡ Ok plan
    → Planned b l name (write_refusal b) (IsPlanOf b) r → Clear l b name plan
clear l b name r plan q p = ⊎_elim
    (λ h. let z : Ok plan ≡ Err h.0 = sym q ∙ h.2 in absurd (cc))
    (λ h. record {
      meant = h.0;
      none = subst (λ (z : Result Plan Refusal). Refuses (write_refusal b h.0) z) q h.1;
      is = subst (λ (z : Result Plan Refusal). IfOk z (IsPlanOf b h.0)) q h.2;
    })
    p

few-writes : (J : List Write) → journal_refusal J ≡ None → length J < 262144
few-writes J h = by (nat_le 262144 (length J)) refl h
  where
    by : (b : Bool) → nat_le 262144 (length J) ≡ b → journal_refusal J ≡ None → length J < 262144
    by true q h = let z : journal_refusal J ≡ Some refusal.JournalFull = ap (λ c. cond c (Some refusal.JournalFull) None) q in absurd (cc)
    by false q h = grind arith

not-due : (rows : ℕ) (o : Options) → is_switch_due rows o ≡ false → InRange o → rows < 65536
not-due rows o h r = let m = r.rows_most in grind arith

is-due : (rows : ℕ) (o : Options) → is_switch_due rows o ≡ true → InRange o → 0 < rows
is-due rows o h r = let m = r.rows_least in grind arith

module _ (l : ℕ) (b : Books) (name : List ℕ) (plan : Plan) (p : Clear l b name plan) where
  abbrev o : Options
  o = p.meant.is_open.family.options

  abbrev due : Option Refusal
  due = switch_due b.supers b.memtables (length p.meant.list.members) o.max_immutable

  parts : (journal_refusal b.journal ≡ None)
      × (first_due (only_if (is_switch_due (active_rows b p.meant) o) due ∷ []) ≡ None)
  parts = none_due _ _ p.none

  pub few-of : length b.journal < 262144
  few-of = few-writes b.journal parts.0

  -- a switch that is due is not refused
  pub may-switch : is_switch_due (active_rows b p.meant) o ≡ true
      → first_due (memtables_refusal b.memtables ∷ make_refusal b.supers ∷ []) ≡ None
  may-switch is =
      let q : due ≡ None = subst (λ d. only_if d due ≡ None) is (none_due _ _ parts.1).0 in
      (none_due (stall_refusal (length p.meant.list.members) o.max_immutable)
      (memtables_refusal b.memtables ∷ make_refusal b.supers ∷ []) q).1

-- ---- a row without a switch, and one after it

module _ (l : ℕ) (s : StateSeen) (books : Books) (same : s.books ≡ books) (lawful : Lawful books) (name : List ℕ) where
  again : record { books = books; spare = s.spare } ≡ s
  again = λ i. record { books = sym same i; spare = s.spare }

  pub may-append : (f c : ℕ) → Clear l books name (Add f c) → l < 32 → 0 < s.spare → CanAppend s l f c
  may-append f c p lane room =
      let m = p.meant in
      let can : CanAppend (record { books = books; spare = s.spare }) l m.family c = record {
        can = record {
          lane_is = lane;
          room = room;
          few = few-of l books name (Add f c) p;
          serial = m.serial;
          it = m.it;
          is_open = m.is_open;
          few_rows = not-due (active_rows books m) m.is_open.family.options p.is.2
              (lawful.limits.options m.family m.is_open.family m.is_open.family_at);
        };
        cell_is = p.is.1;
      } in
      subst (λ (z : StateSeen × ℕ). CanAppend z.0 l z.1 c) (λ i. (again i, sym p.is.0 i)) can

  pub may-switch-in : (f c : ℕ) → Clear l books name (Switch f c) → (f < 16) × CanSwitchIn s.books f c
  may-switch-in f c p =
      let m = p.meant in
      let near : f < 16 = omega (arith, p.is.0, get_within books.families m.family m.is_open.family m.is_open.family_at, lawful.limits.families) in
      let can : CanSwitchIn books m.family c = record {
        active = record { serial = m.serial; it = m.it; is_open = m.is_open; cell_is = p.is.1 };
        row = is-due (active_rows books m) m.is_open.family.options p.is.2
            (lawful.limits.options m.family m.is_open.family m.is_open.family_at);
      } in
      (near, subst (λ (z : Books × ℕ). CanSwitchIn z.0 z.1 c) (λ i. (sym same i, sym p.is.0 i)) can)

pub may-append-next : (l : ℕ) (t : StateSeen) (a : Books) (f c : ℕ) → l < 32 → 0 < t.spare → IsEmptyIn t.books f c
    → t.books.journal ≡ a.journal → length a.journal < 262144 → CanAppend t l f c
may-append-next l t a f c lane room e same few = record {
  can = record {
    lane_is = lane;
    room = room;
    few = subst (λ (J : List Write). length J < 262144) (sym same) few;
    serial = e.active.serial;
    it = e.active.it;
    is_open = e.active.is_open;
    few_rows = subst (λ (r : List Write). length r < 65536) (sym e.none) (omega arith);
  };
  cell_is = e.active.cell_is;
}

pub switches-journal : (a b : Books) (f : ℕ) → Switches f a b → b.journal ≡ a.journal
switches-journal a b f w = cleans-journal w.0 b w.2 ∙ ap (λ (z : Books). z.journal) w.1.is

-- ---- the whole

module _ (l : ℕ) (a b : Books) (name : List ℕ) (row : Row) (r : Result ℕ Refusal) where
  pub answers-add : (f c : ℕ) → (p : Clear l a name (Add f c)) → IfOk r (Accepts l a b f row) → Refuses None r
      → OnErr r (b ≡ a) → Answers l name row r a b
  answers-add f c p acc ref kept = by r acc ref kept
    where
      by : (r : Result ℕ Refusal) → IfOk r (Accepts l a b f row) → Refuses None r → OnErr r (b ≡ a)
          → Answers l name row r a b
      by (Ok n) acc ref kept = record {
        planned = inr (p.meant, p.none, subst (λ (z : Bool × ℕ). PutsAs z.0 l a b z.1 row n) (λ i. (sym p.is.2 i, p.is.0 i)) acc);
        stops = tt;
      }
      by (Err e) acc ref kept = record {
        planned = inr (p.meant, subst (λ d. IsDue d e) (sym p.none) ref, tt);
        stops = stops-same l a b name e kept;
      }

  pub answers-switch : (mid : Books) (f c : ℕ) → (p : Clear l a name (Switch f c)) → Switches f a mid
      → IfOk r (Accepts l mid b f row) → Refuses None r → OnErr r (b ≡ mid) → Answers l name row r a b
  answers-switch mid f c p w acc ref kept = by r acc ref kept
    where
      by : (r : Result ℕ Refusal) → IfOk r (Accepts l mid b f row) → Refuses None r → OnErr r (b ≡ mid)
          → Answers l name row r a b
      by (Ok n) acc ref kept = record {
        planned = inr (
          p.meant,
          p.none,
          subst (λ (z : Bool × ℕ). PutsAs z.0 l a b z.1 row n)
              (λ i. (sym p.is.2 i, p.is.0 i)) (mid, w, acc),
        );
        stops = tt;
      }
      by (Err e) acc ref kept = record {
        planned = inr (p.meant, subst (λ d. IsDue d e) (sym p.none) ref, tt);
        stops = stops-switched l a b name e ref (record {
          meant = p.meant;
          due = p.is.2;
          switched = subst (λ (z : ℕ × Books). Switches z.0 a z.1) (λ i. (p.is.0 i, sym kept i)) w;
        });
      }

-- the switch was refused
pub switch-refused : (l : ℕ) (a b : Books) (name : List ℕ) (row : Row) (f c : ℕ) → (p : Clear l a name (Switch f c))
    → (e : Refusal) → IsDue (first_due (memtables_refusal a.memtables ∷ make_refusal a.supers ∷ [])) e → b ≡ a
    → Answers l name row (Err e) a b
switch-refused l a b name row f c p e d kept = record {
  planned = inr (p.meant, subst (λ d. IsDue d e) (may-switch l a name (Switch f c) p p.is.2 ∙ sym p.none) d, tt);
  stops = stops-same l a b name e kept;
}
