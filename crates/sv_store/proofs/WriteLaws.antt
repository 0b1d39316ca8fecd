-- What a write answers and leaves, put together from its plan, its switch and its row.
use Rattle.std.proofs.Common.{◌≡◌, ◌<◌, ◌∷◌, inl, inr, ⊎_elim, ℕ, Bool, true, false, List, [], length, Option, Some, None, Result, Ok, Err, refl, sym, ap, ◌∙◌, subst, arith}
use Rattle.std.specs.Prelude.{IfOk, OnErr, cond, nat_le}
use Rattle.sv_model.specs.declared.refusals.Refusal.{Refusal}
use Rattle.sv_model.specs.declared.refusals.Refusal.TheVariants as refusal
use Rattle.sv_model.specs.declared.settings.Options.{Options}
use Rattle.sv_model.specs.declared.writes.Row.{Row}
use Rattle.sv_model.specs.declared.writes.Write.{Write}
use Rattle.sv_model.specs.Books.{Books}
use Rattle.sv_model.specs.Cells.{Cell}
use Rattle.sv_model.specs.Families.{InRange}
use Rattle.sv_model.specs.Refusals.{IsDue, Refuses, first_due}
use Rattle.sv_model.proofs.RefusalLaws.{none_due}
use Rattle.sv_cells.specs.Calls.{memtables_refusal}
use Rattle.sv_journal.specs.Calls.{journal_refusal}
use Rattle.sv_registry.specs.Calls.{make_refusal}
use Rattle.sv_laws.proofs.OpenFamilies.{in-range}
use Rattle.sv_state.specs.declared.planning.Plan.{Plan}
use Rattle.sv_state.specs.declared.planning.Plan.TheVariants.{Add, Switch}
use Rattle.sv_state.specs.Planning.{IsPlanOf, MeantAt, Planned, active_rows, is_switch_due, only_if, stall_refusal, switch_due, write_refusal}
use Rattle.sv_state.specs.Seen.{StateSeen}
use Rattle.sv_store.specs.Seen.{StoreSeen}
use Rattle.sv_store.specs.Standing.{Stands}
use Rattle.sv_store.specs.Writing.{Accepts, CanAppend, CanFreeze, IsEmptyIn, IsSwitchAlone, PutsAs, StopsAs, Switches, Writes}

-- ---- refusals

pub stops-same : (a b : StoreSeen) (name : List ℕ) (e : Refusal) → b ≡ a → StopsAs a b name e
stops-same a b name refusal.OutOfMemory q = inl q
stops-same a b name e q = q

stops-switched : (a b : StoreSeen) (name : List ℕ) (e : Refusal) → IsDue None e → IsSwitchAlone a.books b.books name → StopsAs a b name e
stops-switched a b name refusal.OutOfMemory d s = inr s
stops-switched a b name e d s = absurd (cc)

-- the plan was refused
pub plan-refused : (a b : StoreSeen) (name : List ℕ) (row : Row) (r : Result Plan Refusal) (e : Refusal) → r ≡ Err e → Planned a.books 0 name (write_refusal a.books) (IsPlanOf a.books) r
    → b ≡ a → Writes a b name row (Err e)
plan-refused a b name row r e q p k = record {
  answers = ⊎_elim
      (λ h. inl (h.0, h.1, ap Err (let z : e ≡ h.0 = cc (q, h.2) in z)))
      (λ h. inr (h.0, subst (λ (z : Result Plan Refusal). Refuses (write_refusal a.books h.0) z) q h.1, tt))
      p;
  stops = stops-same a b name e k;
}

-- ---- what an accepted plan says

-- of a plan that is made, the family meant and that nothing is due
pub record Clear (b : Books) (name : List ℕ) (plan : Plan) : Type 0 where
  pub meant : MeantAt b 0 name
  pub none : write_refusal b meant ≡ None
  pub is : IsPlanOf b meant plan

pub clear : (b : Books) (name : List ℕ) (r : Result Plan Refusal) (plan : Plan) → r ≡ Ok plan → Planned b 0 name (write_refusal b) (IsPlanOf b) r → Clear b name plan
clear b name r plan q p = ⊎_elim
    (λ h. let z : Ok plan ≡ Err h.0 = sym q ∙ h.2 in absurd (cc))
    (λ h. record {
      meant = h.0;
      none = subst (λ (z : Result Plan Refusal). Refuses (write_refusal b h.0) z) q h.1;
      is = subst (λ (z : Result Plan Refusal). IfOk z (IsPlanOf b h.0)) q h.2;
    })
    p

few-writes : (J : List Write) → journal_refusal J ≡ None → length J < 262144
few-writes J h = by (nat_le 262144 (length J)) refl h
  where
    by : (b : Bool) → nat_le 262144 (length J) ≡ b → journal_refusal J ≡ None → length J < 262144
    by true q h = let z : journal_refusal J ≡ Some refusal.JournalFull = ap (λ c. cond c (Some refusal.JournalFull) None) q in absurd (cc)
    by false q h = grind arith

not-due : (rows : ℕ) (o : Options) → is_switch_due rows o ≡ false → InRange o → rows < 65536
not-due rows o h r = let m = r.rows_most in grind arith

is-due : (rows : ℕ) (o : Options) → is_switch_due rows o ≡ true → InRange o → 0 < rows
is-due rows o h r = let m = r.rows_least in grind arith

module _ (b : Books) (name : List ℕ) (plan : Plan) (p : Clear b name plan) where
  parts : (journal_refusal b.journal ≡ None) × (first_due (only_if (is_switch_due (active_rows b p.meant) p.meant.is_open.family.options)
      (switch_due b.supers b.memtables (length p.meant.list.members) p.meant.is_open.family.options.max_immutable) ∷ []) ≡ None)
  parts = none_due _ _ p.none

  -- a switch that is due is not refused
  pub may-switch : is_switch_due (active_rows b p.meant) p.meant.is_open.family.options ≡ true
      → first_due (memtables_refusal b.memtables ∷ make_refusal b.supers ∷ []) ≡ None
  may-switch due =
      let o = (none_due _ _ parts.1).0 in
      let q : switch_due b.supers b.memtables (length p.meant.list.members) p.meant.is_open.family.options.max_immutable ≡ None =
      subst (λ d. only_if d (switch_due b.supers b.memtables (length p.meant.list.members) p.meant.is_open.family.options.max_immutable) ≡ None) due o in
      (none_due (stall_refusal (length p.meant.list.members) p.meant.is_open.family.options.max_immutable) (memtables_refusal b.memtables ∷ make_refusal b.supers ∷ []) q).1

-- ---- a row without a switch

module _ (s : StateSeen) (books : Books) (same : s.books ≡ books) (cells : List (Option Cell)) (h : Stands books cells None) (name : List ℕ) where
  again : record { books = books; spare = s.spare } ≡ s
  again = λ i. record { books = sym same i; spare = s.spare }

  pub may-append : (family cell : ℕ) → Clear books name (Add family cell) → 0 < s.spare → CanAppend s cells family cell
  may-append family cell p room =
      let m = p.meant in
      let can : CanAppend (record { books = books; spare = s.spare }) cells m.family cell = record {
        stands = h;
        can = record {
          lane_is = omega arith;
          room = room;
          few = few-writes books.journal (parts books name (Add family cell) p).0;
          serial = m.serial;
          it = m.it;
          is_open = m.is_open;
          few_rows = not-due (active_rows books m) m.is_open.family.options p.is.2 (in-range books h.sound m.family m.serial m.it m.is_open);
        };
        cell_is = p.is.1;
      } in
      subst (λ (z : StateSeen × ℕ). CanAppend z.0 cells z.1 cell) (λ i. (again i, sym p.is.0 i)) can

  pub may-freeze : (family cell : ℕ) → Clear books name (Switch family cell) → CanFreeze s.books cells family cell
  may-freeze family cell p =
      let m = p.meant in
      let can : CanFreeze books cells m.family cell = record {
        stands = h;
        serial = m.serial;
        it = m.it;
        is_open = m.is_open;
        row = is-due (active_rows books m) m.is_open.family.options p.is.2 (in-range books h.sound m.family m.serial m.it m.is_open);
        cell_is = p.is.1;
      } in
      subst (λ (z : Books × ℕ). CanFreeze z.0 cells z.1 cell) (λ i. (sym same i, sym p.is.0 i)) can

-- after the switch
pub may-append-next : (s t : StateSeen) (cells : List (Option Cell)) (family cell : ℕ) → Stands t.books cells None → IsEmptyIn t.books family cell → Switches family s.books t.books
    → 0 < t.spare → length s.books.journal < 262144 → CanAppend t cells family cell
may-append-next s t cells family cell h e w room few = record {
  stands = h;
  can = record {
    lane_is = omega arith;
    room = room;
    few = subst (λ (J : List Write). length J < 262144) (sym (ap (λ (z : Books). z.journal) w.goes.cleaned.is ∙ ap (λ (z : Books). z.journal) w.is.is)) few;
    serial = e.serial;
    it = e.it;
    is_open = e.is_open;
    few_rows = subst (λ (l : List Write). length l < 65536) (sym e.none) (omega arith);
  };
  cell_is = e.cell_is;
}

pub few-of : (b : Books) (name : List ℕ) (plan : Plan) → Clear b name plan → length b.journal < 262144
few-of b name plan p = few-writes b.journal (parts b name plan p).0

-- ---- the whole

module _ (a b : StoreSeen) (name : List ℕ) (row : Row) (r : Result ℕ Refusal) where
  pub written-add : (family cell : ℕ) → (p : Clear a.books name (Add family cell)) → IfOk r (Accepts a.books b.books family row) → Refuses None r → OnErr r (b ≡ a) → Writes a b name row r
  written-add family cell p acc ref kept = by r acc ref kept
    where
      by : (r : Result ℕ Refusal) → IfOk r (Accepts a.books b.books family row) → Refuses None r → OnErr r (b ≡ a) → Writes a b name row r
      by (Ok n) acc ref kept = record {
        answers = inr (p.meant, p.none, subst (λ (z : Bool × ℕ). PutsAs z.0 a.books b.books z.1 row n) (λ i. (sym p.is.2 i, p.is.0 i)) acc);
        stops = tt;
      }
      by (Err e) acc ref kept = record { answers = inr (p.meant, subst (λ d. IsDue d e) (sym p.none) ref, tt); stops = stops-same a b name e kept }

  pub switch-refused : (family cell : ℕ) → (p : Clear a.books name (Switch family cell)) → (e : Refusal) → IsDue (first_due (memtables_refusal a.books.memtables ∷ make_refusal a.books.supers ∷ [])) e
      → b ≡ a → Writes a b name row (Err e)
  switch-refused family cell p e d kept = record {
    answers = inr (p.meant, subst (λ d. IsDue d e) (may-switch a.books name (Switch family cell) p p.is.2 ∙ sym p.none) d, tt);
    stops = stops-same a b name e kept;
  }

  pub written-switch : (mid : Books) (family cell : ℕ) → (p : Clear a.books name (Switch family cell)) → Switches family a.books mid → IfOk r (Accepts mid b.books family row) → Refuses None r
      → OnErr r (b.books ≡ mid) → Writes a b name row r
  written-switch mid family cell p w acc ref kept = by r acc ref kept
    where
      by : (r : Result ℕ Refusal) → IfOk r (Accepts mid b.books family row) → Refuses None r → OnErr r (b.books ≡ mid) → Writes a b name row r
      by (Ok n) acc ref kept = record {
        answers = inr (p.meant, p.none, subst (λ (z : Bool × ℕ). PutsAs z.0 a.books b.books z.1 row n) (λ i. (sym p.is.2 i, p.is.0 i)) (mid, w, acc));
        stops = tt;
      }
      by (Err e) acc ref kept = record {
        answers = inr (p.meant, subst (λ d. IsDue d e) (sym p.none) ref, tt);
        stops = stops-switched a b name e ref (record {
          meant = p.meant;
          due = p.is.2;
          switched = subst (λ (z : ℕ × Books). Switches z.0 a.books z.1) (λ i. (p.is.0 i, sym kept i)) w;
        });
      }

-- ---- what a refusal keeps

abbrev pub seen_as : Books → List (Option Cell) → StoreSeen
seen_as B C = record { books = B; cells = C }

pub kept-seen : (r : Result ℕ Refusal) (s t : StateSeen) (B : Books) (C D : List (Option Cell)) → s.books ≡ B → OnErr r ((t ≡ s) × (D ≡ C))
    → OnErr r (seen_as t.books D ≡ seen_as B C)
kept-seen (Ok n) s t B C D q h = tt
kept-seen (Err e) s t B C D q h = λ i. record { books = (ap (λ (z : StateSeen). z.books) h.0 ∙ q) i; cells = h.1 i }

pub kept-books : (r : Result ℕ Refusal) (s t : StateSeen) (C D : List (Option Cell)) → OnErr r ((t ≡ s) × (D ≡ C)) → OnErr r (t.books ≡ s.books)
kept-books (Ok n) s t C D h = tt
kept-books (Err e) s t C D h = ap (λ (z : StateSeen). z.books) h.0
