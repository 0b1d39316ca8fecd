-- A flush: what its plan says, the switch before it, and the file that it writes.
use Rattle.std.proofs.Common.{◌≡◌, ◌≢◌, ◌<◌, ◌+◌, ◌++◌, ◌∷◌, ◌⊎◌, inl, inr, ⊎_elim, ℕ, zero, suc, Bool, true, false, List, [], length, Option, Some, None, refl, sym, ap, ◌∙◌, subst, arith, length-append}
use Rattle.std.specs.Prelude.{◌==◌, ◌||◌, if◌then◌else◌, cond, nat_le, nat_lt, slice_get}
use Rattle.sv_model.specs.declared.records.Memtable.{Memtable}
use Rattle.sv_model.specs.declared.records.SuperVersion.{SuperVersion}
use Rattle.sv_model.specs.declared.refusals.Refusal.{Refusal}
use Rattle.sv_model.specs.declared.refusals.Refusal.TheVariants as refusal
use Rattle.sv_model.specs.declared.limits.TheConstants.{MAX_CAPTURED}
use Rattle.sv_model.specs.declared.records.RegisteredFile.{RegisteredFile}
use Rattle.sv_model.specs.Books.{Books, FileRegister}
use Rattle.sv_model.specs.Cells.{Cell}
use Rattle.sv_model.specs.Journal.{borne_by, of_family}
use Rattle.sv_model.specs.Named.{NamedFile}
use Rattle.sv_model.specs.Numbers.{captures}
use Rattle.sv_model.specs.Refusals.{IsDue, first_due}
use Rattle.sv_model.specs.Registers.{entry}
use Rattle.sv_model.specs.Steady.{Sound}
use Rattle.sv_model.proofs.RefusalLaws.{none_due, none_due-next}
use Rattle.sv_model.proofs.Registers.{entry-else, entry-new, entry_le}
use Rattle.sv_cells.specs.Calls.{memtables_refusal}
use Rattle.sv_files.specs.Calls.{capture_refusal}
use Rattle.sv_registry.specs.Calls.{full_refusal, make_refusal}
use Rattle.sv_laws.specs.Installs.{IsOpen, live_super, next_top}
use Rattle.sv_laws.specs.NewCurrents.{IsSwitched}
use Rattle.sv_laws.proofs.EndsLaws.{files-captures}
use Rattle.sv_laws.proofs.GrownRegisters.{placed-set}
use Rattle.sv_laws.proofs.OpenFamilies.{fresh-mem}
use Rattle.sv_objects.specs.Makings.{IsCellOf}
use Rattle.sv_state.specs.declared.planning.FlushPlan.{FlushPlan}
use Rattle.sv_state.specs.Planning.{IsCellIf, IsFlushPlan, MeantAt, active_rows, all_made_refusal, busy_refusal, flush_refusal, nothing_refusal, only_if}
use Rattle.sv_store.specs.Emptying.{CanEmpty, Empties, IsEmptied, SwitchesIf, rows_at}
use Rattle.sv_store.specs.Standing.{Rests}
use Rattle.sv_store.specs.Writing.{CanFreeze, Switches}
use Rattle.sv_store.proofs.OutputLaws.{idle-of}

-- ---- the plan

rows-or : (r n : ℕ) → nothing_refusal r n ≡ None → (0 < r) ⊎ (0 < n)
rows-or zero zero q = absurd (cc)
rows-or (suc r) n q = inl (omega arith)
rows-or zero (suc n) q = inr (omega arith)

make-none : (supers : List SuperVersion) → all_made_refusal supers ≡ None → full_refusal supers ≡ None → make_refusal supers ≡ None
make-none supers h k = by (nat_le 1048576 (length supers)) (full_refusal supers) h k
  where
    by : (t : Bool) (x : Option Refusal) → cond t (Some refusal.RegisterFull) None ≡ None → x ≡ None → cond t (Some refusal.RegisterFull) x ≡ None
    by true x h k = absurd (cc)
    by false x h k = k

module _ (b : Books) (cells : List (Option Cell)) (rests : Rests b cells) (name : List ℕ) (m : MeantAt b 0 name) (none : flush_refusal b m ≡ None) where
  -- the refusals that the plan met, each none
  after-busy : first_due (nothing_refusal (active_rows b m) (length m.list.members) ∷ capture_refusal b.files
      ∷ only_if (nat_lt 0 (active_rows b m)) (first_due (all_made_refusal b.supers ∷ memtables_refusal b.memtables ∷ full_refusal b.supers ∷ [])) ∷ []) ≡ None
  after-busy = (none_due (busy_refusal (slice_get b.files.captured m.family)) (nothing_refusal (active_rows b m) (length m.list.members) ∷ capture_refusal b.files
      ∷ only_if (nat_lt 0 (active_rows b m)) (first_due (all_made_refusal b.supers ∷ memtables_refusal b.memtables ∷ full_refusal b.supers ∷ [])) ∷ []) none).1

  nothing-none : (nothing_refusal (active_rows b m) (length m.list.members) ≡ None) × (first_due (capture_refusal b.files
      ∷ only_if (nat_lt 0 (active_rows b m)) (first_due (all_made_refusal b.supers ∷ memtables_refusal b.memtables ∷ full_refusal b.supers ∷ [])) ∷ []) ≡ None)
  nothing-none = none_due (nothing_refusal (active_rows b m) (length m.list.members)) (capture_refusal b.files
      ∷ only_if (nat_lt 0 (active_rows b m)) (first_due (all_made_refusal b.supers ∷ memtables_refusal b.memtables ∷ full_refusal b.supers ∷ [])) ∷ []) after-busy

  after-nothing : first_due (capture_refusal b.files
      ∷ only_if (nat_lt 0 (active_rows b m)) (first_due (all_made_refusal b.supers ∷ memtables_refusal b.memtables ∷ full_refusal b.supers ∷ [])) ∷ []) ≡ None
  after-nothing = nothing-none.1

  capture-none : (capture_refusal b.files ≡ None)
      × (first_due (only_if (nat_lt 0 (active_rows b m)) (first_due (all_made_refusal b.supers ∷ memtables_refusal b.memtables ∷ full_refusal b.supers ∷ [])) ∷ []) ≡ None)
  capture-none = none_due (capture_refusal b.files)
      (only_if (nat_lt 0 (active_rows b m)) (first_due (all_made_refusal b.supers ∷ memtables_refusal b.memtables ∷ full_refusal b.supers ∷ [])) ∷ []) after-nothing

  room : nat_lt 0 (active_rows b m) ≡ true → first_due (memtables_refusal b.memtables ∷ make_refusal b.supers ∷ []) ≡ None
  room due =
      let o =
      (none_due (only_if (nat_lt 0 (active_rows b m)) (first_due (all_made_refusal b.supers ∷ memtables_refusal b.memtables ∷ full_refusal b.supers ∷ []))) [] capture-none.1).0 in
      let q : first_due (all_made_refusal b.supers ∷ memtables_refusal b.memtables ∷ full_refusal b.supers ∷ []) ≡ None =
      subst (λ d. only_if d (first_due (all_made_refusal b.supers ∷ memtables_refusal b.memtables ∷ full_refusal b.supers ∷ [])) ≡ None) due o in
      let made = none_due (all_made_refusal b.supers) (memtables_refusal b.memtables ∷ full_refusal b.supers ∷ []) q in
      let cells_left = none_due (memtables_refusal b.memtables) (full_refusal b.supers ∷ []) made.1 in
      let full = (none_due (full_refusal b.supers) [] cells_left.1).0 in
      none_due-next (memtables_refusal b.memtables) (make_refusal b.supers ∷ []) cells_left.0
      (none_due-next (make_refusal b.supers) [] (make-none b.supers made.0 full) refl)

  -- the active memtable may be emptied
  pub planned-empties : (plan : FlushPlan) → IsFlushPlan b m plan → CanEmpty b cells plan.family plan.cell
  planned-empties plan p =
      let can : CanEmpty b cells m.family plan.cell = record {
        stands = rests.stands;
        serial = m.serial;
        it = m.it;
        is_open = m.is_open;
        list = m.list;
        list_at = m.list_at;
        some = rows-or (active_rows b m) (length m.list.members) nothing-none.0;
        idle = idle-of b rests.stands.sound rests.still m.family m.serial m.it m.is_open;
        numbers = capture-none.0;
        cell_is = p.cell;
        room = room;
      } in
      subst (λ f. CanEmpty b cells f plan.cell) (sym p.family_is) can

-- ---- the switch

-- a switch that is due is not refused but for memory
pub only-memory : (d : Option Refusal) (e : Refusal) → d ≡ None → IsDue d e → IsDue None e
only-memory d e q h = subst (λ z. IsDue z e) q h

-- no switch is due where the plan gives no cell
pub no-cell : (M : List Memtable) (mem : ℕ) (t : Bool) → IsCellIf M mem t None → t ≡ false
no-cell M mem true k = absurd k
no-cell M mem false k = refl

-- a cell is given just where a switch is due
pub is-cell : (M : List Memtable) (mem cell : ℕ) (t : Bool) → IsCellIf M mem t (Some cell) → (t ≡ true) × IsCellOf M mem cell
is-cell M mem cell true k = (refl, k)
is-cell M mem cell false k = absurd k

module _ (b : Books) (cells : List (Option Cell)) (f cell : ℕ) (can : CanEmpty b cells f (Some cell)) where
  abbrev given : (nat_lt 0 (rows_at b can.it) ≡ true) × IsCellOf b.memtables can.it.descriptor.active cell
  given = is-cell b.memtables can.it.descriptor.active cell (nat_lt 0 (rows_at b can.it)) can.cell_is

  pub may-freeze : CanFreeze b cells f cell
  may-freeze = record {
    stands = can.stands;
    serial = can.serial;
    it = can.it;
    is_open = can.is_open;
    row = let q = given.0 in grind arith;
    cell_is = given.1;
  }

  pub empties-by : (e : Books) → Switches f b e → Empties b e f
  empties-by e w = record { serial = can.serial; it = can.it; is_open = can.is_open; switched = subst (λ t. SwitchesIf t f b e) (sym given.0) w }

  pub switch-memory : (e : Refusal) → IsDue (first_due (memtables_refusal b.memtables ∷ make_refusal b.supers ∷ [])) e → IsDue None e
  switch-memory e h = only-memory _ e (can.room given.0) h

module _ (b : Books) (cells : List (Option Cell)) (f : ℕ) (can : CanEmpty b cells f None) where
  none-due : nat_lt 0 (rows_at b can.it) ≡ false
  none-due = no-cell b.memtables can.it.descriptor.active (nat_lt 0 (rows_at b can.it)) can.cell_is

  pub empties-none : Empties b b f
  empties-none = record { serial = can.serial; it = can.it; is_open = can.is_open; switched = subst (λ t. SwitchesIf t f b b) (sym none-due) refl }

  no-rows : rows_at b can.it ≡ 0
  no-rows = let q = none-due in grind arith

  pub emptied-none : IsEmptied b f
  emptied-none = record {
    begin = record {
      serial = can.serial;
      it = can.it;
      is_open = can.is_open;
      list = can.list;
      list_at = can.list_at;
      some = ⊎_elim (λ r. absurd (omega (arith, r, no-rows))) (λ r. r) can.some;
      idle = can.idle;
    };
    empty = no-rows;
    numbers = can.numbers;
  }

same-captures : (F : FileRegister) (N : List RegisteredFile) → captures N ≡ captures F.numbers → capture_refusal (record F { numbers = N }) ≡ capture_refusal F
same-captures F N q = ap (λ n. if nat_le MAX_CAPTURED n || (F.next == 18446744073709551615) then Some refusal.RegisterFull else None) q

-- after a switch
module _ (a b : Books) (k : Sound a) (f : ℕ) (w : Switches f a b) (idle : slice_get a.files.captured f ≡ Some None) (numbers : capture_refusal a.files ≡ None) where
  abbrev s : IsSwitched a w.mid f
  s = w.is

  abbrev next : SuperVersion
  next = live_super (record s.c.descriptor { active = length a.memtables + 1; list = length a.lists + 1; base = length (of_family f a.journal) }) s.place

  later : length a.supers + 1 ≢ w.goes.s
  later q = omega (arith, q, (entry_le a.supers w.goes.s w.goes.x w.goes.was.has).1)

  next-on : entry b.supers (length a.supers + 1) ≡ Some next
  next-on = ap (λ (z : Books). entry z.supers (length a.supers + 1)) w.goes.cleaned.is
      ∙ entry-else w.mid.supers w.goes.s (length a.supers + 1) (record w.goes.x { live = false }) later
      ∙ ap (λ (z : Books). entry z.supers (length a.supers + 1)) s.is ∙ entry-new a.supers _ (length a.supers + 1) refl

  next-open : IsOpen b f (length a.supers + 1) next
  next-open = record {
    current = record {
      top = next_top a s.c.descriptor.version;
      at = ap (λ (z : Books). slice_get z.tops f) w.goes.cleaned.is ∙ ap (λ (z : Books). slice_get z.tops f) s.is
          ∙ (placed-set a.tops f s.is_open.current.top (next_top a s.c.descriptor.version) s.is_open.current.at).here;
      is = refl;
      has = next-on;
    };
    family = s.is_open.family;
    family_at = ap (λ (z : Books). slice_get z.families f) w.goes.cleaned.is ∙ ap (λ (z : Books). slice_get z.families f) s.is ∙ s.is_open.family_at;
    stands = s.is_open.stands;
  }

  abbrev members : List ℕ
  members = s.list.members ++ s.c.descriptor.active ∷ []

  list-mid : entry w.mid.lists (length a.lists + 1) ≡ Some (record { members = members; live = true })
  list-mid = ap (λ (z : Books). entry z.lists (length a.lists + 1)) s.is ∙ entry-new a.lists _ (length a.lists + 1) refl

  pub switched-emptied : IsEmptied b f
  switched-emptied =
      let y = w.goes.cleaned.lists.goes (length a.lists + 1) (record { members = members; live = true }) list-mid in
      record {
        begin = record {
          serial = length a.supers + 1;
          it = next;
          is_open = next-open;
          list = y.0;
          list_at = y.1;
          some = omega (arith, ap length y.2.members, length-append s.list.members (s.c.descriptor.active ∷ []));
          idle = ap (λ (z : Books). slice_get z.files.captured f) w.goes.cleaned.is ∙ ap (λ (z : Books). slice_get z.files.captured f) s.is ∙ idle;
        };
        empty = ap (λ (z : Books). length (borne_by (length a.memtables + 1) z.journal)) w.goes.cleaned.is
            ∙ ap (λ (z : Books). length (borne_by (length a.memtables + 1) z.journal)) s.is
            ∙ ap length (fresh-mem a k f s.s s.c s.is_open);
        numbers = same ∙ numbers;
      }
    where
      same : capture_refusal b.files ≡ capture_refusal a.files
      same =
          ap (λ (z : Books). capture_refusal z.files) w.goes.cleaned.is
          ∙ same-captures w.mid.files b.files.numbers (files-captures (NamedFile b.versions) w.mid.files.numbers b.files.numbers w.goes.cleaned.numbers)
          ∙ ap (λ (z : Books). capture_refusal z.files) s.is
