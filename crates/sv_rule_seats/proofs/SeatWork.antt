-- Work in hand, as a seat is made or joined: the seat id becomes l, and x is the view of a seat that has nothing.
use Rattle.std.proofs.Common.{Bool, List, None, Some, [], ap, arith, cond, false, inl, inr, refl, subst, sym, true, ℕ, ⊎_elim, ◌+◌, ◌<◌, ◌==◌, ◌∙◌, ◌≡◌, ◌≤◌}
use mathlib.Core.Logic.{dite}
use mathlib.Core.Option.{some}
use native.Mathlib.Decide.{ℕ_discrete}
use lib.ListN.{get_elem?}
use Rattle.atomic_table.specs.Table.{rest}
use Rattle.sv_model.specs.Books.{Books}
use Rattle.sv_model.specs.Lists.{Every, In, times, total}
use Rattle.sv_model.proofs.FlatKeys.{gone}
use Rattle.sv_rule.specs.Blanks.{bare_known, bare_view}
use Rattle.sv_rule.specs.InHand.{Accounts, IsClosing, IsQuiet, WorkHeld}
use Rattle.sv_rule.specs.Sums.{Each}
use Rattle.sv_model.specs.Tasks.{grabs, has_job, has_output, Output}
use Rattle.sv_rule.specs.Table.{cached_at, holds, owes, slot_at}
use Rattle.sv_rule.specs.Tasks.{all_adds, dues, endings, faults, fills, handles_of, has_cell, has_db, has_dir, holds_of, lanes, removals}
use Rattle.sv_rule.specs.UnderWay.{excepts}
use Rattle.sv_rule.specs.Views.{Disk, Joined, LaneView, Seat, Start, Work}
use Rattle.sv_rule.proofs.Basics.{every_none, true_not}

pub zero-cond : (q : Bool) (n : ℕ) → n ≡ 0 → cond q n 0 ≡ 0
zero-cond true n e = e
zero-cond false n e = refl

-- what is left out of the sums is `rest`
module _ (vs ws : List LaneView) (k id : ℕ) (v l x : LaneView) where
  pub record Moves (rest : (LaneView → ℕ) → ℕ) : Type 1 where
    pub both : (P : ℕ → LaneView → Type 0) → P k x → P id l → Each P vs → Each P ws
    pub sum : (g : LaneView → ℕ) → total g ws + g v + rest g ≡ total g vs + g l + g x
    pub spots : (m f : ℕ) → (cached_at ws m f ≡ cached_at vs m f) × (slot_at ws m f ≡ slot_at vs m f)
    -- of what is left out, nothing is in hand
    pub holders : (q : ℕ) → rest (holds q) ≡ 0
    pub owers : (q : ℕ) → rest (owes q) ≡ 0
    pub db : rest has_db ≡ 0
    pub dir : rest has_dir ≡ 0
    pub cells : (c : ℕ) → rest (has_cell c) ≡ 0
    pub dues_none : (c : ℕ) → rest (dues c) ≡ 0
    pub fills_none : (c : ℕ) → rest (fills c) ≡ 0
    pub outputs : (n : ℕ) → rest (λ u. has_output n u.known.task) ≡ 0
    pub grabbed : (n : ℕ) → rest (λ u. grabs n u.known.task) ≡ 0
    pub jobs : rest (λ u. has_job u.known.task) ≡ 0
    pub holds_none : (m : ℕ) → rest (holds_of m) ≡ 0
    pub handles_none : (m f : ℕ) → 0 < f → rest (handles_of m f) ≡ 0
    -- what it did is counted on
    pub removed : (n : ℕ) → removals n l ≡ removals n v + rest (removals n)
    pub ended : (n : ℕ) → endings n l ≡ endings n v + rest (endings n)
    pub faults_on : faults l ≡ faults v + rest faults
    pub adds : all_adds l ≡ all_adds v + rest all_adds
    pub lanes_on : (m : ℕ) → lanes m v + rest (lanes m) ≤ lanes m l + lanes m x
    -- who was all lanes is so
    pub closing : (f : ℕ) → ((j : ℕ) × (u : LaneView) × (get_elem? vs j ≡ some u) × IsClosing f u) → (j : ℕ)
        × (u : LaneView) × (get_elem? ws j ≡ some u) × IsClosing f u

-- the seat has its books still, and what was joined into it
abbrev pub seated : LaneView → Seat → List Joined → LaneView
seated v seat joined = record v { seat = seat; joined = joined }

module _ (b : Books) (work : Work) (start : Start) (disk : Disk) (number : ℕ → ℕ) (vs ws : List LaneView) (k id : ℕ)
    (v : LaneView) (me : get_elem? vs id ≡ some v) (seat seat' : Seat) (joined : List Joined) (lane : ℕ)
    (start' : Start) (handles : List ℕ) where
  abbrev l : LaneView
  l = seated v seat joined

  abbrev x : LaneView
  x = bare_view seat' (bare_known lane start' handles)

  no_output : (o : Output) → None ≡ Some o → ⊥
  no_output o e = cc

  pub work-seats : (rest : (LaneView → ℕ) → ℕ) → Moves vs ws k id v l x rest → seat.spent ≡ v.seat.spent
      → v.seat.spent ≡ false → (seat'.spent ≡ false → times 0 handles ≡ 1) → (seat'.spent ≡ true → handles ≡ [])
      → ((f : ℕ) → 0 < f → times f handles ≡ 0)
      → (seat'.spent ≡ false → (start' ≡ start) × Accounts b (bare_known lane start' handles))
      → Every (λ o. Accounts b o.known) joined → (0 < excepts 0 work → number 0 ≡ 0 → times 0 handles ≡ 0)
      → WorkHeld b work start disk number vs → WorkHeld b work start disk number ws
  work-seats rest move spent alive one gone no_other mine in_joined quiet_default held =
      let both = move.both in
      let alive_now : seat.spent ≡ false = spent ∙ alive in record {
        outputs = λ n. omega (arith, move.sum (λ u. has_output n u.known.task), move.outputs n, held.outputs n);
        metas = both (λ j u. (o : Output) → u.known.task.output ≡ Some o → In o.meta b.metas)
            (λ o e. absurd (no_output o e)) (held.metas id v me) held.metas;
        grabbed = λ n. omega (arith, move.sum (λ u. grabs n u.known.task), move.grabbed n, held.grabbed n);
        jobs = omega (arith, move.sum (λ u. has_job u.known.task), move.jobs, held.jobs);
        removed = λ n. omega (arith, move.sum (removals n), move.removed n, held.removed n);
        ended = λ n. omega (arith, move.sum (endings n), move.ended n, held.ended n);
        holds = λ m. omega (
          arith,
          move.sum (holds_of m),
          move.holds_none m,
          zero-cond (lane == m) 0 refl,
          held.holds m,
        );
        handles = λ m f pos. omega (
          arith,
          move.sum (handles_of m f),
          move.handles_none m f pos,
          zero-cond (lane == m) (times f handles) (no_other f pos),
          held.handles m f pos,
        );
        default = held.default;
        own_default = both (λ j u. u.seat.spent ≡ false → times 0 u.known.task.handles ≡ 1) one
            (λ _. held.own_default id v me alive) held.own_default;
        spent = both (λ j u. u.seat.spent ≡ true → (u.known.task.holds ≡ 0)
            × ((f : ℕ) → times f u.known.task.handles ≡ 0)) (λ e. (refl, λ f. ap (times f) (gone e)))
            (λ e. absurd (true_not (sym e ∙ alive_now))) held.spent;
        quiet = both (λ j u. u.seat.spent ≡ false → u.known.task.quiet ≡ true → IsQuiet b u.known.task)
            (λ _ e. absurd (true_not (sym e))) (λ _. held.quiet id v me alive) held.quiet;
        loud = both (λ j u. u.known.task.quiet ≡ false → u.known.task.listed ≡ []) (λ _. refl) (held.loud id v me)
            held.loud;
        currents = record {
          retired = held.currents.retired;
          others = λ f y t at on is_none. ⊎_elim (λ z. inl z) (λ z. inr (move.closing f z))
              (held.currents.others f y t at on is_none);
        };
        silent = λ f near excepted z. both (λ j u. has_db u ≡ 0 → times f u.known.task.handles ≡ 0)
            (λ _. dite (ℕ_discrete f 0) (λ e. subst (λ (g : ℕ). times g handles ≡ 0) (sym e)
            (quiet_default (subst (λ (g : ℕ). 0 < excepts g work) e excepted)
            (subst (λ (g : ℕ). number g ≡ 0) e z))) (λ n. no_other f (omega (arith, n))))
            (held.silent f near excepted z id v me) (held.silent f near excepted z);
        starts = both (λ j u. u.seat.spent ≡ false → u.known.start ≡ start) (λ e. (mine e).0)
            (λ _. held.starts id v me alive) held.starts;
        accounts = both (λ j u. u.seat.spent ≡ false → Accounts b u.known) (λ e. (mine e).1)
            (λ _. held.accounts id v me alive) held.accounts;
        joined = both (λ j u. Every (λ o. Accounts b o.known) u.joined) (every_none (λ o. Accounts b o.known))
            in_joined held.joined;
        opening = held.opening;
        writes = λ i w e from. omega (arith, held.writes i w e from, move.sum (lanes w.lane), move.lanes_on w.lane);
        faults = ⊎_elim (λ h. inl (omega (arith, h, move.sum faults, move.faults_on))) (λ h. inr h) held.faults;
      }
