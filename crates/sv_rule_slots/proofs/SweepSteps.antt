-- What a step of a sweep on a lane's slot leaves.
use Rattle.std.proofs.Common.{Bool, List, None, Option, Some, ap, arith, cond, eq-eqb, false, le-leb, length, length-set, nat_le, ne_eqb, option_map, refl, subst, sym, true, ℕ, ◌+◌, ◌<◌, ◌==◌, ◌∙◌, ◌≡◌, ◌≢◌, ◌≤◌}
use Rattle.std.proofs.lemmas.Bool.{lt-leb}
use mathlib.Core.Logic.{dite}
use mathlib.Core.Option.{some}
use mathlib.Core.Option as maybe
use native.Mathlib.Decide.{dec_le, ℕ_discrete}
use lib.ListN.{get_elem?}
use Rattle.atomic_table.specs.Table.{State}
use Rattle.sv_model.specs.Books.{Books}
use Rattle.sv_model.specs.Cells.{Cell}
use Rattle.sv_model.specs.Lists.{same, total}
use Rattle.sv_model.specs.declared.sv_refs.SvRef.{SvRef}
use Rattle.sv_rule.specs.Fits.{BodyFits}
use Rattle.sv_rule.specs.Home.{SlotOk}
use Rattle.sv_rule.specs.InHand.{Accounts}
use Rattle.sv_rule.specs.Ledger.{most_hand}
use Rattle.sv_rule.specs.Rule.{Kept}
use Rattle.sv_rule.specs.Sweep.{Right, Rights}
use Rattle.sv_rule.specs.SweepPlays.{beyond, works}
use Rattle.sv_rule.specs.Table.{cached_at, number, slot, slot_at, slot_home, slot_word, spot}
use Rattle.sv_rule.specs.Tasks.{lanes}
use Rattle.sv_rule.specs.UnderWay.{Apart, Stock, excepts, fit, middle}
use Rattle.sv_rule.specs.Views.{Bodied, Body, Desk, Disk, LaneView, SlotView, Work, idle, sweeping}
use Rattle.sv_rule.specs.declared.parts.Stored.{Stored}
use Rattle.sv_rule.specs.declared.parts.Stored.TheVariants as is
use Rattle.sv_rule.proofs.Assembly.{M, kept-by-slot, low_id, m_else, m_here, m_numbers}
use Rattle.sv_rule.proofs.Basics.{no_desk_in}
use Rattle.sv_rule.proofs.DbLock.{db-desk, owners-desk}
use Rattle.sv_rule_slots.proofs.Drops.{fit_here, sweep_ends}
use Rattle.sv_rule_slots.proofs.LoadSteps.{L}
use Rattle.sv_rule.proofs.NumberWorks.{numbers-work}
use Rattle.sv_rule.proofs.StepRests.{hand_view, rest-stays, silent-stands}
use Rattle.sv_rule.proofs.RoundTurns.{rounds_of}
use Rattle.sv_rule.proofs.StepLaws.{fresh_stay, right_same, spots_keep}
use Rattle.sv_rule.proofs.Sums.{same-else}

-- a sweep that passed one lane more ends, where it has no old pack and this was the last lane
pub beyond_case : (P : Work → Type 0) (lanes f old l taken : ℕ) → (old ≡ 0 → l + 1 ≡ lanes → P idle)
    → P (sweeping f old (l + 1) false taken) → P (beyond lanes f old l taken)
beyond_case P lanes f old l taken ends goes = dite (ℕ_discrete old 0)
    (λ e. dite (ℕ_discrete (l + 1) lanes)
    (λ z. subst P (λ k. cond (sym (eq-eqb old 0 e) k) (cond (sym (eq-eqb (l + 1) lanes z) k) idle
    (sweeping f old (l + 1) false taken)) (sweeping f old (l + 1) false taken)) (ends e z))
    (λ n. subst P (λ k. cond (sym (eq-eqb old 0 e) k) (cond (sym (ne_eqb (l + 1) lanes n) k) idle
    (sweeping f old (l + 1) false taken)) (sweeping f old (l + 1) false taken)) goes))
    (λ n. subst P (λ k. cond (sym (ne_eqb old 0 n) k) (cond ((l + 1) == lanes) idle
    (sweeping f old (l + 1) false taken)) (sweeping f old (l + 1) false taken)) goes)

-- a step of a sweep on the slot of the lane l: the work is `mid` or, where that ends, `work`
module _ {S D C B : Type 0} (books : S → Books) (disk : D → Disk) (cell : C → Option Cell) (body : B → Body)
    (s : State (Stored S D C B) LaneView) (kept : Kept books disk cell body s) (id : ℕ) (v : LaneView)
    (me : get_elem? s.views id ≡ some v) (d : Desk) (has : v.locks.db ≡ Some d) (f l : ℕ) (near : f < 16)
    (low : l < 32) where
  -- the view after the step, which may know more bodies
  abbrev pub swept_view : Work → List ℕ → List Bodied → LaneView
  swept_view work hand L = record (works d work hand v) { known = record v.known { bodies = L } }

  pub in_row : spot l f < 512
  in_row = omega arith

  pub kept-by-sweep : (x : ℕ) (mid work : Work) (hand : List ℕ) (L : List Bodied)
      (homes : List (maybe.Option (Stored S D C B))) → let w = swept_view work hand L in
      Accounts kept.b (record v.known { bodies = L }) → ((r : SvRef B)
      → get_elem? homes (slot_home (spot l f)) ≡ some (some (is.Cached r))
      → BodyFits kept.b (record { pack = r.pack; body = body r.body.value })) → length homes ≡ length s.homes
      → ((k : ℕ) → k ≢ slot_home (spot l f) → get_elem? homes k ≡ get_elem? s.homes k)
      → SlotOk x (get_elem? homes (slot_home (spot l f)))
      → ((q : ℕ) → 256 ≤ q → same q (slot s (spot l f)) + total (same q) v.hand ≡ same q x + total (same q) hand)
      → length hand ≤ most_hand
      → ((k g n : ℕ) → g < 16 → spot k g ≢ spot l f → fit mid g k n ≡ fit d.work g k n)
      → ((k : ℕ) → k ≢ spot l f → middle k mid ≡ middle k d.work)
      → ((c : ℕ) (y : SlotView) → Right (fit d.work f l (number s f)) (middle (spot l f) d.work) (slot s (spot l f))
      (number s f) c y → Right (fit mid f l (number s f)) (middle (spot l f) mid) x (number s f) c y)
      → ((slot' : ℕ → ℕ) (vs : List LaneView) → length vs ≡ length s.views → Rights mid (number s) slot' vs
      → Rights work (number s) slot' vs)
      → ((g : ℕ) → excepts g work ≡ excepts g d.work) → rounds_of work ≡ rounds_of d.work → Apart (number s) work
      → Stock d.books work hand → Kept books disk cell body
      (M books disk cell body s kept id v w me (spot l f) x in_row homes)
  kept-by-sweep x mid work hand L homes mine fits_here long others ok moves few fits mids here ends no_except
      same_work apart stock =
      let w = swept_view work hand L in let i = spot l f in
      let d' : Desk = record { books = d.books; work = work; due = d.due } in
      let hands : hand_view w ≡ hand_view v = λ k. (
        v.seat,
        v.known.task,
        v.counts.faults,
        v.locks.cell,
        sym (ap (option_map (λ (y : Desk). y.due)) has) k,
        v.joined,
        v.locks.dir,
        v.known.lane,
        v.known.start,
      ) in
      let N = M books disk cell body s kept id v w me i x in_row homes in let h = kept.home.desks id v me d has in
      kept-by-slot books disk cell body s kept id v w me i x in_row homes work long others ok
      (db-desk books disk cell body s kept id v w me d d' has refl kept.b work)
      (owners-desk books disk cell body s kept id v w me d d' has refl kept.b work h.0 refl)
      (rest-stays books disk cell body s kept id v w me (slot_word i) x homes hands work (omega arith)
      (λ k z. others k (λ e. omega arith)) (λ _. mine)
      (silent-stands kept.b kept.work work kept.start kept.d (number s) (number N) s.views id v w me hands
      (m_numbers books disk cell body s kept id v w me i x in_row homes)
      (λ g z. omega (arith, no_except g, ap (excepts g) h.1)) kept.in_hand)
      (λ k r z e. dite (ℕ_discrete k i) (λ y. fits_here r (ap (λ j. get_elem? homes (slot_home j)) (sym y) ∙ e))
      (λ y. kept.held.bodies k r z (sym (others (slot_home k) (λ q. y (omega arith))) ∙ e))))
      (λ q z. omega (arith, moves q z)) refl few (kept.home.seats.slots id v me) refl
      (λ z. absurd (no_desk_in has (ap (λ (u : LaneView). u.locks.db) (kept.home.seats.spent id v me z))))
      (numbers-work kept.b kept.work work (number s) (λ g. no_except g ∙ ap (excepts g) h.1) kept.numbers)
      (ends (slot N) N.views (length-set s.views id w) (spots_keep
      (λ k g c y. Right (fit mid g k (number s g)) (middle (spot k g) mid) (slot N (spot k g)) (number s g) c y)
      s.views id v w me (low_id books disk cell body s kept id v w me) refl
      (λ k g a b. let old = subst (λ (z : Work). Right (fit z g k (number s g)) (middle (spot k g) z)
      (slot s (spot k g)) (number s g) (cached_at s.views k g) (slot_at s.views k g)) (sym h.1)
      (kept.sweep.right k g a b) in
      dite (ℕ_discrete (spot k g) i)
      (λ e. let k_is : k ≡ l = omega arith in let g_is : g ≡ f = omega arith in
      subst (λ (z : ℕ). Right (fit mid g k (number s g)) (middle (spot k g) mid) z (number s g)
      (cached_at s.views k g) (slot_at s.views k g))
      (sym (ap (slot N) e ∙ m_here books disk cell body s kept id v w me i x in_row homes))
      (subst (λ (z : ℕ × ℕ). Right (fit d.work z.1 z.0 (number s z.1)) (middle (spot z.0 z.1) d.work)
      (slot s (spot z.0 z.1)) (number s z.1) (cached_at s.views k g) (slot_at s.views k g)
      → Right (fit mid z.1 z.0 (number s z.1)) (middle (spot z.0 z.1) mid) x (number s z.1)
      (cached_at s.views k g) (slot_at s.views k g)) (λ c. (sym k_is c, sym g_is c)) (here _ _) old))
      (λ n. right_same (fits k g (number s g) b n) (mids (spot k g) n)
      (m_else books disk cell body s kept id v w me i x in_row homes (spot k g) n) refl refl refl old))))
      apart (λ e z. subst (λ (o : Option Desk). elim o as (λ _. Type 0)
      [ None ↦ Unit {0} | Some y ↦ Stock y.books y.work hand ]) z stock)
      (fresh_stay kept.b kept.b (number s) (number s) s.views id v w me refl (λ f c p e y l z. z) kept.fresh)
      (same_work ∙ ap rounds_of h.1) refl

pass_le : (l k : ℕ) → k ≢ l → nat_le (l + 1) k ≡ nat_le l k
pass_le l k ne = dite (dec_le l k) (λ h. le-leb (l + 1) k (omega arith) ∙ sym (le-leb l k h))
    (λ h. lt-leb (l + 1) k (omega arith) ∙ sym (lt-leb l k (omega arith)))

-- a sweep that passes a lane leaves the other slots as they are
pub fit-pass : (f old l taken taken' : ℕ) (mid : Bool) (k g n : ℕ) → g < 16 → spot k g ≢ spot l f
    → fit (sweeping f old (l + 1) false taken) g k n ≡ fit (sweeping f old l mid taken') g k n
fit-pass f old l taken taken' mid k g n b ne = dite (ℕ_discrete f g)
    (λ e. ap (λ (y : Bool). cond (f == g) (cond y old 0) n) (pass_le l k (λ z. ne (omega arith))))
    (λ no. ap (λ (y : Bool). cond y (cond (nat_le (l + 1) k) old 0) n) (ne_eqb f g no)
    ∙ sym (ap (λ (y : Bool). cond y (cond (nat_le l k) old 0) n) (ne_eqb f g no)))

pub fit_now : (f old l : ℕ) (mid : Bool) (taken n : ℕ) → fit (sweeping f old l mid taken) f l n ≡ old
fit_now f old l mid taken n = fit_here f old l mid taken l n
    ∙ ap (λ (z : Bool). cond z old 0) (le-leb l l (omega arith))

pub other_middle : (f old l taken k : ℕ) → k ≢ spot l f → middle k (sweeping f old l true taken) ≡ 0
other_middle f old l taken k n = same-else (spot l f) k n ∙ refl

pub beyond_excepts : (lanes f old l taken g : ℕ) → excepts g (beyond lanes f old l taken) ≡ 0
beyond_excepts lanes f old l taken g = beyond_case (λ z. excepts g z ≡ 0) lanes f old l taken (λ _ _. refl) refl

-- the lane l is passed
pub right_passed : (f old l taken lanes : ℕ) (number slot' : ℕ → ℕ) (vs : List LaneView) → length vs ≤ lanes
    → Rights (sweeping f old (l + 1) false taken) number slot' vs → Rights (beyond lanes f old l taken) number slot' vs
right_passed f old l taken lanes number slot' vs few rights = beyond_case (λ z. Rights z number slot' vs) lanes f old
    l taken (λ _ e. sweep_ends f old (l + 1) taken lanes number slot' vs e few rights) rights
