-- The kind reference set keeps the rule, where it closes a place after a cleanup.
-- a pack that is owed is Live
use Rattle.std.proofs.Common.{List, None, Option, Some, [], ap, arith, length, option_map, refl, slice_get, subst, sym, ℕ, ⊎_elim, ◌%◌, ◌++◌, ◌+◌, ◌/◌, ◌<◌, ◌∙◌, ◌≡◌, ◌⊎◌}
use Rattle.sv_model.specs.Tasks.{Task}
use Rattle.sv_model.specs.Turns.{EndsSuper, NoneRetires, Turns}
use Rattle.sv_model.specs.Supers.{LiveAt, current_of, pack}
use mathlib.Core.Logic.{dite}
use native.Mathlib.Decide.{ℕ_discrete}
use Rattle.atomic_table.specs.Table.{Allows, Me, State, keeps}
use Rattle.sv_model.specs.Books.{Books}
use Rattle.sv_model.specs.Cells.{Cell}
use Rattle.sv_model.specs.Lists.{same, total}
use Rattle.sv_model.specs.declared.records.Family.{Family}
use Rattle.sv_model.specs.declared.records.SuperVersion.{SuperVersion}
use Rattle.sv_rule.specs.Fits.{BodyFits}
use Rattle.sv_rule.specs.Fresh.{FreshOf}
use Rattle.sv_rule.specs.Home.{IsState}
use Rattle.sv_rule.specs.Ledger.{Counted, Vacant}
use Rattle.sv_rule.specs.ReferencePlays.{MaySettle, Settled, settled}
use Rattle.sv_rule.specs.Rule.{Kept}
use Rattle.sv_rule.specs.Table.{holders, home, number, number_word, owers, owes, reference, reference_word, slot, slot_word, word}
use Rattle.sv_rule.specs.Tasks.{fill_count, fills, has_db, some_count}
use Rattle.sv_rule.specs.UnderWay.{Stock}
use Rattle.sv_rule.specs.Views.{Body, CellHeld, Desk, Disk, LaneView}
use Rattle.sv_rule.specs.declared.parts.Stored.{Stored}
use Rattle.sv_rule.proofs.Assembly.{N, kept-by-word, low_id, stays}
use Rattle.sv_rule.proofs.Basics.{at_desk, every_map, has_one, no_desk_in}
use Rattle.sv_rule.proofs.CurrentTurns.{currents-stand, silent-stays}
use Rattle.sv_rule.proofs.DbLock.{db-desk, owners-desk}
use Rattle.sv_rule.proofs.FitLaws.{body-after}
use Rattle.sv_rule.proofs.FreshTurns.{fresh-stands, stock-turn}
use Rattle.sv_rule.proofs.LockLaws.{alone}
use Rattle.sv_rule.proofs.NumberTurns.{gone-back, gone-current, live-gone, live-stays, numbers-gone}
use Rattle.sv_rule.proofs.Places.{places_close}
use Rattle.sv_rule.proofs.RoundTurns.{loaded-turn, rounds-on}
use Rattle.sv_rule.proofs.RoundRises.{has-current-same}
use Rattle.sv_rule.proofs.StepLaws.{apart_same, fresh_stay, holders_by_view, numbers_same, rights_stay, views_move, word_here}
use Rattle.sv_rule.proofs.Sums.{same-else, same-self, term_le, total-one, total-without}
use Rattle.sv_rule.proofs.TurnRest.{journal-stands, mine-turns, rest-turns, says-closes}
use Rattle.sv_rule.proofs.LockCounts.{fills_none}

live_there : {supers : List SuperVersion} {h o : ℕ → ℕ} {w : ℕ} (t k : ℕ) → 0 < t → k < 256 → Vacant supers h o k w
    ⊎ Counted supers h o k w → 0 < o (pack t k) → LiveAt supers t k
live_there {supers} {h} {o} {w} t k pos near place owed = ⊎_elim
    (λ (v : Vacant supers h o k w). absurd (omega (arith, v.unowed t pos)))
    (λ (c : Counted supers h o k w). dite (ℕ_discrete t c.serial)
    (λ e. subst (λ (z : ℕ). LiveAt supers z k) (sym e) c.live)
    (λ n. absurd (omega (arith, c.others_unowed t pos n)))) place

pub fills_no_db : (v : LaneView) → has_db v ≡ 0 → (k : ℕ) → fills k v ≡ 0
fills_no_db v e k = by v.locks.db v.locks.cell e
  where
    by : (o : Option Desk) (h : Option CellHeld) → some_count o ≡ 0
        → fill_count k (option_map (λ (d : Desk). d.due) o) h ≡ 0
    by None h e = refl
    by (Some d) h e = absurd (omega arith)

module _ {S D C B : Type 0} (books : S → Books) (disk : D → Disk) (cell : C → Option Cell) (body : B → Body) where
  pub settles_place : (n id : ℕ) (m : Me (Stored S D C B) LaneView) (p : ℕ) (c : Books) (u : Task) (cells : List ℕ)
      (may : MaySettle m.0 p c u cells)
      → Allows (Kept books disk cell body) n id m (reference_word (p % 256)) (λ _. 0) (Settled p c u cells may.desk m)
  settles_place n id m p c u cells may s kept long me fits =
      let v = m.0 in let d = may.desk in let w = settled p c u cells d v in let k : ℕ = p % 256 in
      let i = reference_word k in let near : k < 256 = omega arith in let work = kept.work in
      let h = kept.home.desks id v me d may.has in let a = kept.b in
      let turns : Turns v.known.lane a v.known.task c u [] = subst
      (λ (z : Books). Turns v.known.lane z v.known.task c u []) h.0 may.turns in
      let gone : EndsSuper a c p cells = subst (λ (z : Books). EndsSuper z c p cells) h.0 may.gone in
      let later = turns.counts.later in let lawful = turns.counts.lawful in let before = kept.numbers.lawful in
      let journal : c.journal ≡ a.journal = journal-stands a.journal c.journal turns.counts.journal in
      let current : (g : ℕ) → current_of c g ≡ current_of a g = gone-current a c later p cells gone in
      let d' : Desk = record { books = c; work = d.work; due = d.due ++ cells } in
      let next' : State (Stored S D C B) LaneView = N books disk cell body s kept id v w me i 0 (omega arith)
      (omega arith) in
      let else = stays books disk cell body s kept id v w me i 0 (omega arith) (omega arith) in
      let numbers : (g : ℕ) → g < 16 → number next' g ≡ number s g = λ g l. else (number_word g) (λ z. omega arith) in
      let p_is : pack (p / 256) k ≡ p = omega arith in
      let pos : 0 < p / 256 = omega (arith, may.big) in
      let owes_all : 0 < owers s p = omega (arith, term_le (owes p) s.views id v me, may.owed) in
      let less : (q : ℕ) → owers next' q + same q p ≡ owers s q = λ q. omega
      (arith, views_move s i 0 s.homes id v w me (owes q), total-without p v.owes may.owed q) in
      let no_fills : (q : ℕ) → total (fills q) s.views ≡ 0 = λ q.
      total-one (fills q) s.views id v me (λ j y ne at_y. fills_no_db y
      (alone (IsState {S = S} {D = D} {C = C} {B = B} books a work) has_db (word s 0) (home s 0) s.views id v me
      (has_one v d may.has) kept.home.db j y ne at_y) q) ∙ fills_none v may.cell q in (
        w,
        keeps,
        tt,
        kept-by-word books disk cell body s kept id v w me i 0 (omega arith) (omega arith) c work
            (db-desk books disk cell body s kept id v w me d d' may.has refl c work)
            (owners-desk books disk cell body s kept id v w me d d' may.has refl c work refl h.1)
            (rest-turns books disk cell body s kept id v w me i 0 c work (omega arith) may.alive refl refl refl refl
            refl refl refl turns
            (mine-turns books disk cell body s kept id v w me i 0 c v.known.bodies may.alive refl refl refl turns
            (every_map (BodyFits a) (BodyFits c) v.known.bodies (body-after a c later)
            (kept.in_hand.accounts id v me may.alive).fits.bodies))
            (currents-stand a c s.views id v w me refl refl gone.tops (same_families a c gone.families)
            (ap (λ (l : List Family). length l) gone.families) kept.in_hand.currents)
            (silent-stays a c s.views id v w me refl refl work (number s) (number next') numbers
            (λ z. absurd (omega (arith, has_one w d' refl))) (λ z. absurd (omega (arith, has_one w d' refl)))
            kept.in_hand.silent)
            (says-closes a c s.views id v w me d d' may.has refl refl journal before p cells gone refl no_fills))
            (places_close a.supers c.supers (reference s) (reference next') (holders s) (holders next') (owers s)
            (owers next') (p / 256) k pos near (live_there (p / 256) k pos near (kept.ledger.places k near)
            (subst (λ (z : ℕ). 0 < owers s z) (sym p_is) owes_all)) kept.ledger.places
            (subst (λ (z : ℕ). 0 < owers s z) (sym p_is) owes_all)
            (λ j n. else (reference_word j) (λ e. n (omega arith)))
            (word_here s i 0 s.homes id v w me (omega (arith, kept.home.seats.words)))
            (λ q. omega (
              arith,
              holders_by_view s i 0 s.homes id v w me (λ f l e. omega arith) (λ f l e. omega arith)
                  q,
            ))
            (λ q n. omega (arith, less q, same-else q p (λ e. n (sym e ∙ sym p_is))))
            (subst (λ (z : ℕ). owers next' z + 1 ≡ owers s z) (sym p_is) (omega (arith, less p, same-self p)))
            (live-gone a c later p cells gone) (live-stays a c later p cells gone))
            (kept.ledger.hands id v me) (kept.home.seats.slots id v me) refl
            (λ z. absurd (no_desk_in may.has (ap (λ (u : LaneView). u.locks.db) (kept.home.seats.spent id v me z))))
            (numbers_same c work (number s) (number next') numbers
            (numbers-gone a c later p cells gone work (number s) lawful journal kept.numbers))
            (rights_stay work work (number s) (number next') (slot s) (slot next') s.views id v w me
            (low_id books disk cell body s kept id v w me) refl numbers
            (λ j l. else (slot_word j) (λ z. omega arith)) (λ l g q. refl) (λ j. refl) kept.sweep.right)
            (apart_same (number s) (number next') work numbers kept.sweep.apart)
            (λ e z. at_desk (λ y. Stock y.books y.work v.hand) w.locks.db d' e refl z
            (stock-turn a c current d.work v.hand (subst (λ (y : Books). Stock y d.work v.hand) h.0
            (kept.sweep.stock id v me d may.has))))
            (fresh_stay a c (number s) (number next') s.views id v w me refl
            (λ g q r e y l o. subst (λ (z : ℕ). FreshOf c z g y q r e) (sym (numbers g l))
            (fresh-stands a c later (number s g) g q r e y (current g) o)) kept.fresh)
            (rounds-on a c work work (word s 82) (word next' 82) (number s) (number next') s.views id v w me
            (else 82 (λ z. omega arith)) numbers refl kept.rounds
            (loaded-turn a c later (gone-back a c later p cells gone) work work kept.rounds.moved (number s)
            (number next') numbers (λ g. refl) (λ g z. current g))
            (omega (
              arith,
              kept.rounds.bound,
              has-current-same a c current,
              gone.gone.long,
              ap (λ (l : List Family). length l) gone.families,
            )) refl),
        refl,
      )
    where
      same_families : (a c : Books) → c.families ≡ a.families → NoneRetires a.families c.families
      same_families a c e = record {
        goes = λ f x at. (x, ap (λ l. slice_get l f) e ∙ at, refl);
        long = omega (arith, ap (λ (l : List Family). length l) e);
      }
