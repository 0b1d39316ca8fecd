-- The kind round add keeps the rule.
-- a family that has a current has none any more
use Rattle.std.proofs.Common.{Bool, List, Option, Some, [], ap, arith, cond, false, inl, inr, length, option_map, refl, set, slice_get, subst, suc, sym, true, ℕ, ⊎_elim, ◌%◌, ◌+◌, ◌<◌, ◌==◌, ◌^◌, ◌∙◌, ◌∷◌, ◌≡◌, ◌≤◌, ◌⊎◌}
use Rattle.sv_model.specs.Tasks.{Task}
use Rattle.sv_model.specs.Turns.{EndsCurrent, Turns}
use Rattle.sv_model.specs.Supers.{current_of, has_current}
use mathlib.Core.Logic.{dite}
use mathlib.Core.Option.{some}
use mathlib.Core.Option as maybe
use native.Mathlib.Decide.{ℕ_discrete}
use lib.ListN.{get_elem?}
use Rattle.atomic_table.specs.Table.{Allows, Me, State, keeps}
use Rattle.sv_model.specs.After.{After}
use Rattle.sv_model.specs.Books.{Books}
use Rattle.sv_model.specs.Cells.{Cell}
use Rattle.sv_model.specs.Families.{is_retired}
use Rattle.sv_model.specs.Lists.{In, at}
use Rattle.sv_model.specs.declared.records.Family.{Family}
use Rattle.sv_model.specs.declared.records.SuperVersion.{SuperVersion}
use Rattle.sv_model.specs.declared.records.Top.{Top}
use Rattle.sv_model.proofs.Lists.{same_is}
use Rattle.sv_rule.specs.Fits.{BodyFits}
use Rattle.sv_rule.specs.Fresh.{FreshOf}
use Rattle.sv_rule.specs.InHand.{CurrentsStand, IsClosing}
use Rattle.sv_rule.specs.Ledger.{Places}
use Rattle.sv_rule.specs.Numbers.{Numbers}
use Rattle.sv_rule.specs.RoundPlays.{EndedCurrent, MayEndCurrent, Rounded, ended_current, is_retired_in, rounded}
use Rattle.sv_rule.specs.Rounds.{Rounds}
use Rattle.sv_rule.specs.Rule.{Kept}
use Rattle.sv_rule.specs.Sums.{below}
use Rattle.sv_rule.specs.Table.{holders, number, number_word, owers, owes, reference, reference_word, slot, slot_word, word}
use Rattle.sv_rule.specs.UnderWay.{Stock, excepts, fit, middle}
use Rattle.sv_rule.specs.Views.{Body, Desk, Disk, Joined, LaneView, Seat, Work, begun, idle, opens}
use Rattle.sv_rule.specs.declared.parts.Stored.{Stored}
use Rattle.sv_rule.proofs.Assembly.{N, kept-by-word, low_id, stays}
use Rattle.sv_rule.proofs.Basics.{at_desk, every_map, no_desk_in, some_is, true_not, views-else, views-here}
use Rattle.sv_rule.proofs.CurrentLaws.{get_lt, has_current_none, has_current_one, some-at}
use Rattle.sv_rule.proofs.DbLock.{db-desk, owners-desk}
use Rattle.sv_rule.proofs.FitLaws.{body-after}
use Rattle.sv_rule.proofs.FreshTurns.{fresh-turn}
use Rattle.sv_rule.proofs.NumberTurns.{ended-current, ended-others, numbers-ended}
use Rattle.sv_rule.proofs.NumberWorks.{numbers-work}
use Rattle.sv_rule.proofs.Places.{places_same}
use Rattle.sv_rule.proofs.StepRests.{hand_view, rest-same}
use Rattle.sv_rule.proofs.RoundRises.{rounds-rise}
use Rattle.sv_rule.proofs.StepLaws.{fresh_same, fresh_stay, holders_by_view, numbers_same, rights_stay, views_move, word_here}
use Rattle.sv_rule.proofs.Sums.{below-put}
use Rattle.sv_rule.proofs.TurnRest.{journal-stands, mine-turns, rest-turns, says-same}

fewer : (a b : Books) (later : After a b) (f : ℕ) → f < 16 → 256 ≤ current_of a f → EndsCurrent a b f
    → below (has_current b) 16 + 1 ≤ below (has_current a) 16
fewer a b later f near big h = omega (
  arith,
  below-put (has_current a) (has_current b) f 16 near (λ k n. ap (λ c. cond (c == 0) 0 1)
      (ended-others a b later f h k n)),
  has_current_none b f (ended-current a b later f h),
  has_current_one a f big,
)

-- who may have no current: the family is retired, or the lane ends it at the close
currents-end : (a b : Books) (vs : List LaneView) (id : ℕ) (v w : LaneView) → get_elem? vs id ≡ some v
    → v.seat.spent ≡ false → (f : ℕ) (h : EndsCurrent a b f) (x : Family) → slice_get b.families f ≡ Some x
    → (is_retired x ≡ true) ⊎ (length v.joined + 1 ≡ v.seat.lanes) → w.joined ≡ v.joined
    → w.seat ≡ record v.seat {
      ends = cond (is_retired_in (slice_get b.families f)) v.seat.ends
          (f ∷ v.seat.ends);
    } → CurrentsStand a vs → CurrentsStand b (set vs id w)
currents-end a b vs id v w me alive f h x x_at may joined seat c = record {
  retired = λ g y t at on is. dite (ℕ_discrete g f)
      (λ e. ap (λ (z : Top). z.current) (some_is (sym on ∙ (ap (slice_get b.tops) e ∙ h.on))) ∙ h.none)
      (λ n. let z = back g y at in c.retired g z.0 t z.1 (sym (h.others g n) ∙ on)
      (sym (h.families g z.0 y n z.1 at) ∙ is));
  others = λ g y t at on ended. dite (ℕ_discrete g f)
      (λ e. let same_family : x ≡ y = some_is (sym x_at ∙ (ap (slice_get b.families) (sym e) ∙ at)) in
      by_retired (is_retired x) refl g e y same_family)
      (λ n. let z = back g y at in ⊎_elim (λ q. inl (h.families g z.0 y n z.1 at ∙ q)) (λ q. inr (still g q))
      (c.others g z.0 t z.1 (sym (h.others g n) ∙ on) ended));
}
  where
    ends_of : Bool → List ℕ
    ends_of q = cond q v.seat.ends (f ∷ v.seat.ends)

    is_in : is_retired_in (slice_get b.families f) ≡ is_retired x
    is_in = ap is_retired_in x_at

    back : (g : ℕ) (y : Family) → slice_get b.families g ≡ Some y → (z : Family) × (slice_get a.families g ≡ Some z)
    back g y at = some-at a.families g (omega (arith, get_lt b.families g y at, h.long))

    more_in : (q : Bool) (g : ℕ) → In g v.seat.ends → In g (cond q v.seat.ends (f ∷ v.seat.ends))
    more_in true g k = k
    more_in false g k = record { at = suc k.at; is = k.is }

    all_now : length v.joined + 1 ≡ v.seat.lanes → length w.joined + 1 ≡ w.seat.lanes
    all_now e = ap (λ (l : List Joined). length l + 1) joined ∙ (e ∙ sym (ap (λ (z : Seat). z.lanes) seat))

    alive_now : w.seat.spent ≡ false
    alive_now = ap (λ (z : Seat). z.spent) seat ∙ alive

    -- a closing view stays one
    still : (g : ℕ) → ((j : ℕ) × (u : LaneView) × (get_elem? vs j ≡ some u) × IsClosing g u) → (j : ℕ)
        × (u : LaneView) × (get_elem? (set vs id w) j ≡ some u) × IsClosing g u
    still g q = dite (ℕ_discrete q.0 id)
        (λ e. let k : IsClosing g v = subst (IsClosing g)
        (maybe.some-injective q.1 v (sym q.2 ∙ (ap (get_elem? vs) e ∙ me))) q.3 in (
          id,
          w,
          views-here vs id v w me,
          record {
            all = all_now k.all;
            alive = alive_now;
            ends = subst (λ (z : Seat). In g z.ends) (sym seat)
                (more_in (is_retired_in (slice_get b.families f)) g k.ends);
          },
        ))
        (λ n. (q.0, q.1, views-else vs id q.0 w n ∙ q.2, q.3))

    -- the lane ends it, where the family is not retired
    closing : is_retired x ≡ false → (g : ℕ) → g ≡ f → IsClosing g w
    closing open_still g e = record {
      all = all_now (⊎_elim (λ z. absurd (true_not (sym z ∙ open_still))) (λ z. z) may);
      alive = alive_now;
      ends = subst (λ (z : Seat). In g z.ends) (sym seat)
          (subst (λ (q : Bool). In g (cond q v.seat.ends (f ∷ v.seat.ends))) (sym (is_in ∙ open_still))
          (record { at = 0; is = ap Some (sym e) }));
    }

    by_retired : (q : Bool) → is_retired x ≡ q → (g : ℕ) → g ≡ f → (y : Family) → x ≡ y → (is_retired y ≡ true)
        ⊎ ((j : ℕ) × (u : LaneView) × (get_elem? (set vs id w) j ≡ some u) × IsClosing g u)
    by_retired true is g e y same_family = inl (ap is_retired (sym same_family) ∙ is)
    by_retired false is g e y same_family = inr (id, w, views-here vs id v w me, closing is g e)

module _ {S D C B : Type 0} (books : S → Books) (disk : D → Disk) (cell : C → Option Cell) (body : B → Body) where
  -- the work is set, and begins
  pub rounds : (n id : ℕ) (m : Me (Stored S D C B) LaneView) (f : ℕ) (d : Desk) → m.0.seat.spent ≡ false
      → m.0.locks.db ≡ Some d → d.work ≡ opens f → Allows (Kept books disk cell body) n id m 82
      (λ y. (y + 1) % 2 ^ 64) (Rounded f d m)
  rounds n id m f d alive has set_work s kept long me fits =
      let v = m.0 in let w = rounded f d v in let x : ℕ = (word s 82 + 1) % 2 ^ 64 in
      let h = kept.home.desks id v me d has in let b = kept.b in
      let d' : Desk = record { books = d.books; work = begun f; due = d.due } in
      let is_set : kept.work ≡ opens f = sym h.1 ∙ set_work in
      let next' : State (Stored S D C B) LaneView = N books disk cell body s kept id v w me 82 x (omega arith)
      (omega arith) in
      let else = stays books disk cell body s kept id v w me 82 x (omega arith) (omega arith) in
      let numbers : (g : ℕ) → g < 16 → number next' g ≡ number s g = λ g l. else (number_word g) (λ z. omega arith) in
      let hands : hand_view w ≡ hand_view v = λ k. (
        v.seat,
        v.known.task,
        v.counts.faults,
        v.locks.cell,
        sym (ap (option_map (λ (y : Desk). y.due)) has) k,
        v.joined,
        v.locks.dir,
        v.known.lane,
        v.known.start,
      ) in
      let r : Rounds b (opens f) (word s 82) (number s) s.views = subst
      (λ (z : Work). Rounds b z (word s 82) (number s) s.views) is_set kept.rounds in (
        w,
        keeps,
        tt,
        kept-by-word books disk cell body s kept id v w me 82 x (omega arith) (omega arith) b (begun f)
            (db-desk books disk cell body s kept id v w me d d' has refl b (begun f))
            (owners-desk books disk cell body s kept id v w me d d' has refl b (begun f) h.0 refl)
            (rest-same books disk cell body s kept id v w me 82 x hands (begun f) (omega arith) numbers
            (λ g z. subst (λ (y : Work). 0 < excepts g y) (sym is_set) z) (λ e. kept.in_hand.accounts id v me e))
            (places_same b.supers (reference s) (reference next') (holders s) (holders next') (owers s) (owers next')
            (λ k l. else (reference_word k) (λ z. omega arith))
            (λ q l. omega (
              arith,
              holders_by_view s 82 x s.homes id v w me (λ f l e. omega arith)
                  (λ f l e. omega arith) q,
            ))
            (λ q l. omega (arith, views_move s 82 x s.homes id v w me (owes q))) kept.ledger.places)
            (kept.ledger.hands id v me) (kept.home.seats.slots id v me) refl
            (λ z. absurd (no_desk_in has (ap (λ (u : LaneView). u.locks.db) (kept.home.seats.spent id v me z))))
            (numbers_same b (begun f) (number s) (number next') numbers
            (numbers-work b (opens f) (begun f) (number s) (λ g. refl)
            (subst (λ (z : Work). Numbers b z (number s)) is_set kept.numbers)))
            (rights_stay kept.work (begun f) (number s) (number next') (slot s) (slot next') s.views id v w me
            (low_id books disk cell body s kept id v w me) refl numbers
            (λ j l. else (slot_word j) (λ z. omega arith))
            (λ l g c. sym (ap (λ (z : Work). fit z g l c) is_set)) (λ j. sym (ap (middle j) is_set)) kept.sweep.right)
            tt
            (λ e z. at_desk (λ y. Stock y.books y.work v.hand) w.locks.db d' e refl z
            (subst (λ (y : Work). Stock d.books y v.hand) set_work (kept.sweep.stock id v me d has)))
            (fresh_stay b b (number s) (number next') s.views id v w me refl
            (λ g c q e y l. fresh_same b (number s) (number next') numbers g c q e y l) kept.fresh)
            (rounds-rise b b (opens f) f (word s 82) (word next' 82) (number s) (number next') s.views id v w me
            (word_here s 82 x s.homes id v w me (omega (arith, kept.home.seats.words))
            ∙ omega (arith, r.bound, kept.numbers.lawful.limits.supers, kept.numbers.lawful.limits.families))
            (omega (arith, r.bound)) refl refl refl r),
        refl,
      )

  -- a family's current ends, and the work begins
  pub rounds_ended : (n id : ℕ) (m : Me (Stored S D C B) LaneView) (f : ℕ) (c : Books) (u : Task)
      (may : MayEndCurrent m.0 f c u) → Allows (Kept books disk cell body) n id m 82 (λ y. (y + 1) % 2 ^ 64)
      (EndedCurrent f c u may.desk m)
  rounds_ended n id m f c u may s kept long me fits =
      let v = m.0 in let d = may.desk in let w = ended_current f c u d v in let x : ℕ = (word s 82 + 1) % 2 ^ 64 in
      let h = kept.home.desks id v me d may.has in let a = kept.b in
      let d' : Desk = record { books = c; work = begun f; due = d.due } in
      let resting : kept.work ≡ idle = sym h.1 ∙ may.resting in
      let turns : Turns v.known.lane a v.known.task c u [] = subst
      (λ (z : Books). Turns v.known.lane z v.known.task c u []) h.0 may.turns in
      let ended : EndsCurrent a c f = subst (λ (z : Books). EndsCurrent z c f) h.0 may.ended in
      let big : 256 ≤ current_of a f = omega (arith, may.current, ap (λ (z : Books). current_of z f) h.0) in
      let later = turns.counts.later in let lawful = turns.counts.lawful in let before = kept.numbers.lawful in
      let journal : c.journal ≡ a.journal = journal-stands a.journal c.journal turns.counts.journal in
      let next' : State (Stored S D C B) LaneView = N books disk cell body s kept id v w me 82 x (omega arith)
      (omega arith) in
      let else = stays books disk cell body s kept id v w me 82 x (omega arith) (omega arith) in
      let numbers : (g : ℕ) → g < 16 → number next' g ≡ number s g = λ g l. else (number_word g) (λ z. omega arith) in
      let at_idle : Numbers a idle (number s) = subst (λ (z : Work). Numbers a z (number s)) resting kept.numbers in
      let number_is : number s f ≡ current_of a f = (at_idle.word f may.near).current refl in
      let r : Rounds a idle (word s 82) (number s) s.views = subst
      (λ (z : Work). Rounds a z (word s 82) (number s) s.views) resting kept.rounds in (
        w,
        keeps,
        tt,
        kept-by-word books disk cell body s kept id v w me 82 x (omega arith) (omega arith) c (begun f)
            (db-desk books disk cell body s kept id v w me d d' may.has refl c (begun f))
            (owners-desk books disk cell body s kept id v w me d d' may.has refl c (begun f) refl refl)
            (rest-turns books disk cell body s kept id v w me 82 x c (begun f) (omega arith) may.alive refl refl refl
            refl refl refl refl turns
            (mine-turns books disk cell body s kept id v w me 82 x c v.known.bodies may.alive refl refl refl turns
            (every_map (BodyFits a) (BodyFits c) v.known.bodies (body-after a c later)
            (kept.in_hand.accounts id v me may.alive).fits.bodies))
            (currents-end a c s.views id v w me may.alive f ended may.family may.family_at may.may refl refl
            kept.in_hand.currents)
            (λ g l excepted none_shown. absurd (omega (
              arith,
              ap (number s) (sym (same_is f g excepted)),
              numbers g l,
              none_shown,
              number_is,
              big,
            )))
            (says-same a c s.views id v w me d d' may.has refl refl journal ended.memtables refl))
            (subst (λ (z : List SuperVersion). Places z (reference next') (holders next') (owers next'))
            (sym ended.supers)
            (places_same a.supers (reference s) (reference next') (holders s) (holders next') (owers s) (owers next')
            (λ k l. else (reference_word k) (λ z. omega arith))
            (λ q l. omega (
              arith,
              holders_by_view s 82 x s.homes id v w me (λ f l e. omega arith)
                  (λ f l e. omega arith) q,
            ))
            (λ q l. omega (arith, views_move s 82 x s.homes id v w me (owes q))) kept.ledger.places))
            (kept.ledger.hands id v me) (kept.home.seats.slots id v me) refl
            (λ z. absurd (no_desk_in may.has (ap (λ (u : LaneView). u.locks.db) (kept.home.seats.spent id v me z))))
            (numbers_same c (begun f) (number s) (number next') numbers
            (numbers-ended a c later f ended (number s) lawful journal (omega (arith, number_is, big)) at_idle))
            (rights_stay kept.work (begun f) (number s) (number next') (slot s) (slot next') s.views id v w me
            (low_id books disk cell body s kept id v w me) refl numbers
            (λ j l. else (slot_word j) (λ z. omega arith))
            (λ l g q. sym (ap (λ (z : Work). fit z g l q) resting)) (λ j. sym (ap (middle j) resting)) kept.sweep.right)
            tt
            (λ e z. at_desk (λ y. Stock y.books y.work v.hand) w.locks.db d' e refl z
            (λ y. absurd (omega (arith, ended-current a c later f ended))))
            (fresh_stay a c (number s) (number next') s.views id v w me refl
            (λ g q t e y l o. subst (λ (z : ℕ). FreshOf c z g y q t e) (sym (numbers g l))
            (fresh-turn a c later (number s g) g q t e y (λ p is_old zero_now not_current. dite (ℕ_discrete g f)
            (λ z now. omega (arith, ap (number s) z, number_is, big, zero_now))
            (λ z now. not_current (now ∙ ended-others a c later f ended g z))) o)) kept.fresh)
            (rounds-rise a c idle f (word s 82) (word next' 82) (number s) (number next') s.views id v w me
            (word_here s 82 x s.homes id v w me (omega (arith, kept.home.seats.words))
            ∙ omega (arith, r.bound, before.limits.supers, before.limits.families))
            (omega (
              arith,
              r.bound,
              fewer a c later f may.near big ended,
              ap (λ (l : List SuperVersion). length l) ended.supers,
              ended.long,
            )) refl refl refl r),
        refl,
      )
