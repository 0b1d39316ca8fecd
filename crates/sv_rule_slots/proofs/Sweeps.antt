-- The kind slot sweep keeps the rule.
use Rattle.std.proofs.Common.{Option, Some, [], ap, arith, false, length, length-set, refl, set, subst, sym, true, ℕ, ◌++◌, ◌+◌, ◌<◌, ◌∙◌, ◌∷◌, ◌≡◌, ◌≤◌}
use mathlib.Core.Logic.{dite}
use mathlib.Core.Option.{none, some}
use native.Mathlib.Decide.{dec_le, ℕ_discrete}
use lib.ListN.{get_elem?}
use Rattle.atomic_table.proofs.Lists.{set_else, set_here}
use Rattle.atomic_table.specs.Table.{Allows, Me, State, keeps, takes}
use Rattle.sv_model.specs.Books.{Books}
use Rattle.sv_model.specs.Cells.{Cell}
use Rattle.sv_model.specs.Lists.{same}
use Rattle.sv_model.specs.declared.sv_refs.SvRef.{SvRef}
use Rattle.sv_rule.specs.Fits.{BodyFits}
use Rattle.sv_rule.specs.Home.{SlotOk}
use Rattle.sv_rule.specs.Ledger.{most_hand}
use Rattle.sv_rule.specs.Rule.{Kept}
use Rattle.sv_rule.specs.Sweep.{Right}
use Rattle.sv_rule.specs.SweepPlays.{Swept, beyond}
use Rattle.sv_rule.specs.Table.{Box, cached_at, number, slot, slot_at, slot_home, slot_word, spot}
use Rattle.sv_rule.specs.UnderWay.{Apart, Stock, excepts, fit, middle}
use Rattle.sv_rule.specs.Views.{Bodied, Body, Desk, Disk, LaneView, Work, sweeping}
use Rattle.sv_rule.specs.declared.parts.Stored.{Stored}
use Rattle.sv_rule.specs.declared.parts.Stored.TheVariants as is
use Rattle.sv_rule.proofs.Basics.{every_cons, every_none}
use Rattle.sv_rule.proofs.StepRests.{accounts-bodies}
use Rattle.sv_rule.proofs.RoundTurns.{rounds_of}
use Rattle.sv_rule.proofs.Sums.{at_lt, marked, same-self}
use Rattle.sv_rule_slots.proofs.SweepSteps.{beyond_case, beyond_excepts, fit-pass, fit_now, in_row, kept-by-sweep, other_middle, right_passed, swept_view}

module _ {S D C B : Type 0} (books : S → Books) (disk : D → Disk) (cell : C → Option Cell) (body : B → Body) where
  -- what the rule says of the sweep under way
  pub work_is : (s : State (Stored S D C B) LaneView) (kept : Kept books disk cell body s) (id : ℕ) (v : LaneView)
      (me : get_elem? s.views id ≡ some v) (d : Desk) → v.locks.db ≡ Some d → (W : Work) → d.work ≡ W
      → Apart (number s) W × Stock d.books W v.hand
  work_is s kept id v me d has W is = let h = kept.home.desks id v me d has in (
    subst (λ (z : Work). Apart (number s) z) (sym h.1 ∙ is) kept.sweep.apart,
    subst (λ (z : Work). Stock d.books z v.hand) is (kept.sweep.stock id v me d has),
  )

  pub sweeps : (n id : ℕ) (m : Me (Stored S D C B) LaneView) (d : Desk) (f old l taken : ℕ) → f < 16 → l < 32
      → m.0.seat.spent ≡ false → m.0.locks.db ≡ Some d → d.work ≡ sweeping f old l false taken
      → length m.0.hand < most_hand
      → Allows (Kept books disk cell body) n id m (slot_word (spot l f)) (λ _. 2) (Swept body d f old l taken m)
  sweeps n id m d f old l taken near low alive has resting room s kept long me fits =
      let v = m.0 in let i = spot l f in let r : ℕ = slot s i in
      let row = in_row books disk cell body s kept id v me d has f l near low in let ok = kept.home.slots i row in
      let ws = work_is s kept id v me d has (sweeping f old l false taken) resting in
      let h = kept.home.desks id v me d has in
      let no_mid : (k : ℕ) → middle k d.work ≡ 0 = λ k. ap (middle k) resting in
      let fit_is : fit d.work f l (number s f) ≡ old = ap (λ (z : Work). fit z f l (number s f)) resting
      ∙ fit_now f old l false taken (number s f) in
      let the_old : Right (fit kept.work f l (number s f)) (middle i kept.work) r (number s f) (cached_at s.views l f)
      (slot_at s.views l f) = kept.sweep.right l f low near in
      let old_is : 256 ≤ r → r ≡ old = λ z. the_old.fitting z
      ∙ (ap (λ (z : Work). fit z f l (number s f)) (sym h.1) ∙ fit_is) in
      let accounts = kept.in_hand.accounts id v me alive in
      let out_fits : (y : SvRef B) → get_elem? (set s.homes (slot_home i) none) (slot_home i) ≡ some
      (some (is.Cached y)) → BodyFits kept.b (record { pack = y.pack; body = body y.body.value }) = λ y e.
      absurd (out_not y (sym (set_here s.homes (slot_home i) none (omega (arith, kept.home.seats.homes))) ∙ e)) in
      let out_home : (y : Stored S D C B) → get_elem? s.homes (slot_home i) ≡ some (some y)
      → SlotOk 2 (get_elem? (set s.homes (slot_home i) none) (slot_home i)) = λ y at_home.
      record {
        empty = λ z. absurd (omega arith);
        out = λ _ _. set_here s.homes (slot_home i) none
            (at_lt s.homes (slot_home i) (some y) at_home);
        cached = λ z. absurd (omega arith);
        marks = λ _. omega arith;
      } in
      dite (ℕ_discrete r 0)
      (λ e. let W = sweeping f old l true taken in (
        swept_view books disk cell body s kept id v me d has f l near low W v.hand v.known.bodies,
        takes (slot_home i) is.Nothing,
        ok.empty e,
        kept-by-sweep books disk cell body s kept id v me d has f l near low 2 W W v.hand v.known.bodies
            (set s.homes (slot_home i) none) accounts out_fits (length-set s.homes (slot_home i) none)
            (λ k n. set_else s.homes (slot_home i) k none n) (out_home is.Nothing (ok.empty e))
            (λ q z. omega (arith, ap (same q) e, marked q 0 z (omega arith), marked q 2 z (omega arith)))
            (kept.ledger.hands id v me)
            (λ k g n b ne. sym (ap (λ (z : Work). fit z g k n) resting))
            (λ k ne. other_middle f old l taken k ne ∙ sym (no_mid k))
            (λ c y o. record {
              empty = λ z. absurd (omega arith);
              full = λ z. absurd (omega arith);
              out = λ _ _. omega (arith, o.empty e, same-self i);
              cached = λ z. absurd (omega arith);
              fitting = λ z. absurd (omega arith);
              used = λ z. absurd (omega arith);
              away = λ z big same_number. absurd (omega (arith, o.away z big same_number));
              none = o.none;
            })
            (λ _ _ _ z. z) (λ g. sym (ap (excepts g) resting)) (sym (ap rounds_of resting)) ws.0 ws.1,
        record {
          empty = λ _. refl;
          old_is = old_is;
          cached = λ z. absurd (omega arith);
          passed = λ z _. absurd (omega arith);
        },
      ))
      (λ some_found. dite (dec_le 256 r)
      (λ z. let x = ok.cached z in let W = sweeping f old l true (taken + 1) in let r_is = old_is z in
      let b : Bodied = record { pack = r; body = body x.0.body.value } in
      let fit_x : BodyFits kept.b b = subst (λ (p : ℕ). BodyFits kept.b
      (record { pack = p; body = body x.0.body.value })) x.2 (kept.held.bodies i x.0 row x.1) in (
        swept_view books disk cell body s kept id v me d has f l near low W (r ∷ v.hand) (v.known.bodies ++ b ∷ []),
        takes (slot_home i) (is.Cached x.0),
        x.1,
        kept-by-sweep books disk cell body s kept id v me d has f l near low 2 W W (r ∷ v.hand)
            (v.known.bodies ++ b ∷ []) (set s.homes (slot_home i) none)
            (accounts-bodies kept.b v.known (b ∷ []) (every_cons (BodyFits kept.b) b [] fit_x
            (every_none (BodyFits kept.b))) accounts) out_fits (length-set s.homes (slot_home i) none)
            (λ k n. set_else s.homes (slot_home i) k none n) (out_home (is.Cached x.0) x.1)
            (λ q y. omega (arith, marked q 2 y (omega arith))) (omega arith)
            (λ k g n b ne. sym (ap (λ (y : Work). fit y g k n) resting))
            (λ k ne. other_middle f old l (taken + 1) k ne ∙ sym (no_mid k))
            (λ c y o. record {
              empty = λ w. absurd (omega arith);
              full = λ w. absurd (omega arith);
              out = λ _ _. omega (arith, o.full z, same-self i);
              cached = λ w. absurd (omega arith);
              fitting = λ w. absurd (omega arith);
              used = λ w. absurd (omega arith);
              away = λ w big same_number. absurd (ws.0 near (omega arith) (sym r_is ∙ (o.cached z ∙ same_number)));
              none = o.none;
            })
            (λ _ _ _ y. y) (λ g. sym (ap (excepts g) resting)) (sym (ap rounds_of resting)) ws.0
            (λ big. omega (arith, ws.1 big, ap (same old) r_is, same-self old)),
        record {
          empty = λ e. absurd (some_found e);
          old_is = old_is;
          cached = λ _. (x.0, x.2, refl);
          passed = λ _ y. absurd (omega arith);
        },
      ))
      (λ nz. let small : r < 256 = omega arith in let pos : 0 < r = omega arith in
      let W = beyond v.seat.lanes f old l taken in let few : length s.views ≤ v.seat.lanes = omega
      (arith, kept.home.seats.views, kept.home.seats.told id v me alive) in (
        swept_view books disk cell body s kept id v me d has f l near low W v.hand v.known.bodies,
        keeps,
        tt,
        kept-by-sweep books disk cell body s kept id v me d has f l near low 2 (sweeping f old (l + 1) false taken) W
            v.hand v.known.bodies s.homes accounts (λ y e. kept.held.bodies i y row e) refl (λ _ _. refl)
            record {
              empty = λ y. absurd (omega arith);
              out = λ _ _. ok.out pos small;
              cached = λ y. absurd (omega arith);
              marks = λ _. omega arith;
            }
            (λ q y. omega (arith, marked q r y small, marked q 2 y (omega arith))) (kept.ledger.hands id v me)
            (λ k g n b ne. fit-pass f old l taken taken false k g n b ne
            ∙ sym (ap (λ (z : Work). fit z g k n) resting)) (λ k ne. sym (no_mid k))
            (λ c y o. record {
              empty = λ z. absurd (omega arith);
              full = λ z. absurd (omega arith);
              out = λ _ _. omega (arith, o.out pos small, no_mid i);
              cached = λ z. absurd (omega arith);
              fitting = λ z. absurd (omega arith);
              used = λ z. absurd (omega arith);
              away = λ z big same_number. absurd (omega (arith, o.away z big same_number));
              none = o.none;
            })
            (λ slot' vs e. right_passed f old l taken v.seat.lanes (number s) slot' vs (omega (arith, few)))
            (λ g. beyond_excepts v.seat.lanes f old l taken g ∙ sym (ap (excepts g) resting))
            (beyond_case (λ z. rounds_of z ≡ rounds_of (sweeping f old l false taken)) v.seat.lanes f old l taken
            (λ _ _. refl) refl ∙ sym (ap rounds_of resting))
            (beyond_case (λ z. Apart (number s) z) v.seat.lanes f old l taken (λ _ _. tt) ws.0)
            (beyond_case (λ z. Stock d.books z v.hand) v.seat.lanes f old l taken (λ _ _. tt) ws.1),
        record {
          empty = λ e. absurd (some_found e);
          old_is = old_is;
          cached = λ y. absurd (nz y);
          passed = λ _ _. refl;
        },
      )))
    where
      out_not : (y : SvRef B) → ◌≡◌ {A = Box (Stored S D C B)} (some none) (some (some (is.Cached y))) → ⊥
      out_not y e = cc
