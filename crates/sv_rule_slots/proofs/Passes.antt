-- The kind slot home, in a sweep, keeps the rule.
use Rattle.std.proofs.Common.{List, Option, Some, ap, arith, false, length, length-set, refl, set, subst, sym, true, ℕ, ◌+◌, ◌<◌, ◌∙◌, ◌∷◌, ◌≡◌, ◌≤◌}
use mathlib.Core.Logic.{dite}
use mathlib.Core.Option.{some}
use native.Mathlib.Decide.{dec_le, ℕ_discrete}
use Rattle.atomic_table.proofs.Lists.{set_else, set_here}
use Rattle.atomic_table.specs.Table.{Allows, Me, gives}
use Rattle.sv_model.specs.Books.{Books}
use Rattle.sv_model.specs.Cells.{Cell}
use Rattle.sv_rule.specs.Rule.{Kept}
use Rattle.sv_rule.specs.Sweep.{Right}
use Rattle.sv_rule.specs.SweepPlays.{Passed, beyond}
use Rattle.sv_rule.specs.Table.{cached_at, number, slot, slot_at, slot_home, slot_word, spot}
use Rattle.sv_rule.specs.UnderWay.{Apart, Stock, excepts, fit, middle}
use Rattle.sv_rule.specs.Views.{Body, Desk, Disk, LaneView, Work, sweeping}
use Rattle.sv_rule.specs.declared.parts.Stored.{Stored}
use Rattle.sv_rule.specs.declared.parts.Stored.TheVariants as is
use Rattle.sv_rule.proofs.RoundTurns.{rounds_of}
use Rattle.sv_rule.proofs.Basics.{no_ref}
use Rattle.sv_rule.proofs.Sums.{marked, same-self}
use Rattle.sv_rule_slots.proofs.SweepSteps.{beyond_case, beyond_excepts, fit-pass, in_row, kept-by-sweep, other_middle, right_passed, swept_view}
use Rattle.sv_rule_slots.proofs.Sweeps.{work_is}

module _ {S D C B : Type 0} (books : S → Books) (disk : D → Disk) (cell : C → Option Cell) (body : B → Body) where
  -- a slot that the sweep has is home again
  pub passes : (n id : ℕ) (v : LaneView) (more : List (ℕ × Stored S D C B)) (d : Desk) (f old l taken : ℕ) → f < 16
      → l < 32 → v.seat.spent ≡ false → v.locks.db ≡ Some d → d.work ≡ sweeping f old l true taken
      → let m : Me (Stored S D C B) LaneView = (v, (slot_home (spot l f), is.Nothing) ∷ more) in
      Allows (Kept books disk cell body) n id m (slot_word (spot l f)) (λ _. 0) (Passed d f old l taken m)
  passes n id v more d f old l taken near low alive has mid s kept long me fits =
      let i = spot l f in let r : ℕ = slot s i in let row = in_row books disk cell body s kept id v me d has f l near
      low in
      let homes = set s.homes (slot_home i) (some is.Nothing) in let mine : middle i d.work ≡ 1 = ap (middle i) mid
      ∙ same-self i in
      let ws = work_is books disk cell body s kept id v me d has (sweeping f old l true taken) mid in
      let h = kept.home.desks id v me d has in let W = beyond v.seat.lanes f old l taken in
      let the_old : Right (fit kept.work f l (number s f)) (middle i kept.work) r (number s f) (cached_at s.views l f)
      (slot_at s.views l f) = kept.sweep.right l f low near in
      let mine' : middle i kept.work ≡ 1 = ap (middle i) (sym h.1) ∙ mine in
      let is_out : (0 < r) × (r < 256) = dite (ℕ_discrete r 0) (λ e. absurd (omega (arith, the_old.empty e)))
      (λ n. dite (dec_le 256 r) (λ z. absurd (omega (arith, the_old.full z))) (λ z. (omega arith, omega arith))) in
      let few : length s.views ≤ v.seat.lanes = omega (
        arith,
        kept.home.seats.views,
        kept.home.seats.told id v me alive,
      ) in (
        swept_view books disk cell body s kept id v me d has f l near low W v.hand v.known.bodies,
        gives,
        tt,
        kept-by-sweep books disk cell body s kept id v me d has f l near low 0 (sweeping f old (l + 1) false taken) W
            v.hand v.known.bodies homes (kept.in_hand.accounts id v me alive)
            (λ y e. absurd (no_ref y (sym (set_here s.homes (slot_home i) (some is.Nothing)
            (omega (arith, kept.home.seats.homes))) ∙ e))) (length-set s.homes (slot_home i) (some is.Nothing))
            (λ k n. set_else s.homes (slot_home i) k (some is.Nothing) n)
            record {
              empty = λ _. set_here s.homes (slot_home i) (some is.Nothing)
                  (omega (arith, kept.home.seats.homes));
              out = λ z. absurd (omega arith);
              cached = λ z. absurd (omega arith);
              marks = λ _. omega arith;
            }
            (λ q y. omega (arith, marked q r y is_out.1, marked q 0 y (omega arith))) (kept.ledger.hands id v me)
            (λ k g n b ne. fit-pass f old l taken taken true k g n b ne ∙ sym (ap (λ (z : Work). fit z g k n) mid))
            (λ k ne. sym (ap (middle k) mid ∙ other_middle f old l taken k ne))
            (λ c y o. record {
              empty = λ _. omega (arith, o.out is_out.0 is_out.1, mine);
              full = λ z. absurd (omega arith);
              out = λ z. absurd (omega arith);
              cached = λ z. absurd (omega arith);
              fitting = λ z. absurd (omega arith);
              used = λ z. absurd (omega arith);
              away = λ z big same_number. absurd (omega (arith, o.away z big same_number));
              none = o.none;
            })
            (λ slot' vs e. right_passed f old l taken v.seat.lanes (number s) slot' vs (omega (arith, few)))
            (λ g. beyond_excepts v.seat.lanes f old l taken g ∙ sym (ap (excepts g) mid))
            (beyond_case (λ z. rounds_of z ≡ rounds_of (sweeping f old l true taken)) v.seat.lanes f old l taken
            (λ _ _. refl) refl ∙ sym (ap rounds_of mid))
            (beyond_case (λ z. Apart (number s) z) v.seat.lanes f old l taken (λ _ _. tt) ws.0)
            (beyond_case (λ z. Stock d.books z v.hand) v.seat.lanes f old l taken (λ _ _. tt) ws.1),
        refl,
      )

  pub passes_at : (n id : ℕ) (m : Me (Stored S D C B) LaneView) (more : List (ℕ × Stored S D C B)) (d : Desk)
      (f old l taken : ℕ) → f < 16 → l < 32 → m.0.seat.spent ≡ false → m.0.locks.db ≡ Some d
      → d.work ≡ sweeping f old l true taken → m.1 ≡ (slot_home (spot l f), is.Nothing) ∷ more
      → Allows (Kept books disk cell body) n id m (slot_word (spot l f)) (λ _. 0) (Passed d f old l taken m)
  passes_at n id m more d f old l taken near low alive has mid e = subst (λ (c : List (ℕ × Stored S D C B)). Allows
      (Kept books disk cell body) n id (m.0, c) (slot_word (spot l f)) (λ _. 0) (Passed d f old l taken (m.0, c)))
      (sym e) (passes n id m.0 more d f old l taken near low alive has mid)
