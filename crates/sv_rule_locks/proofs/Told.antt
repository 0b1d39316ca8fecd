-- What a lane is told with the state.
use Rattle.std.proofs.Common.{Option, ap, arith, false, subst, sym, ℕ, ⊎_elim, ◌%◌, ◌/◌, ◌<◌, ◌∙◌, ◌≡◌, ◌≤◌}
use mathlib.Core.Logic.{dite}
use mathlib.Core.Option.{some}
use native.Mathlib.Decide.{ℕ_discrete}
use lib.ListN.{get_elem?}
use Rattle.atomic_table.specs.Table.{State}
use Rattle.sv_model.specs.Books.{Books}
use Rattle.sv_model.specs.Cells.{Cell}
use Rattle.sv_model.specs.Lists.{In, same}
use Rattle.sv_model.proofs.Lists.{times_in}
use Rattle.sv_rule.specs.Ledger.{Counted, Vacant}
use Rattle.sv_rule.specs.LockPlays.{IsTold}
use Rattle.sv_rule.specs.Rule.{Kept}
use Rattle.sv_model.specs.Supers.{LiveAt, pack}
use Rattle.sv_rule.specs.Table.{holders, number, owers, owes, reference}
use Rattle.sv_rule.specs.UnderWay.{excepts}
use Rattle.sv_rule.specs.Views.{Body, Disk, LaneView, idle}
use Rattle.sv_rule.specs.declared.parts.Stored.{Stored}
use Rattle.sv_rule.proofs.Shows.{handle-current}
use Rattle.sv_rule.proofs.Sums.{below-term_le, same-self, term_le}
use Rattle.sv_rule.proofs.TurnsSame.{accounted}

module _ {S D C B : Type 0} (books : S → Books) (disk : D → Disk) (cell : C → Option Cell) (body : B → Body)
    (s : State (Stored S D C B) LaneView) (kept : Kept books disk cell body s) (id : ℕ) (v : LaneView)
    (me : get_elem? s.views id ≡ some v) where
  -- what a lane owes is Live, and no one holds it
  owed_place : (p : ℕ) → 256 ≤ p → In p v.owes → LiveAt kept.b.supers (p / 256) (p % 256) × (holders s p ≡ 0)
  owed_place p big has =
      let p_is : pack (p / 256) (p % 256) ≡ p = omega arith in
      let owes_one : 0 < owers s p = omega (arith, term_le (owes p) s.views id v me, times_in p v.owes has) in
      ⊎_elim
      (λ (c : Vacant kept.b.supers (holders s) (owers s) (p % 256) (reference s (p % 256))). absurd
      (omega (arith, c.unowed (p / 256) (omega arith), ap (owers s) p_is)))
      (λ (c : Counted kept.b.supers (holders s) (owers s) (p % 256) (reference s (p % 256))). dite
      (ℕ_discrete (p / 256) c.serial)
      (λ e. let c_is : pack c.serial (p % 256) ≡ p = omega arith in (
        subst (λ z. LiveAt kept.b.supers z (p % 256)) (sym e) c.live,
        dite (ℕ_discrete (holders s p) 0) (λ z. z) (λ n. absurd
            (omega (arith, c.unowed (omega (arith, ap (holders s) c_is)), ap (owers s) c_is))),
      ))
      (λ n. absurd (omega (arith, c.others_unowed (p / 256) (omega arith) n, ap (owers s) p_is))))
      (kept.ledger.places (p % 256) (omega arith))

  pub told : v.seat.spent ≡ false → kept.work ≡ idle → IsTold v kept.b
  told alive resting = record {
    fits = (kept.in_hand.accounts id v me alive).fits;
    accounted = accounted kept.b kept.work kept.start kept.d (number s) s.views id v me alive kept.home.seats.once
        kept.in_hand;
    currents = λ f near has stays_on. handle-current books disk cell body s kept id v me f near alive has stays_on;
    owed = λ p big has. let place = owed_place p big has in (
      place.0,
      λ f near e. omega (
        arith,
        place.1,
        below-term_le (λ g. same p (number s g)) f 16 near,
        ap (same p) ((kept.numbers.word f near).current (ap (excepts f) resting) ∙ sym e),
        same-self p,
      ),
    );
  }
