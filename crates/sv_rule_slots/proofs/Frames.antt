-- The kind round load keeps the rule.
use Rattle.std.proofs.Common.{Bool, List, Option, arith, cond, eq-eqb, false, length, ne_eqb, refl, subst, sym, ℕ, ◌+◌, ◌∷◌, ◌≡◌, ◌≤◌}
use mathlib.Core.Logic.{dite}
use native.Mathlib.Decide.{ℕ_discrete}
use Rattle.atomic_table.specs.Table.{Allows, Me, keeps}
use Rattle.sv_model.specs.Books.{Books}
use Rattle.sv_model.specs.Cells.{Cell}
use Rattle.sv_model.specs.Lists.{Every}
use Rattle.sv_rule.specs.Fits.{Together}
use Rattle.sv_rule.specs.InHand.{Accounts}
use Rattle.sv_rule.specs.RoundPlays.{Framed, framed}
use Rattle.sv_rule.specs.Rounds.{Loaded}
use Rattle.sv_rule.specs.Rule.{Kept}
use Rattle.sv_rule.specs.Table.{number, word}
use Rattle.sv_rule.specs.Views.{Body, Disk, Known, LaneView, Load}
use Rattle.sv_rule.specs.declared.parts.Stored.{Stored}
use Rattle.sv_rule.proofs.Basics.{every_cons, every_none}
use Rattle.sv_rule_slots.proofs.LoadSteps.{kept-by-load}
use Rattle.sv_rule.proofs.RoundTurns.{loaded-together, loaded-work, rounds-set}

-- one more list of loads, and the round of it
frames-account : (b : Books) (k : Known) (frames : List (List Load)) (round : ℕ) → Every (Together b.supers) frames
    → round ≤ length b.supers + length b.families → Accounts b k
    → Accounts b (record k { frames = frames; round = round })
frames-account b k frames round together low h = record {
  fits = record {
    lawful = h.fits.lawful;
    start = h.fits.start;
    found = h.fits.found;
    left = h.fits.left;
    mine = h.fits.mine;
    bodies = h.fits.bodies;
    rows = h.fits.rows;
    reads = h.fits.reads;
    seen = h.fits.seen;
    removed = h.fits.removed;
    ended = h.fits.ended;
    round = low;
    frames = together;
  };
  mine = h.mine;
}

module _ {S D C B : Type 0} (books : S → Books) (disk : D → Disk) (cell : C → Option Cell) (body : B → Body) where
  pub frames : (n id : ℕ) (m : Me (Stored S D C B) LaneView) → m.0.seat.spent ≡ false
      → Allows (Kept books disk cell body) n id m 82 (λ y. y) (Framed m)
  frames n id m alive s kept long me fits =
      let v = m.0 in let r : ℕ = word s 82 in let w = framed r v in let k = kept.rounds in
      let accounts = kept.in_hand.accounts id v me alive in
      let together : Every (Together kept.b.supers) w.known.frames = dite (ℕ_discrete r v.known.round)
      (λ e. subst (λ (b : Bool). Every (Together kept.b.supers) (cond b (v.loads ∷ v.known.frames) v.known.frames))
      (sym (eq-eqb r v.known.round e))
      (every_cons (Together kept.b.supers) v.loads v.known.frames
      (loaded-together kept.b kept.work r (number s) s.views kept.numbers k v.loads (k.loaded id v me (sym e)))
      accounts.fits.frames))
      (λ n. subst (λ (b : Bool). Every (Together kept.b.supers) (cond b (v.loads ∷ v.known.frames) v.known.frames))
      (sym (ne_eqb r v.known.round n)) accounts.fits.frames) in (
        w,
        keeps,
        tt,
        kept-by-load books disk cell body s kept id v w me 82 (omega arith) (omega arith) alive refl
            (λ _. frames-account kept.b v.known w.known.frames r together (omega (arith, k.bound)) accounts)
            (λ q _. refl) (kept.home.seats.slots id v me) (kept.ledger.hands id v me) refl refl refl (λ f l o. o)
            (λ d e. kept.sweep.stock id v me d e) (λ f l. kept.fresh id v me f l)
            (λ round number' rounds numbers.
            rounds-set kept.b kept.b kept.work kept.work r round (number s) number' s.views id v w me rounds numbers
            refl k (loaded-work kept.b kept.work kept.work k.moved (number s) number' numbers (λ g. refl)) k.bound
            refl (omega arith)
            (λ _. every_none (Loaded kept.b kept.work k.moved number'))),
        refl,
      )
