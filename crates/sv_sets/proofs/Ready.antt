-- What a lane keeps through a set: it is at rest after it as before, and forgot nothing.
use Rattle.std.proofs.Common.{Err, List, Ok, Result, [], ap, arith, length, refl, subst, sym, ℕ, ◌<◌, ◌∙◌, ◌∷◌, ◌≡◌}
use Rattle.std.specs.Prelude.{IfOk, OnErr}
use Rattle.sv_borrows.specs.Grown.{Grows}
use Rattle.sv_borrows.specs.Lending.{IsAtRest}
use Rattle.sv_model.proofs.AfterLaws.{continues-itself}
use Rattle.sv_model.specs.Books.{Books}
use Rattle.sv_model.specs.Lists.{at}
use Rattle.sv_model.specs.declared.refusals.Refusal.{Refusal}
use Rattle.sv_model.specs.declared.settings.OptionName.{OptionName}
use Rattle.sv_rule.specs.Views.{LaneView, Seat, SlotView, away}
use Rattle.sv_sets.specs.Setting.{Renews, Sets, asked}

-- The lane has its seat, its references in hand, and no locks or borrows more. It learnt, and changed nothing of its own.
pub record StaysReady (v w : LaneView) : Type 0 where
  pub grows : Grows v.known w.known
  pub seat : w.seat ≡ v.seat
  pub locks : w.locks ≡ v.locks
  pub slots : w.slots.slot ≡ v.slots.slot
  pub hand : w.hand ≡ v.hand
  pub owes : w.owes ≡ v.owes

asked-ready : (a b : Books) (v : LaneView) → StaysReady v (asked a b v)
asked-ready a b v = record {
  grows = record {
    base = refl;
    found = (a ∷ [], refl);
    left = (b ∷ [], refl);
    bodies = continues-itself v.known.bodies;
    rows = continues-itself v.known.rows;
    reads = continues-itself v.known.reads;
    seen = λ f. omega arith;
  };
  seat = refl;
  locks = refl;
  slots = refl;
  hand = refl;
  owes = refl;
}

module _ (l : ℕ) (name : List ℕ) (option : OptionName) (value : ℕ) (v w : LaneView) where
  renews-ready : (n : ℕ) (a b : Books) → Renews l name option value n a b v w → StaysReady v w
  renews-ready n a b h = subst (StaysReady v) (sym h.is) (record {
    grows = record {
      base = refl;
      found = (a ∷ [], refl);
      left = (b ∷ [], refl);
      bodies = (h.new ∷ h.more, refl);
      rows = continues-itself v.known.rows;
      reads = continues-itself v.known.reads;
      seen = λ f. omega (arith, h.alike f);
    };
    seat = refl;
    locks = refl;
    slots = refl;
    hand = refl;
    owes = refl;
  })

  pub sets-ready : (r : Result ℕ Refusal) → Sets l name option value r v w → StaysReady v w
  sets-ready r h = by r h.ok h.err
    where
      by : (r : Result ℕ Refusal) → IfOk r (λ n. Renews l name option value n h.found h.left v w)
          → OnErr r ((h.left ≡ h.found) × (w ≡ asked h.found h.left v)) → StaysReady v w
      by (Ok n) k e = renews-ready n h.found h.left k
      by (Err x) k e = subst (StaysReady v) (sym e.1) (asked-ready h.found h.left v)

pub ready-rests : (v w : LaneView) → StaysReady v w → IsAtRest v → IsAtRest w
ready-rests v w k rest = record {
  free = record {
    alive = ap (λ (s : Seat). s.spent) k.seat ∙ rest.free.alive;
    locks = k.locks ∙ rest.free.locks;
    ends = ap (λ (s : Seat). s.ends) k.seat ∙ rest.free.ends;
    few = subst (λ (h : List ℕ). length h < 65500) (sym k.hand) rest.free.few;
  };
  owes = k.owes ∙ rest.owes;
  away_all = λ f. subst (λ (s : List SlotView). at away s f ≡ away) (sym k.slots) (rest.away_all f);
}
