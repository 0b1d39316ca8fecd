-- A lane that can borrow can do so again after a pair that hit and was kept.
use Rattle.std.proofs.Common.{ap, arith, length, ℕ, ◌<◌, ◌∙◌, ◌≡◌}
use Rattle.sv_model.specs.declared.sv_refs.SvRef.{SvRef}
use Rattle.sv_rule.proofs.Sums.{at-put_same}
use Rattle.sv_rule.specs.Table.{slot_of}
use Rattle.sv_rule.specs.Views.{Body, LaneView, away}
use Rattle.sv_slots.specs.Borrows.{IsHit, given_back}
use Rattle.sv_slots_tests.specs.Unused.{CanBorrow}
use Rattle.sv_slots_tests.specs.World.{body_of}
use Rattle.sv_slots_tests.specs.declared.world.Shared.{Shared}

abbrev pub body : Shared → Body
body shared = body_of shared.family

module _ {B : Type 0} (of : B → Body) (f : ℕ) (sv : SvRef B) (v w : LaneView) (hit : IsHit of f sv v w) where
  pub hit_room : length v.hand < 65600 → length w.hand < 65600
  hit_room room = omega (arith, ap (λ (z : LaneView). length z.hand) hit.view, room)

  pub again : (x : LaneView) (p : ℕ) → length v.hand < 65600 → x ≡ given_back f p w → CanBorrow f x
  again x p room is = record {
    free = ap (λ (z : LaneView). slot_of z f) is ∙ at-put_same away w.slots.slot f away;
    room = omega (arith, ap (λ (z : LaneView). length z.hand) is, hit_room room);
  }
