-- What a lane has of a SuperVersion that its slot lent it: the borrow, the body, and the right to add a reference.
use Rattle.std.proofs.Common.{List, Some, [], ap, inr, length, refl, slice_get, subst, sym, ℕ, ◌++◌, ◌<◌, ◌∙◌, ◌∷◌, ◌≡◌}
use Rattle.sv_model.specs.Lists.{In, at}
use Rattle.sv_model.specs.declared.sv_refs.SvRef.{SvRef}
use Rattle.sv_rule.proofs.FittingBodies.{adds-own}
use Rattle.sv_rule.proofs.Sums.{at-put_same}
use Rattle.sv_rule.specs.LockPlays.{HasRef}
use Rattle.sv_rule.specs.ReferencePlays.{CanAdd}
use Rattle.sv_rule.specs.Table.{slot_of}
use Rattle.sv_rule.specs.Views.{Bodied, Body, LaneView, away, borrow}
use Rattle.sv_slots.specs.Borrows.{IsHit, borrowed}
use Rattle.sv_slots.specs.Seats.{Lends, bodied}

at-end : {A : Type 0} (l : List A) (x : A) → slice_get (l ++ x ∷ []) (length l) ≡ Some x
at-end [] x = refl
at-end (y ∷ l) x = at-end l x

pub in-last : {A : Type 0} (l : List A) (x : A) → In x (l ++ x ∷ [])
in-last l x = record { at = length l; is = at-end l x }

-- a borrow is a reference
pub lent-ref : (v : LaneView) (f p : ℕ) → f < 16 → Lends v f p → HasRef v p
lent-ref v f p near h = inr (f, h.0, near, h.1)

-- the lane may add a reference of what it borrowed
pub adds-lent : (v : LaneView) (f : ℕ) (x : Bodied) → f < 16 → Lends v f x.pack → In x v.known.bodies → CanAdd x v
adds-lent v f x near lent known = adds-own v x (lent-ref v f x.pack near lent) known

-- ---- after a hit

module _ {B : Type 0} (of : B → Body) (f : ℕ) (sv : SvRef B) (v w : LaneView) (hit : IsHit of f sv v w) where
  pub hit-lends : Lends w f sv.pack
  hit-lends = (
    at 0 v.known.seen f,
    ap (λ (z : LaneView). slot_of z f) hit.view
        ∙ at-put_same away v.slots.slot f (borrow sv.pack (at 0 v.known.seen f)),
  )

  pub hit-known : In (bodied of sv) w.known.bodies
  hit-known = subst (λ (z : LaneView). In (bodied of sv) z.known.bodies) (sym hit.view)
      (in-last v.known.bodies (bodied of sv))

-- ---- under the DB lock

module _ (f p : ℕ) (v w : LaneView) (is : w ≡ borrowed f p v) where
  pub locked-lends : Lends w f p
  locked-lends = (
    at 0 v.known.seen f,
    ap (λ (z : LaneView). slot_of z f) is ∙ at-put_same away v.slots.slot f (borrow p (at 0 v.known.seen f)),
  )

  pub locked-known : (x : Bodied) → In x v.known.bodies → In x w.known.bodies
  locked-known x h = subst (λ (z : LaneView). In x z.known.bodies) (sym is) h
