-- What a call finds of the family that it is to change: its current, and the body of the reference that is kept.
use Rattle.std.proofs.Common.{◌≡◌, ◌<◌, ℕ, false, List, Option, Some, sym, subst, arith}
use Rattle.std.specs.Prelude.{IsSomeAnd, slice_get}
use Rattle.sv_model.specs.declared.records.Family.{Family}
use Rattle.sv_model.specs.declared.records.SuperVersion.{SuperVersion}
use Rattle.sv_model.specs.declared.sv_refs.SvRef.{SvRef}
use Rattle.sv_model.specs.Books.{Books}
use Rattle.sv_model.specs.Families.{IsOwn, IsOwnStanding}
use Rattle.sv_laws.specs.Installs.{IsOpen}
use Rattle.sv_laws.proofs.GrownRegisters.{get_within}
use Rattle.sv_objects.specs.declared.bodies.Body.{Body}
use Rattle.sv_state.specs.Currents.{HasCurrentAt, OwnHaveCurrents}
use Rattle.sv_state.specs.Refs.{IsBodyOf, IsState}
use Rattle.sv_state.proofs.OptionSets.{own-it, own-open, some-and}
use Rattle.sv_state.proofs.References.{body-of, current-ref}

-- the body that is read is that of the family's current
pub open-body : (a : Books) (held : List (Option (SvRef Body))) (h : IsState a held) (f s : ℕ) (it : SuperVersion) (o : IsOpen a f s it) (body : Body)
    → ((r : SvRef Body) → slice_get held f ≡ Some (Some r) → body ≡ r.body.value) → IsBodyOf a it.descriptor body
open-body a held h f s it o body e =
    let ref = current-ref a held h.kept f s it o.current in
    subst (IsBodyOf a it.descriptor) (sym (e ref.0 ref.1)) (body-of a s ref.0.pack ref.0.body.value it o.current.has ref.2)

pub own-body : (a : Books) (held : List (Option (SvRef Body))) (h : IsState a held) (f : ℕ) (x : Family) (at : slice_get a.families f ≡ Some x) (stands : x.dropped ≡ false) (cur : HasCurrentAt a f) (body : Body)
    → ((r : SvRef Body) → slice_get held f ≡ Some (Some r) → body ≡ r.body.value) → IsBodyOf a (own-it a h.sound f x at stands cur).descriptor body
own-body a held h f x at stands cur body e =
    open-body a held h f cur.serial (own-it a h.sound f x at stands cur) (own-open a h.sound f x at stands cur) body e

-- a reference of it is kept
pub open-kept : (a : Books) (held : List (Option (SvRef Body))) (h : IsState a held) (f s : ℕ) (it : SuperVersion) (o : IsOpen a f s it)
    → (r : SvRef Body) × (slice_get held f ≡ Some (Some r))
open-kept a held h f s it o = let ref = current-ref a held h.kept f s it o.current in (ref.0, ref.1)

-- ---- the family that a lane means

-- It is not dropped, and has a current.
pub record IsMeant (a : Books) (lane : ℕ) (name : List ℕ) (f : ℕ) : Type 0 where
  pub it : Family
  pub at : slice_get a.families f ≡ Some it
  pub own : IsOwn lane name it
  pub stands : it.dropped ≡ false
  pub current : HasCurrentAt a f

pub meant-so : (a b : Books) → a ≡ b → (lane : ℕ) (name : List ℕ) (f : ℕ) → IsSomeAnd (slice_get a.families f) (IsOwnStanding lane name) → OwnHaveCurrents b lane name
    → IsMeant a lane name f
meant-so a b seen lane name f found all =
    let x = some-and (slice_get a.families f) (IsOwnStanding lane name) found in
    let here : OwnHaveCurrents a lane name = subst (λ (z : Books). OwnHaveCurrents z lane name) (sym seen) all in
    record { it = x.0; at = x.1; own = x.2.own; stands = x.2.stands; current = here f x.0 x.1 x.2.own }

module _ (a : Books) (held : List (Option (SvRef Body))) (h : IsState a held) (lane : ℕ) (name : List ℕ) (f : ℕ) (x : IsMeant a lane name f) where
  abbrev pub meant-it : SuperVersion
  meant-it = own-it a h.sound f x.it x.at x.stands x.current

  abbrev pub meant-open : IsOpen a f x.current.serial meant-it
  meant-open = own-open a h.sound f x.it x.at x.stands x.current

  pub meant-kept : (r : SvRef Body) × (slice_get held f ≡ Some (Some r))
  meant-kept = open-kept a held h f x.current.serial meant-it meant-open

  pub meant-body : (body : Body) → ((r : SvRef Body) → slice_get held f ≡ Some (Some r) → body ≡ r.body.value) → IsBodyOf a meant-it.descriptor body
  meant-body body e = open-body a held h f x.current.serial meant-it meant-open body e

  pub meant-within : f < 16
  meant-within = omega (arith, get_within a.families f x.it x.at, h.sound.lawful.limits.families)
