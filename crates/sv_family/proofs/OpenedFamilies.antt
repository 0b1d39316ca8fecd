-- A family of which a lane is given a handle: the lane had none of it, so it is not `default`.
use Rattle.std.proofs.Common.{◌≡◌, ◌<◌, ℕ, zero, suc, Bool, true, false, List, Option, Some, None, slice_get, refl, sym, ap, ◌∙◌, subst, arith}
use Rattle.std.specs.Prelude.{IsSomeAnd}
use Rattle.sv_model.specs.declared.records.Family.{Family}
use Rattle.sv_model.specs.declared.limits.TheConstants.{MAX_LANES}
use Rattle.sv_model.specs.Families.{AreFamilies, HasHandle, IsStanding}
use Rattle.sv_model.proofs.Registers.{get-some}
use Rattle.sv_family.specs.Calls.{IsFreshTo}
use Rattle.sv_family.specs.Refused.{has_handle}
use Rattle.sv_family.proofs.SoughtFamilies.{own_known}

module _ (families : List Family) (lane : ℕ) (name : List ℕ) (law : AreFamilies families) (few : lane < MAX_LANES)
    (unknown : has_handle families lane name ≡ false) (id : ℕ) (it : Family) (at : slice_get families id ≡ Some it)
    (is : IsStanding name it) where
  not_own : HasHandle lane it → ⊥
  not_own has =
      let known = own_known families lane name id it at (record { name_is = is.name_is; handle = has }) in
      let clash : true ≡ false = sym known ∙ unknown in absurd (cc)

  handle_is : slice_get it.handles lane ≡ Some false
  handle_is = by (slice_get it.handles lane) refl
    where
      by : (o : Option Bool) → slice_get it.handles lane ≡ o → slice_get it.handles lane ≡ Some false
      by (Some true) e = absurd (not_own e)
      by (Some false) e = e
      by None e =
          let there = get-some it.handles lane (omega (arith, few, law.lanes id it at)) in
          let clash : None ≡ Some there.0 = sym e ∙ there.1 in absurd (cc)

  other : (n : ℕ) → id ≡ n → 0 < n
  other zero e = absurd (not_own (law.home lane it few (ap (slice_get families) (sym e) ∙ at)))
  other (suc n) e = omega arith

  fresh : IsFreshTo lane families id
  fresh = record { other = other id refl; it = it; at = at; none = handle_is }

pub fresh_to : (families self : List Family) → families ≡ self → (lane : ℕ) (name : List ℕ) → AreFamilies families
    → lane < MAX_LANES → has_handle self lane name ≡ false → (id : ℕ) → IsSomeAnd (slice_get self id) (IsStanding name)
    → IsFreshTo lane self id
fresh_to families self same lane name law few unknown id found = by (slice_get self id) refl found
  where
    by : (o : Option Family) → slice_get self id ≡ o → IsSomeAnd o (IsStanding name) → IsFreshTo lane self id
    by None e h = absurd h
    by (Some it) e h = fresh self lane name (subst AreFamilies same law) few unknown id it e h
