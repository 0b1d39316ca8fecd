-- What a purge answers and leaves, put together.
use Rattle.std.proofs.Common.{◌≡◌, ◌⊎◌, ⊎_elim, inl, inr, ℕ, Bool, true, false, cond, List, [], ◌∷◌, Option, Some, None, refl, sym, ap, subst, arith}
use Rattle.std.specs.Prelude.{IfSome, nat_lt, sum}
use Rattle.sv_model.specs.declared.refusals.Refusal.{Refusal}
use Rattle.sv_model.specs.declared.refusals.Refusal.TheVariants as refusal
use Rattle.sv_model.specs.Books.{FileRegister}
use Rattle.sv_model.specs.Lists.{In}
use Rattle.sv_model.specs.Refusals.{IsDue}
use Rattle.sv_model.proofs.Entries.{get_none, some}
use Rattle.sv_files.specs.Calls.{disabled}
use Rattle.sv_store.specs.Purging.{IsIdle, PurgeStops}
use Rattle.sv_store.specs.Removals.{DirSeen, LeftAs, Removes, RemovesSome}
use Rattle.sv_store.specs.Standing.{IsStill}
use Rattle.sv_store.proofs.EndedNumbers.{still-gone}

-- ---- refused at once
disabled-or : (r : FileRegister) → (disabled r ≡ None) ⊎ (disabled r ≡ Some (refusal.Disabled (sum r.holds)))
disabled-or r = by (nat_lt 0 (sum r.holds)) refl
  where
    by : (b : Bool) → nat_lt 0 (sum r.holds) ≡ b → (disabled r ≡ None) ⊎ (disabled r ≡ Some (refusal.Disabled (sum r.holds)))
    by true q = inr (ap (λ c. cond c (Some (refusal.Disabled (sum r.holds))) None) q)
    by false q = inl (ap (λ c. cond c (Some (refusal.Disabled (sum r.holds))) None) q)

module _ (r : FileRegister) (d : DirSeen) (idle : IsIdle r r d) where
  none-due : (e : Refusal) → IsDue None e → PurgeStops r r d e
  none-due refusal.OutOfMemory h = inl idle
  none-due e h = absurd (cc)

  hold-due : (k : ℕ) → disabled r ≡ Some (refusal.Disabled k) → (e : Refusal) → IsDue (Some (refusal.Disabled k)) e → PurgeStops r r d e
  hold-due k q refusal.OutOfMemory h = inl idle
  hold-due k q e h = subst (PurgeStops r r d) (some h) (q, idle)

  pub refused-purge : (e : Refusal) → IsDue (disabled r) e → PurgeStops r r d e
  refused-purge e h = ⊎_elim
      (λ q. none-due e (subst (λ o. IsDue o e) q h))
      (λ q. hold-due (sum r.holds) q e (subst (λ o. IsDue o e) q h))
      (disabled-or r)

-- ---- nothing is under way after it
pub removed-still : (r : Option Refusal) (old new : FileRegister) (d : DirSeen) (numbers : List ℕ) → (r ≡ None → Removes old new d numbers numbers [])
    → IfSome r (RemovesSome old new d numbers) → IsStill old → IsStill new
removed-still None old new d numbers all left h = subst IsStill (sym (all refl).is) (still-gone old numbers h)
removed-still (Some e) old new d numbers all left h = subst IsStill (sym left.removes.is) (still-gone old left.gone h)

-- ---- some number was left
some-left : (left : List ℕ) (d : DirSeen) (e : Refusal) → LeftAs left d e → (n : ℕ) × In n left
some-left [] d (refusal.DirFault m) h = absurd (get_none 0 m h.0)
some-left [] d refusal.OutOfMemory h = absurd (omega (arith, h))
some-left [] d e h = absurd h
some-left (x ∷ left) d e h = (x, record { at = 0; is = refl })

pub some-tried : (old new : FileRegister) (d : DirSeen) (numbers : List ℕ) (e : Refusal) → RemovesSome old new d numbers e → (n : ℕ) × In n numbers
some-tried old new d numbers e h =
    let l = some-left h.left d e h.answer in
    (l.0, ((h.removes.tried.left_are.exact l.0).0 l.1).0)
