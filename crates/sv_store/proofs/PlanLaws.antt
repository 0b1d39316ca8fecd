-- What the plan of a flush and of a compaction answers.
use Rattle.std.proofs.Common.{◌≡◌, inl, inr, ⊎_elim, ℕ, List, Option, Some, None, Result, Ok, Err, sym, ap, ◌∙◌, subst}
use Rattle.std.specs.Prelude.{IfOk}
use Rattle.sv_model.specs.declared.refusals.Refusal.{Refusal}
use Rattle.sv_model.specs.declared.refusals.Refusal.TheVariants as refusal
use Rattle.sv_model.specs.Books.{Books}
use Rattle.sv_model.specs.Refusals.{IsDue, Refuses}
use Rattle.sv_state.specs.Planning.{MeantAt, Planned}
use Rattle.sv_store.specs.Outputs.{IsPlanRefused}

module _ {T : Type 0} (b : Books) (name : List ℕ) (fault : MeantAt b 0 name → Option Refusal) (Is : MeantAt b 0 name → T → Type 0) (r : Result T Refusal)
    (p : Planned b 0 name fault Is r) where
  pub plan-refused : (e : Refusal) → r ≡ Err e → IsPlanRefused b name fault e
  plan-refused e q = ⊎_elim
      (λ h. let z : h.0 ≡ e = cc (q, h.2) in inl (h.1 ∙ ap Some z))
      (λ h. inr (h.0, subst (λ (z : Result T Refusal). Refuses (fault h.0) z) q h.1))
      p

  -- of a plan that is made, the family meant, and that nothing is due
  pub plan-made : (x : T) → r ≡ Ok x → (m : MeantAt b 0 name) × (fault m ≡ None) × Is m x
  plan-made x q = ⊎_elim
      (λ h. let z : Ok x ≡ Err h.0 = sym q ∙ h.2 in absurd (cc))
      (λ h. (h.0, subst (λ (z : Result T Refusal). Refuses (fault h.0) z) q h.1, subst (λ (z : Result T Refusal). IfOk z (Is h.0)) q h.2))
      p

-- want of memory may stand in place of what is due
pub memory-due : (d : Option Refusal) (e : Refusal) → e ≡ refusal.OutOfMemory → IsDue d e
memory-due d e q = subst (λ (z : Refusal). IsDue d z) (sym q) tt
