-- The first of several refusals that is due.
use Rattle.std.proofs.Common.{◌≡◌, List, [], ◌∷◌, Option, Some, None, Result, refl, sym, ap, subst}
use Rattle.sv_model.specs.declared.refusals.Refusal.{Refusal}
use Rattle.sv_model.specs.declared.refusals.Refusal.TheVariants as refusal
use Rattle.sv_model.specs.Refusals.{IsDue, Refuses, first_due}

-- none is due exactly where neither the first nor one of the rest is
pub none_due : (d : Option Refusal) (ds : List (Option Refusal)) → first_due (d ∷ ds) ≡ None → (d ≡ None) × (first_due ds ≡ None)
none_due None ds h = (refl, h)
none_due (Some e) ds h = absurd (cc)

-- what is due of the first call is due of the whole
pub is_due-first : (d : Option Refusal) (ds : List (Option Refusal)) (e : Refusal) → IsDue d e → IsDue (first_due (d ∷ ds)) e
is_due-first d ds refusal.OutOfMemory h = tt
is_due-first d ds e h = ap (λ z. first_due (z ∷ ds)) h

-- and so where it takes no memory
pub is_due-first-exactly : (d : Option Refusal) (ds : List (Option Refusal)) (e : Refusal) → d ≡ Some e → IsDue (first_due (d ∷ ds)) e
is_due-first-exactly d ds refusal.OutOfMemory h = tt
is_due-first-exactly d ds e h = ap (λ z. first_due (z ∷ ds)) h

-- where the first call is not refused, the rest decides
pub is_due-next : (d : Option Refusal) (ds : List (Option Refusal)) (e : Refusal) → d ≡ None → IsDue (first_due ds) e → IsDue (first_due (d ∷ ds)) e
is_due-next d ds e h k = subst (λ z. IsDue (first_due (z ∷ ds)) e) (sym h) k

pub none_due-next : (d : Option Refusal) (ds : List (Option Refusal)) → d ≡ None → first_due ds ≡ None → first_due (d ∷ ds) ≡ None
none_due-next d ds h k = subst (λ z. first_due (z ∷ ds) ≡ None) (sym h) k

-- a single refusal
pub refuses-only : {U : Type 0} (d : Option Refusal) (r : Result U Refusal) → Refuses d r → Refuses (first_due (d ∷ [])) r
refuses-only None r h = h
refuses-only (Some e) r h = h
