-- When a refusal comes.
use Rattle.std.specs.Prelude.{◌≡◌, ℕ, List, [], ◌∷◌, Option, Some, None, Result, Ok, Err, cond, ◌&&◌, nat_le}
use Rattle.sv_model.specs.declared.refusals.Refusal.{Refusal}
use Rattle.sv_model.specs.declared.refusals.Refusal.TheVariants as refusal
use Rattle.sv_model.specs.declared.keys.TheConstants.{MAX_KEY}
use Rattle.sv_model.specs.declared.values.TheConstants.{MAX_VALUE}

-- the refusal is the one that is due; want of memory may stand in place of any
abbrev pub IsDue : Option Refusal → Refusal → Type 0
IsDue due refusal.OutOfMemory = Unit {0}
IsDue due e = due ≡ Some e

-- The call is refused exactly as is due; want of memory may stand in place of any answer.
abbrev pub Refuses : {T : Type 0} → Option Refusal → Result T Refusal → Type 0
Refuses due (Ok x) = due ≡ None
Refuses due (Err e) = IsDue due e

-- The same of a call that takes no memory.
abbrev pub RefusesExactly : {T : Type 0} → Option Refusal → Result T Refusal → Type 0
RefusesExactly due (Ok x) = due ≡ None
RefusesExactly due (Err e) = due ≡ Some e

-- the refusal that a key or a value of this length meets
abbrev pub key_refusal : ℕ → Option Refusal
key_refusal n = cond (nat_le 1 n && nat_le n MAX_KEY) None (Some (refusal.KeyLength n))

abbrev pub value_refusal : ℕ → Option Refusal
value_refusal n = cond (nat_le n MAX_VALUE) None (Some (refusal.ValueLength n))

-- the first refusal that is due
abbrev pub first_due : List (Option Refusal) → Option Refusal
first_due [] = None
first_due (None ∷ refusals) = first_due refusals
first_due (Some e ∷ refusals) = Some e
