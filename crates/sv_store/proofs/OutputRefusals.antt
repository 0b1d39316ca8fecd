-- Which refusal the install of an output meets.
use Rattle.std.proofs.Common.{◌≡◌, ◌∷◌, ℕ, List, [], Option, Some, None, refl, ap, ◌∙◌}
use Rattle.std.specs.Prelude.{if◌then◌else◌, slice_get}
use Rattle.sv_model.specs.declared.records.FileMeta.{FileMeta}
use Rattle.sv_model.specs.declared.refusals.Refusal.{Refusal}
use Rattle.sv_model.specs.declared.refusals.Refusal.TheVariants as refusal
use Rattle.sv_model.specs.Books.{Books}
use Rattle.sv_model.specs.Cells.{Cell}
use Rattle.sv_model.specs.Refusals.{first_due}
use Rattle.sv_registry.specs.Calls.{make_refusal}
use Rattle.sv_state.specs.Finishing.{finish_refusal}
use Rattle.sv_store.specs.Installing.{CanInstall}

only-due : (d : Option Refusal) → first_due (d ∷ []) ≡ d
only-due None = refl
only-due (Some e) = refl

finish-none : (b : Books) (cells : List (Option Cell)) (f : ℕ) (file : FileMeta) → CanInstall b cells f file → finish_refusal (slice_get b.families f) ≡ None
finish-none b cells f file can =
    ap finish_refusal can.is_open.family_at ∙ ap (λ t. if t then Some refusal.Dropped else None) can.is_open.stands

pub install-due : (b : Books) (cells : List (Option Cell)) (f : ℕ) (file : FileMeta) → CanInstall b cells f file
    → first_due (finish_refusal (slice_get b.families f) ∷ make_refusal b.supers ∷ []) ≡ make_refusal b.supers
install-due b cells f file can =
    ap (λ d. first_due (d ∷ make_refusal b.supers ∷ [])) (finish-none b cells f file can) ∙ only-due (make_refusal b.supers)
