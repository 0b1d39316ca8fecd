-- A family that is kept was made and is not dropped.
use Rattle.std.proofs.Common.{◌≡◌, ℕ, Bool, true, false, List, Option, Some, None, refl, sym, ap, ◌∙◌}
use Rattle.std.specs.Option.{option_map}
use Rattle.std.specs.Prelude.{cond, slice_get}
use Rattle.sv_model.specs.declared.records.Family.{Family}
use Rattle.sv_model.specs.declared.records.FileMeta.{FileMeta}
use Rattle.sv_model.specs.declared.settings.Options.{Options}
use Rattle.sv_model.specs.Books.{Books}
use Rattle.sv_model.specs.Cells.{Cell}
use Rattle.sv_laws.proofs.Handles.{not-retired-open}
use Rattle.sv_state.specs.Currents.{StandsAt, kept_of}
use Rattle.sv_state_bench.specs.Standing.{Stands}

pub kept-one : {K : Type 0} (b : Books) (f : ℕ) (g : K → List ℕ × Options) (r : Option K) (k : K) → option_map g r ≡ kept_of (slice_get b.families f) → r ≡ Some k
    → (x : Family) × (slice_get b.families f ≡ Some x) × (x.dropped ≡ false)
kept-one {K} b f g r k q s = by (slice_get b.families f) refl
  where
    told : Some (g k) ≡ kept_of (slice_get b.families f)
    told = ap (option_map g) (sym s) ∙ q

    by : (o : Option Family) → slice_get b.families f ≡ o → (x : Family) × (slice_get b.families f ≡ Some x) × (x.dropped ≡ false)
    by None e = let z : Some (g k) ≡ None = told ∙ ap kept_of e in absurd (cc)
    by (Some x) e = (x, e, live x.dropped refl)
      where
        live : (d : Bool) → x.dropped ≡ d → x.dropped ≡ false
        live false h = h
        live true h = let z : Some (g k) ≡ None = told ∙ ap kept_of e ∙ ap (λ d. cond d None (Some (x.name, x.options))) h in absurd (cc)

pub kept-stands : {K : Type 0} (b : Books) (A : List Cell) (O : List (Option FileMeta)) (W : List (Option ℕ)) → Stands b A O W → (f : ℕ) (g : K → List ℕ × Options) (r : Option K) (k : K)
    → option_map g r ≡ kept_of (slice_get b.families f) → r ≡ Some k → StandsAt b f
kept-stands b A O W h f g r k q s =
    let x = kept-one b f g r k q s in
    let c = h.currents f x.0 x.1 (not-retired-open x.0 x.2) in
    record { it = x.0; at = x.1; stands = x.2; top = c.top; on = c.at }
