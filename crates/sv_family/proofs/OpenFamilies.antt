-- The families of a store that was kept are lawful.
use Rattle.std.proofs.Common.{◌≡◌, ℕ, zero, suc, ◌<◌, Bool, true, false, List, [], ◌∷◌, length, map, replicate, Some, slice_get, arith, refl, sym, ap, subst, ◌∙◌}
use Rattle.std.specs.Option.{option_map}
use Rattle.std.proofs.lemmas.List.{length-map}
use Rattle.std.proofs.lemmas.Option.{slice_get-map}
use Rattle.sv_model.specs.declared.records.Family.{Family}
use Rattle.sv_model.specs.declared.openings.OpenFamily.{OpenFamily}
use Rattle.sv_model.specs.Families.{AreFamilies, AtMostOne, HasHandle, InRange, IsDefault, default_name}
use Rattle.sv_model.specs.declared.limits.TheConstants.{MAX_LANES}
use Rattle.sv_model.proofs.Entries.{some}
use Rattle.sv_family.specs.Openings.{AreOpen, open_families, open_family}

-- what stands in the families is one that was kept
pub record IsOpenAt (kept : List OpenFamily) (i : ℕ) (x : Family) : Type 0 where
  pub held : Bool
  pub it : OpenFamily
  pub at : slice_get kept i ≡ Some it
  pub is : x ≡ open_family held it

other-at : (others : List OpenFamily) (i : ℕ) (x : Family) → slice_get (map (open_family false) others) i ≡ Some x → IsOpenAt others i x
other-at [] i x e = absurd (cc)
other-at (f ∷ others) zero x e = record { held = false; it = f; at = refl; is = sym (some e) }
other-at (f ∷ others) (suc i) x e = let t = other-at others i x e in record { held = t.held; it = t.it; at = t.at; is = t.is }

pub open-at : (kept : List OpenFamily) (i : ℕ) (x : Family) → slice_get (open_families kept) i ≡ Some x → IsOpenAt kept i x
open-at [] i x e = absurd (cc)
open-at (f ∷ others) zero x e = record { held = true; it = f; at = refl; is = sym (some e) }
open-at (f ∷ others) (suc i) x e = let t = other-at others i x e in record { held = t.held; it = t.it; at = t.at; is = t.is }

pub length-open : (kept : List OpenFamily) → length (open_families kept) ≡ length kept
length-open [] = refl
length-open (f ∷ others) = ap suc (length-map others (open_family false))

length-replicated : (n : ℕ) (b : Bool) → length (replicate n b) ≡ n
length-replicated zero b = refl
length-replicated (suc n) b = ap suc (length-replicated n b)

all_held : (n lane : ℕ) → lane < n → slice_get (replicate n true) lane ≡ Some true
all_held zero lane h = absurd (omega arith)
all_held (suc n) zero h = refl
all_held (suc n) (suc lane) h = all_held n lane (omega arith)

first_held : (kept : List OpenFamily) (lane : ℕ) (x : Family) → lane < MAX_LANES → slice_get (open_families kept) 0 ≡ Some x → HasHandle lane x
first_held [] lane x few e = absurd (cc)
first_held (f ∷ others) lane x few e = subst (HasHandle lane) (some e) (all_held 32 lane few)

first_default : (kept : List OpenFamily) → option_map (λ f. f.name) (slice_get kept 0) ≡ Some default_name → IsDefault (open_families kept)
first_default [] e = absurd (cc)
first_default (f ∷ others) e = record { it = open_family true f; at = refl; name_is = some e; stands = refl }

module _ (kept : List OpenFamily) (h : AreOpen kept) where
  -- the name of a family stands at its place
  named : (i : ℕ) (x : Family) → slice_get (open_families kept) i ≡ Some x → slice_get (map (λ f. f.name) kept) i ≡ Some x.name
  named i x e =
      let t = open-at kept i x e in
      slice_get-map (λ (f : OpenFamily). f.name) kept i ∙ ap (option_map (λ f. f.name)) t.at ∙ ap (λ (z : Family). Some z.name) (sym t.is)

  -- a name is that of one family at most
  once : (Is : Family → Type 0) (name : List ℕ) → ((x : Family) → Is x → x.name ≡ name) → AtMostOne Is (open_families kept)
  once Is name so f g x y fx gy ix iy = h.names f g name (named f x fx ∙ ap Some (so x ix)) (named g y gy ∙ ap Some (so y iy))

  pub lawful_open_families : AreFamilies (open_families kept)
  lawful_open_families = record {
    few = omega (arith, length-open kept, h.most);
    default = first_default kept h.default;
    home = first_held kept;
    distinct = λ name. once _ name (λ x so. so.name_is);
    meant = λ lane name. once _ name (λ x so. so.name_is);
    options = λ i x e. let t = open-at kept i x e in subst (λ (z : Family). InRange z.options) (sym t.is) (h.options i t.it t.at);
    lanes = λ i x e. let t = open-at kept i x e in ap (λ (z : Family). length z.handles) t.is ∙ length-replicated 32 t.held;
  }
