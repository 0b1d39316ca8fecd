-- What the end of a family's current leaves, by each of the two calls of the close.
use Rattle.std.proofs.Common.{◌≡◌, ◌==◌, ◌&&◌, ℕ, true, false, None, refl, sym, ap, ◌∙◌, subst}
use Rattle.sv_model.specs.declared.records.Top.{Top}
use Rattle.sv_model.specs.Books.{Books}
use Rattle.sv_model.specs.Lists.{bit, total}
use Rattle.sv_model.proofs.Entries.{some}
use Rattle.sv_laws.specs.Families.{IsCurrentEnded, IsForgotten, without_handles}
use Rattle.sv_laws.specs.Growing.{IsPlaced}
use Rattle.sv_laws.proofs.GrownRegisters.{placed-set}
use Rattle.sv_state.specs.Currents.{HasCurrentAt}
use Rattle.sv_store.specs.Ending.{LetsFamilyGo, LosesCurrent}

pub ended-loses : (a b : Books) (f : ℕ) → HasCurrentAt a f → IsCurrentEnded a b f → LosesCurrent a b f
ended-loses a b f c h =
    let same : c.top ≡ h.top = some (sym c.at ∙ h.on) in
    record {
      top = h.top;
      on = h.on;
      s = c.serial;
      current = ap (λ (z : Top). z.current) (sym same) ∙ c.is;
      placed = subst (λ (z : Books). IsPlaced a.tops z.tops f (record h.top { current = None })) (sym h.is) (placed-set a.tops f h.top (record h.top { current = None }) h.on);
      is = subst (λ (z : Books). z ≡ record a { families = z.families; tops = z.tops }) (sym h.is) refl;
    }

pub ended-lets-go : (a b : Books) (f : ℕ) → IsCurrentEnded a b f → LetsFamilyGo a b f
ended-lets-go a b f h = record {
  it = h.it;
  at = h.at;
  now = h.it;
  lets_go = record { name = refl; options = refl; dropped = refl; standing = λ q. refl };
  retired = λ q. let z : true ≡ false = sym q ∙ h.stands in absurd (cc);
  placed = subst (λ (z : Books). IsPlaced a.families z.families f h.it) (sym h.is) (record { here = h.at; others = λ g apart. refl });
}

pub forgotten-loses : (a b : Books) (f : ℕ) → IsForgotten a b f → LosesCurrent a b f
forgotten-loses a b f h = record {
  top = h.top;
  on = h.on;
  s = h.s;
  current = h.current;
  placed = subst (λ (z : Books). IsPlaced a.tops z.tops f (record h.top { current = None })) (sym h.is) (placed-set a.tops f h.top (record h.top { current = None }) h.on);
  is = subst (λ (z : Books). z ≡ record a { families = z.families; tops = z.tops }) (sym h.is) refl;
}

pub forgotten-lets-go : (a b : Books) (f : ℕ) → IsForgotten a b f → LetsFamilyGo a b f
forgotten-lets-go a b f h = record {
  it = h.it;
  at = h.at;
  now = without_handles h.it;
  lets_go = record { name = refl; options = refl; dropped = refl; standing = λ q. let z : true ≡ false = sym h.gone ∙ q in absurd (cc) };
  retired = λ q. ap (λ b. b && (total bit (without_handles h.it).handles == 0)) q;
  placed = subst (λ (z : Books). IsPlaced a.families z.families f (without_handles h.it)) (sym h.is) (placed-set a.families f h.it (without_handles h.it) h.at);
}
