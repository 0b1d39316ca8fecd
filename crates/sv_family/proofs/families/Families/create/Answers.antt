use Rattle.std.proofs.Common.{◌≡◌, ◌++◌, ◌∷◌, [], true, not, cond, Bool, is_ok, sym, ap, subst, ◌∙◌}
use Rattle.sv_model.specs.Families.{AreFamilies}
use Rattle.sv_family.proofs.LawfulFamilies.{lawful_create}
use Rattle.sv_family.proofs.families.Families.create.Goals as goal

where_ok : {A : Type 0} (ok : Bool) (x y z : A) → z ≡ cond ok x y → ok ≡ true → z ≡ x
where_ok ok x y z is holds = is ∙ ap (λ b. cond b x y) holds

pub invariant_of-self-2 : goal.invariant_of-self-2
invariant_of-self-2 c =
    let ok : is_ok c.push.result ≡ true = c.is_err.ensures.negation ∙ ap not c.if-is_err.false in
    let pushed : c.push.new.self.items ≡ c.self.inside.families.items ++ c.in_ok-family.family ∷ [] = where_ok (is_ok c.push.result) _ _ _ c.push.ensures.items ok in
    subst AreFamilies (sym pushed)
    (lawful_create c.self.inside.families.items c.args.self.now c.args.lane c.args.name.now c.in_ok-family.family c.self.view_is c.self.invariant (sym c.create_refusal.ensures ∙ c.in_default.is) c.in_ok-family.ensures)

pub returns-clause-lawful : goal.returns-clause-lawful
returns-clause-lawful c = invariant_of-self-2 c
