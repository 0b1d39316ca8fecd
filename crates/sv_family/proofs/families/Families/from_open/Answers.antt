use Rattle.std.proofs.Common.{◌≡◌, ◌∷◌, ◌++◌, [], ◌∙◌, true, false, List, map, ap, sym, subst, arith}
use Rattle.std.proofs.lemmas.List.{take_all}
use Rattle.sv_model.specs.declared.records.Family.{Family}
use Rattle.sv_model.specs.declared.openings.OpenFamily.{OpenFamily}
use Rattle.sv_model.specs.Families.{AreFamilies}
use Rattle.sv_family.specs.Openings.{open_families, open_family}
use Rattle.sv_family.proofs.OpenFamilies.{lawful_open_families}
use Rattle.sv_family.proofs.families.Families.from_open.Goals as goal

pub invariant_of-result : goal.invariant_of-result
invariant_of-result c =
    let others = c.in-Some.others.now in
    let first : c.push.new.self.items ≡ open_family true c.in-Some.default.now ∷ [] = grind arith in
    let all = c.loop-other.invariant ∙ ap (λ (l : List OpenFamily). c.push.new.self.items ++ map (open_family false) l) (take_all c.loop-other.other-index others c.loop-other-test.false)
    ∙ ap (λ (l : List Family). l ++ map (open_family false) others) first in
    let kept : c.args.kept.now ≡ c.in-Some.default.now ∷ others = grind arith in
    subst AreFamilies (sym all) (subst (λ l. AreFamilies (open_families l)) kept (lawful_open_families c.args.kept.now c.requires))

pub returns-clause-lawful : goal.returns-clause-lawful
returns-clause-lawful c = invariant_of-result c
