use Rattle.std.proofs.Common.{◌≡◌, ◌<◌, suc, Some, None, List, ◌⊎◌, ⊎_elim, refl, arith, sym, ap, subst, ◌∙◌}
use Rattle.std.proofs.lemmas.Option.{slice_get_within}
use Rattle.sv_model.specs.declared.records.RegisteredFile.{RegisteredFile}
use Rattle.sv_model.specs.Numbers.{IsRegistered, registered}
use Rattle.sv_files.proofs.KeptLaws.{has-place, read-is}
use Rattle.sv_files.proofs.numbers.Numbers.status.Goals as goal

pub index-requires : goal.index-requires
index-requires c =
    let x = c.self.invariant.positions.found c.args.number c.in-Some.at.now (sym c.in-Some.ensures.value) in
    omega (arith, slice_get_within c.self.inside.files.items c.in-Some.at.now x.0 x.1, c.self.inside.files.ok.0)

pub returns-in-Some : goal.returns-in-Some
returns-in-Some c =
    let r = read-is c.self.inside.places c.self.inside.files.items c.args.number c.in-Some.at.now c.index.result.now c.self.invariant.positions (sym c.in-Some.ensures.value) c.index.ensures in
    subst (λ (l : List RegisteredFile). IsRegistered l c.args.number c.index.result.now.status) c.self.view_is (suc c.in-Some.at.now, c.index.result.now, r.0, record { number_is = r.1; status_is = refl })

pub returns-in-None : goal.returns-in-None
returns-in-None c =
    let n = c.args.number in
    let l = c.self.inside.files.items in
    let cases : (registered n l ≡ 0) ⊎ (0 < registered n l) = grind arith in
    ⊎_elim
    (λ none. ap (registered n) (sym c.self.view_is) ∙ none)
    (λ some. (
    let p = has-place c.self.inside.places l n c.self.invariant.positions some in
    let both : None ≡ Some p.0 = c.in-None.ensures.value ∙ p.1 in absurd (cc)))
    cases
