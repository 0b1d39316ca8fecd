use Rattle.std.proofs.Common.{ℕ, List, map, take, ◌++◌, ◌∷◌, [], arith, sym, ap, subst, ◌∙◌}
use Rattle.sv_model.specs.declared.records.RegisteredFile.{RegisteredFile}
use Rattle.sv_model.specs.Numbers.{IsMarked, registered}
use Rattle.sv_files.specs.Calls.{grab}
use Rattle.sv_files.proofs.GrabLaws.{grab-none, grab_more, registered-grab}
use Rattle.sv_files.proofs.StrayLaws.{item-in, take-item}
use Rattle.sv_files.proofs.grabs.grab_all.Goals as goal

pub loop-number-init : goal.loop-number-init
loop-number-init c = grab-none c.args.numbers.now

pub mark-requires : goal.mark-requires
mark-requires c =
    let some = c.requires c.number-item.result (item-in c.args.found.now c.loop-number.number-index c.number-item.result c.loop-number-test.true c.number-item.is) in
    omega (arith, some, ap (λ (l : List RegisteredFile). registered c.number.inside.0 l) c.loop-number.invariant, registered-grab c.number.inside.0 (take c.loop-number.number-index c.args.found.now) c.args.numbers.now, ap (λ (n : ℕ). registered n c.args.numbers.now) c.number.view_is)

pub loop-number-preserved : goal.loop-number-preserved
loop-number-preserved c =
    let found = c.args.found.now in
    let so_far = take c.loop-number.number-index found in
    let n = c.number.inside.0 in
    let once = c.mark.ensures.once in
    let marked = subst (λ (l : List RegisteredFile). IsMarked n c.mark.result.status _ l c.mark.new.self) c.loop-number.invariant c.mark.ensures.marked.0 in
    grab_more n c.mark.result.status so_far c.args.numbers.now c.mark.new.self (omega (arith, once, ap (λ (l : List RegisteredFile). registered n l) c.loop-number.invariant, registered-grab n so_far c.args.numbers.now)) marked
    ∙ ap (λ (k : ℕ). map (grab (so_far ++ k ∷ [])) c.args.numbers.now) c.number.view_is
    ∙ ap (λ (l : List ℕ). map (grab l) c.args.numbers.now) (sym (take-item found c.loop-number.number-index c.number-item.result c.loop-number-test.true c.number-item.is))
