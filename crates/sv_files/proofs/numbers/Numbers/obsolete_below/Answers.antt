use Rattle.std.proofs.Common.{◌<◌, List, take, arith, sym, subst}
use Rattle.sv_model.specs.declared.records.RegisteredFile.{RegisteredFile}
use Rattle.sv_model.specs.declared.records.FileStatus.TheVariants.{Obsolete}
use Rattle.sv_model.specs.Numbers.{AreInOrder, IsRegistered}
use Rattle.sv_files.proofs.AscendingNumbers.{take_rising, first-in}
use Rattle.sv_files.proofs.AnswerLaws.{ok-map, err-map}
use Rattle.sv_files.proofs.numbers.Numbers.obsolete_below.Goals as goal

below : (c : goal.After-first) → AreInOrder (λ n. IsRegistered c.args.self.now n Obsolete × (n < c.args.bound)) (take c.count_below-count.result c.self.inside.obsolete.items)
below c =
    let h = c.self.invariant.in_order in
    subst (λ (l : List RegisteredFile). AreInOrder (λ n. IsRegistered l n Obsolete × (n < c.args.bound)) (take c.count_below-count.result c.self.inside.obsolete.items)) c.self.view_is (record {
      exact = λ n. (
        λ there. (let r = (c.count_below-count.ensures.below n).0 there in ((h.exact n).0 r.0, r.1)),
        λ (r, low). (c.count_below-count.ensures.below n).1 ((h.exact n).1 r, low),
      );
      rising = take_rising c.self.inside.obsolete.items c.count_below-count.result h.rising;
    })

pub returns-clause-found : goal.returns-clause-found
returns-clause-found c =
    ok-map c.first.result _ _ (λ found is. subst (AreInOrder (λ n. IsRegistered c.args.self.now n Obsolete × (n < c.args.bound))) (sym is) (below c)) c.first.ensures.first

pub returns-clause-none : goal.returns-clause-none
returns-clause-none c =
    err-map c.first.result _ _
    (λ some. (
    let n = first-in c.self.inside.obsolete.items c.count_below-count.result some (omega (arith, c.count_below-count.ensures.within, c.self.inside.obsolete.ok.0)) in
    let r = ((below c).exact n.0).0 n.1 in
    (n.0, r.0, r.1)))
    c.first.ensures.none
