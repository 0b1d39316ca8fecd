use Rattle.std.proofs.Common.{arith, subst}
use Rattle.sv_model.specs.Books.{FileRegister}
use Rattle.sv_model.specs.declared.records.FileStatus.TheVariants.{Obsolete}
use Rattle.sv_model.specs.Numbers.{AreInOrder, IsRegistered}
use Rattle.sv_files.proofs.AnswerLaws.{ok-map}
use Rattle.sv_files.proofs.BookLaws.{in-order-map}
use Rattle.sv_files.proofs.NumbersLaws.{registered-below}
use Rattle.sv_files.proofs.book.FileBook.obsolete.Goals as goal

pub returns-clause-left : goal.returns-clause-left
returns-clause-left c =
    ok-map c.obsolete_below.result _ _
    (λ left h. subst (λ (r : FileRegister). AreInOrder (λ n. IsRegistered r.numbers n Obsolete) left.items) c.self.view_is
    (in-order-map _ (λ n. IsRegistered c.self.inside.numbers n Obsolete) left.items (λ n. (
      λ r. r.0,
      λ r. (r, (let b = registered-below c.self.inside.numbers c.self.inside.captured c.self.inside.next n Obsolete c.self.invariant.laws.numbers r in omega (arith, b, c.self.invariant.laws.numbers.most))),
    )) h))
    c.obsolete_below.ensures.found
