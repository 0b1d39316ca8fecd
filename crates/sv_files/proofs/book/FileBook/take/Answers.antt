use Rattle.std.proofs.Common.{◌<◌, refl, arith, ap}
use Rattle.sv_model.specs.Books.{FileRegister}
use Rattle.sv_model.specs.Numbers.{least_captured}
use Rattle.sv_model.specs.declared.records.FileStatus.TheVariants.{Obsolete, Grabbed}
use Rattle.sv_files.specs.Calls.{IsTaken}
use Rattle.sv_files.proofs.Registered.{registered-some}
use Rattle.sv_files.proofs.BookLaws.{book-job, book-marked, taken, there}
use Rattle.sv_files.proofs.NumbersLaws.{below-bound}
use Rattle.sv_files.proofs.book.FileBook.take.Goals as goal

pub mark-requires : goal.mark-requires
mark-requires c =
    registered-some c.self.inside.numbers c.number.inside.0 Obsolete (c.is_obsolete.ensures.0 c.if-not-is_obsolete.false)

pub invariant_of-self : goal.invariant_of-self
invariant_of-self c =
    let low : c.number.inside.0 < least_captured c.self.inside.captured = omega (arith, c.if-number-bound.false, c.bound.ensures, ap (λ (r : FileRegister). least_captured r.captured) c.self.view_is) in
    book-job _ c.self.inside.made
    (book-marked _ c.self.inside.made c.number.inside.0 c.mark.result.status Obsolete Grabbed c.mark.new.self c.self.invariant c.mark.ensures.marked.0 (c.is_obsolete.ensures.0 c.if-not-is_obsolete.false) (λ e. cc) (λ e. cc)
    (λ e. below-bound c.self.inside.captured c.number.inside.0 low))
    (omega (arith, c.requires, ap (λ (r : FileRegister). r.jobs) c.self.view_is))

pub returns-clause-taken : goal.returns-clause-taken
returns-clause-taken c t =
    there (λ n r new. IsTaken n r new) _ c.self.view_is c.number.view_is
    (taken _ c.self.inside.made c.number.inside.0 c.mark.result.status Obsolete Grabbed c.mark.new.self c.self.invariant c.mark.ensures.marked.0 (c.is_obsolete.ensures.0 c.if-not-is_obsolete.false) refl refl)
