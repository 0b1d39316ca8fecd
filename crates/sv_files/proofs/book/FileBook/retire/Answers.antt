use Rattle.std.proofs.Common.{◌≡◌, refl}
use Rattle.sv_model.specs.declared.records.FileStatus.TheVariants.{Live, Obsolete, Grabbed}
use Rattle.sv_model.specs.Numbers.{IsRegistered, MarksOnly}
use Rattle.sv_files.proofs.Registered.{registered-some}
use Rattle.sv_files.proofs.BookLaws.{book-marked, here, marks-only, there}
use Rattle.sv_files.proofs.book.FileBook.retire.Goals as goal

pub mark-requires : goal.mark-requires
mark-requires c =
    registered-some c.self.inside.numbers c.number.inside.0 Live (here (λ n r. IsRegistered r.numbers n Live) c.self.view_is c.number.view_is c.requires)

pub invariant_of-self : goal.invariant_of-self
invariant_of-self c =
    book-marked _ c.self.inside.made c.number.inside.0 c.mark.result.status Live Obsolete c.mark.new.self c.self.invariant c.mark.ensures.marked.0 (here (λ n r. IsRegistered r.numbers n Live) c.self.view_is c.number.view_is c.requires)
    (λ e. cc) (λ e. cc) (λ e. absurd (obsolete_grabbed e))
  where
    obsolete_grabbed : Obsolete ≡ Grabbed → ⊥
    obsolete_grabbed e = cc

pub returns : goal.returns
returns c =
    there (λ n r new. MarksOnly n Live Obsolete r new) _ c.self.view_is c.number.view_is
    (marks-only _ c.self.inside.made c.number.inside.0 c.mark.result.status Live Obsolete c.mark.new.self c.self.invariant c.mark.ensures.marked.0 (here (λ n r. IsRegistered r.numbers n Live) c.self.view_is c.number.view_is c.requires) Obsolete refl)
