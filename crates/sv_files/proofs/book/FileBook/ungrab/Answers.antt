use Rattle.std.proofs.Common.{◌≡◌, Bool, true, false, sym, ◌∙◌}
use Rattle.sv_model.specs.declared.records.FileStatus.{FileStatus}
use Rattle.sv_model.specs.declared.records.FileStatus.TheVariants.{Pending, Obsolete, Grabbed, Gone}
use Rattle.sv_model.specs.Numbers.{IsRegistered, MarksOnly}
use Rattle.sv_files.specs.Calls.{ungrabbed}
use Rattle.sv_files.proofs.Registered.{registered-some}
use Rattle.sv_files.proofs.BookLaws.{book-marked, here, marks-only, there}
use Rattle.sv_files.proofs.book.FileBook.ungrab.Goals as goal

-- it is neither Pending nor Grabbed
other : (gone : Bool) (s : FileStatus) → s ≡ ungrabbed gone → (s ≡ Pending → ⊥) × (s ≡ Grabbed → ⊥)
other true s is = (λ e. (let both : Gone ≡ Pending = sym is ∙ e in cc), λ e. (let both : Gone ≡ Grabbed = sym is ∙ e in cc))
other false s is = (λ e. (let both : Obsolete ≡ Pending = sym is ∙ e in cc), λ e. (let both : Obsolete ≡ Grabbed = sym is ∙ e in cc))

pub mark-requires : goal.mark-requires
mark-requires c =
    registered-some c.self.inside.numbers c.number.inside.0 Grabbed (here (λ n r. IsRegistered r.numbers n Grabbed) c.self.view_is c.number.view_is c.requires)

pub invariant_of-self : goal.invariant_of-self
invariant_of-self c =
    let o = other c.args.gone c.ungrabbed.result c.ungrabbed.ensures in
    book-marked _ c.self.inside.made c.number.inside.0 c.mark.result.status Grabbed c.ungrabbed.result c.mark.new.self c.self.invariant c.mark.ensures.marked.0 (here (λ n r. IsRegistered r.numbers n Grabbed) c.self.view_is c.number.view_is c.requires)
    (λ e. cc) o.0 (λ e. absurd (o.1 e))

pub returns : goal.returns
returns c =
    there (λ n r new. MarksOnly n Grabbed (ungrabbed c.args.gone) r new) _ c.self.view_is c.number.view_is
    (marks-only _ c.self.inside.made c.number.inside.0 c.mark.result.status Grabbed c.ungrabbed.result c.mark.new.self c.self.invariant c.mark.ensures.marked.0 (here (λ n r. IsRegistered r.numbers n Grabbed) c.self.view_is c.number.view_is c.requires) (ungrabbed c.args.gone) c.ungrabbed.ensures)
