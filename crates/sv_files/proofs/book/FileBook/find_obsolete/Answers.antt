use Rattle.std.proofs.Common.{◌+◌, ℕ, List, refl, arith, sym, ap, subst}
use Rattle.sv_model.specs.Books.{FileRegister}
use Rattle.sv_model.specs.declared.records.RegisteredFile.{RegisteredFile}
use Rattle.sv_model.specs.declared.records.FileStatus.TheVariants.{Obsolete}
use Rattle.sv_model.specs.Lists.{In}
use Rattle.sv_model.specs.Numbers.{IsReady}
use Rattle.sv_files.specs.Kept.{IsFileBook}
use Rattle.sv_files.proofs.Registered.{registered-some}
use Rattle.sv_files.proofs.BookLaws.{book-grabbed}
use Rattle.sv_files.proofs.book.FileBook.find_obsolete.Goals as goal

pub grab_all-requires : goal.grab_all-requires
grab_all-requires c n there =
    let r = subst (λ (r : FileRegister). IsReady r n) (sym c.self.view_is) ((c.in_ok-found.ensures.ready.exact n).0 (subst (λ (l : List ℕ). In n l) c.as_slice.ensures.value there)) in
    registered-some c.self.inside.numbers n Obsolete r.obsolete

pub invariant_of-self : goal.invariant_of-self
invariant_of-self c =
    subst (λ (l : List RegisteredFile). IsFileBook (record { numbers = l; captured = c.self.inside.captured; holds = c.self.inside.holds; jobs = c.self.inside.jobs + 1; next = c.self.inside.next }) c.self.inside.made) (sym c.grab_all.ensures)
    (book-grabbed _ c.self.inside.made c.self.inside.numbers c.as_slice.result.now c.self.invariant (omega (arith, c.requires, ap (λ (r : FileRegister). r.jobs) c.self.view_is)) c.self.invariant.laws.numbers refl (λ n there. (
    let r = subst (λ (r : FileRegister). IsReady r n) (sym c.self.view_is) ((c.in_ok-found.ensures.ready.exact n).0 (subst (λ (l : List ℕ). In n l) c.as_slice.ensures.value there)) in
    (r.obsolete, r.below))))
