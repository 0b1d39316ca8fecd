use Rattle.std.proofs.Common.{◌≡◌, ◌+◌, ℕ, List, map, min, arith, sym, ap, subst, ◌∙◌}
use Rattle.sv_model.specs.Books.{FileRegister}
use Rattle.sv_model.specs.declared.records.RegisteredFile.{RegisteredFile}
use Rattle.sv_model.specs.declared.records.FileStatus.TheVariants.{Obsolete}
use Rattle.sv_model.specs.Lists.{In}
use Rattle.sv_model.specs.Numbers.{captures, least_captured}
use Rattle.sv_files.specs.Calls.{IsScanned, grab}
use Rattle.sv_files.specs.Kept.{IsFileBook}
use Rattle.sv_files.proofs.Registered.{registered-some}
use Rattle.sv_files.proofs.BookLaws.{book-grabbed}
use Rattle.sv_files.proofs.ScanLaws.{captures-strays, numbers-strays, scanned}
use Rattle.sv_files.proofs.book.FileBook.scan.Goals as goal

pub grab_all-requires : goal.grab_all-requires
grab_all-requires c n there =
    registered-some c.find_with_strays.new.numbers n Obsolete ((c.in_ok-found.ensures.found.found_are.exact n).0 (subst (λ (l : List ℕ). In n l) c.as_slice.ensures.value there)).0

pub invariant_of-self-2 : goal.invariant_of-self-2
invariant_of-self-2 c =
    let found = c.in_ok-found.ensures.found in
    let bound : c.bound-bound.result ≡ least_captured c.self.inside.captured = c.bound-bound.ensures ∙ ap (λ (r : FileRegister). least_captured r.captured) (sym c.self.view_is) in
    subst (λ (l : List RegisteredFile). IsFileBook (record { numbers = l; captured = c.self.inside.captured; holds = c.self.inside.holds; jobs = c.self.inside.jobs + 1; next = c.self.inside.next }) c.self.inside.made) (sym c.grab_all.ensures)
    (book-grabbed _ c.self.inside.made c.find_with_strays.new.numbers c.as_slice.result.now c.self.invariant (omega (arith, c.requires, ap (λ (r : FileRegister). r.jobs) c.self.view_is))
    (numbers-strays c.self.inside.numbers c.find_with_strays.new.numbers c.self.inside.captured c.self.inside.next (min c.bound-bound.result c.self.inside.next) c.args.listed.now c.self.invariant.laws.numbers found.added (omega arith))
    (ap captures found.added.is ∙ captures-strays c.self.inside.numbers found.added.strays)
    (λ n there. (
    let r = (found.found_are.exact n).0 (subst (λ (l : List ℕ). In n l) c.as_slice.ensures.value there) in
    (r.0, omega (arith, r.1, bound)))))

pub returns-clause-found : goal.returns-clause-found
returns-clause-found c =
    let found = c.in_ok-found.found.items in
    let bound : c.bound-bound.result ≡ least_captured c.self.inside.captured = c.bound-bound.ensures ∙ ap (λ (r : FileRegister). least_captured r.captured) (sym c.self.view_is) in
    let numbers : c.grab_all.new.numbers ≡ map (grab found) c.find_with_strays.new.numbers = c.grab_all.ensures ∙ ap (λ (l : List ℕ). map (grab l) c.find_with_strays.new.numbers) c.as_slice.ensures.value in
    subst (λ (r : FileRegister). IsScanned r (record { numbers = c.grab_all.new.numbers; captured = c.self.inside.captured; holds = c.self.inside.holds; jobs = c.self.inside.jobs + 1; next = c.self.inside.next }) c.args.listed.now found) c.self.view_is
    (subst (λ (l : List RegisteredFile). IsScanned (record { numbers = c.self.inside.numbers; captured = c.self.inside.captured; holds = c.self.inside.holds; jobs = c.self.inside.jobs; next = c.self.inside.next }) (record { numbers = l; captured = c.self.inside.captured; holds = c.self.inside.holds; jobs = c.self.inside.jobs + 1; next = c.self.inside.next }) c.args.listed.now found) (sym numbers)
    (scanned (record { numbers = c.self.inside.numbers; captured = c.self.inside.captured; holds = c.self.inside.holds; jobs = c.self.inside.jobs; next = c.self.inside.next }) c.find_with_strays.new.numbers c.args.listed.now found c.bound-bound.result bound c.in_ok-found.ensures.found))
