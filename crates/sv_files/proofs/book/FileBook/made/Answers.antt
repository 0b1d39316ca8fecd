use Rattle.std.proofs.Common.{◌≡◌, List, count_by, is_some, refl, arith, ap, ◌∙◌}
use Rattle.std.proofs.lemmas.List.Recursion.{is_count_by}
use Rattle.sv_model.specs.Books.{FileRegister}
use Rattle.sv_model.specs.declared.records.RegisteredFile.{RegisteredFile}
use Rattle.sv_model.specs.Numbers.{captures}
use Rattle.sv_files.proofs.book.FileBook.made.Goals as goal

counted : (numbers : List RegisteredFile) → captures numbers ≡ count_by (λ f. is_some f.family) numbers
counted numbers = is_count_by captures (λ f. is_some f.family) refl (λ f others. grind arith) numbers

pub returns : goal.returns
returns c =
    c.self.invariant.counted ∙ counted c.self.inside.numbers
    ∙ ap (λ (r : FileRegister). count_by (λ f. is_some f.family) r.numbers) c.self.view_is
