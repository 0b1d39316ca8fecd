use Rattle.std.proofs.Common.{List, [], sym, subst, arith}
use Rattle.sv_model.specs.Numbers.{FilesStand}
use Rattle.sv_model.specs.declared.records.RegisteredFile.{RegisteredFile}
use Rattle.sv_files.specs.Calls.{opened}
use Rattle.sv_files.proofs.BookLaws.{first-book}
use Rattle.sv_files.proofs.NumbersLaws.{numbers-none}
use Rattle.sv_files.proofs.book.FileBook.new.Goals as goal

pub with_numbers-requires-clause-stand : goal.with_numbers-requires-clause-stand
with_numbers-requires-clause-stand c =
    subst (λ (l : List RegisteredFile). FilesStand (opened c.raw.result l)) (sym c.new.ensures)
    (first-book c.raw.result [] (numbers-none c.raw.result (omega (arith, c.requires, c.raw.ensures)) (omega (arith, c.raw.type_inv))) (omega arith))
