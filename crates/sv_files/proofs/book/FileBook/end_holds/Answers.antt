use Rattle.sv_files.specs.contracts.book.FileBook.{the_view}
use Rattle.sv_files.proofs.BookLaws.{none-held}
use Rattle.sv_files.proofs.book.FileBook.end_holds.Goals as goal

pub invariant_of-self : goal.invariant_of-self
invariant_of-self c = none-held (the_view c.self.inside) c.self.inside.made c.self.invariant
