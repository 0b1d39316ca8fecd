use Rattle.std.proofs.Common.{arith}
use Rattle.sv_db.proofs.OpenedBooks.{first-books}
use Rattle.sv_db.proofs.openings.open.Goals as goal

pub new-requires-clause-books : goal.new-requires-clause-books
new-requires-clause-books g c =
    first-books c.in-Ok.state.books _ _ c.in-Ok.ensures.books c.in-Ok.ensures.sound (omega (arith, c.requires.next))
