use Rattle.sv_rule.specs.Blanks.{desk_of}
use Rattle.sv_puts.proofs.Appending.{written_since}
use Rattle.sv_puts.proofs.appends.append.Given as goal

abbrev pub ghosts-give_written : goal.ghosts-give_written
ghosts-give_written g a =
    let d = desk_of a.seat.now.seat.me.0 in record {
      desk = d;
      cell = a.number;
      books = a.held.now.books;
      task = a.seat.now.seat.me.0.known.task;
      more = written_since d.books a.held.now.books;
      family = a._family;
      seen = a._count;
    }
