-- The fields of the store as contracts see them, and what always holds of them.
use Rattle.sv_store.specs.declared.store.Store.TheInside.{Inside}
use Rattle.sv_store.specs.Seen.{StoreSeen}
use Rattle.sv_store.specs.Standing.{Rests}

abbrev pub seen_of : Inside → StoreSeen
seen_of s = record { books = s.state.books; cells = s.cells }

abbrev pub Keeps : Inside → Type 0
Keeps s = Rests s.state.books s.cells
