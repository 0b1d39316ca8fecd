-- The fields of the state as books, and what always holds of them.
use Rattle.sv_model.specs.Books.{Books}
use Rattle.sv_state.specs.declared.state.State.TheInside.{Inside}
use Rattle.sv_state.specs.Refs.{IsState}

abbrev pub books_of : Inside → Books
books_of s = record {
  journal = s.journal.writes;
  supers = s.objects.supers;
  memtables = s.objects.memtables;
  lists = s.objects.lists;
  versions = s.objects.versions;
  files = s.objects.files;
  metas = s.metas.items;
  families = s.families;
  tops = s.tops.items;
  snapshots = s.journal.snapshots;
}

abbrev pub Keeps : Inside → Type 0
Keeps s = IsState (books_of s) s.held.items
