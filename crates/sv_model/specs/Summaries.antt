-- The numbers of a report, counted in the registers.
use Rattle.std.specs.Prelude.{ℕ, ◌+◌, nat_lt, Bool, true, false, cond, not, ◌&&◌, List, [], ◌∷◌, is_some, is_none, length, map, filter, count_by}
use Rattle.sv_model.specs.declared.writes.Write.{Write}
use Rattle.sv_model.specs.declared.records.Version.{Version}
use Rattle.sv_model.specs.declared.records.Family.{Family}
use Rattle.sv_model.specs.declared.records.Top.{Top}
use Rattle.sv_model.specs.declared.records.FileStatus.{FileStatus}
use Rattle.sv_model.specs.declared.records.RegisteredFile.{RegisteredFile}
use Rattle.sv_model.specs.declared.records.FileStatus.TheVariants.{Obsolete, Gone}
use Rattle.sv_model.specs.declared.reports.Summary.{Summary}
use Rattle.sv_model.specs.declared.reports.FamilyLine.{FamilyLine}
use Rattle.sv_model.specs.declared.reports.Totals.{Totals}
use Rattle.sv_model.specs.declared.reports.End.{End}
use Rattle.sv_model.specs.Journal.{of_family}
use Rattle.sv_model.specs.Books.{Books, files_of}

-- a family's line
abbrev pub family_line : List Write → List Version → ℕ → Family → Top → FamilyLine
family_line journal versions id family top = record {
  id = id;
  name = family.name;
  dropped = family.dropped;
  writes = length (of_family id journal);
  files = cond family.dropped [] (map (λ f. f.number) (files_of versions top.last));
}

-- the lines of the families from this id on
abbrev pub family_lines : List Write → List Version → ℕ → List Family → List Top → List FamilyLine
family_lines journal versions id (family ∷ families) (top ∷ tops) =
    family_line journal versions id family top ∷ family_lines journal versions (id + 1) families tops
family_lines journal versions id families tops = []

abbrev pub is_gone : FileStatus → Bool
is_gone Gone = true
is_gone status = false

abbrev pub is_obsolete : FileStatus → Bool
is_obsolete Obsolete = true
is_obsolete status = false

-- a number before the first that is above it
abbrev pub place_number : ℕ → List ℕ → List ℕ
place_number x [] = x ∷ []
place_number x (y ∷ ys) = cond (nat_lt x y) (x ∷ y ∷ ys) (y ∷ place_number x ys)

-- the numbers in ascending order
abbrev pub ascending : List ℕ → List ℕ
ascending [] = []
ascending (x ∷ l) = place_number x (ascending l)

-- the Obsolete numbers, in the order in which they were registered
abbrev pub obsolete_registered : List RegisteredFile → List ℕ
obsolete_registered numbers = map (λ f. f.number) (filter (λ f. is_obsolete f.status) numbers)

-- the numbers that are still to be removed, ascending
abbrev pub obsolete_of : List RegisteredFile → List ℕ
obsolete_of numbers = ascending (obsolete_registered numbers)

-- what was made
abbrev pub made_of : Books → Totals
made_of books = record {
  superversions = length books.supers;
  memtables = length books.memtables;
  files = count_by (λ f. is_some f.family) books.files.numbers;
}

-- what of it is Gone
abbrev pub gone_of : Books → Totals
gone_of books = record {
  superversions = count_by (λ s. not s.live) books.supers;
  memtables = count_by (λ m. not m.live) books.memtables;
  files = count_by (λ f. is_some f.family && is_gone f.status) books.files.numbers;
}

-- The summary of books after a close that ended so.
abbrev pub summary_of : End → Books → Summary
summary_of end books = record {
  families = family_lines books.journal books.versions 0 books.families books.tops;
  made = made_of books;
  gone = gone_of books;
  strays_seen = count_by (λ f. is_none f.family) books.files.numbers;
  strays_gone = count_by (λ f. is_none f.family && is_gone f.status) books.files.numbers;
  end = end;
  left = obsolete_of books.files.numbers;
}
