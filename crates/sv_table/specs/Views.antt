-- What the code's own records are, seen as those of the reader.
use Rattle.std.specs.Prelude.{◌≡◌, ℕ, Result, Ok, Err}
use Rattle.sv_model.specs.TableText as text
use Rattle.sv_model.specs.TableTextFields as fields
use Rattle.sv_model.specs.declared.writes.Op.{Op}
use Rattle.sv_model.specs.declared.writes.Op.TheVariants as op
use Rattle.sv_table.specs.declared.faults.Stuck.{Stuck}
use Rattle.sv_table.specs.declared.formats.Format.{Format}
use Rattle.sv_table.specs.declared.formats.Format.TheVariants.{One, Two, Three}
use Rattle.sv_table.specs.declared.headers.Header.{Header}
use Rattle.sv_table.specs.declared.rows.Shape.{Shape}
use Rattle.sv_table.specs.declared.rows.Seen.{Seen}
use Rattle.sv_table.specs.declared.rows.RowAt.{RowAt}
use Rattle.sv_table.specs.declared.hits.Hit.{Hit}
use Rattle.sv_table.specs.declared.hits.Hit.TheVariants.{Put, Delete}
use Rattle.sv_table.specs.Reading as reading

-- What a function returned, seen by view, is what reading gives.
abbrev pub Gives : {X Y : Type 0} → (X → Y) → Result X Stuck → Result Y ℕ → Type 0
Gives view (Ok x) read = read ≡ Ok (view x)
Gives view (Err e) read = read ≡ Err e.left

abbrev pub format_is : Format → text.Format
format_is One = text.One
format_is Two = text.Two
format_is Three = text.Three

abbrev pub header_is : Header → reading.Header
header_is h = record { format = format_is h.format; from = h.from; to = h.to; bottom = h.bottom; count = h.count }

abbrev pub shape_is : Shape → fields.Shape
shape_is s = record { format = format_is s.format; last = s.last; cuts = s.cuts }

abbrev pub seen_is : Seen → fields.Seen
seen_is s = record { first = s.first.now; key = s.key.now; number = s.number; deleted = s.deleted }

abbrev pub op_is : Hit → Op
op_is (Put value) = op.Put value.now
op_is Delete = op.Delete

abbrev pub entry_is : RowAt → reading.Entry
entry_is r = record { key = r.key.now; number = r.number; op = op_is r.op }
