-- What looking up a key in a file's bytes answers.
use Rattle.std.specs.Prelude.{◌≡◌, ◌&&◌, ℕ, nat_le, List, Option, Some, None, Result, Ok, Err, map, option_map, if◌then◌else◌}
use Rattle.sv_model.specs.declared.writes.Kept.{Kept}
use Rattle.sv_model.specs.declared.writes.Op.{Op}
use Rattle.sv_model.specs.declared.cuts.Bottom.{Bottom}
use Rattle.sv_model.specs.Journal.{same_key}
use Rattle.sv_model.specs.Order.{first_upto, key_of_kept, end_of_kept}
use Rattle.sv_model.specs.TableText.{IsTextOf}
use Rattle.sv_table.specs.Reading.{Header, Entry, kept_of}
use Rattle.sv_table.specs.declared.hits.Hit.{Hit}
use Rattle.sv_table.specs.Views.{op_is}

-- What the first row of the key does whose end is at most the cut.
abbrev pub op_upto : List ℕ → ℕ → List Kept → Option Op
op_upto key cut rows = option_map (λ r. r.row.op) (first_upto key_of_kept end_of_kept key cut rows)

-- This is what the table of which the bytes are a text has of the key, at that cut.
pub record IsFoundIn (bytes key : List ℕ) (cut : ℕ) (found : Option Op) : Type 0 where
  pub of : (from to : ℕ) (bottom : Bottom) (rows : List Kept) → IsTextOf bytes from to bottom rows → found ≡ op_upto key cut rows

abbrev pub hit_op : Option Hit → Option Op
hit_op found = option_map op_is found

-- what was found first; else this
abbrev pub found_then : Option Op → Option Op → Option Op
found_then None later = later
found_then (Some op) later = Some op

-- what the row does, where it is of the key and its end is at most the cut
abbrev pub hit_here : Header → List ℕ → ℕ → Entry → Option Op
hit_here h key cut e = if same_key key e.key && nat_le (kept_of h e).end cut then Some e.op else None

-- the same of rows that were read
abbrev pub found_in : Header → List ℕ → ℕ → Result (List Entry × List ℕ) ℕ → Option Op
found_in h key cut (Ok x) = op_upto key cut (map (kept_of h) x.0)
found_in h key cut (Err left) = None
