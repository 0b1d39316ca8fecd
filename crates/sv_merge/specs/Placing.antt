-- What stays of rows by key, in one key the newest first.
use Rattle.std.specs.Prelude.{ℕ, Bool, false, not, ◌&&◌, ◌==◌, cond, List, [], ◌∷◌, map}
use Rattle.sv_model.specs.declared.writes.Kept.{Kept}
use Rattle.sv_model.specs.Journal.{same_key, is_delete}
use Rattle.sv_merge.specs.declared.placing.Placed.{Placed}

abbrev pub kept_of : Placed → Kept
kept_of p = record { end = p.end; row = p.row.now }

abbrev pub kepts_of : List Placed → List Kept
kepts_of rows = map kept_of rows

-- the rows are of one key, and bear one end
abbrev pub same_place : Kept → Kept → Bool
same_place r s = (r.end == s.end) && same_key r.row.key s.row.key

-- the first of the rows is of the key
abbrev pub is_next : List ℕ → List Kept → Bool
is_next key [] = false
is_next key (r ∷ rows) = same_key r.row.key key

-- where nothing lies below, without each delete that no row of its key follows
abbrev pub thinned : Bool → List Kept → List Kept
thinned last [] = []
thinned last (r ∷ rows) =
    cond (last && is_delete r.row.op && not (is_next r.row.key (thinned last rows))) (thinned last rows) (r ∷ thinned last rows)
