-- What tables are merged, and what comes of it.
use Rattle.std.specs.Prelude.{◌≡◌, ◌≤◌, ℕ, false, ◌==◌, List, [], ◌∷◌, map, reverse}
use Rattle.std.specs.List.{flat_map, dedup, AllByRecursion}
use Rattle.sv_model.specs.declared.writes.Write.{Write}
use Rattle.sv_model.specs.declared.writes.Kept.{Kept}
use Rattle.sv_model.specs.declared.cuts.Bottom.{Bottom}
use Rattle.sv_model.specs.declared.tables.Table.{Table}
use Rattle.sv_model.specs.Lists.{Every}
use Rattle.sv_model.specs.Order.{RisesBy, key_of_kept}
use Rattle.sv_model.specs.Flat.{end_among, of_key, stays, IsFlat, AreCuts, IsClearIn}
use Rattle.sv_model.specs.TableText.{IsWellFormed}

-- The tables' ranges join, oldest first: they begin at `from`, each begins where the one before ends, and the last ends at `to`.
abbrev pub Joined : ℕ → List Table → ℕ → Type 0
Joined from [] to = from ≡ to
Joined from (table ∷ tables) to = (table.from ≡ from) × Joined table.to tables to

-- the cuts are cuts of the joined range
abbrev pub JoinedWith : List ℕ → List Table → Type 0
JoinedWith cuts tables = (from : ℕ) × (to : ℕ) × Joined from tables to × AreCuts from to cuts

-- below each of the tables something may lie
abbrev pub NoneLast : List Table → Type 0
NoneLast tables = AllByRecursion (λ t. t.bottom.last ≡ false) tables

-- each of the cuts that lies inside a table's range is one of the table's cuts
abbrev pub EachClear : List ℕ → List Table → Type 0
EachClear cuts tables = AllByRecursion (λ t. Every (IsClearIn t.from t.to t.bottom.cuts) cuts) tables

-- each of the tables is well formed
abbrev pub AreWellFormed : List Table → Type 0
AreWellFormed tables = AllByRecursion (λ t. IsWellFormed t.from t.to t.bottom t.rows) tables

-- the rows of all the tables, those of the newest table first
abbrev pub newest_rows : List Table → List Kept
newest_rows tables = flat_map (λ t. t.rows) (reverse tables)

-- the row under the end of an interval between these cuts
abbrev pub moved : List ℕ → ℕ → Kept → Kept
moved cuts to r = record { end = end_among cuts to r.end; row = r.row }

-- Keys ascend. Of each key stays, of the rows of all the tables, those of the newest table first, each under its new
-- end, the first of each end; where nothing lies below, without the deletes under which no put stays.
pub record IsMergeOf (tables : List Table) (to : ℕ) (bottom : Bottom) (rows : List Kept) : Type 0 where
  pub rises : RisesBy key_of_kept rows
  pub newest : (key : List ℕ) → of_key key rows ≡ stays bottom.last (dedup (λ r s. r.end == s.end) (of_key key (map (moved bottom.cuts to) (newest_rows tables))))

-- Each table is the flat of its range of a family's writes.
pub record IsFlatTable (journal : List Write) (family : ℕ) (t : Table) : Type 0 where
  pub range : t.from ≤ t.to
  pub cuts : AreCuts t.from t.to t.bottom.cuts
  pub flat : IsFlat journal family t.from t.to t.bottom t.rows

abbrev pub AreFlats : List Write → ℕ → List Table → Type 0
AreFlats journal family tables = AllByRecursion (IsFlatTable journal family) tables

-- The rows in order by key; those of one key keep their order.
pub record InOrder (old new : List Kept) : Type 0 where
  pub rises : RisesBy key_of_kept new
  pub kept : (key : List ℕ) → of_key key new ≡ of_key key old
