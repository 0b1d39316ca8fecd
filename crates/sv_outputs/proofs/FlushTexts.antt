-- The table that a flush builds has a text, which is that of its writes' flat.
use Rattle.std.proofs.Common.{◌-◌, ◌≡◌, ◌<◌, ◌^◌, ℕ, List, sym, ap, subst, ◌∙◌, arith}
use Rattle.sv_model.specs.declared.writes.Write.{Write}
use Rattle.sv_model.specs.declared.writes.Row.{Row}
use Rattle.sv_model.specs.declared.records.FileMeta.{FileMeta}
use Rattle.sv_model.specs.declared.tables.Table.{Table}
use Rattle.sv_model.specs.Flat.{IsFlatOf}
use Rattle.sv_model.specs.HeldFiles.{IsFileText}
use Rattle.sv_model.specs.TableText.{HasText, IsWellFormed, table_text}
use Rattle.sv_model.proofs.FlatText.{flat_well_formed}
use Rattle.sv_outputs.specs.Flushing.{AreWritesOf, IsFlushDue, IsFlushText}

-- The table is the flat of the writes, over the file's range.
pub record IsBuilt (writes : List Row) (file : FileMeta) (t : Table) : Type 0 where
  pub due : IsFlushDue writes file
  pub range : (t.from ≡ file.from) × (t.to ≡ file.to) × (t.bottom ≡ file.bottom)
  pub flat : IsFlatOf file.from file.to file.bottom writes t.rows

module _ (writes : List Row) (file : FileMeta) (t : Table) (h : IsBuilt writes file t) where
  abbrev over : Table
  over = record { from = file.from; to = file.to; bottom = file.bottom; rows = t.rows }

  same : over ≡ t
  same = λ i. record { from = (sym h.range.0) i; to = (sym h.range.1) i; bottom = (sym h.range.2) i; rows = t.rows }

  well_over : IsWellFormed file.from file.to file.bottom t.rows
  well_over =
      let few : file.to - file.from < 2 ^ 32 = let k = h.due.few in omega arith in
      flat_well_formed file.from file.to file.bottom writes t.rows h.due.cuts h.due.count h.due.some few h.flat

  pub built_well : IsWellFormed t.from t.to t.bottom t.rows
  built_well = subst (λ (u : Table). IsWellFormed u.from u.to u.bottom u.rows) same well_over

  pub built_text : (bytes : List ℕ) → bytes ≡ table_text t.from t.to t.bottom t.rows → HasText t.from t.to t.bottom t.rows → IsFlushText writes file bytes
  built_text bytes is table = record {
    rows = t.rows;
    flat = h.flat;
    table = subst (λ (u : Table). HasText u.from u.to u.bottom u.rows) (sym same) table;
    is = is ∙ ap (λ (u : Table). table_text u.from u.to u.bottom u.rows) (sym same);
  }

-- Where these are the family's writes, it is the text of the file's range.
pub file_text : (journal : List Write) (family : ℕ) (writes : List Row) (file : FileMeta) (bytes : List ℕ) → AreWritesOf journal family file writes → IsFlushText writes file bytes → IsFileText journal family file bytes
file_text journal family writes file bytes own text = record {
  within = own.within;
  rows = text.rows;
  flat = subst (λ (l : List Row). IsFlatOf file.from file.to file.bottom l text.rows) own.are text.flat;
  table = text.table;
  is = text.is;
}
