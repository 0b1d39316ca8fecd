-- What is found in the bytes of a table can be copied.
use Rattle.std.proofs.Common.{◌≡◌, ℕ, Bool, true, false, cond, List, [], ◌∷◌, find, Option, Some, sym, ap, subst, ◌∙◌}
use Rattle.std.specs.Prelude.{Err, option_map}
use Rattle.std.specs.List.{AllByRecursion}
use Rattle.sv_model.specs.declared.records.FileMeta.{FileMeta}
use Rattle.sv_model.specs.declared.refusals.Refusal.{Refusal}
use Rattle.sv_model.specs.declared.refusals.Refusal.TheVariants as refusal
use Rattle.sv_model.specs.declared.writes.Kept.{Kept}
use Rattle.sv_model.specs.declared.writes.Op.{Op}
use Rattle.sv_model.specs.Files.{Files}
use Rattle.sv_model.specs.TableText.{IsStored, IsStoredOp, IsTableFile}
use Rattle.sv_table.specs.declared.hits.Hit.{Hit}
use Rattle.sv_table.specs.Lookups.{IsFoundIn, hit_op}
use Rattle.sv_table.specs.Views.{op_is}
use Rattle.sv_file_checks.specs.Checks.{BytesRefusal, Holds, IsTextFor, ReadRefusal}
use Rattle.sv_file_checks.proofs.CheckLaws.{bytes_refused}
use Rattle.sv_reads.specs.OneFile.{BytesAnswer, BytesTell, FileTells}

found_stored : (test : Kept → Bool) (rows : List Kept) → AllByRecursion (λ (r : Kept). IsStored r.row) rows
    → (op : Op) → Some op ≡ option_map (λ (r : Kept). r.row.op) (find test rows) → IsStoredOp op
found_stored test [] all op e = absurd (cc)
found_stored test (r ∷ rows) all op e = by_case (test r) e (found_stored test rows all.1 op)
  where
    by_case : (b : Bool) → Some op ≡ option_map (λ (x : Kept). x.row.op) (cond b (Some r) (find test rows))
        → (Some op ≡ option_map (λ (x : Kept). x.row.op) (find test rows) → IsStoredOp op) → IsStoredOp op
    by_case true h later = let q : op ≡ r.row.op = cc in subst IsStoredOp (sym q) all.0.op
    by_case false h later = later h

pub hit_stored : (bytes key : List ℕ) (cut : ℕ) (found : Option Hit) (hit : Hit) → IsTableFile bytes
    → found ≡ Some hit → IsFoundIn bytes key cut (hit_op found) → IsStoredOp (op_is hit)
hit_stored bytes key cut found hit f is h =
    found_stored _ f.rows f.text.has.stored (op_is hit) (sym (ap hit_op is) ∙ h.of f.from f.to f.bottom f.rows f.text)

-- ---- what bytes of a file tell

pub is_table : (file : FileMeta) (bytes : List ℕ) → IsTextFor file bytes → IsTableFile bytes
is_table file bytes good = record { from = file.from; to = file.to; bottom = file.bottom; rows = good.rows; text = good.text }

-- ---- what the file tells

pub file_tells : (told : Option Files) (file : FileMeta) (bytes key : List ℕ) (cut : ℕ) (found : Option Op)
    → Holds told file (Some bytes) → BytesTell file key cut found bytes → FileTells told key cut found file
file_tells told file bytes key cut found holds tells = record { content = Some bytes; holds = holds; tells = tells }

pub read_refused : (told : Option Files) (file : FileMeta) (bytes key : List ℕ) (cut : ℕ) (e : Refusal)
    → Holds told file (Some bytes) → BytesAnswer file bytes key cut (Err e) → ReadRefusal told file e
read_refused told file bytes key cut refusal.OutOfMemory holds h = tt
read_refused told file bytes key cut e holds h = bytes_refused told file bytes e holds h
