-- The whole of a compaction, from its plan and what came after it.
use Rattle.std.proofs.Common.{◌≡◌, inr, ℕ, List, Option, None, Result, Ok, Err}
use Rattle.std.specs.Prelude.{IfErr, IfOk}
use Rattle.sv_model.specs.declared.records.FileMeta.{FileMeta}
use Rattle.sv_model.specs.declared.refusals.Refusal.{Refusal}
use Rattle.sv_model.specs.Files.{Files}
use Rattle.sv_state.specs.Planning.{MeantAt, compact_refusal}
use Rattle.sv_store.specs.Compacting.{CompactRefused, Compacts, GivesUpMerge, MergesFamily}
use Rattle.sv_store.specs.Seen.{StoreSeen}

module _ (a b : StoreSeen) (F G : Option Files) (name : List ℕ) (m : MeantAt a.books 0 name) (none : compact_refusal a.books m ≡ None) where
  pub compacted-as : (r : Result FileMeta Refusal) → IfOk r (MergesFamily a.books b.books F G m.family) → IfOk r (Compacts a.books b.books F G name)
  compacted-as (Ok file) h = record { meant = m; none_due = none; merges = h }
  compacted-as (Err e) h = tt

  pub stopped-as : (r : Result FileMeta Refusal) → IfErr r (GivesUpMerge a.books b.books F G m.family) → IfErr r (CompactRefused a b F G name)
  stopped-as (Ok file) h = tt
  stopped-as (Err e) h = inr (record { meant = m; none_due = none; stops = h })
