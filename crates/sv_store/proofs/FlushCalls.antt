-- The whole of a flush, from its plan and what came after it.
use Rattle.std.proofs.Common.{◌≡◌, ◌⊎◌, inl, inr, ⊎_elim, ℕ, List, Option, None, Result, Ok, Err}
use Rattle.std.specs.Prelude.{IfErr, IfOk}
use Rattle.sv_model.specs.declared.records.FileMeta.{FileMeta}
use Rattle.sv_model.specs.declared.refusals.Refusal.{Refusal}
use Rattle.sv_model.specs.Cells.{Cell}
use Rattle.sv_model.specs.Files.{Files}
use Rattle.sv_state.specs.Planning.{MeantAt, flush_refusal}
use Rattle.sv_state.specs.Seen.{StateSeen}
use Rattle.sv_store.specs.Flushing.{FlushRefused, Flushes, FlushesFamily, StopsAfter, StopsBefore}
use Rattle.sv_store.proofs.PlanLaws.{memory-due}
use Rattle.sv_store.proofs.WriteLaws.{seen_as}

module _ (s t : StateSeen) (C D : List (Option Cell)) (F G : Option Files) (name : List ℕ) (m : MeantAt s.books 0 name) (none : flush_refusal s.books m ≡ None) where
  pub flushed-as : (r : Result FileMeta Refusal) → IfOk r (FlushesFamily s.books t.books F G m.family) → IfOk r (Flushes s.books t.books F G name)
  flushed-as (Ok file) h = record { meant = m; none_due = none; flushed = h }
  flushed-as (Err e) h = tt

  pub stopped-as : (r : Result FileMeta Refusal) → IfErr r (λ e. StopsBefore s t C D F G e ⊎ StopsAfter s.books t.books F G m.family e)
      → IfErr r (FlushRefused (seen_as s.books C) (seen_as t.books D) F G name)
  stopped-as (Ok file) h = tt
  stopped-as (Err e) h = ⊎_elim
      (λ w. inl (record {
        due = inr (m, memory-due (flush_refusal s.books m) e w.memory);
        same = λ i. record { books = (w.state i).books; cells = w.cells_same i };
        files = w.files;
      }))
      (λ w. inr (record { meant = m; none_due = none; stops = w }))
      h
