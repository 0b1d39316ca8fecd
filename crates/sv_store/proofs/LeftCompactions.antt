-- A compaction leaves no Gone number a file, and changes no file but that of its number.
use Rattle.std.proofs.Common.{inl, ⊎_elim, ℕ, Option, Some, Result, Ok, Err, sym}
use Rattle.std.specs.Prelude.{IfErr, IfOk}
use Rattle.sv_model.specs.declared.records.FileMeta.{FileMeta}
use Rattle.sv_model.specs.declared.records.FileStatus.TheVariants.{Gone, Live, Obsolete}
use Rattle.sv_model.specs.declared.refusals.Refusal.{Refusal}
use Rattle.sv_model.specs.Books.{Books}
use Rattle.sv_model.specs.Files.{Files}
use Rattle.sv_model.specs.Steady.{Sound}
use Rattle.sv_model.proofs.AfterLaws.{after-through}
use Rattle.sv_laws.specs.Changes.{cleaned, compacted, given_up, merge_planned}
use Rattle.sv_laws.proofs.Apart.{live_gone, obsolete_gone, pending_gone}
use Rattle.sv_laws.proofs.Kept.{sound-kept}
use Rattle.sv_store.specs.Compacting.{GivesUpMerge, MergesFamily}
use Rattle.sv_store.specs.HeldFiles.{LeavesOthers}
use Rattle.sv_store.proofs.AbsentFiles.{none-settled, output-leaves}
use Rattle.sv_store.proofs.HeldCompactions.{given-changed}
use Rattle.sv_store.proofs.HeldLaws.{NoneBecome, none-captured, none-cleaned, none-through, still-captured}

module _ (a b : Books) (sound : Sound a) (told now : Option Files) (f : ℕ) where
  merged-leaves : (file : FileMeta) → MergesFamily a b told now f file → LeavesOthers a b told now
  merged-leaves file h =
      let w = h.renews in
      let c = h.planned.captured in
      let begun = sound-kept a h.mid sound (merge_planned f file h.planned) in
      let put = sound-kept h.mid w.mid begun.0 (compacted f file w.is) in
      let last = sound-kept w.mid b put.0 (cleaned w.goes.s w.goes.x w.goes.cleaned) in
      let at = still-captured a h.mid f file c b (after-through h.mid w.mid b put.1 last.1) in
      let none : NoneBecome Gone h.mid b = none-through Gone h.mid w.mid b (none-settled Gone Live (λ q. live_gone (sym q)) f file.number h.mid w.mid w.is.settled)
      (none-cleaned Gone (λ q. obsolete_gone (sym q)) w.mid b w.goes.s w.goes.x w.goes.cleaned) in
      output-leaves a h.mid b f file c begun.0.lawful last.0.lawful none (at.0, at.1, at.2, at.3.number_is)
      (none-through Gone a h.mid b (none-captured a h.mid f file c Gone (λ q. pending_gone (sym q))) none) told now (inl (Some h.puts.merged.0, h.puts.merged.2))

  stopped-leaves : (e : Refusal) → GivesUpMerge a b told now f e → LeavesOthers a b told now
  stopped-leaves e h =
      let c = h.planned.captured in
      let begun = sound-kept a h.mid sound (merge_planned f h.file h.planned) in
      let last = sound-kept h.mid b begun.0 (given_up f h.file.number h.given_up) in
      let at = still-captured a h.mid f h.file c b last.1 in
      let none : NoneBecome Gone h.mid b = none-settled Gone Obsolete (λ q. obsolete_gone (sym q)) f h.file.number h.mid b h.given_up.settled in
      output-leaves a h.mid b f h.file c begun.0.lawful last.0.lawful none (at.0, at.1, at.2, at.3.number_is)
      (none-through Gone a h.mid b (none-captured a h.mid f h.file c Gone (λ q. pending_gone (sym q))) none) told now
      (⊎_elim (λ z. given-changed told now h.planned.version.files h.file e z.refused) (λ z. inl (Some z.0.merged.0, z.0.merged.2)) h.why)

  pub compaction-leaves : (r : Result FileMeta Refusal) → IfOk r (MergesFamily a b told now f) → IfErr r (GivesUpMerge a b told now f) → LeavesOthers a b told now
  compaction-leaves (Ok file) h stops = merged-leaves file h
  compaction-leaves (Err e) h stops = stopped-leaves e stops
