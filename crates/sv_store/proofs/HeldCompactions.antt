-- A compaction leaves each Live number with the file that was written, its own among them.
use Rattle.std.proofs.Common.{◌≡◌, ◌⊎◌, inl, inr, ⊎_elim, ℕ, List, Option, Some, None, Result, Ok, Err, refl, sym, ◌∙◌}
use Rattle.std.specs.Prelude.{IfErr, IfOk}
use Rattle.sv_model.specs.declared.records.FileMeta.{FileMeta}
use Rattle.sv_model.specs.declared.records.FileStatus.TheVariants.{Live}
use Rattle.sv_model.specs.declared.refusals.Refusal.{Refusal}
use Rattle.sv_model.specs.Books.{Books}
use Rattle.sv_model.specs.Files.{Files}
use Rattle.sv_model.specs.Steady.{Sound}
use Rattle.sv_model.proofs.AfterLaws.{after-through}
use Rattle.sv_model.proofs.Basics.{none_some}
use Rattle.sv_laws.specs.Changes.{cleaned, compacted, given_up, merge_planned}
use Rattle.sv_laws.proofs.Apart.{live_obsolete}
use Rattle.sv_laws.proofs.Kept.{sound-kept}
use Rattle.sv_dir.specs.Files.{LeavesAny, PutsFile}
use Rattle.sv_outputs.specs.Compacting.{MergeRefused}
use Rattle.sv_store.specs.Compacting.{GivesUpMerge, MergesFamily, PutsMerge}
use Rattle.sv_store.specs.HeldFiles.{IsHeld}
use Rattle.sv_store.specs.Outputs.{PutsText}
use Rattle.sv_store.proofs.HeldFlushes.{refused-any}
use Rattle.sv_store.proofs.HeldLaws.{held-given, held-installed, none-cleaned}

-- a merge that was refused changed no file but that of its number
pub given-changed : (told now : Option Files) (files : List FileMeta) (file : FileMeta) (e : Refusal) → MergeRefused files file told now e
    → LeavesAny file.number told now ⊎ (now ≡ told)
given-changed told now files file e h = ⊎_elim (λ z. inr z.1) (λ z. refused-any file.number told now e z.1) h

module _ (a b : Books) (sound : Sound a) (told now : Option Files) (f : ℕ) where
  -- what is put is the text, or nothing is told
  put-text : (files : List FileMeta) (file : FileMeta) → PutsMerge a f files file told now → IsHeld a told → PutsText a.journal f file told now ⊎ (now ≡ None)
  put-text files file puts k = by told refl puts.merged.2
    where
      by : (o : Option Files) → told ≡ o → PutsFile file.number puts.merged.0 o now → PutsText a.journal f file told now ⊎ (now ≡ None)
      by None is put = inr put
      by (Some all) is put = inl (puts.held all is (k all is))

  merged-held : (file : FileMeta) → MergesFamily a b told now f file → IsHeld a told → IsHeld b now
  merged-held file h k =
      let w = h.renews in
      let begun = sound-kept a h.mid sound (merge_planned f file h.planned) in
      let put = sound-kept h.mid w.mid begun.0 (compacted f file w.is) in
      let last = sound-kept w.mid b put.0 (cleaned w.goes.s w.goes.x w.goes.cleaned) in
      let later = after-through h.mid w.mid b put.1 last.1 in
      ⊎_elim
      (λ text. held-installed a h.mid f file h.planned.captured w.mid b sound.lawful last.0.lawful (after-through a h.mid b begun.1 later) later
      w.is.settled (none-cleaned Live (λ q. live_obsolete q) w.mid b w.goes.s w.goes.x w.goes.cleaned) told now text k)
      (λ none all q. absurd (none_some all (sym none ∙ q)))
      (put-text h.planned.version.files file h.puts k)

  stopped-held : (e : Refusal) → GivesUpMerge a b told now f e → IsHeld a told → IsHeld b now
  stopped-held e h =
      let begun = sound-kept a h.mid sound (merge_planned f h.file h.planned) in
      let last = sound-kept h.mid b begun.0 (given_up f h.file.number h.given_up) in
      held-given a h.mid f h.file h.planned.captured b sound.lawful last.0.lawful (after-through a h.mid b begun.1 last.1)
      h.given_up.settled told now
      (⊎_elim (λ z. given-changed told now h.planned.version.files h.file e z.refused) (λ z. inl (Some z.0.merged.0, z.0.merged.2)) h.why)

  pub compaction-held : (r : Result FileMeta Refusal) → IfOk r (MergesFamily a b told now f) → IfErr r (GivesUpMerge a b told now f) → IsHeld a told → IsHeld b now
  compaction-held (Ok file) h stops = merged-held file h
  compaction-held (Err e) h stops = stopped-held e stops
