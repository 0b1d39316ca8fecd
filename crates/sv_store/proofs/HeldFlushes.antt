-- A flush leaves each Live number with the file that was written, its own among them.
use Rattle.std.proofs.Common.{◌≡◌, ◌⊎◌, inl, inr, ⊎_elim, ℕ, List, Option, Some, Result, Ok, Err, sym, subst}
use Rattle.std.specs.Prelude.{IfErr, IfOk}
use Rattle.sv_model.specs.declared.records.FileMeta.{FileMeta}
use Rattle.sv_model.specs.declared.refusals.Refusal.{Refusal}
use Rattle.sv_model.specs.declared.refusals.Refusal.TheVariants as refusal
use Rattle.sv_model.specs.declared.records.FileStatus.TheVariants.{Live}
use Rattle.sv_model.specs.Books.{Books}
use Rattle.sv_model.specs.Cells.{Cell}
use Rattle.sv_model.specs.Files.{Files}
use Rattle.sv_model.specs.Steady.{Sound}
use Rattle.sv_model.proofs.AfterLaws.{after-through}
use Rattle.sv_laws.specs.Changes.{cleaned, flush_begun, flushed, given_up}
use Rattle.sv_laws.proofs.Apart.{live_obsolete}
use Rattle.sv_laws.proofs.Kept.{sound-kept}
use Rattle.sv_dir.specs.Files.{LeavesAny}
use Rattle.sv_outputs.specs.Putting.{OutputRefused}
use Rattle.sv_state.specs.Seen.{StateSeen}
use Rattle.sv_store.specs.Emptying.{Empties}
use Rattle.sv_store.specs.Flushing.{FlushesFamily, FlushesList, GivesUpFlush, StopsAfter, StopsBefore, StopsFlush}
use Rattle.sv_store.specs.HeldFiles.{IsHeld, KeepsHeld}
use Rattle.sv_store.proofs.EmptiedFamilies.{emptied-follows, none-emptied}
use Rattle.sv_store.proofs.HeldLaws.{held-given, held-installed, keeps-held, none-cleaned}

-- ---- the switch

emptied-held : (a b : Books) (f : ℕ) → Sound a → Empties a b f → KeepsHeld a b
emptied-held a b f sound e =
    let next = emptied-follows a b f sound e in
    keeps-held a b sound.lawful next.sound.lawful next.after (none-emptied Live (λ q. live_obsolete q) a b f e)

-- ---- the list is written

pub refused-any : (number : ℕ) (told now : Option Files) (e : Refusal) → OutputRefused number told now e → LeavesAny number told now ⊎ (now ≡ told)
refused-any number told now (refusal.DirFault n) h = inl h.1
refused-any number told now refusal.OutOfMemory h = inr h
refused-any number told now e h = absurd h

module _ (a b : Books) (sound : Sound a) (told now : Option Files) (f : ℕ) where
  list-held : (file : FileMeta) → FlushesList a b told now f file → IsHeld a told → IsHeld b now
  list-held file h =
      let w = h.renews in
      let begun = sound-kept a h.mid sound (flush_begun f file h.begins.begun) in
      let put = sound-kept h.mid w.mid begun.0 (flushed f file w.is) in
      let last = sound-kept w.mid b put.0 (cleaned w.goes.s w.goes.x w.goes.cleaned) in
      let later = after-through h.mid w.mid b put.1 last.1 in
      held-installed a h.mid f file h.begins.begun.captured w.mid b sound.lawful last.0.lawful (after-through a h.mid b begun.1 later) later
      w.is.settled (none-cleaned Live (λ q. live_obsolete q) w.mid b w.goes.s w.goes.x w.goes.cleaned) told now h.puts

  given-held : (e : Refusal) → GivesUpFlush a b told now f e → IsHeld a told → IsHeld b now
  given-held e h =
      let begun = sound-kept a h.mid sound (flush_begun f h.file h.begins.begun) in
      let last = sound-kept h.mid b begun.0 (given_up f h.file.number h.given_up) in
      held-given a h.mid f h.file h.begins.begun.captured b sound.lawful last.0.lawful (after-through a h.mid b begun.1 last.1)
      h.given_up.settled told now
      (⊎_elim (refused-any h.file.number told now e) (λ z. inl (Some z.0.bytes, z.0.put)) h.why)

  stopped-held : (e : Refusal) → StopsFlush a b told now f e → IsHeld a told → IsHeld b now
  stopped-held e h = ⊎_elim
      (λ z k. subst (λ (y : Books × Option Files). IsHeld y.0 y.1) (λ i. (sym z.books i, sym z.files i)) k)
      (λ z. given-held e z)
      h

-- ---- the whole

module _ (s t : StateSeen) (C D : List (Option Cell)) (sound : Sound s.books) (told now : Option Files) (f : ℕ) where
  pub flush-held : (r : Result FileMeta Refusal) → IfOk r (FlushesFamily s.books t.books told now f)
      → IfErr r (λ e. StopsBefore s t C D told now e ⊎ StopsAfter s.books t.books told now f e) → IsHeld s.books told → IsHeld t.books now
  flush-held (Ok file) h stops k =
      let next = emptied-follows s.books h.ready f sound h.empties in
      list-held h.ready t.books next.sound told now f file h.flushes (emptied-held s.books h.ready f sound h.empties told k)
  flush-held (Err e) h stops k = ⊎_elim
      (λ w. subst (λ (y : StateSeen × Option Files). IsHeld y.0.books y.1) (λ i. (sym w.state i, sym w.files i)) k)
      (λ w.
      let next = emptied-follows s.books w.ready f sound w.empties in
      stopped-held w.ready t.books next.sound told now f e w.stops (emptied-held s.books w.ready f sound w.empties told k))
      stops
