-- A flush leaves no Gone number a file, and changes no file but that of its number.
use Rattle.std.proofs.Common.{◌⊎◌, inl, ⊎_elim, ℕ, List, Option, Some, Result, Ok, Err, sym, subst}
use Rattle.std.specs.Prelude.{IfErr, IfOk}
use Rattle.sv_model.specs.declared.records.FileMeta.{FileMeta}
use Rattle.sv_model.specs.declared.records.FileStatus.TheVariants.{Gone, Live, Obsolete}
use Rattle.sv_model.specs.declared.refusals.Refusal.{Refusal}
use Rattle.sv_model.specs.Books.{Books}
use Rattle.sv_model.specs.Cells.{Cell}
use Rattle.sv_model.specs.Files.{Files}
use Rattle.sv_model.specs.Steady.{Sound}
use Rattle.sv_model.proofs.AfterLaws.{after-through}
use Rattle.sv_laws.specs.Changes.{cleaned, flush_begun, flushed, given_up}
use Rattle.sv_laws.proofs.Apart.{live_gone, obsolete_gone, pending_gone}
use Rattle.sv_laws.proofs.Kept.{sound-kept}
use Rattle.sv_state.specs.Seen.{StateSeen}
use Rattle.sv_store.specs.Flushing.{FlushesFamily, FlushesList, GivesUpFlush, StopsAfter, StopsBefore, StopsFlush}
use Rattle.sv_store.specs.HeldFiles.{LeavesOthers}
use Rattle.sv_store.proofs.AbsentFiles.{leaves-after, none-settled, output-leaves, same-leaves}
use Rattle.sv_store.proofs.EmptiedFamilies.{emptied-follows, none-emptied}
use Rattle.sv_store.proofs.HeldFlushes.{refused-any}
use Rattle.sv_store.proofs.HeldLaws.{NoneBecome, none-captured, none-cleaned, none-through, still-captured}

module _ (a b : Books) (sound : Sound a) (told now : Option Files) (f : ℕ) where
  list-leaves : (file : FileMeta) → FlushesList a b told now f file → LeavesOthers a b told now
  list-leaves file h =
      let w = h.renews in
      let c = h.begins.begun.captured in
      let begun = sound-kept a h.mid sound (flush_begun f file h.begins.begun) in
      let put = sound-kept h.mid w.mid begun.0 (flushed f file w.is) in
      let last = sound-kept w.mid b put.0 (cleaned w.goes.s w.goes.x w.goes.cleaned) in
      let at = still-captured a h.mid f file c b (after-through h.mid w.mid b put.1 last.1) in
      let none : NoneBecome Gone h.mid b = none-through Gone h.mid w.mid b (none-settled Gone Live (λ q. live_gone (sym q)) f file.number h.mid w.mid w.is.settled)
      (none-cleaned Gone (λ q. obsolete_gone (sym q)) w.mid b w.goes.s w.goes.x w.goes.cleaned) in
      output-leaves a h.mid b f file c begun.0.lawful last.0.lawful none (at.0, at.1, at.2, at.3.number_is)
      (none-through Gone a h.mid b (none-captured a h.mid f file c Gone (λ q. pending_gone (sym q))) none) told now (inl (Some h.puts.bytes, h.puts.put))

  given-leaves : (e : Refusal) → GivesUpFlush a b told now f e → LeavesOthers a b told now
  given-leaves e h =
      let c = h.begins.begun.captured in
      let begun = sound-kept a h.mid sound (flush_begun f h.file h.begins.begun) in
      let last = sound-kept h.mid b begun.0 (given_up f h.file.number h.given_up) in
      let at = still-captured a h.mid f h.file c b last.1 in
      let none : NoneBecome Gone h.mid b = none-settled Gone Obsolete (λ q. obsolete_gone (sym q)) f h.file.number h.mid b h.given_up.settled in
      output-leaves a h.mid b f h.file c begun.0.lawful last.0.lawful none (at.0, at.1, at.2, at.3.number_is)
      (none-through Gone a h.mid b (none-captured a h.mid f h.file c Gone (λ q. pending_gone (sym q))) none) told now
      (⊎_elim (refused-any h.file.number told now e) (λ z. inl (Some z.0.bytes, z.0.put)) h.why)

  stopped-leaves : (e : Refusal) → StopsFlush a b told now f e → LeavesOthers a b told now
  stopped-leaves e h = ⊎_elim
      (λ z. subst (λ (y : Books × Option Files). LeavesOthers a y.0 told y.1) (λ i. (sym z.books i, sym z.files i)) (same-leaves a a (λ n has. has) told))
      (λ z. given-leaves e z)
      h

module _ (s t : StateSeen) (C D : List (Option Cell)) (sound : Sound s.books) (told now : Option Files) (f : ℕ) where
  pub flush-leaves : (r : Result FileMeta Refusal) → IfOk r (FlushesFamily s.books t.books told now f)
      → IfErr r (λ e. StopsBefore s t C D told now e ⊎ StopsAfter s.books t.books told now f e) → LeavesOthers s.books t.books told now
  flush-leaves (Ok file) h stops =
      leaves-after s.books h.ready t.books (none-emptied Gone (λ q. obsolete_gone (sym q)) s.books h.ready f h.empties) told now
      (list-leaves h.ready t.books (emptied-follows s.books h.ready f sound h.empties).sound told now f file h.flushes)
  flush-leaves (Err e) h stops = ⊎_elim
      (λ w. subst (λ (y : StateSeen × Option Files). LeavesOthers s.books y.0.books told y.1) (λ i. (sym w.state i, sym w.files i))
      (same-leaves s.books s.books (λ n has. has) told))
      (λ w. leaves-after s.books w.ready t.books (none-emptied Gone (λ q. obsolete_gone (sym q)) s.books w.ready f w.empties) told now
      (stopped-leaves w.ready t.books (emptied-follows s.books w.ready f sound w.empties).sound told now f e w.stops))
      stops
