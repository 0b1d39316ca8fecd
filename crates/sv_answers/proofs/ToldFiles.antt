-- A directory that tells its files goes on telling them, and one that tells none tells none.
use Rattle.std.proofs.Common.{◌≡◌, ⊎_elim, ℕ, List, Option, Some, None, is_some, refl, ap}
use Rattle.sv_model.specs.declared.records.FileMeta.{FileMeta}
use Rattle.sv_model.specs.declared.refusals.Refusal.{Refusal}
use Rattle.sv_model.specs.declared.refusals.Refusal.TheVariants as refusal
use Rattle.sv_model.specs.Books.{Books, FileRegister}
use Rattle.sv_model.specs.Files.{Files}
use Rattle.sv_dir.specs.Files.{Leaves}
use Rattle.sv_outputs.specs.Putting.{OutputRefused}
use Rattle.sv_store.specs.Compacting.{CompactRefused, Compacts, PutsMerge}
use Rattle.sv_store.specs.Flushing.{FlushRefused, Flushes, StopsFlush}
use Rattle.sv_store.specs.Purging.{PurgeStops, Purges}
use Rattle.sv_store.specs.Removals.{DirSeen, FilesGoIfTold}
use Rattle.sv_store.specs.Scanning.{ScanStops, Scans}
use Rattle.sv_store.specs.Seen.{StoreSeen}

-- the directory tells its files as before
abbrev pub AsTold : Option Files → Option Files → Type 0
AsTold before after = is_some after ≡ is_some before

same-told : (before after : Option Files) → after ≡ before → AsTold before after
same-told before after e = ap is_some e

leaves-told : (n : ℕ) (content : Option (List ℕ)) (before after : Option Files) → Leaves n content before after → AsTold before after
leaves-told n content None after h = ap is_some h
leaves-told n content (Some files) after h = ap is_some h

gone-told : (gone left : List ℕ) (before after : Option Files) → FilesGoIfTold gone left before after → AsTold before after
gone-told gone left None None h = refl
gone-told gone left (Some a) (Some b) h = refl
gone-told gone left None (Some b) h = absurd h
gone-told gone left (Some a) None h = absurd h

refused-told : (number : ℕ) (before after : Option Files) (e : Refusal) → OutputRefused number before after e → AsTold before after
refused-told number before after (refusal.DirFault n) h = leaves-told number h.1.0 before after h.1.1
refused-told number before after refusal.OutOfMemory h = same-told before after h
refused-told number before after e h = absurd h

-- ---- outputs

module _ (before after : Option Files) where
  pub flush-told : (a b : Books) (name : List ℕ) (file : FileMeta) → Flushes a b before after name file → AsTold before after
  flush-told a b name file h = let p = h.flushed.flushes.puts in leaves-told file.number (Some p.bytes) before after p.put

  stop-told : (a b : Books) (family : ℕ) (e : Refusal) → StopsFlush a b before after family e → AsTold before after
  stop-told a b family e = ⊎_elim
      (λ h. same-told before after h.files)
      (λ h. ⊎_elim
      (λ w. refused-told h.file.number before after e w)
      (λ w. leaves-told h.file.number (Some w.0.bytes) before after w.0.put)
      h.why)

  pub flush-stop-told : (a b : StoreSeen) (name : List ℕ) (e : Refusal) → FlushRefused a b before after name e → AsTold before after
  flush-stop-told a b name e = ⊎_elim (λ h. same-told before after h.files) (λ h. stop-told h.stops.ready b.books h.meant.family e h.stops.stops)

  merge-told : (b : Books) (family : ℕ) (files : List FileMeta) (file : FileMeta) → PutsMerge b family files file before after → AsTold before after
  merge-told b family files file h = leaves-told file.number (Some h.merged.0) before after h.merged.2

  pub compact-told : (a b : Books) (name : List ℕ) (file : FileMeta) → Compacts a b before after name file → AsTold before after
  compact-told a b name file h = merge-told a h.meant.family h.merges.planned.version.files file h.merges.puts

  pub compact-stop-told : (a b : StoreSeen) (name : List ℕ) (e : Refusal) → CompactRefused a b before after name e → AsTold before after
  compact-stop-told a b name e = ⊎_elim
      (λ h. same-told before after h.files)
      (λ h. ⊎_elim
      (λ w. ⊎_elim (λ r. same-told before after r.1) (λ r. refused-told h.stops.file.number before after e r.1) w.refused)
      (λ w. merge-told a.books h.meant.family h.stops.planned.version.files h.stops.file w.0)
      h.stops.why)

-- ---- removals

module _ (old new : FileRegister) (d : DirSeen) where
  pub purge-told : (numbers : List ℕ) → Purges old new d numbers → AsTold d.files d.later
  purge-told numbers h = gone-told _ _ d.files d.later h.removes.files

  pub purge-stop-told : (e : Refusal) → PurgeStops old new d e → AsTold d.files d.later
  purge-stop-told (refusal.Disabled count) h = same-told d.files d.later h.1.untouched.files
  purge-stop-told (refusal.DirFault number) h = gone-told _ _ d.files d.later h.removes.removes.files
  purge-stop-told refusal.OutOfMemory h = ⊎_elim (λ i. same-told d.files d.later i.untouched.files) (λ s. gone-told _ _ d.files d.later s.removes.removes.files) h
  purge-stop-told e h = absurd h

  pub scan-told : (numbers : List ℕ) → Scans old new d numbers → AsTold d.files d.later
  scan-told numbers h = gone-told _ _ d.files d.later h.removes.files

  pub scan-stop-told : (e : Refusal) → ScanStops old new d e → AsTold d.files d.later
  scan-stop-told (refusal.Disabled count) h = same-told d.files d.later h.1.untouched.files
  scan-stop-told (refusal.DirFault number) h = ⊎_elim (λ f. same-told d.files d.later f.none.files) (λ s. gone-told _ _ d.files d.later s.removes.removes.files) h
  scan-stop-told refusal.OutOfMemory h = ⊎_elim (λ n. same-told d.files d.later n.files) (λ s. gone-told _ _ d.files d.later s.removes.removes.files) h
  scan-stop-told e h = absurd h
