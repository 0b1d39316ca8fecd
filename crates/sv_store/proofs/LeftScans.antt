-- A scan leaves no Gone number a file, and changes only files of registered numbers.
use Rattle.std.proofs.Common.{◌≡◌, ◌⊎◌, inl, inr, ⊎_elim, ℕ, List, [], map, Option, Result, Ok, Err, sym, ap, ◌∙◌, subst}
use Rattle.std.specs.Prelude.{IfErr, IfOk}
use Rattle.sv_model.specs.declared.records.FileStatus.TheVariants.{Gone}
use Rattle.sv_model.specs.declared.records.RegisteredFile.{RegisteredFile}
use Rattle.sv_model.specs.declared.refusals.Refusal.{Refusal}
use Rattle.sv_model.specs.declared.refusals.Refusal.TheVariants as refusal
use Rattle.sv_model.specs.Books.{Books, FileRegister}
use Rattle.sv_model.specs.Files.{Files}
use Rattle.sv_model.specs.Lists.{In}
use Rattle.sv_model.specs.Numbers.{HasStatus, IsRegistered}
use Rattle.sv_model.specs.Registers.{Has, entry}
use Rattle.sv_files.specs.Kept.{obsolete_stray}
use Rattle.sv_laws.proofs.Apart.{obsolete_gone}
use Rattle.sv_store.specs.HeldFiles.{LeavesOthers}
use Rattle.sv_store.specs.Removals.{Removes, ended, with_gone}
use Rattle.sv_store.specs.Scanning.{HandsOut, ScanStops, Scans, ScansSome, with_strays}
use Rattle.sv_store.proofs.AbsentFiles.{absent-removed, removed-stay, same-leaves}
use Rattle.sv_store.proofs.EndedNumbers.{entry-mapped}
use Rattle.sv_store.proofs.HandedNumbers.{in-strays, stray-or}
use Rattle.sv_store.proofs.HeldLaws.{none-same}
use Rattle.sv_store.proofs.HeldPurges.{gone-or}
use Rattle.sv_store.proofs.RemovalSteps.{dir_seen}
use Rattle.sv_store.proofs.ScanSteps.{handed-obsolete}
use Rattle.sv_store.proofs.TriedNumbers.{part-in}

-- strays are registered as Obsolete: what is Gone was so, or became so
was-gone : (old new : FileRegister) (strays gone : List ℕ) → new ≡ with_gone (with_strays old strays) gone → (n : ℕ) → IsRegistered new.numbers n Gone
    → IsRegistered old.numbers n Gone ⊎ In n gone
was-gone old new strays gone is n h = ⊎_elim
    (λ was. ⊎_elim
    (λ here. inl here)
    (λ stray. obsolete_gone (ap (λ (z : RegisteredFile). z.status) (sym (in-strays strays stray.0 stray.1).2) ∙ stray.2.status_is))
    (stray-or (HasStatus n Gone) old.numbers (map obsolete_stray strays) was))
    (λ there. inr there)
    (gone-or (with_strays old strays) new gone is n h)

module _ (a b : Books) (told now : Option Files) (faults count : ℕ) where
  tried-leaves : (listed strays numbers gone left : List ℕ) → HandsOut a.files listed strays numbers
      → Removes (with_strays a.files strays) b.files (dir_seen told now faults count) numbers gone left → LeavesOthers a b told now
  tried-leaves listed strays numbers gone left hands h = record {
    absent = absent-removed a b gone left (was-gone a.files b.files strays gone h.is) told now h.files;
    stay = removed-stay b gone left known told now h.files;
  }
    where
      known : (n : ℕ) → In n gone ⊎ In n left → Has (λ x. x.number ≡ n) b.files.numbers
      known n there =
          let o = handed-obsolete a.files listed strays numbers hands n
          (⊎_elim (λ g. part-in gone numbers n h.tried.gone_are g) (λ l. ((h.tried.left_are.exact n).0 l).0) there) in (
            o.0,
            ended gone o.1,
            ap (λ (z : FileRegister). entry z.numbers o.0) h.is ∙ entry-mapped (ended gone) (with_strays a.files strays).numbers o.0 o.1 o.2,
            o.3.number_is,
          )

  some-leaves : (e : Refusal) → ScansSome a.files b.files (dir_seen told now faults count) e → LeavesOthers a b told now
  some-leaves e s = tried-leaves s.begun.listed s.strays s.numbers s.removes.gone s.removes.left s.begun.hands s.removes.removes

  none-leaves : b.files ≡ a.files → now ≡ told → LeavesOthers a b told now
  none-leaves same files =
      subst (LeavesOthers a b told) (sym files) (same-leaves a b (none-same Gone a b (ap (λ (r : FileRegister). r.numbers) same)) told)

  stopped-leaves : (e : Refusal) → ScanStops a.files b.files (dir_seen told now faults count) e → LeavesOthers a b told now
  stopped-leaves (refusal.Disabled n) h = none-leaves h.1.same h.1.untouched.files
  stopped-leaves (refusal.DirFault n) h = ⊎_elim (λ f. none-leaves f.none.same f.none.files) (some-leaves (refusal.DirFault n)) h
  stopped-leaves refusal.OutOfMemory h = ⊎_elim (λ f. none-leaves f.same f.files) (some-leaves refusal.OutOfMemory) h
  stopped-leaves e h = absurd h

  pub scan-leaves : {T : Type 0} (items : T → List ℕ) (r : Result T Refusal) → IfOk r (λ v. Scans a.files b.files (dir_seen told now faults count) (items v))
      → IfErr r (ScanStops a.files b.files (dir_seen told now faults count)) → LeavesOthers a b told now
  scan-leaves items (Ok v) h g = tried-leaves h.begun.listed h.strays (items v) (items v) [] h.begun.hands h.removes
  scan-leaves items (Err e) h g = stopped-leaves e g
