-- A scan leaves each Live number with the file that was written.
use Rattle.std.proofs.Common.{◌≡◌, ◌<◌, ◌^◌, ◌⊎◌, ⊎_elim, ℕ, List, [], map, Option, Some, Result, Ok, Err, sym, ap, ◌∙◌, subst}
use Rattle.std.specs.Prelude.{IfErr, IfOk}
use Rattle.sv_model.specs.declared.records.FileStatus.TheVariants.{Live, Obsolete}
use Rattle.sv_model.specs.declared.records.RegisteredFile.{RegisteredFile}
use Rattle.sv_model.specs.declared.refusals.Refusal.{Refusal}
use Rattle.sv_model.specs.declared.refusals.Refusal.TheVariants as refusal
use Rattle.sv_model.specs.Books.{Books, FileRegister}
use Rattle.sv_model.specs.Files.{Files}
use Rattle.sv_model.specs.Lawful.{Lawful}
use Rattle.sv_model.specs.Lists.{In}
use Rattle.sv_model.specs.Numbers.{HasStatus, IsRegistered}
use Rattle.sv_model.specs.Registers.{entry}
use Rattle.sv_model.proofs.Entries.{some}
use Rattle.sv_model.proofs.NumberLaws.{one_entry}
use Rattle.sv_files.specs.Kept.{obsolete_stray}
use Rattle.sv_laws.proofs.Apart.{live_gone, live_obsolete}
use Rattle.sv_state.specs.Follows.{Follows}
use Rattle.sv_store.specs.HeldFiles.{IsHeld}
use Rattle.sv_store.specs.Removals.{Removes, ended, with_gone}
use Rattle.sv_store.specs.Scanning.{HandsOut, ScanStops, Scans, ScansSome, with_strays}
use Rattle.sv_store.proofs.EndedNumbers.{ended-or, entry-mapped}
use Rattle.sv_store.proofs.HandedNumbers.{in-strays, stray-or}
use Rattle.sv_store.proofs.HeldLaws.{fits-in, held-removed, keeps-held, none-same}
use Rattle.sv_store.proofs.HeldPurges.{none-ended}
use Rattle.sv_store.proofs.RemovalSteps.{dir_seen}
use Rattle.sv_store.proofs.ScanSteps.{handed-obsolete}
use Rattle.sv_store.proofs.TriedNumbers.{part-in}

-- no number becomes Live where strays are registered and some numbers become Gone
none-lives : (old new : FileRegister) (strays gone : List ℕ) → new ≡ with_gone (with_strays old strays) gone → (n : ℕ) → IsRegistered new.numbers n Live
    → IsRegistered old.numbers n Live
none-lives old new strays gone is n live = ⊎_elim
    (λ here. here)
    (λ stray. live_obsolete (sym stray.2.status_is ∙ ap (λ (z : RegisteredFile). z.status) (in-strays strays stray.0 stray.1).2))
    (stray-or (HasStatus n Live) old.numbers (map obsolete_stray strays) (none-ended Live (λ q. live_gone q) (with_strays old strays) new gone is n live))

module _ (a b : Books) (before : Lawful a) (next : Follows a b) (told now : Option Files) (faults count : ℕ) where
  -- one that was Obsolete before some became Gone is registered, and is not Live
  dead : (r : FileRegister) (gone : List ℕ) → b.files ≡ with_gone r gone → (n : ℕ) → IsRegistered r.numbers n Obsolete
      → (n < 2 ^ 64) × (IsRegistered b.files.numbers n Live → ⊥)
  dead r gone is n o =
      let x = ended gone o.1 in
      let at : entry b.files.numbers o.0 ≡ Some x = ap (λ (z : FileRegister). entry z.numbers o.0) is ∙ entry-mapped (ended gone) r.numbers o.0 o.1 o.2 in (
        fits-in b next.sound.lawful o.0 n x at o.3.number_is,
        λ live.
            let i = one_entry b.files.numbers n live.0 o.0 live.1 x (next.sound.lawful.numbers.once n) live.2 at live.3.number_is o.3.number_is in
            let status = sym live.3.status_is ∙ ap (λ (z : RegisteredFile). z.status) (some (sym live.2 ∙ ap (entry b.files.numbers) i ∙ at)) in
            ⊎_elim
            (λ e. live_gone (status ∙ e))
            (λ e. live_obsolete (status ∙ ap (λ (z : RegisteredFile). z.status) e ∙ o.3.status_is))
            (ended-or gone o.1),
      )

  tried-held : (listed strays numbers gone left : List ℕ) → HandsOut a.files listed strays numbers
      → Removes (with_strays a.files strays) b.files (dir_seen told now faults count) numbers gone left → IsHeld a told → IsHeld b now
  tried-held listed strays numbers gone left hands h =
      let tried : (n : ℕ) → In n gone ⊎ In n left → In n numbers = λ n there.
      ⊎_elim (λ g. part-in gone numbers n h.tried.gone_are g) (λ l. ((h.tried.left_are.exact n).0 l).0) there in
      held-removed a b before next.sound.lawful next.after gone left
      (λ n there. dead (with_strays a.files strays) gone h.is n (handed-obsolete a.files listed strays numbers hands n (tried n there)))
      (none-lives a.files b.files strays gone h.is) told now h.files

  some-held : (e : Refusal) → ScansSome a.files b.files (dir_seen told now faults count) e → IsHeld a told → IsHeld b now
  some-held e s = tried-held s.begun.listed s.strays s.numbers s.removes.gone s.removes.left s.begun.hands s.removes.removes

  same-held : b.files ≡ a.files → now ≡ told → IsHeld a told → IsHeld b now
  same-held same files held =
      subst (IsHeld b) (sym files)
      (keeps-held a b before next.sound.lawful next.after (none-same Live a b (ap (λ (r : FileRegister). r.numbers) same)) told held)

  stopped-held : (e : Refusal) → ScanStops a.files b.files (dir_seen told now faults count) e → IsHeld a told → IsHeld b now
  stopped-held (refusal.Disabled n) h = same-held h.1.same h.1.untouched.files
  stopped-held (refusal.DirFault n) h = ⊎_elim (λ f. same-held f.none.same f.none.files) (some-held (refusal.DirFault n)) h
  stopped-held refusal.OutOfMemory h = ⊎_elim (λ f. same-held f.same f.files) (some-held refusal.OutOfMemory) h
  stopped-held e h = absurd h

  pub scan-held : {T : Type 0} (items : T → List ℕ) (r : Result T Refusal) → IfOk r (λ v. Scans a.files b.files (dir_seen told now faults count) (items v))
      → IfErr r (ScanStops a.files b.files (dir_seen told now faults count)) → IsHeld a told → IsHeld b now
  scan-held items (Ok v) h g = tried-held h.begun.listed h.strays (items v) (items v) [] h.begun.hands h.removes
  scan-held items (Err e) h g = stopped-held e g
