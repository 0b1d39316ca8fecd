-- A close leaves each Live number with the file that was written, no Gone number with one, and all other files.
use Rattle.std.proofs.Common.{◌≡◌, ◌⊎◌, ⊎_elim, ℕ, Option, subst}
use Rattle.sv_model.specs.declared.records.FileStatus.TheVariants.{Gone, Live, Obsolete}
use Rattle.sv_model.specs.Books.{Books}
use Rattle.sv_model.specs.Files.{Files}
use Rattle.sv_model.specs.Lists.{In}
use Rattle.sv_model.specs.Numbers.{IsRegistered}
use Rattle.sv_model.specs.Steady.{Sound}
use Rattle.sv_model.specs.Summaries.{obsolete_of}
use Rattle.sv_laws.proofs.Apart.{obsolete_gone}
use Rattle.sv_state.specs.Follows.{Follows}
use Rattle.sv_store.specs.Ending.{EndsCurrents, RemovesObsolete}
use Rattle.sv_store.specs.HeldFiles.{IsHeld, LeavesOthers}
use Rattle.sv_store.proofs.AbsentFiles.{leaves-after}
use Rattle.sv_store.proofs.ClosedStore.{at_rest}
use Rattle.sv_store.proofs.HeldLaws.{NoneBecome, keeps-held}
use Rattle.sv_store.proofs.HeldPurges.{none-ended, removed-held, removed-leaves}
use Rattle.sv_store.proofs.LeftNumbers.{left-obsolete}
use Rattle.sv_store.proofs.RemovalSteps.{dir_seen}

module _ (a b : Books) (rest : b ≡ at_rest a b.snapshots) (m : Books) (h : EndsCurrents b m 16) where
  -- up to the removals no number becomes Live or Gone
  was-live : NoneBecome Live a m
  was-live k r = subst (λ (z : Books). IsRegistered z.files.numbers k Live) rest (h.makes.lives k r)

  was-gone : NoneBecome Gone a m
  was-gone k r = subst (λ (z : Books). IsRegistered z.files.numbers k Gone) rest (h.makes.gone k r)

  module _ (sound : Sound a) (first : Follows a m) (n : Books) (next : Follows m n) (told now : Option Files) (faults count : ℕ)
      (r : RemovesObsolete m.files n.files (dir_seen told now faults count)) where
    were : (k : ℕ) → In k r.gone ⊎ In k (obsolete_of n.files.numbers) → IsRegistered m.files.numbers k Obsolete
    were k there = ⊎_elim
        (λ g. (r.ready k g).obsolete)
        (λ l. none-ended Obsolete (λ q. obsolete_gone q) m.files n.files r.gone r.is k (left-obsolete n.files.numbers k l))
        there

    pub close-held : IsHeld a told → IsHeld n now
    close-held held =
        removed-held m n first.sound.lawful next r.gone (obsolete_of n.files.numbers) r.is were told now r.files
        (keeps-held a m sound.lawful first.sound.lawful first.after was-live told held)

    pub close-leaves : LeavesOthers a n told now
    close-leaves = leaves-after a m n was-gone told now
        (removed-leaves m n first.sound.lawful next r.gone (obsolete_of n.files.numbers) r.is were told now r.files)
