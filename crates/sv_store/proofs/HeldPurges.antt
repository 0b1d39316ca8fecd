-- Removals leave each Live number with the file that was written, no Gone number with one, and all other files.
use Rattle.std.proofs.Common.{◌≡◌, ◌⊎◌, inl, inr, ⊎_elim, ℕ, List, [], Option, Some, None, refl, sym, ap, ◌∙◌, subst}
use Rattle.std.specs.Prelude.{IfSome}
use Rattle.sv_model.specs.declared.records.FileStatus.{FileStatus}
use Rattle.sv_model.specs.declared.records.FileStatus.TheVariants.{Gone, Live, Obsolete}
use Rattle.sv_model.specs.declared.records.RegisteredFile.{RegisteredFile}
use Rattle.sv_model.specs.declared.refusals.Refusal.{Refusal}
use Rattle.sv_model.specs.Books.{Books, FileRegister}
use Rattle.sv_model.specs.Files.{Files}
use Rattle.sv_model.specs.Lawful.{Lawful}
use Rattle.sv_model.specs.Lists.{In}
use Rattle.sv_model.specs.Numbers.{AreInOrder, HasStatus, IsReady, IsRegistered}
use Rattle.sv_model.specs.Registers.{entry}
use Rattle.sv_model.proofs.Entries.{some}
use Rattle.sv_model.proofs.NumberLaws.{one_entry}
use Rattle.sv_laws.proofs.Apart.{live_gone, live_obsolete}
use Rattle.sv_state.specs.Follows.{Follows}
use Rattle.sv_store.specs.HeldFiles.{IsHeld, LeavesOthers}
use Rattle.sv_store.specs.Removals.{FilesGoIfTold, Removes, RemovesSome, ended, with_gone}
use Rattle.sv_store.proofs.AbsentFiles.{absent-removed, removed-stay}
use Rattle.sv_store.proofs.EndedNumbers.{ended-in, ended-or, mapped-entry}
use Rattle.sv_store.proofs.HeldLaws.{NoneLives, fits-in, held-removed}
use Rattle.sv_store.proofs.RemovalSteps.{dir_seen}
use Rattle.sv_store.proofs.TriedNumbers.{part-in}

-- ---- what numbers become

-- no number gets another status than Gone where some become Gone
pub none-ended : (s : FileStatus) → (s ≡ Gone → ⊥) → (old new : FileRegister) (gone : List ℕ) → new ≡ with_gone old gone
    → (n : ℕ) → IsRegistered new.numbers n s → IsRegistered old.numbers n s
none-ended s other old new gone is n has =
    let x = mapped-entry (ended gone) old.numbers has.0 has.1 (ap (λ (r : FileRegister). entry r.numbers has.0) (sym is) ∙ has.2) in
    ⊎_elim
    (λ e. absurd (other (sym has.3.status_is ∙ ap (λ (z : RegisteredFile). z.status) x.2 ∙ e)))
    (λ e. (has.0, x.0, x.1, subst (HasStatus n s) (x.2 ∙ e) has.3))
    (ended-or gone x.0)

-- what is Gone was so, or became so
pub gone-or : (old new : FileRegister) (gone : List ℕ) → new ≡ with_gone old gone → (n : ℕ) → IsRegistered new.numbers n Gone
    → IsRegistered old.numbers n Gone ⊎ In n gone
gone-or old new gone is n h =
    let x = mapped-entry (ended gone) old.numbers h.0 h.1 (ap (λ (r : FileRegister). entry r.numbers h.0) (sym is) ∙ h.2) in
    ⊎_elim
    (λ there. inr (subst (λ k. In k gone) (ap (λ (z : RegisteredFile). z.number) (sym x.2) ∙ h.3.number_is) there))
    (λ e. inl (h.0, x.0, x.1, subst (HasStatus n Gone) (x.2 ∙ e) h.3))
    (ended-in gone x.0)

-- ---- removals of numbers that were Obsolete

module _ (a b : Books) (before : Lawful a) (next : Follows a b) where
  -- a number that is Obsolete is not Live
  obsolete-dead : (n : ℕ) → IsRegistered a.files.numbers n Obsolete → IsRegistered a.files.numbers n Live → ⊥
  obsolete-dead n o live =
      let i = one_entry a.files.numbers n live.0 o.0 live.1 o.1 (before.numbers.once n) live.2 o.2 live.3.number_is o.3.number_is in
      live_obsolete (sym live.3.status_is ∙ ap (λ (z : RegisteredFile). z.status) (some (sym live.2 ∙ ap (entry a.files.numbers) i ∙ o.2)) ∙ o.3.status_is)

  module _ (gone left : List ℕ) (is : b.files ≡ with_gone a.files gone) (were : (n : ℕ) → In n gone ⊎ In n left → IsRegistered a.files.numbers n Obsolete)
      (told now : Option Files) (go : FilesGoIfTold gone left told now) where
    pub removed-held : IsHeld a told → IsHeld b now
    removed-held =
        let none : NoneLives a b = none-ended Live (λ q. live_gone q) a.files b.files gone is in
        held-removed a b before next.sound.lawful next.after gone left
        (λ n there.
        let o = were n there in
        (fits-in a before o.0 n o.1 o.2 o.3.number_is, λ live. obsolete-dead n o (none n live)))
        none told now go

    pub removed-leaves : LeavesOthers a b told now
    removed-leaves = record {
      absent = absent-removed a b gone left (gone-or a.files b.files gone is) told now go;
      stay = removed-stay b gone left
          (λ n there.
          let o = were n there in
          let y = next.after.numbers o.0 o.1 o.2 in
          (o.0, y.0, y.1, y.2.number ∙ o.3.number_is))
          told now go;
    }

  -- ---- the numbers that were ready, each tried once

  module _ (told now : Option Files) (faults count : ℕ) where
    tried-were : (numbers gone left : List ℕ) → ((n : ℕ) → In n numbers → IsReady a.files n)
        → Removes a.files b.files (dir_seen told now faults count) numbers gone left
        → (n : ℕ) → In n gone ⊎ In n left → IsRegistered a.files.numbers n Obsolete
    tried-were numbers gone left ready h n there =
        (ready n (⊎_elim (λ g. part-in gone numbers n h.tried.gone_are g) (λ l. ((h.tried.left_are.exact n).0 l).0) there)).obsolete

    pub tried-held : (r : Option Refusal) (numbers : List ℕ) → AreInOrder (IsReady a.files) numbers
        → (r ≡ None → Removes a.files b.files (dir_seen told now faults count) numbers numbers [])
        → IfSome r (RemovesSome a.files b.files (dir_seen told now faults count) numbers) → IsHeld a told → IsHeld b now
    tried-held None numbers ready all left =
        let h = all refl in
        removed-held numbers [] h.is (tried-were numbers numbers [] (λ n there. (ready.exact n).0 there) h) told now h.files
    tried-held (Some e) numbers ready all left =
        let h = left.removes in
        removed-held left.gone left.left h.is (tried-were numbers left.gone left.left (λ n there. (ready.exact n).0 there) h) told now h.files

    pub tried-leaves : (r : Option Refusal) (numbers : List ℕ) → AreInOrder (IsReady a.files) numbers
        → (r ≡ None → Removes a.files b.files (dir_seen told now faults count) numbers numbers [])
        → IfSome r (RemovesSome a.files b.files (dir_seen told now faults count) numbers) → LeavesOthers a b told now
    tried-leaves None numbers ready all left =
        let h = all refl in
        removed-leaves numbers [] h.is (tried-were numbers numbers [] (λ n there. (ready.exact n).0 there) h) told now h.files
    tried-leaves (Some e) numbers ready all left =
        let h = left.removes in
        removed-leaves left.gone left.left h.is (tried-were numbers left.gone left.left (λ n there. (ready.exact n).0 there) h) told now h.files
