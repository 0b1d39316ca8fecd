-- Calls that touch no file leave each Live number with the file that was written, and no Gone number with one.
use Rattle.std.proofs.Common.{◌≡◌, ⊎_elim, ℕ, Bool, true, false, List, Option, sym, ap, subst}
use Rattle.std.specs.Prelude.{Result, Ok, Err}
use Rattle.sv_model.specs.declared.records.FileStatus.{FileStatus}
use Rattle.sv_model.specs.declared.records.FileStatus.TheVariants.{Gone, Live, Obsolete}
use Rattle.sv_model.specs.declared.refusals.Refusal.{Refusal}
use Rattle.sv_model.specs.declared.refusals.Refusal.TheVariants as refusal
use Rattle.sv_model.specs.declared.settings.OptionName.{OptionName}
use Rattle.sv_model.specs.declared.writes.Row.{Row}
use Rattle.sv_model.specs.Books.{Books}
use Rattle.sv_model.specs.Files.{Files}
use Rattle.sv_model.specs.Steady.{Sound}
use Rattle.sv_laws.proofs.Apart.{live_obsolete, obsolete_gone}
use Rattle.sv_state.specs.Follows.{Follows}
use Rattle.sv_state.specs.Planning.{active_rows, is_switch_due}
use Rattle.sv_store.specs.Going.{CurrentGoes}
use Rattle.sv_store.specs.HeldFiles.{KeepsHeld, KeepsOthers, LeavesOthers}
use Rattle.sv_store.specs.Releasing.{Releases}
use Rattle.sv_store.specs.Seen.{StoreSeen}
use Rattle.sv_store.specs.Setting.{Sets}
use Rattle.sv_store.specs.Writing.{Accepts, PutsAs, StopsAs, Writes}
use Rattle.sv_store.proofs.AbsentFiles.{same-leaves}
use Rattle.sv_store.proofs.EmptiedFamilies.{none-switched}
use Rattle.sv_store.proofs.HeldLaws.{NoneBecome, NoneLives, keeps-held, none-cleaned, none-same, none-through}

-- ---- no number gets another status than Obsolete

module _ (s : FileStatus) (other : s ≡ Obsolete → ⊥) where
  none-gone : (f : ℕ) (a m b : Books) → CurrentGoes a m b f → NoneBecome s m b
  none-gone f a m b g = none-cleaned s other m b g.s g.x g.cleaned

  none-accepted : (f : ℕ) (row : Row) (n : ℕ) (a b : Books) → Accepts a b f row n → NoneBecome s a b
  none-accepted f row n a b h = none-same s a b (ap (λ (z : Books). z.files.numbers) h.written.is)

  module _ (a b : StoreSeen) where
    -- nothing changed
    none-kept : b ≡ a → NoneBecome s a.books b.books
    none-kept same = subst (λ (z : StoreSeen). NoneBecome s a.books z.books) (sym same) (λ n has. has)

    none-put : (due : Bool) (f : ℕ) (row : Row) (n : ℕ) → PutsAs due a.books b.books f row n → NoneBecome s a.books b.books
    none-put true f row n (m, w, h) = none-through s a.books m b.books (none-switched s other a.books m f w) (none-accepted f row n m b.books h)
    none-put false f row n h = none-accepted f row n a.books b.books h

    none-stopped : (name : List ℕ) (e : Refusal) → StopsAs a b name e → NoneBecome s a.books b.books
    none-stopped name refusal.OutOfMemory h = ⊎_elim none-kept (λ w. none-switched s other a.books b.books w.meant.family w.switched) h
    none-stopped name e h = none-kept h

    none-written : (name : List ℕ) (row : Row) (r : Result ℕ Refusal) → Writes a b name row r → NoneBecome s a.books b.books
    none-written name row (Err e) w = none-stopped name e w.stops
    none-written name row (Ok n) w = ⊎_elim
        (λ h. let q : Ok n ≡ Err h.0 = h.2 in absurd (cc))
        (λ h. none-put (is_switch_due (active_rows a.books h.0) h.0.is_open.family.options) h.0.family row n h.2)
        w.answers

    -- a SuperVersion goes
    none-set : (name : List ℕ) (option : OptionName) (value serial : ℕ) → Sets a.books b.books name option value serial → NoneBecome s a.books b.books
    none-set name option value serial h =
        let w = h.renews in
        none-through s a.books w.mid b.books (none-same s a.books w.mid (ap (λ (z : Books). z.files.numbers) w.is.set.is)) (none-gone h.family a.books w.mid b.books w.goes)

    none-released : (name : List ℕ) → Releases a.books b.books name → NoneBecome s a.books b.books
    none-released name h = ⊎_elim
        (λ w. none-same s a.books b.books (ap (λ (z : Books). z.files.numbers) w.4.is))
        (λ w. none-through s a.books w.mid b.books (none-same s a.books w.mid (ap (λ (z : Books). z.files.numbers) w.retired.3.is)) (none-gone w.family a.books w.mid b.books w.goes))
        h

-- ---- Live numbers keep their files

live-other : Live ≡ Obsolete → ⊥
live-other q = live_obsolete q

module _ (a b : StoreSeen) (sound : Sound a.books) (next : Follows a.books b.books) where
  pub none-held : NoneLives a.books b.books → KeepsHeld a.books b.books
  none-held none = keeps-held a.books b.books sound.lawful next.sound.lawful next.after none

  pub same-held : b ≡ a → KeepsHeld a.books b.books
  same-held same = none-held (none-kept Live live-other a b same)

  -- no status of a number changed
  pub numbers-held : b.books.files.numbers ≡ a.books.files.numbers → KeepsHeld a.books b.books
  numbers-held same = none-held (none-same Live a.books b.books same)

  pub write-held : (name : List ℕ) (row : Row) (r : Result ℕ Refusal) → Writes a b name row r → KeepsHeld a.books b.books
  write-held name row r w = none-held (none-written Live live-other a b name row r w)

  pub set-held : (name : List ℕ) (option : OptionName) (value serial : ℕ) → Sets a.books b.books name option value serial → KeepsHeld a.books b.books
  set-held name option value serial h = none-held (none-set Live live-other a b name option value serial h)

  pub release-held : (name : List ℕ) → Releases a.books b.books name → KeepsHeld a.books b.books
  release-held name h = none-held (none-released Live live-other a b name h)

-- ---- no Gone number has a file

gone-other : Gone ≡ Obsolete → ⊥
gone-other q = obsolete_gone (sym q)

module _ (a b : StoreSeen) where
  pub same-others : b ≡ a → KeepsOthers a.books b.books
  same-others same = same-leaves a.books b.books (none-kept Gone gone-other a b same)

  pub numbers-others : b.books.files.numbers ≡ a.books.files.numbers → KeepsOthers a.books b.books
  numbers-others same = same-leaves a.books b.books (none-same Gone a.books b.books same)

  pub write-others : (name : List ℕ) (row : Row) (r : Result ℕ Refusal) → Writes a b name row r → KeepsOthers a.books b.books
  write-others name row r w = same-leaves a.books b.books (none-written Gone gone-other a b name row r w)

  pub set-others : (name : List ℕ) (option : OptionName) (value serial : ℕ) → Sets a.books b.books name option value serial → KeepsOthers a.books b.books
  set-others name option value serial h = same-leaves a.books b.books (none-set Gone gone-other a b name option value serial h)

  pub release-others : (name : List ℕ) → Releases a.books b.books name → KeepsOthers a.books b.books
  release-others name h = same-leaves a.books b.books (none-released Gone gone-other a b name h)

-- a read changes neither the books nor a file
pub read-others : (b : Books) (told now : Option Files) → now ≡ told → LeavesOthers b b told now
read-others b told now same = subst (LeavesOthers b b told) (sym same) (same-leaves b b (λ n has. has) told)
