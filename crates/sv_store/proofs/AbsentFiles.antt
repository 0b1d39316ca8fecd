-- No Gone number has a file, and of the directory only files of registered numbers change.
use Rattle.std.specs.FinMap as finite
use Rattle.std.proofs.Common.{◌≡◌, ◌<◌, ◌^◌, ◌+◌, ◌⊎◌, inl, inr, ⊎_elim, ℕ, cond, List, length, Option, Some, None, refl, sym, ap, ◌∙◌, subst}
use Rattle.sv_model.specs.declared.records.FileMeta.{FileMeta}
use Rattle.sv_model.specs.declared.records.FileStatus.{FileStatus}
use Rattle.sv_model.specs.declared.records.FileStatus.TheVariants.{Gone, Pending}
use Rattle.sv_model.specs.declared.records.RegisteredFile.{RegisteredFile}
use Rattle.sv_model.specs.After.{After}
use Rattle.sv_model.specs.Books.{Books}
use Rattle.sv_model.specs.Files.{Files, file_name, file_of, with_file}
use Rattle.sv_model.specs.HeldFiles.{GoneAreAbsent}
use Rattle.sv_model.specs.Lawful.{Lawful}
use Rattle.sv_model.specs.Lists.{In}
use Rattle.sv_model.specs.Numbers.{IsRegistered, IsSettled}
use Rattle.sv_model.specs.Registers.{Has, entry}
use Rattle.sv_model.proofs.Basics.{none_some}
use Rattle.sv_model.proofs.Entries.{some}
use Rattle.sv_model.proofs.NumberLaws.{one_entry}
use Rattle.sv_model.proofs.Registers.{entry-new}
use Rattle.sv_laws.specs.Captures.{IsFileCaptured}
use Rattle.sv_laws.proofs.Apart.{pending_gone}
use Rattle.sv_laws.proofs.Settled.{marked_is}
use Rattle.sv_dir.specs.Files.{LeavesAny}
use Rattle.sv_dir.proofs.Laws.{file_of-with_file}
use Rattle.sv_store.specs.HeldFiles.{IsAbsent, LeavesOthers, StayIfTold}
use Rattle.sv_store.specs.Removals.{FilesGoIfTold}
use Rattle.sv_store.proofs.HeldLaws.{NoneBecome, fits-in, other-number}
use Rattle.sv_store.proofs.RemovedFiles.{get-changed, same_name-other, went-or}

-- ---- the other files

module _ (b : Books) where
  same-stay : (told now : Option Files) → now ≡ told → StayIfTold b told now
  same-stay None now same = subst (StayIfTold b None) (sym same) tt
  same-stay (Some files) now same = subst (StayIfTold b (Some files)) (sym same) (λ name apart. refl)

  -- the file of a registered number changed
  any-stay : (n : ℕ) → Has (λ x. x.number ≡ n) b.files.numbers → (told now : Option Files) → LeavesAny n told now → StayIfTold b told now
  any-stay n has None now (content, l) = subst (StayIfTold b None) (sym l) tt
  any-stay n has (Some files) now (content, l) = subst (StayIfTold b (Some files)) (sym l) (λ name apart.
      get-changed (file_name n) content files name
      ∙ ap (λ t. cond t content (finite.get files name)) (same_name-other name (file_name n) (λ e. apart has.0 has.1 has.2 (ap file_name has.3 ∙ sym e))))

  -- files of registered numbers were removed
  pub removed-stay : (gone left : List ℕ) → ((n : ℕ) → In n gone ⊎ In n left → Has (λ x. x.number ≡ n) b.files.numbers)
      → (told now : Option Files) → FilesGoIfTold gone left told now → StayIfTold b told now
  removed-stay gone left has None None go = tt
  removed-stay gone left has None (Some now) go = absurd go
  removed-stay gone left has (Some files) None go = absurd go
  removed-stay gone left has (Some files) (Some now) go = λ name apart.
      go.others name (λ m there e. let r = has m there in apart r.0 r.1 r.2 (ap file_name r.3 ∙ e))

-- ---- Gone numbers

module _ (a b : Books) where
  -- each Gone number was so and its file is as it was, or it has none
  absent-on : (files now : Files)
      → ((n : ℕ) → IsRegistered b.files.numbers n Gone → (IsRegistered a.files.numbers n Gone × (file_of n now ≡ file_of n files)) ⊎ (file_of n now ≡ None))
      → GoneAreAbsent a.files.numbers files → GoneAreAbsent b.files.numbers now
  absent-on files now each h i x at gone = ⊎_elim
      (λ old. old.1 ∙ ap (λ n. file_of n files) (sym old.0.3.number_is) ∙ h old.0.0 old.0.1 old.0.2 old.0.3.status_is)
      (λ none. none)
      (each x.number (i, x, at, record { number_is = refl; status_is = gone }))

  pub keeps-absent : NoneBecome Gone a b → (told : Option Files) → IsAbsent a told → IsAbsent b told
  keeps-absent none told h all q = absent-on all all (λ n gone. inl (none n gone, refl)) (h all q)

  -- the file of a number that is not Gone changed
  pub absent-else : Lawful b → (m : ℕ) → m < 2 ^ 64 → (IsRegistered b.files.numbers m Gone → ⊥) → NoneBecome Gone a b → (told now : Option Files)
      → LeavesAny m told now → IsAbsent a told → IsAbsent b now
  absent-else law m small alive none None now (content, leaves) h all q = absurd (none_some all (sym leaves ∙ q))
  absent-else law m small alive none (Some files) now (content, leaves) h all q =
      let is : with_file (file_name m) content files ≡ all = some (sym leaves ∙ q) in
      absent-on files all
      (λ n gone. inl (
        none n gone,
        sym (ap (file_of n) is) ∙ file_of-with_file n m content files (fits-in b law gone.0 n gone.1 gone.2 gone.3.number_is) small
            ∙ ap (λ t. cond t content (file_of n files)) (other-number n m (λ e. alive (subst (λ j. IsRegistered b.files.numbers j Gone) e gone))),
      ))
      (h files refl)

  -- files were removed, and just their numbers became Gone
  pub absent-removed : (gone left : List ℕ) → ((n : ℕ) → IsRegistered b.files.numbers n Gone → IsRegistered a.files.numbers n Gone ⊎ In n gone)
      → (told now : Option Files) → FilesGoIfTold gone left told now → IsAbsent a told → IsAbsent b now
  absent-removed gone left were None None go h all q = absurd (none_some all q)
  absent-removed gone left were None (Some now) go h all q = absurd go
  absent-removed gone left were (Some files) None go h all q = absurd go
  absent-removed gone left were (Some files) (Some now) go h all q =
      let same : now ≡ all = some q in
      absent-on files all
      (λ n is. subst (λ (z : Files). (IsRegistered a.files.numbers n Gone × (file_of n z ≡ file_of n files)) ⊎ (file_of n z ≡ None)) same
      (⊎_elim
      (λ old. ⊎_elim (λ e. inl (old, e)) (λ e. inr e) (went-or gone left files now n go))
      (λ new. inr (go.absent n new))
      (were n is)))
      (h files refl)

-- no number became Gone, and no file changed
pub same-leaves : (a b : Books) → NoneBecome Gone a b → (told : Option Files) → LeavesOthers a b told told
same-leaves a b none told = record { absent = keeps-absent a b none told; stay = same-stay b told told refl }

-- as before, and then no file changed
pub leaves-after : (a m b : Books) → NoneBecome Gone a m → (told now : Option Files) → LeavesOthers m b told now → LeavesOthers a b told now
leaves-after a m b none told now h = record { absent = λ was. h.absent (keeps-absent a m none told was); stay = h.stay }

-- ---- one after the other

stay-through : (m b : Books) → After m b → (first then last : Option Files) → StayIfTold m first then → StayIfTold b then last → StayIfTold b first last
stay-through m b after None None None h k = tt
stay-through m b after None None (Some last) h k = absurd k
stay-through m b after None (Some then) last h k = absurd h
stay-through m b after (Some first) None last h k = absurd h
stay-through m b after (Some first) (Some then) None h k = absurd k
stay-through m b after (Some first) (Some then) (Some last) h k = λ name apart.
    k name apart
    ∙ h name (λ n x at is. let y = after.numbers n x at in apart n y.0 y.1 (ap file_name y.2.number ∙ is))

pub leaves-through : (a m b : Books) → After m b → (first then last : Option Files) → LeavesOthers a m first then → LeavesOthers m b then last → LeavesOthers a b first last
leaves-through a m b after first then last h k = record {
  absent = λ was. k.absent (h.absent was);
  stay = stay-through m b after first then last h.stay k.stay;
}

-- ---- an output

pub none-settled : (s status : FileStatus) → (s ≡ status → ⊥) → (f n : ℕ) (a b : Books) → IsSettled f n status a.files b.files → NoneBecome s a b
none-settled s status other f n a b st k has = ⊎_elim
    (λ old. old)
    (λ new. absurd (other new.1))
    (marked_is n Pending status a.files.numbers b.files.numbers st.numbers k s has)

module _ (a m b : Books) (f : ℕ) (file : FileMeta) (c : IsFileCaptured a m f file) (mid : Lawful m) (law : Lawful b) (none : NoneBecome Gone m b)
    (captured : Has (λ x. x.number ≡ file.number) b.files.numbers) where
  abbrev pending : RegisteredFile
  pending = record { number = a.files.next; status = Pending; family = Some f }

  -- its number, which was Pending, is not Gone
  alive : IsRegistered b.files.numbers file.number Gone → ⊥
  alive gone =
      let was = none file.number gone in
      let on : entry m.files.numbers (length a.files.numbers + 1) ≡ Some pending =
      ap (λ (z : Books). entry z.files.numbers (length a.files.numbers + 1)) c.is ∙ entry-new a.files.numbers pending (length a.files.numbers + 1) refl in
      let i = one_entry m.files.numbers file.number was.0 (length a.files.numbers + 1) was.1 pending (mid.numbers.once file.number) was.2 on
      was.3.number_is (sym c.number_is) in
      pending_gone (sym (ap (λ (z : RegisteredFile). z.status) (some (sym was.2 ∙ ap (entry m.files.numbers) i ∙ on))) ∙ was.3.status_is)

  absent-output : NoneBecome Gone a b → (told now : Option Files) → LeavesAny file.number told now ⊎ (now ≡ told) → IsAbsent a told → IsAbsent b now
  absent-output all_none told now changed = ⊎_elim
      (λ any. absent-else a b law file.number (fits-in b law captured.0 file.number captured.1 captured.2 captured.3) alive all_none told now any)
      (λ same h. subst (IsAbsent b) (sym same) (keeps-absent a b all_none told h))
      changed

  pub output-leaves : NoneBecome Gone a b → (told now : Option Files) → LeavesAny file.number told now ⊎ (now ≡ told) → LeavesOthers a b told now
  output-leaves all_none told now changed = record {
    absent = absent-output all_none told now changed;
    stay = ⊎_elim (λ any. any-stay b file.number captured told now any) (λ same. same-stay b told now same) changed;
  }
