-- A family's output, which is Live now.
use Rattle.std.proofs.Common.{◌≡◌, ◌<◌, ℕ, suc, ◌+◌, ⊎_elim, true, false, List, [], ◌∷◌, ◌++◌, length, Option, Some, None, refl, sym, ap, ◌∙◌, subst}
use Rattle.std.specs.Prelude.{slice_get}
use Rattle.sv_model.specs.declared.records.SuperVersion.{SuperVersion}
use Rattle.sv_model.specs.declared.records.MemtableList.{MemtableList}
use Rattle.sv_model.specs.declared.records.Version.{Version}
use Rattle.sv_model.specs.declared.records.FileMeta.{FileMeta}
use Rattle.sv_model.specs.declared.records.FileStatus.TheVariants.{Pending, Live}
use Rattle.sv_model.specs.declared.records.Top.{Top}
use Rattle.sv_model.specs.Lists.{In}
use Rattle.sv_model.specs.Named.{numbers_of}
use Rattle.sv_model.specs.Registers.{entry, GoesOn}
use Rattle.sv_model.specs.Books.{Books}
use Rattle.sv_model.specs.After.{KeepsNumber}
use Rattle.sv_model.specs.Numbers.{IsRegistered, IsSettled}
use Rattle.sv_model.specs.Described.{FilesStand, IsFileOf}
use Rattle.sv_model.specs.Steady.{Sound, IsFlush, IsMerge, IsAwaited}
use Rattle.sv_model.proofs.Registers.{entry-new, entry-same}
use Rattle.sv_laws.specs.Installs.{next_top, IsOpen}
use Rattle.sv_model.proofs.Entries.{some}
use Rattle.sv_model.proofs.Basics.{none_some}
use Rattle.sv_model.proofs.Metas.{captured-goes, one-meta}
use Rattle.sv_laws.proofs.Settled.{marked-goes, marked-keeps, marked-here, settled-captured}
use Rattle.sv_laws.proofs.OpenFamilies.{of_f, says, version-lives}
use Rattle.sv_model.specs.Snapshots.{IsLastFile, IsAwaitedFile}
use Rattle.sv_laws.proofs.Apart.{live_pending, pending_gone, true_false}

module _ (a b : Books) (k : Sound a) (f s : ℕ) (c : SuperVersion) (p : IsOpen a f s c) (file : FileMeta) (covered : In file a.metas) (settled : IsSettled f file.number Live a.files b.files) where
  awaits : IsAwaited a.journal a.memtables a.lists a.versions a.metas file.number c.descriptor
  awaits = k.steady.awaited f file.number s c settled.was p.current

  file_is : awaits.file ≡ file
  file_is =
      one-meta a.files.numbers a.files.captured a.files.next a.metas k.lawful.numbers k.lawful.metas awaits.file file
      awaits.covered covered awaits.number_is

  pub is-some : file.from < file.to
  is-some = subst (λ (m : FileMeta). m.from < m.to) file_is awaits.some

  pub is-flush : file.bottom.last ≡ false → (list : MemtableList) → entry a.lists c.descriptor.list ≡ Some list
      → (version : Version) → entry a.versions c.descriptor.version ≡ Some version
      → IsFlush a.journal a.memtables c.descriptor.family list.members version.files file
  is-flush kind list le version ve = ⊎_elim
      (λ u. subst (λ (z : List ℕ × (List FileMeta × FileMeta)). IsFlush a.journal a.memtables c.descriptor.family z.0 z.1.0 z.1.1)
      (λ i. (ap (λ (l : MemtableList). l.members) (some (sym awaits.list_at ∙ le)) i, (ap (λ (v : Version). v.files) (some (sym awaits.version_at ∙ ve)) i, file_is i))) u)
      (λ u. true_false (sym u.last_is ∙ ap (λ (m : FileMeta). m.bottom.last) file_is ∙ kind))
      awaits.fits

  pub is-merge : file.bottom.last ≡ true → (version : Version) → entry a.versions c.descriptor.version ≡ Some version
      → IsMerge version.files file
  is-merge kind version ve = ⊎_elim
      (λ u. true_false (sym kind ∙ ap (λ (m : FileMeta). m.bottom.last) (sym file_is) ∙ u.above))
      (λ u. subst (λ (z : List FileMeta × FileMeta). IsMerge z.0 z.1) (λ i. (ap (λ (v : Version). v.files) (some (sym awaits.version_at ∙ ve)) i, file_is i)) u)
      awaits.fits

  pub numbers-go : GoesOn KeepsNumber a.files.numbers b.files.numbers
  numbers-go =
      marked-goes file.number Pending Live a.files.numbers b.files.numbers settled.numbers
      (λ e. absurd (pending_gone e))

  pub now-live : IsRegistered b.files.numbers file.number Live
  now-live = (
    settled.numbers.at,
    record settled.numbers.it { status = Live },
    marked-here file.number Pending Live a.files.numbers b.files.numbers settled.numbers,
    record {
      number_is = settled.numbers.had.number_is;
      status_is = refl;
    },
  )

  pub stay-live : (n : ℕ) → IsRegistered a.files.numbers n Live → IsRegistered b.files.numbers n Live
  stay-live n w =
      marked-keeps file.number Pending Live a.files.numbers b.files.numbers settled.numbers n Live (λ e. live_pending e) w

  -- what the Version of the current names is Live still
  pub still : (version : Version) → entry a.versions c.descriptor.version ≡ Some version → (n : ℕ)
      → In n (numbers_of version.files) → IsRegistered b.files.numbers n Live
  still version e n i =
      let v = version-lives a k f s c p in
      stay-live n ((k.lawful.files n).1 (
        c.descriptor.version,
        version,
        e,
        record {
          live = ap (λ (u : Version). u.live) (some (sym e ∙ v.at)) ∙ v.live;
          has = i;
        },
      ))

  pub none-captured : (n : ℕ) → slice_get b.files.captured f ≡ Some (Some n) → ⊥
  none-captured n e =
      let gone : slice_get b.files.captured f ≡ Some None =
      ap (λ (l : List (Option ℕ)). slice_get l f) (settled-captured f file.number Live a.files b.files settled)
      ∙ entry-same a.files.captured (suc f) (Some file.number) None settled.was in
      none_some n (some (sym gone ∙ e))

  pub file-of : IsFileOf b.files.numbers a.metas c.descriptor.family file
  file-of =
      let w = k.lawful.numbers.held f file.number settled.was in
      record {
        captured = captured-goes a.files.numbers b.files.numbers numbers-go c.descriptor.family file.number (
          w.0,
          w.1,
          w.2,
          record {
            number_is = w.3.number_is;
            family_is = w.3.family_is ∙ ap Some (sym (of_f a k f s c p));
          },
        );
        covers = covered;
        some = is-some;
      }

  -- the current's Version as it is
  pub says-files : (version : Version) → entry a.versions c.descriptor.version ≡ Some version
      → FilesStand a.files.numbers a.metas c.descriptor.family version.files (says a k f s c p).middle
  says-files version e =
      let d = says a k f s c p in
      subst (λ (v : Version). FilesStand a.files.numbers a.metas c.descriptor.family v.files d.middle)
      (some (sym d.version_at ∙ e)) d.files

  -- a file of the last Version, where that one is new, is one of it
  pub last-output : (v : Version) (T : List Top) → slice_get T f ≡ Some (next_top a (length a.versions + 1))
      → (m : FileMeta) → IsLastFile (a.versions ++ v ∷ []) T f m → In m v.files
  last-output v T e m w =
      let W = a.versions ++ v ∷ [] in
      let last : w.top.last ≡ length a.versions + 1 = ap (λ (u : Top). u.last) (some (sym w.top_at ∙ e)) in
      let same : w.version ≡ v =
      some (sym w.version_at ∙ ap (entry W) last ∙ entry-new a.versions v (length a.versions + 1) refl) in
      subst (λ (z : Version). In m z.files) same w.has

  -- the output was to be one
  pub was-awaited : (m : FileMeta) → m ≡ file → IsAwaitedFile a.files.captured a.metas f m
  was-awaited m e = record {
    captured_is = settled.was ∙ ap (λ (z : FileMeta). Some (Some z.number)) (sym e);
    covered = subst (λ (z : FileMeta). In z a.metas) (sym e) covered;
  }
