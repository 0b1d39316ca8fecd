-- Live numbers keep the files that were written: where no file changes, where one is put or removed.
use Rattle.std.proofs.Common.{◌≡◌, ◌≢◌, ◌<◌, ◌+◌, ◌^◌, ◌==◌, ◌++◌, ◌∷◌, [], ◌⊎◌, inl, inr, ⊎_elim, ℕ, true, false, cond, List, length, Option, Some, None, refl, sym, ap, ◌∙◌, subst, arith}
use Rattle.std.specs.Prelude.{IsSomeAnd, is_some}
use Rattle.std.proofs.lemmas.Bool.Decides.{nat_tests}
use Rattle.sv_model.specs.declared.records.FileMeta.{FileMeta}
use Rattle.sv_model.specs.declared.records.FileStatus.{FileStatus}
use Rattle.sv_model.specs.declared.records.FileStatus.TheVariants.{Live, Obsolete, Pending}
use Rattle.sv_model.specs.declared.records.RegisteredFile.{RegisteredFile}
use Rattle.sv_model.specs.declared.records.SuperVersion.{SuperVersion}
use Rattle.sv_model.specs.declared.writes.Write.{Write}
use Rattle.sv_model.specs.After.{After, Continues}
use Rattle.sv_model.specs.Books.{Books}
use Rattle.sv_model.specs.Files.{Files, file_name, file_of, with_file}
use Rattle.sv_model.specs.Flat.{IsFlatOf}
use Rattle.sv_model.specs.HeldFiles.{HasItsText, HoldsText, IsFileText, LiveAreHeld}
use Rattle.sv_model.specs.Journal.{of_family}
use Rattle.sv_model.specs.Lawful.{Lawful}
use Rattle.sv_model.specs.Lists.{In}
use Rattle.sv_model.specs.Named.{NamedFile}
use Rattle.sv_model.specs.Numbers.{HasStatus, IsRegistered, IsSettled}
use Rattle.sv_model.specs.Reads.{IsCapturedFor}
use Rattle.sv_model.specs.Registers.{Has, entry}
use Rattle.sv_model.proofs.Basics.{apart_or, none_some}
use Rattle.sv_model.proofs.Entries.{in-left, in-right, some}
use Rattle.sv_model.proofs.Metas.{captured-goes, covered, one-meta}
use Rattle.sv_model.proofs.NumberLaws.{one_entry}
use Rattle.sv_model.proofs.PassedRows.{continues-filter, continues-length, range-stays}
use Rattle.sv_model.proofs.Registers.{entry_push, entry-new}
use Rattle.sv_laws.specs.Captures.{IsFileCaptured}
use Rattle.sv_laws.specs.Cleaning.{IsCleaned, TurnsFile}
use Rattle.sv_laws.proofs.Apart.{live_obsolete, live_pending}
use Rattle.sv_laws.proofs.Registers.{goes-back}
use Rattle.sv_laws.proofs.Settled.{marked-here, marked_is}
use Rattle.sv_dir.specs.Files.{Leaves, LeavesAny, same_name}
use Rattle.sv_dir.proofs.Laws.{file_of-with_file, same_name-file_name}
use Rattle.sv_store.specs.HeldFiles.{IsHeld, KeepsHeld}
use Rattle.sv_store.specs.Outputs.{PutsText}
use Rattle.sv_store.specs.Removals.{FilesGoIfTold}
use Rattle.sv_store.proofs.RemovedFiles.{same_name-itself}

-- ---- what numbers become

-- each number of this status had it
abbrev pub NoneBecome : FileStatus → Books → Books → Type 0
NoneBecome s a b = (n : ℕ) → IsRegistered b.files.numbers n s → IsRegistered a.files.numbers n s

-- each number that is Live was so
abbrev pub NoneLives : Books → Books → Type 0
NoneLives a b = NoneBecome Live a b

module _ (s : FileStatus) where
  pub none-same : (a b : Books) → b.files.numbers ≡ a.files.numbers → NoneBecome s a b
  none-same a b same n has = subst (λ (l : List RegisteredFile). IsRegistered l n s) same has

  pub none-through : (a m b : Books) → NoneBecome s a m → NoneBecome s m b → NoneBecome s a b
  none-through a m b first then n has = first n (then n has)

  -- a cleanup makes numbers Obsolete alone
  pub none-cleaned : (s ≡ Obsolete → ⊥) → (a b : Books) (serial : ℕ) (x : SuperVersion) → IsCleaned a b serial x → NoneBecome s a b
  none-cleaned other a b serial x g n has =
      let t = goes-back (TurnsFile (NamedFile b.versions)) a.files.numbers b.files.numbers g.numbers.goes g.numbers.long has.0 has.1 has.2 in
      ⊎_elim
      (λ q. (has.0, t.0, t.1, subst (HasStatus n s) q.0 has.3))
      (λ q. absurd (other (sym has.3.status_is ∙ ap (λ (z : RegisteredFile). z.status) q.0)))
      t.2

-- ---- texts

-- the text of a range of writes is the same in a journal that goes on
text-on : (j k : List Write) → Continues j k → (f : ℕ) (file : FileMeta) (bytes : List ℕ) → IsFileText j f file bytes → IsFileText k f file bytes
text-on j k h f file bytes t = record {
  within = omega (arith, t.within, continues-length (of_family f j) (of_family f k) (continues-filter (λ (w : Write). w.family == f) j k h));
  rows = t.rows;
  flat = subst (λ l. IsFlatOf file.from file.to file.bottom l t.rows) (sym (range-stays j k h f file.from file.to t.within)) t.flat;
  table = t.table;
  is = t.is;
}

holds-on : (j k : List Write) → Continues j k → (f : ℕ) (file : FileMeta) (o : Option (List ℕ)) → IsSomeAnd o (IsFileText j f file)
    → IsSomeAnd o (IsFileText k f file)
holds-on j k h f file None held = held
holds-on j k h f file (Some bytes) held = text-on j k h f file bytes held

-- a number whose file is as it was has its text as before
text-same : (b : Books) (files now : Files) (n : ℕ) → file_of n now ≡ file_of n files → HasItsText b files n → HasItsText b now n
text-same b files now n same h f file captured has number =
    subst (λ o. IsSomeAnd o (IsFileText b.journal f file))
    (ap (λ k. file_of k files) number ∙ sym same ∙ ap (λ k. file_of k now) (sym number))
    (h f file captured has number)

pub in-more : (a b : List FileMeta) → Continues a b → (x : FileMeta) → In x a → In x b
in-more a b h x has = subst (λ (l : List FileMeta). In x l) (sym h.1) (in-left x a h.0 has)

-- ---- numbers and names

same-number : (m n : ℕ) → (m == n) ≡ true → m ≡ n
same-number m n e = grind (arith, nat_tests, e)

pub other-number : (m n : ℕ) → m ≢ n → (m == n) ≡ false
other-number m n apart = grind (arith, nat_tests, apart)

itself : (n : ℕ) → (n == n) ≡ true
itself n = grind (arith, nat_tests)

-- two numbers with one name are one
one-name : (m n : ℕ) → m < 2 ^ 64 → n < 2 ^ 64 → file_name m ≡ file_name n → m ≡ n
one-name m n small fits e =
    same-number m n (sym (same_name-file_name m n small fits) ∙ ap (λ z. same_name z (file_name n)) e ∙ same_name-itself (file_name n))

-- a registered number fits into 64 bits
pub fits-in : (b : Books) → Lawful b → (i n : ℕ) (x : RegisteredFile) → entry b.files.numbers i ≡ Some x → x.number ≡ n → n < 2 ^ 64
fits-in b law i n x at is = omega (arith, law.numbers.below i x at, is, law.numbers.most)

-- ---- from one set of books to a later one

module _ (a b : Books) (before : Lawful a) (law : Lawful b) (after : After a b) where
  -- a number that had the file of its range still has it
  text-later : (files : Files) (n : ℕ) → Has (λ x. x.number ≡ n) a.files.numbers → HasItsText a files n → HasItsText b files n
  text-later files n r text f meta captured covers number =
      let y = after.numbers r.0 r.1 r.2 in
      let at : captured.0 ≡ r.0 = one_entry b.files.numbers n captured.0 r.0 captured.1 y.0 (law.numbers.once n) captured.2 y.1
      captured.3.number_is (y.2.number ∙ r.3) in
      let e : captured.1 ≡ y.0 = some (sym captured.2 ∙ ap (entry b.files.numbers) at ∙ y.1) in
      let family : r.1.family ≡ Some f = sym y.2.family ∙ ap (λ (z : RegisteredFile). z.family) (sym e) ∙ captured.3.family_is in
      let c = covered a.files.numbers a.files.captured a.files.next a.metas before.numbers before.metas r.0 r.1 r.2
      (ap (λ (o : Option ℕ). is_some o) family) in
      let m : c.0 ≡ meta = one-meta b.files.numbers b.files.captured b.files.next b.metas law.numbers law.metas
      c.0 meta (in-more a.metas b.metas after.metas c.0 c.1) covers (c.2 ∙ r.3 ∙ sym number) in
      let old : HoldsText files a.journal f c.0 = text f c.0 (r.0, r.1, r.2, record { number_is = r.3; family_is = family }) c.1 (c.2 ∙ r.3) in
      subst (HoldsText files b.journal f) m (holds-on a.journal b.journal after.journal f c.0 (file_of c.0.number files) old)

  -- each Live number was so and its file is as it was, or it has its text
  held-on : (files now : Files)
      → ((n : ℕ) → IsRegistered b.files.numbers n Live → (IsRegistered a.files.numbers n Live × (file_of n now ≡ file_of n files)) ⊎ HasItsText b now n)
      → LiveAreHeld a files → LiveAreHeld b now
  held-on files now each h n live = ⊎_elim
      (λ old. text-same b files now n old.1 (text-later files n (old.0.0, old.0.1, old.0.2, old.0.3.number_is) (h n old.0)))
      (λ new. new)
      (each n live)

  -- no number became Live, and no file changed
  pub keeps-held : NoneLives a b → KeepsHeld a b
  keeps-held none told h all q = held-on all all (λ n live. inl (none n live, refl)) (h all q)

  -- ---- one file changed

  -- the file of a number that is not Live
  pub held-else : (m : ℕ) → m < 2 ^ 64 → (IsRegistered b.files.numbers m Live → ⊥) → NoneLives a b → (told now : Option Files) → LeavesAny m told now
      → IsHeld a told → IsHeld b now
  held-else m small dead none told now (content, leaves) h all q = by told leaves h
    where
      by : (o : Option Files) → Leaves m content o now → IsHeld a o → LiveAreHeld b all
      by None l k = absurd (none_some all (sym l ∙ q))
      by (Some files) l k =
          let is : with_file (file_name m) content files ≡ all = some (sym l ∙ q) in
          held-on files all
          (λ n live. inl (
            none n live,
            sym (ap (file_of n) is) ∙ file_of-with_file n m content files (fits-in b law live.0 n live.1 live.2 live.3.number_is) small
                ∙ ap (λ t. cond t content (file_of n files)) (other-number n m (λ e. dead (subst (λ j. IsRegistered b.files.numbers j Live) e live))),
          ))
          (k files refl)

  -- The file of the number's range was put, and this number alone became Live.
  module _ (f : ℕ) (file : FileMeta) (captured : Has (IsCapturedFor f file.number) b.files.numbers) (covers : In file b.metas) where
    -- there is one such file
    its-text : (files : Files) → HoldsText files b.journal f file → HasItsText b files file.number
    its-text files held g meta other has number =
        let at : captured.0 ≡ other.0 = one_entry b.files.numbers file.number captured.0 other.0 captured.1 other.1 (law.numbers.once file.number) captured.2 other.2
        captured.3.number_is other.3.number_is in
        let e : captured.1 ≡ other.1 = some (sym captured.2 ∙ ap (entry b.files.numbers) at ∙ other.2) in
        let family : f ≡ g = some (sym captured.3.family_is ∙ ap (λ (z : RegisteredFile). z.family) e ∙ other.3.family_is) in
        let m : file ≡ meta = one-meta b.files.numbers b.files.captured b.files.next b.metas law.numbers law.metas file meta covers has (sym number) in
        subst (λ (z : ℕ × FileMeta). HoldsText files b.journal z.0 z.1) (λ i. (family i, m i)) held

    pub held-put : ((n : ℕ) → IsRegistered b.files.numbers n Live → IsRegistered a.files.numbers n Live ⊎ (n ≡ file.number)) → (told now : Option Files)
        → PutsText a.journal f file told now → IsHeld a told → IsHeld b now
    held-put lives told now p h all q = by told p.put h
      where
        small : file.number < 2 ^ 64
        small = fits-in b law captured.0 file.number captured.1 captured.2 captured.3.number_is

        by : (o : Option Files) → Leaves file.number (Some p.bytes) o now → IsHeld a o → LiveAreHeld b all
        by None l k = absurd (none_some all (sym l ∙ q))
        by (Some files) l k =
            let is : with_file (file_name file.number) (Some p.bytes) files ≡ all = some (sym l ∙ q) in
            let file_is : (n : ℕ) → n < 2 ^ 64 → file_of n all ≡ cond (n == file.number) (Some p.bytes) (file_of n files) =
            λ n within. sym (ap (file_of n) is) ∙ file_of-with_file n file.number (Some p.bytes) files within small in
            let new : HasItsText b all file.number =
            its-text all (subst (λ o. IsSomeAnd o (IsFileText b.journal f file))
            (sym (file_is file.number small ∙ ap (λ t. cond t (Some p.bytes) (file_of file.number files)) (itself file.number)))
            (text-on a.journal b.journal after.journal f file p.bytes p.text)) in
            held-on files all
            (λ n live. ⊎_elim
            (λ e. inr (subst (HasItsText b all) (sym e) new))
            (λ apart. ⊎_elim
            (λ old. inl (old, file_is n (fits-in b law live.0 n live.1 live.2 live.3.number_is) ∙ ap (λ t. cond t (Some p.bytes) (file_of n files)) (other-number n file.number apart)))
            (λ e. absurd (apart e))
            (lives n live))
            (apart_or n file.number))
            (k files refl)

  -- ---- files were removed, of numbers that are not Live

  pub held-removed : (gone left : List ℕ) → ((n : ℕ) → In n gone ⊎ In n left → (n < 2 ^ 64) × (IsRegistered b.files.numbers n Live → ⊥)) → NoneLives a b
      → (told now : Option Files) → FilesGoIfTold gone left told now → IsHeld a told → IsHeld b now
  held-removed gone left dead none None None go h all q = absurd (none_some all q)
  held-removed gone left dead none None (Some now) go h all q = absurd go
  held-removed gone left dead none (Some files) None go h all q = absurd go
  held-removed gone left dead none (Some files) (Some now) go h all q =
      held-on files all
      (λ n live. inl (
        none n live,
        ap (file_of n) (sym (some q))
            ∙ go.others (file_name n) (λ m there e.
            let d = dead m there in
            d.1 (subst (λ j. IsRegistered b.files.numbers j Live) (sym (one-name m n d.0 (fits-in b law live.0 n live.1 live.2 live.3.number_is) e)) live)),
      ))
      (h files refl)

-- ---- an output

module _ (a m : Books) (f : ℕ) (file : FileMeta) (c : IsFileCaptured a m f file) where
  abbrev pending : RegisteredFile
  pending = record { number = a.files.next; status = Pending; family = Some f }

  numbers-are : m.files.numbers ≡ a.files.numbers ++ pending ∷ []
  numbers-are = ap (λ (z : Books). z.files.numbers) c.is

  -- its number, which is captured, is Pending
  pub none-captured : (s : FileStatus) → (s ≡ Pending → ⊥) → NoneBecome s a m
  none-captured s other n has = ⊎_elim
      (λ old. (has.0, has.1, old, has.3))
      (λ new. absurd (other (sym has.3.status_is ∙ ap (λ (z : RegisteredFile). z.status) new.1)))
      (entry_push a.files.numbers pending has.0 has.1 (ap (λ (l : List RegisteredFile). entry l has.0) (sym numbers-are) ∙ has.2))

  module _ (b : Books) (later : After m b) where
    pub still-captured : Has (IsCapturedFor f file.number) b.files.numbers
    still-captured = captured-goes m.files.numbers b.files.numbers later.numbers f file.number (
      length a.files.numbers + 1,
      pending,
      ap (λ (l : List RegisteredFile). entry l (length a.files.numbers + 1)) numbers-are ∙ entry-new a.files.numbers pending (length a.files.numbers + 1) refl,
      record { number_is = sym c.number_is; family_is = refl },
    )

    pub still-covers : In file b.metas
    still-covers = in-more m.metas b.metas later.metas file
        (subst (λ (l : List FileMeta). In file l) (sym (ap (λ (z : Books). z.metas) c.is)) (in-right file a.metas (file ∷ []) (record { at = 0; is = refl })))

  -- The file was put, and its number became Live in the books `e`, after which none did.
  pub held-installed : (e b : Books) → Lawful a → Lawful b → After a b → After m b → IsSettled f file.number Live m.files e.files → NoneLives e b
      → (told now : Option Files) → PutsText a.journal f file told now → IsHeld a told → IsHeld b now
  held-installed e b before law after later st none =
      held-put a b before law after f file (still-captured b later) (still-covers b later)
      (λ n live. ⊎_elim
      (λ old. inl (none-captured Live (λ q. live_pending q) n old))
      (λ new. inr new.0)
      (marked_is file.number Pending Live m.files.numbers e.files.numbers st.numbers n Live (none n live)))

  -- The number was given up: its file may be absent, or hold any bytes.
  pub held-given : (b : Books) → Lawful a → Lawful b → After a b → IsSettled f file.number Obsolete m.files b.files
      → (told now : Option Files) → LeavesAny file.number told now ⊎ (now ≡ told) → IsHeld a told → IsHeld b now
  held-given b before law after st told now changed = ⊎_elim
      (λ any. held-else a b before law after file.number small dead none told now any)
      (λ same h. subst (IsHeld b) (sym same) (keeps-held a b before law after none told h))
      changed
    where
      at : entry b.files.numbers st.numbers.at ≡ Some (record st.numbers.it { status = Obsolete })
      at = marked-here file.number Pending Obsolete m.files.numbers b.files.numbers st.numbers

      small : file.number < 2 ^ 64
      small = fits-in b law st.numbers.at file.number (record st.numbers.it { status = Obsolete }) at st.numbers.had.number_is

      dead : IsRegistered b.files.numbers file.number Live → ⊥
      dead live =
          let i = one_entry b.files.numbers file.number live.0 st.numbers.at live.1 (record st.numbers.it { status = Obsolete }) (law.numbers.once file.number) live.2 at
          live.3.number_is st.numbers.had.number_is in
          live_obsolete (sym live.3.status_is ∙ ap (λ (z : RegisteredFile). z.status) (some (sym live.2 ∙ ap (entry b.files.numbers) i ∙ at)))

      none : NoneLives a b
      none n live = ⊎_elim
          (λ old. none-captured Live (λ q. live_pending q) n old)
          (λ new. live_obsolete new.1)
          (marked_is file.number Pending Obsolete m.files.numbers b.files.numbers st.numbers n Live live)
