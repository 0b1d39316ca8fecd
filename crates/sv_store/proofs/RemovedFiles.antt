-- The files of a directory, from which one more is removed.
use Rattle.std.specs.FinMap as finite
use Rattle.std.proofs.Common.{◌≡◌, ◌++◌, ◌∷◌, ◌⊎◌, inl, inr, ⊎_elim, ℕ, Bool, true, false, cond, List, [], Option, Some, None, refl, sym, ap, ◌∙◌, subst}
use Rattle.std.specs.Prelude.{bytes_eq, is_some}
use Rattle.std.specs.Cmp.Lexicographic.{nat_list_cmp_total}
use Rattle.std.proofs.lemmas.Bool.{false≢true}
use Rattle.std.proofs.lemmas.Map.Text.{is_eq-slice_cmp}
use Rattle.std.proofs.lemmas.Slice.Eq.{bytes_eq-Decides}
use Rattle.sv_model.specs.Files.{Files, file_name, file_of, with_file}
use Rattle.sv_model.specs.Lists.{In}
use Rattle.sv_model.proofs.Entries.{in-cons, in-none, in-suc, in_append}
use Rattle.sv_dir.specs.Files.{MayRemove, RemovesFile, same_name}
use Rattle.sv_store.specs.Removals.{FilesGo, FilesGoIfTold}
use Rattle.sv_store.proofs.TriedNumbers.{in-new, in-old}

pub same_name-itself : (name : List ℕ) → same_name name name ≡ true
same_name-itself name = is_eq-slice_cmp name name ∙ (bytes_eq-Decides name name).1 refl

pub same_name-other : (name other : List ℕ) → (name ≡ other → ⊥) → same_name name other ≡ false
same_name-other name other apart = not_true (same_name name other) (λ e. apart ((bytes_eq-Decides name other).0 (sym (is_eq-slice_cmp name other) ∙ e)))
  where
    not_true : (b : Bool) → (b ≡ true → ⊥) → b ≡ false
    not_true true h = absurd (h refl)
    not_true false h = refl

-- what is under a name once a file is written or removed
pub get-changed : (changed : List ℕ) (content : Option (List ℕ)) (files : Files) (name : List ℕ)
    → finite.get (with_file changed content files) name ≡ cond (same_name name changed) content (finite.get files name)
get-changed changed None files name = finite.get-remove nat_list_cmp_total files changed name
get-changed changed (Some bytes) files name = finite.get-insert nat_list_cmp_total files changed bytes name

removed : (n : ℕ) (files : Files) (name : List ℕ) → finite.get (with_file (file_name n) None files) name ≡ cond (same_name name (file_name n)) None (finite.get files name)
removed n files name = get-changed (file_name n) None files name

none_either : (b : Bool) (o : Option (List ℕ)) → o ≡ None → cond b None o ≡ None
none_either true o e = refl
none_either false o e = e

same_or_none : (b : Bool) (o : Option (List ℕ)) → (cond b None o ≡ o) ⊎ (cond b None o ≡ None)
same_or_none true o = inr refl
same_or_none false o = inl refl

-- some number of the list has a file of this name, or none has
name_or : (a b : List ℕ) → (a ≡ b) ⊎ (a ≡ b → ⊥)
name_or a b = by (bytes_eq a b) refl
  where
    by : (t : Bool) → bytes_eq a b ≡ t → (a ≡ b) ⊎ (a ≡ b → ⊥)
    by true e = inl ((bytes_eq-Decides a b).0 e)
    by false e = inr (λ q. false≢true (sym e ∙ (bytes_eq-Decides a b).1 q))

named_or : (l : List ℕ) (name : List ℕ) → ((k : ℕ) × In k l × (file_name k ≡ name)) ⊎ ((k : ℕ) → In k l → file_name k ≡ name → ⊥)
named_or [] name = inr (λ k i q. in-none k i)
named_or (x ∷ l) name = ⊎_elim
    (λ q. inl (x, record { at = 0; is = refl }, q))
    (λ no. ⊎_elim
    (λ k. inl (k.0, in-suc k.0 x l k.1, k.2))
    (λ none. inr (λ k i q. ⊎_elim (λ e. no (subst (λ m. file_name m ≡ name) e q)) (λ later. none k later q) (in-cons k x l i)))
    (named_or l name))
    (name_or (file_name x) name)

-- a file is as it was, or not there
pub went-or : (gone left : List ℕ) (before mid : Files) (n : ℕ) → FilesGo gone left before mid
    → (file_of n mid ≡ file_of n before) ⊎ (file_of n mid ≡ None)
went-or gone left before mid n h = ⊎_elim
    (λ g. inr (ap (finite.get mid) (sym g.2) ∙ h.absent g.0 g.1))
    (λ none. ⊎_elim
    (λ l. ⊎_elim (λ e. inl (ap (finite.get mid) (sym l.2) ∙ e ∙ ap (finite.get before) l.2)) (λ e. inr (ap (finite.get mid) (sym l.2) ∙ e)) (h.same_or_absent l.0 l.1))
    (λ no. inl (h.others (file_name n) (λ m there. ⊎_elim (λ g. none m g) (λ l. no m l) there)))
    (named_or left (file_name n)))
    (named_or gone (file_name n))

module _ (gone left : List ℕ) (before mid : Files) (n : ℕ) (h : FilesGo gone left before mid) where
  still-none : (m : ℕ) → file_of m mid ≡ None → file_of m (with_file (file_name n) None mid) ≡ None
  still-none m e = removed n mid (file_name m) ∙ none_either (same_name (file_name m) (file_name n)) (file_of m mid) e

  same-or-none : (m : ℕ) → (file_of m mid ≡ file_of m before) ⊎ (file_of m mid ≡ None)
      → (file_of m (with_file (file_name n) None mid) ≡ file_of m before) ⊎ (file_of m (with_file (file_name n) None mid) ≡ None)
  same-or-none m was = ⊎_elim
      (λ e. ⊎_elim (λ s. inl (removed n mid (file_name m) ∙ s ∙ e)) (λ s. inr (removed n mid (file_name m) ∙ s)) (same_or_none (same_name (file_name m) (file_name n)) (file_of m mid)))
      (λ e. inr (still-none m e))
      was

  other : (name : List ℕ) → (file_name n ≡ name → ⊥) → finite.get (with_file (file_name n) None mid) name ≡ finite.get mid name
  other name apart = removed n mid name ∙ ap (λ b. cond b None (finite.get mid name)) (same_name-other name (file_name n) (λ e. apart (sym e)))

  goes : file_of n (with_file (file_name n) None mid) ≡ None
  goes = removed n mid (file_name n) ∙ ap (λ b. cond b None (file_of n mid)) (same_name-itself (file_name n))

  pub file-gone : FilesGo (gone ++ n ∷ []) left before (with_file (file_name n) None mid)
  file-gone = record {
    absent = λ m there. ⊎_elim
        (λ old. still-none m (h.absent m old))
        (λ new. ⊎_elim (λ q. subst (λ k. file_of k (with_file (file_name n) None mid) ≡ None) (sym q) goes) (λ i. absurd (in-none m i)) (in-cons m n [] new))
        (in_append m gone (n ∷ []) there);
    same_or_absent = λ m there. same-or-none m (h.same_or_absent m there);
    others = λ name out. other name (λ q. out n (inl (in-new n gone)) q)
        ∙ h.others name (λ m there. out m (⊎_elim (λ g. inl (in-old m n gone g)) (λ l. inr l) there));
  }

  pub file-removed : FilesGo gone (left ++ n ∷ []) before (with_file (file_name n) None mid)
  file-removed = record {
    absent = λ m there. still-none m (h.absent m there);
    same_or_absent = λ m there. ⊎_elim
        (λ old. same-or-none m (h.same_or_absent m old))
        (λ new. ⊎_elim (λ q. inr (subst (λ k. file_of k (with_file (file_name n) None mid) ≡ None) (sym q) goes)) (λ i. absurd (in-none m i)) (in-cons m n [] new))
        (in_append m left (n ∷ []) there);
    others = λ name out. other name (λ q. out n (inr (in-new n left)) q)
        ∙ h.others name (λ m there. out m (⊎_elim (λ g. inl g) (λ l. inr (in-old m n left l)) there));
  }

  -- the file stays
  pub file-left : FilesGo gone (left ++ n ∷ []) before mid
  file-left = record {
    absent = h.absent;
    same_or_absent = λ m there. ⊎_elim
        (λ old. h.same_or_absent m old)
        (λ new. ⊎_elim (λ q. subst (λ k. (file_of k mid ≡ file_of k before) ⊎ (file_of k mid ≡ None)) (sym q) (went-or gone left before mid n h)) (λ i. absurd (in-none m i)) (in-cons m n [] new))
        (in_append m left (n ∷ []) there);
    others = λ name o. h.others name (λ m there. o m (⊎_elim (λ g. inl g) (λ l. inr (in-old m n left l)) there));
  }

-- ---- where the directory tells its files
pub nothing-goes : (files : Option Files) → FilesGoIfTold [] [] files files
nothing-goes None = tt
nothing-goes (Some files) = record { absent = λ n i. absurd (in-none n i); same_or_absent = λ n i. absurd (in-none n i); others = λ name out. refl }

-- It tells them after just where it told them before.
pub go-told : (gone left : List ℕ) (before after : Option Files) → FilesGoIfTold gone left before after → is_some after ≡ is_some before
go-told gone left None None h = refl
go-told gone left (Some before) (Some after) h = refl
go-told gone left None (Some after) h = absurd h
go-told gone left (Some before) None h = absurd h

pub files-gone : (gone left : List ℕ) (n : ℕ) (before mid after : Option Files) → FilesGoIfTold gone left before mid → RemovesFile n mid after
    → FilesGoIfTold (gone ++ n ∷ []) left before after
files-gone gone left n None None after h r = subst (λ o. FilesGoIfTold (gone ++ n ∷ []) left None o) (sym r) tt
files-gone gone left n (Some before) None after h r = absurd h
files-gone gone left n None (Some mid) after h r = absurd h
files-gone gone left n (Some before) (Some mid) after h r =
    subst (λ o. FilesGoIfTold (gone ++ n ∷ []) left (Some before) o) (sym r) (file-gone gone left before mid n h)

pub files-left : (gone left : List ℕ) (n : ℕ) (before mid after : Option Files) → FilesGoIfTold gone left before mid → MayRemove n mid after
    → FilesGoIfTold gone (left ++ n ∷ []) before after
files-left gone left n before mid after h may = ⊎_elim
    (λ same. subst (λ o. FilesGoIfTold gone (left ++ n ∷ []) before o) (sym same) (stays before mid h))
    (λ r. goes before mid h r)
    may
  where
    stays : (one two : Option Files) → FilesGoIfTold gone left one two → FilesGoIfTold gone (left ++ n ∷ []) one two
    stays None None k = tt
    stays (Some one) None k = absurd k
    stays None (Some two) k = absurd k
    stays (Some one) (Some two) k = file-left gone left one two n k

    goes : (one two : Option Files) → FilesGoIfTold gone left one two → RemovesFile n two after → FilesGoIfTold gone (left ++ n ∷ []) one after
    goes None None k r = subst (λ o. FilesGoIfTold gone (left ++ n ∷ []) None o) (sym r) tt
    goes (Some one) None k r = absurd k
    goes None (Some two) k r = absurd k
    goes (Some one) (Some two) k r =
        subst (λ o. FilesGoIfTold gone (left ++ n ∷ []) (Some one) o) (sym r) (file-removed gone left one two n k)
