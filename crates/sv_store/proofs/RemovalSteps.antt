-- One removal after the other: what is tried, what the directory has, and what is to be answered.
use Rattle.std.proofs.Common.{◌≡◌, ◌<◌, ◌≤◌, ◌+◌, ◌++◌, ◌∷◌, ℕ, zero, suc, List, [], length, take, get_or, Option, Some, None, Result, Err, ⊎_elim, refl, sym, ap, ◌∙◌, subst, arith, slice_get}
use Rattle.std.proofs.lemmas.List.{take_more}
use Rattle.std.proofs.lemmas.Option.{slice_get_read}
use Rattle.sv_model.specs.declared.refusals.Refusal.{Refusal}
use Rattle.sv_model.specs.declared.refusals.Refusal.TheVariants as refusal
use Rattle.std.specs.Prelude.{IfSome}
use Rattle.sv_model.specs.Books.{FileRegister}
use Rattle.sv_model.specs.Faults.{HasCauseOf, Rose, RoseBy}
use Rattle.sv_model.specs.Files.{Files}
use Rattle.sv_model.specs.Lists.{In}
use Rattle.sv_model.proofs.AscendingLists.{Rises}
use Rattle.sv_model.proofs.Entries.{in-cons, in-none}
use Rattle.sv_model.proofs.Registers.{entry-old}
use Rattle.sv_dir.specs.declared.dir.DirError.{DirError}
use Rattle.sv_dir.specs.declared.dir.DirError.TheVariants as dir_error
use Rattle.sv_dir.specs.declared.dir.Removal.{Removal}
use Rattle.sv_dir.specs.Files.{MayRemove, RemovesFile}
use Rattle.sv_store.specs.Removals.{AreTried, DirSeen, FilesGoIfTold, LeftAs, Removes, RemovesSome, refused_after, with_gone}
use Rattle.sv_store.proofs.RemovedFiles.{files-gone, files-left, nothing-goes}
use Rattle.sv_store.proofs.TriedNumbers.{gone-tried, left-tried, none-tried}

abbrev pub dir_seen : Option Files → Option Files → ℕ → ℕ → DirSeen
dir_seen files later before now = record { files = files; later = later; before = before; now = now }

-- a removal that failed so
abbrev pub failed : DirError → Result Removal DirError
failed e = Err e

-- ---- the numbers of a list that goes up, one after the other
pub fresh-next : (xs : List ℕ) → Rises xs → (i n : ℕ) → slice_get xs i ≡ Some n → In n (take i xs) → ⊥
fresh-next [] r i n at there = absurd (cc)
fresh-next (x ∷ xs) r zero n at there = in-none n there
fresh-next (x ∷ xs) r (suc i) n at there = ⊎_elim
    (λ q. (let above = r.0 n (record { at = i; is = at }) in absurd (omega (arith, q))))
    (λ later. fresh-next xs r.1 i n at later)
    (in-cons n x (take i xs) there)

pub next-at : (xs : List ℕ) (i n : ℕ) → i < length xs → n ≡ get_or xs i n → slice_get xs i ≡ Some n
next-at xs i n within read = slice_get_read xs (length xs) i n refl within read

pub next-tried : (xs : List ℕ) (i n : ℕ) → i < length xs → n ≡ get_or xs i n → take i xs ++ n ∷ [] ≡ take (i + 1) xs
next-tried xs i n within read = ap (λ z. take i xs ++ z ∷ []) read ∙ sym (take_more xs i n within)

-- ---- what is to be answered so far
abbrev pub Answers : List ℕ → List ℕ → List ℕ → DirSeen → Option Refusal → Type 0
Answers tried gone left d None = (left ≡ []) × (gone ≡ tried)
Answers tried gone left d (Some e) = LeftAs left d e

pub record Passed (d : DirSeen) (tried gone left : List ℕ) (refused : Option Refusal) : Type 0 where
  pub are : AreTried tried gone left
  pub files : FilesGoIfTold gone left d.files d.later
  pub later : d.before ≤ d.now
  pub answer : Answers tried gone left d refused

pub none-passed : (files : Option Files) (faults : ℕ) → Passed (dir_seen files files faults faults) [] [] [] None
none-passed files faults = record { are = none-tried; files = nothing-goes files; later = omega arith; answer = (refl, refl) }

-- the count never falls
left-later : (left : List ℕ) (files last more : Option Files) (before now after : ℕ) (e : Refusal) → now ≤ after → LeftAs left (dir_seen files last before now) e
    → LeftAs left (dir_seen files more before after) e
left-later left files last more before now after (refusal.DirFault m) le h = (h.0, (let r = h.1 in omega (arith, r, le)))
left-later left files last more before now after refusal.OutOfMemory le h = h
left-later left files last more before now after e le h = h

-- one more is left
length-more : (left : List ℕ) (n : ℕ) → length (left ++ n ∷ []) ≡ length left + 1
length-more [] n = refl
length-more (x ∷ left) n = omega (arith, length-more left n)

rose-more : (k before now after : ℕ) → before ≤ now → RoseBy k before now → Rose now after → RoseBy (k + 1) before after
rose-more k before now after le h r = omega (arith, h, r)

first-still : (left : List ℕ) (n m : ℕ) → slice_get left 0 ≡ Some m → slice_get (left ++ n ∷ []) 0 ≡ Some m
first-still left n m e = entry-old left (n ∷ []) 1 m e

module _ (files mid last : Option Files) (before now after : ℕ) (tried gone left : List ℕ) (refused : Option Refusal) (n : ℕ) (new : In n tried → ⊥)
    (h : Passed (dir_seen files mid before now) tried gone left refused) where
  pub passed-gone : RemovesFile n mid last → now ≤ after → Passed (dir_seen files last before after) (tried ++ n ∷ []) (gone ++ n ∷ []) left refused
  passed-gone r le = record {
    are = gone-tried tried gone left n new h.are;
    files = files-gone gone left n files mid last h.files r;
    later = (let l = h.later in omega (arith, l, le));
    answer = answers refused h.answer;
  }
    where
      answers : (w : Option Refusal) → Answers tried gone left (dir_seen files mid before now) w → Answers (tried ++ n ∷ []) (gone ++ n ∷ []) left (dir_seen files last before after) w
      answers None a = (a.0, ap (λ l. l ++ n ∷ []) a.1)
      answers (Some e) a = left-later left files mid last before now after e le a

  pub passed-left : (e : DirError) → MayRemove n mid last → HasCauseOf dir_error.Failed now after (failed e)
      → Passed (dir_seen files last before after) (tried ++ n ∷ []) gone (left ++ n ∷ []) (refused_after refused n (failed e))
  passed-left e may cause = record {
    are = left-tried tried gone left n new h.are;
    files = files-left gone left n files mid last h.files may;
    later = (let l = h.later in let c = cause.later in omega (arith, l, c));
    answer = answers e refused h.answer cause.failed;
  }
    where
      one-more : 1 ≤ length (left ++ n ∷ [])
      one-more = omega (arith, length-more left n)

      first-fault : left ≡ [] → Rose now after → LeftAs (left ++ n ∷ []) (dir_seen files last before after) (refusal.DirFault n)
      first-fault q r = (
        ap (λ (l : List ℕ). slice_get (l ++ n ∷ []) 0) q,
        subst (λ k. RoseBy k before after) (sym (length-more left n)) (rose-more (length left) before now after h.later none r),
      )
        where
          none : RoseBy (length left) before now
          none = subst (λ (l : List ℕ). RoseBy (length l) before now) (sym q) (let l = h.later in omega (arith, l))

      one-fault-more : (w : Refusal) → LeftAs left (dir_seen files mid before now) w → Rose now after → LeftAs (left ++ n ∷ []) (dir_seen files last before after) w
      one-fault-more (refusal.DirFault m) a r = (
        first-still left n m a.0,
        subst (λ k. RoseBy k before after) (sym (length-more left n)) (rose-more (length left) before now after h.later a.1 r),
      )
      one-fault-more refusal.OutOfMemory a r = one-more
      one-fault-more w a r = absurd a

      answers : (e : DirError) (w : Option Refusal) → Answers tried gone left (dir_seen files mid before now) w → (failed e ≡ Err dir_error.Failed → Rose now after)
          → Answers (tried ++ n ∷ []) gone (left ++ n ∷ []) (dir_seen files last before after) (refused_after w n (failed e))
      answers dir_error.OutOfMemory w a rose = one-more
      answers dir_error.Failed None a rose = first-fault a.0 (rose refl)
      answers dir_error.Failed (Some w) a rose = one-fault-more w a (rose refl)

-- ---- all were tried
module _ (old new : FileRegister) (d : DirSeen) (tried gone left : List ℕ) (is : new ≡ with_gone old gone) where
  pub all-gone : (refused : Option Refusal) → Passed d tried gone left refused → refused ≡ None → Removes old new d tried tried []
  all-gone None h q =
      subst (λ (z : List ℕ × List ℕ). Removes old new d tried z.0 z.1) (λ i. (h.answer.1 i, h.answer.0 i))
      (record { tried = h.are; is = is; files = h.files; later = h.later })
  all-gone (Some e) h q = absurd (cc)

  pub some-stay : (refused : Option Refusal) → Passed d tried gone left refused → IfSome refused (RemovesSome old new d tried)
  some-stay None h = tt
  some-stay (Some e) h = record {
    gone = gone;
    left = left;
    removes = record { tried = h.are; is = is; files = h.files; later = h.later };
    answer = h.answer;
  }
