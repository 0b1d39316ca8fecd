-- A purge, one number after the other.
use Rattle.std.proofs.Common.{◌≡◌, ◌≤◌, ◌++◌, ◌∷◌, ℕ, List, [], Option, None, Result, Ok, Err, refl, ap, ◌∙◌}
use Rattle.std.specs.Prelude.{IfSome, OnOk, OnErr}
use Rattle.sv_model.specs.declared.records.FileStatus.TheVariants.{Gone, Obsolete}
use Rattle.sv_model.specs.declared.refusals.Refusal.{Refusal}
use Rattle.sv_model.specs.Faults.{HasCauseOf}
use Rattle.sv_model.specs.Files.{Files}
use Rattle.sv_model.specs.Lists.{In}
use Rattle.sv_model.specs.Numbers.{MarksOnly, registered}
use Rattle.sv_model.specs.Steady.{Sound}
use Rattle.sv_model.proofs.AfterLaws.{after-itself}
use Rattle.sv_dir.specs.declared.dir.DirError.{DirError}
use Rattle.sv_dir.specs.declared.dir.DirError.TheVariants as dir_error
use Rattle.sv_dir.specs.declared.dir.Removal.{Removal}
use Rattle.sv_dir.specs.Files.{MayRemove, RemovesFile}
use Rattle.sv_state.specs.Follows.{Follows, OnlyFiles}
use Rattle.sv_state.specs.Seen.{StateSeen}
use Rattle.sv_store.specs.Removals.{DirSeen, Removes, RemovesSome, refused_after, with_gone}
use Rattle.sv_store.proofs.EndedNumbers.{gone-more, none-gone}
use Rattle.sv_store.proofs.RemovalMarks.{only-through}
use Rattle.sv_store.proofs.RemovalSteps.{Passed, all-gone, dir_seen, none-passed, passed-gone, passed-left, some-stay}
use Rattle.sv_store.proofs.StandLaws.{follows-through}

-- the numbers that were tried so far
pub record PurgedUpTo (old now : StateSeen) (d : DirSeen) (tried : List ℕ) (refused : Option Refusal) : Type 0 where
  pub gone : List ℕ
  pub left : List ℕ
  pub passed : Passed d tried gone left refused
  pub is : now.books.files ≡ with_gone old.books.files gone
  pub rest : OnlyFiles old now
  pub follows : Follows old.books now.books

pub none-purged : (s : StateSeen) (files : Option Files) (faults : ℕ) → Sound s.books → PurgedUpTo s s (dir_seen files files faults faults) [] None
none-purged s files faults sound = record {
  gone = [];
  left = [];
  passed = none-passed files faults;
  is = none-gone s.books.files;
  rest = refl;
  follows = record { sound = sound; after = after-itself s.books };
}

-- how one removal ended
pub record Ends (mid new : StateSeen) (between last : Option Files) (faults after n : ℕ) (r : Result Removal DirError) : Type 0 where
  pub gone : OnOk r (MarksOnly n Obsolete Gone mid.books.files new.books.files)
  pub left : OnErr r (new ≡ mid)
  pub removed : OnOk r (RemovesFile n between last)
  pub failed : OnErr r (MayRemove n between last)
  pub cause : HasCauseOf dir_error.Failed faults after r
  pub rest : OnlyFiles mid new
  pub follows : Follows mid.books new.books

module _ (old mid new : StateSeen) (files between last : Option Files) (before faults after : ℕ) (tried : List ℕ) (refused : Option Refusal) (n : ℕ)
    (fresh : In n tried → ⊥) (once : (k : ℕ) → registered k old.books.files.numbers ≤ 1) (h : PurgedUpTo old mid (dir_seen files between before faults) tried refused) where
  pub one-purged : (r : Result Removal DirError) → Ends mid new between last faults after n r
      → PurgedUpTo old new (dir_seen files last before after) (tried ++ n ∷ []) (refused_after refused n r)
  one-purged (Ok x) t = record {
    gone = h.gone ++ n ∷ [];
    left = h.left;
    passed = passed-gone files between last before faults after tried h.gone h.left refused n fresh h.passed t.removed t.cause.later;
    is = gone-more old.books.files mid.books.files new.books.files h.gone n Obsolete (once n) h.is t.gone;
    rest = only-through old mid new h.rest t.rest;
    follows = follows-through old.books mid.books new.books h.follows t.follows;
  }
  one-purged (Err e) t = record {
    gone = h.gone;
    left = h.left ++ n ∷ [];
    passed = passed-left files between last before faults after tried h.gone h.left refused n fresh h.passed e t.failed t.cause;
    is = ap (λ (z : StateSeen). z.books.files) t.left ∙ h.is;
    rest = only-through old mid new h.rest t.rest;
    follows = follows-through old.books mid.books new.books h.follows t.follows;
  }

-- ---- all were tried
module _ (old now : StateSeen) (d : DirSeen) (tried : List ℕ) (refused : Option Refusal) (h : PurgedUpTo old now d tried refused) where
  pub all-removed : refused ≡ None → Removes old.books.files now.books.files d tried tried []
  all-removed q = all-gone old.books.files now.books.files d tried h.gone h.left h.is refused h.passed q

  pub some-left : IfSome refused (RemovesSome old.books.files now.books.files d tried)
  some-left = some-stay old.books.files now.books.files d tried h.gone h.left h.is refused h.passed
