-- A scan, one number after the other.
use Rattle.std.proofs.Common.{◌≡◌, ◌<◌, ◌≤◌, ◌++◌, ◌∷◌, inr, ⊎_elim, ℕ, zero, suc, List, [], drop, length, get_or, map, Option, Some, None, Result, Ok, Err, refl, sym, ap, ◌∙◌, arith, slice_get}
use Rattle.std.proofs.Math.Seq.{drop-cons}
use Rattle.std.specs.Prelude.{OnOk, OnErr}
use Rattle.std.specs.List.{cons_option, filter_map}
use Rattle.sv_model.specs.declared.records.FileStatus.TheVariants.{Gone, Grabbed, Obsolete}
use Rattle.sv_model.specs.declared.refusals.Refusal.{Refusal}
use Rattle.sv_model.specs.Books.{FileRegister}
use Rattle.sv_model.specs.Faults.{HasCauseOf}
use Rattle.sv_model.specs.Files.{Files}
use Rattle.sv_model.specs.Lists.{In}
use Rattle.sv_model.specs.Numbers.{IsRegistered, MarksOnly, registered}
use Rattle.sv_model.proofs.AscendingLists.{Rises}
use Rattle.sv_dir.specs.declared.dir.DirError.{DirError}
use Rattle.sv_dir.specs.declared.dir.DirError.TheVariants as dir_error
use Rattle.sv_dir.specs.declared.dir.Removal.{Removal}
use Rattle.sv_dir.specs.Files.{MayRemove, RemovesFile}
use Rattle.sv_files.specs.Calls.{IsScanned}
use Rattle.sv_state.specs.Follows.{Follows, OnlyFiles}
use Rattle.sv_state.specs.Seen.{StateSeen}
use Rattle.sv_store.specs.Removals.{DirSeen, refused_after}
use Rattle.sv_store.specs.Scanning.{HandsOut, with_strays}
use Rattle.sv_store.proofs.HandedNumbers.{all-handed, handed-back, handed-gone, old-registered, registered-handed, stray-registered, under_way}
use Rattle.sv_store.proofs.RemovalMarks.{only-through}
use Rattle.sv_store.proofs.RemovalSteps.{Passed, dir_seen, none-passed, passed-gone, passed-left}
use Rattle.sv_store.proofs.StandLaws.{follows-through}
use Rattle.sv_store.proofs.TriedNumbers.{part-in}

-- ---- the numbers that are listed
pub filter-mapped : {A B C : Type 0} (h : B → Option C) (f : A → B) (xs : List A) → filter_map h (map f xs) ≡ filter_map (λ x. h (f x)) xs
filter-mapped h f [] = refl
filter-mapped h f (x ∷ xs) = ap (λ l. cons_option (h (f x)) l) (filter-mapped h f xs)

-- ---- the numbers that still wait

-- the rest of a list that goes up does not have the number before it
pub next-once : (xs : List ℕ) → Rises xs → (i n : ℕ) → slice_get xs i ≡ Some n → In n (drop (suc i) xs) → ⊥
next-once [] r i n at there = absurd (cc)
next-once (x ∷ xs) r zero n at there =
    let q : x ≡ n = cc in
    let above = r.0 n there in absurd (omega (arith, q))
next-once (x ∷ xs) r (suc i) n at there = next-once xs r.1 i n at there

pub next-waits : (xs : List ℕ) (i n : ℕ) → i < length xs → n ≡ get_or xs i n → drop i xs ≡ n ∷ drop (suc i) xs
next-waits xs i n within read = drop-cons xs i n within ∙ ap (λ z. z ∷ drop (suc i) xs) (sym read)

pub none-waits : (xs : List ℕ) (i : ℕ) → length xs ≤ i → drop i xs ≡ []
none-waits [] zero past = refl
none-waits [] (suc i) past = refl
none-waits (x ∷ xs) zero past = absurd (omega (arith, past))
none-waits (x ∷ xs) (suc i) past = none-waits xs i (omega (arith, past))

-- ---- the numbers that were tried so far
pub record ScannedUpTo (old now : StateSeen) (d : DirSeen) (listed found tried waiting : List ℕ) (refused : Option Refusal) : Type 0 where
  pub strays : List ℕ
  pub hands : HandsOut old.books.files listed strays found
  pub once : (n : ℕ) → registered n (with_strays old.books.files strays).numbers ≤ 1
  pub gone : List ℕ
  pub left : List ℕ
  pub passed : Passed d tried gone left refused
  pub is : now.books.files ≡ under_way (with_strays old.books.files strays) gone waiting
  pub rest : OnlyFiles old now
  pub follows : Follows old.books now.books

-- all were handed out
pub none-scanned : (old mid : StateSeen) (files : Option Files) (faults : ℕ) (listed found : List ℕ) → IsScanned old.books.files mid.books.files listed found
    → OnlyFiles old mid → Follows old.books mid.books → ScannedUpTo old mid (dir_seen files files faults faults) listed found [] found None
none-scanned old mid files faults listed found h rest follows =
    let r = with_strays old.books.files h.strays in
    let is : mid.books.files ≡ under_way r [] found = all-handed old.books.files mid.books.files found h.strays (λ n there. (h.found_are.exact n).1 (inr there)) h.is in
    record {
      strays = h.strays;
      hands = record { chosen = h.chosen; are = h.found_are };
      once = λ n.
          let q = ap (λ (z : FileRegister). registered n z.numbers) is ∙ registered-handed [] found n r.numbers in
          omega (arith, q, follows.sound.lawful.numbers.once n);
      gone = [];
      left = [];
      passed = none-passed files faults;
      is = is;
      rest = rest;
      follows = follows;
    }

-- a number that was handed out is Obsolete, were it not for that
pub handed-obsolete : (r : FileRegister) (listed strays found : List ℕ) → HandsOut r listed strays found → (n : ℕ) → In n found
    → IsRegistered (with_strays r strays).numbers n Obsolete
handed-obsolete r listed strays found h n there = ⊎_elim
    (λ ready. old-registered r strays n Obsolete ready.obsolete)
    (λ new. stray-registered r strays n new)
    ((h.are.exact n).0 there)

-- how one removal ended
pub record GivesBack (mid new : StateSeen) (between last : Option Files) (faults after n : ℕ) (r : Result Removal DirError) : Type 0 where
  pub gone : OnOk r (MarksOnly n Grabbed Gone mid.books.files new.books.files)
  pub left : OnErr r (MarksOnly n Grabbed Obsolete mid.books.files new.books.files)
  pub removed : OnOk r (RemovesFile n between last)
  pub failed : OnErr r (MayRemove n between last)
  pub cause : HasCauseOf dir_error.Failed faults after r
  pub rest : OnlyFiles mid new
  pub follows : Follows mid.books new.books

module _ (old mid new : StateSeen) (files between last : Option Files) (before faults after : ℕ) (listed found tried waiting : List ℕ) (refused : Option Refusal) (n : ℕ)
    (there : In n found) (fresh : In n tried → ⊥) (later : In n waiting → ⊥)
    (h : ScannedUpTo old mid (dir_seen files between before faults) listed found tried (n ∷ waiting) refused) where
  abbrev base : FileRegister
  base = with_strays old.books.files h.strays

  pub one-scanned : (r : Result Removal DirError) → GivesBack mid new between last faults after n r
      → ScannedUpTo old new (dir_seen files last before after) listed found (tried ++ n ∷ []) waiting (refused_after refused n r)
  one-scanned (Ok x) t = record {
    strays = h.strays;
    hands = h.hands;
    once = h.once;
    gone = h.gone ++ n ∷ [];
    left = h.left;
    passed = passed-gone files between last before faults after tried h.gone h.left refused n fresh h.passed t.removed t.cause.later;
    is = handed-gone base mid.books.files new.books.files h.gone waiting n (h.once n) h.is later t.gone;
    rest = only-through old mid new h.rest t.rest;
    follows = follows-through old.books mid.books new.books h.follows t.follows;
  }
  one-scanned (Err e) t = record {
    strays = h.strays;
    hands = h.hands;
    once = h.once;
    gone = h.gone;
    left = h.left ++ n ∷ [];
    passed = passed-left files between last before faults after tried h.gone h.left refused n fresh h.passed e t.failed t.cause;
    is = handed-back base mid.books.files new.books.files h.gone waiting n (h.once n) h.is later
        (handed-obsolete old.books.files listed h.strays found h.hands n there)
        (λ g. fresh (part-in h.gone tried n h.passed.are.gone_are g)) t.left;
    rest = only-through old mid new h.rest t.rest;
    follows = follows-through old.books mid.books new.books h.follows t.follows;
  }
