-- What a scan answers and leaves, put together.
use Rattle.std.proofs.Common.{◌≡◌, ◌≤◌, ◌-◌, inl, inr, ⊎_elim, ℕ, List, [], Option, Some, None, Result, Ok, Err, sym, ap, ◌∙◌, subst, arith}
use Rattle.std.specs.Prelude.{IfErr, IfOk, IfSome, cond, nat_lt, sum}
use Rattle.sv_model.specs.declared.records.FileStatus.TheVariants.{Gone, Obsolete}
use Rattle.sv_model.specs.declared.refusals.Refusal.{Refusal}
use Rattle.sv_model.specs.declared.refusals.Refusal.TheVariants as refusal
use Rattle.sv_model.specs.Books.{FileRegister}
use Rattle.sv_model.specs.Faults.{RoseBy}
use Rattle.sv_model.specs.Files.{Files}
use Rattle.sv_model.specs.Lists.{In}
use Rattle.sv_model.specs.Numbers.{IsRegistered}
use Rattle.sv_model.specs.Refusals.{IsDue}
use Rattle.sv_model.specs.Registers.{Has}
use Rattle.sv_file_checks.specs.Faults.{faults_told}
use Rattle.sv_files.specs.Calls.{disabled}
use Rattle.sv_state.specs.Seen.{StateSeen}
use Rattle.sv_store.specs.Removals.{DirSeen, LeftAs, Removes, RemovesSome, ended, with_gone}
use Rattle.sv_store.specs.Scanning.{HandsOutNone, IsBegun, IsListing, ListingRefused, ScanStops, Scans, ScansSome, with_strays}
use Rattle.sv_store.specs.Standing.{IsStill}
use Rattle.sv_store.proofs.EndedNumbers.{ended-gone, entry-mapped, still-gone}
use Rattle.sv_store.proofs.HandedNumbers.{job-ended, still-strays}
use Rattle.sv_store.proofs.RemovalSteps.{all-gone, dir_seen, some-stay}
use Rattle.sv_store.proofs.ScanSteps.{ScannedUpTo, handed-obsolete}

-- ---- nothing was handed out

-- no hold stands, so memory was short
pub refused-scan : (r : FileRegister) (d : DirSeen) → HandsOutNone r r d → (e : Refusal) → IsDue (disabled r) e → ScanStops r r d e
refused-scan r d none e h = by e (subst (λ o. IsDue o e) none.free h)
  where
    by : (e : Refusal) → IsDue None e → ScanStops r r d e
    by refusal.OutOfMemory h = inl none
    by e h = absurd (cc)

pub refused-listing : (r : FileRegister) (d : DirSeen) → HandsOutNone r r d → (e : Refusal) → ListingRefused e → RoseBy (faults_told e) d.before d.now
    → ScanStops r r d e
refused-listing r d none (refusal.DirFault n) zero rose = inl (record { none = none; number_is = zero; rose = rose })
refused-listing r d none refusal.OutOfMemory h rose = inl none
refused-listing r d none e h rose = absurd h

-- ---- all were tried
some-stops : (old new : FileRegister) (d : DirSeen) (e : Refusal) → ScansSome old new d e → ScanStops old new d e
some-stops old new d (refusal.DirFault n) h = inr h
some-stops old new d refusal.OutOfMemory h = inr h
some-stops old new d e h = absurd h.removes.answer

module _ (old mid new : StateSeen) (d : DirSeen) (listed found : List ℕ) (refused : Option Refusal) (free : disabled old.books.files ≡ None) (listing : IsListing d.files listed)
    (h : ScannedUpTo old mid d listed found found [] refused) (ended : new.books.files ≡ record mid.books.files { jobs = mid.books.files.jobs - 1 }) where
  abbrev base : FileRegister
  base = with_strays old.books.files h.strays

  is : new.books.files ≡ with_gone base h.gone
  is = job-ended base mid.books.files new.books.files h.gone h.is ended

  begun : IsBegun old.books.files d h.strays found
  begun = record { free = free; listed = listed; listing = listing; hands = h.hands }

  pub all-scanned : refused ≡ None → Scans old.books.files new.books.files d found
  all-scanned q = record {
    strays = h.strays;
    begun = begun;
    removes = all-gone base new.books.files d found h.gone h.left is refused h.passed q;
  }

  pub some-scanned : (e : Refusal) → refused ≡ Some e → ScanStops old.books.files new.books.files d e
  some-scanned e q = some-stops old.books.files new.books.files d e (record {
    strays = h.strays;
    numbers = found;
    begun = begun;
    removes = subst (λ o. IfSome o (RemovesSome base new.books.files d found)) q (some-stay base new.books.files d found h.gone h.left is refused h.passed);
  })

-- ---- the directory was listed before
module _ (old new : FileRegister) (files last : Option Files) (before between now : ℕ) (le : before ≤ between) where
  removes-since : (r : FileRegister) (numbers gone left : List ℕ) → Removes r new (dir_seen files last between now) numbers gone left
      → Removes r new (dir_seen files last before now) numbers gone left
  removes-since r numbers gone left h = record { tried = h.tried; is = h.is; files = h.files; later = (let l = h.later in omega (arith, l, le)) }

  left-since : (left : List ℕ) (e : Refusal) → LeftAs left (dir_seen files last between now) e → LeftAs left (dir_seen files last before now) e
  left-since left (refusal.DirFault n) h = (h.0, (let r = h.1 in omega (arith, r, le)))
  left-since left refusal.OutOfMemory h = h
  left-since left e h = absurd h

  begun-since : (strays numbers : List ℕ) → IsBegun old (dir_seen files last between now) strays numbers → IsBegun old (dir_seen files last before now) strays numbers
  begun-since strays numbers h = record { free = h.free; listed = h.listed; listing = h.listing; hands = h.hands }

  none-since : HandsOutNone old new (dir_seen files last between now) → HandsOutNone old new (dir_seen files last before now)
  none-since h = record { free = h.free; same = h.same; files = h.files; later = (let l = h.later in omega (arith, l, le)) }

  some-since : (e : Refusal) → ScansSome old new (dir_seen files last between now) e → ScansSome old new (dir_seen files last before now) e
  some-since e h = record {
    strays = h.strays;
    numbers = h.numbers;
    begun = begun-since h.strays h.numbers h.begun;
    removes = record {
      gone = h.removes.gone;
      left = h.removes.left;
      removes = removes-since (with_strays old h.strays) h.numbers h.removes.gone h.removes.left h.removes.removes;
      answer = left-since h.removes.left e h.removes.answer;
    };
  }

  scans-since : (numbers : List ℕ) → Scans old new (dir_seen files last between now) numbers → Scans old new (dir_seen files last before now) numbers
  scans-since numbers h = record {
    strays = h.strays;
    begun = begun-since h.strays numbers h.begun;
    removes = removes-since (with_strays old h.strays) numbers numbers [] h.removes;
  }

  stops-since : disabled old ≡ None → (e : Refusal) → ScanStops old new (dir_seen files last between now) e → ScanStops old new (dir_seen files last before now) e
  stops-since free (refusal.Disabled n) h = let q : Some (refusal.Disabled n) ≡ None = sym h.0 ∙ free in absurd (cc)
  stops-since free (refusal.DirFault n) h = ⊎_elim
      (λ f. inl (record { none = none-since f.none; number_is = f.number_is; rose = (let r = f.rose in omega (arith, r, le)) }))
      (λ s. inr (some-since (refusal.DirFault n) s))
      h
  stops-since free refusal.OutOfMemory h = ⊎_elim (λ f. inl (none-since f)) (λ s. inr (some-since refusal.OutOfMemory s)) h
  stops-since free e h = absurd h

  pub scan-since : {T : Type 0} (items : T → List ℕ) (r : Result T Refusal) → IfOk r (λ v. Scans old new (dir_seen files last between now) (items v))
      → IfOk r (λ v. Scans old new (dir_seen files last before now) (items v))
  scan-since items (Ok v) h = scans-since (items v) h
  scan-since items (Err e) h = tt

  pub stop-since : {T : Type 0} → disabled old ≡ None → (r : Result T Refusal) → IfErr r (ScanStops old new (dir_seen files last between now))
      → IfErr r (ScanStops old new (dir_seen files last before now))
  stop-since free (Ok v) h = tt
  stop-since free (Err e) h = stops-since free e h

-- ---- no hold stands
pub free-of : (r : FileRegister) → sum r.holds ≡ 0 → disabled r ≡ None
free-of r none = ap (λ n. cond (nat_lt 0 n) (Some (refusal.Disabled n)) None) none

-- ---- nothing is under way after it
module _ (old new : FileRegister) (d : DirSeen) (still : IsStill old) where
  scanned-still : (strays gone : List ℕ) → new ≡ with_gone (with_strays old strays) gone → IsStill new
  scanned-still strays gone is = subst IsStill (sym is) (still-gone (with_strays old strays) gone (still-strays old strays still))

  same-still : new ≡ old → IsStill new
  same-still is = subst IsStill (sym is) still

  stopped-still : (e : Refusal) → ScanStops old new d e → IsStill new
  stopped-still (refusal.Disabled n) h = same-still h.1.same
  stopped-still (refusal.DirFault n) h = ⊎_elim
      (λ f. same-still f.none.same)
      (λ s. scanned-still s.strays s.removes.gone s.removes.removes.is)
      h
  stopped-still refusal.OutOfMemory h = ⊎_elim
      (λ f. same-still f.same)
      (λ s. scanned-still s.strays s.removes.gone s.removes.removes.is)
      h
  stopped-still e h = absurd h

  pub scan-still : {T : Type 0} (items : T → List ℕ) (r : Result T Refusal) → IfOk r (λ v. Scans old new d (items v)) → IfErr r (ScanStops old new d) → IsStill new
  scan-still items (Ok v) h g = scanned-still h.strays (items v) h.removes.is
  scan-still items (Err e) h g = stopped-still e g

-- ---- what the books say after it

-- each number that was given is Gone
pub scans-gone : (old new : FileRegister) (d : DirSeen) (numbers : List ℕ) → Scans old new d numbers → (n : ℕ) → In n numbers → IsRegistered new.numbers n Gone
scans-gone old new d numbers h n there =
    subst (λ (r : FileRegister). IsRegistered r.numbers n Gone) (sym h.removes.is)
    (ended-gone (with_strays old h.strays) numbers n Obsolete (handed-obsolete old h.begun.listed h.strays numbers h.begun.hands n there) there)

-- a number that was left is registered
pub left-known : (old new : FileRegister) (d : DirSeen) (e : Refusal) (s : ScansSome old new d e) (n : ℕ) → In n s.removes.left → Has (λ f. f.number ≡ n) new.numbers
left-known old new d e s n there =
    let h = s.removes.removes in
    let t = handed-obsolete old s.begun.listed s.strays s.numbers s.begun.hands n ((h.tried.left_are.exact n).0 there).0 in
    subst (λ (r : FileRegister). Has (λ f. f.number ≡ n) r.numbers) (sym h.is)
    (t.0, ended s.removes.gone t.1, entry-mapped (ended s.removes.gone) (with_strays old s.strays).numbers t.0 t.1 t.2, t.3.number_is)
