-- A number that was taken for its removal is given back: as Gone, or as it was.
use Rattle.std.proofs.Common.{◌≡◌, ◌≤◌, ◌-◌, ⊎_elim, ℕ, zero, suc, List, [], ◌∷◌, Some, slice_get, set, Result, Ok, Err, refl, sym, ap, subst, ◌∙◌, arith}
use Rattle.std.specs.Prelude.{OnErr, OnOk}
use Rattle.sv_model.specs.declared.records.FileStatus.{FileStatus}
use Rattle.sv_model.specs.declared.records.FileStatus.TheVariants.{Gone, Grabbed, Obsolete}
use Rattle.sv_model.specs.declared.records.RegisteredFile.{RegisteredFile}
use Rattle.sv_model.specs.Books.{FileRegister}
use Rattle.sv_model.specs.Registers.{entry, change}
use Rattle.sv_model.specs.Numbers.{IsMarked, IsRegistered, MarksOnly, registered}
use Rattle.sv_model.proofs.Entries.{some}
use Rattle.sv_model.proofs.Registers.{entry_change, entry-same}
use Rattle.sv_model.proofs.NumberLaws.{one_entry}
use Rattle.sv_dir.specs.declared.dir.DirError.{DirError}
use Rattle.sv_dir.specs.declared.dir.Removal.{Removal}
use Rattle.sv_files.specs.Calls.{IsTaken}
use Rattle.sv_state.specs.Follows.{OnlyFiles}
use Rattle.sv_state.specs.Seen.{StateSeen}

-- ---- a record that is changed twice, and one that is changed to itself
set-twice : {A : Type 0} (l : List A) (n : ℕ) (x y : A) → set (set l n x) n y ≡ set l n y
set-twice [] n x y = refl
set-twice (z ∷ l) zero x y = refl
set-twice (z ∷ l) (suc n) x y = ap (λ m. z ∷ m) (set-twice l n x y)

change-twice : {A : Type 0} (l : List A) (n : ℕ) (x y : A) → change (change l n x) n y ≡ change l n y
change-twice l zero x y = refl
change-twice l (suc n) x y = set-twice l n x y

set-itself : {A : Type 0} (l : List A) (n : ℕ) (x : A) → slice_get l n ≡ Some x → set l n x ≡ l
set-itself [] n x e = refl
set-itself (z ∷ l) zero x e = ap (λ w. w ∷ l) (sym (some e))
set-itself (z ∷ l) (suc n) x e = ap (λ m. z ∷ m) (set-itself l n x e)

change-itself : {A : Type 0} (l : List A) (n : ℕ) (x : A) → entry l n ≡ Some x → change l n x ≡ l
change-itself l zero x e = refl
change-itself l (suc n) x e = set-itself l n x e

-- ---- the number that was taken
pub is-grabbed : (number : ℕ) (old mid : FileRegister) → IsTaken number old mid → IsRegistered mid.numbers number Grabbed
is-grabbed number old mid taken =
    let t = taken.numbers in
    let it = record t.it { status = Grabbed } in
    (t.at, it, ap (λ l. entry l t.at) t.marked ∙ entry-same old.numbers t.at t.it it t.found, record { number_is = t.had.number_is; status_is = refl })

-- ---- the same number is marked twice
module _ (number : ℕ) (now : FileStatus) (old mid new : List RegisteredFile) (once : (n : ℕ) → registered n old ≤ 1)
    (taken : IsMarked number Obsolete Grabbed old mid) (given : IsMarked number Grabbed now mid new) where
  -- the one entry of the number
  same_place : (given.at ≡ taken.at) × (given.it ≡ record taken.it { status = Grabbed })
  same_place = ⊎_elim
      (λ here. here)
      (λ else. absurd (else.0 (one_entry old number given.at taken.at given.it taken.it (once number) else.1 taken.found given.had.number_is taken.had.number_is)))
      (entry_change old taken.at given.at (record taken.it { status = Grabbed }) given.it (subst (λ l. entry l given.at ≡ Some given.it) taken.marked given.found))

  pub marked_twice : new ≡ change old taken.at (record taken.it { status = now })
  marked_twice =
      given.marked
      ∙ ap (λ n. change mid n (record given.it { status = now })) same_place.0
      ∙ ap (λ (x : RegisteredFile). change mid taken.at (record x { status = now })) same_place.1
      ∙ ap (λ l. change l taken.at (record taken.it { status = now })) taken.marked
      ∙ change-twice old taken.at (record taken.it { status = Grabbed }) (record taken.it { status = now })

-- ---- the register
module _ (number : ℕ) (now : FileStatus) (old mid given new : FileRegister) (once : (n : ℕ) → registered n old.numbers ≤ 1)
    (taken : IsTaken number old mid) (back : MarksOnly number Grabbed now mid given) (ended : new ≡ record given { jobs = given.jobs - 1 }) where
  rest : new ≡ record old { numbers = new.numbers }
  rest = λ i. record {
    numbers = new.numbers;
    captured = (ap (λ (r : FileRegister). r.captured) ended ∙ ap (λ (r : FileRegister). r.captured) back.rest ∙ ap (λ (r : FileRegister). r.captured) taken.rest) i;
    holds = (ap (λ (r : FileRegister). r.holds) ended ∙ ap (λ (r : FileRegister). r.holds) back.rest ∙ ap (λ (r : FileRegister). r.holds) taken.rest) i;
    jobs = (ap (λ (r : FileRegister). r.jobs) ended ∙ jobs) i;
    next = (ap (λ (r : FileRegister). r.next) ended ∙ ap (λ (r : FileRegister). r.next) back.rest ∙ ap (λ (r : FileRegister). r.next) taken.rest) i;
  }
    where
      jobs : given.jobs - 1 ≡ old.jobs
      jobs = omega (arith, ap (λ (r : FileRegister). r.jobs) back.rest, ap (λ (r : FileRegister). r.jobs) taken.rest)

  numbers_are : new.numbers ≡ change old.numbers taken.numbers.at (record taken.numbers.it { status = now })
  numbers_are = ap (λ (r : FileRegister). r.numbers) ended ∙ marked_twice number now old.numbers mid.numbers given.numbers once taken.numbers back.numbers

  pub marks-as : MarksOnly number Obsolete now old new
  marks-as = record {
    numbers = record { at = taken.numbers.at; it = taken.numbers.it; found = taken.numbers.found; had = taken.numbers.had; marked = numbers_are };
    rest = rest;
  }

  pub as-before : now ≡ Obsolete → new ≡ old
  as-before is =
      let itself : record taken.numbers.it { status = now } ≡ taken.numbers.it = (λ i. record { number = taken.numbers.it.number; status = (is ∙ sym taken.numbers.had.status_is) i; family = taken.numbers.it.family }) in
      rest ∙ ap (λ (l : List RegisteredFile). record old { numbers = l })
      (numbers_are ∙ ap (change old.numbers taken.numbers.at) itself ∙ change-itself old.numbers taken.numbers.at taken.numbers.it taken.numbers.found)

-- ---- nothing but file numbers changed
pub only-through : (a m b : StateSeen) → OnlyFiles a m → OnlyFiles m b → OnlyFiles a b
only-through a m b p q = q ∙ ap (λ (z : StateSeen). record z { books = record z.books { files = b.books.files } }) p

pub only-same : (a b : StateSeen) → OnlyFiles a b → b.books.files ≡ a.books.files → b ≡ a
only-same a b p q = p ∙ ap (λ (f : FileRegister). record a { books = record a.books { files = f } }) q

-- ---- how a removal ended
pub ready-gone : (r : Result Removal DirError) (number : ℕ) (old mid given new : FileRegister) → ((n : ℕ) → registered n old.numbers ≤ 1) → IsTaken number old mid
    → OnOk r (MarksOnly number Grabbed Gone mid given) → new ≡ record given { jobs = given.jobs - 1 } → OnOk r (MarksOnly number Obsolete Gone old new)
ready-gone (Ok x) number old mid given new once taken back ended = marks-as number Gone old mid given new once taken back ended
ready-gone (Err e) number old mid given new once taken back ended = tt

pub ready-left : (r : Result Removal DirError) (number : ℕ) (old mid given new : FileRegister) → ((n : ℕ) → registered n old.numbers ≤ 1) → IsTaken number old mid
    → OnErr r (MarksOnly number Grabbed Obsolete mid given) → new ≡ record given { jobs = given.jobs - 1 } → OnErr r (new ≡ old)
ready-left (Ok x) number old mid given new once taken back ended = tt
ready-left (Err e) number old mid given new once taken back ended = as-before number Obsolete old mid given new once taken back ended refl

pub same-left : (r : Result Removal DirError) (a b : StateSeen) → OnlyFiles a b → OnErr r (b.books.files ≡ a.books.files) → OnErr r (b ≡ a)
same-left (Ok x) a b only same = tt
same-left (Err e) a b only same = only-same a b only same
