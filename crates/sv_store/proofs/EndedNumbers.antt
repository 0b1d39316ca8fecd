-- Numbers of a register that are Gone, one after the other.
use Rattle.std.proofs.Common.{◌≡◌, ◌≢◌, ◌<◌, ◌≤◌, ◌==◌, ◌||◌, ℕ, zero, suc, ◌⊎◌, inl, inr, ⊎_elim, Bool, true, false, cond, List, [], ◌∷◌, ◌++◌, map, Option, Some, None, option_map, slice_get, set, refl, sym, ap, ◌∙◌, subst, arith}
use Rattle.std.specs.List.{list_any}
use Rattle.std.proofs.lemmas.Bool.{false≢true}
use Rattle.std.proofs.lemmas.Bool.Decides.{nat_tests}
use Rattle.std.proofs.lemmas.Option.{slice_get-map}
use Rattle.sv_model.specs.declared.records.RegisteredFile.{RegisteredFile}
use Rattle.sv_model.specs.declared.records.FileStatus.{FileStatus}
use Rattle.sv_model.specs.declared.records.FileStatus.TheVariants.{Gone, Grabbed}
use Rattle.sv_model.specs.Books.{FileRegister}
use Rattle.sv_model.specs.Lists.{In, same}
use Rattle.sv_model.specs.Numbers.{IsMarked, IsReady, IsRegistered, MarksOnly, registered}
use Rattle.sv_model.specs.Registers.{entry, change}
use Rattle.sv_model.proofs.Basics.{none_some}
use Rattle.sv_model.proofs.Entries.{some}
use Rattle.sv_model.proofs.Lists.{same_here}
use Rattle.sv_store.specs.Removals.{ended, with_gone}
use Rattle.sv_store.specs.Standing.{IsStill}

-- the file with another status
abbrev pub with_status : RegisteredFile → FileStatus → RegisteredFile
with_status x status = record x { status = status }

-- ---- whether a number is one of a list
abbrev pub is_in : ℕ → List ℕ → Bool
is_in k found = list_any (λ n. n == k) found

test_or : (n k : ℕ) → (((n == k) ≡ true) × (n ≡ k)) ⊎ (((n == k) ≡ false) × (n ≢ k))
test_or n k = grind (arith, nat_tests)

or-true : (b : Bool) → (b || true) ≡ true
or-true true = refl
or-true false = refl

or-false : (b : Bool) → (b || false) ≡ b
or-false true = refl
or-false false = refl

in-at : (k : ℕ) (found : List ℕ) (i : ℕ) → slice_get found i ≡ Some k → is_in k found ≡ true
in-at k [] i at = absurd (cc)
in-at k (n ∷ found) zero at = elim (test_or n k) [
  | inl eq ↦ ap (λ b. b || is_in k found) eq.0
  | inr ne ↦ absurd (ne.1 (some at))
]
in-at k (n ∷ found) (suc i) at = ap (λ b. (n == k) || b) (in-at k found i at) ∙ or-true (n == k)

pub in-is : (k : ℕ) (found : List ℕ) → In k found → is_in k found ≡ true
in-is k found there = in-at k found there.at there.is

pub is-in : (k : ℕ) (found : List ℕ) → is_in k found ≡ true → In k found
is-in k [] e = absurd (false≢true e)
is-in k (n ∷ found) e = elim (test_or n k) [
  | inl eq ↦ record { at = 0; is = ap Some eq.1 }
  | inr ne ↦ let t = is-in k found (ap (λ b. b || is_in k found) (sym ne.0) ∙ e) in record { at = suc t.at; is = t.is }
]

pub not-in : (k : ℕ) (found : List ℕ) → (In k found → ⊥) → is_in k found ≡ false
not-in k found out = by (is_in k found) refl
  where
    by : (b : Bool) → is_in k found ≡ b → is_in k found ≡ false
    by true e = absurd (out (is-in k found e))
    by false e = e

or-assoc : (a b c : Bool) → (a || (b || c)) ≡ ((a || b) || c)
or-assoc true b c = refl
or-assoc false b c = refl

in-push : (k n : ℕ) (found : List ℕ) → is_in k (found ++ n ∷ []) ≡ (is_in k found || (n == k))
in-push k n [] = or-false (n == k)
in-push k n (m ∷ found) = ap (λ b. (m == k) || b) (in-push k n found) ∙ or-assoc (m == k) (is_in k found) (n == k)

-- ---- one of the numbers more is Gone
pub ended-here : (gone : List ℕ) (x : RegisteredFile) (n : ℕ) → x.number ≡ n → ended (gone ++ n ∷ []) x ≡ with_status (ended gone x) Gone
ended-here gone x n q = elim (test_or n x.number) [
  | inl eq ↦ ap (λ (b : Bool). with_status x (cond b Gone x.status)) (in-push x.number n gone ∙ ap (λ b. is_in x.number gone || b) eq.0 ∙ or-true (is_in x.number gone))
  | inr ne ↦ absurd (ne.1 (sym q))
]

pub ended-else : (gone : List ℕ) (x : RegisteredFile) (n : ℕ) → x.number ≢ n → ended gone x ≡ ended (gone ++ n ∷ []) x
ended-else gone x n apart = elim (test_or n x.number) [
  | inl eq ↦ absurd (apart (sym eq.1))
  | inr ne ↦ ap (λ (b : Bool). with_status x (cond b Gone x.status)) (sym (in-push x.number n gone ∙ ap (λ b. is_in x.number gone || b) ne.0 ∙ or-false (is_in x.number gone)))
]

pub ended-out : (gone : List ℕ) (x : RegisteredFile) → (In x.number gone → ⊥) → ended gone x ≡ x
ended-out gone x out = ap (λ (b : Bool). with_status x (cond b Gone x.status)) (not-in x.number gone out)

-- a number is Gone or as it was
pub ended-or : (gone : List ℕ) (x : RegisteredFile) → ((ended gone x).status ≡ Gone) ⊎ (ended gone x ≡ x)
ended-or gone x = by (is_in x.number gone) refl
  where
    by : (b : Bool) → is_in x.number gone ≡ b → ((ended gone x).status ≡ Gone) ⊎ (ended gone x ≡ x)
    by true e = inl (ap (λ (b : Bool). cond b Gone x.status) e)
    by false e = inr (ap (λ (b : Bool). with_status x (cond b Gone x.status)) e)

-- a number is one of these or as it was
pub ended-in : (gone : List ℕ) (x : RegisteredFile) → In x.number gone ⊎ (ended gone x ≡ x)
ended-in gone x = by (is_in x.number gone) refl
  where
    by : (b : Bool) → is_in x.number gone ≡ b → In x.number gone ⊎ (ended gone x ≡ x)
    by true e = inl (is-in x.number gone e)
    by false e = inr (ap (λ (b : Bool). with_status x (cond b Gone x.status)) e)

-- ---- entries of a register that was gone through
pub mapped-entry : (F : RegisteredFile → RegisteredFile) (l : List RegisteredFile) (i : ℕ) (y : RegisteredFile) → entry (map F l) i ≡ Some y
    → (x : RegisteredFile) × (entry l i ≡ Some x) × (y ≡ F x)
mapped-entry F l zero y at = absurd (cc)
mapped-entry F l (suc p) y at = by-case (slice_get l p) refl
  where
    by-case : (o : Option RegisteredFile) → slice_get l p ≡ o → (x : RegisteredFile) × (slice_get l p ≡ Some x) × (y ≡ F x)
    by-case (Some x) e = (x, e, some (sym at ∙ slice_get-map F l p ∙ ap (option_map F) e))
    by-case None e = absurd (none_some y (ap (option_map F) (sym e) ∙ sym (slice_get-map F l p) ∙ at))

pub entry-mapped : (F : RegisteredFile → RegisteredFile) (l : List RegisteredFile) (i : ℕ) (x : RegisteredFile) → entry l i ≡ Some x → entry (map F l) i ≡ Some (F x)
entry-mapped F l zero x at = absurd (cc)
entry-mapped F l (suc p) x at = slice_get-map F l p ∙ ap (option_map F) at

-- ---- a number is marked in a register that was gone through
module _ (F G : RegisteredFile → RegisteredFile) (n : ℕ) (now : FileStatus) (keeps : (x : RegisteredFile) → (F x).number ≡ x.number)
    (else : (x : RegisteredFile) → x.number ≢ n → F x ≡ G x) where
  some-registered : (l : List RegisteredFile) (p : ℕ) (y : RegisteredFile) → slice_get (map F l) p ≡ Some y → y.number ≡ n → 0 < registered n l
  some-registered [] p y at is = absurd (cc)
  some-registered (z ∷ l) zero y at is =
      let q : z.number ≡ n = sym (keeps z) ∙ ap (λ (w : RegisteredFile). w.number) (some at) ∙ is in
      let one = same_here n in omega (arith, ap (same n) q)
  some-registered (z ∷ l) (suc p) y at is = let t = some-registered l p y at is in omega arith

  absent : (l : List RegisteredFile) → registered n l ≡ 0 → map F l ≡ map G l
  absent [] none = refl
  absent (x ∷ l) none =
      let apart : x.number ≢ n = λ e. (let one = same_here n in omega (arith, ap (same n) e)) in
      let h = else x apart in
      let t = absent l (omega arith) in cc

  at-place : (l : List RegisteredFile) (p : ℕ) (y : RegisteredFile) → slice_get (map F l) p ≡ Some y → y.number ≡ n → registered n l ≤ 1
      → ((k : ℕ) (x : RegisteredFile) → slice_get l k ≡ Some x → x.number ≡ n → G x ≡ with_status (F x) now) → set (map F l) p (with_status y now) ≡ map G l
  at-place [] p y at is once here = absurd (cc)
  at-place (z ∷ l) zero y at is once here =
      let e : F z ≡ y = some at in
      let q : z.number ≡ n = sym (keeps z) ∙ ap (λ (w : RegisteredFile). w.number) e ∙ is in
      let one = same_here n in
      let t = absent l (omega (arith, ap (same n) q)) in
      let h : with_status y now ≡ G z = ap (λ (w : RegisteredFile). with_status w now) (sym e) ∙ sym (here 0 z refl q) in cc
  at-place (z ∷ l) (suc p) y at is once here =
      let more = some-registered l p y at is in
      let one = same_here n in
      let apart : z.number ≢ n = λ e. (omega (arith, ap (same n) e)) in
      let h = else z apart in
      let t = at-place l p y at is (omega arith) (λ k x. here (suc k) x) in cc

  pub marked : (was : FileStatus) (l new : List RegisteredFile) → registered n l ≤ 1 → IsMarked n was now (map F l) new
      → ((i : ℕ) (x : RegisteredFile) → entry l i ≡ Some x → x.number ≡ n → G x ≡ with_status (F x) now) → new ≡ map G l
  marked was l new once m here = by-place m.at m.found m.marked
    where
      by-place : (i : ℕ) → entry (map F l) i ≡ Some m.it → new ≡ change (map F l) i (with_status m.it now) → new ≡ map G l
      by-place zero at is = absurd (cc)
      by-place (suc p) at is = is ∙ at-place l p m.it at m.had.number_is once (λ k x. here (suc k) x)

-- ---- registers
pub gone-more : (old mid new : FileRegister) (gone : List ℕ) (n : ℕ) (was : FileStatus) → registered n old.numbers ≤ 1 → mid ≡ with_gone old gone
    → MarksOnly n was Gone mid new → new ≡ with_gone old (gone ++ n ∷ [])
gone-more old mid new gone n was once is m =
    let numbers : new.numbers ≡ map (ended (gone ++ n ∷ [])) old.numbers =
    marked (ended gone) (ended (gone ++ n ∷ [])) n Gone (λ x. refl) (λ x apart. ended-else gone x n apart) was old.numbers new.numbers once
    (subst (λ (r : FileRegister). IsMarked n was Gone r.numbers new.numbers) is m.numbers) (λ i x at q. ended-here gone x n q) in
    m.rest ∙ ap (λ (r : FileRegister). record r { numbers = new.numbers }) is ∙ ap (λ (l : List RegisteredFile). record old { numbers = l }) numbers

pub none-gone : (r : FileRegister) → r ≡ with_gone r []
none-gone r = ap (λ (l : List RegisteredFile). record r { numbers = l }) (same-list r.numbers)
  where
    same-list : (l : List RegisteredFile) → l ≡ map (ended []) l
    same-list [] = refl
    same-list (x ∷ l) = ap (λ k. x ∷ k) (same-list l)

-- a number that is not among those that are Gone is ready as before
pub ready-still : (r : FileRegister) (gone : List ℕ) (n : ℕ) → IsReady r n → (In n gone → ⊥) → IsReady (with_gone r gone) n
ready-still r gone n ready out =
    let o = ready.obsolete in
    let q = ended-out gone o.1 (λ i. out (subst (λ k. In k gone) o.3.number_is i)) in
    record {
      obsolete = (o.0, o.1, entry-mapped (ended gone) r.numbers o.0 o.1 o.2 ∙ ap Some q, o.3);
      below = ready.below;
    }

gone_grabbed : {A : Type 0} → Gone ≡ Grabbed → A
gone_grabbed e = absurd (cc)

-- a number that is one of these is Gone
pub ended-gone : (r : FileRegister) (gone : List ℕ) (n : ℕ) (was : FileStatus) → IsRegistered r.numbers n was → In n gone
    → IsRegistered (with_gone r gone).numbers n Gone
ended-gone r gone n was h there = (
  h.0,
  ended gone h.1,
  entry-mapped (ended gone) r.numbers h.0 h.1 h.2,
  record {
    number_is = h.3.number_is;
    status_is = ap (λ (b : Bool). cond b Gone h.1.status) (in-is h.1.number gone (subst (λ k. In k gone) (sym h.3.number_is) there));
  },
)

-- nothing is under way where nothing was
pub still-gone : (r : FileRegister) (gone : List ℕ) → IsStill r → IsStill (with_gone r gone)
still-gone r gone h = record {
  jobs = h.jobs;
  idle = h.idle;
  given_back = λ n q.
      let x = mapped-entry (ended gone) r.numbers q.0 q.1 q.2 in
      ⊎_elim
      (λ e. gone_grabbed (sym e ∙ ap (λ (z : RegisteredFile). z.status) (sym x.2) ∙ q.3.status_is))
      (λ e. h.given_back n (q.0, x.0, x.1, record { number_is = ap (λ (z : RegisteredFile). z.number) (sym (x.2 ∙ e)) ∙ q.3.number_is; status_is = ap (λ (z : RegisteredFile). z.status) (sym (x.2 ∙ e)) ∙ q.3.status_is }))
      (ended-or gone x.0);
}
