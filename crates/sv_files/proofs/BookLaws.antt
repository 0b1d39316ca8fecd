-- What holds of a book's fields, after each call.
use Rattle.std.proofs.Common.{◌≡◌, ◌<◌, ◌≤◌, ℕ, zero, suc, map, replicate, ◌+◌, ◌↔◌, cond, List, Some, None, is_some, slice_get, set, refl, sym, ◌∙◌, subst, arith, length-set}
use Rattle.std.proofs.lemmas.Option.{slice_get_within}
use Rattle.sv_model.specs.declared.records.RegisteredFile.{RegisteredFile}
use Rattle.sv_model.specs.declared.records.FileStatus.{FileStatus}
use Rattle.sv_model.specs.declared.records.FileStatus.TheVariants.{Pending, Obsolete, Grabbed}
use Rattle.sv_model.specs.Books.{FileRegister}
use Rattle.sv_model.specs.Lists.{In}
use Rattle.sv_model.specs.Numbers.{AreInOrder, FilesStand, IsReady, least_captured, IsMarked, IsRegistered, MarksOnly, NumbersStand, captures}
use Rattle.sv_model.proofs.Lists.{total-push}
use Rattle.sv_files.specs.Kept.{IsFileBook}
use Rattle.sv_files.specs.Calls.{IsTaken, Settles, captured_for, grab, opened, without_holds}
use Rattle.sv_files.proofs.GrabLaws.{captures-grab, numbers-grabbed}
use Rattle.sv_files.proofs.Registered.{some_is, status-is}
use Rattle.sv_files.proofs.NumbersLaws.{below-bound, fresh, marked-was, marked-captures, numbers-regraded, numbers-settled, numbers-captured, settled-at, settled_only}

-- what a clause says of the register, said of the book's fields, and the way back
pub here : {r self : FileRegister} {n number : ℕ} (P : ℕ → FileRegister → Type 0) → r ≡ self → n ≡ number → P number self → P n r
here {r} {self} {n} {number} P view_is number_is h = subst (λ (k : ℕ). P k r) (sym number_is) (subst (P number) (sym view_is) h)

pub there : {r self : FileRegister} {n number : ℕ} (P : ℕ → FileRegister → FileRegister → Type 0) (new : FileRegister) → r ≡ self → n ≡ number → P n r new → P number self new
there {r} {self} {n} {number} P new view_is number_is h = subst (λ (k : ℕ). P k self new) number_is (subst (λ (old : FileRegister). P n old new) view_is h)

-- ---- numbers in order
pub in-order-map : (P Q : ℕ → Type 0) (l : List ℕ) → ((n : ℕ) → P n ↔ Q n) → AreInOrder P l → AreInOrder Q l
in-order-map P Q l same h = record { exact = λ n. (λ there. (same n).0 ((h.exact n).0 there), λ q. (h.exact n).1 ((same n).1 q)); rising = h.rising }

-- a number is ready where the fields say so
pub ready-is : (r self : FileRegister) (bound n : ℕ) → r ≡ self → bound ≡ least_captured self.captured → (IsRegistered r.numbers n Obsolete × (n < bound)) ↔ IsReady self n
ready-is r self bound n view_is bound_is = (
  λ (o, low). record { obsolete = subst (λ (f : FileRegister). IsRegistered f.numbers n Obsolete) view_is o; below = omega arith },
  λ ready. (subst (λ (f : FileRegister). IsRegistered f.numbers n Obsolete) (sym view_is) ready.obsolete, (let b = ready.below in omega arith)),
)

-- ---- no number registered
replicate-is : (n i x y : ℕ) → slice_get (replicate n x) i ≡ Some y → y ≡ x
replicate-is zero i x y at = absurd (cc)
replicate-is (suc n) zero x y at = some_is y x (sym at)
replicate-is (suc n) (suc i) x y at = replicate-is n i x y at

pub first-book : (next : ℕ) (numbers : List RegisteredFile) → NumbersStand numbers (replicate 16 None) next → captures numbers ≤ 1048576 → FilesStand (opened next numbers)
first-book next numbers stand few = record {
  numbers = stand;
  few = few;
  families = refl;
  lanes = refl;
  holds = λ lane count at. (let e = replicate-is 32 lane 0 count at in omega arith);
  jobs = omega arith;
}

-- all holds end
pub none-held : (b : FileRegister) (made : ℕ) → IsFileBook b made → IsFileBook (without_holds b) made
none-held b made h = record {
  laws = record {
    numbers = h.laws.numbers;
    few = h.laws.few;
    families = h.laws.families;
    lanes = refl;
    holds = λ lane count at. (let e = replicate-is 32 lane 0 count at in omega arith);
    jobs = h.laws.jobs;
  };
  counted = h.counted;
}

-- ---- only numbers changed

pub book-numbers : (r : FileRegister) (made : ℕ) (numbers : List RegisteredFile) → IsFileBook r made → NumbersStand numbers r.captured r.next → captures numbers ≡ captures r.numbers → IsFileBook (record r { numbers = numbers }) made
book-numbers r made numbers h stand same = record {
  laws = record { numbers = stand; few = omega (arith, h.laws.few, same); families = h.laws.families; lanes = h.laws.lanes; holds = h.laws.holds; jobs = h.laws.jobs };
  counted = omega (arith, h.counted, same);
}

-- one more job
pub book-job : (r : FileRegister) (made : ℕ) → IsFileBook r made → r.jobs < 32 → IsFileBook (record r { jobs = r.jobs + 1 }) made
book-job r made h few = record {
  laws = record { numbers = h.laws.numbers; few = h.laws.few; families = h.laws.families; lanes = h.laws.lanes; holds = h.laws.holds; jobs = omega arith };
  counted = h.counted;
}

-- ---- numbers are grabbed, and strays registered
pub book-grabbed : (r : FileRegister) (made : ℕ) (numbers : List RegisteredFile) (found : List ℕ) → IsFileBook r made → r.jobs < 32 → NumbersStand numbers r.captured r.next → captures numbers ≡ captures r.numbers
    → ((n : ℕ) → In n found → IsRegistered numbers n Obsolete × (n < least_captured r.captured)) → IsFileBook (record r { numbers = map (grab found) numbers; jobs = r.jobs + 1 }) made
book-grabbed r made numbers found h few stand same each =
    let now = numbers-grabbed found numbers r.captured r.next stand
    (λ n there p. obsolete_pending (let o = (each n there).0 in sym (status-is numbers n o.0 o.1 Obsolete (stand.once n) o.2 o.3.number_is o) ∙ status-is numbers n o.0 o.1 Pending (stand.once n) o.2 o.3.number_is p))
    (λ n there. below-bound r.captured n (each n there).1) in
    book-job (record r { numbers = map (grab found) numbers }) made (book-numbers r made (map (grab found) numbers) h now (captures-grab found numbers ∙ same)) few
  where
    obsolete_pending : Obsolete ≡ Pending → ⊥
    obsolete_pending e = cc

-- ---- a status changes
module _ (r : FileRegister) (made n : ℕ) (was had now : FileStatus) (numbers : List RegisteredFile) (h : IsFileBook r made) (m : IsMarked n was now r.numbers numbers) (is : IsRegistered r.numbers n had) where
  abbrev mark : IsMarked n had now r.numbers numbers
  mark = marked-was n was had now r.numbers numbers (h.laws.numbers.once n) m is

  pub marks-only : (final : FileStatus) → now ≡ final → MarksOnly n had final r (record r { numbers = numbers })
  marks-only final is_final =
      subst (λ (s : FileStatus). MarksOnly n had s r (record r { numbers = numbers })) is_final (record { numbers = mark; rest = refl })

  pub taken : now ≡ Grabbed → had ≡ Obsolete → IsTaken n r (record r { numbers = numbers; jobs = r.jobs + 1 })
  taken now_is had_is = record {
    numbers = subst (λ (s : FileStatus). IsMarked n s Grabbed r.numbers numbers) had_is (subst (λ (s : FileStatus). IsMarked n had s r.numbers numbers) now_is mark);
    rest = refl;
  }

  pub book-marked : (had ≡ Pending → ⊥) → (now ≡ Pending → ⊥) → (now ≡ Grabbed → (g k : ℕ) → slice_get r.captured g ≡ Some (Some k) → n < k) → IsFileBook (record r { numbers = numbers }) made
  book-marked had_not not_now low =
      book-numbers r made numbers h (numbers-regraded n had now r.numbers numbers mark r.captured r.next h.laws.numbers had_not not_now low) (marked-captures n had now r.numbers numbers mark)

-- ---- a captured number is settled
module _ (r : FileRegister) (made n f : ℕ) (was now : FileStatus) (numbers : List RegisteredFile) (h : IsFileBook r made) (m : IsMarked n was now r.numbers numbers) (is : IsRegistered r.numbers n Pending) (of : m.it.family ≡ Some f) where
  abbrev settle-mark : IsMarked n Pending now r.numbers numbers
  settle-mark = marked-was n was Pending now r.numbers numbers (h.laws.numbers.once n) m is

  abbrev settled-register : FileRegister
  settled-register = record r { numbers = numbers; captured = set r.captured f None }

  pub settles : (final : FileStatus) → now ≡ final → Settles n final r settled-register
  settles final is_final = subst (λ (s : FileStatus). Settles n s r settled-register) is_final (record {
    family = f;
    only = settled_only f n now r.numbers numbers r.captured r.next settle-mark h.laws.numbers of;
    settled = record { numbers = settle-mark; of = of; was = settled-at f n now r.numbers numbers r.captured r.next settle-mark h.laws.numbers of; rest = refl };
  })

  pub book-settled : (now ≡ Pending → ⊥) → (now ≡ Grabbed → ⊥) → IsFileBook settled-register made
  book-settled not_pending not_grabbed = record {
    laws = record {
      numbers = numbers-settled f n now r.numbers numbers r.captured r.next settle-mark h.laws.numbers of not_pending not_grabbed;
      few = omega (arith, h.laws.few, marked-captures n Pending now r.numbers numbers settle-mark);
      families = length-set r.captured f None ∙ h.laws.families;
      lanes = h.laws.lanes;
      holds = h.laws.holds;
      jobs = h.laws.jobs;
    };
    counted = omega (arith, h.counted, marked-captures n Pending now r.numbers numbers settle-mark);
  }

-- its family is one of the 16
pub family-within : (r : FileRegister) (made n f : ℕ) (was now : FileStatus) (numbers : List RegisteredFile) (h : IsFileBook r made) (m : IsMarked n was now r.numbers numbers) → IsRegistered r.numbers n Pending → m.it.family ≡ Some f → f < 16
family-within r made n f was now numbers h m is of =
    let k = marked-was n was Pending now r.numbers numbers (h.laws.numbers.once n) m is in
    let at = settled-at f n now r.numbers numbers r.captured r.next k h.laws.numbers of in
    omega (arith, slice_get_within r.captured f (Some n) at, h.laws.families)

-- a Pending number has a family
pub has-family : (r : FileRegister) (made n : ℕ) (was now : FileStatus) (numbers : List RegisteredFile) → IsFileBook r made → (m : IsMarked n was now r.numbers numbers) → IsRegistered r.numbers n Pending → m.it.family ≡ None → ⊥
has-family r made n was now numbers h m is none =
    let k = marked-was n was Pending now r.numbers numbers (h.laws.numbers.once n) m is in
    let p = h.laws.numbers.pending k.at k.it k.found k.had.status_is in
    let both : Some p.0 ≡ None = sym p.1 ∙ none in cc

-- ---- a number is captured
pub book-captured : (r : FileRegister) (made f : ℕ) → IsFileBook r made → slice_get r.captured f ≡ Some None → made < 1048576 → r.next < 18446744073709551615 → IsFileBook (captured_for r f) (made + 1)
book-captured r made f h idle room more =
    let e = total-push (λ (x : RegisteredFile). cond (is_some x.family) 1 0) r.numbers (fresh r.next f) in
    record {
      laws = record {
        numbers = numbers-captured r.numbers r.captured r.next f h.laws.numbers idle more;
        few = omega (arith, h.counted);
        families = length-set r.captured f (Some r.next) ∙ h.laws.families;
        lanes = h.laws.lanes;
        holds = h.laws.holds;
        jobs = h.laws.jobs;
      };
      counted = omega (arith, h.counted);
    }
