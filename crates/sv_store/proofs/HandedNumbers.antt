-- Numbers of a register that were handed out together, of which one more is Gone or given back.
use Rattle.std.proofs.Common.{◌≡◌, ◌≢◌, ◌≤◌, ◌+◌, ◌-◌, ◌==◌, ◌||◌, ◌++◌, ◌∷◌, ℕ, zero, suc, ◌⊎◌, inl, inr, ⊎_elim, Bool, true, false, cond, List, [], map, Some, refl, sym, ap, ◌∙◌, subst, arith}
use Rattle.std.proofs.lemmas.List.{map-append}
use Rattle.sv_model.specs.declared.records.RegisteredFile.{RegisteredFile}
use Rattle.sv_model.specs.declared.records.FileStatus.{FileStatus}
use Rattle.sv_model.specs.declared.records.FileStatus.TheVariants.{Gone, Grabbed, Obsolete}
use Rattle.sv_model.specs.Books.{FileRegister}
use Rattle.sv_model.specs.Lists.{In, same}
use Rattle.sv_model.specs.Numbers.{HasStatus, IsMarked, IsRegistered, MarksOnly, registered}
use Rattle.sv_model.specs.Registers.{Has, entry}
use Rattle.sv_model.proofs.Entries.{in-cons, in-none, in-right, in-suc, in_append, some}
use Rattle.sv_model.proofs.NumberLaws.{one_entry}
use Rattle.sv_model.proofs.Registers.{entry-old}
use Rattle.sv_files.specs.Calls.{grab, stray}
use Rattle.sv_files.specs.Kept.{obsolete_stray}
use Rattle.sv_store.specs.Removals.{ended, with_gone}
use Rattle.sv_store.specs.Scanning.{with_strays}
use Rattle.sv_store.specs.Standing.{IsStill}
use Rattle.sv_store.proofs.EndedNumbers.{ended-else, ended-here, ended-out, entry-mapped, in-is, is_in, marked, not-in, with_status}

-- the numbers that are Gone, and those that still wait for their removal
abbrev pub handed : List ℕ → List ℕ → RegisteredFile → RegisteredFile
handed gone waiting x = grab waiting (ended gone x)

abbrev pub under_way : FileRegister → List ℕ → List ℕ → FileRegister
under_way r gone waiting = record r { numbers = map (handed gone waiting) r.numbers; jobs = r.jobs + 1 }

-- ---- one record
grab-in : (waiting : List ℕ) (x : RegisteredFile) → In x.number waiting → grab waiting x ≡ with_status x Grabbed
grab-in waiting x there = ap (λ (b : Bool). with_status x (cond b Grabbed x.status)) (in-is x.number waiting there)

grab-out : (waiting : List ℕ) (x : RegisteredFile) → (In x.number waiting → ⊥) → grab waiting x ≡ x
grab-out waiting x out = ap (λ (b : Bool). with_status x (cond b Grabbed x.status)) (not-in x.number waiting out)

grab-else : (waiting : List ℕ) (x : RegisteredFile) (n : ℕ) → x.number ≢ n → grab (n ∷ waiting) x ≡ grab waiting x
grab-else waiting x n apart = ap (λ (b : Bool). with_status x (cond (b || is_in x.number waiting) Grabbed x.status)) (other (n == x.number) refl)
  where
    other : (b : Bool) → (n == x.number) ≡ b → (n == x.number) ≡ false
    other true e = absurd (apart (let q : n ≡ x.number = grind arith in sym q))
    other false e = e

-- a number is registered as often
pub registered-handed : (gone waiting : List ℕ) (n : ℕ) (l : List RegisteredFile) → registered n (map (handed gone waiting) l) ≡ registered n l
registered-handed gone waiting n [] = refl
registered-handed gone waiting n (x ∷ l) = ap (λ m. same n x.number + m) (registered-handed gone waiting n l)

-- ---- the register
module _ (r mid new : FileRegister) (gone waiting : List ℕ) (n : ℕ) (once : registered n r.numbers ≤ 1) (is : mid ≡ under_way r gone (n ∷ waiting))
    (later : In n waiting → ⊥) where
  into : (was now : FileStatus) (G : RegisteredFile → RegisteredFile) → MarksOnly n was now mid new
      → ((x : RegisteredFile) → x.number ≢ n → handed gone (n ∷ waiting) x ≡ G x)
      → ((i : ℕ) (x : RegisteredFile) → entry r.numbers i ≡ Some x → x.number ≡ n → G x ≡ with_status (handed gone (n ∷ waiting) x) now)
      → new ≡ record r { numbers = map G r.numbers; jobs = r.jobs + 1 }
  into was now G m else here =
      let numbers : new.numbers ≡ map G r.numbers =
      marked (handed gone (n ∷ waiting)) G n now (λ x. refl) else was r.numbers new.numbers once
      (subst (λ (z : FileRegister). IsMarked n was now z.numbers new.numbers) is m.numbers) here in
      m.rest ∙ ap (λ (z : FileRegister). record z { numbers = new.numbers }) is
      ∙ ap (λ (l : List RegisteredFile). record r { numbers = l; jobs = r.jobs + 1 }) numbers

  -- it is Gone
  pub handed-gone : MarksOnly n Grabbed Gone mid new → new ≡ under_way r (gone ++ n ∷ []) waiting
  handed-gone m = into Grabbed Gone (handed (gone ++ n ∷ []) waiting) m
      (λ x apart. grab-else waiting (ended gone x) n apart ∙ ap (grab waiting) (ended-else gone x n apart))
      (λ i x at q. grab-out waiting (ended (gone ++ n ∷ []) x) (λ there. later (subst (λ k. In k waiting) q there)) ∙ ended-here gone x n q)

  -- it is Obsolete again, as it was
  pub handed-back : IsRegistered r.numbers n Obsolete → (In n gone → ⊥) → MarksOnly n Grabbed Obsolete mid new → new ≡ under_way r gone waiting
  handed-back had fresh m = into Grabbed Obsolete (handed gone waiting) m
      (λ x apart. grab-else waiting (ended gone x) n apart)
      (λ i x at q.
      let one = one_entry r.numbers n had.0 i had.1 x once had.2 at had.3.number_is q in
      let its : had.1 ≡ x = some (sym had.2 ∙ ap (entry r.numbers) one ∙ at) in
      let was : x.status ≡ Obsolete = ap (λ (z : RegisteredFile). z.status) (sym its) ∙ had.3.status_is in
      ap (grab waiting) (ended-out gone x (λ there. fresh (subst (λ k. In k gone) q there)))
      ∙ grab-out waiting x (λ there. later (subst (λ k. In k waiting) q there))
      ∙ ap (λ s. with_status x s) was)

-- the number that comes next is Grabbed
pub next-grabbed : (r mid : FileRegister) (gone waiting : List ℕ) (n : ℕ) → mid ≡ under_way r gone (n ∷ waiting) → IsRegistered r.numbers n Obsolete
    → IsRegistered mid.numbers n Grabbed
next-grabbed r mid gone waiting n is had =
    let x = had.1 in
    let q = grab-in (n ∷ waiting) (ended gone x) (record { at = 0; is = ap Some (sym had.3.number_is) }) in
    subst (λ (z : FileRegister). IsRegistered z.numbers n Grabbed) (sym is) (
      had.0,
      with_status (ended gone x) Grabbed,
      entry-mapped (handed gone (n ∷ waiting)) r.numbers had.0 x had.2 ∙ ap Some q,
      record { number_is = had.3.number_is; status_is = refl },
    )

-- none waits any more, and the job ends
pub job-ended : (r mid new : FileRegister) (gone : List ℕ) → mid ≡ under_way r gone [] → new ≡ record mid { jobs = mid.jobs - 1 } → new ≡ with_gone r gone
job-ended r mid new gone is ended_is =
    ended_is ∙ ap (λ (z : FileRegister). record z { jobs = z.jobs - 1 }) is
    ∙ ap (λ k. record (with_gone r gone) { jobs = k }) (let q : r.jobs + 1 - 1 ≡ r.jobs = omega arith in q)

-- ---- registers with strays

-- one that is registered is an old one or a stray
pub stray-or : (P : RegisteredFile → Type 0) (l m : List RegisteredFile) → Has P (l ++ m) → Has P l ⊎ ((x : RegisteredFile) × In x m × P x)
stray-or P l m h = by h.0 h.2
  where
    by : (i : ℕ) → entry (l ++ m) i ≡ Some h.1 → Has P l ⊎ ((x : RegisteredFile) × In x m × P x)
    by zero at = absurd (cc)
    by (suc p) at = ⊎_elim
        (λ old. inl (suc old.at, h.1, old.is, h.3))
        (λ new. inr (h.1, new, h.3))
        (in_append h.1 l m (record { at = p; is = at }))

pub in-strays : (strays : List ℕ) (x : RegisteredFile) → In x (map obsolete_stray strays) → (n : ℕ) × In n strays × (x ≡ obsolete_stray n)
in-strays [] x there = absurd (in-none x there)
in-strays (n ∷ strays) x there = ⊎_elim
    (λ here. (n, record { at = 0; is = refl }, here))
    (λ later. (let t = in-strays strays x later in (t.0, in-suc t.0 n strays t.1, t.2)))
    (in-cons x (obsolete_stray n) (map obsolete_stray strays) there)

strays-in : (strays : List ℕ) (n : ℕ) → In n strays → In (obsolete_stray n) (map obsolete_stray strays)
strays-in [] n there = absurd (in-none n there)
strays-in (m ∷ strays) n there = ⊎_elim
    (λ here. record { at = 0; is = ap (λ (k : ℕ). Some (obsolete_stray k)) (sym here) })
    (λ later. in-suc (obsolete_stray n) (obsolete_stray m) (map obsolete_stray strays) (strays-in strays n later))
    (in-cons n m strays there)

pub old-registered : (r : FileRegister) (strays : List ℕ) (n : ℕ) (s : FileStatus) → IsRegistered r.numbers n s → IsRegistered (with_strays r strays).numbers n s
old-registered r strays n s h = (h.0, h.1, entry-old r.numbers (map obsolete_stray strays) h.0 h.1 h.2, h.3)

pub stray-registered : (r : FileRegister) (strays : List ℕ) (n : ℕ) → In n strays → IsRegistered (with_strays r strays).numbers n Obsolete
stray-registered r strays n there =
    let t = in-right (obsolete_stray n) r.numbers (map obsolete_stray strays) (strays-in strays n there) in
    (suc t.at, obsolete_stray n, t.is, record { number_is = refl; status_is = refl })

obsolete_grabbed : {A : Type 0} → Obsolete ≡ Grabbed → A
obsolete_grabbed e = absurd (cc)

-- nothing is under way where nothing was
pub still-strays : (r : FileRegister) (strays : List ℕ) → IsStill r → IsStill (with_strays r strays)
still-strays r strays h = record {
  jobs = h.jobs;
  idle = h.idle;
  given_back = λ n q. ⊎_elim
      (λ old. h.given_back n old)
      (λ new. obsolete_grabbed (ap (λ (z : RegisteredFile). z.status) (sym (in-strays strays new.0 new.1).2) ∙ new.2.status_is))
      (stray-or (HasStatus n Grabbed) r.numbers (map obsolete_stray strays) q);
}

-- ---- what a scan hands out
strays-grabbed : (found strays : List ℕ) → ((n : ℕ) → In n strays → In n found) → map (handed [] found) (map obsolete_stray strays) ≡ map stray strays
strays-grabbed found [] each = refl
strays-grabbed found (n ∷ strays) each =
    let head : handed [] found (obsolete_stray n) ≡ stray n = grab-in found (obsolete_stray n) (each n (record { at = 0; is = refl })) in
    let tail = strays-grabbed found strays (λ k there. each k (in-suc k n strays there)) in
    λ i. head i ∷ tail i

pub all-handed : (r new : FileRegister) (found strays : List ℕ) → ((n : ℕ) → In n strays → In n found)
    → new ≡ record r { numbers = map (grab found) r.numbers ++ map stray strays; jobs = r.jobs + 1 } → new ≡ under_way (with_strays r strays) [] found
all-handed r new found strays each is =
    is ∙ ap (λ (l : List RegisteredFile). record r { numbers = l; jobs = r.jobs + 1 })
    (sym (map-append (handed [] found) r.numbers (map obsolete_stray strays) ∙ ap (λ l. map (grab found) r.numbers ++ l) (strays-grabbed found strays each)))
