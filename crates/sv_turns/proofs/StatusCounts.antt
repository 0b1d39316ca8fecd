-- How often a number has a status, as registers change.
use Rattle.std.proofs.Common.{Bool, List, [], ap, arith, cond, eq-eqb, false, map, ne_eqb, refl, sym, true, ℕ, ◌++◌, ◌+◌, ◌==◌, ◌||◌, ◌∙◌, ◌∷◌, ◌≡◌, ◌≤◌}
use Rattle.std.specs.List.{list_any}
use mathlib.Core.Logic.{dite}
use native.Mathlib.Decide.{ℕ_discrete}
use Rattle.sv_model.specs.Lists.{bit, same, times, total}
use Rattle.sv_model.specs.Numbers.{IsMarked, IsRegistered, having, is_grabbed, is_live, is_pending, registered}
use Rattle.sv_model.specs.Summaries.{is_gone, is_obsolete}
use Rattle.sv_model.specs.declared.records.FileStatus.{FileStatus}
use Rattle.sv_model.specs.declared.records.FileStatus.TheVariants.{Gone, Grabbed, Live, Obsolete, Pending}
use Rattle.sv_model.specs.declared.records.RegisteredFile.{RegisteredFile}
use Rattle.sv_model.proofs.Lists.{same_here, same_other, total-push}
use Rattle.sv_model.proofs.Registers.{total-change, total_entry}
use Rattle.sv_files.specs.Calls.{grab, stray}
use Rattle.sv_turns.specs.Owned.{grabbed_mark}

pub cond-zero : (b : Bool) → ◌≡◌ {A = ℕ} (cond b 0 0) 0
cond-zero true = refl
cond-zero false = refl

-- a number that gets another status
pub having-marked : (is : FileStatus → Bool) (k : ℕ) (was now : FileStatus) (old new : List RegisteredFile)
    → IsMarked k was now old new → (n : ℕ)
    → having is n new + cond (k == n) (bit (is was)) 0 ≡ having is n old + cond (k == n) (bit (is now)) 0
having-marked is k was now old new m n =
    let t = total-change (λ (x : RegisteredFile). cond (x.number == n) (bit (is x.status)) 0) old m.at m.it
    (record m.it { status = now }) m.found in
    let e : cond (m.it.number == n) (bit (is m.it.status)) 0 ≡ cond (k == n) (bit (is was)) 0 = λ i.
    cond (m.had.number_is i == n) (bit (is (m.had.status_is i))) 0 in
    let f : cond (m.it.number == n) (bit (is now)) 0 ≡ cond (k == n) (bit (is now)) 0 = λ i.
    cond (m.had.number_is i == n) (bit (is now)) 0 in
    omega (arith, t, e, f, ap (having is n) m.marked)

-- a number that is new
pub having-push : (is : FileStatus → Bool) (old new : List RegisteredFile) (x : RegisteredFile) → new ≡ old ++ x ∷ []
    → (n : ℕ) → having is n new ≡ having is n old + cond (x.number == n) (bit (is x.status)) 0
having-push is old new x e n =
    ap (having is n) e ∙ total-push (λ (y : RegisteredFile). cond (y.number == n) (bit (is y.status)) 0) old x

-- ---- statuses

one_status : (b : Bool) (s : FileStatus) → cond b (bit (is_pending s)) 0 + cond b (bit (is_live s)) 0 + cond b
    (bit (is_obsolete s)) 0 + cond b (bit (is_grabbed s)) 0 + cond b (bit (is_gone s)) 0 ≡ cond b 1 0
one_status false s = refl
one_status true Pending = refl
one_status true Live = refl
one_status true Obsolete = refl
one_status true Grabbed = refl
one_status true Gone = refl

pub statuses : (n : ℕ) (l : List RegisteredFile) → having is_pending n l + having is_live n l + having is_obsolete n
    l + having is_grabbed n l + having is_gone n l ≡ registered n l
statuses n [] = refl
statuses n (x ∷ l) = omega (arith, one_status (x.number == n) x.status, statuses n l)

-- a number that is registered with a status has it
pub having_registered : (is : FileStatus → Bool) (s : FileStatus) → is s ≡ true → (n : ℕ) (l : List RegisteredFile)
    → IsRegistered l n s → 1 ≤ having is n l
having_registered is s e n l h =
    let term : cond (h.1.number == n) (bit (is h.1.status)) 0 ≡ 1 = ap (λ b. cond b (bit (is h.1.status)) 0)
    (eq-eqb h.1.number n h.3.number_is) ∙ ap bit (ap is h.3.status_is ∙ e) in
    omega (arith, total_entry (λ (x : RegisteredFile). cond (x.number == n) (bit (is x.status)) 0) l h.0 h.1 h.2, term)

-- ---- what a finding grabs

found_one : (n : ℕ) (found : List ℕ) → 1 ≤ times n found → list_any (λ m. m == n) found ≡ true
found_one n [] h = absurd (omega arith)
found_one n (x ∷ found) h = dite (ℕ_discrete x n)
    (λ e. ap (λ b. b || list_any (λ m. m == n) found) (eq-eqb x n e))
    (λ ne. ap (λ b. b || list_any (λ m. m == n) found) (ne_eqb x n ne)
    ∙ found_one n found (omega (arith, h, same_other n x (λ e. ne (sym e)))))

found_none : (n : ℕ) (found : List ℕ) → times n found ≡ 0 → list_any (λ m. m == n) found ≡ false
found_none n [] h = refl
found_none n (x ∷ found) h = dite (ℕ_discrete x n)
    (λ e. absurd (omega (arith, h, ap (same n) e, same_here n)))
    (λ ne. ap (λ b. b || list_any (λ m. m == n) found) (ne_eqb x n ne)
    ∙ found_none n found (omega (arith, h)))

-- the term of one record, whose number is n or another
grab_term : (is : FileStatus → Bool) (n : ℕ) (found : List ℕ) (q : Bool) → list_any (λ m. m == n) found ≡ q
    → (x : RegisteredFile) → cond (x.number == n) (bit (is (grab found x).status)) 0
    ≡ cond (x.number == n) (bit (is (cond q Grabbed x.status))) 0
grab_term is n found q e x = dite (ℕ_discrete x.number n)
    (λ h. ap (λ b. cond (x.number == n) (bit (is (cond b Grabbed x.status))) 0)
    (ap (λ k. list_any (λ m. m == k) found) h ∙ e))
    (λ h. ap (λ b. cond b (bit (is (grab found x).status)) 0) (ne_eqb x.number n h)
    ∙ sym (ap (λ b. cond b (bit (is (cond q Grabbed x.status))) 0) (ne_eqb x.number n h)))

-- what was not found stays
pub having-not_found : (is : FileStatus → Bool) (n : ℕ) (found : List ℕ) → times n found ≡ 0
    → (l : List RegisteredFile) → having is n (map (grab found) l) ≡ having is n l
having-not_found is n found z [] = refl
having-not_found is n found z (x ∷ l) = omega (
  arith,
  grab_term is n found false (found_none n found z) x,
  having-not_found is n found z l,
)

-- what was found is Grabbed
pub having-found : (is : FileStatus → Bool) (n : ℕ) (found : List ℕ) → 1 ≤ times n found → (l : List RegisteredFile)
    → having is n (map (grab found) l) ≡ cond (is Grabbed) (registered n l) 0
having-found is n found z [] = sym (cond-zero (is Grabbed))
having-found is n found z (x ∷ l) = omega (
  arith,
  grab_term is n found true (found_one n found z) x,
  having-found is n found z l,
  each (is Grabbed) (x.number == n),
)
  where
    each : (b c : Bool) → cond b (cond c 1 0 + registered n l) 0 ≡ cond c (bit b) 0 + cond b (registered n l) 0
    each true true = refl
    each true false = refl
    each false true = refl
    each false false = refl

-- strays that are registered as Grabbed
pub having-strays : (is : FileStatus → Bool) (n : ℕ) (strays : List ℕ)
    → having is n (map stray strays) ≡ cond (is Grabbed) (times n strays) 0
having-strays is n [] = sym (cond-zero (is Grabbed))
having-strays is n (x ∷ strays) = omega (arith, having-strays is n strays, each (is Grabbed) (x == n))
  where
    each : (b c : Bool) → cond b (cond c 1 0 + times n strays) 0 ≡ cond c (bit b) 0 + cond b (times n strays) 0
    each true true = refl
    each true false = refl
    each false true = refl
    each false false = refl

-- ---- marks, and numbers that a list has

pub marks-found : (n : ℕ) (found : List ℕ) → total (λ k. same n k.number) (map grabbed_mark found) ≡ times n found
marks-found n [] = refl
marks-found n (x ∷ found) = omega (arith, marks-found n found)
