-- A number's status changes.
use Rattle.std.proofs.Common.{◌≡◌, ◌≢◌, ◌<◌, ℕ, suc, ◌⊎◌, inl, inr, ⊎_elim, List, Option, Some, None, refl, sym, ap, ◌∙◌, subst, arith}
use Rattle.std.specs.Prelude.{slice_get, is_some}
use Rattle.sv_model.specs.declared.records.RegisteredFile.{RegisteredFile}
use Rattle.sv_model.specs.declared.records.FileStatus.{FileStatus}
use Rattle.sv_model.specs.declared.records.FileStatus.TheVariants.{Pending, Grabbed, Gone}
use Rattle.sv_model.specs.Lists.{same, bit}
use Rattle.sv_model.specs.Registers.{entry, change, GoesOn}
use Rattle.sv_model.specs.After.{KeepsNumber}
use Rattle.sv_model.specs.Numbers.{NumbersStand, IsRegistered, registered, captures, captured_numbers, IsMarked, IsSettled}
use Rattle.sv_model.specs.Books.{FileRegister}
use Rattle.sv_model.proofs.Registers.{entry-same, entry-else, entry_change, total-change, goes-change}
use Rattle.sv_model.proofs.AfterLaws.{number-itself}
use Rattle.sv_model.proofs.NumberLaws.{one_entry}
use Rattle.sv_model.proofs.Entries.{some}
use Rattle.sv_model.proofs.Metas.{captured_numbers-change}
use Rattle.sv_model.proofs.Basics.{none_some}

module _ (n : ℕ) (was now : FileStatus) (N K : List RegisteredFile) (m : IsMarked n was now N K) where
  abbrev pub y : RegisteredFile
  y = record m.it { status = now }

  turn : (R : List RegisteredFile → Type 0) → R (change N m.at (record m.it { status = now })) → R K
  turn R h = subst R (sym m.marked) h

  -- an entry is an old one or that of the number
  pub marked_entry : (i : ℕ) (x : RegisteredFile) → entry K i ≡ Some x
      → ((i ≡ m.at) × (x ≡ y)) ⊎ ((i ≢ m.at) × (entry N i ≡ Some x))
  marked_entry i x e = entry_change N m.at i y x (subst (λ l. entry l i ≡ Some x) m.marked e)

  pub marked-else : (i : ℕ) (x : RegisteredFile) → i ≢ m.at → entry N i ≡ Some x → entry K i ≡ Some x
  marked-else i x d e = turn (λ l. entry l i ≡ Some x) (entry-else N m.at i y d ∙ e)

  pub marked-here : entry K m.at ≡ Some y
  marked-here = turn (λ l. entry l m.at ≡ Some y) (entry-same N m.at m.it y m.found)

  -- a number of another status keeps it
  pub marked-keeps : (k : ℕ) (s : FileStatus) → (s ≡ was → ⊥) → IsRegistered N k s → IsRegistered K k s
  marked-keeps k s d h =
      (h.0, h.1, marked-else h.0 h.1 (λ q. d (sym h.3.status_is ∙ ap (λ (z : RegisteredFile). z.status) (some (sym h.2 ∙ ap (entry N) q ∙ m.found)) ∙ m.had.status_is)) h.2, h.3)

  pub marked_is : (k : ℕ) (s : FileStatus) → IsRegistered K k s → IsRegistered N k s ⊎ ((k ≡ n) × (s ≡ now))
  marked_is k s h = ⊎_elim
      (λ q. inr (sym h.3.number_is ∙ ap (λ (z : RegisteredFile). z.number) q.1 ∙ m.had.number_is, sym h.3.status_is ∙ ap (λ (z : RegisteredFile). z.status) q.1))
      (λ q. inl (h.0, h.1, q.1, h.3))
      (marked_entry h.0 h.1 h.2)

  pub marked-goes : (was ≡ Gone → now ≡ Gone) → GoesOn KeepsNumber N K
  marked-goes gone = turn (GoesOn KeepsNumber N) (goes-change KeepsNumber N m.at m.it y number-itself m.found (record {
    number = refl;
    family = refl;
    gone = λ e. gone (sym m.had.status_is ∙ e);
  }))

  pub marked-captures : captures K ≡ captures N
  marked-captures =
      omega
      (arith, ap captures m.marked, total-change (λ (z : RegisteredFile). bit (is_some z.family)) N m.at m.it y m.found)

  pub marked-registered : (k : ℕ) → registered k K ≡ registered k N
  marked-registered k =
      omega
      (arith, ap (registered k) m.marked, total-change (λ (z : RegisteredFile). same k z.number) N m.at m.it y m.found)

  pub marked-captured_numbers : captured_numbers K ≡ captured_numbers N
  marked-captured_numbers =
      turn (λ l. captured_numbers l ≡ captured_numbers N) (captured_numbers-change N m.at m.it y m.found refl refl)

  -- The laws of numbers stand. `C` and `D` are the captured numbers before and after.
  pub numbers-marked : (C D : List (Option ℕ)) (next : ℕ) → NumbersStand N C next
      → (now ≡ Pending → ⊥)
      → ((g k : ℕ) → slice_get D g ≡ Some (Some k) → (slice_get C g ≡ Some (Some k)) × (k ≢ n))
      → ((g k : ℕ) → slice_get C g ≡ Some (Some k) → k ≢ n → slice_get D g ≡ Some (Some k))
      → (now ≡ Grabbed → (g k : ℕ) → slice_get C g ≡ Some (Some k) → n < k)
      → NumbersStand K D next
  numbers-marked C D next law not_pending back on low = record {
    once = λ k. omega (arith, law.once k, marked-registered k);
    below = λ i x e. ⊎_elim
        (λ q. omega (arith, law.below m.at m.it m.found, ap (λ (z : RegisteredFile). z.number) q.1))
        (λ q. law.below i x q.1)
        (marked_entry i x e);
    pending = λ i x e p. ⊎_elim
        (λ q. absurd (not_pending (ap (λ (z : RegisteredFile). z.status) (sym q.1) ∙ p)))
        (λ q. let t = law.pending i x q.1 p in (t.0, t.1, on t.0 x.number t.2 (λ o. q.0 (one_entry N n i m.at x m.it (law.once n) q.1 m.found o m.had.number_is))))
        (marked_entry i x e);
    held = λ g k e. let t = back g k e in let w = law.held g k t.0 in
        (w.0, w.1, marked-else w.0 w.1 (λ q. t.1 (sym w.3.number_is ∙ ap (λ (z : RegisteredFile). z.number) (some (sym w.2 ∙ ap (entry N) q ∙ m.found)) ∙ m.had.number_is)) w.2, w.3);
    drawn = λ i x e p. ⊎_elim
        (λ q. omega (arith, law.drawn m.at m.it m.found (ap (λ (z : RegisteredFile). is_some z.family) (sym q.1) ∙ p), ap (λ (z : RegisteredFile). z.number) q.1))
        (λ q. law.drawn i x q.1 p)
        (marked_entry i x e);
    grabbed = λ i x e p g k c. let t = back g k c in ⊎_elim
        (λ q. let l = low (ap (λ (z : RegisteredFile). z.status) (sym q.1) ∙ p) g k t.0 in omega (arith, l, ap (λ (z : RegisteredFile). z.number) q.1, m.had.number_is))
        (λ q. law.grabbed i x q.1 p g k t.0)
        (marked_entry i x e);
    least = law.least;
    most = law.most;
  }

-- A captured number is settled: its family has none any more, and the others stand.
module _ (f n : ℕ) (now : FileStatus) (a b : FileRegister) (h : IsSettled f n now a b) where
  pub settled-captured : b.captured ≡ change a.captured (suc f) None
  settled-captured = ap (λ (r : FileRegister). r.captured) h.rest

  pub settled-others : (g : ℕ) → g ≢ f → slice_get b.captured g ≡ slice_get a.captured g
  settled-others g d =
      ap (λ (l : List (Option ℕ)). slice_get l g) settled-captured
      ∙ entry-else a.captured (suc f) (suc g) None (λ q. d (omega (arith, q)))

  some_some : {A : Type 0} (k l : A) → Some (Some k) ≡ Some (Some l) → k ≡ l
  some_some k l e = some (some e)

  pub settled_other : (g k : ℕ) → slice_get b.captured g ≡ Some (Some k)
      → (g ≢ f) × (slice_get a.captured g ≡ Some (Some k))
  settled_other g k e = ⊎_elim
      (λ q. absurd (none_some k (sym q.1)))
      (λ q. (λ o. q.0 (ap suc o), q.1))
      (entry_change a.captured (suc f) (suc g) None (Some k) (ap (λ (l : List (Option ℕ)). slice_get l g) (sym settled-captured) ∙ e))

  -- the number is captured for no other family
  pub settled_only : NumbersStand a.numbers a.captured a.next → (g k : ℕ) → slice_get a.captured g ≡ Some (Some k)
      → k ≡ n → g ≡ f
  settled_only law g k e q =
      let w = law.held g k e in
      let at_is =
      one_entry a.numbers n w.0 h.numbers.at w.1 h.numbers.it (law.once n) w.2 h.numbers.found (w.3.number_is ∙ q)
      h.numbers.had.number_is in
      some
      (sym w.3.family_is ∙ ap (λ (z : RegisteredFile). z.family) (some (sym w.2 ∙ ap (entry a.numbers) at_is ∙ h.numbers.found)) ∙ h.of)

  pub numbers-settled : NumbersStand a.numbers a.captured a.next → (now ≡ Pending → ⊥) → (now ≡ Grabbed → ⊥)
      → NumbersStand b.numbers b.captured b.next
  numbers-settled law np ng = subst (λ (r : FileRegister). NumbersStand r.numbers r.captured r.next) (sym h.rest)
      (numbers-marked n Pending now a.numbers b.numbers h.numbers a.captured (change a.captured (suc f) None) a.next law np
      (λ g k e. let t = settled_other g k (ap (λ (l : List (Option ℕ)). slice_get l g) settled-captured ∙ e) in (t.1, λ q. t.0 (settled_only law g k t.1 q)))
      (λ g k e d. entry-else a.captured (suc f) (suc g) None (λ q. d (some_some k n (sym e ∙ ap (slice_get a.captured) (let o : g ≡ f = omega (arith, q) in o) ∙ h.was))) ∙ e)
      (λ e. absurd (ng e)))
