-- What a finding and a scan make of the numbers: what was found is Grabbed, and nothing else changed.
use Rattle.std.proofs.Common.{Bool, List, ap, arith, cond, false, inr, map, refl, suc, zero, ℕ, ⊎_elim, ◌+◌, ◌==◌, ◌∙◌, ◌≡◌, ◌≤◌}
use Rattle.sv_model.specs.Books.{FileRegister}
use Rattle.sv_model.specs.Lists.{bit, times}
use Rattle.sv_model.specs.Numbers.{IsReady, NumbersStand, having, is_grabbed, is_live, is_pending, registered}
use Rattle.sv_model.specs.Summaries.{is_gone, is_obsolete}
use Rattle.sv_model.specs.declared.records.FileStatus.{FileStatus}
use Rattle.sv_model.specs.declared.records.FileStatus.TheVariants.{Grabbed, Obsolete}
use Rattle.sv_model.specs.declared.records.RegisteredFile.{RegisteredFile}
use Rattle.sv_model.proofs.AscendingLists.{rises_from}
use Rattle.sv_model.proofs.Lists.{in_times, times_in, total-append}
use Rattle.sv_files.specs.Calls.{IsFound, IsScanned, grab, stray}
use Rattle.sv_turns.proofs.StatusCounts.{having-found, having-not_found, having-strays, having_registered, statuses}
use Rattle.sv_turns.proofs.Orders.{distinct-times, rises-times}

-- a number is in the list once or not at all
by_times : {A : Type 0} (n : ℕ) → n ≤ 1 → (n ≡ 0 → A) → (n ≡ 1 → A) → A
by_times zero h f g = f refl
by_times (suc zero) h f g = g refl
by_times (suc (suc n)) h f g = absurd (omega arith)

-- a status that is neither Obsolete nor Grabbed
pub data IsOther (is : FileStatus → Bool) : Type 0 where
  as_pending : is ≡ is_pending → IsOther is
  as_live : is ≡ is_live → IsOther is
  as_gone : is ≡ is_gone → IsOther is

module _ (a : FileRegister) (s : NumbersStand a.numbers a.captured a.next) where
  -- a number that is ready is Obsolete and nothing else
  ready-one : (n : ℕ) → IsReady a n → (registered n a.numbers ≡ 1) × (having is_obsolete n a.numbers ≡ 1)
  ready-one n r =
      let h = having_registered is_obsolete Obsolete refl n a.numbers r.obsolete in
      (omega (arith, h, statuses n a.numbers, s.once n), omega (arith, h, statuses n a.numbers, s.once n))

  -- what has one status and is registered once has no other
  none-other : (is : FileStatus → Bool) → IsOther is → (n : ℕ)
      → registered n a.numbers ≤ having is_obsolete n a.numbers → having is n a.numbers ≡ 0
  none-other is (as_pending e) n h = ap (λ (z : FileStatus → Bool). having z n a.numbers) e
      ∙ omega (arith, h, statuses n a.numbers)
  none-other is (as_live e) n h = ap (λ (z : FileStatus → Bool). having z n a.numbers) e
      ∙ omega (arith, h, statuses n a.numbers)
  none-other is (as_gone e) n h = ap (λ (z : FileStatus → Bool). having z n a.numbers) e
      ∙ omega (arith, h, statuses n a.numbers)

  other-grabbed : (is : FileStatus → Bool) → IsOther is → is Grabbed ≡ false
  other-grabbed is (as_pending e) = ap (λ (z : FileStatus → Bool). z Grabbed) e
  other-grabbed is (as_live e) = ap (λ (z : FileStatus → Bool). z Grabbed) e
  other-grabbed is (as_gone e) = ap (λ (z : FileStatus → Bool). z Grabbed) e

  module _ (b : FileRegister) (found : List ℕ) (h : IsFound a b found) where
    numbers_are : b.numbers ≡ map (grab found) a.numbers
    numbers_are = ap (λ (z : FileRegister). z.numbers) h.is

    once : (n : ℕ) → times n found ≤ 1
    once n = rises-times found (rises_from found h.ready.rising) n

    was : (n : ℕ) → times n found ≡ 1 → (registered n a.numbers ≡ 1) × (having is_obsolete n a.numbers ≡ 1)
    was n z = ready-one n ((h.ready.exact n).0 (in_times n found (omega (arith, z))))

    pub found-grabbed : (n : ℕ) → having is_grabbed n b.numbers ≡ having is_grabbed n a.numbers + times n found
    found-grabbed n = ap (having is_grabbed n) numbers_are ∙ by_times (times n found) (once n)
        (λ z. omega (arith, z, having-not_found is_grabbed n found z a.numbers))
        (λ z. omega (
          arith,
          z,
          (was n z).0,
          (was n z).1,
          statuses n a.numbers,
          having-found is_grabbed n found (omega (arith, z)) a.numbers,
        ))

    pub found-same : (is : FileStatus → Bool) → IsOther is → (n : ℕ) → having is n b.numbers ≡ having is n a.numbers
    found-same is o n = ap (having is n) numbers_are ∙ by_times (times n found) (once n)
        (λ z. having-not_found is n found z a.numbers)
        (λ z. omega (
          arith,
          having-found is n found (omega (arith, z)) a.numbers,
          ap (λ d. cond d (registered n a.numbers) 0) (other-grabbed is o),
          none-other is o n (omega (arith, (was n z).0, (was n z).1)),
        ))

  module _ (b : FileRegister) (listed found : List ℕ) (h : IsScanned a b listed found) where
    scan_once : (n : ℕ) → times n found ≤ 1
    scan_once n = rises-times found (rises_from found h.found_are.rising) n

    strays_once : (n : ℕ) → times n h.strays ≤ 1
    strays_once n = distinct-times h.strays h.chosen.once n

    parts : (is : FileStatus → Bool) (n : ℕ) → having is n b.numbers ≡ having is n (map (grab found) a.numbers)
        + cond (is Grabbed) (times n h.strays) 0
    parts is n = ap (λ (z : FileRegister). having is n z.numbers) h.is
        ∙ total-append (λ (x : RegisteredFile). cond (x.number == n) (bit (is x.status)) 0) (map (grab found) a.numbers)
        (map stray h.strays) ∙ ap (λ k. having is n (map (grab found) a.numbers) + k) (having-strays is n h.strays)

    -- a stray was not registered, and was found
    strays_new : (n : ℕ) → times n h.strays ≡ 1 → (registered n a.numbers ≡ 0) × (times n found ≡ 1)
    strays_new n z =
        let i = in_times n h.strays (omega (arith, z)) in (
          (((h.chosen.exact n).0 i).1).new,
          omega (arith, scan_once n, times_in n found ((h.found_are.exact n).1 (inr i))),
        )

    -- what was found is Obsolete, or a stray
    scan_was : (n : ℕ) → times n found ≡ 1 → times n h.strays ≡ 0
        → (registered n a.numbers ≡ 1) × (having is_obsolete n a.numbers ≡ 1)
    scan_was n z none = ⊎_elim (λ r. ready-one n r)
        (λ i. absurd (omega (arith, times_in n h.strays i, none)))
        ((h.found_are.exact n).0 (in_times n found (omega (arith, z))))

    pub scanned-grabbed : (n : ℕ) → having is_grabbed n b.numbers ≡ having is_grabbed n a.numbers + times n found
    scanned-grabbed n = parts is_grabbed n ∙ by_times (times n h.strays) (strays_once n)
        (λ none. by_times (times n found) (scan_once n)
        (λ z. omega (arith, none, z, having-not_found is_grabbed n found z a.numbers))
        (λ z. omega (
          arith,
          none,
          z,
          (scan_was n z none).0,
          (scan_was n z none).1,
          statuses n a.numbers,
          having-found is_grabbed n found (omega (arith, z)) a.numbers,
        )))
        (λ one. omega (
          arith,
          one,
          (strays_new n one).0,
          (strays_new n one).1,
          statuses n a.numbers,
          having-found is_grabbed n found (omega (arith, (strays_new n one).1)) a.numbers,
        ))

    pub scanned-same : (is : FileStatus → Bool) → IsOther is → (n : ℕ)
        → having is n b.numbers ≡ having is n a.numbers
    scanned-same is o n = parts is n ∙ ap (λ d. having is n (map (grab found) a.numbers) + cond d (times n h.strays) 0)
        (other-grabbed is o) ∙ by_times (times n found) (scan_once n)
        (λ z. omega (arith, having-not_found is n found z a.numbers))
        (λ z. omega (
          arith,
          having-found is n found (omega (arith, z)) a.numbers,
          ap (λ d. cond d (registered n a.numbers) 0) (other-grabbed is o),
          none-other is o n (by_times (times n h.strays) (strays_once n)
              (λ none. omega (arith, (scan_was n z none).0, (scan_was n z none).1))
              (λ one. omega (arith, (strays_new n one).0))),
        ))

    -- what was Obsolete and is not Grabbed is no more than before; what was registered is
    pub scanned-obsolete : (n : ℕ) → having is_obsolete n b.numbers ≤ having is_obsolete n a.numbers
    scanned-obsolete n =
        let split : having is_obsolete n b.numbers ≡ having is_obsolete n (map (grab found) a.numbers) = omega
        (arith, parts is_obsolete n) in
        by_times (times n found) (scan_once n)
        (λ z. omega (arith, split, having-not_found is_obsolete n found z a.numbers))
        (λ z. omega (arith, split, having-found is_obsolete n found (omega (arith, z)) a.numbers))

    pub scanned-registered : (n : ℕ) → registered n a.numbers ≤ registered n b.numbers
    scanned-registered n = omega (
      arith,
      statuses n a.numbers,
      statuses n b.numbers,
      scanned-same is_pending (as_pending refl) n,
      scanned-same is_live (as_live refl) n,
      scanned-same is_gone (as_gone refl) n,
      scanned-grabbed n,
      moved,
    )
      where
        moved : having is_obsolete n a.numbers ≤ having is_obsolete n b.numbers + times n found
        moved = by_times (times n found) (scan_once n)
            (λ z. omega (
              arith,
              parts is_obsolete n,
              having-not_found is_obsolete n found z a.numbers,
            ))
            (λ z. omega (arith, z, s.once n, statuses n a.numbers))
