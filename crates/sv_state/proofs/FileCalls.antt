-- Holds, jobs, and what is handed out.
use Rattle.std.proofs.Common.{◌≡◌, ◌<◌, ◌≤◌, ◌+◌, ◌==◌, ◌||◌, ℕ, suc, inl, inr, ⊎_elim, Bool, true, false, List, [], ◌∷◌, ◌++◌, map, length, Some, Result, Ok, Err, refl, sym, ap, ◌∙◌, subst, arith}
use Rattle.std.specs.Prelude.{IfOk, IsFalse, IsTrue, OnErr, if◌then◌else◌}
use Rattle.std.specs.List.{list_any}
use Rattle.sv_model.specs.declared.records.RegisteredFile.{RegisteredFile}
use Rattle.sv_model.specs.declared.records.FileStatus.{FileStatus}
use Rattle.sv_model.specs.declared.records.FileStatus.TheVariants as status
use Rattle.sv_model.specs.declared.refusals.Refusal.{Refusal}
use Rattle.sv_model.specs.After.{After}
use Rattle.sv_model.specs.Books.{Books, FileRegister}
use Rattle.sv_model.specs.Lists.{In, same}
use Rattle.sv_model.specs.Numbers.{FilesStand, IsMarked, IsReady, MarksOnly, least_captured, registered}
use Rattle.sv_model.specs.Registers.{entry, GoesOn}
use Rattle.sv_model.specs.Steady.{Sound}
use Rattle.sv_model.proofs.AfterLaws.{after-through}
use Rattle.sv_model.proofs.NumberLaws.{one_entry}
use Rattle.sv_model.proofs.Entries.{in-suc, some}
use Rattle.sv_model.proofs.Lists.{same_here}
use Rattle.sv_model.proofs.Registers.{length-change, total_entry}
use Rattle.sv_files.specs.Calls.{IsFound, IsScanned, IsTaken, MayBeTaken, grab, ungrabbed, with_hold}
use Rattle.sv_laws.specs.Changes.{grabbed, held}
use Rattle.sv_laws.proofs.Grabs.{Steps, all-strayed, below-captured, given-back-steps, goes-map, removed-steps, stray_of, taken-steps}
use Rattle.sv_laws.proofs.Kept.{sound-kept}
use Rattle.sv_state.proofs.Calls.{same-books}

module _ (a : Books) (k : Sound a) where
  abbrev with_files : FileRegister → Books
  with_files F = record a { files = F }

  -- ---- holds

  pub holds-change : (F : FileRegister) → F ≡ record a.files { holds = F.holds; jobs = F.jobs } → FilesStand F
      → Sound (record a { files = F }) × After a (record a { files = F })
  holds-change F e laws = sound-kept a (with_files F) k (held (record {
    holds = laws.holds;
    lanes = laws.lanes;
    jobs = laws.jobs;
    is = ap with_files e;
  }))

  pub hold-changes : (F : FileRegister) (lane : ℕ) (X : ℕ → Type 0) (r : Result ℕ Refusal) → IfOk r (λ count. X count × (F ≡ with_hold a.files lane count))
      → OnErr r (F ≡ a.files) → F ≡ record a.files { holds = F.holds; jobs = F.jobs }
  hold-changes F lane X (Ok n) h g = subst (λ (z : FileRegister). z ≡ record a.files { holds = z.holds; jobs = z.jobs }) (sym h.1) refl
  hold-changes F lane X (Err e) h g = subst (λ (z : FileRegister). z ≡ record a.files { holds = z.holds; jobs = z.jobs }) (sym g) refl

  -- ---- numbers that are grabbed or given back

  pub grabs-change : (F : FileRegister) → length F.numbers ≡ length a.files.numbers → GoesOn (Steps a.files.captured) a.files.numbers F.numbers
      → F.jobs ≤ 32 → F ≡ record a.files { numbers = F.numbers; jobs = F.jobs } → Sound (record a { files = F }) × After a (record a { files = F })
  grabs-change F long goes jobs e = sound-kept a (with_files F) k (grabbed (record {
    long = long;
    goes = goes;
    jobs = jobs;
    is = ap with_files e;
  }))

  only : (F : FileRegister) (N : List RegisteredFile) (jobs : ℕ) → F ≡ record a.files { numbers = N; jobs = jobs } → F ≡ record a.files { numbers = F.numbers; jobs = F.jobs }
  only F N jobs e = subst (λ (z : FileRegister). z ≡ record a.files { numbers = z.numbers; jobs = z.jobs }) (sym e) refl

  marked-long : (n : ℕ) (was now : FileStatus) (K : List RegisteredFile) → IsMarked n was now a.files.numbers K → length K ≡ length a.files.numbers
  marked-long n was now K m = ap (λ (l : List RegisteredFile). length l) m.marked ∙ length-change a.files.numbers m.at (record m.it { status = now })

  pub take-changes : (F : FileRegister) (n : ℕ) (r : Bool) → a.files.jobs + 1 ≤ 32 → (IsTrue r → MayBeTaken a.files n)
      → (IsTrue r → IsTaken n a.files F) → (IsFalse r → F ≡ a.files) → Sound (record a { files = F }) × After a (record a { files = F })
  take-changes F n true few may taken stays =
      let m = may refl in
      let t = taken refl in
      grabs-change F (marked-long n status.Obsolete status.Grabbed F.numbers t.numbers) (taken-steps a.files.captured n a.files.numbers F.numbers t.numbers m.ready.below)
      (subst (λ (z : FileRegister). z.jobs ≤ 32) (sym t.rest) few) (only F F.numbers (a.files.jobs + 1) t.rest)
  take-changes F n false few may taken stays = same-books a (with_files F) k (ap with_files (stays refl))

  pub ungrab-changes : (F : FileRegister) (n : ℕ) (gone : Bool) → MarksOnly n status.Grabbed (ungrabbed gone) a.files F
      → Sound (record a { files = F }) × After a (record a { files = F })
  ungrab-changes F n gone m =
      grabs-change F (marked-long n status.Grabbed (ungrabbed gone) F.numbers m.numbers) (by gone m.numbers)
      (subst (λ (z : FileRegister). z.jobs ≤ 32) (sym m.rest) k.lawful.limits.jobs) (only F F.numbers a.files.jobs m.rest)
    where
      by : (b : Bool) → IsMarked n status.Grabbed (ungrabbed b) a.files.numbers F.numbers → GoesOn (Steps a.files.captured) a.files.numbers F.numbers
      by true h = removed-steps a.files.captured n a.files.numbers F.numbers h
      by false h = given-back-steps a.files.captured n a.files.numbers F.numbers h

  -- ---- what is found

  any-in : (x : ℕ) (l : List ℕ) → list_any (λ n. n == x) l ≡ true → In x l
  any-in x [] h = absurd (cc)
  any-in x (y ∷ l) h = by (any-in x l) (y == x) refl
    where
      by : (list_any (λ n. n == x) l ≡ true → In x l) → (b : Bool) → (y == x) ≡ b → In x (y ∷ l)
      by rest true e = record { at = 0; is = ap Some (let q : y ≡ x = grind arith in q) }
      by rest false e = in-suc x y l (rest (ap (λ b. b || list_any (λ n. n == x) l) (sym e) ∙ h))

  -- where a number that is found is registered, it is Obsolete and below the bound
  abbrev MayGrab : List ℕ → Type 0
  MayGrab found = (n : ℕ) → In n found → (i : ℕ) (x : RegisteredFile) → entry a.files.numbers i ≡ Some x → x.number ≡ n
      → (x.status ≡ status.Obsolete) × (n < least_captured a.files.captured)

  grab-steps : (found : List ℕ) → MayGrab found → GoesOn (Steps a.files.captured) a.files.numbers (map (grab found) a.files.numbers)
  grab-steps found may = goes-map (Steps a.files.captured) (grab found) a.files.numbers (λ i x e. by (list_any (λ n. n == x.number) found) i x e refl)
    where
      by : (b : Bool) (i : ℕ) (x : RegisteredFile) → entry a.files.numbers i ≡ Some x → list_any (λ n. n == x.number) found ≡ b → Steps a.files.captured x (grab found x)
      by true i x e q =
          let h = may x.number (any-in x.number found q) i x e refl in
          subst (λ b. Steps a.files.captured x (record x { status = if b then status.Grabbed else x.status })) (sym q) (inr (record {
            number = refl;
            family = refl;
            status = inl (h.0, refl, λ f n c. below-captured a.files.captured x.number h.1 f n c);
          }))
      by false i x e q = subst (λ b. Steps a.files.captured x (record x { status = if b then status.Grabbed else x.status })) (sym q) (inl refl)

  ready-status : (n i : ℕ) (x : RegisteredFile) → IsReady a.files n → entry a.files.numbers i ≡ Some x → x.number ≡ n → x.status ≡ status.Obsolete
  ready-status n i x h e q =
      let o = h.obsolete in
      let one = one_entry a.files.numbers n o.0 i o.1 x (k.lawful.numbers.once n) o.2 e o.3.number_is q in
      ap (λ (z : RegisteredFile). z.status) (some (sym e ∙ ap (entry a.files.numbers) (sym one) ∙ o.2)) ∙ o.3.status_is

  map-long : (found : List ℕ) (l : List RegisteredFile) → length (map (grab found) l) ≡ length l
  map-long found [] = refl
  map-long found (x ∷ l) = ap suc (map-long found l)

  regraded : (found : List ℕ) → a.files.jobs < 32 → MayGrab found
      → Sound (record a { files = record a.files { numbers = map (grab found) a.files.numbers; jobs = a.files.jobs + 1 } }) × After a (record a { files = record a.files { numbers = map (grab found) a.files.numbers; jobs = a.files.jobs + 1 } })
  regraded found few may =
      grabs-change (record a.files { numbers = map (grab found) a.files.numbers; jobs = a.files.jobs + 1 }) (map-long found a.files.numbers) (grab-steps found may) (omega (arith, few)) refl

  pub find-changes : {T : Type 0} (F : FileRegister) (items : T → List ℕ) (r : Result T Refusal) → a.files.jobs < 32
      → IfOk r (λ v. IsFound a.files F (items v)) → OnErr r (F ≡ a.files) → Sound (record a { files = F }) × After a (record a { files = F })
  find-changes F items (Ok v) few h g =
      subst (λ G. Sound (record a { files = G }) × After a (record a { files = G })) (sym h.is)
      (regraded (items v) few (λ n i j x e q. let d = (h.ready.exact n).0 i in (ready-status n j x d e q, d.below)))
  find-changes F items (Err e) few h g = same-books a (with_files F) k (ap with_files g)

  -- ---- strays

  registered-map : (found : List ℕ) (n : ℕ) (l : List RegisteredFile) → registered n (map (grab found) l) ≡ registered n l
  registered-map found n [] = refl
  registered-map found n (x ∷ l) = ap (λ m. same n x.number + m) (registered-map found n l)

  unregistered : (n i : ℕ) (x : RegisteredFile) → registered n a.files.numbers ≡ 0 → entry a.files.numbers i ≡ Some x → x.number ≡ n → ⊥
  unregistered n i x none e q = omega (arith, none, total_entry (λ (z : RegisteredFile). same n z.number) a.files.numbers i x e, ap (same n) q, same_here n)

  pub scan-changes : {T : Type 0} (F : FileRegister) (listed : List ℕ) (items : T → List ℕ) (r : Result T Refusal) → a.files.jobs < 32
      → IfOk r (λ v. IsScanned a.files F listed (items v)) → OnErr r (F ≡ a.files) → Sound (record a { files = F }) × After a (record a { files = F })
  scan-changes F listed items (Err e) few h g = same-books a (with_files F) k (ap with_files g)
  scan-changes F listed items (Ok v) few h g =
      let found = items v in
      let b : Books = record a { files = record a.files { numbers = map (grab found) a.files.numbers; jobs = a.files.jobs + 1 } } in
      let one = regraded found few (λ n i j x e q. ⊎_elim
      (λ d. (ready-status n j x d e q, d.below))
      (λ d. absurd (unregistered n j x ((h.chosen.exact n).0 d).1.new e q))
      ((h.found_are.exact n).0 i)) in
      let more = all-strayed h.strays b one.0 h.chosen.once (λ n i.
      let d = ((h.chosen.exact n).0 i).1 in
      (registered-map found n a.files.numbers ∙ d.new, d.below, d.low)) in
      subst (λ G. Sound (record a { files = G }) × After a (record a { files = G })) (sym h.is)
      (more.0, after-through a b (record b { files = record b.files { numbers = b.files.numbers ++ map stray_of h.strays } }) one.1 more.1)
