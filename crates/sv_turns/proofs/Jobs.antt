-- Turns of jobs: numbers are found, taken and scanned, given back, and the job ends.
use Rattle.std.proofs.Common.{Bool, List, None, Some, [], ap, arith, cond, eq-eqb, false, inl, inr, map, ne_eqb, refl, subst, suc, sum, sym, true, zero, ℕ, ⊎_elim, ◌+◌, ◌-◌, ◌==◌, ◌∙◌, ◌∷◌, ◌≡◌}
use Rattle.std.specs.Prelude.{slice_get}
use Rattle.std.proofs.lemmas.List.Sums.{sum_by-cons}
use mathlib.Core.Logic.{dite}
use native.Mathlib.Decide.{ℕ_discrete}
use Rattle.sv_model.specs.Books.{Books, FileRegister}
use Rattle.sv_model.specs.Lists.{In, at, bit, same, times, total}
use Rattle.sv_model.specs.Numbers.{MarksOnly, having, is_grabbed, is_live, is_pending}
use Rattle.sv_model.specs.Summaries.{is_gone}
use Rattle.sv_model.specs.Tasks.{Mark, Task, job_count, marks_of}
use Rattle.sv_model.specs.Turns.{Stands, Turns, taken_mark}
use Rattle.sv_model.specs.declared.records.FileStatus.{FileStatus}
use Rattle.sv_model.specs.declared.records.FileStatus.TheVariants.{Grabbed, Obsolete}
use Rattle.sv_model.proofs.Entries.{get_none, in-cons, in-suc, some}
use Rattle.sv_files.specs.Calls.{IsFound, IsScanned, IsTaken, ungrabbed}
use Rattle.sv_turns.specs.Called.{IsCalled, StandsElse, marked}
use Rattle.sv_turns.specs.Owned.{begins_job, ends_job, gives_back, grabbed_mark, without_mark}
use Rattle.sv_turns.proofs.StatusCounts.{cond-zero, having-marked, marks-found}
use Rattle.sv_turns.proofs.Found.{IsOther, as_gone, as_live, as_pending, found-grabbed, found-same, scanned-grabbed, scanned-same}
use Rattle.sv_turns.proofs.Writes.{stands-all}
use Rattle.sv_turns.proofs.Frames.{jobs-stand, true_not_false, turns-numbers}

-- where no hold stands, no lane has one
pub no_hold : (holds : List ℕ) → sum holds ≡ 0 → (k : ℕ) → at 0 holds k ≡ 0
no_hold [] e k = refl
no_hold (x ∷ holds) e zero = let q : sum (x ∷ holds) ≡ x + sum holds = sum_by-cons (λ (z : ℕ). z) x holds in
    omega (arith, e, q)
no_hold (x ∷ holds) e (suc k) = let q : sum (x ∷ holds) ≡ x + sum holds = sum_by-cons (λ (z : ℕ). z) x holds in
    no_hold holds (omega (arith, e, q)) k

-- the first mark of the number is out
pub marks-without : (n : ℕ) (marks : List Mark) (k : Mark) → In k marks → k.number ≡ n → (m : ℕ)
    → total (λ x. same m x.number) marks ≡ total (λ x. same m x.number) (without_mark n marks) + same m n
marks-without n [] k h e m = absurd (get_none h.at k h.is)
marks-without n (x ∷ marks) k h e m = dite (ℕ_discrete x.number n)
    (λ q. omega (
      arith,
      ap (λ b. total (λ (y : Mark). same m y.number) (cond b marks (x ∷ without_mark n marks))) (eq-eqb x.number n q),
      ap (same m) q,
    ))
    (λ q. omega (
      arith,
      ap (λ b. total (λ (y : Mark). same m y.number) (cond b marks (x ∷ without_mark n marks))) (ne_eqb x.number n q),
      marks-without n marks k (rest q h.at h.is) e m,
    ))
  where
    rest : (x.number ≡ n → ⊥) → (i : ℕ) → slice_get (x ∷ marks) i ≡ Some k → In k marks
    rest q zero is = absurd (q (ap (λ (y : Mark). y.number) (some is) ∙ e))
    rest q (suc i) is = record { at = i; is = is }

pub mark_without : (n : ℕ) (marks : List Mark) (k : Mark) → In k (without_mark n marks) → In k marks
mark_without n [] k h = h
mark_without n (x ∷ marks) k h = dite (ℕ_discrete x.number n)
    (λ q. in-suc k x marks (subst (λ b. In k (cond b marks (x ∷ without_mark n marks))) (eq-eqb x.number n q) h))
    (λ q. ⊎_elim (λ e. record { at = 0; is = ap Some (sym e) })
    (λ w. in-suc k x marks (mark_without n marks k w))
    (in-cons k x (without_mark n marks)
    (subst (λ b. In k (cond b marks (x ∷ without_mark n marks))) (ne_eqb x.number n q) h)))

-- the marks of what was found are not taken
untaken : (found : List ℕ) (m : Mark) → In m (map grabbed_mark found) → m.taken ≡ false
untaken [] m h = absurd (get_none h.at m h.is)
untaken (x ∷ found) m h = ⊎_elim (λ e. ap (λ (y : Mark). y.taken) e) (λ w. untaken found m w)
    (in-cons m (grabbed_mark x) (map grabbed_mark found) h)

module _ (l : ℕ) (a b : Books) (t : Task) (c : IsCalled l a t b) where
  only : (files : FileRegister) → b ≡ record a { files = files } → b.files.holds ≡ a.files.holds → StandsElse a b
  only files e holds = record {
    journal = ap (λ (z : Books). z.journal) e;
    families = ap (λ (z : Books). z.families) e;
    snapshots = ap (λ (z : Books). z.snapshots) e;
    holds = holds;
  }

  empty : t.job ≡ None → (n : ℕ) → marked n t.job ≡ 0
  empty none n = ap (marked n) none

  -- A job begins, of these numbers, where no hold stands.
  pub begun-turns : (found : List ℕ) → b ≡ record a { files = b.files } → b.files.holds ≡ a.files.holds
      → b.files.jobs ≡ a.files.jobs + 1 → sum a.files.holds ≡ 0 → t.job ≡ None
      → ((n : ℕ) → having is_grabbed n b.files.numbers ≡ having is_grabbed n a.files.numbers + times n found)
      → ((is : FileStatus → Bool) → IsOther is → (n : ℕ) → having is n b.files.numbers ≡ having is n a.files.numbers) → Turns l a t b (begins_job found t) []
  begun-turns found e holds jobs free none grabbed others =
      let no_job : job_count t.job ≡ 0 = ap job_count none in
      turns-numbers l a b t c t.output (Some (map grabbed_mark found)) t.removed (only b.files e holds)
      (record {
        pending = λ n. omega (arith, others is_pending (as_pending refl) n);
        grabbed = λ n. omega (arith, grabbed n, empty none n, marks-found n found);
        removed = λ n. omega (arith, others is_gone (as_gone refl) n);
        live = λ n h. inl (omega (arith, h, others is_live (as_live refl) n));
        gone = λ n h. inl (omega (arith, h, others is_gone (as_gone refl) n));
        marks = λ m h w. true_not_false (sym w ∙ untaken found m h);
      })
      (λ o h. inl h)
      (record { jobs = omega (arith, jobs, no_job); begins = λ z one m ne. no_hold a.files.holds free m })
      (λ q. absurd (omega (arith, (c.own.quiet q).0, c.own.holds, no_hold a.files.holds free l)))

  pub found-turns : (found : List ℕ) → b ≡ record a { files = b.files } → IsFound a.files b.files found
      → sum a.files.holds ≡ 0 → t.job ≡ None → Turns l a t b (begins_job found t) []
  found-turns found e h free none =
      begun-turns found e (ap (λ (z : FileRegister). z.holds) h.is) (ap (λ (z : FileRegister). z.jobs) h.is) free none
      (found-grabbed a.files c.own.lawful.numbers b.files found h)
      (found-same a.files c.own.lawful.numbers b.files found h)

  pub scanned-turns : (listed found : List ℕ) → b ≡ record a { files = b.files }
      → IsScanned a.files b.files listed found → sum a.files.holds ≡ 0 → t.job ≡ None
      → Turns l a t b (begins_job found t) []
  scanned-turns listed found e h free none =
      begun-turns found e (ap (λ (z : FileRegister). z.holds) h.is) (ap (λ (z : FileRegister). z.jobs) h.is) free none
      (scanned-grabbed a.files c.own.lawful.numbers b.files listed found h)
      (scanned-same a.files c.own.lawful.numbers b.files listed found h)

  -- One number is taken, which is a job.
  pub taken-turns : (n : ℕ) → b ≡ record a { files = b.files } → IsTaken n a.files b.files → sum a.files.holds ≡ 0
      → t.job ≡ None → Turns l a t b (begins_job (n ∷ []) t) []
  taken-turns n e h free none =
      let change : (is : FileStatus → Bool) (m : ℕ)
      → having is m b.files.numbers + cond (n == m) (bit (is Obsolete)) 0 ≡ having is m a.files.numbers + cond (n == m)
      (bit (is Grabbed)) 0 = λ is m. having-marked is n Obsolete Grabbed a.files.numbers b.files.numbers h.numbers m in
      begun-turns (n ∷ []) e (ap (λ (z : FileRegister). z.holds) h.rest) (ap (λ (z : FileRegister). z.jobs) h.rest)
      free none
      (λ m. omega (arith, change is_grabbed m, cond-zero (n == m)))
      (λ is o m. others is o m (change is m))
    where
      others : (is : FileStatus → Bool) → IsOther is → (m : ℕ)
          → having is m b.files.numbers + cond (n == m) (bit (is Obsolete)) 0 ≡ having is m a.files.numbers
          + cond (n == m) (bit (is Grabbed)) 0
          → having is m b.files.numbers ≡ having is m a.files.numbers
      others is (as_pending q) m e = omega (
        arith,
        e,
        ap (λ (z : FileStatus → Bool). cond (n == m) (bit (z Obsolete)) 0) q,
        ap (λ (z : FileStatus → Bool). cond (n == m) (bit (z Grabbed)) 0) q,
        cond-zero (n == m),
      )
      others is (as_live q) m e = omega (
        arith,
        e,
        ap (λ (z : FileStatus → Bool). cond (n == m) (bit (z Obsolete)) 0) q,
        ap (λ (z : FileStatus → Bool). cond (n == m) (bit (z Grabbed)) 0) q,
        cond-zero (n == m),
      )
      others is (as_gone q) m e = omega (
        arith,
        e,
        ap (λ (z : FileStatus → Bool). cond (n == m) (bit (z Obsolete)) 0) q,
        ap (λ (z : FileStatus → Bool). cond (n == m) (bit (z Grabbed)) 0) q,
        cond-zero (n == m),
      )

  -- A number of the job is given back: it is Gone where its file was taken away, else Obsolete again.
  pub ungrabbed-turns : (n : ℕ) (gone : Bool) (marks : List Mark) (k : Mark) → b ≡ record a { files = b.files }
      → MarksOnly n Grabbed (ungrabbed gone) a.files b.files → t.job ≡ Some marks → In k marks → k.number ≡ n
      → (gone ≡ true → k.taken ≡ true) → Turns l a t b (gives_back n gone marks t) []
  ungrabbed-turns n gone marks k e h has inside number taken = by gone h taken
    where
      jobs : (g : Bool) → MarksOnly n Grabbed (ungrabbed g) a.files b.files → b.files.jobs ≡ a.files.jobs
      jobs g h = ap (λ (z : FileRegister). z.jobs) h.rest

      change : (g : Bool) → MarksOnly n Grabbed (ungrabbed g) a.files b.files → (is : FileStatus → Bool) (m : ℕ)
          → having is m b.files.numbers + cond (n == m) (bit (is Grabbed)) 0 ≡ having is m a.files.numbers
          + cond (n == m) (bit (is (ungrabbed g))) 0
      change g h is m = having-marked is n Grabbed (ungrabbed g) a.files.numbers b.files.numbers h.numbers m

      fewer : (m : ℕ) → marked m t.job ≡ marked m (Some (without_mark n marks)) + cond (n == m) 1 0
      fewer m = ap (marked m) has ∙ marks-without n marks k inside number m

      kept : (m : Mark) → In m (without_mark n marks) → m.taken ≡ true → In m (marks_of t.job)
      kept m h w = subst (λ o. In m (marks_of o)) (sym has) (mark_without n marks m h)

      there : (m : ℕ) → n ≡ m → k.taken ≡ true → In (taken_mark m) (marks_of t.job)
      there m q w = subst (λ o. In (taken_mark m) (marks_of o)) (sym has)
          (subst (λ z. In z marks) (λ i. record { number = (number ∙ q) i; taken = w i }) inside)

      by : (g : Bool) → MarksOnly n Grabbed (ungrabbed g) a.files b.files → (g ≡ true → k.taken ≡ true)
          → Turns l a t b (gives_back n g marks t) []
      by true h taken =
          turns-numbers l a b t c t.output (Some (without_mark n marks)) (n ∷ t.removed)
          (only b.files e (ap (λ (z : FileRegister). z.holds) h.rest))
          (record {
            pending = λ m. omega (arith, change true h is_pending m, cond-zero (n == m));
            grabbed = λ m. omega (arith, change true h is_grabbed m, fewer m, cond-zero (n == m));
            removed = λ m. omega (arith, change true h is_gone m, cond-zero (n == m));
            live = λ m q. inl (omega (arith, q, change true h is_live m, cond-zero (n == m)));
            gone = λ m q. dite (ℕ_discrete n m)
                (λ r. inr (there m r (taken refl)))
                (λ ne. inl (omega (
                  arith,
                  q,
                  change true h is_gone m,
                  ap {B = ℕ} (λ z. cond z 1 0) (ne_eqb n m ne),
                )));
            marks = kept;
          })
          (λ o q. inl q)
          (jobs-stand l a.files.holds a.files.jobs b.files.jobs t.job (Some (without_mark n marks)) (jobs true h)
          (sym (ap job_count has)))
          (λ q. omega (arith, jobs true h, (c.own.quiet q).1))
      by false h taken =
          turns-numbers l a b t c t.output (Some (without_mark n marks)) t.removed
          (only b.files e (ap (λ (z : FileRegister). z.holds) h.rest))
          (record {
            pending = λ m. omega (arith, change false h is_pending m, cond-zero (n == m));
            grabbed = λ m. omega (arith, change false h is_grabbed m, fewer m, cond-zero (n == m));
            removed = λ m. omega (arith, change false h is_gone m, cond-zero (n == m));
            live = λ m q. inl (omega (arith, q, change false h is_live m, cond-zero (n == m)));
            gone = λ m q. inl (omega (arith, q, change false h is_gone m, cond-zero (n == m)));
            marks = kept;
          })
          (λ o q. inl q)
          (jobs-stand l a.files.holds a.files.jobs b.files.jobs t.job (Some (without_mark n marks)) (jobs false h)
          (sym (ap job_count has)))
          (λ q. omega (arith, jobs false h, (c.own.quiet q).1))

  -- A job with no number left ends.
  pub job_ended-turns : b ≡ record a { files = b.files }
      → b.files ≡ record a.files { jobs = a.files.jobs - 1 } → t.job ≡ Some [] → Turns l a t b (ends_job t) []
  job_ended-turns e h has =
      let one : job_count t.job ≡ 1 = ap job_count has in
      let numbers : b.files.numbers ≡ a.files.numbers = ap (λ (z : FileRegister). z.numbers) h in
      let stay : (is : FileStatus → Bool) (n : ℕ) → having is n b.files.numbers ≡ having is n a.files.numbers = λ is n.
      ap (having is n) numbers in
      let jobs : b.files.jobs ≡ a.files.jobs - 1 = ap (λ (z : FileRegister). z.jobs) h in
      turns-numbers l a b t c t.output None t.removed (only b.files e (ap (λ (z : FileRegister). z.holds) h))
      (record {
        pending = λ n. omega (arith, stay is_pending n);
        grabbed = λ n. omega (arith, stay is_grabbed n, ap (marked n) has);
        removed = λ n. omega (arith, stay is_gone n);
        live = λ n q. inl (omega (arith, q, stay is_live n));
        gone = λ n q. inl (omega (arith, q, stay is_gone n));
        marks = λ m q w. absurd (get_none q.at m q.is);
      })
      (λ o q. inl q)
      (record { jobs = omega (arith, jobs, one, c.own.jobs); begins = λ z w m ne. absurd (omega arith) })
      (λ q. omega (arith, jobs, (c.own.quiet q).1))

-- ---- where the files' register alone changed

pub files-stands : (a b : Books) → b ≡ record a { files = b.files } → Stands a b
files-stands a b e = stands-all a b (ap (λ (z : Books). z.supers) e) (ap (λ (z : Books). z.tops) e)
    (ap (λ (z : Books). z.memtables) e) (ap (λ (z : Books). z.families) e)
