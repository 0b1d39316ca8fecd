-- Turns of captures, of their end, and of outputs that are given up.
use Rattle.std.proofs.Common.{Bool, List, None, Option, Some, [], ap, arith, cond, false, inl, inr, refl, subst, suc, sym, true, ℕ, ⊎_elim, ◌++◌, ◌+◌, ◌==◌, ◌∙◌, ◌∷◌, ◌≡◌, ◌⊎◌}
use Rattle.std.specs.Prelude.{slice_get}
use mathlib.Core.Logic.{dite}
use native.Mathlib.Decide.{ℕ_discrete}
use Rattle.std.proofs.Common.{ne_eqb}
use Rattle.sv_model.specs.Books.{Books, FileRegister}
use Rattle.sv_model.specs.Lists.{In, bit}
use Rattle.sv_model.specs.Numbers.{IsMarked, having, is_grabbed, is_live, is_pending}
use Rattle.sv_model.specs.Summaries.{is_gone}
use Rattle.sv_model.specs.Tasks.{Output, Task, output_count}
use Rattle.sv_model.specs.Turns.{IsFresh, Stands, Turns}
use Rattle.sv_model.specs.declared.records.FileMeta.{FileMeta}
use Rattle.sv_model.specs.declared.records.FileStatus.{FileStatus}
use Rattle.sv_model.specs.declared.records.FileStatus.TheVariants.{Live, Obsolete, Pending}
use Rattle.sv_model.specs.declared.records.RegisteredFile.{RegisteredFile}
use Rattle.sv_model.proofs.Entries.{some}
use Rattle.sv_laws.specs.Captures.{IsFileCaptured, IsFlushBegun, IsGivenUp, IsMergePlanned}
use Rattle.sv_laws.specs.NewCurrents.{IsCompacted, IsFlushed}
use Rattle.sv_turns.specs.Called.{IsCalled, StandsElse}
use Rattle.sv_turns.specs.Owned.{captures_output, without_output}
use Rattle.sv_turns.proofs.StatusCounts.{cond-zero, having-marked, having-push}
use Rattle.sv_turns.proofs.Writes.{stands-all}
use Rattle.sv_turns.proofs.Frames.{jobs-stand, turns-numbers}

in-last : {A : Type 0} (l : List A) (x : A) → In x (l ++ x ∷ [])
in-last l x = let w = last l x in record { at = w.0; is = w.1 }
  where
    last : {A : Type 0} (l : List A) (x : A) → (i : ℕ) × (slice_get (l ++ x ∷ []) i ≡ Some x)
    last [] x = (0, refl)
    last (y ∷ l) x = let w = last l x in (suc w.0, w.1)

no_out : (n : ℕ) (o : Option Output) → o ≡ None → output_count n o ≡ 0
no_out n o e = ap (output_count n) e

-- what stands where a flush or a compaction changes files alone
pub else-stands : (a b : Books) → b.journal ≡ a.journal → b.families ≡ a.families → b.snapshots ≡ a.snapshots
    → b.files.holds ≡ a.files.holds → StandsElse a b
else-stands a b journal families snapshots holds = record {
  journal = journal;
  families = families;
  snapshots = snapshots;
  holds = holds;
}

module _ (l : ℕ) (a b : Books) (t : Task) (c : IsCalled l a t b) where
  -- A number is captured: the lane, which had no output, has this one.
  pub captured-turns : (f : ℕ) (file : FileMeta) → IsFileCaptured a b f file → t.output ≡ None
      → Turns l a t b (captures_output file t) []
  captured-turns f file h none =
      let x : RegisteredFile = record { number = a.files.next; status = Pending; family = Some f } in
      let more : (is : FileStatus → Bool) (n : ℕ)
      → having is n b.files.numbers ≡ having is n a.files.numbers + cond (file.number == n) (bit (is Pending)) 0 = λ is n.
      having-push is a.files.numbers b.files.numbers x (ap (λ (z : Books). z.files.numbers) h.is) n
      ∙ ap (λ m. having is n a.files.numbers + cond (m == n) (bit (is Pending)) 0) (sym h.number_is) in
      let jobs : b.files.jobs ≡ a.files.jobs = ap (λ (z : Books). z.files.jobs) h.is in
      turns-numbers l a b t c (Some (record { meta = file; written = false })) t.job t.removed
      (else-stands a b (ap (λ (z : Books). z.journal) h.is) (ap (λ (z : Books). z.families) h.is)
      (ap (λ (z : Books). z.snapshots) h.is) (ap (λ (z : Books). z.files.holds) h.is))
      (record {
        pending = λ n. omega (arith, more is_pending n, no_out n t.output none);
        grabbed = λ n. omega (arith, more is_grabbed n, cond-zero (file.number == n));
        removed = λ n. omega (arith, more is_gone n, cond-zero (file.number == n));
        live = λ n q. inl (omega (arith, q, more is_live n, cond-zero (file.number == n)));
        gone = λ n q. inl (omega (arith, q, more is_gone n, cond-zero (file.number == n)));
        marks = λ m q w. q;
      })
      (λ o e. inr (subst (IsFresh a b) (some e) (record {
        covered = subst (In file) (sym (ap (λ (z : Books). z.metas) h.is)) (in-last a.metas file);
        next = omega (arith, h.number_is);
        unwritten = refl;
      })))
      (jobs-stand l a.files.holds a.files.jobs b.files.jobs t.job t.job jobs refl)
      (λ q. omega (arith, jobs, (c.own.quiet q).1))

  pub flush_begun-turns : (f : ℕ) (file : FileMeta) → IsFlushBegun a b f file → t.output ≡ None
      → Turns l a t b (captures_output file t) []
  flush_begun-turns f file h none = captured-turns f file h.captured none

  pub merge_planned-turns : (f : ℕ) (file : FileMeta) → IsMergePlanned a b f file → t.output ≡ None
      → Turns l a t b (captures_output file t) []
  merge_planned-turns f file h none = captured-turns f file h.captured none

  -- The lane's output is settled: its number is Obsolete; or it is Live, and the output was written.
  pub settled-turns : (o : Output) (now : FileStatus) → t.output ≡ Some o
      → IsMarked o.meta.number Pending now a.files.numbers b.files.numbers → StandsElse a b
      → b.files.jobs ≡ a.files.jobs → (now ≡ Obsolete) ⊎ ((now ≡ Live) × (o.written ≡ true))
      → Turns l a t b (without_output t) []
  settled-turns o now has mark else jobs becomes =
      let k = o.meta.number in
      let change : (is : FileStatus → Bool) (n : ℕ)
      → having is n b.files.numbers + cond (k == n) (bit (is Pending)) 0 ≡ having is n a.files.numbers + cond (k == n)
      (bit (is now)) 0 = λ is n. having-marked is k Pending now a.files.numbers b.files.numbers mark n in
      let out : (n : ℕ) → output_count n t.output ≡ cond (k == n) 1 0 = λ n. ap (output_count n) has in
      let not : (is : FileStatus → Bool) → is Obsolete ≡ false → is Live ≡ false → (n : ℕ)
      → cond (k == n) (bit (is now)) 0 ≡ 0 = λ is e f n. ap (λ z. cond (k == n) (bit z) 0)
      (⊎_elim (λ h. ap is h ∙ e) (λ h. ap is h.0 ∙ f) becomes) ∙ cond-zero (k == n) in
      turns-numbers l a b t c None t.job t.removed else
      (record {
        pending = λ n. omega (arith, change is_pending n, out n, not is_pending refl refl n);
        grabbed = λ n. omega (arith, change is_grabbed n, not is_grabbed refl refl n, cond-zero (k == n));
        removed = λ n. omega (arith, change is_gone n, not is_gone refl refl n, cond-zero (k == n));
        live = λ n h. ⊎_elim
            (λ (e : now ≡ Obsolete). inl (omega (
              arith,
              h,
              change is_live n,
              ap (λ z. cond (k == n) (bit (is_live z)) 0) e,
              cond-zero (k == n),
            )))
            (λ (e : (now ≡ Live) × (o.written ≡ true)). dite (ℕ_discrete k n)
            (λ q. inr (record { it = o; is = has; number = q; written = e.1 }))
            (λ ne. inl (omega (
              arith,
              h,
              change is_live n,
              ap (λ z. cond z (bit (is_live now)) 0) (ne_eqb k n ne),
            ))))
            becomes;
        gone = λ n h. inl (omega (arith, h, change is_gone n, not is_gone refl refl n, cond-zero (k == n)));
        marks = λ m h w. h;
      })
      (λ p e. absurd (no_output p e))
      (jobs-stand l a.files.holds a.files.jobs b.files.jobs t.job t.job jobs refl)
      (λ q. omega (arith, jobs, (c.own.quiet q).1))
    where
      no_output : (p : Output) → None ≡ Some p → ⊥
      no_output p e = cc

  -- The output is given up.
  pub given_up-turns : (f : ℕ) (o : Output) → IsGivenUp a b f o.meta.number → t.output ≡ Some o
      → Turns l a t b (without_output t) []
  given_up-turns f o h has =
      settled-turns o Obsolete has h.settled.numbers
      (else-stands a b (ap (λ (z : Books). z.journal) h.is) (ap (λ (z : Books). z.families) h.is)
      (ap (λ (z : Books). z.snapshots) h.is) (ap (λ (z : FileRegister). z.holds) h.settled.rest))
      (ap (λ (z : FileRegister). z.jobs) h.settled.rest) (inl refl)

  -- A flush ends: the output, which was written, is the family's.
  pub flushed-turns : (f : ℕ) (o : Output) → IsFlushed a b f o.meta → t.output ≡ Some o → o.written ≡ true
      → Turns l a t b (without_output t) []
  flushed-turns f o h has written =
      settled-turns o Live has h.settled.numbers
      (else-stands a b (ap (λ (z : Books). z.journal) h.is) (ap (λ (z : Books). z.families) h.is)
      (ap (λ (z : Books). z.snapshots) h.is) (ap (λ (z : FileRegister). z.holds) h.settled.rest))
      (ap (λ (z : FileRegister). z.jobs) h.settled.rest) (inr (refl, written))

  pub compacted-turns : (f : ℕ) (o : Output) → IsCompacted a b f o.meta → t.output ≡ Some o → o.written ≡ true
      → Turns l a t b (without_output t) []
  compacted-turns f o h has written =
      settled-turns o Live has h.settled.numbers
      (else-stands a b (ap (λ (z : Books). z.journal) h.is) (ap (λ (z : Books). z.families) h.is)
      (ap (λ (z : Books). z.snapshots) h.is) (ap (λ (z : FileRegister). z.holds) h.settled.rest))
      (ap (λ (z : FileRegister). z.jobs) h.settled.rest) (inr (refl, written))

  pub captured-stands : (f : ℕ) (file : FileMeta) → IsFileCaptured a b f file → Stands a b
  captured-stands f file h = stands-all a b (ap (λ (z : Books). z.supers) h.is) (ap (λ (z : Books). z.tops) h.is)
      (ap (λ (z : Books). z.memtables) h.is) (ap (λ (z : Books). z.families) h.is)
