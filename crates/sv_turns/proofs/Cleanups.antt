-- Turns of a cleanup: a SuperVersion is Gone, with what it alone named.
use Rattle.std.proofs.Common.{Bool, List, Some, [], ap, arith, cond, false, inl, length, refl, subst, sym, true, ℕ, ⊎_elim, ◌/◌, ◌<◌, ◌==◌, ◌∙◌, ◌≡◌, ◌≤◌}
use Rattle.sv_model.specs.Books.{Books}
use Rattle.sv_model.specs.Lists.{bit}
use Rattle.sv_model.specs.Named.{NamedFile}
use Rattle.sv_model.specs.Numbers.{having, is_grabbed, is_live, is_pending}
use Rattle.sv_model.specs.Registers.{change, entry}
use Rattle.sv_model.specs.Summaries.{is_gone}
use Rattle.sv_model.specs.Supers.{pack}
use Rattle.sv_model.specs.Tasks.{Task}
use Rattle.sv_model.specs.Turns.{EndsSuper, IsGone, Turns}
use Rattle.sv_model.specs.declared.records.FileStatus.{FileStatus}
use Rattle.sv_model.specs.declared.records.FileStatus.TheVariants.{Live, Obsolete}
use Rattle.sv_model.specs.declared.records.Memtable.{Memtable}
use Rattle.sv_model.specs.declared.records.RegisteredFile.{RegisteredFile}
use Rattle.sv_model.specs.declared.records.SuperVersion.{SuperVersion}
use Rattle.sv_model.proofs.Entries.{some}
use Rattle.sv_model.proofs.Registers.{entry-else, entry-same, length-change}
use Rattle.sv_laws.specs.Cleaning.{AreCellsGone, IsCleaned, TurnsFile}
use Rattle.sv_laws.proofs.Registers.{total-le, total-same}
use Rattle.sv_turns.specs.Called.{IsCalled}
use Rattle.sv_turns.proofs.StatusCounts.{cond-zero}
use Rattle.sv_turns.proofs.Frames.{jobs-stand, true_not_false, turns-numbers}

module _ (Named : ℕ → Type 0) where
  -- a status that is neither Live nor Obsolete stands
  term-same : (is : FileStatus → Bool) → is Live ≡ false → is Obsolete ≡ false → (n : ℕ) (x y : RegisteredFile)
      → TurnsFile Named x y → cond (y.number == n) (bit (is y.status)) 0 ≡ cond (x.number == n) (bit (is x.status)) 0
  term-same is live obsolete n x y h = ⊎_elim
      (λ q. ap (λ (z : RegisteredFile). cond (z.number == n) (bit (is z.status)) 0) q.0)
      (λ q. ap (λ (z : RegisteredFile). cond (z.number == n) (bit (is z.status)) 0) q.0
      ∙ ap (λ b. cond (x.number == n) (bit b) 0) (obsolete ∙ sym live ∙ ap is (sym q.1)))
      h

  term_le : (n : ℕ) (x y : RegisteredFile) → TurnsFile Named x y
      → cond (y.number == n) (bit (is_live y.status)) 0 ≤ cond (x.number == n) (bit (is_live x.status)) 0
  term_le n x y h = ⊎_elim
      (λ q. omega (arith, ap (λ (z : RegisteredFile). cond (z.number == n) (bit (is_live z.status)) 0) q.0))
      (λ q. omega (
        arith,
        ap (λ (z : RegisteredFile). cond (z.number == n) (bit (is_live z.status)) 0) q.0,
        cond-zero (x.number == n),
      ))
      h

module _ (l : ℕ) (a b : Books) (t : Task) (c : IsCalled l a t b) (s : ℕ) (x : SuperVersion)
    (h : IsCleaned a b s x) where
  -- A SuperVersion is cleaned up: files become Obsolete, and nothing of the lane's own changes.
  pub cleaned-turns : Turns l a t b t []
  cleaned-turns =
      let same : (is : FileStatus → Bool) → is Live ≡ false → is Obsolete ≡ false → (n : ℕ)
      → having is n b.files.numbers ≡ having is n a.files.numbers = λ is p q n.
      total-same (TurnsFile (NamedFile b.versions)) (λ (z : RegisteredFile). cond (z.number == n) (bit (is z.status)) 0)
      (λ y z w. term-same (NamedFile b.versions) is p q n y z w) a.files.numbers b.files.numbers h.numbers.long h.numbers.goes in
      let jobs : b.files.jobs ≡ a.files.jobs = ap (λ (z : Books). z.files.jobs) h.is in
      turns-numbers l a b t c t.output t.job t.removed
      (record {
        journal = ap (λ (z : Books). z.journal) h.is;
        families = ap (λ (z : Books). z.families) h.is;
        snapshots = ap (λ (z : Books). z.snapshots) h.is;
        holds = ap (λ (z : Books). z.files.holds) h.is;
      })
      (record {
        pending = λ n. omega (arith, same is_pending refl refl n);
        grabbed = λ n. omega (arith, same is_grabbed refl refl n);
        removed = λ n. omega (arith, same is_gone refl refl n);
        live = λ n q. inl (omega (
          arith,
          q,
          total-le (TurnsFile (NamedFile b.versions)) (λ (z : RegisteredFile). cond (z.number == n) (bit (is_live z.status)) 0)
              (λ y z w. term_le (NamedFile b.versions) n y z w) a.files.numbers b.files.numbers h.numbers.long h.numbers.goes,
        ));
        gone = λ n q. inl (omega (arith, q, same is_gone refl refl n));
        marks = λ m q w. q;
      })
      (λ o q. inl q)
      (jobs-stand l a.files.holds a.files.jobs b.files.jobs t.job t.job jobs refl)
      (λ q. omega (arith, jobs, (c.own.quiet q).1))

  within : x.place < 256
  within = (c.own.lawful.places s x h.at h.live).0

  serial : pack s x.place / 256 ≡ s
  serial = omega (arith, within)

  -- It is Gone, and these are the cells of the memtables that went.
  pub cleaned-ends : (cells : List ℕ) → AreCellsGone a.memtables b.memtables cells
      → EndsSuper a b (pack s x.place) cells
  cleaned-ends cells gone =
      let supers : b.supers ≡ change a.supers s (record x { live = false }) = ap (λ (z : Books). z.supers) h.is in
      record {
        gone = subst (IsGone a.supers b.supers) (sym serial) (record {
          sv = x;
          was = h.at;
          is = ap (λ z. entry z s) supers ∙ entry-same a.supers s x (record x { live = false }) h.at;
          others = λ u ne. ap (λ z. entry z u) supers ∙ entry-else a.supers s u (record x { live = false }) ne;
          long = ap length supers ∙ length-change a.supers s (record x { live = false });
        });
        tops = ap (λ (z : Books). z.tops) h.is;
        families = ap (λ (z : Books). z.families) h.is;
        memtables = record { long = h.memtables.long; goes = h.memtables.goes; live = was_live };
        freed = λ m y z e d live now. (gone.exact y.cell).1 (record {
          id = m;
          it = y;
          at = e;
          was_live = live;
          gone = λ w. true_not_false (sym w.live ∙ ap (λ (q : Memtable). q.live) (some (sym w.at ∙ d)) ∙ now);
          is = refl;
        });
      }
    where
      was_live : (m : ℕ) (y z : Memtable) → entry a.memtables m ≡ Some y → entry b.memtables m ≡ Some z
          → z.live ≡ true → y.live ≡ true
      was_live m y z e d live =
          let w = ((h.memtables.exact m).0 (record { it = z; at = d; live = live })).0 in
          ap (λ (q : Memtable). q.live) (some (sym e ∙ w.at)) ∙ w.live
