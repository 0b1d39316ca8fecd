-- What a lane has of its own is the books' after a turn, as it was before.
use Rattle.std.proofs.Common.{List, None, Option, Some, ap, arith, refl, subst, sym, ℕ, ⊎_elim, ◌∙◌, ◌≡◌, ◌≤◌}
use mathlib.Core.Logic.{dite}
use native.Mathlib.Decide.{ℕ_discrete}
use Rattle.sv_model.specs.Books.{Books}
use Rattle.sv_model.specs.Lists.{In, same}
use Rattle.sv_model.specs.Numbers.{having, is_grabbed, is_pending}
use Rattle.sv_model.specs.Tasks.{Mark, Output, Task, grabs, has_output, marks_of, output_count}
use Rattle.sv_model.specs.Turns.{IsAccounted, IsFresh, IsOutput, Turns}
use Rattle.sv_model.specs.declared.records.FileMeta.{FileMeta}
use Rattle.sv_model.specs.declared.writes.Write.{Write}
use Rattle.sv_model.proofs.Entries.{in-left}
use Rattle.sv_model.proofs.Lists.{same-le, same_here, same_other, total_at}

module _ (l : ℕ) (a b : Books) (t u : Task) (more : List Write) (c : IsAccounted l a t) (h : Turns l a t b u more) where
  more-metas : (m : FileMeta) → In m a.metas → In m b.metas
  more-metas m i = let w = h.counts.later.metas in subst (In m) (sym w.1) (in-left m a.metas w.0 i)

  has_here : (o : Output) → u.output ≡ Some o → has_output o.meta.number u ≡ 1
  has_here o e = ap (output_count o.meta.number) e ∙ same_here o.meta.number

  had_pending : (n : ℕ) → has_output n t ≤ having is_pending n a.files.numbers
  had_pending n = by t.output refl
    where
      by : (o : Option Output) → t.output ≡ o → output_count n o ≤ having is_pending n a.files.numbers
      by None e = omega arith
      by (Some o) e = dite (ℕ_discrete n o.meta.number)
          (λ q. omega (arith, ap (λ k. having is_pending k a.files.numbers) q, (c.output o e).0, same-le n o.meta.number))
          (λ ne. omega (arith, same_other n o.meta.number ne))

  -- The numbers of the job are Grabbed before and after, counted as often as they are in it.
  pub accounted-on : ((n : ℕ) → grabs n t ≤ having is_grabbed n a.files.numbers)
      → IsAccounted l b u × ((n : ℕ) → grabs n u ≤ having is_grabbed n b.files.numbers)
  accounted-on grabbed =
      let still : (n : ℕ) → grabs n u ≤ having is_grabbed n b.files.numbers = λ n.
      omega (arith, grabbed n, h.counts.grabbed n) in (
        record {
          lawful = h.counts.lawful;
          quiet = h.counts.quiet;
          loud = h.counts.loud;
          holds = omega (arith, c.holds, h.counts.holds);
          handles = λ f some. omega (arith, c.handles f some, h.counts.handles f);
          default = h.counts.default ∙ c.default;
          output = λ o e. (
            omega (
              arith,
              has_here o e,
              had_pending o.meta.number,
              h.counts.outputs o.meta.number,
            ),
            ⊎_elim
                (λ (w : IsOutput t o). subst (λ m. In m b.metas) (sym w.same)
                (more-metas w.was.meta (c.output w.was w.is).1))
                (λ (w : IsFresh a b o). w.covered)
                (h.counts.output o e),
          );
          job = λ k i. omega (
            arith,
            still k.number,
            total_at (λ (m : Mark). same k.number m.number) (marks_of u.job) i.at k i.is,
            same_here k.number,
          );
          jobs = omega (arith, c.jobs, h.counts.jobs);
        },
        still,
      )
