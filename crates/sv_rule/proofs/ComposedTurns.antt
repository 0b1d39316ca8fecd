-- Two changes of the books in hand are one.
use Rattle.std.proofs.Common.{Bool, List, None, Option, Some, [], ap, arith, false, inl, inr, refl, subst, sym, true, ℕ, ⊎_elim, ◌++◌, ◌∙◌, ◌∷◌, ◌≡◌, ◌≤◌, ◌⊎◌}
use Rattle.sv_model.specs.Books.{Books}
use Rattle.sv_model.specs.Lists.{In, same}
use Rattle.sv_model.specs.Numbers.{having}
use Rattle.sv_model.specs.Summaries.{is_gone}
use Rattle.sv_model.specs.declared.writes.Write.{Write}
use Rattle.sv_model.proofs.AfterLaws.{after-through}
use Rattle.sv_model.proofs.FlatFirsts.{marks}
use Rattle.sv_model.proofs.Lists.{total_at}
use Rattle.sv_model.specs.Tasks.{grabs, has_job, job_count, marks_of, Mark, Output, Task}
use Rattle.sv_model.specs.Turns.{IsFresh, IsOutput, IsWritten, Stands, Turns, taken_mark}
use Rattle.sv_rule.proofs.Basics.{every_append, some_is}
use Rattle.sv_rule.proofs.LaterBooks.{in-more}
use Rattle.sv_rule.proofs.Sums.{same-self}

mark-grabs : (n : ℕ) (t : Task) → In (taken_mark n) (marks_of t.job) → 1 ≤ grabs n t
mark-grabs n t h = omega (
  arith,
  total_at (λ (k : Mark). same n k.number) (marks_of t.job) h.at (taken_mark n) h.is,
  same-self n,
)

append_assoc : {A : Type 0} (a b c : List A) → (a ++ b) ++ c ≡ a ++ (b ++ c)
append_assoc [] b c = refl
append_assoc (x ∷ a) b c = ap (λ l. x ∷ l) (append_assoc a b c)

-- the first lists no new number
pub turns-on : (l : ℕ) (a b c : Books) (t u w : Task) (m n : List Write) → Turns l a t b u m → Turns l b u c w n
    → ((k : ℕ) → In k u.listed → In k t.listed) → Turns l a t c w (m ++ n)
turns-on l a b c t u w m n h k lists =
    let p = h.counts in
    let q = k.counts in
    record {
      counts = record {
        lawful = q.lawful;
        later = after-through a b c p.later q.later;
        journal = q.journal ∙ ap (λ j. j ++ n) p.journal ∙ append_assoc a.journal m n;
        own = every_append (λ z. z.lane ≡ l) m n p.own q.own;
        outputs = λ i. omega (arith, p.outputs i, q.outputs i);
        grabbed = λ i. omega (arith, p.grabbed i, q.grabbed i);
        removed = λ i. omega (arith, p.removed i, q.removed i);
        ended = λ i. omega (arith, p.ended i, q.ended i);
        jobs = omega (arith, p.jobs, q.jobs);
        holds = omega (arith, p.holds, q.holds);
        others_hold = λ i ne. q.others_hold i ne ∙ p.others_hold i ne;
        handles = λ f. omega (arith, p.handles f, q.handles f);
        others_handle = λ i f ne. q.others_handle i f ne ∙ p.others_handle i f ne;
        default = q.default ∙ p.default;
        output = λ o e. ⊎_elim
            (λ (x : IsOutput u o). ⊎_elim
            (λ (y : IsOutput t x.was). inl (record { was = y.was; is = y.is; same = x.same ∙ y.same }))
            (λ (y : IsFresh a b x.was). inr (record {
              covered = subst (λ z. In z c.metas) (sym x.same)
                  (in-more b.metas c.metas q.later.metas x.was.meta y.covered);
              next = omega (arith, y.next, ap (λ z. z.number) x.same);
              unwritten = unwritten o x.was e x.is y.unwritten o.written refl;
            }))
            (p.output x.was x.is))
            (λ (x : IsFresh b c o). inr (record {
              covered = x.covered;
              next = omega (arith, x.next, p.later.next);
              unwritten = x.unwritten;
            }))
            (q.output o e);
        gone = λ i g. ⊎_elim (λ y. inl y) (λ y. inr (mark-grabs i t y)) (gone i g);
        begins = λ none_had one i ne. ⊎_elim
            (λ (z : has_job u ≡ 0). sym (p.others_hold i ne) ∙ q.begins z one i ne)
            (λ (z : has_job u ≡ 1). p.begins none_had z i ne)
            (job_cases u.job);
        quiet = q.quiet;
        loud = q.loud;
        listed = λ i x e. ⊎_elim (λ (y : In x u.listed). inl (lists x y)) (λ y. inr y) (q.listed i x e);
      };
      written = λ o e wr. h.written o (k.written o e wr) wr;
      live = λ i g. ⊎_elim (h.live i) (λ (y : IsWritten u i). inr
          (record { it = y.it; is = h.written y.it y.is y.written; number = y.number; written = y.written }))
          (k.live i g);
      gone = gone;
      marks = λ x has tk. h.marks x (k.marks x has tk) tk;
    }
  where
    gone : (i : ℕ) → 1 ≤ having is_gone i c.files.numbers → (1 ≤ having is_gone i a.files.numbers)
        ⊎ In (taken_mark i) (marks_of t.job)
    gone i g = ⊎_elim (λ y. h.gone i y) (λ y. inr (h.marks (taken_mark i) y refl)) (k.gone i g)

    unwritten : (o was : Output) → w.output ≡ Some o → u.output ≡ Some was → was.written ≡ false → (q : Bool)
        → o.written ≡ q → o.written ≡ false
    unwritten o was e is none_was false z = z
    unwritten o was e is none_was true z = ap (λ y. y.written) (some_is (sym (k.written o e z) ∙ is)) ∙ none_was

    job_cases : (o : Option (List Mark)) → (job_count o ≡ 0) ⊎ (job_count o ≡ 1)
    job_cases None = inl refl
    job_cases (Some marks) = inr refl

pub stands-on : (a b c : Books) → Stands a b → Stands b c → Stands a c
stands-on a b c h k = record {
  supers = k.supers ∙ h.supers;
  tops = k.tops ∙ h.tops;
  memtables = k.memtables ∙ h.memtables;
  families = record {
    goes = λ f x at. let y = h.families.goes f x at in let z = k.families.goes f y.0 y.1 in (z.0, z.1, z.2 ∙ y.2);
    long = omega (arith, h.families.long, k.families.long);
  };
  long = k.long ∙ h.long;
}
