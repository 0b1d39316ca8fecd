-- The books that stand turn into themselves, and what they have of a lane's own is the lane's.
use Rattle.std.proofs.Common.{Bool, List, [], ap, arith, cond, false, inl, refl, sym, true, ℕ, ◌==◌, ◌∙◌, ◌≡◌, ◌≢◌, ◌≤◌}
use mathlib.Core.Option.{some}
use lib.ListN.{get_elem?}
use Rattle.sv_model.specs.Books.{Books}
use Rattle.sv_model.specs.Lawful.{Lawful}
use Rattle.sv_model.specs.Lists.{same, times, total}
use Rattle.sv_model.specs.Numbers.{having}
use Rattle.sv_model.specs.Summaries.{is_gone}
use Rattle.sv_model.specs.TableTextFields.{start}
use Rattle.sv_model.proofs.AfterLaws.{after-itself}
use Rattle.sv_model.proofs.Lists.{total_at}
use Rattle.sv_rule.specs.InHand.{WorkHeld}
use Rattle.sv_rule.specs.Table.{number}
use Rattle.sv_rule.specs.Tasks.{lanes, own_lane}
use Rattle.sv_model.specs.Tasks.{grabs, has_job, has_output, marks_of, output_count, Mark}
use Rattle.sv_model.specs.Turns.{IsAccounted, Stands, Turns}
use Rattle.sv_rule.specs.Views.{Disk, LaneView, Start, Work}
use Rattle.sv_rule.proofs.Basics.{append_none, get_none}
use Rattle.sv_rule.proofs.StepLaws.{view_le}
use Rattle.sv_rule.proofs.Sums.{cond-else, cond-is, same_one, terms_le, total-one}

pub turns-same : (b : Books) (work : Work) (start : Start) (disk : Disk) (number : ℕ → ℕ) (vs : List LaneView)
    (id : ℕ) (v : LaneView) → get_elem? vs id ≡ some v → v.seat.spent ≡ false → WorkHeld b work start disk number vs
    → Lawful b → Turns v.known.lane b v.known.task b v.known.task []
turns-same b work start disk number vs id v me alive held lawful = record {
  counts = record {
    lawful = lawful;
    later = after-itself b;
    journal = append_none b.journal;
    own = λ i w e. absurd (get_none i w e);
    outputs = λ n. refl;
    grabbed = λ n. refl;
    removed = λ n. refl;
    ended = λ n. refl;
    jobs = refl;
    holds = refl;
    others_hold = λ k n. refl;
    handles = λ f. refl;
    others_handle = λ k f n. refl;
    default = refl;
    output = λ o e. inl (record { was = o; is = e; same = refl });
    gone = λ n h. inl h;
    begins = λ z one. absurd (omega arith);
    quiet = λ e. let q = held.quiet id v me alive e in (q.holds, q.jobs);
    loud = held.loud id v me;
    listed = λ i n e. inl (record { at = i; is = e });
  };
  written = λ o e w. e;
  live = λ n h. inl h;
  gone = λ n h. inl (gone_same n h);
  marks = λ k has t. has;
}
  where
    gone_same : (n : ℕ) → 1 ≤ having is_gone n b.files.numbers → 1 ≤ having is_gone n b.files.numbers
    gone_same n h = h

pub stands-same : (b : Books) → Stands b b
stands-same b = record {
  supers = refl;
  tops = refl;
  memtables = refl;
  families = record { goes = λ f x at. (x, at, refl); long = omega arith };
  long = refl;
}

-- what is counted at the lane's number is the lane's
own_only : (b : Books) (work : Work) (start : Start) (disk : Disk) (number : ℕ → ℕ) (vs : List LaneView) (id : ℕ)
    (v : LaneView) → get_elem? vs id ≡ some v → v.seat.spent ≡ false → ((k : ℕ) → total (lanes k) vs ≤ 1)
    → WorkHeld b work start disk number vs → (h : LaneView → ℕ)
    → ((j : ℕ) (x : LaneView) → get_elem? vs j ≡ some x → x.seat.spent ≡ true → h x ≡ 0)
    → total (λ x. cond (x.known.lane == v.known.lane) (h x) 0) vs ≡ h v
own_only b work start disk number vs id v me alive apart held h nothing =
    total-one (λ (x : LaneView). cond (x.known.lane == v.known.lane) (h x) 0) vs id v me
    (λ j x ne at_x. by j x ne at_x x.seat.spent refl) ∙ cond-is v.known.lane v.known.lane (h v) refl
  where
    lane_one : (x : LaneView) → x.seat.spent ≡ false → x.known.lane ≡ v.known.lane
        → own_lane v.known.lane x.seat.spent x.known ≡ 1
    lane_one x e is = ap (λ z. cond z 0 (same v.known.lane x.known.lane)) e ∙ same_one v.known.lane x.known.lane is

    zero-cond : (q : Bool) (n : ℕ) → n ≡ 0 → cond q n 0 ≡ 0
    zero-cond true n e = e
    zero-cond false n e = refl

    by : (j : ℕ) (x : LaneView) → j ≢ id → get_elem? vs j ≡ some x → (q : Bool) → x.seat.spent ≡ q
        → cond (x.known.lane == v.known.lane) (h x) 0 ≡ 0
    by j x ne at_x true e = zero-cond (x.known.lane == v.known.lane) (h x) (nothing j x at_x e)
    by j x ne at_x false e = cond-else x.known.lane v.known.lane (h x) (λ is.
        omega (
          arith,
          terms_le (lanes v.known.lane) vs id j v x ne me at_x,
          lane_one v alive refl,
          lane_one x e is,
          apart v.known.lane,
        ))

pub accounted : (b : Books) (work : Work) (start : Start) (disk : Disk) (number : ℕ → ℕ) (vs : List LaneView) (id : ℕ)
    (v : LaneView) → get_elem? vs id ≡ some v → v.seat.spent ≡ false → ((k : ℕ) → total (lanes k) vs ≤ 1)
    → WorkHeld b work start disk number vs → IsAccounted v.known.lane b v.known.task
accounted b work start disk number vs id v me alive apart held =
    let t = v.known.task in
    let l = v.known.lane in
    record {
      lawful = (held.accounts id v me alive).fits.lawful;
      quiet = λ e. let q = held.quiet id v me alive e in (q.holds, q.jobs);
      loud = held.loud id v me;
      holds = sym (held.holds l) ∙ own_only b work start disk number vs id v me alive apart held
          (λ x. x.known.task.holds) (λ j x at_x e. (held.spent j x at_x e).0);
      handles = λ f pos. sym (held.handles l f pos) ∙ own_only b work start disk number vs id v me alive apart held
          (λ x. times f x.known.task.handles) (λ j x at_x e. (held.spent j x at_x e).1 f);
      default = held.own_default id v me alive;
      output = λ o e. (
        omega (
          arith,
          view_le (λ (x : LaneView). has_output o.meta.number x.known.task) vs id v me,
          held.outputs o.meta.number,
          ap (output_count o.meta.number) e,
          same_one o.meta.number o.meta.number refl,
        ),
        held.metas id v me o e,
      );
      job = λ k h. omega (
        arith,
        view_le (λ (x : LaneView). grabs k.number x.known.task) vs id v me,
        held.grabbed k.number,
        total_at (λ (x : Mark). same k.number x.number) (marks_of t.job) h.at k h.is,
        same_one k.number k.number refl,
      );
      jobs = omega (arith, view_le (λ (x : LaneView). has_job x.known.task) vs id v me, held.jobs);
    }
