-- Work in hand, where the books in hand change.
use Rattle.std.proofs.Common.{Bool, List, None, Option, Some, [], ap, arith, cond, false, refl, set, slice_get, subst, sym, true, ℕ, ⊎_elim, ◌++◌, ◌+◌, ◌<◌, ◌==◌, ◌∙◌, ◌≡◌, ◌≢◌, ◌≤◌, ◌⊎◌}
use Rattle.std.proofs.lemmas.List.Elements.{filter-append}
use mathlib.Core.Logic.{dite}
use mathlib.Core.Option.{some}
use mathlib.Core.Option as maybe
use native.Mathlib.Decide.{ℕ_discrete}
use lib.ListN.{get_elem?}
use Rattle.sv_model.specs.Books.{Books}
use Rattle.sv_model.specs.Journal.{by_lane}
use Rattle.sv_model.specs.Lawful.{Lawful}
use Rattle.sv_model.specs.Lists.{Every, In, same, times, total, at}
use Rattle.sv_model.specs.Numbers.{IsRegistered, having, is_grabbed, is_live, is_pending}
use Rattle.sv_model.specs.Registers.{entry}
use Rattle.sv_model.specs.declared.records.FileStatus.TheVariants.{Gone}
use Rattle.sv_model.specs.declared.records.Snapshot.{Snapshot}
use Rattle.sv_model.specs.declared.writes.Write.{Write}
use Rattle.sv_model.proofs.Lists.{times_in, total_at}
use Rattle.sv_rule.specs.Fits.{IsGoneSnapshot}
use Rattle.sv_rule.specs.InHand.{Accounts, CurrentsStand, IsQuiet, IsThere, WorkHeld}
use Rattle.sv_rule.specs.Sums.{Each}
use Rattle.sv_model.specs.Tasks.{gone_count, gone_snapshot, grabs, handle, has_job, has_output, Output, Task}
use Rattle.sv_model.specs.Turns.{IsFresh, IsOutput, OwnTurns}
use Rattle.sv_rule.specs.Tasks.{endings, faults, handles_of, has_db, holds_of, lanes, own_lane, removals}
use Rattle.sv_rule.specs.UnderWay.{excepts}
use Rattle.sv_rule.specs.Views.{Disk, Joined, Known, LaneView, Start, Work}
use Rattle.sv_rule.proofs.Basics.{append_none, each_other, each_set, get_none, true_not}
use Rattle.sv_rule.proofs.FitLaws.{fits-after}
use Rattle.sv_rule.proofs.LaterBooks.{in-more}
use Rattle.sv_rule.proofs.Statuses.{gone-registered}
use Rattle.sv_rule.proofs.StepLaws.{view_le, view_same}
use Rattle.sv_rule.proofs.Sums.{cond-else, cond-is, same_one, terms_le, total-set, total_none}
use Rattle.sv_rule.proofs.OwnTurnLaws.{job_most, no_grabs, other_lanes, push_or, there-stays}

module _ (a b : Books) (work work' : Work) (start : Start) (disk disk' : Disk) (number number' : ℕ → ℕ)
    (vs : List LaneView) (id : ℕ) (v w : LaneView) (l : ℕ) (more : List Write)
    (me : get_elem? vs id ≡ some v) (before : Lawful a) (apart : (k : ℕ) → total (lanes k) vs ≤ 1)
    (alive : v.seat.spent ≡ false) (lane : v.known.lane ≡ l) (spent : w.seat.spent ≡ v.seat.spent)
    (same_lane : w.known.lane ≡ v.known.lane) (joined : w.joined ≡ v.joined)
    (c : OwnTurns l a v.known.task b w.known.task more) (held : WorkHeld a work start disk number vs) where
  abbrev t : Task
  t = v.known.task

  abbrev u : Task
  u = w.known.task

  abbrev ws : List LaneView
  ws = set vs id w

  alive_lane : (s : Bool) (o : Known) (k : ℕ) → s ≡ false → o.lane ≡ k → own_lane k s o ≡ 1
  alive_lane s o k e is = ap (λ z. cond z 0 (same k o.lane)) e ∙ same_one k o.lane is

  -- the lane of another view is another one
  pub apart-view : (j : ℕ) (x : LaneView) → j ≢ id → get_elem? vs j ≡ some x → x.seat.spent ≡ false → x.known.lane ≢ l
  apart-view j x n at_x e is = absurd (omega (
    arith,
    terms_le (lanes l) vs id j v x n me at_x,
    alive_lane v.seat.spent v.known l alive lane,
    alive_lane x.seat.spent x.known l e is,
    apart l,
  ))

  joined_one : (x : LaneView) (i : ℕ) (o : Joined) → slice_get x.joined i ≡ Some o → o.known.lane ≡ l
      → 1 ≤ total (λ o. same l o.known.lane) x.joined
  joined_one x i o e is = omega (
    arith,
    total_at (λ (o : Joined). same l o.known.lane) x.joined i o e,
    same_one l o.known.lane is,
  )

  pub apart-joined : (j : ℕ) (x : LaneView) → get_elem? vs j ≡ some x → (i : ℕ) (o : Joined)
      → slice_get x.joined i ≡ Some o → o.known.lane ≢ l
  apart-joined j x at_x i o e is = dite (ℕ_discrete j id)
      (λ (h : j ≡ id). let same_view : some v ≡ some x = sym me ∙ ap (get_elem? vs) (sym h) ∙ at_x in
      let here : 1 ≤ total (λ o. same l o.known.lane) v.joined = joined_one v i o
      (ap (λ (z : LaneView). slice_get z.joined i) (maybe.some-injective v x same_view) ∙ e) is in
      absurd (omega (arith, view_le (lanes l) vs id v me, alive_lane v.seat.spent v.known l alive lane, apart l)))
      (λ h. absurd (omega (
        arith,
        terms_le (lanes l) vs id j v x h me at_x,
        alive_lane v.seat.spent v.known l alive lane,
        joined_one x i o e is,
        apart l,
      )))

  others_account : (o : Known) → o.lane ≢ l → Accounts a o → Accounts b o
  others_account o n h = record {
    fits = fits-after a b c.later c.lawful o h.fits;
    mine = ap (by_lane o.lane) c.journal ∙ filter-append (λ (w : Write). w.lane == o.lane) a.journal more
        ∙ ap (λ z. by_lane o.lane a.journal ++ z) (other_lanes o.lane l more n c.own)
        ∙ sym (append_none (by_lane o.lane a.journal)) ∙ h.mine;
  }

  lanes_same : (k : ℕ) → lanes k w ≡ lanes k v
  lanes_same k = λ i. cond (spent i) 0 (same k (same_lane i)) + total (λ o. same k o.known.lane) (joined i)

  new_outputs : (n : ℕ) → total (λ x. has_output n x.known.task) ws ≡ having is_pending n b.files.numbers
  new_outputs n = omega (
    arith,
    total-set (λ (x : LaneView). has_output n x.known.task) vs id v w me,
    held.outputs n,
    c.outputs n,
  )

  new_grabbed : (n : ℕ) → total (λ x. grabs n x.known.task) ws ≡ having is_grabbed n b.files.numbers
  new_grabbed n = omega (
    arith,
    total-set (λ (x : LaneView). grabs n x.known.task) vs id v w me,
    held.grabbed n,
    c.grabbed n,
  )

  new_jobs : total (λ x. has_job x.known.task) ws ≡ b.files.jobs
  new_jobs = omega (arith, total-set (λ (x : LaneView). has_job x.known.task) vs id v w me, held.jobs, c.jobs)

  -- while no job is under way nothing is Grabbed
  none_grabbed : b.files.jobs ≡ 0 → (n : ℕ) → having is_grabbed n b.files.numbers ≡ 0
  none_grabbed z n = sym (new_grabbed n) ∙ total_none (λ (x : LaneView). has_job x.known.task)
      (λ (x : LaneView). grabs n x.known.task) ws (λ x e. no_grabs n x.known.task.job e) (new_jobs ∙ z)

  pub stays-there : b.files.jobs ≡ 0 → (n : ℕ) → IsThere a n → IsThere b n
  stays-there z n there = there-stays a b l t u more c before n
      (omega (arith, view_le (λ (x : LaneView). has_output n x.known.task) vs id v me, held.outputs n))
      (none_grabbed z n)
      (omega (arith, view_le (λ (x : LaneView). grabs n x.known.task) vs id v me, held.grabbed n))
      there

  -- where another lane is quiet no job begins
  pub others-quiet : (j : ℕ) (x : LaneView) → j ≢ id → get_elem? vs j ≡ some x → x.seat.spent ≡ false
      → IsQuiet a x.known.task → b.files.jobs ≡ 0
  others-quiet j x n at_x e q =
      let n' = apart-view j x n at_x e in
      let holding : 0 < at 0 a.files.holds x.known.lane = omega (
        arith,
        held.holds x.known.lane,
        view_le (holds_of x.known.lane) vs j x at_x,
        cond-is x.known.lane x.known.lane x.known.task.holds refl,
        q.holds,
      ) in
      let resting : has_job t ≡ 0 = omega (
        arith,
        view_le (λ (y : LaneView). has_job y.known.task) vs id v me,
        held.jobs,
        q.jobs,
      ) in
      let not_begun : has_job u ≡ 1 → ⊥ = λ h. omega (arith, c.begins resting h x.known.lane n', holding) in
      let most = job_most u.job in
      let no_job : has_job u ≡ 0 = grind (arith, not_begun, most) in
      omega (arith, c.jobs, q.jobs, resting, no_job)

  -- what the lane removed and ended is Gone
  pub removed-turn : Every (λ n. IsRegistered b.files.numbers n Gone) u.removed
  removed-turn i n e = gone-registered n b.files.numbers
      (omega (
        arith,
        c.removed n,
        view_le (removals n) vs id v me,
        held.removed n,
        times_in n u.removed (record { at = i; is = e }),
      ))

  pub ended-turn : Every (IsGoneSnapshot b.snapshots) u.ended
  ended-turn i n e = by (entry b.snapshots n) refl (omega
      (arith, c.ended n, view_le (endings n) vs id v me, held.ended n, times_in n u.ended (record { at = i; is = e })))
    where
      by_live : (s : Snapshot) → entry b.snapshots n ≡ Some s → (q : Bool) → s.live ≡ q → 1 ≤ cond q 0 1
          → IsGoneSnapshot b.snapshots n
      by_live s at true e h = absurd (omega arith)
      by_live s at false e h = (s, at, e)

      by : (o : Option Snapshot) → entry b.snapshots n ≡ o → 1 ≤ gone_snapshot n b.snapshots
          → IsGoneSnapshot b.snapshots n
      by None e h = absurd (omega (arith, ap gone_count e))
      by (Some s) e h = by_live s e s.live refl (omega (arith, ap gone_count e))

  pub work-turns : Accounts b w.known → w.known.start ≡ v.known.start → CurrentsStand b ws
      → ((f : ℕ) → f < 16 → 0 < excepts f work' → number' f ≡ 0
      → Each (λ j x. has_db x ≡ 0 → times f x.known.task.handles ≡ 0) ws)
      → (start.disk.faults + total faults ws ≤ disk'.faults) ⊎ (18446744073709551615 ≤ disk'.faults)
      → WorkHeld b work' start disk' number' ws
  work-turns mine same_start currents silent risen = record {
    outputs = new_outputs;
    metas = each_set (λ j x. (o : Output) → x.known.task.output ≡ Some o → In o.meta b.metas) vs id w
        (λ o e. ⊎_elim
        (λ (h : IsOutput t o). subst (λ m. In m b.metas) (sym h.same)
        (in-more a.metas b.metas c.later.metas h.was.meta (held.metas id v me h.was h.is)))
        (λ (h : IsFresh a b o). h.covered) (c.output o e))
        (λ j x at_x o e. in-more a.metas b.metas c.later.metas o.meta (held.metas j x at_x o e));
    grabbed = new_grabbed;
    jobs = new_jobs;
    removed = λ n. omega (
      arith,
      total-set (removals n) vs id v w me,
      held.removed n,
      c.removed n,
      ap (λ (os : List Joined). total (λ o. times n o.known.task.removed) os) joined,
    );
    ended = λ n. omega (
      arith,
      total-set (endings n) vs id v w me,
      held.ended n,
      c.ended n,
      ap (λ (os : List Joined). total (λ o. times n o.known.task.ended) os) joined,
    );
    holds = λ k. dite (ℕ_discrete k l)
        (λ is. omega (
          arith,
          total-set (holds_of k) vs id v w me,
          held.holds k,
          c.holds,
          ap (at 0 b.files.holds) is,
          ap (at 0 a.files.holds) is,
          cond-is v.known.lane k t.holds (lane ∙ sym is),
          cond-is w.known.lane k u.holds (same_lane ∙ lane ∙ sym is),
        ))
        (λ n. omega (
          arith,
          total-set (holds_of k) vs id v w me,
          held.holds k,
          c.others_hold k n,
          cond-else v.known.lane k t.holds (λ e. n (sym e ∙ lane)),
          cond-else w.known.lane k u.holds (λ e. n (sym e ∙ same_lane ∙ lane)),
        ));
    handles = λ k f pos. dite (ℕ_discrete k l)
        (λ is. omega (
          arith,
          total-set (handles_of k f) vs id v w me,
          held.handles k f pos,
          c.handles f,
          ap (λ z. handle b.families z f) is,
          ap (λ z. handle a.families z f) is,
          cond-is v.known.lane k (times f t.handles) (lane ∙ sym is),
          cond-is w.known.lane k (times f u.handles) (same_lane ∙ lane ∙ sym is),
        ))
        (λ n. omega (
          arith,
          total-set (handles_of k f) vs id v w me,
          held.handles k f pos,
          c.others_handle k f n,
          cond-else v.known.lane k (times f t.handles) (λ e. n (sym e ∙ lane)),
          cond-else w.known.lane k (times f u.handles) (λ e. n (sym e ∙ same_lane ∙ lane)),
        ));
    default = λ k few. dite (ℕ_discrete k l)
        (λ is. omega (
          arith,
          c.handles 0,
          c.default,
          ap (λ z. handle b.families z 0) is,
          ap (λ z. handle a.families z 0) is,
          held.default k few,
        ))
        (λ n. c.others_handle k 0 n ∙ held.default k few);
    own_default = each_set (λ j x. x.seat.spent ≡ false → times 0 x.known.task.handles ≡ 1) vs id w
        (λ e. c.default ∙ held.own_default id v me alive) held.own_default;
    spent = each_set (λ j x. x.seat.spent ≡ true → (x.known.task.holds ≡ 0)
        × ((f : ℕ) → times f x.known.task.handles ≡ 0)) vs id w (λ e. absurd (true_not (sym e ∙ spent ∙ alive)))
        held.spent;
    quiet = each_other (λ j x. x.seat.spent ≡ false → x.known.task.quiet ≡ true → IsQuiet b x.known.task) vs id w
        (λ _ e. let q = c.quiet e in record {
          holds = q.0;
          jobs = q.1;
          listed = λ i n h. ⊎_elim
              (λ (old : In n t.listed). stays-there q.1 n (was_listed n old t.quiet refl))
              (λ (new : 1 ≤ having is_live n b.files.numbers). omega arith)
              (c.listed i n h);
        })
        (λ j x n at_x e is. let q = held.quiet j x at_x e is in let no_jobs = others-quiet j x n at_x e q in record {
          holds = q.holds;
          jobs = no_jobs;
          listed = λ i m h. stays-there no_jobs m (q.listed i m h);
        });
    loud = each_set (λ j x. x.known.task.quiet ≡ false → x.known.task.listed ≡ []) vs id w c.loud held.loud;
    currents = currents;
    silent = silent;
    starts = each_set (λ j x. x.seat.spent ≡ false → x.known.start ≡ start) vs id w
        (λ e. same_start ∙ held.starts id v me alive) held.starts;
    accounts = each_other (λ j x. x.seat.spent ≡ false → Accounts b x.known) vs id w (λ _. mine)
        (λ j x n at_x e. others_account x.known (apart-view j x n at_x e) (held.accounts j x at_x e));
    joined = each_other (λ j x. Every (λ o. Accounts b o.known) x.joined) vs id w
        (λ i o e. let h = ap (λ (z : List Joined). slice_get z i) (sym joined) ∙ e in
        others_account o.known (apart-joined id v me i o h) (held.joined id v me i o h))
        (λ j x n at_x i o e. others_account o.known (apart-joined j x at_x i o e) (held.joined j x at_x i o e));
    opening = held.opening;
    writes = λ i x e from. let few = view_same (lanes x.lane) vs id v w me (lanes_same x.lane) in ⊎_elim
        (λ (old : slice_get a.journal i ≡ Some x). omega (arith, held.writes i x old from))
        (λ (new : In x more). omega (
          arith,
          view_le (lanes x.lane) vs id v me,
          alive_lane v.seat.spent v.known x.lane alive (lane ∙ sym (c.own new.at x new.is)),
        ))
        (push_or a.journal more i x (ap (λ z. slice_get z i) (sym c.journal) ∙ e));
    faults = risen;
  }
    where
      was_listed : (n : ℕ) → In n t.listed → (q : Bool) → t.quiet ≡ q → IsThere a n
      was_listed n old true e = (held.quiet id v me alive e).listed old.at n old.is
      was_listed n old false e = absurd (get_none old.at n
          (ap (λ (z : List ℕ). slice_get z old.at) (sym (held.loud id v me e)) ∙ old.is))
