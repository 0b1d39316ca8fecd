-- What the last seat finds, where its lane has nothing in hand.
use Rattle.std.proofs.Common.{List, None, Option, Some, [], ap, arith, inl, inr, refl, subst, suc, sym, zero, ℕ, ⊎_elim, ◌+◌, ◌<◌, ◌==◌, ◌∙◌, ◌∷◌, ◌≡◌, ◌≢◌, ◌≤◌, ◌/◌, ◌%◌}
use Rattle.sv_model.specs.Tasks.{grabs, has_job, has_output, job_count, marks_of, output_count, Mark}
use Rattle.sv_model.specs.Supers.{LiveAt, current_of, pack}
use mathlib.Core.Logic.{dite}
use mathlib.Core.Option as maybe
use mathlib.Core.Option.{some}
use native.Mathlib.Decide.{ℕ_discrete}
use lib.ListN.{get_elem?}
use Rattle.atomic_table.specs.Table.{State}
use Rattle.sv_model.specs.Books.{Books}
use Rattle.sv_model.specs.Cells.{Cell}
use Rattle.sv_model.specs.Files.{Files}
use Rattle.sv_model.specs.HeldFiles.{FilesHold}
use Rattle.sv_model.specs.Lists.{same, times, total, at}
use Rattle.sv_model.specs.Numbers.{having}
use Rattle.sv_model.specs.Summaries.{is_gone}
use Rattle.sv_rule.specs.Blanks.{nobody}
use Rattle.sv_rule.specs.Closings.{IsEnd}
use Rattle.sv_rule.specs.Held.{FilesHeld, Told}
use Rattle.sv_rule.specs.Ledger.{Counted, Vacant}
use Rattle.sv_rule.specs.Rule.{Kept}
use Rattle.sv_rule.specs.SeatPlays.{IsIdle, IsLast}
use Rattle.sv_rule.specs.Sums.{below}
use Rattle.sv_rule.specs.Table.{cached_at, holders, holds, number, owers, owes, reference, slot, slot_at, spot}
use Rattle.sv_rule.specs.Tasks.{faults, handles_of, holds_of, removals}
use Rattle.sv_rule.specs.UnderWay.{excepts}
use Rattle.sv_rule.specs.Views.{Body, Disk, LaneView, Start, idle}
use Rattle.sv_rule.specs.declared.parts.Stored.{Stored}
use Rattle.sv_rule.proofs.Sums.{at-is, by_less, marked, same-else, total-one}
use Rattle.sv_rule_seats.proofs.Closes.{others_spent, state_home}
use Rattle.sv_rule_seats.proofs.FirstBooks.{below-zero}
use Rattle.sv_rule_seats.proofs.SeatJoins.{idle_holds}
use Rattle.sv_rule_seats.proofs.SeatWork.{zero-cond}

-- where a sum is not 0, a term is not
pub below-some : (g : ℕ → ℕ) (n : ℕ) → 0 < below g n → (k : ℕ) × (k < n) × (0 < g k)
unfolding below
below-some g zero h = absurd (omega arith)
below-some g (suc n) h = by_less 0 (g n)
    (λ l. (n, omega arith, l))
    (λ l. let r = below-some g n (omega arith) in (r.0, omega (arith, r.1), r.2))

same-is : (p x : ℕ) → 0 < same p x → x ≡ p
same-is p x h = dite (ℕ_discrete x p) (λ e. e) (λ n. absurd (omega (arith, h, same-else p x n)))

told-map : (P Q : Files → Files → Type 0) → ((x y : Files) → P x y → Q x y) → (a b : Option Files) → Told P a b
    → Told Q a b
told-map P Q h None None t = tt
told-map P Q h (Some x) (Some y) t = h x y t
told-map P Q h (Some x) None t = t
told-map P Q h None (Some y) t = t

module _ {S D C B : Type 0} (books : S → Books) (disk : D → Disk) (cell : C → Option Cell) (body : B → Body)
    (s : State (Stored S D C B) LaneView) (kept : Kept books disk cell body s) (id : ℕ) (v : LaneView)
    (me : get_elem? s.views id ≡ some v) (last : IsLast v) (bare : IsIdle v) where
  -- every other seat was joined, and has nothing
  nobody_else : (j : ℕ) (u : LaneView) → j ≢ id → get_elem? s.views j ≡ some u → u ≡ nobody
  nobody_else j u n e = kept.home.seats.spent j u e (others_spent books disk cell body s kept id v me last j u n e)

  -- what is counted over all views is the lane's
  own_count : (g : LaneView → ℕ) → g nobody ≡ 0 → total g s.views ≡ g v
  own_count g z = total-one g s.views id v me (λ j u n e. ap g (nobody_else j u n e) ∙ z)

  -- no lane cached anything
  none_cached : (l f : ℕ) → cached_at s.views l f ≡ 0
  none_cached l f = dite (ℕ_discrete l id)
      (λ e. ap (λ (y : LaneView). at 0 y.slots.cached f) (ap (at nobody s.views) e ∙ at-is nobody s.views id v me)
      ∙ bare.cached f)
      (λ n. by_view l n (get_elem? s.views l) refl)
    where
      past : (vs : List LaneView) (k : ℕ) → get_elem? vs k ≡ maybe.none → at nobody vs k ≡ nobody
      past [] k e = refl
      past (x ∷ vs) zero e = absurd (cc)
      past (x ∷ vs) (suc k) e = past vs k e

      by_view : (k : ℕ) → k ≢ id → (o : maybe.Option LaneView) → get_elem? s.views k ≡ o
          → cached_at s.views k f ≡ 0
      by_view k n o e = elim o as (λ z. get_elem? s.views k ≡ z → cached_at s.views k f ≡ 0) [
        | maybe.none ↦ λ y. ap (λ (y : LaneView). at 0 y.slots.cached f) (past s.views k y)
        | maybe.some u ↦
            λ y. ap (λ (y : LaneView). at 0 y.slots.cached f) (at-is nobody s.views k u y ∙ nobody_else k u n y)
      ] e

  rests : kept.work ≡ idle
  rests = (state_home books disk cell body s kept id v me last).3

  no_pack : (i : ℕ) → i < 512 → slot s i < 256
  no_pack i l = let lane : ℕ = i / 16 in let f : ℕ = i % 16 in
      let is : spot lane f ≡ i = omega arith in
      let r = kept.sweep.right lane f (omega arith) (omega arith) in
      by_less (slot s i) 256 (λ small. small)
      (λ big. absurd (omega
      (arith, r.cached (omega (arith, ap (slot s) is)), none_cached lane f, ap (slot s) is)))

  held_by_numbers : (p : ℕ) → 256 ≤ p → holders s p ≡ below (λ f. same p (number s f)) 16
  held_by_numbers p big = omega (
    arith,
    below-zero (λ i. same p (slot s i)) 512 (λ i l. marked p (slot s i) big (no_pack i l)),
    own_count (holds p) refl,
    idle_holds books disk cell body v bare p,
  )

  none_owed : (p : ℕ) → owers s p ≡ 0
  none_owed p = own_count (owes p) refl ∙ ap (total (same p)) bare.owes

  live_current : (t k : ℕ) → k < 256 → LiveAt kept.b.supers t k → (f : ℕ) × (f < 16) × (current_of kept.b f ≡ pack t k)
  live_current t k near live = ⊎_elim
      (λ (x : Vacant kept.b.supers (holders s) (owers s) k (reference s k)). absurd (x.dead t live))
      (λ (x : Counted kept.b.supers (holders s) (owers s) k (reference s k)). held x (x.only t live))
      (kept.ledger.places k near)
    where
      no_zero : (t : ℕ) → LiveAt kept.b.supers t k → t ≡ 0 → ⊥
      no_zero zero live e = cc
      no_zero (suc t) live e = absurd (omega (arith, e))

      held : (x : Counted kept.b.supers (holders s) (owers s) k (reference s k)) → t ≡ x.serial
          → (f : ℕ) × (f < 16) × (current_of kept.b f ≡ pack t k)
      held x is = let p : ℕ = pack x.serial k in
          by_less 0 x.serial
          (λ pos. by_less 0 (holders s p)
          (λ some. let y = below-some (λ f. same p (number s f)) 16
          (omega (arith, some, held_by_numbers p (omega (arith, pos)))) in
          let at_word : number s y.0 ≡ p = same-is p (number s y.0) y.2 in (
            y.0,
            y.1,
            sym ((kept.numbers.word y.0 y.1).current (ap (excepts y.0) rests)) ∙ at_word ∙ ap (λ z. pack z k) (sym is),
          ))
          (λ none. absurd (omega (arith, x.owed (omega (arith, none)), none_owed p))))
          (λ zero. absurd (no_zero t live (is ∙ omega (arith, zero))))

  pub ends : IsEnd kept.b kept.d v
  ends = record {
    own = kept.in_hand.accounts id v me last.alive;
    joined = kept.in_hand.joined id v me;
    live = live_current;
    pending = λ n. sym (kept.in_hand.outputs n) ∙ own_count (λ u. has_output n u.known.task) refl
        ∙ ap (output_count n) bare.output;
    grabbed = λ n. sym (kept.in_hand.grabbed n) ∙ own_count (λ u. grabs n u.known.task) refl
        ∙ ap (λ o. total (λ (m : Mark). same n m.number) (marks_of o)) bare.job;
    jobs = sym kept.in_hand.jobs ∙ own_count (λ u. has_job u.known.task) refl ∙ ap job_count bare.job;
    holds = λ l. sym (kept.in_hand.holds l) ∙ own_count (holds_of l) (zero-cond (0 == l) 0 refl)
        ∙ zero-cond (v.known.lane == l) v.known.task.holds bare.holds;
    handles = λ l f pos. sym (kept.in_hand.handles l f pos) ∙ own_count (handles_of l f) (zero-cond (0 == l) 0 refl)
        ∙ zero-cond (v.known.lane == l) (times f v.known.task.handles)
        (ap (times f) bare.handles ∙ let z : times f (0 ∷ []) ≡ 0 = omega
        (arith, same-else f 0 (λ e. omega (arith, pos, e))) in z);
    removed = λ n. omega (
      arith,
      own_count (removals n) refl,
      kept.in_hand.removed n,
      ap (λ (z : Start). having is_gone n z.books.files.numbers) started,
    );
    files = subst (λ (z : Start). Told (FilesHold kept.b) z.disk.files kept.d.files) (sym started)
        (told-map (λ x y. FilesHeld kept.b x y s.views) (FilesHold kept.b) (λ x y h. h.hold) kept.start.disk.files
        kept.d.files kept.held.files);
    faults = ⊎_elim
        (λ (z : kept.start.disk.faults + total faults s.views ≤ kept.d.faults). inl (omega
        (arith, z, own_count faults refl, ap (λ (y : Start). y.disk.faults) started)))
        (λ (z : 18446744073709551615 ≤ kept.d.faults). inr z) kept.in_hand.faults;
  }
    where
      started : v.known.start ≡ kept.start
      started = kept.in_hand.starts id v me last.alive
