-- Who may have no current, and a handle of a family whose first current is not shown yet, as the books change.
use Rattle.std.proofs.Common.{List, None, Option, Some, ap, arith, inl, inr, length, refl, set, slice_get, subst, sym, ℕ, ⊎_elim, ◌+◌, ◌<◌, ◌∙◌, ◌≡◌, ◌≢◌, ◌≤◌}
use mathlib.Core.Logic.{dite}
use mathlib.Core.Option.{some}
use mathlib.Core.Option as maybe
use native.Mathlib.Decide.{ℕ_discrete}
use lib.ListN.{get_elem?}
use Rattle.sv_model.specs.Books.{Books}
use Rattle.sv_model.specs.Families.{is_retired}
use Rattle.sv_model.specs.Lawful.{Lawful}
use Rattle.sv_model.specs.Lists.{In, times, at}
use Rattle.sv_model.specs.declared.records.Family.{Family}
use Rattle.sv_rule.specs.InHand.{CurrentsStand, IsClosing}
use Rattle.sv_rule.specs.Sums.{Each}
use Rattle.sv_model.specs.Supers.{current_serial, pack_of_serial}
use Rattle.sv_model.specs.Turns.{NoneRetires, Opens}
use Rattle.sv_rule.specs.Table.{number}
use Rattle.sv_rule.specs.Tasks.{has_db}
use Rattle.sv_rule.specs.UnderWay.{excepts}
use Rattle.sv_rule.specs.Views.{Joined, LaneView, Seat, Work}
use Rattle.sv_rule.proofs.Basics.{each_set, some_is, true_not, views-else, views-here}
use Rattle.sv_rule.proofs.CurrentLaws.{get_lt, some-at}

pub retired-back : (a b : List Family) → NoneRetires a b → length b ≡ length a → (f : ℕ) (y : Family)
    → slice_get b f ≡ Some y → (x : Family) × (slice_get a f ≡ Some x) × (is_retired y ≡ is_retired x)
retired-back a b h long f y at =
    let x = some-at a f (omega (arith, get_lt b f y at, long)) in
    let z = h.goes f x.0 x.1 in
    (x.0, x.1, ap is_retired (some_is (sym at ∙ z.1)) ∙ z.2)

-- a closing view stays one
pub closing-set : (f : ℕ) (vs : List LaneView) (id : ℕ) (v w : LaneView) → get_elem? vs id ≡ some v
    → (w.joined ≡ v.joined) → (w.seat ≡ v.seat) → ((j : ℕ) × (u : LaneView) × (get_elem? vs j ≡ some u) × IsClosing f u)
    → (j : ℕ) × (u : LaneView) × (get_elem? (set vs id w) j ≡ some u) × IsClosing f u
closing-set f vs id v w me joined seat h = dite (ℕ_discrete h.0 id)
    (λ e. let is : h.1 ≡ v = maybe.some-injective h.1 v (sym h.2 ∙ (ap (get_elem? vs) e ∙ me)) in
    let k : IsClosing f v = subst (IsClosing f) is h.3 in (
      id,
      w,
      views-here vs id v w me,
      record {
        all = ap (λ (l : List Joined). length l + 1) joined
            ∙ (k.all ∙ sym (ap (λ (s : Seat). s.lanes) seat));
        alive = ap (λ (s : Seat). s.spent) seat ∙ k.alive;
        ends = subst (λ (s : Seat). In f s.ends) (sym seat) k.ends;
      },
    ))
    (λ n. (h.0, h.1, views-else vs id h.0 w n ∙ h.2, h.3))

module _ (a b : Books) (vs : List LaneView) (id : ℕ) (v w : LaneView) (me : get_elem? vs id ≡ some v)
    (joined : w.joined ≡ v.joined) (seat : w.seat ≡ v.seat) where
  -- currents stand, and no family becomes retired
  pub currents-stand : b.tops ≡ a.tops → NoneRetires a.families b.families → length b.families ≡ length a.families
      → CurrentsStand a vs → CurrentsStand b (set vs id w)
  currents-stand tops none_retires long c = record {
    retired = λ f y t at on is. let x = retired-back a.families b.families none_retires long f y at in
        c.retired f x.0 t x.1 (ap (λ l. slice_get l f) (sym tops) ∙ on) (sym x.2 ∙ is);
    others = λ f y t at on ended. let x = retired-back a.families b.families none_retires long f y at in
        ⊎_elim (λ z. inl (x.2 ∙ z)) (λ z. inr (closing-set f vs id v w me joined seat z))
        (c.others f x.0 t x.1 (ap (λ l. slice_get l f) (sym tops) ∙ on) ended);
  }

  -- a SuperVersion is made
  pub currents-open : (before : Lawful a) (lawful : Lawful b) (f p : ℕ) → 256 ≤ p → Opens a b f p → CurrentsStand a vs
      → CurrentsStand b (set vs id w)
  currents-open before lawful f p big h c = record {
    retired = λ g y t at on is. dite (ℕ_discrete g f)
        (λ e. absurd (true_not (sym is ∙ h.stands y (ap (slice_get b.families) (sym e) ∙ at))))
        (λ n. let x = back g y at n in c.retired g x.0 t x.1 (sym (h.others g n) ∙ on) (sym x.2 ∙ is));
    others = λ g y t at on ended. dite (ℕ_discrete g f)
        (λ e. absurd (omega (
          arith,
          h.current,
          ap (λ o. pack_of_serial b.supers (current_serial o))
              (ap (slice_get b.tops) (sym e) ∙ on),
          ap (pack_of_serial b.supers) ended,
        )))
        (λ n. let x = back g y at n in ⊎_elim (λ z. inl (x.2 ∙ z))
        (λ z. inr (closing-set g vs id v w me joined seat z))
        (c.others g x.0 t x.1 (sym (h.others g n) ∙ on) ended));
  }
    where
      back : (g : ℕ) (y : Family) → slice_get b.families g ≡ Some y → g ≢ f → (x : Family)
          × (slice_get a.families g ≡ Some x) × (is_retired y ≡ is_retired x)
      back g y at n = by (slice_get a.families g) refl
        where
          by : (o : Option Family) → slice_get a.families g ≡ o → (x : Family) × (slice_get a.families g ≡ Some x)
              × (is_retired y ≡ is_retired x)
          by None e = absurd (n (h.fresh g y at e))
          by (Some x) e = let z = h.families.goes g x e in (x, e, ap is_retired (some_is (sym at ∙ z.1)) ∙ z.2)

  -- the silence goes on where no family becomes excepted and the lane with the lock keeps it
  pub silent-stays : (work : Work) (number number' : ℕ → ℕ) → ((f : ℕ) → f < 16 → number' f ≡ number f)
      → (has_db w ≡ 0 → (f : ℕ) → 0 < excepts f work → times f w.known.task.handles ≤ times f v.known.task.handles)
      → (has_db w ≡ 0 → has_db v ≡ 0)
      → ((f : ℕ) → f < 16 → 0 < excepts f work → number f ≡ 0
      → Each (λ j x. has_db x ≡ 0 → times f x.known.task.handles ≡ 0) vs)
      → (f : ℕ) → f < 16 → 0 < excepts f work → number' f ≡ 0
      → Each (λ j x. has_db x ≡ 0 → times f x.known.task.handles ≡ 0) (set vs id w)
  silent-stays work number number' same_numbers no_more lock_keeps all f near excepted z = each_set
      (λ j x. has_db x ≡ 0 → times f x.known.task.handles ≡ 0) vs id w
      (λ none_now. omega (
        arith,
        no_more none_now f excepted,
        all f near excepted (sym (same_numbers f near) ∙ z) id v me (lock_keeps none_now),
      ))
      (all f near excepted (sym (same_numbers f near) ∙ z))

-- nothing is silent where no family is excepted
pub silent-none : (work : Work) (number : ℕ → ℕ) (vs : List LaneView) → ((f : ℕ) → excepts f work ≡ 0) → (f : ℕ)
    → f < 16 → 0 < excepts f work → number f ≡ 0 → Each (λ j x. has_db x ≡ 0 → times f x.known.task.handles ≡ 0) vs
silent-none work number vs none_is f near excepted = absurd (omega (arith, none_is f))
