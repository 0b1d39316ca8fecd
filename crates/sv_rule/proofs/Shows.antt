-- What a number load shows: no serial below one that was shown before, and a current of a family that the lane may use.
use Rattle.std.proofs.Common.{Bool, List, None, Option, Some, [], ap, arith, cond, false, length, map, ne_eqb, refl, slice_get, subst, suc, sym, true, zero, ℕ, ⊎_elim, ◌&&◌, ◌+◌, ◌/◌, ◌<◌, ◌==◌, ◌∙◌, ◌∷◌, ◌≡◌, ◌≤◌}
use mathlib.Core.Logic.{dite}
use mathlib.Core.Option.{some}
use mathlib.Core.Option as maybe
use native.Mathlib.Decide.{dec_le, ℕ_discrete}
use lib.ListN.{get_elem?}
use Rattle.atomic_table.specs.Table.{State}
use Rattle.sv_model.specs.Books.{Books}
use Rattle.sv_model.specs.Cells.{Cell}
use Rattle.sv_model.specs.Families.{is_retired}
use Rattle.sv_model.specs.Lists.{In, bit, times, total, at}
use Rattle.sv_model.specs.declared.records.Family.{Family}
use Rattle.sv_model.specs.declared.records.Top.{Top}
use Rattle.sv_rule.specs.Fresh.{Past}
use Rattle.sv_rule.specs.Home.{Seats}
use Rattle.sv_rule.specs.InHand.{IsClosing}
use Rattle.sv_rule.specs.Rule.{Kept}
use Rattle.sv_model.specs.Supers.{IsPackOf, current_of}
use Rattle.sv_model.specs.Tasks.{handle, handle_in}
use Rattle.sv_rule.specs.Table.{number}
use Rattle.sv_rule.specs.Tasks.{handles_of, is_spent, joined_count, some_count}
use Rattle.sv_rule.specs.UnderWay.{excepts}
use Rattle.sv_rule.specs.Views.{Body, Desk, Disk, LaneView}
use Rattle.sv_rule.specs.declared.parts.Stored.{Stored}
use Rattle.sv_rule.proofs.Assembly.{low_id}
use Rattle.sv_rule.proofs.Basics.{true_not}
use Rattle.sv_rule.proofs.CurrentLaws.{current_big, get_lt, one_pack, some-at}
use Rattle.sv_rule.proofs.StepLaws.{view_le}
use Rattle.sv_rule.proofs.Sums.{cond-is, term_le, terms_le}

is_alive : LaneView → ℕ
is_alive v = cond v.seat.spent 0 1

each_counts : (b : Bool) → ◌≡◌ {A = ℕ} (cond b 1 0 + cond b 0 1) 1
each_counts true = refl
each_counts false = refl

all_count : (vs : List LaneView) → total is_spent vs + total is_alive vs ≡ length vs
unfolding is_alive
all_count [] = refl
all_count (v ∷ vs) = omega (arith, all_count vs, each_counts v.seat.spent)

-- where a view has all other seats joined, it alone is not spent
pub only-alive : {S : Type 0} (s : State S LaneView) (sh : Seats s) (j id : ℕ) (u v : LaneView)
    → get_elem? s.views j ≡ some u → get_elem? s.views id ≡ some v → length s.views ≤ length u.joined + 1
    → u.seat.spent ≡ false → v.seat.spent ≡ false → j ≡ id
unfolding is_alive
only-alive s sh j id u v at_u at_v all alive alive' = dite (ℕ_discrete j id) (λ e. e)
    (λ n. let one : Bool → ℕ = λ y. cond y 0 1 in
    absurd (omega (
      arith,
      terms_le is_alive s.views id j v u n at_v at_u,
      all_count s.views,
      term_le joined_count s.views j u at_u,
      sh.joined,
      ap one alive,
      ap one alive',
    )))

pub shown-rises : (b : Books) (n f p : ℕ) → 256 ≤ n → (256 ≤ n → IsPackOf b.supers f n) → (256 ≤ p → Past b n f p)
    → p ≤ n
shown-rises b n f p big is past = dite (dec_le 256 p)
    (λ z. let k = past z in dite (ℕ_discrete (p / 256) (n / 256))
    (λ e. omega (arith, one_pack b.supers f f p n k.is (is big) e)) (λ ne. omega (arith, k.below (omega arith))))
    (λ z. omega arith)

-- ---- handles

bits_at : (l : List Bool) (i : ℕ) → at 0 (map bit l) i ≤ total bit l
bits_at [] i = omega arith
bits_at (x ∷ l) zero = omega arith
bits_at (x ∷ l) (suc i) = omega (arith, bits_at l i)

handle_has : (families : List Family) (l f : ℕ) → 1 ≤ handle families l f → (x : Family)
    × (slice_get families f ≡ Some x) × (is_retired x ≡ false)
handle_has families l f h = by (slice_get families f) refl
  where
    not_zero : (d : Bool) (n : ℕ) → 1 ≤ n → (d && (n == 0)) ≡ false
    not_zero true n h = ne_eqb n 0 (λ e. omega arith)
    not_zero false n h = refl

    by : (o : Option Family) → slice_get families f ≡ o → (x : Family) × (slice_get families f ≡ Some x)
        × (is_retired x ≡ false)
    by None e = absurd (omega (arith, ap (handle_in l) e))
    by (Some x) e = (
      x,
      e,
      not_zero x.dropped (total bit x.handles)
          (omega (arith, ap (handle_in l) e, bits_at x.handles l)),
    )

module _ {S D C B : Type 0} (books : S → Books) (disk : D → Disk) (cell : C → Option Cell) (body : B → Body)
    (s : State (Stored S D C B) LaneView) (kept : Kept books disk cell body s) (id : ℕ) (v : LaneView)
    (me : get_elem? s.views id ≡ some v) (f : ℕ) (near : f < 16) (alive : v.seat.spent ≡ false)
    (has : 1 ≤ times f v.known.task.handles) where
  lane_low : v.known.lane < 32
  lane_low = omega (arith, kept.home.seats.ordered id v me alive, low_id books disk cell body s kept id v v me)

  -- what the books have of the lane's handle
  book_handle : 1 ≤ handle kept.b.families v.known.lane f
  book_handle = dite (ℕ_discrete f 0)
      (λ e. omega (arith, kept.in_hand.default v.known.lane lane_low, ap (handle kept.b.families v.known.lane) e))
      (λ n. omega (
        arith,
        kept.in_hand.handles v.known.lane f (omega arith),
        view_le (handles_of v.known.lane f) s.views id v me,
        cond-is v.known.lane v.known.lane (times f v.known.task.handles) refl,
      ))

  -- a family of which the lane has a handle has a current, unless the lane ended it
  pub handle-current : (In f v.seat.ends → ⊥) → 256 ≤ current_of kept.b f
  handle-current stays_on =
      let x = handle_has kept.b.families v.known.lane f book_handle in
      let t = some-at kept.b.tops f (omega (arith, get_lt kept.b.families f x.0 x.1, kept.numbers.lawful.paired)) in
      by x.0 x.1 x.2 t.0 t.1 t.0.current refl
    where
      same_lanes : (j : ℕ) (u : LaneView) → get_elem? s.views j ≡ some u → IsClosing f u → j ≡ id
      same_lanes j u at_u k = only-alive s kept.home.seats j id u v at_u me
          (omega (arith, k.all, kept.home.seats.told j u at_u k.alive, kept.home.seats.views)) k.alive alive

      by : (x : Family) → slice_get kept.b.families f ≡ Some x → is_retired x ≡ false → (t : Top)
          → slice_get kept.b.tops f ≡ Some t → (o : Option ℕ) → t.current ≡ o → 256 ≤ current_of kept.b f
      by x at open_still t on None e = absurd (⊎_elim
          (λ (z : is_retired x ≡ true). true_not (sym z ∙ open_still))
          (λ (z : (j : ℕ) × (u : LaneView) × (get_elem? s.views j ≡ some u) × IsClosing f u). stays_on
          (subst (λ (y : LaneView). In f y.seat.ends)
          (maybe.some-injective z.1 v (sym z.2 ∙ (ap (get_elem? s.views) (same_lanes z.0 z.1 z.2 z.3) ∙ me)))
          z.3.ends))
          (kept.in_hand.currents.others f x t at on e))
      by x at open_still t on (Some k) e = current_big kept.b kept.numbers.lawful
          f record { family = x; family_at = at; top = t; top_at = on; serial = k; is = e }

  -- and its number word shows one, to a lane without the DB lock
  pub handle-shows : v.locks.db ≡ None → (In f v.seat.ends → ⊥) → 256 ≤ number s f
  handle-shows no_lock stays_on =
      let big = handle-current stays_on in
      let o = kept.numbers.word f near in
      dite (ℕ_discrete (excepts f kept.work) 0)
      (λ z. omega (arith, o.current z))
      (λ n. dite (dec_le 256 (number s f)) (λ z. z)
      (λ z. absurd (omega (
        arith,
        has,
        kept.in_hand.silent f near (omega arith) (o.marks (omega arith)) id v me
            (ap (λ (k : Option Desk). some_count k) no_lock),
      ))))
