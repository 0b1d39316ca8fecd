-- A lane that made a SuperVersion current, or ended a current, passes the slots of all lanes, drops each reference that
-- its sweep takes, and last the old one.
use Rattle.std.proofs.Common.{Bool, List, Option, Some, [], ap, arith, cond, eq-eqb, false, ne_eqb, refl, subst, sym, true, ℕ, ◌++◌, ◌+◌, ◌<◌, ◌==◌, ◌∙◌, ◌∷◌, ◌≡◌, ◌≤◌}
use Rattle.std.proofs.lemmas.List.{append_assoc}
use Rattle.sv_model.specs.Books.{Books}
use Rattle.sv_model.specs.Lists.{same, total}
use Rattle.sv_model.specs.Tasks.{Task}
use Rattle.sv_rule.proofs.Basics.{append_none, true_not}
use Rattle.sv_rule.proofs.Sums.{cond-is, same-self}
use Rattle.sv_rule.specs.Blanks.{desk_of, old_in, taken_in}
use Rattle.sv_rule.specs.ReferencePlays.{MayDropAt, dropped, has_taken_at, learnt, lowers}
use Rattle.sv_rule.specs.SlotPlays.{reached}
use Rattle.sv_rule.specs.Sums.{without}
use Rattle.sv_rule.specs.SweepPlays.{Sweeps, works}
use Rattle.sv_rule.specs.Views.{Bodied, Desk, LaneView, Work, idle, sweeping}
use Rattle.sv_slots.specs.Installs.{IsPassed, installed, passed_by, retired, swept_on, work_at}
use Rattle.sv_slots.specs.References.{IsMore, NotLast}
use Rattle.sv_slots.specs.declared.refs.Sub.{Sub}

-- ---- lists with one fewer

pub without-first : (p : ℕ) (l : List ℕ) → without p (p ∷ l) ≡ l
without-first p l = ap (λ (b : Bool). cond b l (p ∷ without p l)) (eq-eqb p p refl)

skips : (p x : ℕ) (l : List ℕ) (b : Bool) → (x == p) ≡ b → total (same p) (x ∷ l) ≡ 0
    → (total (same p) l ≡ 0 → without p l ≡ l) → without p (x ∷ l) ≡ x ∷ l
skips p x l true y e h = absurd (omega (arith, e, ap {B = ℕ} (λ (z : Bool). cond z 1 0) y))
skips p x l false y e h = ap (λ (z : Bool). cond z l (x ∷ without p l)) y
    ∙ ap (λ (z : List ℕ). x ∷ z) (h (omega (arith, e)))

pub without_none : (p : ℕ) (l : List ℕ) → total (same p) l ≡ 0 → without p l ≡ l
without_none p [] e = refl
without_none p (x ∷ l) e = skips p x l (x == p) refl e (without_none p l)

-- ---- what the lane has in hand once the sweep begins

-- the reference of the old SuperVersion, where there was one
pub installed-hand : (f r : ℕ) (x : Bodied) (b : Books) (u : Task) (olds : List Bodied) (v : LaneView)
    → (installed f x b u olds r v).hand ≡ reached r v.hand
installed-hand f r x b u olds v = ap (reached r) (without-first x.pack v.hand)

pub retired-hand : (f r : ℕ) (b : Books) (u : Task) (olds : List Bodied) (v : LaneView) → total (same 0) v.hand ≡ 0
    → (retired f b u olds r v).hand ≡ reached r v.hand
retired-hand f r b u olds v none = ap (reached r) (without_none 0 v.hand none)

-- ---- the work

between : (x y : Bool) (w : Work) → y ≡ false → cond x (cond y idle w) w ≡ w
between false y w e = refl
between true false w e = refl
between true true w e = absurd (true_not e)

pub work-under : (lanes f r l : ℕ) → l < lanes → work_at lanes f r l ≡ sweeping f r l false 0
work-under lanes f r l h = between (r == 0) (l == lanes) (sweeping f r l false 0)
    (ne_eqb l lanes (λ e. omega (arith, e, h)))

pub work-old : (lanes f r l : ℕ) → 256 ≤ r → work_at lanes f r l ≡ sweeping f r l false 0
work-old lanes f r l big = ap (λ (b : Bool). cond b (cond (l == lanes) idle (sweeping f r l false 0)) (sweeping f r l false 0))
    (ne_eqb r 0 (λ e. omega (arith, e, big)))

-- ---- the slots are passed, from the view s on

module _ (f r : ℕ) (s : LaneView) where
  abbrev desk_in : Option Desk → Desk
  desk_in o = desk_of (record s { locks = record s.locks { db = o } })

  pub none-passed : (d : Desk) → s.locks.db ≡ Some d → d.work ≡ sweeping f r 0 false 0 → 0 < s.seat.lanes
      → IsPassed f r s 0 s
  none-passed d has is some =
      let at : s.locks.db ≡ Some (record { books = d.books; work = work_at s.seat.lanes f r 0; due = d.due }) = has
      ∙ ap (λ (w : Work). Some (record { books = d.books; work = w; due = d.due }))
      (is ∙ sym (work-under s.seat.lanes f r 0 some)) in
      let desk : d ≡ desk_of s = sym (ap (λ (o : Option Desk). desk_in o) has) in (
        [],
        λ i. record s {
          known = record s.known { bodies = append_none s.known.bodies i };
          locks = record s.locks {
            db = (at ∙ ap (λ (z : Desk). Some (record { books = z.books; work = work_at s.seat.lanes f r 0; due = z.due })) desk) i;
          };
        },
      )

  module _ (l : ℕ) (v : LaneView) (at : IsPassed f r s l v) (more_lanes : l < s.seat.lanes) where
    abbrev swept : LaneView
    swept = learnt at.0 (works (desk_of s) (sweeping f r l false 0) s.hand s)

    is_swept : v ≡ swept
    is_swept = at.1 ∙ ap (λ (w : Work). learnt at.0 (works (desk_of s) w s.hand s))
        (work-under s.seat.lanes f r l more_lanes)

    pub passing : Sweeps v f l false
    passing = subst (λ (z : LaneView). Sweeps z f l false) (sym is_swept) (record { has = refl; work = refl })

    pub same-hand : v.hand ≡ s.hand
    same-hand = ap (λ (z : LaneView). z.hand) is_swept

    -- the slot of lane l cached nothing
    pub passes-none : (w : LaneView) → w ≡ swept_on f l (taken_in (desk_of v).work) v.hand v → IsPassed f r s (l + 1) w
    passes-none w e = (
      at.0,
      e ∙ ap (λ (z : LaneView). swept_on f l (taken_in (desk_of z).work) z.hand z) is_swept,
    )

    -- it cached the old SuperVersion
    module _ (p : ℕ) (x : Bodied) (w : LaneView) (big : 256 ≤ p) (old : p ≡ old_in (desk_of v).work)
        (is : w ≡ learnt (x ∷ []) (swept_on f l (taken_in (desk_of v).work + 1) (p ∷ v.hand) v)) where
      is-old : p ≡ r
      is-old = old ∙ ap (λ (z : LaneView). old_in (desk_of z).work) is_swept

      abbrev took : LaneView
      took = learnt (x ∷ [])
          (learnt at.0 (works (desk_of s) (sweeping f r (l + 1) false 1) (r ∷ s.hand) s))

      is_took : w ≡ took
      is_took = is
          ∙ (ap (λ (z : LaneView). learnt (x ∷ []) (swept_on f l (taken_in (desk_of z).work + 1) (p ∷ z.hand) z)) is_swept
          ∙ (ap (λ (q : ℕ). learnt (x ∷ []) (swept_on f l 1 (q ∷ s.hand) swept)) is-old
          ∙ ap (λ (b : Bool). learnt (x ∷ []) (learnt at.0 (works (desk_of s)
          (cond b (cond (l + 1 == s.seat.lanes) idle (sweeping f r (l + 1) false 1)) (sweeping f r (l + 1) false 1))
          (r ∷ s.hand) s)))
          (ne_eqb r 0 (λ e. omega (arith, e, is-old, big)))))

      pub taken-held : 0 < total (same p) w.hand
      taken-held = subst (λ (q : ℕ). 0 < total (same q) w.hand) (sym is-old)
          (omega (arith, ap (λ (z : LaneView). total (same r) z.hand) is_took, same-self r))

      pub taken-may : MayDropAt p w.seat.lanes w.hand w.locks.db
      taken-may = subst (λ (z : LaneView). MayDropAt p z.seat.lanes z.hand z.locks.db) (sym is_took) tt

      pub taken-more : (answer : Sub) → NotLast p answer w → IsMore answer
      taken-more answer n = n.taken (subst (λ (q : ℕ). 0 < has_taken_at q w.locks.db) (sym is-old)
          (subst (λ (z : LaneView). 0 < has_taken_at r z.locks.db) (sym is_took)
          (omega (arith, cond-is r r 1 refl))))

      abbrev goes : Work → Option Desk
      goes y = Some (record { books = (desk_of s).books; work = y; due = (desk_of s).due })

      pub passes-some : (u : LaneView) → u ≡ dropped p false w → IsPassed f r s (l + 1) u
      passes-some u e = (
        at.0 ++ x ∷ [],
        e
            ∙ ((λ i. dropped (is-old i) false (is_took i))
            ∙ (λ i. record took {
              known = record took.known { bodies = append_assoc s.known.bodies at.0 (x ∷ []) i };
              locks = record took.locks { db = lowered i };
              hand = without-first r s.hand i;
            })),
      )
        where
          lowered : lowers r took.locks.db ≡ goes (work_at s.seat.lanes f r (l + 1))
          lowered = ap (λ (b : Bool). goes (cond b (sweeping f r (l + 1) false 0) (sweeping f r (l + 1) false 1))) (eq-eqb r r refl)
              ∙ ap goes (sym (work-old s.seat.lanes f r (l + 1) (omega (arith, is-old, big))))

  -- ---- all slots are passed

  module _ (v : LaneView) (at : IsPassed f r s s.seat.lanes v) (big : 256 ≤ r) (hand : List ℕ) (has : s.hand ≡ r ∷ hand) where
    abbrev last : LaneView
    last = learnt at.0 (works (desk_of s) (sweeping f r s.seat.lanes false 0) (r ∷ hand) s)

    is_last : v ≡ last
    is_last = at.1 ∙ (λ i. learnt at.0 (works (desk_of s) (work-old s.seat.lanes f r s.seat.lanes big i) (has i) s))

    pub old-held : 0 < total (same r) v.hand
    old-held = omega (arith, ap (λ (z : LaneView). total (same r) z.hand) is_last, same-self r)

    pub old-may : MayDropAt r v.seat.lanes v.hand v.locks.db
    old-may = subst (λ (z : LaneView). MayDropAt r z.seat.lanes z.hand z.locks.db) (sym is_last) (λ _. (refl, refl))

    -- the work is done, and the hand is as before the sweep
    pub old-dropped : (b : Bool) (u : LaneView) → u ≡ dropped r b v
        → u ≡ record (learnt at.0 (works (desk_of s) idle hand s)) { owes = cond b (r ∷ s.owes) s.owes }
    old-dropped b u e = e
        ∙ (ap (dropped r b) is_last
        ∙ (λ i. record (learnt at.0 (works (desk_of s) idle hand s)) {
          locks = record s.locks {
            db = Some (record { books = (desk_of s).books; work = done i; due = (desk_of s).due });
          };
          hand = without-first r hand i;
          owes = cond b (r ∷ s.owes) s.owes;
        }))
      where
        done : cond (r == r) idle (sweeping f r s.seat.lanes false 0) ≡ idle
        done = ap (λ (z : Bool). cond z idle (sweeping f r s.seat.lanes false 0)) (eq-eqb r r refl)
