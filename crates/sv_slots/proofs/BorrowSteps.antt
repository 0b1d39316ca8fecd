-- What a lane knows after the use of its slot, and along a borrow.
use Rattle.std.proofs.Common.{List, Option, Some, [], ap, arith, false, subst, sym, true, ℕ, ⊎_elim, ◌<◌, ◌∙◌, ◌∷◌, ◌≡◌, ◌≢◌, ◌≤◌}
use Rattle.sv_model.specs.Supers.{current_of}
use Rattle.atomic_table.specs.Table.{Me, rest}
use Rattle.sv_model.specs.Lists.{In, same, total, at}
use Rattle.sv_model.specs.declared.sv_refs.SvRef.{SvRef}
use Rattle.sv_rule.proofs.Sums.{at-put_same}
use Rattle.sv_rule.specs.ReferencePlays.{learnt}
use Rattle.sv_rule.specs.SlotPlays.{IsCurrentAt, IsShown, Looked, Used, checked, counted, looked_by, rested, slotted}
use Rattle.sv_rule.specs.Sums.{without}
use Rattle.sv_rule.specs.Table.{slot_home, slot_of, spot}
use Rattle.sv_rule.specs.Views.{Bodied, Body, Desk, LaneView, away, borrow, held, idle}
use Rattle.sv_rule.specs.declared.parts.Stored.{Stored}
use Rattle.sv_rule.specs.declared.parts.Stored.TheVariants as is
use Rattle.sv_slots.specs.Borrows.{IsHit, IsStale, IsTaken, Told, borrowed, handed, saw}
use Rattle.sv_slots.specs.Seats.{CarriesAt, CarriesNothing, HasDesk, IsLane, bodied}
use Rattle.sv_slots.proofs.SlotSteps.{body_same, checked_no, checked_yes, counted_twice, front_of, looked_lent, looked_plain, none_counted, pack_same, rested_none, rested_saw, rested_slotted, saw_checked, saw_lent}

-- ---- a slot use found nothing, or a mark

module _ {S D C B : Type 0} (body : B → Body) (f k lane r : ℕ) (m m₁ : Me (Stored S D C B) LaneView)
    (used : Used body f k m r m₁) where
  pub empty_held : r ≡ 0 → slot_of m₁.0 f ≡ held 0
  empty_held e = ap (λ (z : Me (Stored S D C B) LaneView). slot_of z.0 f) (used.empty e)
      ∙ at-put_same away m.0.slots.slot f (held 0)

  pub empty_front : r ≡ 0 → IsLane m.0 lane → CarriesNothing lane f m₁.1
  empty_front e mine = (
    m.1,
    ap (λ (z : Me (Stored S D C B) LaneView). z.1) (used.empty e)
        ∙ ap (λ (z : ℕ). (slot_home (spot z f), is.Nothing) ∷ m.1) mine.lane_is,
  )

  pub empty_rest : r ≡ 0 → (m₂ : Me (Stored S D C B) LaneView)
      → m₂ ≡ (counted 0 0 0 (rested f 0 m₁.0), rest m₁.1)
      → (r < 3) × (m₂.0 ≡ counted k k 0 (slotted f away 0 r m.0)) × (m₂.1 ≡ m.1)
  empty_rest e m₂ is₂ = (
    omega arith,
    ap (λ (z : Me (Stored S D C B) LaneView). z.0) is₂
        ∙ (ap (λ (z : Me (Stored S D C B) LaneView). counted 0 0 0 (rested f 0 z.0)) (used.empty e)
        ∙ (none_counted (rested f 0 (counted k k 0 (slotted f (held 0) 0 r m.0)))
        ∙ rested_none f k k 0 0 r (held 0) m.0)),
    ap (λ (z : Me (Stored S D C B) LaneView). z.1) is₂
        ∙ ap (λ (z : Me (Stored S D C B) LaneView). rest z.1) (used.empty e),
  )

  pub marked_use : r ≢ 0 → r < 256 → (r < 3) × (m₁.0 ≡ counted k k 0 (slotted f away 0 r m.0)) × (m₁.1 ≡ m.1)
  marked_use some small = let s = used.swept (omega arith) small in (
    used.marks small,
    ap (λ (z : Me (Stored S D C B) LaneView). z.0) s,
    ap (λ (z : Me (Stored S D C B) LaneView). z.1) s,
  )

-- ---- a slot use found a pack

module _ {S D C B : Type 0} (body : B → Body) (f k lane r : ℕ) (m m₁ : Me (Stored S D C B) LaneView) (slot : ℕ)
    (used : Used body f k m r m₁) (big : 256 ≤ r) (slot_is : slot ≡ slot_home (spot lane f))
    (mine : IsLane m.0 lane) where
  abbrev lay : Bodied
  lay = record { pack = r; body = body (used.cached big).0.body.value }

  abbrev X : LaneView
  X = learnt (lay ∷ []) (counted k 0 0 (slotted f (held r) 0 r m.0))

  at_x : m₁.0 ≡ X
  at_x = ap (λ (z : Me (Stored S D C B) LaneView). z.0) (used.cached big).2

  pub carries : m₁.1 ≡ (slot, is.Cached (used.cached big).0) ∷ rest m₁.1
  carries = front_of m₁.1 m.1 (slot_home (spot m.0.known.lane f)) slot (is.Cached (used.cached big).0)
      (ap (λ (z : Me (Stored S D C B) LaneView). z.1) (used.cached big).2)
      (slot_is ∙ ap (λ z. slot_home (spot z f)) (sym mine.lane_is))

  behind : rest m₁.1 ≡ m.1
  behind = ap (λ (z : Me (Stored S D C B) LaneView). rest z.1) (used.cached big).2

  module _ (sv : SvRef B) (found : m₁.1 ≡ (slot, is.Cached sv) ∷ rest m₁.1) where
    pub pack_is : sv.pack ≡ r
    pack_is = pack_same m₁.1 slot (used.cached big).0 sv carries found ∙ (used.cached big).1

    lay_is : lay ≡ bodied body sv
    lay_is =
        let e = body_same body m₁.1 slot (used.cached big).0 sv carries found in
        (λ i. record { pack = sym (used.cached big).1 i; body = body (used.cached big).0.body.value }) ∙ sym e

    shown : IsShown f (bodied body sv)
    shown = subst (IsShown f) lay_is (used.cached big).3

    module _ (m₂ : Me (Stored S D C B) LaneView) (same : m₂ ≡ (m₁.0, (slot, is.Nothing) ∷ rest m₁.1)) where
      view₂ : m₂.0 ≡ X
      view₂ = ap (λ (z : Me (Stored S D C B) LaneView). z.0) same ∙ at_x

      pub rest_held : slot_of m₂.0 f ≡ held r
      rest_held = ap (λ (z : LaneView). slot_of z f) view₂ ∙ at-put_same away m.0.slots.slot f (held r)

      carried₂ : m₂.1 ≡ (slot_home (spot lane f), is.Nothing) ∷ m.1
      carried₂ = ap (λ (z : Me (Stored S D C B) LaneView). z.1) same ∙ (λ i. (slot_is i, is.Nothing) ∷ behind i)

      pub rest_front : CarriesNothing lane f m₂.1
      rest_front = (m.1, carried₂)

      pub rest_done : (m₃ : Me (Stored S D C B) LaneView) → k ≡ 0
          → m₃ ≡ (counted 0 0 0 (rested f r m₂.0), rest m₂.1) → IsTaken body f sv m.0 m₃.0 × (m₃.1 ≡ m.1)
      rest_done m₃ none is₃ = (
        record {
          view = ap (λ (z : Me (Stored S D C B) LaneView). z.0) is₃
              ∙ (none_counted (rested f r m₂.0)
              ∙ (ap (λ (z : LaneView). rested f r z) view₂
              ∙ (rested_slotted f r k 0 0 0 r (held r) (lay ∷ []) m.0 (omega arith)
              ∙ ((λ i. handed r (learnt (lay_is i ∷ []) (counted (none i) 0 0 (slotted f away 0 r m.0))))
              ∙ ((λ i. handed r (learnt (bodied body sv ∷ []) (none_counted (slotted f away 0 r m.0) i)))
              ∙ (λ i. handed (sym pack_is i)
              (learnt (bodied body sv ∷ []) (slotted f away 0 (sym pack_is i) m.0))))))));
          shown = shown;
          was_cached = pack_is ∙ used.known big;
          current = subst (λ (z : ℕ). IsCurrentAt f z m.0.locks.db) (sym pack_is) (used.current big);
        },
        ap (λ (z : Me (Stored S D C B) LaneView). z.1) is₃
            ∙ ap (λ (z : List (ℕ × Stored S D C B)). rest z) carried₂,
      )

      module _ (m₃ : Me (Stored S D C B) LaneView) (now : ℕ) (load : Looked f m₂ now m₃) where
        abbrev Y : LaneView
        Y = learnt (lay ∷ [])
            (saw f now (counted k 0 0 (slotted f (checked (held r) now (at 0 m.0.known.seen f)) 0 r m.0)))

        at_y : m₃.0 ≡ Y
        at_y = ap (λ (z : Me (Stored S D C B) LaneView). z.0) load.is
            ∙ (looked_plain f now r m₂.0 rest_held (omega arith)
            ∙ (ap (λ (z : LaneView). looked_by false f now z) view₂
            ∙ saw_checked f now k 0 0 r (held r) (lay ∷ []) m.0))

        carried₃ : m₃.1 ≡ (slot_home (spot lane f), is.Nothing) ∷ m.1
        carried₃ = ap (λ (z : Me (Stored S D C B) LaneView). z.1) load.is ∙ carried₂

        told : Told f now m.0
        told = record {
          current = subst (λ (z : Option Desk). IsCurrentAt f now z) (ap (λ (z : LaneView). z.locks.db) view₂)
              load.current;
          small = load.small;
          rises = λ w. subst (λ (z : LaneView). at 0 z.slots.looked f ≤ now) view₂ (load.rises w);
          there = λ h d e. load.there (subst (λ (z : LaneView). 1 ≤ Rattle.sv_model.specs.Lists.times f
              z.known.task.handles) (sym view₂) h) (ap (λ (z : LaneView). z.locks.db) view₂ ∙ d)
              (λ i. e (subst (λ (z : LaneView). In f z.seat.ends) view₂ i));
        }

        pub hits : now ≡ r → k ≡ 1 → IsHit body f sv m.0 m₃.0 × CarriesAt (slot_home (spot lane f)) m.1 m₃.1
        hits e one = (
          record {
            view = at_y ∙ (
                (λ i. learnt (lay_is i ∷ []) (saw f (e i)
                (counted (one i) 0 0 (slotted f (checked (held r) (e i) (at 0 m.0.known.seen f)) 0 r m.0))))
                ∙ ((λ i. learnt (bodied body sv ∷ []) (saw f r
                (counted 1 0 0 (slotted f (checked_yes r (at 0 m.0.known.seen f) (omega arith) i) 0 r m.0))))
                ∙ (λ i. learnt (bodied body sv ∷ []) (saw f (sym pack_is i)
                (counted 1 0 0 (slotted f (borrow (sym pack_is i) (at 0 m.0.known.seen f)) 0 (sym pack_is i) m.0)))))
                );
            shown = shown;
            was_cached = pack_is ∙ used.known big;
            told = subst (λ (z : ℕ). Told f z m.0) (e ∙ sym pack_is) told;
          },
          carried₃,
        )

        pub stale_held : now ≢ r → slot_of m₃.0 f ≡ held r
        stale_held n = ap (λ (z : LaneView). slot_of z f) at_y
            ∙ (at-put_same away m.0.slots.slot f (checked (held r) now (at 0 m.0.known.seen f))
            ∙ checked_no r now (at 0 m.0.known.seen f) n)

        pub stale_front : CarriesNothing lane f m₃.1
        stale_front = (m.1, carried₃)

        pub stales : now ≢ r → k ≡ 1 → (m₄ : Me (Stored S D C B) LaneView)
            → m₄ ≡ (counted 0 1 0 (rested f r m₃.0), rest m₃.1) → IsStale body f sv now m.0 m₄.0 × (m₄.1 ≡ m.1)
        stales n one m₄ is₄ =
            let s = checked (held r) now (at 0 m.0.known.seen f) in (
              record {
                view = ap (λ (z : Me (Stored S D C B) LaneView). z.0) is₄
                    ∙ (ap (λ (z : LaneView). counted 0 1 0 (rested f r z)) at_y
                    ∙ (ap (λ (z : LaneView). counted 0 1 0 z)
                    (rested_saw f r now k 0 0 r s (lay ∷ []) m.0 (omega arith))
                    ∙ ((λ i. handed r (learnt (lay_is i ∷ [])
                    (saw f now (counted 0 1 0 (counted (one i) 0 0 (slotted f away 0 r m.0))))))
                    ∙ ((λ i. handed r (learnt (bodied body sv ∷ [])
                    (saw f now (counted_twice 1 0 0 0 1 0 (slotted f away 0 r m.0) i))))
                    ∙ (λ i. handed (sym pack_is i) (learnt (bodied body sv ∷ [])
                    (saw f now (counted 1 1 0 (slotted f away 0 (sym pack_is i) m.0)))))))));
                shown = shown;
                was_cached = pack_is ∙ used.known big;
                other = λ e. n (e ∙ pack_is);
                told = told;
              },
              ap (λ (z : Me (Stored S D C B) LaneView). z.1) is₄
                  ∙ ap (λ (z : List (ℕ × Stored S D C B)). rest z) carried₃,
            )

-- ---- a borrow under the DB lock

pub borrows_locked : {S D C B : Type 0} (body : B → Body) (f lane p r now : ℕ)
    (m m₁ m₂ : Me (Stored S D C B) LaneView) → Used body f 0 m r m₁ → Looked f m₁ now m₂ → IsLane m.0 lane
    → at 0 m.0.slots.cached f ≡ 0 → HasDesk m.0 (λ d. (d.work ≡ idle) × (p ≡ current_of d.books f)) → 256 ≤ p
    → 0 < total (same p) m.0.hand → (m₂.0 ≡ borrowed f p m.0) × CarriesAt (slot_home (spot lane f)) m.1 m₂.1
borrows_locked {S} {D} {C} {B} body f lane p r now m m₁ m₂ used load mine none has big count =
    let X = counted 0 0 0 (slotted f (held 0) 0 r m.0) in
    let empty : r ≡ 0 = ⊎_elim (λ z. z) (λ (z : 256 ≤ r). absurd (omega (arith, used.known z)))
    (used.still has.0 has.1 has.2.0) in
    let at_x : m₁.0 ≡ X = ap (λ (z : Me (Stored S D C B) LaneView). z.0) (used.empty empty) in
    let desk : m₁.0.locks.db ≡ Some has.0 = ap (λ (z : LaneView). z.locks.db) at_x ∙ has.1 in
    let now_is : now ≡ p = subst (IsCurrentAt f now) desk load.current has.2.0 ∙ sym has.2.1 in
    let slot : slot_of m₁.0 f ≡ held 0 = ap (λ (z : LaneView). slot_of z f) at_x
    ∙ at-put_same away m.0.slots.slot f (held 0) in
    let counted_now : 0 < total (same now) m₁.0.hand = subst (λ (z : ℕ × LaneView). 0 < total (same z.0) z.1.hand)
    (λ i. (sym now_is i, sym at_x i)) count in (
      ap (λ (z : Me (Stored S D C B) LaneView). z.0) load.is
          ∙ (looked_lent f now m₁.0 has.0 slot desk has.2.0 (omega (arith, now_is)) counted_now
          ∙ ((λ i. looked_by true f (now_is i) (at_x i))
          ∙ (saw_lent f p 0 r (held 0) m.0
          ∙ (none_counted (record (saw f p (slotted f (borrow p (at 0 m.0.known.seen f)) 0 r m.0)) { hand = without p m.0.hand })
          ∙ (λ i. record (saw f p (slotted f (borrow p (at 0 m.0.known.seen f)) 0 (empty i) m.0)) { hand = without p m.0.hand }))))),
      ap (λ (z : Me (Stored S D C B) LaneView). z.1) load.is
          ∙ (ap (λ (z : Me (Stored S D C B) LaneView). z.1) (used.empty empty)
          ∙ ap (λ (z : ℕ). (slot_home (spot z f), is.Nothing) ∷ m.1) mine.lane_is),
    )
