-- What a lane knows along the giving back of a borrow.
use Rattle.std.proofs.Common.{ap, arith, refl, subst, sym, ℕ, ◌<◌, ◌∙◌, ◌∷◌, ◌≡◌, ◌≢◌}
use Rattle.atomic_table.specs.Table.{Me, rest}
use Rattle.sv_model.specs.Lists.{In}
use Rattle.sv_model.specs.declared.sv_refs.SvRef.{SvRef}
use Rattle.sv_rule.proofs.Sums.{at-put_same}
use Rattle.sv_rule.specs.SlotPlays.{PutBack, counted, reached, rested, slotted}
use Rattle.sv_rule.specs.Table.{slot_home, slot_of, spot}
use Rattle.sv_rule.specs.Views.{Body, LaneView, away, held}
use Rattle.sv_rule.specs.declared.parts.Stored.{Stored}
use Rattle.sv_rule.specs.declared.parts.Stored.TheVariants as is
use Rattle.sv_slots.specs.Borrows.{handed, swept_back}
use Rattle.sv_slots.specs.Seats.{CarriesNothing, CarriesRef, bodied}
use Rattle.sv_slots.proofs.SlotSteps.{body_same, front_of, none_counted, put_put, reached_pos, with_slots}

-- ---- a slot put

module _ {S D C B : Type 0} (body : B → Body) (f lane p r slot : ℕ) (sv : SvRef B)
    (m m₁ m₂ : Me (Stored S D C B) LaneView) (slot_is : slot ≡ slot_home (spot lane f))
    (laid : m₁ ≡ (m.0, (slot, is.Cached sv) ∷ rest m.1)) (pack : sv.pack ≡ p) where
  pub lies : In (bodied body sv) m.0.known.bodies → CarriesRef body m₁.0 lane f p m₁.1
  lies has = (
    rest m.1,
    sv,
    pack,
    subst (λ (z : LaneView). In (bodied body sv) z.known.bodies)
        (sym (ap (λ (z : Me (Stored S D C B) LaneView). z.0) laid)) has,
    ap (λ (z : Me (Stored S D C B) LaneView). z.1) laid
        ∙ ap (λ (z : ℕ). (z, is.Cached sv) ∷ rest m.1) slot_is,
  )

  module _ (back : PutBack f p m₁ r m₂) where
    pub kept_given : r ≡ 1 → (m₂.0 ≡ slotted f away sv.pack 1 m.0) × (m₂.1 ≡ rest m.1)
    kept_given one = (
      ap (λ (z : Me (Stored S D C B) LaneView). z.0) (back.home one)
          ∙ ((λ i. slotted f away (sym pack i) (one i) m₁.0)
          ∙ ap (λ (z : Me (Stored S D C B) LaneView). slotted f away sv.pack 1 z.0) laid),
      ap (λ (z : Me (Stored S D C B) LaneView). z.1) (back.home one)
          ∙ ap (λ (z : Me (Stored S D C B) LaneView). rest z.1) laid,
    )

    module _ (ne : r ≢ 1) where
      abbrev V : LaneView
      V = counted 0 0 1 (slotted f (held p) 0 r m.0)

      at_v : m₂.0 ≡ V
      at_v = ap (λ (z : Me (Stored S D C B) LaneView). z.0) (back.swept ne).1
          ∙ ap (λ (z : Me (Stored S D C B) LaneView). counted 0 0 1 (slotted f (held p) 0 r z.0)) laid

      pub still : m₂.1 ≡ (slot, is.Cached sv) ∷ rest m₂.1
      still = front_of m₂.1 (rest m.1) slot slot (is.Cached sv)
          (ap (λ (z : Me (Stored S D C B) LaneView). z.1) (back.swept ne).1
          ∙ ap (λ (z : Me (Stored S D C B) LaneView). z.1) laid) refl

      still_behind : rest m₂.1 ≡ rest m.1
      still_behind = ap (λ (z : Me (Stored S D C B) LaneView). rest z.1) (back.swept ne).1
          ∙ ap (λ (z : Me (Stored S D C B) LaneView). rest z.1) laid

      pub same_given : (b : SvRef B) → m₂.1 ≡ (slot, is.Cached b) ∷ rest m₂.1 → bodied body b ≡ bodied body sv
      same_given b found = body_same body m₂.1 slot sv b still found

      module _ (m₃ m₄ : Me (Stored S D C B) LaneView) (same : m₃ ≡ (m₂.0, (slot, is.Nothing) ∷ rest m₂.1)) where
        pub still_held : slot_of m₃.0 f ≡ held p
        still_held = ap (λ (z : Me (Stored S D C B) LaneView). slot_of z.0 f) same
            ∙ (ap (λ (z : LaneView). slot_of z f) at_v ∙ at-put_same away m.0.slots.slot f (held p))

        pub still_front : CarriesNothing lane f m₃.1
        still_front = (
          rest m₂.1,
          ap (λ (z : Me (Stored S D C B) LaneView). z.1) same
              ∙ ap (λ (z : ℕ). (z, is.Nothing) ∷ rest m₂.1) slot_is,
        )

        pub swept_given : m₄ ≡ (counted 0 0 0 (rested f p m₃.0), rest m₃.1) → 0 < p
            → (m₄.0 ≡ swept_back f sv.pack m.0) × (m₄.1 ≡ rest m.1)
        unfolding with_slots
        swept_given e pos = (
          ap (λ (z : Me (Stored S D C B) LaneView). z.0) e
              ∙ (none_counted (rested f p m₃.0)
              ∙ (ap (λ (z : LaneView). rested f p z) (ap (λ (z : Me (Stored S D C B) LaneView). z.0) same ∙ at_v)
              ∙ (rested_put (omega arith)
              ∙ (λ i. handed (sym pack i) (counted 0 0 1 (slotted f away 0 ((back.swept ne).0 i) m.0)))))),
          ap (λ (z : Me (Stored S D C B) LaneView). z.1) e
              ∙ (ap (λ (z : Me (Stored S D C B) LaneView). rest z.1) same ∙ still_behind),
        )
          where
            rested_put : 0 < p → rested f p V ≡ handed p (counted 0 0 1 (slotted f away 0 r m.0))
            rested_put z =
                let w = handed p (counted 0 0 1 (slotted f (held p) 0 r m.0)) in
                let x = put_put away m.0.slots.slot f (held p) away in
                let h : reached p m.0.hand ≡ p ∷ m.0.hand = reached_pos p m.0.hand z in
                (λ i. record (with_slots (x i) w) { hand = h i })
