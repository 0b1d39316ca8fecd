-- The kind slot use keeps the rule.
use Rattle.std.proofs.Common.{List, Option, Some, [], ap, arith, false, inl, inr, length, length-set, refl, set, subst, sym, ℕ, ◌%◌, ◌++◌, ◌+◌, ◌/◌, ◌<◌, ◌∙◌, ◌∷◌, ◌≡◌, ◌≢◌, ◌≤◌, ◌⊎◌}
use Rattle.sv_model.specs.Supers.{IsPackOf, LiveAt, current_of}
use mathlib.Core.Logic.{dite}
use mathlib.Core.Option.{none, some}
use mathlib.Core.Option as maybe
use native.Mathlib.Decide.{dec_le, ℕ_discrete}
use lib.ListN.{get_elem?}
use Rattle.atomic_table.proofs.Lists.{set_else, set_here}
use Rattle.atomic_table.specs.Table.{Act, Allows, Me, Valid, carried_after, keeps, stepped, takes}
use Rattle.sv_model.specs.Books.{Books}
use Rattle.sv_model.specs.Cells.{Cell}
use Rattle.sv_model.specs.Lists.{same, at}
use Rattle.sv_model.specs.declared.sv_refs.SvRef.{SvRef}
use Rattle.sv_rule.specs.Fits.{BodyFits}
use Rattle.sv_rule.specs.Fresh.{Past, floor_of}
use Rattle.sv_rule.specs.Home.{SlotOk}
use Rattle.sv_rule.specs.InHand.{Accounts}
use Rattle.sv_rule.specs.Rule.{Kept}
use Rattle.sv_rule.specs.SlotPlays.{IsCurrentAt, Used, counted, slotted}
use Rattle.sv_rule.specs.Sums.{put}
use Rattle.sv_rule.specs.Sweep.{Right, lent, pack_of}
use Rattle.sv_rule.specs.Table.{Box, names, number, slot, slot_home, slot_of, slot_word, spot, word}
use Rattle.sv_rule.specs.UnderWay.{excepts, fit, middle}
use Rattle.sv_rule.specs.Views.{Bodied, Body, Desk, Disk, LaneView, SlotView, away, held, idle}
use Rattle.sv_rule.specs.declared.parts.Stored.{Stored}
use Rattle.sv_rule.specs.declared.parts.Stored.TheVariants as is
use Rattle.sv_rule.proofs.Assembly.{M}
use Rattle.sv_rule.proofs.Basics.{by_desk, every_cons, every_none}
use Rattle.sv_rule_slots.proofs.OwnSlots.{fit_idle, kept_by_own, lane_lt, own_fresh, own_right}
use Rattle.sv_rule.proofs.RefLaws.{held-live, shown-of}
use Rattle.sv_rule.proofs.StepRests.{accounts-bodies}
use Rattle.sv_rule.proofs.Sums.{at-put_else, at-put_same, at_lt, below-term_le, marked, same-self}

-- the view after the use, which may know more bodies
abbrev used_view : ℕ → LaneView → ℕ → ℕ → ℕ → SlotView → List Bodied → LaneView
used_view f v a b r X L = record (counted a b 0 (slotted f X 0 r v)) { known = record v.known { bodies = L } }

module _ {S D C B : Type 0} (books : S → Books) (disk : D → Disk) (cell : C → Option Cell) (body : B → Body) where
  pub uses : (n id : ℕ) (m : Me (Stored S D C B) LaneView) (f k : ℕ) → f < 16 → m.0.seat.spent ≡ false
      → slot_of m.0 f ≡ away
      → Allows (Kept books disk cell body) n id m (slot_word (spot m.0.known.lane f)) (λ _. 1) (Used body f k m)
  uses n id m f k near alive free s kept long me fits =
      let v = m.0 in let lane : v.known.lane ≡ id = kept.home.seats.ordered id v me alive in
      subst (λ (z : ℕ). (w : LaneView) × (a : Act (Stored S D C B)) × Valid s.homes m.1 a
      × Kept books disk cell body (stepped s (slot_word (spot z f)) 1 id m.1 w a)
      × Used body f k m (word s (slot_word (spot z f))) (w, carried_after m.1 a)) (sym lane) go
    where
      i : ℕ
      i = spot id f

      o : Right (fit kept.work f id (number s f)) (middle (spot id f) kept.work) (slot s (spot id f)) (number s f)
          (at 0 m.0.slots.cached f) (slot_of m.0 f)
      o = own_right books disk cell body s kept id m.0 me f near

      accounts : Accounts kept.b m.0.known
      accounts = kept.in_hand.accounts id m.0 me alive

      -- the slot is the lane's, or a sweep's
      step : (a b r : ℕ) (X : SlotView) (L : List Bodied) (homes : List (maybe.Option (Stored S D C B)))
          → Accounts kept.b (record m.0.known { bodies = L }) → length homes ≡ length s.homes
          → ((j : ℕ) → j ≢ slot_home (spot id f) → get_elem? homes j ≡ get_elem? s.homes j)
          → SlotOk 1 (get_elem? homes (slot_home (spot id f)))
          → ((q : ℕ) → 256 ≤ q → same q (slot s (spot id f)) ≡ names q X) → lent X + middle (spot id f) kept.work ≡ 1
          → (256 ≤ pack_of X → pack_of X ≡ slot s (spot id f)) → floor_of X ≡ 0
          → Kept books disk cell body (M books disk cell body s kept id m.0 (used_view f m.0 a b r X L) me (spot id f)
          1 (lane_lt books disk cell body s kept id m.0 me f near) homes)
      step a b r X L homes mine same_long others ok moves single packs low = let v = m.0 in
          let fr = own_fresh books disk cell body s kept id v me f near in
          let c' : at 0 (put 0 v.slots.cached f 0) f ≡ 0 = at-put_same 0 v.slots.cached f 0 in
          kept_by_own books disk cell body s kept id v me f near alive (used_view f m.0 a b r X L) 1 X homes same_long
          others ok
          (λ q l. omega (arith, moves q l, ap (names q) free, marked q 1 l (omega arith)))
          refl (λ g ne. at-put_else 0 v.slots.cached f g 0 ne) refl refl refl refl (kept.ledger.hands id v me) refl
          refl (λ d z. kept.sweep.stock id v me d z)
          refl (λ _. mine) (λ y e. absurd (out_not y (sym (ok.out (omega arith) (omega arith)) ∙ e)))
          record {
            empty = λ z. absurd (omega arith);
            full = λ z. absurd (omega arith);
            out = λ _ _. single;
            cached = λ z. absurd (omega arith);
            fitting = λ z. absurd (omega arith);
            used = λ _ big. packs big ∙ o.fitting (omega (arith, packs big));
            away = λ _ big. absurd (omega (arith, c'));
            none = λ _. c';
          }
          record {
            slot = λ big. subst (λ (z : ℕ). Past kept.b (number s f) f z)
                (sym (packs big ∙ o.cached (omega (arith, packs big))))
                (fr.cached (omega (arith, packs big, o.cached (omega (arith, packs big)))));
            cached = λ big. absurd (omega (arith, c'));
            looked = fr.looked;
            floor = omega (arith, low);
            seen_is = fr.seen_is;
          }
        where
          out_not : (y : SvRef B) → ◌≡◌ {A = Box (Stored S D C B)} (some none) (some (some (is.Cached y))) → ⊥
          out_not y e = cc

      -- the slot's value was at home
      moved : (a b r : ℕ) (L : List Bodied) (y : Stored S D C B) → Accounts kept.b (record m.0.known { bodies = L })
          → get_elem? s.homes (slot_home (spot id f)) ≡ some (some y)
          → ((q : ℕ) → 256 ≤ q → same q (slot s (spot id f)) ≡ same q r) → middle (spot id f) kept.work ≡ 0
          → (256 ≤ r → r ≡ slot s (spot id f))
          → Kept books disk cell body (stepped s (slot_word (spot id f)) 1 id m.1
          (used_view f m.0 a b (slot s (spot id f)) (held r) L) (takes (slot_home (spot id f)) y))
      moved a b r L y mine at_home moves no_mid packs = step a b (slot s (spot id f)) (held r) L
          (set s.homes (slot_home (spot id f)) none) mine (length-set s.homes (slot_home (spot id f)) none)
          (λ j ne. set_else s.homes (slot_home (spot id f)) j none ne)
          record {
            empty = λ z. absurd (omega arith);
            out = λ _ _. set_here s.homes (slot_home (spot id f)) none
                (at_lt s.homes (slot_home (spot id f)) (some y) at_home);
            cached = λ z. absurd (omega arith);
            marks = λ _. omega arith;
          }
          moves (omega (arith, no_mid)) packs refl

      current : 256 ≤ slot s (spot id f) → IsCurrentAt f (slot s (spot id f)) m.0.locks.db
      current big = by_desk m.0.locks.db (λ no_lock. subst (IsCurrentAt f (slot s (spot id f))) (sym no_lock) tt)
          (λ d has. subst (IsCurrentAt f (slot s (spot id f))) (sym has)
          (λ resting. let h = kept.home.desks id m.0 me d has in let rests : kept.work ≡ idle = sym h.1 ∙ resting in
          o.fitting big ∙ (fit_idle kept.work rests f id (number s f)
          ∙ ((kept.numbers.word f near).current (ap (excepts f) rests)
          ∙ ap (λ (z : Books). current_of z f) (sym h.0)))))

      -- the slot holds a reference of a Live SuperVersion of the family
      pack_of_slot : 256 ≤ slot s (spot id f) → IsPackOf kept.b.supers f (slot s (spot id f))
      pack_of_slot big = let at_slot : slot s (spot id f) ≡ at 0 m.0.slots.cached f = o.cached big in
          subst (IsPackOf kept.b.supers f) (sym at_slot)
          ((own_fresh books disk cell body s kept id m.0 me f near).cached (omega (arith, at_slot))).is

      live_slot : 256 ≤ slot s (spot id f) → LiveAt kept.b.supers (slot s (spot id f) / 256)
          (slot s (spot id f) % 256)
      live_slot big = let p : ℕ = slot s (spot id f) in
          held-live s kept.b.supers kept.ledger.places p big (omega (
            arith,
            below-term_le (λ i. same p (slot s i)) (spot id f) 512 (lane_lt books disk cell body s kept id m.0 me f near),
            same-self p,
          ))

      still : (d : Desk) → m.0.locks.db ≡ Some d → d.work ≡ idle → (slot s (spot id f) ≡ 0) ⊎ (256 ≤ slot s (spot id f))
      still d has resting = let h = kept.home.desks id m.0 me d has in
          let no : middle (spot id f) kept.work ≡ 0 = ap (middle (spot id f)) (sym h.1 ∙ resting) in
          dite (ℕ_discrete (slot s (spot id f)) 0) (λ e. inl e)
          (λ ne. dite (dec_le 256 (slot s (spot id f))) (λ z. inr z)
          (λ nz. absurd (omega (arith, o.out (omega arith) (omega arith), ap lent free, no))))

      go : (w : LaneView) × (a : Act (Stored S D C B)) × Valid s.homes m.1 a
          × Kept books disk cell body (stepped s (slot_word (spot id f)) 1 id m.1 w a)
          × Used body f k m (word s (slot_word (spot id f))) (w, carried_after m.1 a)
      go = let r : ℕ = slot s (spot id f) in let l : spot id f < 512 = lane_lt books disk cell body s kept id m.0 me f
          near in let ok = kept.home.slots (spot id f) l in
          let own : (y : Stored S D C B) → _ = λ y. ap (λ (z : ℕ). (slot_home (spot z f), y) ∷ m.1)
          (sym (kept.home.seats.ordered id m.0 me alive)) in
          dite (ℕ_discrete r 0)
          (λ e. (
            used_view f m.0 k k r (held 0) m.0.known.bodies,
            takes (slot_home (spot id f)) is.Nothing,
            ok.empty e,
            moved k k 0 m.0.known.bodies is.Nothing accounts (ok.empty e) (λ q _. ap (same q) e)
                (omega (arith, o.empty e)) (λ big. absurd (omega arith)),
            record {
              empty = λ _ c. (used_view f m.0 k k r (held 0) m.0.known.bodies, own is.Nothing c);
              cached = λ z. absurd (omega arith);
              swept = λ z. absurd (omega arith);
              marks = λ _. omega arith;
              current = current;
              known = o.cached;
              still = still;
            },
          ))
          (λ some_found. dite (dec_le 256 r)
          (λ z. let x = ok.cached z in let b : Bodied = record { pack = r; body = body x.0.body.value } in
          let fit_x : BodyFits kept.b b = subst (λ (p : ℕ). BodyFits kept.b
          (record { pack = p; body = body x.0.body.value })) x.2 (kept.held.bodies (spot id f) x.0 l x.1) in (
            used_view f m.0 k 0 r (held r) (m.0.known.bodies ++ b ∷ []),
            takes (slot_home (spot id f)) (is.Cached x.0),
            x.1,
            moved k 0 r (m.0.known.bodies ++ b ∷ []) (is.Cached x.0)
                (accounts-bodies kept.b m.0.known (b ∷ [])
                (every_cons (BodyFits kept.b) b [] fit_x (every_none (BodyFits kept.b))) accounts) x.1 (λ q _. refl)
                (omega (arith, o.full z)) (λ _. refl),
            record {
              empty = λ e. absurd (some_found e);
              cached = λ _. (
                x.0,
                x.2,
                λ c. (
                  used_view f m.0 k 0 r (held r) (m.0.known.bodies ++ b ∷ []),
                  own (is.Cached x.0) c,
                ),
                shown-of kept.b kept.numbers.lawful f b fit_x (pack_of_slot z) (live_slot z),
              );
              swept = λ _ y. absurd (omega arith);
              marks = λ y. absurd (omega arith);
              current = current;
              known = o.cached;
              still = still;
            },
          ))
          (λ nz. let small : r < 256 = omega arith in let pos : 0 < r = omega arith in (
            used_view f m.0 k k r away m.0.known.bodies,
            keeps,
            tt,
            step k k r away m.0.known.bodies s.homes accounts refl (λ _ _. refl)
                record {
                  empty = λ y. absurd (omega arith);
                  out = λ _ _. ok.out pos small;
                  cached = λ y. absurd (omega arith);
                  marks = λ _. omega arith;
                }
                (λ q y. marked q r y small) (omega (arith, o.out pos small, ap lent free))
                (λ big. absurd (omega arith)) refl,
            record {
              empty = λ e. absurd (some_found e);
              cached = λ y. absurd (nz y);
              swept = λ _ _. refl;
              marks = λ _. ok.marks small;
              current = current;
              known = o.cached;
              still = still;
            },
          )))
