-- The kinds slot put and slot home, of a slot of the lane's own, keep the rule.
use Rattle.std.proofs.Common.{List, Option, ap, arith, eqb, false, length, length-set, refl, set, subst, sym, ℕ, ◌+◌, ◌<◌, ◌∙◌, ◌∷◌, ◌≡◌, ◌≤◌}
use mathlib.Core.Option.{some}
use prog.Atomic.{either}
use Rattle.atomic_table.proofs.Lists.{exchanged, set_else, set_here}
use Rattle.atomic_table.specs.Table.{Act, Allows, Me, Valid, carried_after, gives, keeps, stepped}
use Rattle.sv_model.specs.Books.{Books}
use Rattle.sv_model.specs.Cells.{Cell}
use Rattle.sv_model.specs.Lists.{In, same, total, at}
use Rattle.sv_model.specs.declared.sv_refs.SvRef.{SvRef}
use Rattle.sv_rule.specs.Fits.{BodyFits}
use Rattle.sv_rule.specs.Fresh.{Past}
use Rattle.sv_rule.specs.Ledger.{most_hand}
use Rattle.sv_rule.specs.Rule.{Kept}
use Rattle.sv_rule.specs.SlotPlays.{PutBack, Rested, counted, rested, slotted}
use Rattle.sv_rule.specs.Sums.{put}
use Rattle.sv_rule.specs.Sweep.{lent, pack_of}
use Rattle.sv_rule.specs.Table.{Box, names, number, slot, slot_home, slot_of, slot_word, spot}
use Rattle.sv_rule.specs.UnderWay.{fit}
use Rattle.sv_rule.specs.Views.{Body, Disk, LaneView, away, borrow, held}
use Rattle.sv_rule.specs.declared.parts.Stored.{Stored}
use Rattle.sv_rule.specs.declared.parts.Stored.TheVariants as is
use Rattle.sv_rule_slots.proofs.OwnSlots.{kept_by_own, lane_lt, out_of, own_fresh, own_right, reach, reach_len, stock_reached}
use Rattle.sv_rule.proofs.Sums.{at-put_else, at-put_same, marked}
use Rattle.sv_rule.proofs.Basics.{no_ref}

-- a slot has one value
same_ref : {S D C B : Type 0} (x y : SvRef B) → ◌≡◌ {A = Box (Stored S D C B)} (some (some (is.Cached x)))
    (some (some (is.Cached y))) → x ≡ y
same_ref x y e = cc

module _ {S D C B : Type 0} (books : S → Books) (disk : D → Disk) (cell : C → Option Cell) (body : B → Body) where
  puts_own : (n id : ℕ) (v : LaneView) (more : List (ℕ × Stored S D C B)) (f p floor : ℕ) (x : SvRef B) → f < 16
      → v.seat.spent ≡ false → slot_of v f ≡ borrow p floor → x.pack ≡ p → 256 ≤ p
      → In (record { pack = p; body = body x.body.value }) v.known.bodies
      → let m : Me (Stored S D C B) LaneView = (v, (slot_home (spot v.known.lane f), is.Cached x) ∷ more) in
      Allows (Kept books disk cell body) n id m (slot_word (spot v.known.lane f)) (λ y. either (eqb y 1) p y)
      (PutBack f p m)
  puts_own n id v more f p floor x near alive borrowed named is_pack has_body s kept long me fits =
      subst (λ (z : ℕ). Goal z) (sym (kept.home.seats.ordered id v me alive)) go
    where
      T : ℕ → Me (Stored S D C B) LaneView
      T z = (v, (slot_home (spot z f), is.Cached x) ∷ more)

      Goal : ℕ → Type 0
      Goal z = (w : LaneView) × (a : Act (Stored S D C B)) × Valid s.homes (T z).1 a
          × Kept books disk cell body (stepped s (slot_word (spot z f))
          (either (eqb (slot s (spot z f)) 1) p (slot s (spot z f))) id (T z).1 w a)
          × PutBack f p (T z) (slot s (spot z f)) (w, carried_after (T z).1 a)

      go : Goal id
      go = let i = spot id f in let r : ℕ = slot s i in
          let l : i < 512 = lane_lt books disk cell body s kept id v me f near in let ok = kept.home.slots i l in
          let o = own_right books disk cell body s kept id v me f near in
          let fr = own_fresh books disk cell body s kept id v me f near in
          let one : lent (slot_of v f) ≡ 1 = ap lent borrowed in
          let pack_is : pack_of (slot_of v f) ≡ p = ap pack_of borrowed in
          let out = out_of o (omega (arith, one)) in let past : Past kept.b (number s f) f p = subst
          (λ (z : ℕ). Past kept.b (number s f) f z) pack_is (fr.slot (omega (arith, pack_is))) in
          let low : r < 3 = ok.marks out.1 in
          exchanged r 1 p (λ y. (w : LaneView) × (a : Act (Stored S D C B)) × Valid s.homes (T id).1 a
          × Kept books disk cell body (stepped s (slot_word i) y id (T id).1 w a)
          × PutBack f p (T id) r (w, carried_after (T id).1 a))
          (λ e. let c' : at 0 (put 0 v.slots.cached f p) f ≡ p = at-put_same 0 v.slots.cached f p in
          let fit_is : p ≡ fit kept.work f id (number s f) = sym pack_is ∙ o.used e (omega (arith, pack_is)) in (
            slotted f away p r v,
            gives,
            tt,
            kept_by_own books disk cell body s kept id v me f near alive (slotted f away p r v) p away
                (set s.homes (slot_home i) (some (is.Cached x)))
                (length-set s.homes (slot_home i) (some (is.Cached x)))
                (λ j ne. set_else s.homes (slot_home i) j (some (is.Cached x)) ne)
                record {
                  empty = λ z. absurd (omega arith);
                  out = λ _ z. absurd (omega arith);
                  cached = λ _. (
                    x,
                    set_here s.homes (slot_home i) (some (is.Cached x))
                        (omega (arith, kept.home.seats.homes)),
                    named,
                  );
                  marks = λ z. absurd (omega arith);
                }
                (λ q z. omega (arith, marked q r z (omega arith), ap (names q) borrowed))
                refl (λ g ne. at-put_else 0 v.slots.cached f g p ne) refl refl refl refl (kept.ledger.hands id v me)
                refl refl (λ d z. kept.sweep.stock id v me d z)
                refl (λ _. kept.in_hand.accounts id v me alive)
                (λ y e. subst (λ (q : SvRef B). BodyFits kept.b (record { pack = q.pack; body = body q.body.value }))
                (same_ref x y (sym (set_here s.homes (slot_home i) (some (is.Cached x))
                (omega (arith, kept.home.seats.homes))) ∙ e))
                (subst (λ (q : ℕ). BodyFits kept.b (record { pack = q; body = body x.body.value })) (sym named)
                ((kept.in_hand.accounts id v me alive).fits.bodies has_body.at
                (record { pack = p; body = body x.body.value }) has_body.is)))
                record {
                  empty = λ z. absurd (omega arith);
                  full = λ _. omega (arith, o.out out.0 out.1, one);
                  out = λ _ z. absurd (omega arith);
                  cached = λ _. sym c';
                  fitting = λ _. fit_is;
                  used = λ z. absurd (omega arith);
                  away = λ _ _ z. sym c' ∙ z;
                  none = λ z. absurd (omega arith);
                }
                record {
                  slot = λ big. absurd (omega arith);
                  cached = λ _. subst (λ (z : ℕ). Past kept.b (number s f) f z) (sym c') past;
                  looked = fr.looked;
                  floor = omega arith;
                  seen_is = fr.seen_is;
                },
            record { home = λ _. refl; swept = λ n. absurd (n e) },
          ))
          (λ ne. let two : r ≡ 2 = omega (arith, out.0) in
          let c' : at 0 (put 0 v.slots.cached f 0) f ≡ 0 = at-put_same 0 v.slots.cached f 0 in (
            counted 0 0 1 (slotted f (held p) 0 r v),
            keeps,
            tt,
            kept_by_own books disk cell body s kept id v me f near alive (counted 0 0 1 (slotted f (held p) 0 r v)) r
                (held p) s.homes refl (λ _ _. refl) ok
                (λ q z. ap (λ y. same q r + names q y + total (same q) v.hand) borrowed)
                refl (λ g n. at-put_else 0 v.slots.cached f g 0 n) refl refl refl refl (kept.ledger.hands id v me)
                refl refl (λ d z. kept.sweep.stock id v me d z)
                refl (λ _. kept.in_hand.accounts id v me alive) (λ y e. kept.held.bodies i y l e)
                record {
                  empty = λ z. absurd (omega arith);
                  full = λ z. absurd (omega arith);
                  out = λ _ _. omega (arith, o.out out.0 out.1, one);
                  cached = λ z. absurd (omega arith);
                  fitting = λ z. absurd (omega arith);
                  used = λ z. absurd (ne z);
                  away = λ z. absurd (omega arith);
                  none = λ _. c';
                }
                record {
                  slot = λ _. past;
                  cached = λ big. absurd (omega (arith, c'));
                  looked = fr.looked;
                  floor = omega arith;
                  seen_is = fr.seen_is;
                },
            record { home = λ e. absurd (ne e); swept = λ _. (two, refl) },
          ))

  pub puts : (n id : ℕ) (m : Me (Stored S D C B) LaneView) (more : List (ℕ × Stored S D C B)) (f p floor : ℕ)
      (x : SvRef B) → f < 16 → m.0.seat.spent ≡ false → slot_of m.0 f ≡ borrow p floor → x.pack ≡ p → 256 ≤ p
      → In (record { pack = p; body = body x.body.value }) m.0.known.bodies
      → m.1 ≡ (slot_home (spot m.0.known.lane f), is.Cached x) ∷ more
      → Allows (Kept books disk cell body) n id m (slot_word (spot m.0.known.lane f)) (λ y. either (eqb y 1) p y)
      (PutBack f p m)
  puts n id m more f p floor x near alive borrowed named is_pack has_body e =
      subst (λ (c : List (ℕ × Stored S D C B)). Allows (Kept books disk cell body) n id (m.0, c)
      (slot_word (spot m.0.known.lane f)) (λ y. either (eqb y 1) p y) (PutBack f p (m.0, c))) (sym e)
      (puts_own n id m.0 more f p floor x near alive borrowed named is_pack has_body)

  rests_own : (n id : ℕ) (v : LaneView) (more : List (ℕ × Stored S D C B)) (f p k : ℕ) → f < 16 → v.seat.spent ≡ false
      → slot_of v f ≡ held p → length v.hand < most_hand
      → let m : Me (Stored S D C B) LaneView = (v, (slot_home (spot v.known.lane f), is.Nothing) ∷ more) in
      Allows (Kept books disk cell body) n id m (slot_word (spot v.known.lane f)) (λ _. 0) (Rested f p k m)
  rests_own n id v more f p k near alive has room s kept long me fits =
      subst (λ (z : ℕ). Goal z) (sym (kept.home.seats.ordered id v me alive)) go
    where
      T : ℕ → Me (Stored S D C B) LaneView
      T z = (v, (slot_home (spot z f), is.Nothing) ∷ more)

      Goal : ℕ → Type 0
      Goal z = (w : LaneView) × (a : Act (Stored S D C B)) × Valid s.homes (T z).1 a
          × Kept books disk cell body (stepped s (slot_word (spot z f)) 0 id (T z).1 w a)
          × Rested f p k (T z) (slot s (spot z f)) (w, carried_after (T z).1 a)

      go : Goal id
      go = let i = spot id f in let r : ℕ = slot s i in
          let l : i < 512 = lane_lt books disk cell body s kept id v me f near in
          let w = counted 0 k 0 (rested f p v) in
          let o = own_right books disk cell body s kept id v me f near in
          let fr = own_fresh books disk cell body s kept id v me f near in
          let one : lent (slot_of v f) ≡ 1 = ap lent has in let out = out_of o (omega (arith, one)) in
          let homes = set s.homes (slot_home i) (some is.Nothing) in
          let c' : at 0 v.slots.cached f ≡ 0 = o.none (omega (arith, one)) in (
            w,
            gives,
            tt,
            kept_by_own books disk cell body s kept id v me f near alive w 0 away homes
                (length-set s.homes (slot_home i) (some is.Nothing))
                (λ j n. set_else s.homes (slot_home i) j (some is.Nothing) n)
                record {
                  empty = λ _. set_here s.homes (slot_home i) (some is.Nothing)
                      (omega (arith, kept.home.seats.homes));
                  out = λ z. absurd (omega arith);
                  cached = λ z. absurd (omega arith);
                  marks = λ _. omega arith;
                }
                (λ q z. omega (
                  arith,
                  marked q r z out.1,
                  marked q 0 z (omega arith),
                  reach q p v.hand z,
                  ap (names q) has,
                ))
                refl (λ g n. refl) refl refl refl refl (omega (arith, reach_len p v.hand)) refl refl
                (λ d z. stock_reached p d.books d.work v.hand (kept.sweep.stock id v me d z))
                refl (λ _. kept.in_hand.accounts id v me alive)
                (λ y e. absurd (no_ref y (sym (set_here s.homes (slot_home i) (some is.Nothing)
                (omega (arith, kept.home.seats.homes))) ∙ e)))
                record {
                  empty = λ _. omega (arith, o.out out.0 out.1, one);
                  full = λ z. absurd (omega arith);
                  out = λ z. absurd (omega arith);
                  cached = λ z. absurd (omega arith);
                  fitting = λ z. absurd (omega arith);
                  used = λ z. absurd (omega arith);
                  away = λ _ big. absurd (omega (arith, c'));
                  none = λ z. absurd (omega arith);
                }
                record {
                  slot = λ big. absurd (omega arith);
                  cached = fr.cached;
                  looked = fr.looked;
                  floor = omega arith;
                  seen_is = fr.seen_is;
                },
            refl,
          )

  pub rests : (n id : ℕ) (m : Me (Stored S D C B) LaneView) (more : List (ℕ × Stored S D C B)) (f p k : ℕ) → f < 16
      → m.0.seat.spent ≡ false → slot_of m.0 f ≡ held p → length m.0.hand < most_hand
      → m.1 ≡ (slot_home (spot m.0.known.lane f), is.Nothing) ∷ more
      → Allows (Kept books disk cell body) n id m (slot_word (spot m.0.known.lane f)) (λ _. 0) (Rested f p k m)
  rests n id m more f p k near alive has room e =
      subst (λ (c : List (ℕ × Stored S D C B)). Allows (Kept books disk cell body) n id (m.0, c)
      (slot_word (spot m.0.known.lane f)) (λ _. 0) (Rested f p k (m.0, c))) (sym e)
      (rests_own n id m.0 more f p k near alive has room)
