-- The kind number load keeps the rule.
use Rattle.std.proofs.Common.{Bool, Option, ap, arith, false, refl, set, subst, sym, true, ℕ, ◌+◌, ◌<◌, ◌^◌, ◌∙◌, ◌∷◌, ◌≡◌, ◌≤◌}
use mathlib.Core.Logic.{dite}
use mathlib.Core.Option.{some}
use native.Mathlib.Decide.{dec_le, ℕ_discrete}
use lib.ListN.{get_elem?}
use Rattle.atomic_table.specs.Table.{Allows, Me, State, keeps}
use Rattle.sv_model.specs.Books.{Books}
use Rattle.sv_model.specs.Cells.{Cell}
use Rattle.sv_model.specs.Lists.{Every, total, at}
use Rattle.sv_rule.specs.Fresh.{FreshOf, Past, floor_of}
use Rattle.sv_rule.specs.Rounds.{Loaded, Rounds}
use Rattle.sv_rule.specs.Rule.{Kept}
use Rattle.sv_rule.specs.SlotPlays.{IsCurrentAt, Looked, checked, lends, looked, looked_by}
use Rattle.sv_rule.specs.Sums.{without}
use Rattle.sv_model.specs.Supers.{current_of, end_at}
use Rattle.sv_rule.specs.Sweep.{lent, pack_of}
use Rattle.sv_rule.specs.Table.{names, number, number_word, slot_of, word}
use Rattle.sv_rule.specs.UnderWay.{Stock, excepts, fit}
use Rattle.sv_rule.specs.Views.{Body, Disk, Joined, LaneView, Load, SlotView, Work, away, borrow, idle}
use Rattle.sv_rule.specs.declared.parts.Stored.{Stored}
use Rattle.sv_rule.proofs.Basics.{by_bool, by_desk, every_cons}
use Rattle.sv_rule.proofs.CurrentLaws.{pack_le}
use Rattle.sv_rule_slots.proofs.Checks.{floor-checked, lends_is, lent-checked, names-checked, pack-checked, right_view}
use Rattle.sv_rule_slots.proofs.LoadSteps.{L, kept-by-load}
use Rattle.sv_rule_slots.proofs.References.{adds}
use Rattle.sv_rule.proofs.RoundTurns.{loaded-now, loaded-work, rounds-set}
use Rattle.sv_rule.proofs.Shows.{handle-shows, shown-rises}
use Rattle.sv_rule.proofs.StepLaws.{right_same}
use Rattle.sv_rule.proofs.Sums.{at-put_else, at-put_same, length-put, length-without, same-else, total-put, total-without}

module _ {S D C B : Type 0} (books : S → Books) (disk : D → Disk) (cell : C → Option Cell) (body : B → Body) where
  -- the number word is a pack that is not past itself
  now : (s : State (Stored S D C B) LaneView) (kept : Kept books disk cell body s) (f : ℕ) → f < 16 → 256 ≤ number s f
      → Past kept.b (number s f) f (number s f)
  now s kept f near big = record {
    is = (kept.numbers.word f near).is big;
    below = λ _. omega arith;
    none = λ z. absurd (omega arith);
  }

  pub loads : (n id : ℕ) (m : Me (Stored S D C B) LaneView) (f : ℕ) → f < 16 → m.0.seat.spent ≡ false
      → Allows (Kept books disk cell body) n id m (number_word f) (λ y. y) (Looked f m)
  loads n id m f near alive s kept long me fits =
      let v = m.0 in let r : ℕ = number s f in (
        looked f r v,
        keeps,
        tt,
        by_bool (lends f r v)
            (λ e. subst (λ (b : Bool). Kept books disk cell body
            (L books disk cell body s kept id v (looked_by b f r v) me (number_word f) (omega arith)
            (omega arith))) (sym e) (lent_out s kept me e))
            (λ e. subst (λ (b : Bool). Kept books disk cell body
            (L books disk cell body s kept id v (looked_by b f r v) me (number_word f) (omega arith)
            (omega arith))) (sym e) (plain s kept me)),
        record {
          is = refl;
          current = by_desk v.locks.db (λ no_lock. subst (IsCurrentAt f r) (sym no_lock) tt)
              (λ d has. subst (IsCurrentAt f r) (sym has)
              (λ resting. let h = kept.home.desks id v me d has in
              (kept.numbers.word f near).current (ap (excepts f) (sym h.1 ∙ resting))
              ∙ ap (λ (z : Books). current_of z f) (sym h.0)));
          rises = λ big. shown-rises kept.b (number s f) f (at 0 v.slots.looked f) big (kept.numbers.word f near).is
              (kept.fresh id v me f near).looked;
          small = small s kept;
          there = λ has no_lock stays_on. handle-shows books disk cell body s kept id v me f near alive has no_lock
              stays_on;
        },
      )
    where
      small : (s : State (Stored S D C B) LaneView) → Kept books disk cell body s → number s f < 2 ^ 40
      small s kept = dite (dec_le 256 (number s f))
          (λ big. omega (arith, pack_le ((kept.numbers.word f near).is big), kept.numbers.lawful.limits.supers))
          (λ low. omega arith)

      seen_end : (s : State (Stored S D C B) LaneView) (kept : Kept books disk cell body s)
          → get_elem? s.views id ≡ some m.0 → 256 ≤ number s f → at 0 m.0.known.seen f ≤ end_at kept.b (number s f)
      seen_end s kept me big = omega (arith, (kept.fresh id m.0 me f near).seen_is, (kept.numbers.word f near).ends big)

      loaded_one : (s : State (Stored S D C B) LaneView) (kept : Kept books disk cell body s)
          → get_elem? s.views id ≡ some m.0 → (w : LaneView) → w.known.round ≡ m.0.known.round
          → w.loads ≡ record { family = f; pack = number s f } ∷ m.0.loads → w.counts.adds ≡ m.0.counts.adds
          → w.joined ≡ m.0.joined
          → (round : ℕ) (number' : ℕ → ℕ) → round ≡ word s 82 → ((f : ℕ) → f < 16 → number' f ≡ number s f)
          → Rounds kept.b kept.work round number' (set s.views id w)
      loaded_one s kept me w same_round loads adds joined round number' rounds numbers = let v = m.0 in
          let r = kept.rounds in
          let on : (x : Load) → Loaded kept.b kept.work r.moved (number s) x
          → Loaded kept.b kept.work r.moved number' x = loaded-work kept.b kept.work kept.work r.moved (number s)
          number' numbers (λ g. refl) in
          rounds-set kept.b kept.b kept.work kept.work (word s 82) round (number s) number' s.views id v w me rounds
          numbers refl r on r.bound
          (λ k. adds k + total (λ (o : Joined). o.counts.adds) (joined k)) (omega (arith, r.low id v me, same_round))
          (λ z. subst (Every (Loaded kept.b kept.work r.moved number')) (sym loads)
          (every_cons (Loaded kept.b kept.work r.moved number') (record { family = f; pack = number s f }) v.loads
          (on (record { family = f; pack = number s f })
          (loaded-now kept.b kept.work r.moved (number s) f near r.begun_none kept.numbers))
          (λ i x y. on x (r.loaded id v me (sym same_round ∙ z) i x y))))

      plain : (s : State (Stored S D C B) LaneView) (kept : Kept books disk cell body s)
          (me : get_elem? s.views id ≡ some m.0) → Kept books disk cell body
          (L books disk cell body s kept id m.0 (looked_by false f (number s f) m.0) me (number_word f) (omega arith)
          (omega arith))
      plain s kept me = let v = m.0 in let r : ℕ = number s f in let n : ℕ = at 0 v.known.seen f in
          let x = checked (slot_of v f) r n in let w = looked_by false f r v in
          let here : slot_of w f ≡ x = at-put_same away v.slots.slot f x in
          kept-by-load books disk cell body s kept id v w me (number_word f) (omega arith) (omega arith) alive refl
          (λ e. kept.in_hand.accounts id v me e)
          (λ q _. omega (arith, total-put (names q) away refl v.slots.slot f x, names-checked q r n (slot_of v f)))
          (length-put away v.slots.slot f x 16 (kept.home.seats.slots id v me) near) (kept.ledger.hands id v me) refl
          refl refl
          (λ g l old. dite (ℕ_discrete g f)
          (λ e. right_view (ap (λ (z : ℕ). lent (slot_of w z)) e
          ∙ (ap lent here ∙ (lent-checked r n (slot_of v f) ∙ ap (λ (z : ℕ). lent (slot_of v z)) (sym e))))
          (ap (λ (z : ℕ). pack_of (slot_of w z)) e ∙ (ap pack_of here
          ∙ (pack-checked r n (slot_of v f) ∙ ap (λ (z : ℕ). pack_of (slot_of v z)) (sym e)))) old)
          (λ ne. right_same refl refl refl refl refl (at-put_else away v.slots.slot f g x ne) old))
          (λ d z. kept.sweep.stock id v me d z)
          (λ g l. let old = kept.fresh id v me g l in dite (ℕ_discrete g f)
          (λ e. subst (λ (z : ℕ). FreshOf kept.b (number s z) z (slot_of w z) (at 0 v.slots.cached z)
          (at 0 w.slots.looked z) (at 0 v.known.seen z)) (sym e)
          (let o = kept.fresh id v me f near in let same_pack : pack_of (slot_of w f) ≡ pack_of (slot_of v f) = ap
          pack_of here ∙ pack-checked r n (slot_of v f) in
          record {
            slot = λ big. subst (λ (z : ℕ). Past kept.b r f z) (sym same_pack) (o.slot (omega (arith, same_pack)));
            cached = o.cached;
            looked = subst (λ (z : ℕ). 256 ≤ z → Past kept.b r f z) (sym (at-put_same 0 v.slots.looked f r))
                (now s kept f near);
            floor = subst (λ (z : SlotView). floor_of z ≤ end_at kept.b (pack_of z)) (sym here)
                (floor-checked r n (slot_of v f) (end_at kept.b) (seen_end s kept me)
                (λ z. dite (dec_le 256 r) (λ y. y) (λ y. absurd
                (omega (arith, (kept.numbers.word f near).marks (omega arith))))) o.floor);
            seen_is = o.seen_is;
          }))
          (λ ne. subst (λ (z : SlotView × ℕ). FreshOf kept.b (number s g) g z.0 (at 0 v.slots.cached g) z.1
          (at 0 v.known.seen g)) (λ k. (
            sym (at-put_else away v.slots.slot f g x ne) k,
            sym (at-put_else 0 v.slots.looked f g r ne) k,
          )) old))
          (loaded_one s kept me w refl refl refl refl)

      lent_out : (s : State (Stored S D C B) LaneView) (kept : Kept books disk cell body s)
          (me : get_elem? s.views id ≡ some m.0) → lends f (number s f) m.0 ≡ true
          → Kept books disk cell body (L books disk cell body s kept id m.0 (looked_by true f (number s f) m.0) me
          (number_word f) (omega arith) (omega arith))
      lent_out s kept me e = let v = m.0 in let r : ℕ = number s f in let n : ℕ = at 0 v.known.seen f in
          let x = borrow r n in let w = looked_by true f r v in
          let is = lends_is f r v e in let here : slot_of w f ≡ x = at-put_same away v.slots.slot f x in
          let h = kept.home.desks id v me is.desk is.has in let rests : kept.work ≡ idle = sym h.1 ∙ is.resting in
          kept-by-load books disk cell body s kept id v w me (number_word f) (omega arith) (omega arith) alive refl
          (λ e. kept.in_hand.accounts id v me e)
          (λ q big. omega (
            arith,
            total-put (names q) away refl v.slots.slot f x,
            total-without r v.hand is.hand q,
            ap (names q) is.free,
            same-else q 0 (λ z. omega arith),
          ))
          (length-put away v.slots.slot f x 16 (kept.home.seats.slots id v me) near)
          (omega (arith, length-without r v.hand, kept.ledger.hands id v me)) refl refl refl
          (λ g l old. dite (ℕ_discrete g f)
          (λ e. let x' : slot_of w g ≡ x = ap (slot_of w) e ∙ here in
          let was : lent (slot_of v g) ≡ 1 = ap (λ (z : ℕ). lent (slot_of v z)) e ∙ ap lent is.free in
          let fits' : fit kept.work g id (number s g) ≡ r = ap (λ (z : Work). fit z g id (number s g)) rests
          ∙ ap (number s) e in
          record {
            empty = λ z. omega (arith, old.empty z, was, ap lent x');
            full = λ z. omega (arith, old.full z, was, ap lent x');
            out = λ y z. omega (arith, old.out y z, was, ap lent x');
            cached = old.cached;
            fitting = old.fitting;
            used = λ _ _. ap pack_of x' ∙ sym fits';
            away = λ z. absurd (omega (arith, ap lent x'));
            none = λ _. old.none (omega (arith, was));
          })
          (λ ne. right_same refl refl refl refl refl (at-put_else away v.slots.slot f g x ne) old))
          (λ d z. subst (λ (y : Work). Stock d.books y (without r v.hand))
          (sym rests ∙ sym (kept.home.desks id v me d z).1) tt)
          (λ g l. let old = kept.fresh id v me g l in dite (ℕ_discrete g f)
          (λ e. subst (λ (z : ℕ). FreshOf kept.b (number s z) z (slot_of w z) (at 0 v.slots.cached z)
          (at 0 w.slots.looked z) (at 0 v.known.seen z)) (sym e)
          (let o = kept.fresh id v me f near in
          record {
            slot = λ _. subst (λ (z : ℕ). Past kept.b r f z) (sym (ap pack_of here)) (now s kept f near is.pack);
            cached = o.cached;
            looked = subst (λ (z : ℕ). 256 ≤ z → Past kept.b r f z) (sym (at-put_same 0 v.slots.looked f r))
                (now s kept f near);
            floor = subst (λ (z : SlotView). floor_of z ≤ end_at kept.b (pack_of z)) (sym here)
                (seen_end s kept me is.pack);
            seen_is = o.seen_is;
          }))
          (λ ne. subst (λ (z : SlotView × ℕ). FreshOf kept.b (number s g) g z.0 (at 0 v.slots.cached g) z.1
          (at 0 v.known.seen g)) (λ k. (
            sym (at-put_else away v.slots.slot f g x ne) k,
            sym (at-put_else 0 v.slots.looked f g r ne) k,
          )) old))
          (loaded_one s kept me w refl refl refl refl)
