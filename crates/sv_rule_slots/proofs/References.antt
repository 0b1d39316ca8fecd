-- The kinds reference add and reference sub keep the rule.
use Rattle.std.proofs.Common.{Bool, None, Option, Some, [], ap, arith, cond, eq-eqb, false, length, ne_eqb, option_map, refl, subst, sym, true, ℕ, ⊎_elim, ◌%◌, ◌+◌, ◌-◌, ◌/◌, ◌<◌, ◌^◌, ◌∙◌, ◌∷◌, ◌≡◌, ◌≢◌, ◌≤◌}
use mathlib.Core.Logic.{dite}
use native.Mathlib.Decide.{ℕ_discrete}
use Rattle.atomic_table.specs.Table.{Allows, Me, State, keeps}
use Rattle.sv_model.proofs.Basics.{none_some}
use Rattle.sv_model.specs.Books.{Books}
use Rattle.sv_model.specs.Cells.{Cell}
use Rattle.sv_model.specs.Lists.{In, same, total}
use Rattle.sv_rule.specs.Fits.{BodyFits}
use Rattle.sv_rule.specs.Ledger.{Places, most_hand}
use Rattle.sv_rule.specs.Numbers.{Numbers}
use Rattle.sv_rule.specs.ReferencePlays.{Added, CanAdd, Dropped, MayDropAt, UnderLock, added, dropped, has_taken_at, lowered, lowers, was_last}
use Rattle.sv_rule.specs.Rule.{Kept}
use Rattle.sv_rule.specs.Sums.{without}
use Rattle.sv_model.specs.Supers.{current_of, pack}
use Rattle.sv_rule.specs.Sweep.{Rights}
use Rattle.sv_rule.specs.Table.{holders, holds, number, owers, owes, reference, reference_word, slot, word}
use Rattle.sv_rule.specs.UnderWay.{Apart, Stock, excepts}
use Rattle.sv_rule.specs.Views.{Bodied, Body, Desk, Disk, LaneView, Work}
use Rattle.sv_rule.specs.declared.parts.Stored.{Stored}
use Rattle.sv_rule.proofs.Basics.{by_desk, every_cons, every_none, true_not}
use Rattle.sv_rule.proofs.DbLock.{db-desk, db-same, owners-desk, owners-same}
use Rattle.sv_rule_slots.proofs.Drops.{WorkOk, lowers_ok}
use Rattle.sv_rule.proofs.FreshTurns.{stock-more}
use Rattle.sv_rule.proofs.Places.{held_place, places_at}
use Rattle.sv_rule.proofs.StepRests.{accounts-bodies}
use Rattle.sv_rule.proofs.RoundTurns.{rounds_of}
use Rattle.sv_rule.proofs.StepLaws.{holders_by_view, holders_few, views_move, word_else, word_here}
use Rattle.sv_rule.proofs.Sums.{below-term_le, length-without, same-else, same-self, term_le, total-without}
use Rattle.sv_rule_slots.proofs.ReferenceSteps.{R, kept-by-reference, lowered-excepts, lowered_rounds, taken_more}

-- a drop is nothing to rounds

module _ {S D C B : Type 0} (books : S → Books) (disk : D → Disk) (cell : C → Option Cell) (body : B → Body) where
  pub adds : (n id : ℕ) (m : Me (Stored S D C B) LaneView) (t k : ℕ) (b : Bodied) → b.pack ≡ pack t k → 0 < t
      → k < 256 → CanAdd b m.0 → m.0.seat.spent ≡ false → length m.0.hand < most_hand
      → Allows (Kept books disk cell body) n id m (reference_word k) (λ y. (y + 1) % 2 ^ 64) (Added b m)
  adds n id m t k b is pos near has alive room s kept long me fits =
      let p : ℕ = pack t k in let v = m.0 in let w = added b v in let i = reference_word k in
      let holding : 0 < holders s p = ⊎_elim (λ (z : (0 < holds b.pack v) × In b v.known.bodies). omega
      (arith, term_le (holds p) s.views id v me, z.0, ap (λ q. holds q v) is))
      (λ (z : UnderLock b v). let h = kept.home.desks id v me z.0 z.2 in
      let n : number s z.1 ≡ p = (kept.numbers.word z.1 z.4).current (ap (excepts z.1) (sym h.1 ∙ z.3))
      ∙ (ap (λ (y : Books). current_of y z.1) (sym h.0) ∙ (sym z.5 ∙ is)) in
      omega (arith, below-term_le (λ g. same p (number s g)) z.1 16 z.4, ap (same p) n, same-self p)) has in
      let accounts = kept.in_hand.accounts id v me alive in
      let fit : BodyFits kept.b b = ⊎_elim (λ (z : (0 < holds b.pack v) × In b v.known.bodies). accounts.fits.bodies
      z.1.at b z.1.is)
      (λ (z : UnderLock b v). subst (λ (y : Books). BodyFits y b) (kept.home.desks id v me z.0 z.2).0 z.6) has in
      let place = held_place kept.b.supers (reference s) (reference s) (holders s) (holders s) (owers s) (owers s)
      kept.ledger.places t k pos near holding in
      let few = holders_few s kept.home.seats kept.ledger.hands p in
      let y : ℕ = word s i in let x : ℕ = (y + 1) % 2 ^ 64 in
      let up : x ≡ y + 1 = omega (arith, place.0, kept.home.seats.views, kept.home.seats.few) in
      let next' : State (Stored S D C B) LaneView = R books disk cell body s kept id v w me k x near in
      let moved : (q : ℕ) → holders next' q ≡ holders s q + same q p = λ q. let a = holders_by_view s i x s.homes id v
      w me (λ f l e. omega arith) (λ f l e. omega arith) q in omega (arith, a, ap (same q) is) in
      let owed : (q : ℕ) → owers next' q ≡ owers s q = λ q. omega
      (arith, views_move s i x s.homes id v w me (owes q)) in (
        w,
        keeps,
        tt,
        kept-by-reference books disk cell body s kept id v w me k x near kept.work
            (db-same books disk cell body s kept id v w me refl)
            (owners-same books disk cell body s kept id v w me refl) (λ f z. z)
            (λ _. accounts-bodies kept.b v.known (b ∷ [])
            (every_cons (BodyFits kept.b) b [] fit (every_none (BodyFits kept.b))) accounts) refl
            (places_at kept.b.supers (reference s) (reference next') (holders s) (holders next') (owers s)
            (owers next') kept.ledger.places t k pos near
            (λ j n. word_else s i x s.homes id v w me (reference_word j) (λ e. n (omega arith)))
            (λ q n. omega (arith, moved q, same-else q p (λ e. n (sym e))))
            (λ q n. owed q)
            holding
            (word_here s i x s.homes id v w me (omega (arith, kept.home.seats.words))
            ∙ omega (arith, up, place.0, moved p, same-self p))
            (λ e. absurd (omega (arith, moved p)))
            (λ z. owed p ∙ place.2))
            (omega arith) refl refl (λ z. absurd (true_not (sym z ∙ alive))) kept.numbers kept.sweep.right kept.sweep.apart
            (λ d e. stock-more b.pack d.books d.work v.hand (kept.sweep.stock id v me d e)) refl refl,
        refl,
      )

  pub subs : (n id : ℕ) (m : Me (Stored S D C B) LaneView) (t k : ℕ) → 0 < t → k < 256 → m.0.seat.spent ≡ false
      → 0 < total (same (pack t k)) m.0.hand → MayDropAt (pack t k) m.0.seat.lanes m.0.hand m.0.locks.db
      → Allows (Kept books disk cell body) n id m (reference_word k) (λ y. (y + (2 ^ 64 - 1)) % 2 ^ 64)
      (Dropped (pack t k) m)
  subs n id m t k pos near alive has may s kept long me fits =
      let p : ℕ = pack t k in let v = m.0 in let i = reference_word k in
      let holding : 0 < holders s p = omega (arith, term_le (holds p) s.views id v me) in
      let place = held_place kept.b.supers (reference s) (reference s) (holders s) (holders s) (owers s) (owers s)
      kept.ledger.places t k pos near holding in
      let few = holders_few s kept.home.seats kept.ledger.hands p in
      let y : ℕ = word s i in let x : ℕ = (y + (2 ^ 64 - 1)) % 2 ^ 64 in let w = dropped p (was_last y) v in
      let down : x + 1 ≡ y = omega (arith, place.0, kept.home.seats.views, kept.home.seats.few) in
      let count : y % 4294967296 ≡ holders s p = omega (arith, place.0, kept.home.seats.views, kept.home.seats.few) in
      let next' : State (Stored S D C B) LaneView = R books disk cell body s kept id v w me k x near in
      let moved : (q : ℕ) → holders next' q + same q p ≡ holders s q = λ q. let a = holders_by_view s i x s.homes id v
      w me (λ f l e. omega arith) (λ f l e. omega arith) q in omega (arith, total-without p v.hand has q) in
      let owing : (q : ℕ) (last : Bool) → was_last y ≡ last
      → owers next' q ≡ owers s q + cond last (same q p) 0 = λ q last e.
      let a = views_move s i x s.homes id v w me (owes q) in
      let b : owes q w ≡ total (same q) (cond last (p ∷ v.owes) v.owes) = ap
      (λ z. total (same q) (cond z (p ∷ v.owes) v.owes)) e in
      elim last as (λ z. total (same q) (cond last (p ∷ v.owes) v.owes) ≡ total (same q) (cond z (p ∷ v.owes) v.owes)
      → owers next' q ≡ owers s q + cond z (same q p) 0) [ true ↦ λ c. omega arith | false ↦ λ c. omega arith ]
      refl in
      let small : length (without p v.hand) ≤ most_hand = omega
      (arith, length-without p v.hand, kept.ledger.hands id v me) in
      let finish : (last : Bool) → was_last y ≡ last → (holders s p ≡ 1 → last ≡ true)
      → (holders s p ≢ 1 → last ≡ false) → Places kept.b.supers (reference next') (holders next') (owers next') =
      λ last is one more.
      places_at kept.b.supers (reference s) (reference next') (holders s) (holders next') (owers s) (owers next')
      kept.ledger.places t k pos near
      (λ j n. word_else s i x s.homes id v w me (reference_word j) (λ e. n (omega arith)))
      (λ q n. omega (arith, moved q, same-else q p (λ e. n (sym e))))
      (λ q n. owing q last is ∙ elim last as (λ z. owers s q + cond z (same q p) 0 ≡ owers s q)
      [ true ↦ omega (arith, same-else q p (λ e. n (sym e))) | false ↦ omega arith ])
      holding
      (word_here s i x s.homes id v w me (omega (arith, kept.home.seats.words))
      ∙ omega (arith, down, place.0, moved p, same-self p))
      (λ none. let l : last ≡ true = one (omega (arith, moved p, same-self p)) in
      omega (arith, owing p last is, ap (λ z. cond z (same p p) 0) l, same-self p, place.2))
      (λ some. let l : last ≡ false = more (λ e. omega (arith, moved p, same-self p)) in
      omega (arith, owing p last is, ap (λ z. cond z (same p p) 0) l, place.2)) in
      let places = dite (ℕ_discrete (y % 4294967296) 1)
      (λ e. finish true (eq-eqb (y % 4294967296) 1 e) (λ _. refl) (λ n. absurd (n (sym count ∙ e))))
      (λ ne. finish false (ne_eqb (y % 4294967296) 1 ne) (λ e. absurd (ne (count ∙ e))) (λ _. refl)) in
      let two_more : 2 ≤ holders s p → was_last y ≡ false = λ z. ne_eqb (y % 4294967296) 1
      (λ e. omega (arith, count)) in (
        w,
        keeps,
        tt,
        by_desk v.locks.db
            (λ none. let stand : w.locks.db ≡ v.locks.db = ap (lowers p) none ∙ sym none in
            kept-by-reference books disk cell body s kept id v w me k x near kept.work
            (db-same books disk cell body s kept id v w me stand)
            (owners-same books disk cell body s kept id v w me stand) (λ f z. z)
            (λ _. kept.in_hand.accounts id v me alive)
            (λ i. (
              v.seat,
              v.known.task,
              v.counts.faults,
              v.locks.cell,
              option_map (λ (d : Desk). d.due) (stand i),
              v.joined,
              v.locks.dir,
              v.known.lane,
              v.known.start,
            ))
            places small refl refl (λ z. absurd (true_not (sym z ∙ alive)))
            kept.numbers kept.sweep.right kept.sweep.apart (λ d e. absurd (none_some d (sym none ∙ (sym stand ∙ e))))
            refl refl)
            (λ d is. let h = kept.home.desks id v me d is in
            let d' : Desk = record { books = d.books; work = lowered p d.work; due = d.due } in
            let is' : w.locks.db ≡ Some d' = ap (lowers p) is in
            let ok : WorkOk d.books d.work (number s) (slot s) s.views v.hand = record {
              numbers = subst (λ (z : Books × Work). Numbers z.0 z.1 (number s)) (λ c. (sym h.0 c, sym h.1 c))
                  kept.numbers;
              right = subst (λ (z : Work). Rights z (number s) (slot s) s.views) (sym h.1) kept.sweep.right;
              apart = subst (λ (z : Work). Apart (number s) z) (sym h.1) kept.sweep.apart;
              stock = kept.sweep.stock id v me d is;
            } in
            let after = lowers_ok p v.seat.lanes d.books (number s) (slot s) s.views v.hand
            (omega (arith, kept.home.seats.views, kept.home.seats.told id v me alive)) has d.work
            (subst (λ (o : Option Desk). MayDropAt p v.seat.lanes v.hand o) is may) ok in
            kept-by-reference books disk cell body s kept id v w me k x near (lowered p d.work)
            (db-desk books disk cell body s kept id v w me d d' is is' kept.b (lowered p d.work))
            (owners-desk books disk cell body s kept id v w me d d' is is' kept.b (lowered p d.work) h.0 refl)
            (λ g z. omega (arith, lowered-excepts p d.work g, ap (excepts g) h.1))
            (λ _. kept.in_hand.accounts id v me alive)
            (λ i. (
              v.seat,
              v.known.task,
              v.counts.faults,
              v.locks.cell,
              ((ap (option_map (λ (k : Desk). k.due)) is' ∙ sym (ap (option_map (λ (k : Desk). k.due)) is)) i),
              v.joined,
              v.locks.dir,
              v.known.lane,
              v.known.start,
            )) places small refl refl
            (λ dead. absurd (spent_alive dead alive)) (subst (λ (z : Books). Numbers z (lowered p d.work) (number s))
            h.0 after.numbers) after.right after.apart
            (λ e z. subst (λ (o : Option Desk). elim o as (λ _. Type 0)
            [ None ↦ Unit {0} | Some y ↦ Stock y.books y.work (without p v.hand) ]) (sym is' ∙ z) after.stock)
            (lowered_rounds p d.work ∙ ap rounds_of h.1) refl),
        record {
          is = refl;
          more = λ z. two_more (omega (arith, term_le (holds p) s.views id v me));
          swept = λ z. two_more (by_desk v.locks.db (λ none. absurd (omega (arith, ap (has_taken_at p) none)))
              (λ d is. omega (
                arith,
                taken_more p d.books d.work v.hand (omega arith)
                    (omega (arith, ap (has_taken_at p) is)) (kept.sweep.stock id v me d is),
                term_le (holds p) s.views id v me,
              )));
          current = λ d f is resting l e. let h = kept.home.desks id v me d is in
              let n : number s f ≡ p = (kept.numbers.word f l).current (ap (excepts f) (sym h.1 ∙ resting))
              ∙ (ap (λ (z : Books). current_of z f) (sym h.0) ∙ sym e) in
              two_more (omega (
                arith,
                term_le (holds p) s.views id v me,
                below-term_le (λ g. same p (number s g)) f 16 l,
                ap (same p) n,
                same-self p,
              ));
        },
      )
    where
      spent_alive : {z : Bool} → z ≡ true → z ≡ false → ⊥
      spent_alive e d = cc

  -- the same by the pack
  pub adds_at : (n id : ℕ) (m : Me (Stored S D C B) LaneView) (b : Bodied) (p : ℕ) → p ≡ b.pack → 256 ≤ p
      → CanAdd b m.0 → m.0.seat.spent ≡ false → length m.0.hand < most_hand
      → Allows (Kept books disk cell body) n id m (reference_word (p % 256)) (λ y. (y + 1) % 2 ^ 64) (Added b m)
  adds_at n id m b p is big has alive room = adds n id m (p / 256) (p % 256) b (omega arith) (omega arith)
      (omega arith) has alive room

  pub subs_at : (n id : ℕ) (m : Me (Stored S D C B) LaneView) (p q : ℕ) → p ≡ q → 256 ≤ p → m.0.seat.spent ≡ false
      → 0 < total (same p) m.0.hand → MayDropAt p m.0.seat.lanes m.0.hand m.0.locks.db
      → Allows (Kept books disk cell body) n id m (reference_word (p % 256)) (λ y. (y + (2 ^ 64 - 1)) % 2 ^ 64)
      (Dropped q m)
  subs_at n id m p q is big alive has may = let e : pack (p / 256) (p % 256) ≡ p = omega arith in
      subst (λ (z : ℕ). Allows (Kept books disk cell body) n id m (reference_word (p % 256))
      (λ y. (y + (2 ^ 64 - 1)) % 2 ^ 64) (Dropped z m)) (e ∙ is)
      (subs n id m (p / 256) (p % 256) (omega arith) (omega arith) alive
      (subst (λ (z : ℕ). 0 < total (same z) m.0.hand) (sym e) has)
      (subst (λ (z : ℕ). MayDropAt z m.0.seat.lanes m.0.hand m.0.locks.db) (sym e) may))
