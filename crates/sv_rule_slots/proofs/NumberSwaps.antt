-- The kind number swap keeps the rule.
use Rattle.std.proofs.Common.{Bool, List, Option, [], ap, arith, cond, eq-eqb, false, le-leb, nat_le, ne_eqb, option_map, refl, set, subst, suc, sym, zero, ℕ, ◌+◌, ◌<◌, ◌∙◌, ◌∷◌, ◌≡◌, ◌≢◌, ◌≤◌}
use mathlib.Core.Logic.{dite}
use native.Mathlib.Decide.{dec_le, ℕ_discrete}
use Rattle.atomic_table.specs.Table.{Allows, Me, State, keeps}
use Rattle.sv_model.specs.Books.{Books}
use Rattle.sv_model.specs.Cells.{Cell}
use Rattle.sv_model.specs.Lists.{Every, same, total, at}
use Rattle.sv_rule.specs.Blanks.{nobody}
use Rattle.sv_rule.specs.Fits.{BodyFits}
use Rattle.sv_rule.specs.Fresh.{FreshOf, Past}
use Rattle.sv_rule.specs.Numbers.{NumberOk, Numbers}
use Rattle.sv_rule.specs.RoundPlays.{MaySwap, Numbered, numbered}
use Rattle.sv_rule.specs.Rounds.{Rounds}
use Rattle.sv_rule.specs.Rule.{Kept}
use Rattle.sv_rule.specs.SlotPlays.{reached}
use Rattle.sv_rule.specs.Sums.{Each, without}
use Rattle.sv_model.specs.Supers.{current_of}
use Rattle.sv_rule.specs.Sweep.{Right}
use Rattle.sv_rule.specs.Table.{cached_at, holders, holds, number, number_word, owers, owes, reference, reference_word, slot, slot_of, slot_word, spot, word}
use Rattle.sv_rule.specs.UnderWay.{Stock, fit, middle}
use Rattle.sv_rule.specs.Views.{Bodied, Body, Desk, Disk, LaneView, Work, begun, sweeping}
use Rattle.sv_rule.specs.declared.parts.Stored.{Stored}
use Rattle.sv_rule.proofs.Assembly.{N, kept-by-word, low_id, stays}
use Rattle.sv_rule.proofs.Basics.{at_desk, each_set, no_desk_in}
use Rattle.sv_rule.proofs.CurrentTurns.{silent-none}
use Rattle.sv_rule.proofs.DbLock.{db-desk, owners-desk}
use Rattle.sv_rule.proofs.FreshTurns.{fresh-number}
use Rattle.sv_rule.proofs.NumberWorks.{not-new, now-renumbered, past-renumbered, renumbered}
use Rattle.sv_rule_slots.proofs.OwnSlots.{reach, reach_len}
use Rattle.sv_rule.proofs.Places.{places_same}
use Rattle.sv_rule.proofs.StepRests.{accounts-bodies, hand_view, rest-stays}
use Rattle.sv_rule.proofs.RoundRises.{rounds-moved}
use Rattle.sv_rule.proofs.StepLaws.{right_same, slots_stay, spots_keep, views_move, word_here}
use Rattle.sv_rule.proofs.Sums.{at-put_else, at-put_same, below-put, length-without, same-else, same-self, total-without, total-without_else}

-- what holds of nobody and of each view holds of what lane l knows
pub each_at : (P : LaneView → Type 0) (vs : List LaneView) → P nobody → Each (λ j v. P v) vs → (l : ℕ)
    → P (at nobody vs l)
each_at P [] no_one all l = no_one
each_at P (v ∷ vs) no_one all zero = all 0 v refl
each_at P (v ∷ vs) no_one all (suc l) = each_at P vs no_one (λ j. all (suc j)) l

-- a sweep that begins has the old pack for every lane
fit_first : (f r l n : ℕ) → fit (sweeping f r 0 false 0) f l n ≡ r
fit_first f r l n = ap (λ (b : Bool). cond b (cond (nat_le 0 l) r 0) n) (eq-eqb f f refl)
    ∙ ap (λ (b : Bool). cond b r 0) (le-leb 0 l (omega arith))

fit_other : (f r l n g : ℕ) → g ≢ f → fit (sweeping f r 0 false 0) g l n ≡ n
fit_other f r l n g ne = ap (λ (b : Bool). cond b (cond (nat_le 0 l) r 0) n) (ne_eqb f g (λ e. ne (sym e)))

module _ {S D C B : Type 0} (books : S → Books) (disk : D → Disk) (cell : C → Option Cell) (body : B → Body) where
  -- the number word gets the current, and the sweep begins
  pub renumbers : (n id : ℕ) (m : Me (Stored S D C B) LaneView) (f p : ℕ) (olds : List Bodied)
      (may : MaySwap m.0 f p olds)
      → Allows (Kept books disk cell body) n id m (number_word f) (λ _. p) (Numbered may.desk f p olds m)
  renumbers n id m f p olds may s kept long me fits =
      let v = m.0 in let d = may.desk in let has = may.has in let near = may.near in let is = may.is in
      let r : ℕ = number s f in let i = number_word f in let hand = reached r (without p v.hand) in
      let work = sweeping f r 0 false 0 in let w = numbered d f p olds r v in
      let d' : Desk = record { books = d.books; work = work; due = d.due } in
      let h = kept.home.desks id v me d has in let begins : kept.work ≡ begun f = sym h.1 ∙ may.begun_is in
      let b = kept.b in
      let before : Numbers b (begun f) (number s) = subst (λ (z : Work). Numbers b z (number s)) begins kept.numbers in
      let next' : State (Stored S D C B) LaneView = N books disk cell body s kept id v w me i p (omega arith)
      (omega arith) in
      let else = stays books disk cell body s kept id v w me i p (omega arith) (omega arith) in
      let hands : hand_view w ≡ hand_view v = λ k. (
        v.seat,
        v.known.task,
        v.counts.faults,
        v.locks.cell,
        sym (ap (option_map (λ (y : Desk). y.due)) has) k,
        v.joined,
        v.locks.dir,
        v.known.lane,
        v.known.start,
      ) in
      let here : number next' f ≡ p = word_here s i p s.homes id v w me (omega (arith, kept.home.seats.words)) in
      let here' : number next' f ≡ current_of b f = here ∙ (is ∙ ap (λ (z : Books). current_of z f) h.0) in
      let others : (g : ℕ) → g < 16 → g ≢ f → number next' g ≡ number s g = λ g l n. else (number_word g)
      (λ z. n (omega arith)) in
      let slots : (j : ℕ) → j < 512 → slot next' j ≡ slot s j = λ j l. else (slot_word j) (λ z. omega arith) in
      let stock : 256 ≤ p → 0 < total (same p) v.hand = λ big. subst (λ (z : ℕ). 0 < total (same z) v.hand) (sym is)
      ((subst (λ (z : Work). Stock d.books z v.hand) may.begun_is (kept.sweep.stock id v me d has))
      (omega (arith, is))) in
      let lost : (q : ℕ) → 256 ≤ q → total (same q) (without p v.hand) + same q p ≡ total (same q) v.hand = λ q l.
      dite (dec_le 256 p) (λ big. total-without p v.hand (stock big) q)
      (λ small. omega (arith, total-without_else p q v.hand (λ e. omega arith), same-else q p (λ e. omega arith)))
      in
      let past_at : (l : ℕ) → 256 ≤ cached_at s.views l f
      → Past b r f (cached_at s.views l f) = λ l. each_at
      (λ u. 256 ≤ at 0 u.slots.cached f → Past b r f (at 0 u.slots.cached f)) s.views (λ z. absurd (omega arith))
      (λ j u e. (kept.fresh j u e f near).cached) l in (
        w,
        keeps,
        tt,
        kept-by-word books disk cell body s kept id v w me i p (omega arith) (omega arith) b work
            (db-desk books disk cell body s kept id v w me d d' has refl b work)
            (owners-desk books disk cell body s kept id v w me d d' has refl b work h.0 refl)
            (rest-stays books disk cell body s kept id v w me i p s.homes hands work (omega arith) (λ k l. refl)
            (λ e. accounts-bodies b v.known olds (subst (λ (z : Books). Every (BodyFits z) olds) h.0 may.bodies)
            (kept.in_hand.accounts id v me e))
            (silent-none work (number next') (set s.views id w) (λ g. refl)) kept.held.bodies)
            (places_same b.supers (reference s) (reference next') (holders s) (holders next') (owers s) (owers next')
            (λ k l. else (reference_word k) (λ z. omega arith))
            (λ q l. omega (
              arith,
              slots_stay s i p s.homes id v w me (λ k y e. omega arith) q,
              views_move s i p s.homes id v w me (holds q),
              lost q l,
              reach q r (without p v.hand) l,
              ap (same q) here,
              below-put (λ g. same q (number s g)) (λ g. same q (number next' g)) f 16 near
                  (λ g ne. ap (same q) (else (number_word g) (λ e. ne (omega arith)))),
            ))
            (λ q l. omega (arith, views_move s i p s.homes id v w me (owes q))) kept.ledger.places)
            (omega (arith, reach_len r (without p v.hand), length-without p v.hand)) (kept.home.seats.slots id v me)
            refl (λ z. absurd (no_desk_in has (ap (λ (u : LaneView). u.locks.db) (kept.home.seats.spent id v me z))))
            (renumbered b f near (number s) (number next') before here' others r 0 0 false)
            (spots_keep (λ l g c x. Right (fit work g l (number next' g)) (middle (spot l g) work)
            (slot next' (spot l g)) (number next' g) c x) s.views id v w me
            (low_id books disk cell body s kept id v w me) refl
            (λ l g a z. let o = kept.sweep.right l g a z in
            let before_fit : fit kept.work g l (number s g) ≡ number s g = ap
            (λ (y : Work). fit y g l (number s g)) begins in
            let no_mid : 0 ≡ middle (spot l g) kept.work = sym (ap (middle (spot l g)) begins) in
            dite (ℕ_discrete g f)
            (λ e. let fit_is : fit work g l (number next' g) ≡ fit kept.work g l (number s g) = ap
            (λ (y : ℕ). fit work y l (number next' g)) e
            ∙ (fit_first f r l (number next' g) ∙ (ap (number s) (sym e) ∙ sym before_fit)) in
            let moved = right_same fit_is no_mid (slots (spot l g) (omega arith)) refl refl refl o in record {
              empty = moved.empty;
              full = moved.full;
              out = moved.out;
              cached = moved.cached;
              fitting = moved.fitting;
              used = moved.used;
              away = λ _ big same_number. absurd (not-new b f near (number s) (number next') before here' others
                  (cached_at s.views l f) (omega (arith, ap (cached_at s.views l) e))
                  (past_at l (omega (arith, ap (cached_at s.views l) e)))
                  (ap (cached_at s.views l) (sym e) ∙ (same_number ∙ ap (number next') e)));
              none = moved.none;
            })
            (λ ne. right_same (fit_other f r l (number next' g) g ne ∙ (others g z ne ∙ sym before_fit)) no_mid
            (slots (spot l g) (omega arith)) (others g z ne) refl refl o)))
            (λ l big e. (before.word f near).other (omega (arith, same-self f)) big (e ∙ here'))
            (λ d' z. at_desk (λ y. Stock y.books y.work hand)
            w.locks.db record { books = d.books; work = work; due = d.due } d' refl z
            (λ big. omega (arith, reach r r (without p v.hand) big, same-self r)))
            (each_set (λ j u. (g : ℕ) → g < 16 → FreshOf b (number next' g) g (slot_of u g) (at 0 u.slots.cached g)
            (at 0 u.slots.looked g) (at 0 u.known.seen g)) s.views id w
            (λ g l. let o = kept.fresh id v me g l in dite (ℕ_discrete g f)
            (λ e. subst (λ (y : ℕ). FreshOf b (number next' y) y (slot_of v y) (at 0 v.slots.cached y)
            (at 0 w.slots.looked y) (at 0 v.known.seen y)) (sym e)
            (let t = fresh-number b (number s f) (number next' f) f _ _ _ _
            (past-renumbered b f near (number s) (number next') before here' others) (kept.fresh id v me f near) in
            record {
              slot = t.slot;
              cached = t.cached;
              looked = subst
                  (λ (y : ℕ). 256 ≤ y → Past b (number next' f) f y) (here ∙ sym (at-put_same 0 v.slots.looked f p))
                  (now-renumbered b f near (number s) (number next') before here' others);
              floor = t.floor;
              seen_is = t.seen_is;
            }))
            (λ ne. subst (λ (y : ℕ × ℕ). FreshOf b y.0 g (slot_of v g) (at 0 v.slots.cached g) y.1
            (at 0 v.known.seen g)) (λ k. (sym (others g l ne) k, sym (at-put_else 0 v.slots.looked f g p ne) k)) o))
            (λ j u z g l. let o = kept.fresh j u z g l in dite (ℕ_discrete g f)
            (λ e. subst (λ (y : ℕ). FreshOf b (number next' y) y (slot_of u y) (at 0 u.slots.cached y)
            (at 0 u.slots.looked y) (at 0 u.known.seen y)) (sym e)
            (fresh-number b (number s f) (number next' f) f _ _ _ _
            (past-renumbered b f near (number s) (number next') before here' others) (kept.fresh j u z f near)))
            (λ ne. subst (λ (y : ℕ). FreshOf b y g (slot_of u g) (at 0 u.slots.cached g) (at 0 u.slots.looked g)
            (at 0 u.known.seen g)) (sym (others g l ne)) o)))
            (rounds-moved b f near (word s 82) (word next' 82) (number s) (number next') before here' others r 0 0
            false s.views id v w me (else 82 (λ z. omega arith)) refl
            (subst (λ (z : Work). Rounds b z (word s 82) (number s) s.views) begins kept.rounds)),
        record { is = refl; was = subst (λ (z : Books). NumberOk z (begun f) f r) (sym h.0) (before.word f near) },
      )
