-- The kind reference set keeps the rule, where it opens a place.
-- no other lane has a handle of a family that is made
use Rattle.std.proofs.Common.{List, None, Option, Some, [], ap, arith, length, refl, slice_get, subst, suc, sym, zero, ℕ, ⊎_elim, ◌%◌, ◌*◌, ◌++◌, ◌+◌, ◌/◌, ◌<◌, ◌∙◌, ◌∷◌, ◌≡◌, ◌≤◌}
use Rattle.sv_model.specs.Turns.{IsNewMemtable, Opens, Turns}
use Rattle.sv_model.specs.Tasks.{handle_in, Task}
use Rattle.sv_model.specs.Supers.{LiveAt, current_of, pack}
use mathlib.Core.Logic.{dite}
use mathlib.Core.Option.{some}
use native.Mathlib.Decide.{ℕ_discrete}
use lib.ListN.{get_elem?}
use Rattle.atomic_table.specs.Table.{Allows, Me, State, keeps}
use Rattle.sv_model.specs.After.{After}
use Rattle.sv_model.specs.Books.{Books}
use Rattle.sv_model.specs.Cells.{Cell}
use Rattle.sv_model.specs.Lawful.{Lawful}
use Rattle.sv_model.specs.Lists.{same, times, total}
use Rattle.sv_model.specs.Registers.{entry}
use Rattle.sv_model.specs.TableTextFields.{start}
use Rattle.sv_model.specs.declared.records.Top.{Top}
use Rattle.sv_model.proofs.Basics.{none_some}
use Rattle.sv_model.proofs.Lists.{same_is}
use Rattle.sv_model.proofs.Registers.{entry-new, entry-old, entry_le}
use Rattle.sv_rule.specs.Fits.{BodyFits}
use Rattle.sv_rule.specs.Fresh.{FreshOf}
use Rattle.sv_rule.specs.InHand.{WorkHeld}
use Rattle.sv_rule.specs.Numbers.{Numbers}
use Rattle.sv_rule.specs.ReferencePlays.{MayOpen, NewInCell, Opened, opened}
use Rattle.sv_rule.specs.Rounds.{Rounds}
use Rattle.sv_rule.specs.Rule.{Kept}
use Rattle.sv_rule.specs.Table.{holders, number, number_word, owers, owes, reference, reference_word, slot, slot_word, word}
use Rattle.sv_rule.specs.Tasks.{handles_of, has_db}
use Rattle.sv_rule.specs.UnderWay.{Stock, fit, middle}
use Rattle.sv_rule.specs.Views.{Bodied, Body, Desk, Disk, LaneView, Start, Work, idle, opens}
use Rattle.sv_rule.specs.declared.parts.Stored.{Stored}
use Rattle.sv_rule.proofs.Assembly.{N, kept-by-word, low_id, stays}
use Rattle.sv_rule.proofs.Basics.{at_desk, each_other, every_append, every_cons, every_map, every_none, get-past, has_one, no_desk_in}
use Rattle.sv_rule.proofs.CurrentLaws.{current_big, get_lt, some-at}
use Rattle.sv_rule.proofs.CurrentTurns.{currents-open}
use Rattle.sv_rule.proofs.DbLock.{db-desk, owners-desk}
use Rattle.sv_rule.proofs.FitLaws.{body-after}
use Rattle.sv_rule.proofs.FreshTurns.{fresh-turn}
use Rattle.sv_rule.proofs.NumberTurns.{numbers-opens, old-not-new, opens-others}
use Rattle.sv_rule.proofs.Places.{IsOpened, places_open}
use Rattle.sv_rule.proofs.RoundTurns.{loaded-opens, rounds-on}
use Rattle.sv_rule.proofs.RoundRises.{bound-opens}
use Rattle.sv_rule.proofs.StepLaws.{fresh_stay, holders_by_view, numbers_same, rights_stay, view_le, views_move, word_here}
use Rattle.sv_rule.proofs.Sums.{cond-is, same-else, same-self}
use Rattle.sv_rule.proofs.TurnRest.{journal-stands, mine-turns, rest-turns, says-opens, says-same}

others_no_handle : (a : Books) (work : Work) (start : Start) (disk : Disk) (number : ℕ → ℕ) (vs : List LaneView)
    (f : ℕ) → Lawful a → WorkHeld a work start disk number vs → current_of a f ≡ 0
    → ((t : Top) → slice_get a.tops f ≡ Some t → (s : ℕ) × (t.current ≡ Some s)) → (j : ℕ) (u : LaneView)
    → get_elem? vs j ≡ some u → times f u.known.task.handles ≡ 0
others_no_handle a work start disk number vs f before held no_current had j u at_u = by_top (slice_get a.tops f) refl
  where
    beyond-none : {A : Type 0} (l : List A) (n : ℕ) → length l ≤ n → slice_get l n ≡ None
    beyond-none [] n h = refl
    beyond-none (x ∷ l) zero h = absurd (omega arith)
    beyond-none (x ∷ l) (suc n) h = beyond-none l n (omega arith)

    by_top : (o : Option Top) → slice_get a.tops f ≡ o → times f u.known.task.handles ≡ 0
    by_top None e =
        let gone : slice_get a.families f ≡ None = beyond-none a.families f
        (omega (arith, get-past a.tops f e, before.paired)) in
        let pos : 0 < f = dite (ℕ_discrete f 0) (λ z. absurd
        (none_some before.default.it (sym gone ∙ ap (slice_get a.families) z ∙ before.default.at)))
        (λ z. omega arith) in
        omega (
          arith,
          held.handles u.known.lane f pos,
          ap (handle_in u.known.lane) gone,
          view_le (handles_of u.known.lane f) vs j u at_u,
          cond-is u.known.lane u.known.lane (times f u.known.task.handles) refl,
        )
    by_top (Some x) e =
        let s = had x e in
        let y = some-at a.families f (omega (arith, get_lt a.tops f x e, before.paired)) in
        absurd (omega (
          arith,
          no_current,
          current_big a before
              f record { family = y.0; family_at = y.1; top = x; top_at = e; serial = s.0; is = s.1 },
        ))

module _ {S D C B : Type 0} (books : S → Books) (disk : D → Disk) (cell : C → Option Cell) (body : B → Body) where
  pub opens_place : (n id : ℕ) (m : Me (Stored S D C B) LaneView) (f : ℕ) (b : Bodied) (c : Books) (u : Task)
      (may : MayOpen m.0 f b c u)
      → Allows (Kept books disk cell body) n id m (reference_word (b.pack % 256)) (λ _. b.pack / 256 * 4294967296 + 1)
      (Opened f b c u may.desk m)
  opens_place n id m f b c u may s kept long me fits =
      let v = m.0 in let d = may.desk in let p : ℕ = b.pack in let w = opened f b c u d v in let k : ℕ = p % 256 in
      let i = reference_word k in let x : ℕ = p / 256 * 4294967296 + 1 in let near : k < 256 = omega arith in
      let h = kept.home.desks id v me d may.has in let a = kept.b in let rests : kept.work ≡ idle = sym h.1
      ∙ may.resting in
      let turns : Turns v.known.lane a v.known.task c u [] = subst
      (λ (z : Books). Turns v.known.lane z v.known.task c u []) h.0 may.turns in
      let made : Opens a c f p = subst (λ (z : Books). Opens z c f p) h.0 may.made in
      let later = turns.counts.later in let lawful = turns.counts.lawful in let before = kept.numbers.lawful in
      let journal : c.journal ≡ a.journal = journal-stands a.journal c.journal turns.counts.journal in
      let big : 256 ≤ p = omega (arith, made.serial) in
      let d' : Desk = record { books = c; work = opens f; due = d.due } in
      let next' : State (Stored S D C B) LaneView = N books disk cell body s kept id v w me i x (omega arith)
      (omega arith) in
      let else = stays books disk cell body s kept id v w me i x (omega arith) (omega arith) in
      let numbers : (g : ℕ) → g < 16 → number next' g ≡ number s g = λ g l. else (number_word g) (λ z. omega arith) in
      let p_is : pack (p / 256) k ≡ p = omega arith in
      let moved : (q : ℕ) → holders next' q ≡ holders s q + same q p = λ q. let t = holders_by_view s i x s.homes id v
      w me (λ f l e. omega arith) (λ f l e. omega arith) q in omega arith in
      let is_open : IsOpened a.supers c.supers (p / 256) k = record {
        sv = made.super;
        is_new = made.supers;
        serial = made.serial;
        live = made.live;
        place = made.place;
        free = λ t l. let old = later.supers t l.sv l.is in free_place a c before later lawful f p made t k l refl;
      } in
      let at_idle : Numbers a idle (number s) = subst (λ (z : Work). Numbers a z (number s)) rests kept.numbers in (
        w,
        keeps,
        tt,
        kept-by-word books disk cell body s kept id v w me i x (omega arith) (omega arith) c (opens f)
            (db-desk books disk cell body s kept id v w me d d' may.has refl c (opens f))
            (owners-desk books disk cell body s kept id v w me d d' may.has refl c (opens f) refl refl)
            (rest-turns books disk cell body s kept id v w me i x c (opens f) (omega arith) may.alive refl refl refl
            refl refl refl refl turns
            (mine-turns books disk cell body s kept id v w me i x c (v.known.bodies ++ b ∷ []) may.alive refl refl
            refl turns
            (every_append (BodyFits c) v.known.bodies (b ∷ [])
            (every_map (BodyFits a) (BodyFits c) v.known.bodies (body-after a c later)
            (kept.in_hand.accounts id v me may.alive).fits.bodies)
            (every_cons (BodyFits c) b [] may.body (every_none (BodyFits c)))))
            (currents-open a c s.views id v w me refl refl before lawful f p big made kept.in_hand.currents)
            (λ g l excepted none_shown. each_other (λ j y. has_db y ≡ 0 → times g y.known.task.handles ≡ 0) s.views id
            w (λ z. absurd (omega (arith, has_one w d' refl)))
            (λ j y ne at_y _. let g_is : f ≡ g = same_is f g excepted in
            others_no_handle a kept.work kept.start kept.d (number s) s.views g before kept.in_hand
            (omega (arith, (at_idle.word g l).current refl, numbers g l, none_shown))
            (subst (λ (q : ℕ). (t : Top) → slice_get a.tops q ≡ Some t → (r : ℕ) × (t.current ≡ Some r)) g_is
            made.had) j y at_y))
            (⊎_elim
            (λ (same_memtables : c.memtables ≡ d.books.memtables). says-same a c s.views id v w me d d' may.has refl
            refl journal (same_memtables ∙ ap (λ (z : Books). z.memtables) h.0) refl)
            (λ (q : NewInCell d.books c v).
            says-opens a c s.views id v w me d d' may.has refl refl journal q.1 q.0 q.2
            (subst (λ (z : Books). IsNewMemtable z c q.0 q.1) h.0 q.3) q.4 refl)
            may.memtable))
            (places_open a.supers c.supers (reference s) (reference next') (holders s) (holders next') (owers s)
            (owers next') (p / 256) k is_open kept.ledger.places near
            (λ j n. else (reference_word j) (λ e. n (omega arith)))
            (λ q n. omega (arith, moved q, same-else q p (λ e. n (sym e ∙ sym p_is))))
            (λ q. omega (arith, views_move s i x s.homes id v w me (owes q)))
            (moved (pack (p / 256) k) ∙ ap (λ (z : ℕ). holders s (pack (p / 256) k) + z)
            (ap (λ (z : ℕ). same z p) p_is ∙ same-self p))
            (word_here s i x s.homes id v w me (omega (arith, kept.home.seats.words))))
            (omega (arith, may.room)) (kept.home.seats.slots id v me) refl
            (λ z. absurd (no_desk_in may.has (ap (λ (u : LaneView). u.locks.db) (kept.home.seats.spent id v me z))))
            (numbers_same c (opens f) (number s) (number next') numbers
            (numbers-opens a c later before f p made (number s) lawful journal at_idle))
            (rights_stay kept.work (opens f) (number s) (number next') (slot s) (slot next') s.views id v w me
            (low_id books disk cell body s kept id v w me) refl numbers
            (λ j l. else (slot_word j) (λ z. omega arith)) (λ l g q. sym (ap (λ (z : Work). fit z g l q) rests))
            (λ j. sym (ap (middle j) rests)) kept.sweep.right)
            tt
            (λ e z. at_desk (λ y. Stock y.books y.work (p ∷ v.hand)) w.locks.db d' e refl z
            (λ _. subst (λ (q : ℕ). 0 < total (same q) (p ∷ v.hand)) (sym made.current)
            (omega (arith, same-self p))))
            (fresh_stay a c (number s) (number next') s.views id v w me refl
            (λ g q r e y l o. subst (λ (z : ℕ). FreshOf c z g y q r e) (sym (numbers g l))
            (fresh-turn a c later (number s g) g q r e y (λ t is_old zero_now not_current. dite (ℕ_discrete g f)
            (λ z now. old-not-new a c later before f p made g t is_old (now ∙ (ap (current_of c) z ∙ made.current)))
            (λ z now. not_current (now ∙ opens-others a c later before f p made g z))) o)) kept.fresh)
            (let r = subst (λ (z : Work). Rounds a z (word s 82) (number s) s.views) rests kept.rounds in
            rounds-on a c idle (opens f) (word s 82) (word next' 82) (number s) (number next') s.views id v w me
            (else 82 (λ z. omega arith)) numbers refl r
            (loaded-opens a c later before f p made r.moved (number s) (number next') numbers)
            (bound-opens a c later before lawful f p (word s 82) made may.near big r.bound) refl),
        refl,
      )
    where
      -- no SuperVersion was Live at the new one's place
      free_place : (a c : Books) → Lawful a → (later : After a c) → Lawful c → (f p : ℕ) → Opens a c f p
          → (t k : ℕ) (l : LiveAt a.supers t k) → k ≡ p % 256 → ⊥
      free_place a c before later lawful f p made t k l k_is =
          let old = entry-old a.supers (made.super ∷ []) t l.sv l.is in
          let now : entry c.supers t ≡ Some l.sv = ap (λ z. entry z t) made.supers ∙ old in
          let new : entry c.supers (p / 256) ≡ Some made.super = ap (λ z. entry z (p / 256)) made.supers
          ∙ entry-new a.supers made.super (p / 256) made.serial in
          let same_serial : p / 256 ≡ t = (lawful.places t l.sv now l.live).1 (p / 256) made.super new made.live
          (made.place ∙ (sym k_is ∙ sym l.place_is)) in
          omega (arith, same_serial, made.serial, (entry_le a.supers t l.sv l.is).1)
