-- A family that is retired in the books loses its current in the table.
use Rattle.std.proofs.Common.{List, None, Option, Some, [], ap, arith, inl, refl, subst, suc, sym, zero, ℕ, ◌%◌, ◌++◌, ◌/◌, ◌<◌, ◌∙◌, ◌∷◌, ◌≡◌, ◌≤◌, ◌≢◌}
use Rattle.std.specs.Prelude.{cond, false, slice_get, true}
use mathlib.Core.Logic.{dite}
use native.Mathlib.Decide.{ℕ_discrete}
use Rattle.sv_borrows.proofs.Accounted.{is-free}
use Rattle.sv_borrows.specs.Desks.{AreAlike}
use Rattle.sv_installs.specs.Sweeping.{BeginsSweep, IsReclaimed}
use Rattle.sv_model.specs.Books.{Books}
use Rattle.sv_model.specs.Lawful.{Lawful}
use Rattle.sv_model.specs.Lists.{at}
use Rattle.sv_model.specs.Supers.{IsPackOf, IsSerialOf, LiveAt, current_of, current_serial, pack_of_serial}
use Rattle.sv_model.specs.Tasks.{Task}
use Rattle.sv_model.specs.Turns.{IsAccounted, Turns}
use Rattle.sv_model.specs.declared.records.SuperVersion.{SuperVersion}
use Rattle.sv_releases.specs.Releasing.{IsEnded, MayRetire, Retires, gone_on}
use Rattle.sv_rule.proofs.Basics.{append_none}
use Rattle.sv_rule.proofs.CurrentLaws.{current_is, current_live, one_family, pack_serial}
use Rattle.sv_rule.proofs.FoundNumbers.{end-found}
use Rattle.sv_rule.specs.Blanks.{desk_of}
use Rattle.sv_rule.specs.RoundPlays.{MayEndCurrent, is_retired_in}
use Rattle.sv_rule.specs.SlotPlays.{reached}
use Rattle.sv_rule.specs.Sums.{put}
use Rattle.sv_rule.specs.Views.{Bodied, Desk, LaneView, idle, sweeping}
use Rattle.sv_slots.proofs.InstallSweeps.{retired-hand, without-first}
use Rattle.sv_slots.proofs.Laws.{desk_is_of}
use Rattle.sv_slots.specs.Installs.{retired}
use Rattle.sv_state.specs.Gone.{IsFree}

reached-some : (p : ℕ) (hand : List ℕ) → 256 ≤ p → reached p hand ≡ p ∷ hand
reached-some zero hand big = absurd (omega (arith, big))
reached-some (suc p) hand big = refl

module _ (b : Books) (f p : ℕ) (u : Task) (v : LaneView) (may : MayRetire b f p u v) where
  abbrev a : Books
  a = may.found

  was-big : 256 ≤ current_of a f
  was-big = omega (arith, may.was, may.big)

  pub may-end : (f < 16) × MayEndCurrent v f b u
  may-end = (
    may.near,
    record {
      alive = may.desk.alive;
      desk = record { books = a; work = idle; due = [] };
      has = may.desk.db;
      resting = refl;
      near = may.near;
      current = was-big;
      turns = may.turns;
      ended = may.ended;
      family = may.family;
      family_at = may.family_at;
      may = inl may.family_is;
    },
  )

  -- ---- the SuperVersion before may go

  was-at : IsPackOf a.supers f (current_of a f)
  was-at = current_is a may.desk.own.lawful f was-big

  alive : LiveAt b.supers (current_of a f / 256) (current_of a f % 256)
  alive = subst (λ (s : List SuperVersion). LiveAt s (current_of a f / 256) (current_of a f % 256)) (sym may.ended.supers)
      (current_live a may.desk.own.lawful f was-big)

  no-current : (g : ℕ) → g < 16 → current_of a f ≢ current_of b g
  no-current g near e = dite (ℕ_discrete g f)
      (λ q. omega (arith, was-big, e, ap (current_of b) q, none-here))
      (λ ne.
      let there = current_is b may.turns.counts.lawful g (subst (λ (n : ℕ). 256 ≤ n) e was-big) in
      ne (one_family (pack_serial there) (subst (λ (n : ℕ). IsSerialOf b.supers f (n / 256)) e
      (subst (λ (s : List SuperVersion). IsSerialOf s f (current_of a f / 256)) (sym may.ended.supers) (pack_serial was-at)))))
    where
      none-here : current_of b f ≡ 0
      none-here = ap (λ t. pack_of_serial b.supers (current_serial t)) may.ended.on
          ∙ ap (pack_of_serial b.supers) may.ended.none

  goes : IsFree b p
  goes = subst (IsFree b) (sym may.was) (is-free b may.turns.counts.lawful (current_of a f) alive no-current)

  -- ---- the sweep begins

  module _ (s : LaneView) (is : IsEnded f b u v s) where
    found-is : is.0 ≡ p
    found-is = end-found a b may.desk.own.lawful f is.0 may.ended was-big is.1 ∙ sym may.was

    desk_is : desk_of v ≡ record { books = a; work = idle; due = [] }
    desk_is = desk_is_of v (record { books = a; work = idle; due = [] }) may.desk.db

    hand_is : (retired f b u [] is.0 v).hand ≡ p ∷ v.hand
    hand_is = retired-hand f is.0 b u [] v may.hand ∙ ap (λ (n : ℕ). reached n v.hand) found-is
        ∙ reached-some p v.hand may.big

    -- the lane before its sweep
    abbrev swept_from : LaneView
    swept_from = record (gone_on b u [] v.known.seen (put 0 v.slots.looked f 0) 1 v) {
      locks = record v.locks { db = Some (record { books = b; work = sweeping f p 0 false 0; due = [] }) };
      hand = p ∷ v.hand;
    }

    ends_is : cond (is_retired_in (slice_get b.families f)) v.seat.ends (f ∷ v.seat.ends) ≡ v.seat.ends
    ends_is = ap (λ o. cond (is_retired_in o) v.seat.ends (f ∷ v.seat.ends)) may.family_at
        ∙ ap (λ z. cond z v.seat.ends (f ∷ v.seat.ends)) may.family_is

    due_is : (desk_of v).due ≡ []
    due_is = ap (λ (d : Desk). d.due) desk_is

    sweep-is : s ≡ swept_from
    sweep-is = is.2 ∙ (λ i. record swept_from {
      seat = record v.seat { ends = ends_is i };
      locks = record v.locks {
        db = Some (record { books = b; work = sweeping f (found-is i) 0 false 0; due = due_is i });
      };
      hand = hand_is i;
    })

    begins-here : BeginsSweep b f p swept_from
    begins-here = record {
      alive = may.desk.alive;
      db = refl;
      cell = may.desk.cell;
      own = may.own;
      owes = may.owes;
      hand = v.hand;
      has = refl;
      few = omega (arith, may.room);
      big = may.big;
      goes = goes;
    }

    pub begins-sweep : BeginsSweep b f p s
    begins-sweep = subst (BeginsSweep b f p) (sym sweep-is) begins-here

    retires-here : (c : Books) (w : LaneView) → IsReclaimed p b c swept_from w → Retires f b c u v w
    retires-here c w h = record {
      cleans = h.0;
      own = h.1;
      more = h.2.0;
      seen = h.2.1;
      alike = h.2.2;
      is = h.2.3 ∙ (λ i. record (gone_on c u h.2.0 h.2.1 (put 0 v.slots.looked f 0) 1 v) {
        known = record v.known { bodies = sym (append_none v.known.bodies) i ++ h.2.0; seen = h.2.1; task = u };
        hand = without-first p v.hand i;
        owes = sym may.owes i;
      });
    }

    pub retires : (c : Books) (w : LaneView) → IsReclaimed p b c s w → Retires f b c u v w
    retires c w h = retires-here c w (subst (λ (z : LaneView). IsReclaimed p b c z w) sweep-is h)
