-- The last seat finds the state, the directory and all cells at home.
use Rattle.std.proofs.Common.{Option, ap, arith, sym, true, ℕ, ◌<◌, ◌∙◌, ◌≡◌, ◌≢◌}
use mathlib.Core.Logic.{dite}
use mathlib.Core.Option.{some, some-injective}
use native.Mathlib.Decide.{ℕ_discrete}
use lib.ListN.{get_elem?}
use Rattle.atomic_table.specs.Table.{State}
use Rattle.sv_model.specs.Books.{Books}
use Rattle.sv_model.specs.Cells.{Cell}
use Rattle.sv_model.specs.Lists.{total}
use Rattle.sv_rule.specs.Blanks.{no_locks}
use Rattle.sv_rule.specs.Held.{Says}
use Rattle.sv_rule.specs.Rule.{Kept}
use Rattle.sv_rule.specs.SeatPlays.{IsLast}
use Rattle.sv_rule.specs.Table.{cell_word, home}
use Rattle.sv_rule.specs.Tasks.{cell_count, has_cell, has_db, has_dir, joined_count, some_count}
use Rattle.sv_rule.specs.Views.{Body, Disk, LaneView, Locks, idle}
use Rattle.sv_rule.specs.declared.parts.Stored.{Stored}
use Rattle.sv_rule.specs.declared.parts.Stored.TheVariants as is
use Rattle.sv_rule.proofs.Basics.{by_bool}
use Rattle.sv_rule_seats.proofs.SeatJoins.{alive_one, count_all, is_alive}
use Rattle.sv_rule.proofs.Sums.{term_le, terms_le, total-zero}

module _ {S D C B : Type 0} (books : S → Books) (disk : D → Disk) (cell : C → Option Cell) (body : B → Body)
    (s : State (Stored S D C B) LaneView) (kept : Kept books disk cell body s) (id : ℕ) (v : LaneView)
    (me : get_elem? s.views id ≡ some v) (last : IsLast v) where
  pub others_spent : (j : ℕ) (u : LaneView) → j ≢ id → get_elem? s.views j ≡ some u → u.seat.spent ≡ true
  others_spent j u n e = by_bool u.seat.spent (λ is. is)
      (λ is. absurd (omega (
        arith,
        terms_le alive_one s.views id j v u n me e,
        count_all s.views,
        term_le joined_count s.views id v me,
        kept.home.seats.joined,
        (kept.home.seats.made id v me last.first).1,
        last.all,
        is_alive u is,
        is_alive v last.alive,
      )))

  -- no one has a lock
  no_locks_out : (j : ℕ) (u : LaneView) → get_elem? s.views j ≡ some u → u.locks ≡ no_locks
  no_locks_out j u e = dite (ℕ_discrete j id)
      (λ is. let same : u ≡ v = some-injective u v (sym e ∙ ap (get_elem? s.views) is ∙ me) in
      ap (λ (y : LaneView). y.locks) same ∙ last.locks)
      (λ n. ap (λ (y : LaneView). y.locks) (kept.home.seats.spent j u e (others_spent j u n e)))

  none_has : (g : LaneView → ℕ) → ((u : LaneView) → u.locks ≡ no_locks → g u ≡ 0) → total g s.views ≡ 0
  none_has g h = total-zero g s.views (λ j u e. h u (no_locks_out j u e))

  pub state_home : (st : S) × (home s 0 ≡ some (some (is.State st))) × (books st ≡ kept.b) × (kept.work ≡ idle)
  state_home =
      let h = kept.home.db.home (sym kept.home.db.bit ∙ none_has has_db
      (λ u e. ap (λ (l : Locks). some_count l.db) e)) in
      (h.2.0, h.1 ∙ ap (λ z. some (some z)) h.2.1, h.2.2, h.2.3)

  pub dir_home : (y : D) × (home s 1 ≡ some (some (is.Dir y))) × (disk y ≡ kept.d)
  dir_home =
      let h = kept.home.dir.home (sym kept.home.dir.bit
      ∙ none_has has_dir (λ u e. ap (λ (l : Locks). some_count l.dir) e)) in
      (h.2.0, h.1 ∙ ap (λ z. some (some z)) h.2.1, h.2.2)

  pub cell_home : (c : ℕ) → c < 64 → (y : C) × (home s (cell_word c) ≡ some (some (is.Cell y)))
      × Says kept.b s.views c (cell y)
  cell_home c near =
      let o = kept.held.cells c near in
      let h = o.home (sym o.bit ∙ none_has (has_cell c) (λ u e. ap (λ (l : Locks). cell_count c l.cell) e)) in
      (h.2.0, h.1 ∙ ap (λ z. some (some z)) h.2.1, h.2.2)
