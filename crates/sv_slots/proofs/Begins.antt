-- The table at its opening keeps the rule, and its lanes have their seats.
use Rattle.std.proofs.Common.{List, Option, Some, [], ap, arith, length, length-append, map, refl, replicate, slice_get, subst, suc, sym, zero, ℕ, ⊎_elim, ◌++◌, ◌+◌, ◌<◌, ◌∙◌, ◌∷◌, ◌≡◌, ◌≤◌}
use Rattle.std.proofs.lemmas.List.{append_assoc, length-replicate}
use mathlib.Core.Logic.{dite}
use mathlib.Core.Option.{some}
use native.Mathlib.Decide.{dec_le}
use lib.ListN.{get_elem?}
use Rattle.atomic_table.specs.Seated.{TableId}
use Rattle.atomic_table.specs.Table.{opening}
use Rattle.sv_model.specs.Books.{Books}
use Rattle.sv_model.specs.Cells.{Cell}
use Rattle.sv_rule.proofs.Basics.{get_none, some_is}
use Rattle.sv_rule.proofs.CurrentLaws.{some-at}
use Rattle.sv_rule.specs.Begins.{FirstBooks, FirstSlots, FirstWords}
use Rattle.sv_rule.specs.Blanks.{first_view, new_view}
use Rattle.sv_rule.specs.Rule.{Kept}
use Rattle.sv_rule.specs.Table.{cell_word, number_word, reference_word, slot_home}
use Rattle.sv_rule.specs.Views.{Body, Disk, Start}
use Rattle.sv_rule.specs.declared.parts.Parts.{Ghosts}
use Rattle.sv_rule.specs.declared.parts.Stored.{Stored}
use Rattle.sv_rule.specs.declared.parts.Stored.TheVariants as is
use Rattle.sv_rule_seats.proofs.Starts.{starts}
use Rattle.sv_slots.proofs.Rows.{IsRow, beyond, get-last, get-replicate, laid-first, laid-long, laid-rest}
use Rattle.sv_slots.specs.Openings.{AreOpened, AreOthers, FirstCells, IsFirstWord, IsSeat, first_slots, opened_view}
use Rattle.sv_slots.specs.declared.table.LaneSeat.{LaneSeat}

-- ---- words

pub first_words_of : (n m : ℕ) (l : List ℕ) → n ≤ 16 → m ≡ 851 → length l ≡ m → IsRow (IsFirstWord n) l
    → FirstWords n l
first_words_of n m l few big long r = record {
  long = long ∙ big;
  numbers = λ f near. (r (number_word f) (omega (arith, long, big, near, few))).number f near refl;
  references = λ f near. (r (reference_word f) (omega (arith, long, big, near, few))).reference f near refl;
  zeros = λ k a b. dite (dec_le (length l) k) (λ past. beyond l k past) (λ h. (r k (omega arith)).other a b);
}

-- ---- slots

module _ {S D C B : Type 0} where
  -- one cell more is laid
  pub cell-laid : (s : List (Stored S D C B)) (l r : List C) (x : C) → l ≡ x ∷ r
      → s ++ map (λ c. is.Cell c) l ≡ (s ++ is.Cell x ∷ []) ++ map (λ c. is.Cell c) r
  cell-laid s l r x e = ap (λ (z : List C). s ++ map (λ c. is.Cell c) z) e
      ∙ sym (append_assoc s (is.Cell x ∷ []) (map (λ c. is.Cell c) r))

  pub all_laid : (s₀ s₁ s₂ s₃ s₄ : List (Stored S D C B)) (state : S) (dir : D) (cells : List C) → s₀ ≡ []
      → s₁ ≡ s₀ ++ is.State state ∷ [] → s₂ ≡ s₁ ++ is.Dir dir ∷ [] → s₃ ≡ s₂ ++ map (λ c. is.Cell c) cells
      → s₄ ≡ s₃ ++ replicate 512 is.Nothing → s₄ ≡ first_slots state dir cells
  all_laid s₀ s₁ s₂ s₃ s₄ state dir cells none a b c d = d
      ∙ ap (λ (l : List (Stored S D C B)). l ++ replicate 512 is.Nothing)
      (c ∙ ap (λ (l : List (Stored S D C B)). l ++ map (λ c. is.Cell c) cells)
      (b ∙ ap (λ (l : List (Stored S D C B)). l ++ is.Dir dir ∷ [])
      (a ∙ ap (λ (l : List (Stored S D C B)). l ++ is.State state ∷ []) none)))

  module _ (books : S → Books) (disk : D → Disk) (cell : C → Option Cell) (body : B → Body) where
    abbrev row : List C → List (Stored S D C B)
    row cells = map (λ c. is.Cell c) cells

    abbrev free : List (Stored S D C B)
    free = replicate 512 is.Nothing

    row-at : (cells : List C) (c : ℕ) (y : C) → slice_get cells c ≡ Some y → get_elem? (row cells) c ≡ some (is.Cell y)
    row-at [] c y e = absurd (get_none c y e)
    row-at (x ∷ l) zero y e = ap (λ (z : C). some (is.Cell z)) (some_is e)
    row-at (x ∷ l) (suc c) y e = row-at l c y e

    row-long : (cells : List C) → length (row cells) ≡ length cells
    row-long [] = refl
    row-long (x ∷ l) = ap suc (row-long l)

    free-long : length free ≡ 512
    free-long = let x : Stored S D C B = is.Nothing in length-replicate 512 x

    first_slots_of : (state : S) (dir : D) (cells : List C) → FirstCells cell (length (books state).families) cells
        → FirstSlots {S = S} {D = D} {C = C} {B = B} books disk cell (books state) (disk dir)
        (first_slots state dir cells)
    first_slots_of state dir cells first =
        let count : length (row cells) ≡ 64 = row-long cells ∙ first.count in record {
          long = laid-long (is.State state) (is.Dir dir) (row cells) free count free-long;
          state = state;
          state_at = refl;
          books_are = refl;
          dir = dir;
          dir_at = refl;
          disk_is = refl;
          cells = λ c near. let y = some-at cells c (omega (arith, near, first.count)) in record {
            it = y.0;
            at = laid-first (is.State state) (is.Dir dir) (row cells) free c (cell_word c) (is.Cell y.0) (omega arith)
                (row-at cells c y.0 y.1);
            has = λ within. first.has c y.0 y.1 within;
            vacant = λ past. first.vacant c y.0 y.1 past;
          };
          nothing = λ i near. laid-rest (is.State state) (is.Dir dir) (row cells) free i (slot_home i) is.Nothing count
              (omega arith) (get-replicate 512 i is.Nothing near);
        }

    -- the rule holds at the opening, as the table is told of it
    pub begins : (lanes families : ℕ) → 0 < lanes → lanes ≤ 32 → (state st : S) (dir d : D) (cells : List C)
        (ws : List ℕ) (xs : List (Stored S D C B)) → st ≡ state → d ≡ dir → families ≡ length (books state).families
        → FirstWords families ws → xs ≡ first_slots state dir cells → FirstCells cell families cells
        → FirstBooks (books state) (disk dir)
        → Kept books disk cell body (opening ws xs (first_view lanes (books st) (disk d)))
    begins lanes families one few state st dir d cells ws xs at_state at_dir many words laid first known = subst
        (λ (z : S × D × List (Stored S D C B)). Kept books disk cell body
        (opening ws z.2 (first_view lanes (books z.0) (disk z.1))))
        (λ k. (sym at_state k, sym at_dir k, sym laid k))
        (starts books disk cell body lanes one few (books state) (disk dir) ws (first_slots state dir cells)
        (subst (λ (z : ℕ). FirstWords z ws) many words)
        (first_slots_of state dir cells (subst (λ (z : ℕ). FirstCells cell z cells) many first)) known)

-- ---- seats

module _ {P S D C B : Type 0} {g : Ghosts P S D C B} (t : TableId) (lanes : ℕ) (start : Start) where
  pub others_none : (seats : List (LaneSeat P S D C B g)) → seats ≡ [] → AreOthers t lanes 1 start seats
  others_none seats e = subst (AreOthers t lanes 1 start) (sym e)
      (record { count = refl; each = λ i s at. absurd (get_none i s at) })

  pub others_push : (made : ℕ) (seats : List (LaneSeat P S D C B g)) (s : LaneSeat P S D C B g)
      → AreOthers t lanes made start seats → IsSeat t made (new_view made lanes 0 start) s
      → AreOthers t lanes (made + 1) start (seats ++ s ∷ [])
  others_push made seats s others it = record {
    count = omega (arith, length-append seats (s ∷ []), others.count);
    each = λ i y at. ⊎_elim (λ (old : slice_get seats i ≡ Some y). others.each i y old)
        (λ (new : (y ≡ s) × (i ≡ length seats)). let is : made ≡ suc i = omega (arith, new.1, others.count) in
        subst (λ (z : ℕ × LaneSeat P S D C B g). IsSeat t z.0 (new_view z.0 lanes 0 start) z.1)
        (λ k. (is k, sym new.0 k)) it) (get-last seats s i y at);
  }

  pub opened_of : (seats all : List (LaneSeat P S D C B g)) (first : LaneSeat P S D C B g)
      → AreOthers t lanes lanes start seats → IsSeat t 0 (new_view 0 lanes lanes start) first → all ≡ first ∷ seats
      → AreOpened t lanes start all
  opened_of seats all first others it e = subst (AreOpened t lanes start) (sym e) record {
    count = omega (arith, others.count);
    each = by_lane;
  }
    where
      by_lane : (lane : ℕ) (s : LaneSeat P S D C B g) → slice_get (first ∷ seats) lane ≡ Some s
          → IsSeat t lane (opened_view lanes start lane) s
      by_lane zero s at = subst (IsSeat t 0 (new_view 0 lanes lanes start)) (some_is at) it
      by_lane (suc lane) s at = others.each lane s at
