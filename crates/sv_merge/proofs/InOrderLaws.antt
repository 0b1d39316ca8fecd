-- A stable sort by key keeps the rows of each key as they stood.
use Rattle.std.proofs.Common.{◌≡◌, ℕ, suc, ◌<◌, Bool, true, false, cond, List, [], ◌∷◌, length, get_or, refl, sym, ap, subst, ◌∙◌, arith}
use Rattle.std.specs.List.{filter}
use Rattle.std.specs.List.Sorted.{IsSortedBy, IsStableBy, ties}
use Rattle.std.proofs.Math.Numerals.{add-one}
use Rattle.sv_model.specs.Journal.{same_key}
use Rattle.sv_model.specs.Order.{is_below, RisesFrom, RisesBy, key_of_kept}
use Rattle.sv_model.specs.Flat.{of_key}
use Rattle.sv_model.proofs.KeyOrder.{tie_same}
use Rattle.sv_merge.specs.declared.placing.Placed.{Placed}
use Rattle.sv_merge.specs.Placing.{kept_of, kepts_of}
use Rattle.sv_merge.specs.Merging.{InOrder}

abbrev pub below : Placed → Placed → Bool
below x y = is_below x.row.now.key y.row.now.key

rises_from : (x : Placed) (rows : List Placed)
    → ((k : ℕ) (d : Placed) → suc k < length (x ∷ rows) → below (get_or (x ∷ rows) (suc k) d) (get_or (x ∷ rows) k d) ≡ false)
    → RisesFrom key_of_kept (kept_of x) (kepts_of rows)
rises_from x [] h = tt
rises_from x (y ∷ rows) h = (h 0 x (omega arith), rises_from y rows (λ k d lt. h (suc k) d (omega arith)))

rises : (rows : List Placed) → IsSortedBy below rows → RisesBy key_of_kept (kepts_of rows)
rises [] up = tt
rises (x ∷ rows) up = rises_from x rows (λ k d lt. subst (λ (j : ℕ). below (get_or (x ∷ rows) j d) (get_or (x ∷ rows) k d) ≡ false) (add-one k) (up k d (omega arith) (omega arith)))

-- the rows of a key, before they are read
abbrev placed_of : List ℕ → List Placed → List Placed
placed_of key rows = filter (λ p. same_key key p.row.now.key) rows

of_placed : (key : List ℕ) (rows : List Placed) → of_key key (kepts_of rows) ≡ kepts_of (placed_of key rows)
of_placed key [] = refl
of_placed key (x ∷ rows) = at (same_key key x.row.now.key) (of_placed key rows)
  where
    at : (b : Bool) → of_key key (kepts_of rows) ≡ kepts_of (placed_of key rows)
        → cond b (kept_of x ∷ of_key key (kepts_of rows)) (of_key key (kepts_of rows)) ≡ kepts_of (cond b (x ∷ placed_of key rows) (placed_of key rows))
    at true h = ap (λ l. kept_of x ∷ l) h
    at false h = h

-- a row of the key
abbrev keyed : List ℕ → Placed → Placed
keyed key x = record { end = x.end; row = record { ref_ptr = x.row.ref_ptr; now = record { key = key; op = x.row.now.op } } }

ties_are : (key : List ℕ) (x : Placed) → ties below (keyed key x) ≡ (λ p. same_key key p.row.now.key)
ties_are key x = λ i p. tie_same key p.row.now.key i

same_by : (old new : List Placed) → IsStableBy below old new → (x : Placed) (key : List ℕ)
    → of_key key (kepts_of new) ≡ of_key key (kepts_of old)
same_by old new stable x key =
    let same : placed_of key new ≡ placed_of key old = subst (λ (q : Placed → Bool). filter q new ≡ filter q old) (ties_are key x) (stable (keyed key x)) in
    of_placed key new ∙ ap kepts_of same ∙ sym (of_placed key old)

same_in : (old new : List Placed) → IsStableBy below old new → length new ≡ length old → (key : List ℕ)
    → of_key key (kepts_of new) ≡ of_key key (kepts_of old)
same_in [] [] stable len key = refl
same_in [] (x ∷ new) stable len key = absurd (omega (arith, len))
same_in (x ∷ old) new stable len key = same_by (x ∷ old) new stable x key

pub in_order : (old new : List Placed) → IsSortedBy below new → IsStableBy below old new → length new ≡ length old
    → InOrder (kepts_of old) (kepts_of new)
in_order old new up stable len = record { rises = rises new up; kept = same_in old new stable len }
