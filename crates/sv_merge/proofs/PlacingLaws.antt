-- Where a number comes to lie among cuts; the newest of each end, of rows that are referred to.
use Rattle.std.proofs.Common.{◌≡◌, ℕ, zero, suc, ◌<◌, ◌≤◌, Bool, true, false, cond, nat_lt, nat_le, List, [], ◌∷◌, length, get_or, slice_get, Some, refl, sym, ap, ◌∙◌, arith}
use Rattle.std.specs.Option.{unwrap_or}
use Rattle.std.specs.List.{find, dedup, dedup_from}
use Rattle.std.proofs.lemmas.Bool.{ltb-true, ltb-false, le-leb, lt-leb}
use Rattle.sv_model.specs.Flat.{end_among}
use Rattle.sv_merge.specs.declared.placing.Placed.{Placed}
use Rattle.sv_merge.specs.Placing.{kept_of, kepts_of, same_place}

pub among_at : (cuts : List ℕ) (to number at : ℕ) → ((k d : ℕ) → k < at → nat_lt (get_or cuts k d) number ≡ true)
    → ((k d : ℕ) → at ≤ k → k < length cuts → nat_lt (get_or cuts k d) number ≡ false)
    → unwrap_or (slice_get cuts at) to ≡ end_among cuts to number
among_at [] to number at low high = refl
among_at (c ∷ cuts) to number zero low high =
    sym (ap (λ (b : Bool). unwrap_or (cond b (Some c) (find (λ cut. nat_le number cut) cuts)) to) (le-leb number c (ltb-false c number (high 0 0 (omega arith) (omega arith)))))
among_at (c ∷ cuts) to number (suc at) low high =
    among_at cuts to number at (λ k d lt. low (suc k) d (omega arith)) (λ k d le lt. high (suc k) d (omega arith) (omega arith))
    ∙ sym (ap (λ (b : Bool). unwrap_or (cond b (Some c) (find (λ cut. nat_le number cut) cuts)) to) (lt-leb number c (ltb-true c number (low 0 0 (omega arith)))))

-- the same test of rows that are referred to
abbrev pub same_placed : Placed → Placed → Bool
same_placed p q = same_place (kept_of p) (kept_of q)

map_dedup_from : (p : Placed) (rows : List Placed)
    → kepts_of (dedup_from same_placed p rows) ≡ dedup_from same_place (kept_of p) (kepts_of rows)
map_dedup_from p [] = refl
map_dedup_from p (q ∷ rows) = at (same_placed q p) (map_dedup_from p rows) (map_dedup_from q rows)
  where
    at : (b : Bool) → kepts_of (dedup_from same_placed p rows) ≡ dedup_from same_place (kept_of p) (kepts_of rows)
        → kepts_of (dedup_from same_placed q rows) ≡ dedup_from same_place (kept_of q) (kepts_of rows)
        → kepts_of (cond b (dedup_from same_placed p rows) (p ∷ dedup_from same_placed q rows)) ≡ cond b (dedup_from same_place (kept_of p) (kepts_of rows)) (kept_of p ∷ dedup_from same_place (kept_of q) (kepts_of rows))
    at true h i = h
    at false h i = ap (λ l. kept_of p ∷ l) i

pub map_dedup : (rows : List Placed) → kepts_of (dedup same_placed rows) ≡ dedup same_place (kepts_of rows)
map_dedup [] = refl
map_dedup (p ∷ rows) = map_dedup_from p rows
