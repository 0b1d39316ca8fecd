-- A flat is well formed, so that it has a text.
use Rattle.std.proofs.Common.{◌≡◌, ℕ, ◌<◌, ◌≤◌, ◌+◌, ◌-◌, ◌^◌, inl, inr, Bool, true, false, cond, not, ◌&&◌, ◌||◌, nat_le, List, [], ◌∷◌, length, refl, sym, ap, subst, ◌∙◌, arith}
use Rattle.std.proofs.lemmas.Bool.{cases_Bool, le-leb, or_left}
use Rattle.sv_model.specs.declared.writes.Row.{Row}
use Rattle.sv_model.specs.declared.writes.Kept.{Kept}
use Rattle.sv_model.specs.declared.cuts.Bottom.{Bottom}
use Rattle.sv_model.specs.Journal.{same_key, is_delete}
use Rattle.sv_model.specs.Order.{RisesFrom, RisesBy, key_of_kept}
use Rattle.sv_model.specs.Flat.{numbered_after, of_key, ends_of, newest_each, is_empty, without_last_deletes, stays, IsFlatOf, AreCuts}
use Rattle.sv_model.specs.TableText.{covers, DeletesCover, IsWellFormed}
use Rattle.sv_model.proofs.KeyOrder.{above}
use Rattle.sv_model.proofs.FlatKeys.{ordered_rises, rises_rest, key_own, key_no, gone}
use Rattle.sv_model.proofs.FlatLaws.{flat_few, flat_some, flat_ends}

-- ---- deletes that cover an older row

-- the last row is a put
abbrev pub EndsInPut : List Kept → Type 0
EndsInPut [] = Unit {0}
EndsInPut (r ∷ []) = is_delete r.row.op ≡ false
EndsInPut (r ∷ x ∷ rows) = EndsInPut (x ∷ rows)

pub without_ends : (rows : List Kept) → EndsInPut (without_last_deletes rows)
without_ends [] = tt
without_ends (r ∷ rows) = at (is_delete r.row.op) refl (without_last_deletes rows) (without_ends rows)
  where
    at : (b : Bool) → is_delete r.row.op ≡ b → (left : List Kept) → EndsInPut left
        → EndsInPut (cond (b && is_empty left) [] (r ∷ left))
    at true e [] h = tt
    at true e (x ∷ left) h = h
    at false e [] h = e
    at false e (x ∷ left) h = h

ends_rest : (r : Kept) (rows : List Kept) → EndsInPut (r ∷ rows) → EndsInPut rows
ends_rest r [] h = tt
ends_rest r (x ∷ rows) h = h

ends_cond : (b : Bool) (r : Kept) (rows : List Kept) → EndsInPut (cond b (r ∷ rows) rows) → EndsInPut rows
ends_cond true r rows h = ends_rest r rows h
ends_cond false r rows h = h

or_right : (x y : Bool) → y ≡ true → (x || y) ≡ true
or_right true y h = refl
or_right false y h = h

cover : (r : Kept) (rows : List Kept) → RisesFrom key_of_kept r rows → EndsInPut (of_key r.row.key (r ∷ rows))
    → covers r rows ≡ true
cover r [] up h = ap not (subst EndsInPut (key_own r []) h)
cover r (x ∷ rows) up h = elim (cases_Bool (same_key r.row.key x.row.key)) [
  | inl same ↦ or_right (not (is_delete r.row.op)) (same_key r.row.key x.row.key) same
  | inr other ↦
      let none : of_key r.row.key (x ∷ rows) ≡ [] = key_no r.row.key x rows other ∙ gone r.row.key x rows (above r.row.key x.row.key up.0 other) up.1 in
      let put : is_delete r.row.op ≡ false = subst EndsInPut (key_own r (x ∷ rows) ∙ ap (λ (l : List Kept). r ∷ l) none) h in
      or_left (not (is_delete r.row.op)) (same_key r.row.key x.row.key) (ap not put)
]

pub deletes_cover : (rows : List Kept) → RisesBy key_of_kept rows → ((key : List ℕ) → EndsInPut (of_key key rows))
    → DeletesCover rows
deletes_cover [] up each = tt
deletes_cover (r ∷ rows) up each =
    (cover r rows up (each r.row.key), deletes_cover rows (rises_rest r rows up) (λ key. ends_cond (same_key key r.row.key) r (of_key key rows) (each key)))

pub stays_cover : (last : Bool) (rows : List Kept) (kept : List ℕ → List Kept) → RisesBy key_of_kept rows
    → ((key : List ℕ) → of_key key rows ≡ stays last (kept key)) → last ≡ true → DeletesCover rows
stays_cover last rows kept up is e =
    deletes_cover rows up (λ key. subst EndsInPut (sym (is key ∙ ap (λ (b : Bool). stays b (kept key)) e)) (without_ends (kept key)))

least : (last : Bool) (n : ℕ) → (last ≡ false → 1 ≤ n) → (last || nat_le 1 n) ≡ true
least true n h = refl
least false n h = le-leb 1 n (h refl)

-- ---- flats

pub flat_well_formed : (from to : ℕ) (bottom : Bottom) (writes : List Row) (rows : List Kept)
    → AreCuts from to bottom.cuts → from + length writes ≡ to → from < to → to - from < 2 ^ 32
    → IsFlatOf from to bottom writes rows → IsWellFormed from to bottom rows
flat_well_formed from to bottom writes rows are full some few flat =
    let most = flat_few from to bottom writes rows are (omega arith) flat in
    record {
      range = some;
      cuts = are;
      at_most = omega arith;
      at_least = least bottom.last (length rows) (λ plain. flat_some from to bottom writes rows are (omega arith) flat plain (omega arith));
      counted = omega arith;
      ordered = flat.ordered;
      ends = flat_ends from to bottom writes rows flat;
      deletes = stays_cover bottom.last rows (newest_each (ends_of bottom.cuts to) (numbered_after from writes)) (ordered_rises rows flat.ordered) flat.newest;
    }
