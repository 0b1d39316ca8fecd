-- What is written is the text, part by part.
use Rattle.std.proofs.Common.{◌≡◌, ℕ, ◌+◌, ◌-◌, ◌<◌, ◌≤◌, true, false, List, [], ◌∷◌, ◌++◌, length, get_or, take, Some, None, Result, refl, sym, ap, ◌∙◌, arith}
use Rattle.std.specs.Prelude.{slice_get, OnOk}
use Rattle.std.specs.Int.{w64, to_le_bytes}
use Rattle.std.specs.List.{flat_map}
use Rattle.std.proofs.lemmas.List.{take_all, take_more, flat_map_more}
use Rattle.std.proofs.lemmas.Result.{on_ok_weaker}
use Rattle.sv_model.specs.declared.writes.Kept.{Kept}
use Rattle.sv_model.specs.declared.writes.Row.{Row}
use Rattle.sv_model.specs.TableText.{Format, One, Two, Three, cuts_text, key_text, range_text, last_key, IsStored, IsStoredOp, AreBytes}
use Rattle.sv_model.specs.TableTextFields.{has_cuts}

some_is : (x y : Kept) → Some x ≡ Some y → x ≡ y
some_is x y e = cc

last_is : (r : Kept) (rows : List Kept) (last : Kept) → Some last ≡ slice_get (r ∷ rows) (length rows) → last_key r.row.key rows ≡ last.row.key
last_is r [] last e = ap (λ (k : Kept). k.row.key) (sym (some_is last r e))
last_is r (x ∷ rows) last e = last_is x rows last e

pub range_written : (format : Format) (rows : List Kept) (first last : Kept) → format ≡ Two → Some first ≡ slice_get rows 0 → Some last ≡ slice_get rows (length rows - 1) → range_text format rows ≡ key_text first.row.key ++ key_text last.row.key
range_written format [] first last is e f = let clash : Some first ≡ None = e in absurd (cc clash)
range_written format (r ∷ rows) first last is e f =
    let at : length (r ∷ rows) - 1 ≡ length rows = omega arith in
    let least : r.row.key ≡ first.row.key = ap (λ (k : Kept). k.row.key) (sym (some_is first r e)) in
    let greatest = last_is r rows last (f ∙ ap (slice_get (r ∷ rows)) at) in
    ap (λ (z : Format). range_text z (r ∷ rows)) is ∙ (λ i. key_text (least i) ++ key_text (greatest i))

pub cuts_written : (format : Format) (cuts : List ℕ) → has_cuts format ≡ true → cuts_text format cuts ≡ (length cuts ∷ []) ++ flat_map (to_le_bytes w64) cuts
cuts_written One cuts e = absurd (cc e)
cuts_written Two cuts e = absurd (cc e)
cuts_written Three cuts e = refl

pub none_written : (format : Format) (cuts : List ℕ) → has_cuts format ≡ false → cuts_text format cuts ≡ []
none_written One cuts e = refl
none_written Two cuts e = refl
none_written Three cuts e = absurd (cc e)

-- one item more
pub writes : {X : Type 0} (text : X → List ℕ) (front : List ℕ) (xs : List X) (at : ℕ) (x : X) (out out' : List ℕ) → at < length xs → x ≡ get_or xs at x → out ≡ front ++ flat_map text (take at xs) → out' ≡ out ++ text x → out' ≡ front ++ flat_map text (take (at + 1) xs)
writes {X} text front xs at x out out' within is so_far more =
    let next : take (at + 1) xs ≡ take at xs ++ x ∷ [] = take_more xs at x within ∙ ap (λ (r : X). take at xs ++ r ∷ []) (sym is) in
    more ∙ ap (λ (z : List ℕ). z ++ text x) so_far ∙ flat_map_more text front (take at xs) x
    ∙ ap (λ (z : List X). front ++ flat_map text z) (sym next)

-- all items
pub written : {X : Type 0} (text : X → List ℕ) (front : List ℕ) (xs : List X) (at : ℕ) (out : List ℕ) → length xs ≤ at → out ≡ front ++ flat_map text (take at xs) → out ≡ front ++ flat_map text xs
written {X} text front xs at out over e = e ∙ ap (λ (z : List X). front ++ flat_map text z) (take_all at xs over)

pub row_stored : {E : Type 0} (r : Result (Unit {0}) E) (row : Row) → 1 ≤ length row.key → length row.key ≤ 64 → AreBytes row.key → OnOk r (IsStoredOp row.op) → OnOk r (IsStored row)
row_stored r row p q b o = on_ok_weaker r (λ (s : IsStoredOp row.op). record { least = p; greatest = q; bytes = b; op = s }) o
