-- Frozen memtables, looked in from the newest one back.
use Rattle.std.proofs.Common.{◌≡◌, ◌≤◌, ◌<◌, ◌-◌, ℕ, zero, suc, List, [], ◌∷◌, ◌++◌, length, length-append, take, get_or, Option, Some, None, refl, sym, ap, ◌∙◌, arith, append_assoc}
use Rattle.std.proofs.lemmas.List.{map-append}
use Rattle.std.proofs.Math.Seq.{take-suc, take-length}
use Rattle.std.specs.Arc.{arc_value}
use Rattle.std.specs.Option.{option_or}
use Rattle.std.specs.declared.sync.Arc.{Arc}
use Rattle.sv_model.specs.Cells.{Cell}
use Rattle.sv_model.specs.declared.writes.Row.{Row}
use Rattle.sv_model.specs.declared.writes.Op.{Op}
use Rattle.sv_model.specs.Journal.{newest_op}
use Rattle.sv_model.proofs.FlatRanges.{newest_op_append}
use Rattle.sv_objects.specs.Shown.{shown}
use Rattle.sv_reads.specs.Parts.{FindsAfter, rows_in}
use Rattle.sv_reads.proofs.PartLooks.{finds_after}

-- ---- the last item of a list

pub last_split : {A : Type 0} (l : List A) (x : A) → 0 < length l → x ≡ get_or l (length l - 1) x
    → l ≡ take (length l - 1) l ++ x ∷ []
last_split l x some is =
    let last = length l - 1 in
    let whole : length l ≡ suc last = omega (arith, some) in
    sym (take-length l)
    ∙ ap (λ (n : ℕ). take n l) whole
    ∙ take-suc l last x (omega (arith, some))
    ∙ ap (λ y. take last l ++ y ∷ []) (sym is)

pub shown_last : {Z : Type 0} (left : List (ℕ × Arc Cell Z)) (p : ℕ × Arc Cell Z) → 0 < length left
    → p ≡ get_or left (length left - 1) p
    → shown left ≡ shown (take (length left - 1) left) ++ (p.0, arc_value p.1) ∷ []
shown_last {Z} left p some is =
    ap shown (last_split left p some is)
    ∙ map-append (λ (q : ℕ × Arc Cell Z). (q.0, arc_value q.1)) (take (length left - 1) left) (p ∷ [])

pub shown_none : {Z : Type 0} (left : List (ℕ × Arc Cell Z)) → length left < 1 → shown left ≡ []
shown_none [] few = refl
shown_none (p ∷ left) few = absurd (omega arith)

-- ---- the newest row in two parts

take_parts : (n : ℕ) (old new : List Row) → take n (old ++ new) ≡ take n old ++ take (n - length old) new
take_parts zero old new = let none : 0 ≡ 0 - length old = omega arith in ap (λ (k : ℕ). take k new) none
take_parts (suc n) [] new = let all : suc n ≡ suc n - 0 = omega arith in ap (λ (k : ℕ). take k new) all
take_parts (suc n) (row ∷ old) new =
    let rest : n - length old ≡ suc n - suc (length old) = omega arith in
    ap (λ (l : List Row). row ∷ l) (take_parts n old new ∙ ap (λ (k : ℕ). take n old ++ take k new) rest)

newest_parts : (key : List ℕ) (n m : ℕ) (old new : List Row) → n - length old ≡ m
    → newest_op key (take n (old ++ new)) ≡ option_or (newest_op key (take m new)) (newest_op key (take n old))
newest_parts key n m old new e =
    ap (newest_op key) (take_parts n old new)
    ∙ newest_op_append key (take n old) (take (n - length old) new)
    ∙ ap (λ (k : ℕ). option_or (newest_op key (take k new)) (newest_op key (take n old))) e

-- ---- memtables

pub rows_append : (older newer : List (ℕ × Cell)) → rows_in (older ++ newer) ≡ rows_in older ++ rows_in newer
rows_append [] newer = refl
rows_append (x ∷ older) newer =
    ap (λ (l : List Row). x.1.rows ++ l) (rows_append older newer)
    ∙ sym (append_assoc x.1.rows (rows_in older) (rows_in newer))

pub splits : (all left older newer : List (ℕ × Cell)) (x : ℕ × Cell) → all ≡ left ++ newer → left ≡ older ++ x ∷ []
    → all ≡ older ++ x ∷ newer
splits all left older newer x e f = e ∙ ap (λ (l : List (ℕ × Cell)). l ++ newer) f ∙ append_assoc older (x ∷ []) newer

-- The memtable x is looked in, of which the rows end with write `end` and begin after write `begin`.
module _ (key : List ℕ) (cut base end begin : ℕ) (x : ℕ × Cell) (newer : List (ℕ × Cell))
    (ends : end ≡ base - length (rows_in newer)) (begins : begin ≡ end - length x.1.rows) where
  abbrev here : List Row
  here = x.1.rows

  abbrev later : List Row
  later = rows_in newer

  pub ends_before : begin ≡ base - length (rows_in (x ∷ newer))
  ends_before = omega (arith, length-append here later)

  module _ (passed : length (rows_in newer) ≤ base → newest_op key (take (cut - end) (rows_in newer)) ≡ None) where
    pub newest_here : length (rows_in (x ∷ newer)) ≤ base
        → newest_op key (take (cut - begin) (rows_in (x ∷ newer))) ≡ newest_op key (take (cut - begin) x.1.rows)
    newest_here within =
        let few : length later ≤ base = omega (arith, length-append here later) in
        let next : (cut - begin) - length here ≡ cut - end = omega (arith, length-append here later) in
        newest_parts key (cut - begin) (cut - end) here later next
        ∙ ap (λ (o : Option Op). option_or o (newest_op key (take (cut - begin) here))) (passed few)

    -- its row decides
    pub found_here : (all older : List (ℕ × Cell)) (op : Op) → all ≡ older ++ x ∷ newer
        → Some op ≡ newest_op key (take (cut - begin) x.1.rows)
        → length (rows_in all) ≤ base → FindsAfter (base - length (rows_in all)) (rows_in all) key cut (Some op)
    found_here all older op stands found within =
        let rest = rows_in (x ∷ newer) in
        let rows : rows_in all ≡ rows_in older ++ rest = ap rows_in stands ∙ rows_append older (x ∷ newer) in
        let first = base - length (rows_in all) in
        let count = ap length rows ∙ length-append (rows_in older) rest in
        let low : length rest ≤ base = omega (arith, count) in
        let next : (cut - first) - length (rows_in older) ≡ cut - begin = omega (arith, count, ends_before) in
        finds_after first (rows_in all) key cut (Some op)
        (sym (ap (λ (l : List Row). newest_op key (take (cut - first) l)) rows
        ∙ newest_parts key (cut - first) (cut - begin) (rows_in older) rest next
        ∙ ap (λ (o : Option Op). option_or o (newest_op key (take (cut - first) (rows_in older))))
        (newest_here low ∙ sym found)))

-- no memtable has a row
pub none_here : (key : List ℕ) (cut base end : ℕ) (all newer : List (ℕ × Cell)) → all ≡ newer
    → end ≡ base - length (rows_in newer)
    → (length (rows_in newer) ≤ base → newest_op key (take (cut - end) (rows_in newer)) ≡ None)
    → length (rows_in all) ≤ base → FindsAfter (base - length (rows_in all)) (rows_in all) key cut None
none_here key cut base end all newer same ends passed within =
    let rows = ap rows_in same in
    let few : length (rows_in newer) ≤ base = omega (arith, ap length rows) in
    let first : base - length (rows_in all) ≡ end = omega (arith, ap length rows, ends) in
    finds_after (base - length (rows_in all)) (rows_in all) key cut None
    (sym ((λ i. newest_op key (take (cut - first i) (rows i))) ∙ passed few))
