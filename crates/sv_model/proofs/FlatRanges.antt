-- Ranges of a family's writes: how many there are, their parts and numbers.
use Rattle.std.proofs.Common.{◌≡◌, ℕ, zero, suc, ◌≤◌, ◌+◌, ◌-◌, List, [], ◌∷◌, ◌++◌, length, map, reverse, take, drop, Option, Some, None, refl, sym, ap, ◌∙◌, arith}
use Rattle.std.specs.Option.{option_map, option_or}
use Rattle.std.specs.List.{find}
use Rattle.std.proofs.lemmas.List.{reverse-append, length-map, length-drop, take_all, take-map}
use Rattle.std.proofs.lemmas.List.Folds.{find-append}
use Rattle.sv_model.specs.declared.writes.Write.{Write}
use Rattle.sv_model.specs.declared.writes.Row.{Row}
use Rattle.sv_model.specs.Journal.{same_key, newest_row, newest_op, of_family, row_of, rows_of}
use Rattle.sv_model.specs.Flat.{range_of, numbered_after}

-- ---- how many

front_most : (n : ℕ) (ws : List Write) → length (take n ws) ≤ n
front_most zero ws = omega arith
front_most (suc n) [] = omega arith
front_most (suc n) (w ∷ ws) = omega (arith, front_most n ws)

-- a range has at most as many writes as it covers
pub range_fit : (journal : List Write) (family from to : ℕ) → from ≤ to
    → from + length (range_of journal family from to) ≤ to
range_fit journal family from to le =
    let ws = of_family family journal in
    let h = front_most to ws in
    omega (arith, length-map (drop from (take to ws)) row_of, length-drop from (take to ws), h)

-- ---- parts

no_writes : (n : ℕ) (ws : List Write) → drop n (take n ws) ≡ []
no_writes zero ws = refl
no_writes (suc n) [] = refl
no_writes (suc n) (w ∷ ws) = no_writes n ws

pub range_none : (journal : List Write) (family n : ℕ) → range_of journal family n n ≡ []
range_none journal family n = ap (map row_of) (no_writes n (of_family family journal))

abbrev nothing : List Write
nothing = []

take_none : (n : ℕ) → take n nothing ≡ []
take_none zero = refl
take_none (suc n) = refl

part_none : (a b : ℕ) → drop a (take b nothing) ≡ []
part_none zero b = take_none b
part_none (suc a) b = ap (drop (suc a)) (take_none b)

part_front : (ws : List Write) (a m b : ℕ) → a ≤ m → m ≤ b → take (m - a) (drop a (take b ws)) ≡ drop a (take m ws)
part_front [] a m b p q = ap (take (m - a)) (part_none a b) ∙ take_none (m - a) ∙ sym (part_none a m)
part_front (w ∷ ws) zero zero b p q = refl
part_front (w ∷ ws) zero (suc m) zero p q = absurd (omega arith)
part_front (w ∷ ws) zero (suc m) (suc b) p q =
    let e : suc m - 0 ≡ suc m = omega arith in
    let f : m ≡ m - 0 = omega arith in
    ap (λ (n : ℕ). take n (w ∷ take b ws)) e
    ∙ ap (λ (l : List Write). w ∷ l) (ap (λ (n : ℕ). take n (take b ws)) f ∙ part_front ws zero m b (omega arith) (omega arith))
part_front (w ∷ ws) (suc a) zero b p q = absurd (omega arith)
part_front (w ∷ ws) (suc a) (suc m) zero p q = absurd (omega arith)
part_front (w ∷ ws) (suc a) (suc m) (suc b) p q =
    let e : suc m - suc a ≡ m - a = omega arith in
    ap (λ (n : ℕ). take n (drop a (take b ws))) e ∙ part_front ws a m b (omega arith) (omega arith)

-- the writes of a range up to a cut inside it
pub range_front : (journal : List Write) (family from cut to : ℕ) → from ≤ cut → cut ≤ to
    → take (cut - from) (range_of journal family from to) ≡ range_of journal family from cut
range_front journal family from cut to p q =
    let ws = of_family family journal in
    take-map row_of (cut - from) (drop from (take to ws)) ∙ ap (map row_of) (part_front ws from cut to p q)

-- and up to one behind it
pub range_whole : (journal : List Write) (family from cut to : ℕ) → from ≤ to → to ≤ cut
    → take (cut - from) (range_of journal family from to) ≡ range_of journal family from to
range_whole journal family from cut to p q = take_all (cut - from) (range_of journal family from to) (omega (arith, range_fit journal family from to p))

no_part : (m b : ℕ) → rows_of (drop m (take b nothing)) ≡ []
no_part m b = ap rows_of (part_none m b)

-- the newest of older and newer writes is that of the newer ones, if they have one
pub newest_row_append : (key : List ℕ) (old new : List Row)
    → newest_row key (old ++ new) ≡ option_or (newest_row key new) (newest_row key old)
newest_row_append key old new = ap (find (λ r. same_key key r.key)) (reverse-append old new) ∙ find-append (λ r. same_key key r.key) (reverse new) (reverse old)

pub newest_op_append : (key : List ℕ) (old new : List Row)
    → newest_op key (old ++ new) ≡ option_or (newest_op key new) (newest_op key old)
newest_op_append key old new = ap (option_map (λ (r : Row). r.op)) (newest_row_append key old new) ∙ by_op (newest_row key new) (newest_row key old)
  where
    by_op : (a b : Option Row)
        → option_map (λ r. r.op) (option_or a b) ≡ option_or (option_map (λ r. r.op) a) (option_map (λ r. r.op) b)
    by_op None b = refl
    by_op (Some row) b = refl

-- ---- numbers

numbered_none : (n : ℕ) (rows : List Row) → rows ≡ [] → numbered_after n rows ≡ []
numbered_none n rows e = ap (numbered_after n) e

numbered_parts : (ws : List Write) (base a m b : ℕ) → a ≤ m → m ≤ b
    → numbered_after (base + a) (rows_of (drop a (take b ws))) ≡ numbered_after (base + a) (rows_of (drop a (take m ws))) ++ numbered_after (base + m) (rows_of (drop m (take b ws)))
numbered_parts ws base zero zero b p q = refl
numbered_parts [] base zero (suc m) b p q =
    numbered_none (base + 0) (rows_of (take b nothing)) (no_part 0 b) ∙ sym (numbered_none (base + suc m) (rows_of (drop (suc m) (take b nothing))) (no_part (suc m) b))
numbered_parts (w ∷ ws) base zero (suc m) zero p q = absurd (omega arith)
numbered_parts (w ∷ ws) base zero (suc m) (suc b) p q =
    let next : suc (base + 0) ≡ suc base + 0 = omega arith in
    let further : suc base + m ≡ base + suc m = omega arith in
    ap (λ l. record { number = suc (base + 0); row = row_of w } ∷ l)
    (ap (λ (n : ℕ). numbered_after n (rows_of (take b ws))) next
    ∙ numbered_parts ws (suc base) zero m b (omega arith) (omega arith)
    ∙ (λ i. numbered_after (sym next i) (rows_of (take m ws)) ++ numbered_after (further i) (rows_of (drop m (take b ws)))))
numbered_parts ws base (suc a) zero b p q = absurd (omega arith)
numbered_parts [] base (suc a) (suc m) b p q =
    numbered_none (base + suc a) (rows_of (drop (suc a) (take b nothing))) (no_part (suc a) b)
    ∙ sym (numbered_none (base + suc m) (rows_of (drop (suc m) (take b nothing))) (no_part (suc m) b))
numbered_parts (w ∷ ws) base (suc a) (suc m) zero p q = absurd (omega arith)
numbered_parts (w ∷ ws) base (suc a) (suc m) (suc b) p q =
    let low : base + suc a ≡ suc base + a = omega arith in
    let high : suc base + m ≡ base + suc m = omega arith in
    ap (λ (n : ℕ). numbered_after n (rows_of (drop a (take b ws)))) low
    ∙ numbered_parts ws (suc base) a m b (omega arith) (omega arith)
    ∙ (λ i. numbered_after (sym low i) (rows_of (drop a (take m ws))) ++ numbered_after (high i) (rows_of (drop m (take b ws))))

-- the numbered writes of a range are those of its parts
pub range_parts : (journal : List Write) (family from mid to : ℕ) → from ≤ mid → mid ≤ to
    → numbered_after from (range_of journal family from to) ≡ numbered_after from (range_of journal family from mid) ++ numbered_after mid (range_of journal family mid to)
range_parts journal family from mid to p q =
    let ws = of_family family journal in
    let low : from ≡ 0 + from = omega arith in
    let high : 0 + mid ≡ mid = omega arith in
    ap (λ (n : ℕ). numbered_after n (range_of journal family from to)) low
    ∙ numbered_parts ws 0 from mid to p q
    ∙ (λ i. numbered_after (sym low i) (range_of journal family from mid) ++ numbered_after (high i) (range_of journal family mid to))
