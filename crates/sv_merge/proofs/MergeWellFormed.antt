-- What is merged of well-formed tables is well formed.
use Rattle.std.proofs.Common.{◌≡◌, ℕ, ◌<◌, ◌≤◌, ◌-◌, ◌^◌, inl, inr, Bool, true, false, cond, ◌&&◌, ◌||◌, nat_lt, nat_le, List, [], ◌∷◌, ◌++◌, length, map, Option, Some, None, refl, sym, ap, subst, ◌∙◌, arith}
use Rattle.std.specs.List.{AllByRecursion}
use Rattle.std.proofs.lemmas.Bool.{cases_Bool, or_cases, and_parts, le-leb, leb-true, ltb-true}
use Rattle.std.proofs.lemmas.List.{length-map, length-append}
use Rattle.std.proofs.lemmas.List.Elements.{filter-append}
use Rattle.sv_model.specs.declared.writes.Kept.{Kept}
use Rattle.sv_model.specs.declared.cuts.Bottom.{Bottom}
use Rattle.sv_model.specs.declared.tables.Table.{Table}
use Rattle.sv_model.specs.Journal.{same_key}
use Rattle.sv_model.specs.Lists.{In}
use Rattle.sv_model.specs.Order.{is_below, comes_before, OrderedFrom, OrderedBy, key_of_kept, end_of_kept}
use Rattle.sv_model.specs.Flat.{of_key, ends_of, end_at, end_among, stays, CutsFrom, AreCuts}
use Rattle.sv_model.specs.TableText.{IsWellFormed}
use Rattle.sv_model.proofs.KeyOrder.{same_eq, same_yes, below_other, above}
use Rattle.sv_model.proofs.FlatEnds.{among_in, in_among, above_low, ends_ascend, end_most, among_is, range_end_is, range_end_rises}
use Rattle.sv_model.proofs.FlatFirsts.{is_last, firsts, FallFrom}
use Rattle.sv_model.proofs.FlatKeys.{Drops, stays_drops, firsts_drops, ordered_of_keys, ordered_rises, key_yes, key_no, key_own, gone, all_of_keys, few_of_keys}
use Rattle.sv_model.proofs.FlatLaws.{firsts_few, stays_few, all_stays}
use Rattle.sv_model.proofs.FlatText.{stays_cover}
use Rattle.sv_merge.specs.Merging.{Joined, NoneLast, AreWellFormed, newest_rows, moved, IsMergeOf}
use Rattle.sv_merge.proofs.MergeLaws.{rows_more, gathered_of, of_moved, merged_key}

-- ---- ends that fall within a range

-- ends above `low` that do not rise, the first at most `high`
abbrev FallIn : ℕ → ℕ → List Kept → Type 0
FallIn low high [] = Unit {0}
FallIn low high (r ∷ rows) = (r.end ≤ high) × (low < r.end) × FallIn low r.end rows

fall_lower : (low lower high higher : ℕ) (rows : List Kept) → lower ≤ low → high ≤ higher → FallIn low high rows
    → FallIn lower higher rows
fall_lower low lower high higher [] p q fall = tt
fall_lower low lower high higher (r ∷ rows) p q fall = (omega (arith, fall.0), omega (arith, fall.1), fall_lower low lower r.end r.end rows p (omega arith) fall.2)

fall_join : (low mid high : ℕ) (xs ys : List Kept) → low ≤ mid → mid ≤ high → FallIn mid high xs → FallIn low mid ys
    → FallIn low high (xs ++ ys)
fall_join low mid high [] ys p q fall falls = fall_lower low low mid high ys (omega arith) q falls
fall_join low mid high (x ∷ xs) ys p q fall falls = (fall.0, omega (arith, fall.1), fall_join low mid x.end xs ys p (omega (arith, fall.1)) fall.2 falls)

-- ---- the rows of a key of one table

abbrev IsIn : ℕ → ℕ → Kept → Type 0
IsIn low high r = (low < r.end) × (r.end ≤ high)

lower_end : (x y : Kept) → same_key x.row.key y.row.key ≡ true → comes_before key_of_kept end_of_kept x y ≡ true
    → y.end < x.end
lower_end x y same h = elim (or_cases (is_below x.row.key y.row.key) (same_key x.row.key y.row.key && nat_lt y.end x.end) h) [
  | inl low ↦ absurd (below_other x.row.key y.row.key low (same_eq x.row.key y.row.key same))
  | inr both ↦ ltb-true y.end x.end (and_parts (same_key x.row.key y.row.key) (nat_lt y.end x.end) both).1
]

key_falls : (low high : ℕ) (key : List ℕ) (x : Kept) (rows : List Kept) → same_key key x.row.key ≡ true
    → OrderedFrom key_of_kept end_of_kept x rows → AllByRecursion (IsIn low high) rows
    → FallIn low x.end (of_key key rows)
key_falls low high key x [] own up all = tt
key_falls low high key x (y ∷ rows) own up all = elim (cases_Bool (same_key key y.row.key)) [
  | inl same ↦
      let level : same_key x.row.key y.row.key ≡ true = same_yes x.row.key y.row.key (sym (same_eq key x.row.key own) ∙ same_eq key y.row.key same) in
      let less = lower_end x y level up.0 in
      subst (FallIn low x.end) (sym (key_yes key y rows same)) (omega arith, all.0.0, key_falls low high key y rows same up.1 all.1)
  | inr other ↦
      let rises = ordered_rises (x ∷ y ∷ rows) up in
      let higher : is_below key y.row.key ≡ true = above key y.row.key (subst (λ (k : List ℕ). is_below y.row.key k ≡ false) (sym (same_eq key x.row.key own)) rises.0) other in
      subst (FallIn low x.end) (sym (key_no key y rows other ∙ gone key y rows higher rises.1)) tt
]

ordered_rest : (x : Kept) (rows : List Kept) → OrderedFrom key_of_kept end_of_kept x rows
    → OrderedBy key_of_kept end_of_kept rows
ordered_rest x [] up = tt
ordered_rest x (y ∷ rows) up = up.1

all_falls : (low high : ℕ) (key : List ℕ) (rows : List Kept) → OrderedBy key_of_kept end_of_kept rows
    → AllByRecursion (IsIn low high) rows → FallIn low high (of_key key rows)
all_falls low high key [] up all = tt
all_falls low high key (x ∷ rows) up all = elim (cases_Bool (same_key key x.row.key)) [
  | inl same ↦ subst (FallIn low high) (sym (key_yes key x rows same)) (all.0.1, all.0.0, key_falls low high key x rows same up all.1)
  | inr other ↦ subst (FallIn low high) (sym (key_no key x rows other)) (all_falls low high key rows (ordered_rest x rows up) all.1)
]

bounds : (from to : ℕ) (cuts : List ℕ) (rows : List Kept) → from < to → CutsFrom from cuts to
    → AllByRecursion (λ r. In r.end (ends_of cuts to)) rows → AllByRecursion (IsIn from to) rows
bounds from to cuts [] some are all = tt
bounds from to cuts (r ∷ rows) some are all =
    let there = among_in r.end (ends_of cuts to) all.0 in
    ((above_low from (ends_of cuts to) r.end (ends_ascend from to cuts some are) there, end_most from to cuts r.end are there), bounds from to cuts rows some are all.1)

-- ---- all tables

reach : (from to : ℕ) (tables : List Table) → AreWellFormed tables → Joined from tables to → from ≤ to
reach from to [] are joined = omega (arith, joined)
reach from to (table ∷ tables) are joined = omega (arith, joined.0, are.0.range, reach table.to to tables are.1 joined.1)

tables_fall : (key : List ℕ) (from to : ℕ) (tables : List Table) → AreWellFormed tables → Joined from tables to
    → FallIn from to (of_key key (newest_rows tables))
tables_fall key from to [] are joined = tt
tables_fall key from to (table ∷ tables) are joined =
    let w = are.0 in
    let split : of_key key (newest_rows (table ∷ tables)) ≡ of_key key (newest_rows tables) ++ of_key key table.rows =
    ap (of_key key) (rows_more table tables) ∙ filter-append (λ (r : Kept). same_key key r.row.key) (newest_rows tables) table.rows in
    let own = all_falls table.from table.to key table.rows w.ordered (bounds table.from table.to table.bottom.cuts table.rows w.range w.cuts.ascend w.ends) in
    subst (FallIn from to) (sym split)
    (fall_join from table.to to (of_key key (newest_rows tables)) (of_key key table.rows) (omega (arith, joined.0, w.range)) (reach table.to to tables are.1 joined.1)
    (tables_fall key table.to to tables are.1 joined.1) (fall_lower table.from from table.to table.to (of_key key table.rows) (omega (arith, joined.0)) (omega arith) own))

count_rows : (from to : ℕ) (tables : List Table) → AreWellFormed tables → Joined from tables to
    → length (newest_rows tables) ≤ to - from
count_rows from to [] are joined = omega arith
count_rows from to (table ∷ tables) are joined =
    let rest = count_rows table.to to tables are.1 joined.1 in
    let up = reach table.to to tables are.1 joined.1 in
    let split = ap length (rows_more table tables) ∙ length-append (newest_rows tables) table.rows in
    omega (arith, split, rest, up, are.0.at_most, are.0.range, joined.0)

least_of : (last : Bool) (n : ℕ) → last ≡ false → (last || nat_le 1 n) ≡ true → 1 ≤ n
least_of true n e h = absurd (cc e)
least_of false n e h = leb-true 1 n h

some_rows : (tables : List Table) → 1 ≤ length tables → AreWellFormed tables → NoneLast tables
    → 1 ≤ length (newest_rows tables)
some_rows [] le are plain = absurd (omega (arith, le))
some_rows (table ∷ tables) le are plain =
    let split = ap length (rows_more table tables) ∙ length-append (newest_rows tables) table.rows in
    omega (arith, split, least_of table.bottom.last (length table.rows) plain.0 are.0.at_least)

range_up : (from to : ℕ) (tables : List Table) → 1 ≤ length tables → AreWellFormed tables → Joined from tables to
    → from < to
range_up from to [] le are joined = absurd (omega (arith, le))
range_up from to (table ∷ tables) le are joined = omega (arith, are.0.range, joined.0, reach table.to to tables are.1 joined.1)

-- ---- under the new ends

module _ (from to : ℕ) (cuts : List ℕ) (are : CutsFrom from cuts to) (some : from < to) where
  among_rises : (n m : ℕ) → n ≤ m → m ≤ to → end_among cuts to n ≤ end_among cuts to m
  among_rises n m le most =
      omega (arith, among_is cuts to n (omega arith), among_is cuts to m most, range_end_rises from to cuts are n m some le most)

  moved_falls : (high : ℕ) (rows : List Kept) → high ≤ to → FallIn from high rows
      → FallFrom (end_among cuts to high) (map (moved cuts to) rows)
  moved_falls high [] most fall = tt
  moved_falls high (r ∷ rows) most fall = (among_rises r.end high fall.0 most, moved_falls r.end rows (omega (arith, fall.0)) fall.2)

  moved_ends : (high : ℕ) (rows : List Kept) → high ≤ to → FallIn from high rows
      → AllByRecursion (λ r. In r.end (ends_of cuts to)) (map (moved cuts to) rows)
  moved_ends high [] most fall = tt
  moved_ends high (r ∷ rows) most fall =
      let le : r.end ≤ to = omega (arith, fall.0) in
      let there = (range_end_is from to cuts are r.end le).0 in
      (subst (λ (e : ℕ). In e (ends_of cuts to)) (sym (among_is cuts to r.end le)) (in_among (end_at (ends_of cuts to) r.end) (ends_of cuts to) there), moved_ends r.end rows le fall.2)

all_firsts : (P : Kept → Type 0) (last : Option ℕ) (rows : List Kept) → AllByRecursion P rows
    → AllByRecursion P (firsts last rows)
all_firsts P last [] all = tt
all_firsts P last (r ∷ rows) all = at (is_last last r.end) (all_firsts P last rows all.1) (all_firsts P (Some r.end) rows all.1)
  where
    at : (b : Bool) → AllByRecursion P (firsts last rows) → AllByRecursion P (firsts (Some r.end) rows)
        → AllByRecursion P (cond b (firsts last rows) (r ∷ firsts (Some r.end) rows))
    at true h n = h
    at false h n = (all.0, n)

-- ---- the merge

module _ (from to : ℕ) (bottom : Bottom) (tables : List Table) (rows : List Kept) (merged : IsMergeOf tables to bottom rows) where
  abbrev all : List Kept
  all = map (moved bottom.cuts to) (newest_rows tables)

  few_key : (key : List ℕ) → length (of_key key rows) ≤ length (of_key key all)
  few_key key =
      let kept = gathered_of bottom.cuts to key tables in
      omega (arith, ap length (merged_key tables to bottom rows merged key), stays_few bottom.last (firsts None kept), firsts_few None kept, ap length (of_moved bottom.cuts to key (newest_rows tables)))

  merged_few : length rows ≤ length (newest_rows tables)
  merged_few = omega (arith, few_of_keys key_of_kept key_of_kept rows all few_key, length-map (newest_rows tables) (moved bottom.cuts to))

  has_one : (key : List ℕ) (kept : List Kept) (z : Kept) (zs : List Kept) → of_key key kept ≡ z ∷ zs → 1 ≤ length kept
  has_one key [] z zs e = absurd (cc e)
  has_one key (r ∷ kept) z zs e = omega arith

  merged_some : bottom.last ≡ false → 1 ≤ length (newest_rows tables) → 1 ≤ length rows
  merged_some plain some = at all refl
    where
      at : (kept : List Kept) → all ≡ kept → 1 ≤ length rows
      at [] is = absurd (omega (arith, some, ap length is, length-map (newest_rows tables) (moved bottom.cuts to)))
      at (r ∷ kept) is =
          let key = r.row.key in
          let own : gathered_of bottom.cuts to key tables ≡ r ∷ of_key key kept = sym (of_moved bottom.cuts to key (newest_rows tables)) ∙ ap (of_key key) is ∙ key_own r kept in
          has_one key rows r (firsts (Some r.end) (of_key key kept))
          (merged_key tables to bottom rows merged key
          ∙ ap (λ (b : Bool). stays b (firsts None (gathered_of bottom.cuts to key tables))) plain
          ∙ ap (firsts None) own)

  least : (last : Bool) (n : ℕ) → (last ≡ false → 1 ≤ n) → (last || nat_le 1 n) ≡ true
  least true n h = refl
  least false n h = le-leb 1 n (h refl)

  pub merged_well : 1 ≤ length tables → Joined from tables to → AreCuts from to bottom.cuts
      → (bottom.last ≡ false → AreWellFormed tables → NoneLast tables) → AreWellFormed tables → to - from < 2 ^ 32
      → IsWellFormed from to bottom rows
  merged_well one joined cuts plain are few =
      let some : from < to = range_up from to tables one are joined in
      let most : length rows ≤ to - from = omega (arith, merged_few, count_rows from to tables are joined) in
      record {
        range = some;
        cuts = cuts;
        at_most = most;
        at_least = least bottom.last (length rows) (λ e. merged_some e (some_rows tables one are (plain e are)));
        counted = omega (arith, most, few);
        ordered = ordered_of_keys rows merged.rises (λ key.
            let kept = gathered_of bottom.cuts to key tables in
            subst Drops (sym (merged_key tables to bottom rows merged key)) (stays_drops bottom.last (firsts None kept)
            (firsts_drops (end_among bottom.cuts to to) kept (moved_falls from to bottom.cuts cuts.ascend some to (of_key key (newest_rows tables)) (omega arith) (tables_fall key from to tables are joined)))));
        ends = all_of_keys (λ r. In r.end (ends_of bottom.cuts to)) rows (λ key.
            let kept = gathered_of bottom.cuts to key tables in
            subst (AllByRecursion (λ (r : Kept). In r.end (ends_of bottom.cuts to))) (sym (merged_key tables to bottom rows merged key))
            (all_stays (λ r. In r.end (ends_of bottom.cuts to)) bottom.last (firsts None kept) (all_firsts (λ r. In r.end (ends_of bottom.cuts to)) None kept
            (moved_ends from to bottom.cuts cuts.ascend some to (of_key key (newest_rows tables)) (omega arith) (tables_fall key from to tables are joined)))));
        deletes = stays_cover bottom.last rows (λ key. firsts None (gathered_of bottom.cuts to key tables)) merged.rises (merged_key tables to bottom rows merged);
      }
