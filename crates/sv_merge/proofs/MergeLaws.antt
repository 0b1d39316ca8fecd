-- What is merged of flats over joined ranges is the flat over the whole range.
use Rattle.std.proofs.Common.{◌≡◌, ℕ, suc, ◌<◌, ◌≤◌, ◌+◌, ◌-◌, inl, inr, Bool, true, false, cond, List, [], ◌∷◌, ◌++◌, length, map, reverse, drop, get_or, None, refl, sym, ap, subst, ◌∙◌, arith}
use Rattle.std.specs.List.{filter, flat_map, dedup}
use Rattle.std.proofs.lemmas.List.{reverse-append, map-append, append-nil, flat_map_more}
use Rattle.std.proofs.lemmas.List.Elements.{filter-append}
use Rattle.sv_model.specs.declared.writes.Write.{Write}
use Rattle.sv_model.specs.declared.writes.Kept.{Kept}
use Rattle.sv_model.specs.declared.writes.Numbered.{Numbered}
use Rattle.sv_model.specs.declared.cuts.Bottom.{Bottom}
use Rattle.sv_model.specs.declared.tables.Table.{Table}
use Rattle.sv_model.specs.Journal.{same_key}
use Rattle.sv_model.specs.Lists.{Every}
use Rattle.sv_model.specs.Flat.{range_of, numbered_after, of_key, ends_of, end_at, end_among, stays, IsFlat, CutsFrom, AreCuts, IsClearIn}
use Rattle.sv_model.proofs.FlatEnds.{Among, in_among, among_parts, ends_ascend, end_least, among_is, range_end_is, range_end_most, range_end_least, range_end_rises}
use Rattle.sv_model.proofs.FlatFirsts.{firsts, mark, marks, has_key, NumbersFall, numbers_fall, numbers_filter, newest_firsts}
use Rattle.sv_model.proofs.FlatLaws.{flat_of_keys}
use Rattle.sv_model.proofs.FlatRanges.{range_fit, range_none, range_parts}
use Rattle.sv_merge.specs.Placing.{same_place, thinned}
use Rattle.sv_merge.specs.Merging.{Joined, JoinedWith, NoneLast, EachClear, newest_rows, moved, IsMergeOf, IsFlatTable, AreFlats, InOrder}
use Rattle.sv_merge.proofs.SameFirsts.{SameFirsts, same_join, same_refl, same_trans, same_twice, oldest_stays}
use Rattle.sv_merge.proofs.ThinnedLaws.{dedup_firsts, left_rises, left_key}

-- ---- the rows of all tables, of a key

pub rows_more : (table : Table) (tables : List Table) → newest_rows (table ∷ tables) ≡ newest_rows tables ++ table.rows
rows_more table tables =
    ap (flat_map (λ (t : Table). t.rows)) (reverse-append (table ∷ []) tables)
    ∙ sym (flat_map_more (λ (t : Table). t.rows) [] (reverse tables) table)

pub of_moved : (cuts : List ℕ) (to : ℕ) (key : List ℕ) (rows : List Kept)
    → of_key key (map (moved cuts to) rows) ≡ map (moved cuts to) (of_key key rows)
of_moved cuts to key [] = refl
of_moved cuts to key (r ∷ rows) = at (same_key key r.row.key) (of_moved cuts to key rows)
  where
    at : (b : Bool) → of_key key (map (moved cuts to) rows) ≡ map (moved cuts to) (of_key key rows)
        → cond b (moved cuts to r ∷ of_key key (map (moved cuts to) rows)) (of_key key (map (moved cuts to) rows)) ≡ map (moved cuts to) (cond b (r ∷ of_key key rows) (of_key key rows))
    at true h = ap (λ (l : List Kept). moved cuts to r ∷ l) h
    at false h = h

-- the rows of a key under their new ends, those of the newest table first
abbrev pub gathered_of : List ℕ → ℕ → List ℕ → List Table → List Kept
gathered_of cuts to key tables = map (moved cuts to) (of_key key (newest_rows tables))

pub gathered_more : (cuts : List ℕ) (to : ℕ) (key : List ℕ) (table : Table) (tables : List Table)
    → gathered_of cuts to key (table ∷ tables) ≡ gathered_of cuts to key tables ++ map (moved cuts to) (of_key key table.rows)
gathered_more cuts to key table tables =
    ap (λ (l : List Kept). map (moved cuts to) (of_key key l)) (rows_more table tables)
    ∙ ap (map (moved cuts to)) (filter-append (λ (r : Kept). same_key key r.row.key) (newest_rows tables) table.rows)
    ∙ map-append (moved cuts to) (of_key key (newest_rows tables)) (of_key key table.rows)

pub merged_rows : (tables : List Table) (to : ℕ) (bottom : Bottom) (sorted : List Kept)
    → InOrder (map (moved bottom.cuts to) (newest_rows tables)) sorted
    → IsMergeOf tables to bottom (thinned bottom.last (dedup same_place sorted))
merged_rows tables to bottom sorted order = record {
  rises = left_rises bottom.last sorted order.rises;
  newest = λ key.
      left_key bottom.last key sorted order.rises
      ∙ ap (λ (l : List Kept). stays bottom.last (firsts None l)) (order.kept key)
      ∙ ap (stays bottom.last) (sym (dedup_firsts (of_key key (map (moved bottom.cuts to) (newest_rows tables)))));
}

pub merged_key : (tables : List Table) (to : ℕ) (bottom : Bottom) (rows : List Kept) → IsMergeOf tables to bottom rows
    → (key : List ℕ) → of_key key rows ≡ stays bottom.last (firsts None (gathered_of bottom.cuts to key tables))
merged_key tables to bottom rows merged key =
    merged.newest key
    ∙ ap (stays bottom.last) (dedup_firsts (of_key key (map (moved bottom.cuts to) (newest_rows tables))) ∙ ap (firsts None) (of_moved bottom.cuts to key (newest_rows tables)))

-- ---- the marks of joined ranges

marks_append : (ends key : List ℕ) (xs ys : List Numbered)
    → marks ends key (xs ++ ys) ≡ marks ends key xs ++ marks ends key ys
marks_append ends key xs ys = ap (map (mark ends)) (filter-append (has_key key) xs ys) ∙ map-append (mark ends) (filter (has_key key) xs) (filter (has_key key) ys)

-- the writes of a range of a key, the newest first, under the ends of a range around it
abbrev pub marked : List Write → ℕ → List ℕ → List ℕ → ℕ → ℕ → List Kept
marked journal family ends key from to = marks ends key (reverse (numbered_after from (range_of journal family from to)))

marked_parts : (journal : List Write) (family : ℕ) (ends key : List ℕ) (from mid to : ℕ) → from ≤ mid → mid ≤ to
    → marked journal family ends key from to ≡ marked journal family ends key mid to ++ marked journal family ends key from mid
marked_parts journal family ends key from mid to p q =
    let old = numbered_after from (range_of journal family from mid) in
    let new = numbered_after mid (range_of journal family mid to) in
    ap (λ (l : List Numbered). marks ends key (reverse l)) (range_parts journal family from mid to p q)
    ∙ ap (marks ends key) (reverse-append old new)
    ∙ marks_append ends key (reverse new) (reverse old)

marked_none : (journal : List Write) (family : ℕ) (ends key : List ℕ) (n : ℕ) → marked journal family ends key n n ≡ []
marked_none journal family ends key n = ap (λ l. marks ends key (reverse (numbered_after n l))) (range_none journal family n)

-- ---- one table under the new ends

module _ (from to : ℕ) (cuts : List ℕ) (are : CutsFrom from cuts to) where
  abbrev ends : List ℕ
  ends = ends_of cuts to

  module _ (low high : ℕ) (own : List ℕ) (owns : CutsFrom low own high) (clear : Every (IsClearIn low high own) cuts) (lower : from ≤ low) (upper : high ≤ to) where
    clear_at : (c : ℕ) → Among c cuts → IsClearIn low high own c
    clear_at c there = let at = in_among c cuts there in clear at.at c at.is

    -- the end of a write does not pass its new end
    end_within : (n : ℕ) → low < n → n ≤ high → end_at (ends_of own high) n ≤ end_at ends n
    end_within n more most =
        let e = end_at (ends_of own high) n in
        let c = end_at ends n in
        let new = range_end_is from to cuts are n (omega arith) in
        let le : e ≤ high = range_end_most low high own owns n most in
        elim (among_parts c cuts (to ∷ []) new.0) [
          | inl cut ↦ elim (clear_at c cut) [
            | inl one ↦ range_end_least low high own owns n c more most one new.1
            | inr out ↦ elim out [
              | inl after ↦ omega (arith, after, le)
              | inr before ↦ absurd (omega (arith, before, new.1))
            ]
          ]
          | inr last ↦ elim last [
            | inl is ↦ omega (arith, is, le)
            | inr none ↦ absurd none
          ]
        ]

    moved_end : (n : ℕ) → low < n → n ≤ high → end_among cuts to (end_at (ends_of own high) n) ≡ end_at ends n
    moved_end n more most =
        let e = end_at (ends_of own high) n in
        let old = range_end_is low high own owns n most in
        let le : e ≤ high = range_end_most low high own owns n most in
        let some : from < to = omega arith in
        let new = range_end_is from to cuts are n (omega arith) in
        let least = end_least from ends e (end_at ends n) (ends_ascend from to cuts some are) new.0 (end_within n more most) in
        let rises = range_end_rises from to cuts are n e some old.1 (omega (arith, le)) in
        among_is cuts to e (omega (arith, le)) ∙ (let same : end_at ends e ≡ end_at ends n = omega (arith, least, rises) in same)

    moved_marks : (most : ℕ) (writes : List Numbered) → most ≤ high → NumbersFall low most writes
        → map (moved cuts to) (map (mark (ends_of own high)) writes) ≡ map (mark ends) writes
    moved_marks most [] le fall = refl
    moved_marks most (n ∷ writes) le fall =
        let within : n.number ≤ high = omega (arith, fall.0) in
        (λ i. record { end = moved_end n.number fall.1 within i; row = n.row } ∷ moved_marks n.number writes within fall.2 i)

  -- ---- tables above the last

  up_to : (journal : List Write) (family low : ℕ) (tables : List Table) → AreFlats journal family tables
      → Joined low tables to → low ≤ to
  up_to journal family low [] flats joined = omega (arith, joined)
  up_to journal family low (table ∷ tables) flats joined = omega (arith, joined.0, flats.0.range, up_to journal family table.to tables flats.1 joined.1)

  module _ (journal : List Write) (family : ℕ) (key : List ℕ) where
    own_rows : (table : Table) → IsFlatTable journal family table
        → of_key key table.rows ≡ stays table.bottom.last (firsts None (marked journal family (ends_of table.bottom.cuts table.to) key table.from table.to))
    own_rows table flat =
        flat.flat.newest key
        ∙ ap (stays table.bottom.last) (newest_firsts table.from table.to table.bottom.cuts flat.cuts.ascend (range_of journal family table.from table.to) (range_fit journal family table.from table.to flat.range) key)

    own_same : (table : Table) → IsFlatTable journal family table
        → Every (IsClearIn table.from table.to table.bottom.cuts) cuts → from ≤ table.from → table.to ≤ to
        → SameFirsts (map (moved cuts to) (firsts None (marked journal family (ends_of table.bottom.cuts table.to) key table.from table.to))) (marked journal family ends key table.from table.to)
    own_same table flat clear lower upper =
        let writes = range_of journal family table.from table.to in
        let turned = reverse (numbered_after table.from writes) in
        let marks_are = marked journal family (ends_of table.bottom.cuts table.to) key table.from table.to in
        let falls : NumbersFall table.from table.to (filter (has_key key) turned) = numbers_filter (has_key key) table.from table.to turned (numbers_fall table.from writes table.from table.to (omega arith) (range_fit journal family table.from table.to flat.range)) in
        same_trans (map (moved cuts to) (firsts None marks_are)) (map (moved cuts to) marks_are) (marked journal family ends key table.from table.to)
        (same_twice cuts to marks_are)
        (same_refl (map (moved cuts to) marks_are) (marked journal family ends key table.from table.to)
        (moved_marks table.from table.to table.bottom.cuts flat.cuts.ascend clear lower upper table.to (filter (has_key key) turned) (omega arith) falls))

    above_same : (low : ℕ) (tables : List Table) → from ≤ low → NoneLast tables → EachClear cuts tables
        → AreFlats journal family tables → Joined low tables to
        → SameFirsts (gathered_of cuts to key tables) (marked journal family ends key low to)
    above_same low [] lower plain clear flats joined =
        same_refl [] (marked journal family ends key low to) (sym (ap (λ (n : ℕ). marked journal family ends key low n) (sym joined) ∙ marked_none journal family ends key low))
    above_same low (table ∷ tables) lower plain clear flats joined =
        let upper : table.to ≤ to = up_to journal family table.to tables flats.1 joined.1 in
        let begins : from ≤ table.from = omega (arith, joined.0) in
        let own : of_key key table.rows ≡ firsts None (marked journal family (ends_of table.bottom.cuts table.to) key table.from table.to) =
        own_rows table flats.0 ∙ ap (λ (b : Bool). stays b (firsts None (marked journal family (ends_of table.bottom.cuts table.to) key table.from table.to))) plain.0 in
        let split : gathered_of cuts to key (table ∷ tables) ≡ gathered_of cuts to key tables ++ map (moved cuts to) (firsts None (marked journal family (ends_of table.bottom.cuts table.to) key table.from table.to)) =
        gathered_more cuts to key table tables ∙ ap (λ (l : List Kept). gathered_of cuts to key tables ++ map (moved cuts to) l) own in
        let parts : marked journal family ends key low to ≡ marked journal family ends key table.to to ++ marked journal family ends key table.from table.to =
        ap (λ (n : ℕ). marked journal family ends key n to) (sym joined.0) ∙ marked_parts journal family ends key table.from table.to to flats.0.range upper in
        same_trans (gathered_of cuts to key (table ∷ tables)) (gathered_of cuts to key tables ++ map (moved cuts to) (firsts None (marked journal family (ends_of table.bottom.cuts table.to) key table.from table.to))) (marked journal family ends key low to)
        (same_refl (gathered_of cuts to key (table ∷ tables)) (gathered_of cuts to key tables ++ map (moved cuts to) (firsts None (marked journal family (ends_of table.bottom.cuts table.to) key table.from table.to))) split)
        (same_trans (gathered_of cuts to key tables ++ map (moved cuts to) (firsts None (marked journal family (ends_of table.bottom.cuts table.to) key table.from table.to))) (marked journal family ends key table.to to ++ marked journal family ends key table.from table.to) (marked journal family ends key low to)
        (same_join (gathered_of cuts to key tables) (marked journal family ends key table.to to) (map (moved cuts to) (firsts None (marked journal family (ends_of table.bottom.cuts table.to) key table.from table.to))) (marked journal family ends key table.from table.to)
        (above_same table.to tables (omega (arith, begins, flats.0.range)) plain.1 clear.1 flats.1 joined.1)
        (own_same table flats.0 clear.0 begins upper))
        (same_refl (marked journal family ends key table.to to ++ marked journal family ends key table.from table.to) (marked journal family ends key low to) (sym parts)))

    -- ---- the whole

    alone : (xs ys : List Kept) → SameFirsts xs ys → firsts None xs ≡ firsts None ys
    alone xs ys same = ap (firsts None) (sym (append-nil xs)) ∙ same None [] ∙ ap (firsts None) (append-nil ys)

    whole : (last : Bool) (tables : List Table) → NoneLast (drop 1 tables) → (last ≡ false → NoneLast tables)
        → EachClear cuts tables → AreFlats journal family tables → Joined from tables to
        → stays last (firsts None (gathered_of cuts to key tables)) ≡ stays last (firsts None (marked journal family ends key from to))
    whole last [] above plain clear flats joined =
        ap (stays last) (alone (gathered_of cuts to key []) (marked journal family ends key from to) (above_same from [] (omega arith) tt tt tt joined))
    whole last (table ∷ tables) above plain clear flats joined =
        let upper : table.to ≤ to = up_to journal family table.to tables flats.1 joined.1 in
        let begins : from ≤ table.from = omega (arith, joined.0) in
        let mine = firsts None (marked journal family (ends_of table.bottom.cuts table.to) key table.from table.to) in
        let front = gathered_of cuts to key tables in
        let parts : marked journal family ends key from to ≡ marked journal family ends key table.to to ++ marked journal family ends key table.from table.to =
        ap (λ (n : ℕ). marked journal family ends key n to) (sym joined.0) ∙ marked_parts journal family ends key table.from table.to to flats.0.range upper in
        ap (λ (l : List Kept). stays last (firsts None l)) (gathered_more cuts to key table tables ∙ ap (λ (l : List Kept). front ++ map (moved cuts to) l) (own_rows table flats.0))
        ∙ oldest_stays cuts to last table.bottom.last front mine (λ e. (plain e).0)
        ∙ ap (stays last) (alone (front ++ map (moved cuts to) mine) (marked journal family ends key table.to to ++ marked journal family ends key table.from table.to)
        (same_join front (marked journal family ends key table.to to) (map (moved cuts to) mine) (marked journal family ends key table.from table.to)
        (above_same table.to tables (omega (arith, begins, flats.0.range)) above clear.1 flats.1 joined.1)
        (own_same table flats.0 clear.0 begins upper)) ∙ ap (firsts None) (sym parts))

pub merged_flat : (journal : List Write) (family from to : ℕ) (bottom : Bottom) (tables : List Table) (rows : List Kept)
    → AreCuts from to bottom.cuts → NoneLast (drop 1 tables) → (bottom.last ≡ false → NoneLast tables)
    → EachClear bottom.cuts tables → AreFlats journal family tables → Joined from tables to
    → IsMergeOf tables to bottom rows → IsFlat journal family from to bottom rows
merged_flat journal family from to bottom tables rows are above plain clear flats joined merged =
    let le : from ≤ to = up_to from to bottom.cuts are.ascend journal family from tables flats joined in
    let writes = range_of journal family from to in
    let fit : from + length writes ≤ to = range_fit journal family from to le in
    flat_of_keys from to bottom writes rows are fit merged.rises (λ key.
    merged_key tables to bottom rows merged key
    ∙ whole from to bottom.cuts are.ascend journal family key bottom.last tables above plain clear flats joined
    ∙ ap (stays bottom.last) (sym (newest_firsts from to bottom.cuts are.ascend writes fit key)))

-- ---- the ends of joined ranges

last_is : (from to : ℕ) (table : Table) (tables : List Table) (d : Table) → Joined from tables to → table.to ≡ from
    → (get_or (table ∷ tables) (length (table ∷ tables) - 1) d).to ≡ to
last_is from to table [] d joined e = e ∙ joined
last_is from to table (next ∷ tables) d joined e =
    let less : length (table ∷ next ∷ tables) - 1 ≡ suc (length (next ∷ tables) - 1) = omega arith in
    ap (λ (n : ℕ). (get_or (table ∷ next ∷ tables) n d).to) less ∙ last_is next.to to next tables d joined.1 refl

-- the first table begins where the joined range does, and the last ends there
pub ends_are : (from to : ℕ) (tables : List Table) (a b : Table) → 1 ≤ length tables → Joined from tables to
    → (from ≡ (get_or tables 0 a).from) × (to ≡ (get_or tables (length tables - 1) b).to)
ends_are from to [] a b le joined = absurd (omega (arith, le))
ends_are from to (table ∷ tables) a b le joined = (sym joined.0, sym (last_is table.to to table tables b joined.1 refl))

-- the range of the first table's begin and the last one's end, with the cuts
pub joined_ends : (cuts : List ℕ) (tables : List Table) (a b : Table) → 1 ≤ length tables → JoinedWith cuts tables
    → Joined (get_or tables 0 a).from tables (get_or tables (length tables - 1) b).to × AreCuts (get_or tables 0 a).from (get_or tables (length tables - 1) b).to cuts
joined_ends cuts tables a b le joined =
    let e = ends_are joined.0 joined.1 tables a b le joined.2 in
    subst (λ (p : ℕ × ℕ). Joined p.0 tables p.1 × AreCuts p.0 p.1 cuts) (λ i. (e.0 i, e.1 i)) (joined.2, joined.3)

-- what the steps of a merge leave
pub merged_as : (tables : List Table) (to : ℕ) (bottom : Bottom) (cuts : List ℕ) (gathered sorted rows : List Kept)
    → cuts ≡ bottom.cuts → gathered ≡ map (moved cuts to) (newest_rows tables) → InOrder gathered sorted
    → rows ≡ thinned bottom.last (dedup same_place sorted) → IsMergeOf tables to bottom rows
merged_as tables to bottom cuts gathered sorted rows e is order left =
    subst (IsMergeOf tables to bottom) (sym left)
    (merged_rows tables to bottom sorted (subst (λ (l : List Kept). InOrder l sorted) (is ∙ ap (λ (k : List ℕ). map (moved k to) (newest_rows tables)) e) order))
