-- Rows with the numbers of their ends, and rows with their ends: the rules of fields are those of a table.
use Rattle.std.proofs.Common.{◌≡◌, ℕ, suc, ◌≤◌, Bool, true, false, eqb, not, ◌&&◌, ◌||◌, nat_le, nat_lt, List, [], ◌∷◌, ◌++◌, length, map, refl, sym, ap, subst, ◌∙◌, arith, inl, inr}
use Rattle.std.specs.List.{flat_map, AllByRecursion}
use Rattle.std.proofs.lemmas.Bool.{leb-true, ltb-true, le-leb, ne_eqb, or_left, or_right, or_cases, and_parts, and_from}
use Rattle.std.proofs.lemmas.List.Concat.{flat_map-cons}
use Rattle.sv_model.specs.declared.writes.Kept.{Kept}
use Rattle.sv_model.specs.declared.writes.Op.{Op}
use Rattle.sv_model.specs.declared.writes.Op.TheVariants.{Put, Delete}
use Rattle.sv_model.specs.Journal.{same_key, is_delete}
use Rattle.sv_model.specs.Order.{is_below, comes_before, OrderedFrom, OrderedBy, key_of_kept, end_of_kept}
use Rattle.sv_model.specs.Flat.{ends_of, CutsFrom}
use Rattle.sv_model.specs.Lists.{In}
use Rattle.sv_model.specs.TableText.{Format, One, Two, Three, key_text, end_number, end_text, op_text, kept_text, last_key, range_text, covers, DeletesCover, IsStored}
use Rattle.sv_model.specs.TableTextFields.{has_cuts, is_length, Shape, Seen, start, first_key, key_fits, delete_fits}
use Rattle.sv_model.proofs.KeyOrder.{not_true, same_eq, above, below_other, not_back}
use Rattle.sv_table.specs.Reading.{Entry, see_entry, seen_after}
use Rattle.sv_table.proofs.EndNumbers.{end_of, end_back, end_in, end_rises, number_least, number_back, number_rises}
use Rattle.sv_table.proofs.RowText.{KeyFits, NumberFits, OpFits, EntriesFrom, entry_text, entries_text, tail_text}

abbrev before : Kept → Kept → Bool
before a b = comes_before key_of_kept end_of_kept a b

or_false : (a b : Bool) → a ≡ true → (not a || b) ≡ true → b ≡ true
or_false true b e h = h
or_false false b e h = absurd (cc e)

not_false : (a : Bool) → not a ≡ true → a ≡ false
not_false true e = absurd (cc e)
not_false false e = refl

module _ (last : Bool) (cuts : List ℕ) (from to : ℕ) (up : CutsFrom from cuts to) where
  abbrev pub shape : Format → Shape
  shape format = record { format = format; last = last; cuts = length cuts }

  abbrev pub kept : Entry → Kept
  kept e = record { end = end_of cuts to e.number; row = record { key = e.key; op = e.op } }

  pub number_within : (format : Format) (seen : Seen) (key : List ℕ) (n : ℕ) → NumberFits (shape format) format seen key n → n ≤ length cuts
  number_within One seen key n f = omega (arith, f)
  number_within Two seen key n f = omega (arith, f)
  number_within Three seen key n f = leb-true n (length cuts) (and_parts (nat_le n (length cuts)) (not (same_key seen.key key) || nat_lt n seen.number) f).0

  -- ---- the order

  module _ (s : Seen) (e x : Entry) where
    same_case : (same : Bool) → same_key e.key x.key ≡ same → e.number ≤ length cuts → is_below x.key e.key ≡ false → (not same || nat_lt x.number e.number) ≡ true → before (kept e) (kept x) ≡ true
    same_case true is le low less =
        or_right (is_below e.key x.key) (same_key e.key x.key && nat_lt (end_of cuts to x.number) (end_of cuts to e.number))
        (and_from (same_key e.key x.key) _ is (end_rises from to cuts x.number e.number up le less))
    same_case false is le low less = or_left (is_below e.key x.key) _ (above e.key x.key low is)

    comes : (format : Format) → e.number ≤ length cuts → KeyFits (shape format) (see_entry s e) x.key → NumberFits (shape format) format (see_entry s e) x.key x.number → before (kept e) (kept x) ≡ true
    comes One le k n = or_left (is_below e.key x.key) _ k.1
    comes Two le k n = or_left (is_below e.key x.key) _ k.1
    comes Three le k n =
        same_case (same_key e.key x.key) refl le
        (not_false (is_below x.key e.key) (and_parts (not (is_below x.key e.key)) (not (last && is_delete e.op) || same_key e.key x.key) k.1).0)
        (and_parts (nat_le x.number (length cuts)) (not (same_key e.key x.key) || nat_lt x.number e.number) n).1

  ordered_from : (format : Format) (s : Seen) (e : Entry) (entries : List Entry) → e.number ≤ length cuts → EntriesFrom (shape format) (see_entry s e) entries → OrderedFrom key_of_kept end_of_kept (kept e) (map kept entries)
  ordered_from format s e [] le f = tt
  ordered_from format s e (x ∷ entries) le f =
      (comes s e x format le f.0.key f.0.number, ordered_from format (see_entry s e) x entries (number_within format (see_entry s e) x.key x.number f.0.number) f.1)

  pub ordered : (format : Format) (s : Seen) (entries : List Entry) → EntriesFrom (shape format) s entries → OrderedBy key_of_kept end_of_kept (map kept entries)
  ordered format s [] f = tt
  ordered format s (e ∷ entries) f = ordered_from format s e entries (number_within format s e.key e.number f.0.number) f.1

  pub ends_stand : (format : Format) (s : Seen) (entries : List Entry) → EntriesFrom (shape format) s entries → AllByRecursion (λ r. In r.end (ends_of cuts to)) (map kept entries)
  ends_stand format s [] f = tt
  ends_stand format s (e ∷ entries) f =
      (end_in to cuts e.number (number_within format s e.key e.number f.0.number), ends_stand format (see_entry s e) entries f.1)

  length_bounds : (n : ℕ) → is_length n ≡ true → (1 ≤ n) × (n ≤ 64)
  length_bounds n e = let p = and_parts (nat_le 1 n) (nat_le n 64) e in (leb-true 1 n p.0, leb-true n 64 p.1)

  pub stored : (format : Format) (s : Seen) (entries : List Entry) → EntriesFrom (shape format) s entries → AllByRecursion (λ r. IsStored r.row) (map kept entries)
  stored format s [] f = tt
  stored format s (e ∷ entries) f =
      let b = length_bounds (length e.key) f.0.key.0 in
      (record { least = b.0; greatest = b.1; bytes = f.0.key.2; op = f.0.op.0 }, stored format (see_entry s e) entries f.1)

  -- ---- deletes

  abbrev entry : List ℕ → ℕ → Op → Entry
  entry k n op = record { key = k; number = n; op = op }

  no_delete : (format : Format) (left : ℕ) → last ≡ true → ((l : Bool) → l ≡ true → not (l && true) ≡ true → ⊥)
  no_delete format left is l e h = let clash : false ≡ true = subst (λ (b : Bool). not (b && true) ≡ true) e h in absurd (cc clash)

  covered : (format : Format) (s : Seen) (k : List ℕ) (n : ℕ) (op : Op) (entries : List Entry) → last ≡ true → OpFits (shape format) (length entries) op → EntriesFrom (shape format) (see_entry s (entry k n op)) entries
      → covers (kept (entry k n op)) (map kept entries) ≡ true
  covered format s k n (Put v) [] is f g = refl
  covered format s k n (Put v) (x ∷ entries) is f g = refl
  covered One s k n Delete entries is f g = absurd (no_delete One 0 is last is f.1)
  covered Two s k n Delete entries is f g = absurd (no_delete Two 0 is last is f.1)
  covered Three s k n Delete [] is f g = absurd (no_delete Three 0 is last is f.1)
  covered Three s k n Delete (x ∷ entries) is f g =
      let rule = (and_parts (not (is_below x.key k)) (not (last && true) || same_key k x.key) g.0.key.1).1 in
      or_false (last && true) (same_key k x.key) (and_from last true is refl) rule

  pub deletes_cover : (format : Format) (s : Seen) (entries : List Entry) → last ≡ true → EntriesFrom (shape format) s entries → DeletesCover (map kept entries)
  deletes_cover format s [] is f = tt
  deletes_cover format s (e ∷ entries) is f =
      (covered format s e.key e.number e.op entries is f.0.op f.1, deletes_cover format (see_entry s e) entries is f.1)

  -- ---- the texts

  same_end : (format : Format) (seen : Seen) (key : List ℕ) (n : ℕ) → NumberFits (shape format) format seen key n → end_number cuts (end_of cuts to n) ≡ n
  same_end format seen key n f = end_back from to cuts n up (number_within format seen key n f)

  pub texts_same : (format : Format) (s : Seen) (entries : List Entry) → EntriesFrom (shape format) s entries → flat_map (kept_text format cuts) (map kept entries) ≡ entries_text format entries
  texts_same format s [] f = refl
  texts_same format s (e ∷ entries) f =
      let one : kept_text format cuts (kept e) ≡ entry_text format e = ap (λ (n : ℕ). key_text e.key ++ (end_text format n ++ op_text e.op)) (same_end format s e.key e.number f.0.number) in
      flat_map-cons (kept_text format cuts) (kept e) (map kept entries)
      ∙ (λ i. one i ++ texts_same format (see_entry s e) entries f.1 i)
      ∙ sym (flat_map-cons (entry_text format) e entries)

  last_seen : (s : Seen) (entries : List Entry) → (seen_after s entries).key ≡ last_key s.key (map kept entries)
  last_seen s [] = refl
  last_seen s (e ∷ entries) = last_seen (see_entry s e) entries

  first_stays : (s : Seen) (b : ℕ) (bytes : List ℕ) (entries : List Entry) → s.first ≡ b ∷ bytes → (seen_after s entries).first ≡ b ∷ bytes
  first_stays s b bytes [] e = e
  first_stays s b bytes (x ∷ entries) e = first_stays (see_entry s x) b bytes entries (ap (λ (f : List ℕ). first_key f x.key) e)

  -- the range of the keys, by what was seen last
  abbrev range_after : Format → List Entry → List ℕ
  range_after format entries = tail_text format (seen_after start entries).first (seen_after start entries).key

  two_ranges : (k : List ℕ) (n : ℕ) (op : Op) (entries : List Entry) → is_length (length k) ≡ true → range_text Two (map kept (entry k n op ∷ entries)) ≡ range_after Two (entry k n op ∷ entries)
  two_ranges [] n op entries e = let clash : false ≡ true = e in absurd (cc clash)
  two_ranges (b ∷ k) n op entries e =
      let s : Seen = see_entry start (entry (b ∷ k) n op) in
      let first = first_stays s b k entries refl in
      let greatest = last_seen s entries in
      (λ i. tail_text Two (sym first i) (sym greatest i))

  pub ranges_same : (format : Format) (entries : List Entry) → EntriesFrom (shape format) start entries → range_text format (map kept entries) ≡ range_after format entries
  ranges_same One entries f = refl
  ranges_same Three entries f = refl
  ranges_same Two [] f = refl
  ranges_same Two (e ∷ entries) f = two_ranges e.key e.number e.op entries f.0.key.0

  -- ---- from a table's rows

  abbrev pub entry_of : Kept → Entry
  entry_of r = record { key = r.row.key; number = end_number cuts r.end; op = r.row.op }

  pub entries_back : (rows : List Kept) → AllByRecursion (λ r. In r.end (ends_of cuts to)) rows → map kept (map entry_of rows) ≡ rows
  entries_back [] f = refl
  entries_back (r ∷ rows) f =
      let one : kept (entry_of r) ≡ r = λ i. record { end = number_back from to cuts r.end up f.0 i; row = r.row } in
      (λ i. one i ∷ entries_back rows f.1 i)

-- ---- a table's rows meet the rules of fields

keeps : (l d same : Bool) → (l ≡ true → (not d || same) ≡ true) → (not (l && d) || same) ≡ true
keeps true d same h = h refl
keeps false d same h = refl

allows : (l b : Bool) → (l ≡ true → b ≡ false) → not (l && b) ≡ true
allows true b h = ap not (h refl)
allows false b h = refl

pub not_below_same : (a b : List ℕ) → same_key a b ≡ true → is_below b a ≡ false
not_below_same a b e = not_true (is_below b a) (λ low. below_other b a low (sym (same_eq a b e)))

not_same_below : (a b : List ℕ) → is_below a b ≡ true → same_key a b ≡ true → ⊥
not_same_below a b low same = below_other a b low (same_eq a b same)

module _ (last : Bool) (cuts : List ℕ) (from to : ℕ) (up : CutsFrom from cuts to) where
  abbrev pub Few : Format → Type 0
  Few One = length cuts ≡ 0
  Few Two = length cuts ≡ 0
  Few Three = Unit {0}

  abbrev Ends : Kept → Type 0
  Ends r = In r.end (ends_of cuts to)

  abbrev number_of : Kept → ℕ
  number_of r = end_number cuts r.end

  -- ---- a row after another

  module _ (p r : Kept) (p_ends : Ends p) (r_ends : Ends r) (order : before p r ≡ true) where
    same_less : same_key p.row.key r.row.key ≡ true → nat_lt (number_of r) (number_of p) ≡ true
    same_less same =
        elim (or_cases (is_below p.row.key r.row.key) (same_key p.row.key r.row.key && nat_lt r.end p.end) order) [
          | inl low ↦ absurd (not_same_below p.row.key r.row.key low same)
          | inr both ↦ number_rises from to cuts r.end p.end up r_ends p_ends (and_parts (same_key p.row.key r.row.key) (nat_lt r.end p.end) both).1
        ]

    plain_below : length cuts ≡ 0 → is_below p.row.key r.row.key ≡ true
    plain_below none =
        elim (or_cases (is_below p.row.key r.row.key) (same_key p.row.key r.row.key && nat_lt r.end p.end) order) [
          | inl low ↦ low
          | inr both ↦
              let less = ltb-true (number_of r) (number_of p) (same_less (and_parts (same_key p.row.key r.row.key) (nat_lt r.end p.end) both).0) in
              absurd (omega (arith, less, number_least cuts p.end))
        ]

    not_below : is_below r.row.key p.row.key ≡ false
    not_below =
        elim (or_cases (is_below p.row.key r.row.key) (same_key p.row.key r.row.key && nat_lt r.end p.end) order) [
          | inl low ↦ not_back p.row.key r.row.key low
          | inr both ↦ not_below_same p.row.key r.row.key (and_parts (same_key p.row.key r.row.key) (nat_lt r.end p.end) both).0
        ]

    key_rule : (format : Format) (s : Seen) → Few format → (last ≡ true → (not (is_delete p.row.op) || same_key p.row.key r.row.key) ≡ true) → key_fits (shape last cuts from to up format) (see_entry s (entry_of last cuts from to up p)) r.row.key ≡ true
    key_rule One s few cover = plain_below few
    key_rule Two s few cover = plain_below few
    key_rule Three s few cover = and_from (not (is_below r.row.key p.row.key)) _ (ap not not_below) (keeps last (is_delete p.row.op) (same_key p.row.key r.row.key) cover)

    less_case : (same : Bool) → same_key p.row.key r.row.key ≡ same → (not same || nat_lt (number_of r) (number_of p)) ≡ true
    less_case true e = same_less e
    less_case false e = refl

    number_rule : (format : Format) (s : Seen) → Few format → NumberFits (shape last cuts from to up format) format (see_entry s (entry_of last cuts from to up p)) r.row.key (number_of r)
    number_rule One s few = omega (arith, number_least cuts r.end)
    number_rule Two s few = omega (arith, number_least cuts r.end)
    number_rule Three s few = and_from (nat_le (number_of r) (length cuts)) _ (le-leb (number_of r) (length cuts) (number_least cuts r.end)) (less_case (same_key p.row.key r.row.key) refl)

  -- ---- the op

  module _ (k : List ℕ) (end : ℕ) where
    abbrev deleted : Kept
    deleted = record { end = end; row = record { key = k; op = Delete } }

    plain_delete : Few One → Ends deleted → (rows : List Kept) → AllByRecursion Ends rows → OrderedFrom key_of_kept end_of_kept deleted rows → covers deleted rows ≡ true → ⊥
    plain_delete few e [] es ord cover = let clash : false ≡ true = cover in absurd (cc clash)
    plain_delete few e (x ∷ rows) es ord cover = not_same_below k x.row.key (plain_below deleted x e es.0 ord.0 few) cover

    last_delete : (format : Format) → Few format → Ends deleted → (rows : List Kept) → AllByRecursion Ends rows → OrderedFrom key_of_kept end_of_kept deleted rows → covers deleted rows ≡ true
        → (not (has_cuts format) || eqb (length (map (entry_of last cuts from to up) rows)) 0) ≡ false
    last_delete One few e rows es ord cover = absurd (plain_delete few e rows es ord cover)
    last_delete Two few e rows es ord cover = absurd (plain_delete few e rows es ord cover)
    last_delete Three few e [] es ord cover = let clash : false ≡ true = cover in absurd (cc clash)
    last_delete Three few e (x ∷ rows) es ord cover = ne_eqb (suc (length (map (entry_of last cuts from to up) rows))) 0 (omega arith)

  op_rule : (format : Format) → Few format → (k : List ℕ) (end : ℕ) (op : Op) → Ends (record { end = end; row = record { key = k; op = op } }) → (rows : List Kept) → AllByRecursion Ends rows → OrderedFrom key_of_kept end_of_kept (record { end = end; row = record { key = k; op = op } }) rows
      → (last ≡ true → covers (record { end = end; row = record { key = k; op = op } }) rows ≡ true) → (not (is_delete op) || delete_fits (shape last cuts from to up format) (length (map (entry_of last cuts from to up) rows))) ≡ true
  op_rule format few k end (Put v) e rows es ord cover = refl
  op_rule format few k end Delete e rows es ord cover =
      allows last (not (has_cuts format) || eqb (length (map (entry_of last cuts from to up) rows)) 0) (λ is. last_delete k end format few e rows es ord (cover is))

  -- ---- the rows

  length_rule : (n : ℕ) → 1 ≤ n → n ≤ 64 → is_length n ≡ true
  length_rule n p q = and_from (nat_le 1 n) (nat_le n 64) (le-leb 1 n p) (le-leb n 64 q)

  fits_after : (format : Format) (s : Seen) (p : Kept) (rows : List Kept) → Few format → Ends p → AllByRecursion Ends rows → OrderedFrom key_of_kept end_of_kept p rows → (last ≡ true → DeletesCover (p ∷ rows)) → AllByRecursion (λ r. IsStored r.row) rows
      → EntriesFrom (shape last cuts from to up format) (see_entry s (entry_of last cuts from to up p)) (map (entry_of last cuts from to up) rows)
  fits_after format s p [] few e es ord cover st = tt
  fits_after format s p (r ∷ rows) few e es ord cover st = (
    record {
      key = (length_rule (length r.row.key) st.0.least st.0.greatest, key_rule p r e es.0 ord.0 format s few (λ is. (cover is).0), st.0.bytes);
      number = number_rule p r e es.0 ord.0 format s few;
      op = (st.0.op, op_rule format few r.row.key r.end r.row.op es.0 rows es.1 ord.1 (λ is. (cover is).1.0));
    },
    fits_after format (see_entry s (entry_of last cuts from to up p)) r rows few es.0 es.1 ord.1 (λ is. (cover is).1) st.1,
  )

  first_key_rule : (format : Format) (k : List ℕ) → 1 ≤ length k → key_fits (shape last cuts from to up format) start k ≡ true
  first_key_rule format [] le = absurd (omega arith)
  first_key_rule One (b ∷ k) le = refl
  first_key_rule Two (b ∷ k) le = refl
  first_key_rule Three (b ∷ k) le = keeps last false false (λ is. refl)

  first_number_rule : (format : Format) (k : List ℕ) (end : ℕ) → Few format → 1 ≤ length k → NumberFits (shape last cuts from to up format) format start k (end_number cuts end)
  first_number_rule format [] end few le = absurd (omega arith)
  first_number_rule One (b ∷ k) end few le = omega (arith, number_least cuts end)
  first_number_rule Two (b ∷ k) end few le = omega (arith, number_least cuts end)
  first_number_rule Three (b ∷ k) end few le = and_from (nat_le (end_number cuts end) (length cuts)) true (le-leb (end_number cuts end) (length cuts) (number_least cuts end)) refl

  pub entries_fit : (format : Format) (rows : List Kept) → Few format → AllByRecursion Ends rows → OrderedBy key_of_kept end_of_kept rows → (last ≡ true → DeletesCover rows) → AllByRecursion (λ r. IsStored r.row) rows
      → EntriesFrom (shape last cuts from to up format) start (map (entry_of last cuts from to up) rows)
  entries_fit format [] few es ord cover st = tt
  entries_fit format (r ∷ rows) few es ord cover st = (
    record {
      key = (length_rule (length r.row.key) st.0.least st.0.greatest, first_key_rule format r.row.key st.0.least, st.0.bytes);
      number = first_number_rule format r.row.key r.end few st.0.least;
      op = (st.0.op, op_rule format few r.row.key r.end r.row.op es.0 rows es.1 ord (λ is. (cover is).0));
    },
    fits_after format start r rows few es.0 es.1 ord cover st.1,
  )
