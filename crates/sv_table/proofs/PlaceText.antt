-- The places of a file's rows.
use Rattle.std.proofs.Common.{◌≡◌, ℕ, zero, suc, ◌+◌, ◌-◌, ◌<◌, ◌≤◌, Bool, true, false, not, ◌||◌, nat_le, nat_lt, List, [], ◌∷◌, ◌++◌, length, get_or, take, drop, Some, None, Ok, refl, sym, ap, subst, ◌∙◌, append_assoc, arith}
use Rattle.std.specs.Prelude.{option_map}
use Rattle.std.proofs.lemmas.Bool.{and_parts, and_from}
use Rattle.std.proofs.lemmas.List.{drop_at, take_all, take-append-drop, length-append, length-drop}
use Rattle.std.specs.List.Sorted.{IsPartitionPoint}
use Rattle.sv_model.specs.declared.writes.Kept.{Kept}
use Rattle.sv_model.specs.declared.writes.Op.TheVariants.{Delete}
use Rattle.sv_model.specs.Journal.{same_key, is_delete}
use Rattle.sv_model.specs.Order.{OrderedBy, is_ahead, key_of_kept, end_of_kept}
use Rattle.sv_model.specs.TableText.{Format, One, Two, Three}
use Rattle.sv_model.specs.TableTextFields.{is_length, Shape, Seen, start, key_fits, delete_fits}
use Rattle.sv_model.proofs.KeyOrder.{not_true}
use Rattle.sv_model.proofs.SearchLaws.{parted, found, found_other, found_past}
use Rattle.sv_table.specs.Lookups.{op_upto}
use Rattle.sv_table.specs.Places.{Stands, HasRowAt, ArePlaces, HasPlaces}
use Rattle.sv_table.specs.Reading.{Header, Entry, shape_of, entry_at, kept_of}
use Rattle.sv_table.proofs.OneField.{IsBytes, bytes_rest}
use Rattle.sv_table.proofs.FieldRuns.{ok_is}
use Rattle.sv_table.proofs.RowText.{NumberFits, EntryFits, entry_spells}

-- ---- a row read as a first one

first_key : (format : Format) (last : Bool) (cuts : ℕ) (k : List ℕ) → is_length (length k) ≡ true → key_fits (record { format = format; last = last; cuts = cuts }) start k ≡ true
first_key format last cuts [] e = let clash : false ≡ true = e in absurd (cc clash)
first_key One last cuts (b ∷ k) e = refl
first_key Two last cuts (b ∷ k) e = refl
first_key Three true cuts (b ∷ k) e = refl
first_key Three false cuts (b ∷ k) e = refl

first_number : (shape : Shape) (format : Format) (seen : Seen) (k : List ℕ) (n : ℕ) → is_length (length k) ≡ true → NumberFits shape format seen k n → NumberFits shape format start k n
first_number shape format seen [] n e f = let clash : false ≡ true = e in absurd (cc clash)
first_number shape One seen (b ∷ k) n e f = f
first_number shape Two seen (b ∷ k) n e f = f
first_number shape Three seen (b ∷ k) n e f = and_from (nat_le n shape.cuts) true (and_parts (nat_le n shape.cuts) (not (same_key seen.key (b ∷ k)) || nat_lt n seen.number) f).0 refl

first_mark : (format : Format) (last : Bool) (cuts left : ℕ) (d : Bool) → (not d || delete_fits (record { format = format; last = last; cuts = cuts }) left) ≡ true → (not d || delete_fits (record { format = format; last = last; cuts = cuts }) 1) ≡ true
first_mark One last cuts left d f = f
first_mark Two last cuts left d f = f
first_mark Three last cuts left false f = refl
first_mark Three true cuts left true f = refl
first_mark Three false cuts left true f = refl

first_fits : (shape : Shape) (left : ℕ) (seen : Seen) (e : Entry) → EntryFits shape left seen e → EntryFits shape 1 start e
first_fits shape left seen e f = record {
  key = (f.key.0, first_key shape.format shape.last shape.cuts e.key f.key.0, f.key.2);
  number = first_number shape shape.format seen e.key e.number f.key.0 f.number;
  op = (f.op.0, first_mark shape.format shape.last shape.cuts left (is_delete e.op) f.op.1);
}

-- the bytes before, and those that are left
pub record Rests (bytes rest : List ℕ) : Type 0 where
  pub front : List ℕ
  pub parts : bytes ≡ front ++ rest

pub place_within : (bytes rest : List ℕ) → Rests bytes rest → length rest ≤ length bytes
place_within bytes rest r = omega (arith, ap length r.parts, length-append r.front rest)

drop_place : (bytes rest : List ℕ) (r : Rests bytes rest) → drop (length bytes - length rest) bytes ≡ rest
drop_place bytes rest r =
    let at : length r.front ≡ length bytes - length rest = omega (arith, ap length r.parts, length-append r.front rest) in
    ap (drop (length bytes - length rest)) r.parts ∙ drop_at r.front rest (length bytes - length rest) at

pub rests_more : (bytes rest text after : List ℕ) → Rests bytes rest → rest ≡ text ++ after → Rests bytes after
rests_more bytes rest text after r e = record { front = r.front ++ text; parts = r.parts ∙ ap (λ (z : List ℕ). r.front ++ z) e ∙ sym (append_assoc r.front text after) }

-- the row that was read stands at its place
pub stands : (h : Header) (left : ℕ) (seen : Seen) (bytes rest : List ℕ) (e : Entry) (after : List ℕ) → Rests bytes rest → IsBytes rest → entry_at (shape_of h) left seen rest ≡ Ok (e, after)
    → Stands h bytes (length bytes - length rest) (kept_of h e)
stands h left seen bytes rest e after r fits is =
    let shape = shape_of h in
    let t = (entry_spells shape left seen).takes rest (e, after) fits is in
    record {
      entry = e;
      rest = after;
      within = omega arith;
      reads = ap (entry_at shape 1 start) (drop_place bytes rest r ∙ t.parts) ∙ (entry_spells shape 1 start).again e after (first_fits shape left seen e t.fits);
      is = refl;
    }

module _ (h : Header) (bytes : List ℕ) where
  pub are_more : (places : List ℕ) (rows : List Kept) (p : ℕ) (r : Kept) → ArePlaces h bytes places rows → Stands h bytes p r → ArePlaces h bytes (places ++ p ∷ []) (rows ++ r ∷ [])
  are_more [] [] p r a s = (s, tt)
  are_more [] (x ∷ rows) p r a s = absurd a
  are_more (q ∷ places) [] p r a s = absurd a
  are_more (q ∷ places) (x ∷ rows) p r a s = (a.0, are_more places rows p r a.1 s)

  pub as_many : (places : List ℕ) (rows : List Kept) → ArePlaces h bytes places rows → length rows ≡ length places
  as_many [] [] a = refl
  as_many [] (x ∷ rows) a = absurd a
  as_many (q ∷ places) [] a = absurd a
  as_many (q ∷ places) (x ∷ rows) a = ap suc (as_many places rows a.1)

  pub stands_at : (places : List ℕ) (rows : List Kept) (i : ℕ) (d : Kept) → ArePlaces h bytes places rows → i < length places → Stands h bytes (get_or places i 0) (get_or rows i d)
  stands_at [] [] i d a lt = absurd (omega arith)
  stands_at [] (x ∷ rows) i d a lt = absurd a
  stands_at (q ∷ places) [] i d a lt = absurd a
  stands_at (q ∷ places) (x ∷ rows) zero d a lt = a.0
  stands_at (q ∷ places) (x ∷ rows) (suc i) d a lt = stands_at places rows i d a.1 (omega arith)

  pub row_at : (places : List ℕ) (i : ℕ) → HasPlaces h bytes places → i < length places → HasRowAt h bytes (get_or places i 0)
  row_at places i p lt =
      let none : Kept = record { end = 0; row = record { key = []; op = Delete } } in
      record { row = get_or p.rows i none; stands = stands_at places p.rows i none p.are lt }

pub bytes_from : (p : ℕ) (bytes : List ℕ) → IsBytes bytes → IsBytes (drop p bytes)
bytes_from p bytes fits = bytes_rest (take p bytes) (drop p bytes) (subst IsBytes (sym (take-append-drop p bytes)) fits)

pub same_row : (h : Header) (bytes : List ℕ) (place : ℕ) (e : Entry) (after : List ℕ) → entry_at (shape_of h) 1 start (drop place bytes) ≡ Ok (e, after) → (r : Kept) → Stands h bytes place r → kept_of h e ≡ r
same_row h bytes place e after is r s =
    let one : Entry × List ℕ = (e, after) in
    let two : Entry × List ℕ = (s.entry, s.rest) in
    ap (λ (z : Entry × List ℕ). kept_of h z.0) (ok_is one two (sym is ∙ s.reads)) ∙ s.is

-- ---- the search

module _ (h : Header) (bytes places key : List ℕ) (cut : ℕ) where
  abbrev ahead : Kept → Bool
  ahead r = is_ahead key_of_kept end_of_kept key cut r

  pub record Narrowed (low high : ℕ) : Type 0 where
    pub order : low ≤ high
    pub within : high ≤ length places
    pub below : (rows : List Kept) → ArePlaces h bytes places rows → OrderedBy key_of_kept end_of_kept rows → (k : ℕ) (d : Kept) → k < low → ahead (get_or rows k d) ≡ true
    pub above : (rows : List Kept) → ArePlaces h bytes places rows → OrderedBy key_of_kept end_of_kept rows → (k : ℕ) (d : Kept) → high ≤ k → k < length rows → ahead (get_or rows k d) ≡ false

  pub at_first : Narrowed 0 (length places)
  at_first = record {
    order = omega arith;
    within = omega arith;
    below = λ rows a o k d lt. absurd (omega arith);
    above = λ rows a o k d le lt. absurd (omega (arith, as_many h bytes places rows a));
  }

  module _ (low high middle : ℕ) (le : low ≤ middle) (lt : middle < high) (n : Narrowed low high) (row : Kept) (is : (r : Kept) → Stands h bytes (get_or places middle 0) r → row ≡ r) where
    here : (rows : List Kept) → ArePlaces h bytes places rows → (d : Kept) → row ≡ get_or rows middle d
    here rows a d = is (get_or rows middle d) (stands_at h bytes places rows middle d a (omega (arith, n.within)))

    pub goes_up : ahead row ≡ true → Narrowed (middle + 1) high
    goes_up e = record {
      order = omega arith;
      within = n.within;
      below = λ rows a o k d less.
          let more : middle < length rows = omega (arith, as_many h bytes places rows a, n.within) in
          parted key_of_kept end_of_kept key cut rows o k middle d (omega arith) more (ap ahead (sym (here rows a d)) ∙ e);
      above = n.above;
    }

    pub goes_down : ahead row ≡ false → Narrowed low middle
    goes_down e = record {
      order = le;
      within = omega (arith, n.within);
      below = n.below;
      above = λ rows a o k d over less.
          not_true (ahead (get_or rows k d)) (λ yes'.
          let so = parted key_of_kept end_of_kept key cut rows o middle k d over less yes' in
          let clash : true ≡ false = sym so ∙ ap ahead (sym (here rows a d)) ∙ e in
          absurd (cc clash));
    }

-- what a slice to the end has
pub slice_rest : (p : ℕ) (bytes : List ℕ) → take (length bytes - p) (drop p bytes) ≡ drop p bytes
slice_rest p bytes = take_all (length bytes - p) (drop p bytes) (omega (arith, length-drop p bytes))

-- ---- the answer

module _ (h : Header) (bytes places key : List ℕ) (cut at : ℕ) where
  abbrev IsFront : List Kept → Type 0
  IsFront rows = IsPartitionPoint (λ r. is_ahead key_of_kept end_of_kept key cut r ≡ true) (λ r. is_ahead key_of_kept end_of_kept key cut r ≡ false) rows at

  pub past_all : at ≡ length places → (rows : List Kept) → ArePlaces h bytes places rows → IsFront rows → None ≡ op_upto key cut rows
  past_all e rows a p =
      let many = as_many h bytes places rows a in
      ap (option_map (λ (r : Kept). r.row.op)) (sym (found_past key_of_kept end_of_kept key cut rows (λ k d lt. p.0 k d (omega arith) (omega (arith, many)))))

  module _ (lt : at < length places) (row : Kept) (is : (r : Kept) → Stands h bytes (get_or places at 0) r → row ≡ r) where
    pub found_row : same_key key row.row.key ≡ true → (rows : List Kept) → ArePlaces h bytes places rows → IsFront rows → Some row.row.op ≡ op_upto key cut rows
    found_row same rows a p =
        let inside : at < length rows = omega (arith, as_many h bytes places rows a) in
        let this : row ≡ get_or rows at row = is (get_or rows at row) (stands_at h bytes places rows at row a lt) in
        ap (λ (r : Kept). Some r.row.op) this
        ∙ ap (option_map (λ (r : Kept). r.row.op)) (sym (found key_of_kept end_of_kept key cut rows at row inside (λ k d less. p.0 k d (omega arith) less) (p.1 at row (omega arith) inside) (ap (λ (r : Kept). same_key key r.row.key) (sym this) ∙ same)))

    pub missed_row : same_key key row.row.key ≡ false → (rows : List Kept) → ArePlaces h bytes places rows → OrderedBy key_of_kept end_of_kept rows → IsFront rows → None ≡ op_upto key cut rows
    missed_row other rows a o p =
        let inside : at < length rows = omega (arith, as_many h bytes places rows a) in
        let this : row ≡ get_or rows at row = is (get_or rows at row) (stands_at h bytes places rows at row a lt) in
        ap (option_map (λ (r : Kept). r.row.op)) (sym (found_other key_of_kept end_of_kept key cut rows at row o inside (λ k d less. p.0 k d (omega arith) less) (p.1 at row (omega arith) inside) (ap (λ (r : Kept). same_key key r.row.key) (sym this) ∙ other)))
