-- Reading items one after the other, as loops do.
use Rattle.std.proofs.Common.{◌≡◌, ℕ, suc, ◌-◌, ◌+◌, ◌≤◌, ◌<◌, Bool, true, false, cond, not, ◌&&◌, ◌||◌, nat_le, nat_lt, List, [], ◌∷◌, ◌++◌, length, map, Option, Some, None, Result, Ok, Err, refl, sym, ap, ◌∙◌, append_assoc, arith}
use Rattle.std.specs.Prelude.{option_map}
use Rattle.std.specs.Int.{w64}
use Rattle.std.proofs.lemmas.Bool.{leb-true, and_parts}
use Rattle.std.proofs.lemmas.List.{append-nil}
use Rattle.sv_model.specs.declared.writes.Kept.{Kept}
use Rattle.sv_model.specs.declared.writes.Op.{Op}
use Rattle.sv_model.specs.declared.writes.Op.TheVariants.{Put, Delete}
use Rattle.sv_model.specs.Journal.{same_key}
use Rattle.sv_model.specs.Order.{first_upto, key_of_kept, end_of_kept}
use Rattle.sv_model.specs.TableText.{Format, One, Two, Three, IsStoredOp}
use Rattle.sv_model.specs.TableTextFields.{is_cut, Shape, Seen, start}
use Rattle.sv_table.specs.Lookups.{found_in}
use Rattle.sv_table.specs.Reading.{◌>>=◌, Header, Entry, FitsMemory, checked, number_at, each_cut_at, entry_at, entries_at, shape_of, see_entry, walked, entries_in, kept_of, kept_in}
use Rattle.sv_table.proofs.OneField.{IsBytes}
use Rattle.sv_table.proofs.RowText.{NumberFits, entry_text, entry_spells}
use Rattle.sv_table.proofs.ReaderTexts.{bind_ok}

-- what was read before, and what is still read
abbrev pub with_front : {X : Type 0} → List X → Result (List X × List ℕ) ℕ → Result (List X × List ℕ) ℕ
with_front front read = read >>= λ x. Ok (front ++ x.0, x.1)

module _ {X : Type 0} where
  regroup : (front : List X) (x : X) (read : Result (List X × List ℕ) ℕ) → with_front front (read >>= λ y. Ok (x ∷ y.0, y.1)) ≡ with_front (front ++ x ∷ []) read
  regroup front x (Ok y) = ap (λ (l : List X). Ok (l, y.1)) (simp append_assoc)
  regroup front x (Err left) = refl

  nothing_before : (read : Result (List X × List ℕ) ℕ) → with_front [] read ≡ read
  nothing_before (Ok y) = refl
  nothing_before (Err left) = refl

-- ---- cuts

pub cuts_go : (front : List ℕ) (count i low to : ℕ) (bytes : List ℕ) (cut : ℕ) (after : List ℕ) (total : Result (List ℕ × List ℕ) ℕ) → i < count → checked (λ c. is_cut low to c) bytes (number_at w64 bytes) ≡ Ok (cut, after)
    → with_front front (each_cut_at (count - i) low to bytes) ≡ total → with_front (front ++ cut ∷ []) (each_cut_at (count - (i + 1)) cut to after) ≡ total
unfolding each_cut_at
cuts_go front count i low to bytes cut after total lt h so_far =
    let k : count - i ≡ suc (count - (i + 1)) = omega arith in
    let one : with_front front (each_cut_at (count - i) low to bytes) ≡ with_front (front ++ cut ∷ []) (each_cut_at (count - (i + 1)) cut to after) = rw (k, h) (regroup front cut (each_cut_at (count - (i + 1)) cut to after)) in
    sym one ∙ so_far

pub cuts_end : (front : List ℕ) (count i low to left : ℕ) (bytes : List ℕ) (total : Result (List ℕ × List ℕ) ℕ) → i < count → checked (λ c. is_cut low to c) bytes (number_at w64 bytes) ≡ Err left
    → with_front front (each_cut_at (count - i) low to bytes) ≡ total → total ≡ Err left
unfolding each_cut_at
cuts_end front count i low to left bytes total lt h so_far =
    let k : count - i ≡ suc (count - (i + 1)) = omega arith in
    let one : with_front front (each_cut_at (count - i) low to bytes) ≡ Err left = rw (k, h) refl in
    sym so_far ∙ one

pub cuts_done : (front : List ℕ) (count i low to : ℕ) (bytes : List ℕ) (total : Result (List ℕ × List ℕ) ℕ) → count ≤ i → with_front front (each_cut_at (count - i) low to bytes) ≡ total → total ≡ Ok (front, bytes)
unfolding each_cut_at
cuts_done front count i low to bytes total le so_far =
    let k : count - i ≡ 0 = omega arith in
    let one : with_front front (each_cut_at (count - i) low to bytes) ≡ Ok (front, bytes) = rw k (ap (λ (l : List ℕ). Ok (l, bytes)) (append-nil front)) in
    sym so_far ∙ one

-- ---- rows

module _ (shape : Shape) (count i : ℕ) (seen : Seen) (bytes : List ℕ) where
  abbrev pub rest_at : Result (List Entry × List ℕ) ℕ
  rest_at = entries_at shape (count - i) seen bytes

  abbrev pub next_at : Entry → List ℕ → Result (List Entry × List ℕ) ℕ
  next_at e after = entries_at shape (count - (i + 1)) (see_entry seen e) after

  -- one more row stands
  pub row_stands : (e : Entry) (after : List ℕ) → i < count → entry_at shape (count - 1 - i) seen bytes ≡ Ok (e, after) → rest_at ≡ (next_at e after >>= λ others. Ok (e ∷ others.0, others.1))
  unfolding entries_at
  row_stands e after lt h =
      let k : count - i ≡ suc (count - (i + 1)) = omega arith in
      let m : count - 1 - i ≡ count - (i + 1) = omega arith in
      rw (k, ← m, h) (rw m refl)

  pub row_fails : (left : ℕ) → i < count → entry_at shape (count - 1 - i) seen bytes ≡ Err left → rest_at ≡ Err left
  unfolding entries_at
  row_fails left lt h =
      let k : count - i ≡ suc (count - (i + 1)) = omega arith in
      let m : count - 1 - i ≡ count - (i + 1) = omega arith in
      rw (k, ← m, h) refl

  pub rows_end : count ≤ i → rest_at ≡ Ok ([], bytes)
  unfolding entries_at
  rows_end le =
      let k : count - i ≡ 0 = omega arith in
      rw k refl

-- what was seen, over the rows
module _ (shape : Shape) (count i : ℕ) (seen : Seen) (bytes : List ℕ) where
  walked_more : (e : Entry) (read : Result (List Entry × List ℕ) ℕ) → walked seen (read >>= λ others. Ok (e ∷ others.0, others.1)) ≡ walked (see_entry seen e) read
  walked_more e (Ok x) = refl
  walked_more e (Err left) = refl

  pub walk_goes : (e : Entry) (after : List ℕ) (total : Result (Seen × List ℕ) ℕ) → i < count → entry_at shape (count - 1 - i) seen bytes ≡ Ok (e, after)
      → walked seen (rest_at shape count i seen bytes) ≡ total → walked (see_entry seen e) (next_at shape count i seen bytes e after) ≡ total
  walk_goes e after total lt h so_far =
      sym (walked_more e (next_at shape count i seen bytes e after)) ∙ sym (ap (walked seen) (row_stands shape count i seen bytes e after lt h)) ∙ so_far

  pub walk_fails : (left : ℕ) (total : Result (Seen × List ℕ) ℕ) → i < count → entry_at shape (count - 1 - i) seen bytes ≡ Err left
      → walked seen (rest_at shape count i seen bytes) ≡ total → total ≡ Err left
  walk_fails left total lt h so_far = sym so_far ∙ ap (walked seen) (row_fails shape count i seen bytes left lt h)

  pub walk_done : (total : Result (Seen × List ℕ) ℕ) → count ≤ i → walked seen (rest_at shape count i seen bytes) ≡ total → total ≡ Ok (seen, bytes)
  walk_done total le so_far = sym so_far ∙ ap (walked seen) (rows_end shape count i seen bytes le)

-- something was read
pub record Succeeds {X : Type 0} (read : Result X ℕ) : Type 0 where
  pub value : X
  pub is : read ≡ Ok value

module _ (shape : Shape) (count i : ℕ) (seen : Seen) (bytes : List ℕ) where
  pub never_fails : (left : ℕ) → i < count → Succeeds (rest_at shape count i seen bytes) → entry_at shape (count - 1 - i) seen bytes ≡ Err left → ⊥
  never_fails left lt s h =
      let clash : Err left ≡ Ok s.value = sym (row_fails shape count i seen bytes left lt h) ∙ s.is in absurd (cc clash)

  pub goes_on : (e : Entry) (after : List ℕ) → i < count → entry_at shape (count - 1 - i) seen bytes ≡ Ok (e, after) → Succeeds (rest_at shape count i seen bytes) → Succeeds (next_at shape count i seen bytes e after)
  goes_on e after lt h s =
      let b = bind_ok (next_at shape count i seen bytes e after) (λ others. Ok (e ∷ others.0, others.1)) s.value (sym (row_stands shape count i seen bytes e after lt h) ∙ s.is) in
      record { value = b.0; is = b.1 }

-- the rows with their ends, those read before and those still read
abbrev pub kept_front : Header → List Kept → Result (List Entry × List ℕ) ℕ → Result (List Kept) ℕ
kept_front h front read = kept_in h read >>= λ rows. Ok (front ++ rows)

module _ (h : Header) (front : List Kept) where
  front_more : (e : Entry) (read : Result (List Entry × List ℕ) ℕ) → kept_front h front (read >>= λ others. Ok (e ∷ others.0, others.1)) ≡ kept_front h (front ++ kept_of h e ∷ []) read
  front_more e (Ok x) = ap (λ (l : List Kept). Ok l) (sym (append_assoc front (kept_of h e ∷ []) (map (kept_of h) x.0)))
  front_more e (Err left) = refl

  pub kept_goes : (shape : Shape) (count i : ℕ) (seen : Seen) (bytes : List ℕ) (e : Entry) (after : List ℕ) (total : Result (List Kept) ℕ) → i < count → entry_at shape (count - 1 - i) seen bytes ≡ Ok (e, after)
      → kept_front h front (rest_at shape count i seen bytes) ≡ total → kept_front h (front ++ kept_of h e ∷ []) (next_at shape count i seen bytes e after) ≡ total
  kept_goes shape count i seen bytes e after total lt is so_far =
      sym (front_more e (next_at shape count i seen bytes e after)) ∙ sym (ap (kept_front h front) (row_stands shape count i seen bytes e after lt is)) ∙ so_far

  pub kept_done : (shape : Shape) (count i : ℕ) (seen : Seen) (bytes : List ℕ) (total : Result (List Kept) ℕ) → count ≤ i → kept_front h front (rest_at shape count i seen bytes) ≡ total → total ≡ Ok front
  kept_done shape count i seen bytes total le so_far =
      sym so_far ∙ ap (kept_front h front) (rows_end shape count i seen bytes le) ∙ ap (λ (l : List Kept). Ok l) (append-nil front)

pub kept_begins : (h : Header) (read : Result (List Entry × List ℕ) ℕ) → kept_front h [] read ≡ kept_in h read
kept_begins h (Ok x) = refl
kept_begins h (Err left) = refl

-- what a key has in the rows still read
module _ (h : Header) (key : List ℕ) (cut : ℕ) where
  abbrev pub answers : Entry → Bool
  answers e = same_key key e.key && nat_le (kept_of h e).end cut

  found_more : (e : Entry) (read : Result (List Entry × List ℕ) ℕ) → answers e ≡ false → found_in h key cut (read >>= λ others. Ok (e ∷ others.0, others.1)) ≡ found_in h key cut read
  found_more e (Ok x) misses = ap (λ (b : Bool). option_map (λ r. r.row.op) (cond b (Some (kept_of h e)) (first_upto key_of_kept end_of_kept key cut (map (kept_of h) x.0)))) misses
  found_more e (Err left) misses = refl

  found_here : (e : Entry) (read : Result (List Entry × List ℕ) ℕ) → Succeeds read → answers e ≡ true → found_in h key cut (read >>= λ others. Ok (e ∷ others.0, others.1)) ≡ Some e.op
  found_here e (Ok x) s hits = ap (λ (b : Bool). option_map (λ r. r.row.op) (cond b (Some (kept_of h e)) (first_upto key_of_kept end_of_kept key cut (map (kept_of h) x.0)))) hits
  found_here e (Err left) s hits = let clash : Err left ≡ Ok s.value = s.is in absurd (cc clash)

  module _ (shape : Shape) (count i : ℕ) (seen : Seen) (bytes : List ℕ) where
    pub find_goes : (e : Entry) (after : List ℕ) (total : Option Op) → i < count → entry_at shape (count - 1 - i) seen bytes ≡ Ok (e, after) → answers e ≡ false
        → found_in h key cut (rest_at shape count i seen bytes) ≡ total → found_in h key cut (next_at shape count i seen bytes e after) ≡ total
    find_goes e after total lt is misses so_far =
        sym (found_more e (next_at shape count i seen bytes e after) misses) ∙ sym (ap (found_in h key cut) (row_stands shape count i seen bytes e after lt is)) ∙ so_far

    pub find_hits : (e : Entry) (after : List ℕ) (total : Option Op) → i < count → entry_at shape (count - 1 - i) seen bytes ≡ Ok (e, after) → Succeeds (rest_at shape count i seen bytes) → answers e ≡ true
        → found_in h key cut (rest_at shape count i seen bytes) ≡ total → Some e.op ≡ total
    find_hits e after total lt is s hits so_far =
        sym (found_here e (next_at shape count i seen bytes e after) (goes_on shape count i seen bytes e after lt is s) hits)
        ∙ sym (ap (found_in h key cut) (row_stands shape count i seen bytes e after lt is)) ∙ so_far

    pub find_ends : (total : Option Op) → count ≤ i → found_in h key cut (rest_at shape count i seen bytes) ≡ total → None ≡ total
    find_ends total le so_far = sym (ap (found_in h key cut) (rows_end shape count i seen bytes le)) ∙ so_far

-- ---- what a row that was read is

most : (shape : Shape) (format : Format) (seen : Seen) (key : List ℕ) (n : ℕ) → NumberFits shape format seen key n → n ≤ shape.cuts
most shape One seen key n f = omega (arith, f)
most shape Two seen key n f = omega (arith, f)
most shape Three seen key n f = leb-true n shape.cuts (and_parts (nat_le n shape.cuts) (not (same_key seen.key key) || nat_lt n seen.number) f).0

memory_fits : (op : Op) → IsStoredOp op → FitsMemory op
memory_fits (Put v) f = f.0
memory_fits Delete f = tt

pub record RowFacts (shape : Shape) (e : Entry) (bytes after : List ℕ) : Type 0 where
  pub least : 1 ≤ length e.key
  pub greatest : length e.key ≤ 64
  pub number : e.number ≤ shape.cuts
  pub op : FitsMemory e.op
  pub text : bytes ≡ entry_text shape.format e ++ after
  pub rest_fits : IsBytes after

pub row_facts : (shape : Shape) (left : ℕ) (seen : Seen) (bytes : List ℕ) (e : Entry) (after : List ℕ) → IsBytes bytes → entry_at shape left seen bytes ≡ Ok (e, after) → RowFacts shape e bytes after
row_facts shape left seen bytes e after fits is =
    let t = (entry_spells shape left seen).takes bytes (e, after) fits is in
    let p = and_parts (nat_le 1 (length e.key)) (nat_le (length e.key) 64) t.fits.key.0 in
    record {
      least = leb-true 1 (length e.key) p.0;
      greatest = leb-true (length e.key) 64 p.1;
      number = most shape shape.format seen e.key e.number t.fits.number;
      op = memory_fits e.op t.fits.op.0;
      text = t.parts;
      rest_fits = t.rest_fits;
    }

-- before the first row
pub begins : (h : Header) (shape : Shape) (seen : Seen) (bytes : List ℕ) → shape ≡ shape_of h → seen ≡ start → rest_at shape h.count 0 seen bytes ≡ entries_in h bytes
begins h shape seen bytes e f =
    let all : h.count - 0 ≡ h.count = omega arith in
    λ i. entries_at (e i) (all i) (f i) bytes

pub within_cuts : (h : Header) (shape : Shape) (e : Entry) (bytes after : List ℕ) → shape ≡ shape_of h → RowFacts shape e bytes after → e.number ≤ length h.bottom.cuts
within_cuts h shape e bytes after is f = omega (arith, f.number, ap (λ (s : Shape). s.cuts) is)
