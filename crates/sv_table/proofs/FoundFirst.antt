-- What the first row of a key does, over the rows as they are read.
use Rattle.std.proofs.Common.{◌≡◌, ℕ, ◌+◌, ◌-◌, ◌≤◌, ◌<◌, Bool, true, false, cond, ◌&&◌, nat_le, List, [], ◌∷◌, map, Option, Some, None, Result, Ok, Err, refl, sym, ap, ◌∙◌}
use Rattle.std.specs.Prelude.{option_map}
use Rattle.sv_model.specs.declared.writes.Kept.{Kept}
use Rattle.sv_model.specs.declared.writes.Op.{Op}
use Rattle.sv_model.specs.Journal.{same_key}
use Rattle.sv_model.specs.Order.{first_upto, key_of_kept, end_of_kept}
use Rattle.sv_model.specs.TableTextFields.{Shape, Seen}
use Rattle.sv_table.specs.Lookups.{found_in, found_then, hit_here}
use Rattle.sv_table.specs.Reading.{◌>>=◌, Header, Entry, entry_at, kept_of}
use Rattle.sv_table.proofs.ItemLoops.{Succeeds, rest_at, next_at, row_stands, rows_end}

nothing_more : (found : Option Op) → found_then found None ≡ found
nothing_more None = refl
nothing_more (Some op) = refl

here : (b : Bool) (r : Kept) (later : Option Kept)
    → found_then (cond b (Some r.row.op) None) (option_map (λ (x : Kept). x.row.op) later)
    ≡ option_map (λ (x : Kept). x.row.op) (cond b (Some r) later)
here true r later = refl
here false r later = refl

module _ (h : Header) (key : List ℕ) (cut : ℕ) where
  one_more : (found : Option Op) (e : Entry) (read : Result (List Entry × List ℕ) ℕ) → Succeeds read
      → found_then (found_then found (hit_here h key cut e)) (found_in h key cut read)
      ≡ found_then found (found_in h key cut (read >>= λ others. Ok (e ∷ others.0, others.1)))
  one_more (Some op) e read s = refl
  one_more None e (Ok x) s =
      here (same_key key e.key && nat_le (kept_of h e).end cut) (kept_of h e)
      (first_upto key_of_kept end_of_kept key cut (map (kept_of h) x.0))
  one_more None e (Err left) s = let clash : Err left ≡ Ok s.value = s.is in absurd (cc clash)

  module _ (shape : Shape) (count i : ℕ) (seen : Seen) (bytes : List ℕ) (found total : Option Op)
      (so_far : Succeeds (rest_at shape count i seen bytes)
      → found_then found (found_in h key cut (rest_at shape count i seen bytes)) ≡ total) where
    pub first_goes : (e : Entry) (after : List ℕ) → i < count
        → entry_at shape (count - 1 - i) seen bytes ≡ Ok (e, after)
        → Succeeds (next_at shape count i seen bytes e after)
        → found_then (found_then found (hit_here h key cut e)) (found_in h key cut (next_at shape count i seen bytes e after))
        ≡ total
    first_goes e after lt is s =
        let stands = row_stands shape count i seen bytes e after lt is in
        one_more found e (next_at shape count i seen bytes e after) s
        ∙ ap (λ (r : Result (List Entry × List ℕ) ℕ). found_then found (found_in h key cut r)) (sym stands)
        ∙ so_far (record {
          value = (e ∷ s.value.0, s.value.1);
          is = stands ∙ ap (λ (r : Result (List Entry × List ℕ) ℕ). r >>= λ others. Ok (e ∷ others.0, others.1)) s.is;
        })

    pub first_done : count ≤ i → found ≡ total
    first_done le =
        let stands = rows_end shape count i seen bytes le in
        sym (nothing_more found)
        ∙ ap (λ (r : Result (List Entry × List ℕ) ℕ). found_then found (found_in h key cut r)) (sym stands)
        ∙ so_far (record { value = ([], bytes); is = stands })
