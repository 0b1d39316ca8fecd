-- The definitions at four small files.
use Rattle.std.proofs.Common.{◌≡◌, ℕ, Bool, true, false, List, [], ◌∷◌, refl, Ok, Err, Result, take}
use Rattle.sv_model.specs.declared.writes.Kept.{Kept}
use Rattle.sv_model.specs.declared.writes.Op.TheVariants.{Put}
use Rattle.sv_model.specs.declared.cuts.Bottom.{Bottom}
use Rattle.sv_model.specs.TableText.{table_text}
use Rattle.sv_table.specs.Reading.{◌>>=◌, header_at, entries_in, kept_in, file_at, format_at, range_at, bottom_at, entries_at, entry_at, key_at, end_at, op_at, value_at, tail_at, exact_key_at, each_cut_at, some_cuts_at}

abbrev bottom : Bool → List ℕ → Bottom
bottom last cuts = record { last = last; cuts = cuts }

abbrev put : ℕ → ℕ → Kept
put end value = record { end = end; row = record { key = 97 ∷ []; op = Put (value ∷ []) } }

abbrev rows_in : List ℕ → Result (List Kept) ℕ
rows_in bytes = file_at bytes >>= λ x. kept_in x.0 (entries_in x.0 x.1)

abbrev bytes_35 : List ℕ
bytes_35 = 83 ∷ 86 ∷ 84 ∷ 65 ∷ 66 ∷ 76 ∷ 69 ∷ 49 ∷ 0 ∷ 0 ∷ 0 ∷ 0 ∷ 0 ∷ 0 ∷ 0 ∷ 0 ∷ 1 ∷ 0 ∷ 0 ∷ 0 ∷ 0 ∷ 0 ∷ 0 ∷ 0 ∷ 0 ∷ 1 ∷ 0 ∷ 0 ∷ 0 ∷ 1 ∷ 97 ∷ 1 ∷ 1 ∷ 0 ∷ 49 ∷ []

abbrev bytes_39 : List ℕ
bytes_39 = 83 ∷ 86 ∷ 84 ∷ 65 ∷ 66 ∷ 76 ∷ 69 ∷ 50 ∷ 0 ∷ 0 ∷ 0 ∷ 0 ∷ 0 ∷ 0 ∷ 0 ∷ 0 ∷ 1 ∷ 0 ∷ 0 ∷ 0 ∷ 0 ∷ 0 ∷ 0 ∷ 0 ∷ 1 ∷ 1 ∷ 0 ∷ 0 ∷ 0 ∷ 1 ∷ 97 ∷ 1 ∷ 1 ∷ 0 ∷ 49 ∷ 1 ∷ 97 ∷ 1 ∷ 97 ∷ []

abbrev bytes_29 : List ℕ
bytes_29 = 83 ∷ 86 ∷ 84 ∷ 65 ∷ 66 ∷ 76 ∷ 69 ∷ 50 ∷ 0 ∷ 0 ∷ 0 ∷ 0 ∷ 0 ∷ 0 ∷ 0 ∷ 0 ∷ 1 ∷ 0 ∷ 0 ∷ 0 ∷ 0 ∷ 0 ∷ 0 ∷ 0 ∷ 1 ∷ 0 ∷ 0 ∷ 0 ∷ 0 ∷ []

abbrev bytes_52 : List ℕ
bytes_52 = 83 ∷ 86 ∷ 84 ∷ 65 ∷ 66 ∷ 76 ∷ 69 ∷ 51 ∷ 0 ∷ 0 ∷ 0 ∷ 0 ∷ 0 ∷ 0 ∷ 0 ∷ 0 ∷ 2 ∷ 0 ∷ 0 ∷ 0 ∷ 0 ∷ 0 ∷ 0 ∷ 0 ∷ 0 ∷ 1 ∷ 1 ∷ 0 ∷ 0 ∷ 0 ∷ 0 ∷ 0 ∷ 0 ∷ 0 ∷ 2 ∷ 0 ∷ 0 ∷ 0 ∷ 1 ∷ 97 ∷ 1 ∷ 1 ∷ 1 ∷ 0 ∷ 50 ∷ 1 ∷ 97 ∷ 0 ∷ 1 ∷ 1 ∷ 0 ∷ 49 ∷ []

plain : table_text 0 1 (bottom false []) (put 1 49 ∷ []) ≡ bytes_35
plain = refl

last : table_text 0 1 (bottom true []) (put 1 49 ∷ []) ≡ bytes_39
last = refl

empty : table_text 0 1 (bottom true []) [] ≡ bytes_29
empty = refl

cut : table_text 0 2 (bottom false (1 ∷ [])) (put 2 50 ∷ put 1 49 ∷ []) ≡ bytes_52
cut = refl

plain-reads : rows_in bytes_35 ≡ Ok (put 1 49 ∷ [])
unfolding header_at file_at format_at range_at bottom_at entries_at entry_at key_at end_at op_at value_at tail_at exact_key_at each_cut_at some_cuts_at
plain-reads = refl

last-reads : rows_in bytes_39 ≡ Ok (put 1 49 ∷ [])
unfolding header_at file_at format_at range_at bottom_at entries_at entry_at key_at end_at op_at value_at tail_at exact_key_at each_cut_at some_cuts_at
last-reads = refl

empty-reads : rows_in bytes_29 ≡ Ok ([])
unfolding header_at file_at format_at range_at bottom_at entries_at entry_at key_at end_at op_at value_at tail_at exact_key_at each_cut_at some_cuts_at
empty-reads = refl

cut-reads : rows_in bytes_52 ≡ Ok (put 2 50 ∷ put 1 49 ∷ [])
unfolding header_at file_at format_at range_at bottom_at entries_at entry_at key_at end_at op_at value_at tail_at exact_key_at each_cut_at some_cuts_at
cut-reads = refl

short : rows_in (take 38 bytes_39) ≡ Err 0
unfolding header_at file_at format_at range_at bottom_at entries_at entry_at key_at end_at op_at value_at tail_at exact_key_at each_cut_at some_cuts_at
short = refl

shorter : rows_in (take 51 bytes_52) ≡ Err 0
unfolding header_at file_at format_at range_at bottom_at entries_at entry_at key_at end_at op_at value_at tail_at exact_key_at each_cut_at some_cuts_at
shorter = refl
