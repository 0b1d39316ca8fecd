-- Where reading stops is the first bad field.
use Rattle.std.proofs.Common.{◌≡◌, ℕ, zero, suc, ◌-◌, ◌≤◌, Bool, true, false, cond, eqb, List, [], ◌∷◌, ◌++◌, length, take, drop, Result, Ok, Err, refl, sym, ap, subst, ◌∙◌, arith}
use Rattle.std.specs.Int.{w16, w32, w64, from_le_bytes}
use Rattle.std.specs.List.{concat}
use Rattle.std.proofs.lemmas.List.{take_at, length-append, length-drop, take-append-drop}
use Rattle.sv_model.specs.declared.writes.Op.{Op}
use Rattle.sv_model.specs.declared.writes.Op.TheVariants.{Put, Delete}
use Rattle.sv_model.specs.declared.cuts.Bottom.{Bottom}
use Rattle.sv_model.specs.Journal.{is_delete}
use Rattle.sv_model.specs.TableText.{Format, One, Two, Three}
use Rattle.sv_model.specs.TableTextFields.{format_of, has_cuts, Shape, Seen, start, see, Field, Magic, From, To, LastFlag, CutCount, Cut, Count, KeyLength, KeyBytes, EndNumber, OpMark, ValueLength, ValueBytes, LeastLength, LeastKey, GreatestLength, GreatestKey, End, byte, is_magic, is_cut, number_fits, next_cut, next_row, after_flag, after_key, after_rows, IsBadPlace}
use Rattle.sv_table.specs.Reading.{◌>>=◌, Header, Entry, shape_of, see_entry, seen_after, walked, entries_in, number_at, byte_at, checked, format_at, range_at, each_cut_at, some_cuts_at, bottom_at, header_at, key_at, end_at, value_at, op_at, entry_at, entries_at, exact_key_at, tail_at, ended, file_at}
use Rattle.sv_table.proofs.OneField.{Stuck, reads_number, reads_any_number, reads_bytes, reads_any_bytes, reads_byte}
use Rattle.sv_table.proofs.FieldRuns.{ok_is, Stops, Walks, stuck_stops, walks_field, walks_then, walks_done}
use Rattle.sv_table.proofs.ReaderTexts.{bind_ok}

-- the same run, told in another way
renamed : (field : Field) {X : Type 0} (next other : X → Field) (bytes : List ℕ) (read : Result (X × List ℕ) ℕ) → ((x : X) (rest : List ℕ) → read ≡ Ok (x, rest) → other x ≡ next x) → Walks field next bytes read → Walks field other bytes read
renamed field next other bytes read same w = record {
  fails = w.fails;
  goes = λ x rest e left s. w.goes x rest e left (subst (λ (f : Field). Stops f rest left) (same x rest e) s);
}

-- ---- the header

format_walks : (bytes : List ℕ) → Walks Magic (λ f. From f) bytes (format_at bytes)
unfolding format_at
format_walks bytes =
    walks_then Magic (λ m. From (format_of m)) (λ f. From f) bytes _ _ (walks_field Magic (λ t. t) (λ m. From (format_of m)) bytes _ (λ t. refl) (reads_bytes Magic 8 is_magic bytes refl (λ t. refl)))
    (λ m rest e. walks_done (λ f. From f) (format_of m) rest)

range_walks : (format : Format) (bytes : List ℕ) → Walks (From format) (λ r. LastFlag format r.0 r.1) bytes (range_at bytes)
unfolding range_at
range_walks format bytes =
    walks_then (From format) (λ from. To format from) _ bytes _ _ (walks_field (From format) (from_le_bytes w64) (λ from. To format from) bytes _ (λ t. refl) (reads_any_number (From format) w64 bytes refl (λ t. refl)))
    (λ from after_from e.
    walks_then (To format from) (λ to. LastFlag format from to) (λ (r : ℕ × ℕ). LastFlag format r.0 r.1) after_from _ _ (walks_field (To format from) (from_le_bytes w64) (λ to. LastFlag format from to) after_from _ (λ t. refl) (reads_number (To format from) w64 _ after_from refl (λ t. refl)))
    (λ to rest e. walks_done (λ (r : ℕ × ℕ). LastFlag format r.0 r.1) (from, to) rest))

module _ (from to : ℕ) (last : Bool) where
  abbrev counted : Format → ℕ → Field
  counted format cuts = Count from to (record { format = format; last = last; cuts = cuts })

  each_walks : (all n low : ℕ) (bytes : List ℕ) → Walks (next_cut from to last all n low) (λ cuts. counted Three all) bytes (each_cut_at n low to bytes)
  unfolding each_cut_at
  each_walks all zero low bytes = walks_done (λ (cuts : List ℕ). counted Three all) [] bytes
  each_walks all (suc n) low bytes =
      walks_then (Cut from to last all n low) (λ c. next_cut from to last all n c) (λ cuts. counted Three all) bytes _ _ (walks_field (Cut from to last all n low) (from_le_bytes w64) (λ c. next_cut from to last all n c) bytes _ (λ t. refl) (reads_number (Cut from to last all n low) w64 _ bytes refl (λ t. refl)))
      (λ c rest e.
      walks_then (next_cut from to last all n c) (λ cuts. counted Three all) (λ cuts. counted Three all) rest (each_cut_at n c to rest) (λ cuts. Ok (c ∷ cuts.0, cuts.1)) (each_walks all n c rest)
      (λ cuts more e. walks_done (λ (cuts : List ℕ). counted Three all) (c ∷ cuts) more))

each_length : (n low to : ℕ) (bytes : List ℕ) (x : List ℕ × List ℕ) → each_cut_at n low to bytes ≡ Ok x → length x.0 ≡ n
unfolding each_cut_at
each_length zero low to bytes x e =
    let made : List ℕ × List ℕ = ([], bytes) in
    sym (ap (λ (z : List ℕ × List ℕ). length z.0) (ok_is made x e))
each_length (suc n) low to bytes x e =
    let cut = bind_ok (checked (λ c. is_cut low to c) bytes (number_at w64 bytes)) (λ c. each_cut_at n c.0 to c.1 >>= λ cuts. Ok (c.0 ∷ cuts.0, cuts.1)) x e in
    let more = bind_ok (each_cut_at n cut.0.0 to cut.0.1) (λ cuts. Ok (cut.0.0 ∷ cuts.0, cuts.1)) x cut.2 in
    let made : List ℕ × List ℕ = (cut.0.0 ∷ more.0.0, more.0.1) in
    sym (ap (λ (z : List ℕ × List ℕ). length z.0) (ok_is made x more.2)) ∙ ap suc (each_length n cut.0.0 to cut.0.1 more.0 more.1)

module _ (from to : ℕ) (last : Bool) where
  some_walks : (bytes : List ℕ) → Walks (CutCount from to last) (λ cuts. counted from to last Three (length cuts)) bytes (some_cuts_at from to bytes)
  unfolding some_cuts_at
  some_walks bytes =
      walks_then (CutCount from to last) (λ n. next_cut from to last n n from) _ bytes _ _ (walks_field (CutCount from to last) byte (λ n. next_cut from to last n n from) bytes _ (λ t. refl) (reads_byte (CutCount from to last) _ bytes refl (λ t. refl)))
      (λ n rest e.
      renamed (next_cut from to last n n from) (λ (cuts : List ℕ). counted from to last Three n) (λ cuts. counted from to last Three (length cuts)) rest (each_cut_at n from to rest)
      (λ cuts more e. ap (counted from to last Three) (each_length n from to rest (cuts, more) e)) (each_walks from to last n n from rest))

  cuts_walks : (format : Format) (bytes : List ℕ) → Walks (after_flag format from to last) (λ cuts. counted from to last format (length cuts)) bytes (cond (has_cuts format) (some_cuts_at from to bytes) (Ok ([], bytes)))
  cuts_walks One bytes = walks_done (λ (cuts : List ℕ). counted from to last One (length cuts)) [] bytes
  cuts_walks Two bytes = walks_done (λ (cuts : List ℕ). counted from to last Two (length cuts)) [] bytes
  cuts_walks Three bytes = some_walks bytes

module _ (format : Format) (from to : ℕ) where
  abbrev after_bottom : Bottom → Field
  after_bottom b = counted from to b.last format (length b.cuts)

  bottom_walks : (bytes : List ℕ) → Walks (LastFlag format from to) after_bottom bytes (bottom_at format from to bytes)
  unfolding bottom_at
  bottom_walks bytes =
      walks_then (LastFlag format from to) (λ n. after_flag format from to (eqb n 1)) after_bottom bytes _ _ (walks_field (LastFlag format from to) byte (λ n. after_flag format from to (eqb n 1)) bytes _ (λ t. refl) (reads_byte (LastFlag format from to) _ bytes refl (λ t. refl)))
      (λ n rest e.
      walks_then (after_flag format from to (eqb n 1)) (λ cuts. counted from to (eqb n 1) format (length cuts)) after_bottom rest (cond (has_cuts format) (some_cuts_at from to rest) (Ok ([], rest))) (λ cuts. Ok (record { last = eqb n 1; cuts = cuts.0 }, cuts.1)) (cuts_walks from to (eqb n 1) format rest)
      (λ cuts more e. walks_done after_bottom (record { last = eqb n 1; cuts = cuts }) more))

abbrev after_header : Header → Field
after_header h = next_row (shape_of h) h.count start

header_walks : (bytes : List ℕ) → Walks Magic after_header bytes (header_at bytes)
unfolding header_at
header_walks bytes =
    walks_then Magic (λ f. From f) after_header bytes _ _ (format_walks bytes) (λ f rest0 e0.
    walks_then (From f) (λ r. LastFlag f r.0 r.1) after_header rest0 _ _ (range_walks f rest0) (λ r rest1 e1.
    walks_then (LastFlag f r.0 r.1) (after_bottom f r.0 r.1) after_header rest1 _ _ (bottom_walks f r.0 r.1 rest1) (λ b rest2 e2.
    walks_then (after_bottom f r.0 r.1 b) (λ n. next_row (record { format = f; last = b.last; cuts = length b.cuts }) n start) after_header rest2 _ _
    (walks_field (after_bottom f r.0 r.1 b) (from_le_bytes w32) (λ n. next_row (record { format = f; last = b.last; cuts = length b.cuts }) n start) rest2 _ (λ t. refl) (reads_number (after_bottom f r.0 r.1 b) w32 _ rest2 refl (λ t. refl))) (λ n rest3 e3.
    walks_done after_header (record { format = f; from = r.0; to = r.1; bottom = b; count = n }) rest3))))

-- ---- the rows

module _ (shape : Shape) (n : ℕ) (seen : Seen) where
  key_walks : (bytes : List ℕ) → Walks (KeyLength shape n seen) (λ key. after_key shape n seen key) bytes (key_at shape seen bytes)
  unfolding key_at
  key_walks bytes =
      walks_then (KeyLength shape n seen) (λ len. KeyBytes shape n seen len) _ bytes _ _ (walks_field (KeyLength shape n seen) byte (λ len. KeyBytes shape n seen len) bytes _ (λ t. refl) (reads_byte (KeyLength shape n seen) _ bytes refl (λ t. refl)))
      (λ len rest e. walks_field (KeyBytes shape n seen len) (λ t. t) (λ key. after_key shape n seen key) rest _ (λ t. refl) (reads_bytes (KeyBytes shape n seen len) len _ rest refl (λ t. refl)))

  number_walks : (key : List ℕ) (b : Bool) (bytes : List ℕ) → Walks (cond b (EndNumber shape n seen key) (OpMark shape n seen key 0)) (λ m. OpMark shape n seen key m) bytes (cond b (checked (λ m. number_fits shape seen key m) bytes (byte_at bytes)) (Ok (0, bytes)))
  number_walks key true bytes = walks_field (EndNumber shape n seen key) byte (λ m. OpMark shape n seen key m) bytes _ (λ t. refl) (reads_byte (EndNumber shape n seen key) _ bytes refl (λ t. refl))
  number_walks key false bytes = walks_done (λ m. OpMark shape n seen key m) 0 bytes

  end_walks : (key : List ℕ) (bytes : List ℕ) → Walks (after_key shape n seen key) (λ m. OpMark shape n seen key m) bytes (end_at shape seen key bytes)
  unfolding end_at
  end_walks key bytes = number_walks key (has_cuts shape.format) bytes

  value_walks : (bytes : List ℕ) → Walks (ValueLength shape n seen) (λ (v : List ℕ). next_row shape n seen) bytes (value_at bytes)
  unfolding value_at
  value_walks bytes =
      walks_then (ValueLength shape n seen) (λ len. ValueBytes shape n seen len) _ bytes _ _ (walks_field (ValueLength shape n seen) (from_le_bytes w16) (λ len. ValueBytes shape n seen len) bytes _ (λ t. refl) (reads_number (ValueLength shape n seen) w16 _ bytes refl (λ t. refl)))
      (λ len rest e. walks_field (ValueBytes shape n seen len) (λ t. t) (λ v. next_row shape n seen) rest _ (λ t. refl) (reads_any_bytes (ValueBytes shape n seen len) len rest refl (λ t. refl)))

module _ (shape : Shape) (n : ℕ) (seen : Seen) where
  abbrev after_op : List ℕ → ℕ → Op → Field
  after_op key number op = next_row shape n (see seen key number (is_delete op))

  mark_walks : (key : List ℕ) (number : ℕ) (put : Bool) (rest : List ℕ) → Walks (cond put (ValueLength shape n (see seen key number false)) (next_row shape n (see seen key number true))) (after_op key number) rest (cond put (value_at rest >>= λ v. Ok (Put v.0, v.1)) (Ok (Delete, rest)))
  mark_walks key number true rest =
      walks_then (ValueLength shape n (see seen key number false)) (λ (v : List ℕ). next_row shape n (see seen key number false)) (after_op key number) rest (value_at rest) (λ v. Ok (Put v.0, v.1)) (value_walks shape n (see seen key number false) rest)
      (λ v more e. walks_done (after_op key number) (Put v) more)
  mark_walks key number false rest = walks_done (after_op key number) Delete rest

  op_walks : (key : List ℕ) (number : ℕ) (bytes : List ℕ) → Walks (OpMark shape n seen key number) (after_op key number) bytes (op_at shape n bytes)
  unfolding op_at
  op_walks key number bytes =
      walks_then (OpMark shape n seen key number) (λ m. cond (eqb m 1) (ValueLength shape n (see seen key number false)) (next_row shape n (see seen key number true))) (after_op key number) bytes _ _
      (walks_field (OpMark shape n seen key number) byte (λ m. cond (eqb m 1) (ValueLength shape n (see seen key number false)) (next_row shape n (see seen key number true))) bytes _ (λ t. refl) (reads_byte (OpMark shape n seen key number) _ bytes refl (λ t. refl)))
      (λ m rest e. mark_walks key number (eqb m 1) rest)

  abbrev after_entry : Entry → Field
  after_entry e = next_row shape n (see_entry seen e)

  entry_walks : (bytes : List ℕ) → Walks (KeyLength shape n seen) after_entry bytes (entry_at shape n seen bytes)
  unfolding entry_at
  entry_walks bytes =
      walks_then (KeyLength shape n seen) (λ key. after_key shape n seen key) after_entry bytes _ _ (key_walks shape n seen bytes) (λ key rest0 e0.
      walks_then (after_key shape n seen key) (λ m. OpMark shape n seen key m) after_entry rest0 _ _ (end_walks shape n seen key rest0) (λ m rest1 e1.
      walks_then (OpMark shape n seen key m) (after_op key m) after_entry rest1 _ _ (op_walks key m rest1) (λ op rest2 e2.
      walks_done after_entry (record { key = key; number = m; op = op }) rest2)))

module _ (shape : Shape) where
  abbrev after_entries : Seen → List Entry → Field
  after_entries seen entries = next_row shape 0 (seen_after seen entries)

  entries_walks : (n : ℕ) (seen : Seen) (bytes : List ℕ) → Walks (next_row shape n seen) (after_entries seen) bytes (entries_at shape n seen bytes)
  unfolding entries_at
  entries_walks zero seen bytes = walks_done (after_entries seen) [] bytes
  entries_walks (suc n) seen bytes =
      walks_then (KeyLength shape n seen) (λ e. next_row shape n (see_entry seen e)) (after_entries seen) bytes _ _ (entry_walks shape n seen bytes) (λ e rest h.
      walks_then (next_row shape n (see_entry seen e)) (after_entries (see_entry seen e)) (after_entries seen) rest (entries_at shape n (see_entry seen e) rest) (λ others. Ok (e ∷ others.0, others.1)) (entries_walks n (see_entry seen e) rest) (λ others more h.
      walks_done (after_entries seen) (e ∷ others) more))

  walked_walks : (n : ℕ) (bytes : List ℕ) → Walks (next_row shape n start) (λ s. next_row shape 0 s) bytes (walked start (entries_at shape n start bytes))
  walked_walks n bytes =
      walks_then (next_row shape n start) (after_entries start) (λ s. next_row shape 0 s) bytes (entries_at shape n start bytes) (λ x. Ok (seen_after start x.0, x.1)) (entries_walks n start bytes)
      (λ entries rest e. walks_done (λ s. next_row shape 0 s) (seen_after start entries) rest)

-- ---- the range of the keys

least_walks : (least greatest bytes : List ℕ) → Walks (LeastLength least greatest) (λ (k : List ℕ). GreatestLength greatest) bytes (exact_key_at least bytes)
unfolding exact_key_at
least_walks least greatest bytes =
    walks_then (LeastLength least greatest) (λ len. LeastKey least greatest len) _ bytes _ _ (walks_field (LeastLength least greatest) byte (λ len. LeastKey least greatest len) bytes _ (λ t. refl) (reads_byte (LeastLength least greatest) _ bytes refl (λ t. refl)))
    (λ len rest e.
    walks_then (LeastKey least greatest len) (λ (k : List ℕ). GreatestLength greatest) _ rest _ _ (walks_field (LeastKey least greatest len) (λ t. t) (λ k. GreatestLength greatest) rest _ (λ t. refl) (reads_bytes (LeastKey least greatest len) len _ rest refl (λ t. refl)))
    (λ k more e. walks_done (λ (k : List ℕ). GreatestLength greatest) least more))

greatest_walks : (greatest bytes : List ℕ) → Walks (GreatestLength greatest) (λ (k : List ℕ). End) bytes (exact_key_at greatest bytes)
unfolding exact_key_at
greatest_walks greatest bytes =
    walks_then (GreatestLength greatest) (λ len. GreatestKey greatest len) _ bytes _ _ (walks_field (GreatestLength greatest) byte (λ len. GreatestKey greatest len) bytes _ (λ t. refl) (reads_byte (GreatestLength greatest) _ bytes refl (λ t. refl)))
    (λ len rest e.
    walks_then (GreatestKey greatest len) (λ (k : List ℕ). End) _ rest _ _ (walks_field (GreatestKey greatest len) (λ t. t) (λ k. End) rest _ (λ t. refl) (reads_bytes (GreatestKey greatest len) len _ rest refl (λ t. refl)))
    (λ k more e. walks_done (λ (k : List ℕ). End) greatest more))

tail_walks : (format : Format) (least greatest bytes : List ℕ) → Walks (after_rows format least greatest) (λ (k : List ℕ). End) bytes (tail_at format least greatest bytes)
unfolding tail_at
tail_walks One least greatest bytes = walks_done (λ (k : List ℕ). End) greatest bytes
tail_walks Three least greatest bytes = walks_done (λ (k : List ℕ). End) greatest bytes
tail_walks Two [] greatest bytes = walks_done (λ (k : List ℕ). End) greatest bytes
tail_walks Two (b ∷ least) greatest bytes =
    walks_then (LeastLength (b ∷ least) greatest) (λ (k : List ℕ). GreatestLength greatest) _ bytes _ _ (least_walks (b ∷ least) greatest bytes) (λ k rest e. greatest_walks greatest rest)

-- ---- the whole file

no_more : (bytes : List ℕ) → Stuck End bytes
no_more bytes = record { none = λ text more is e. let clash : false ≡ true = is.rule in absurd (cc clash) }

abbrev failed : (B : Type 0) → ℕ → Result B ℕ
failed B n = Err n

err_is : (B : Type 0) (m n : ℕ) → failed B m ≡ failed B n → m ≡ n
err_is B m n e = cc

stops_then : {X B : Type 0} (field : Field) (next : X → Field) (bytes : List ℕ) (read : Result (X × List ℕ) ℕ) (k : X × List ℕ → Result B ℕ) (left : ℕ) → Walks field next bytes read
    → ((x : X) (rest : List ℕ) → k (x, rest) ≡ Err left → Stops (next x) rest left) → (read >>= k) ≡ Err left → Stops field bytes left
stops_then {X} {B} field next bytes (Ok p) k left w then e = w.goes p.0 p.1 refl left (then p.0 p.1 e)
stops_then {X} {B} field next bytes (Err m) k left w then e = w.fails left (ap (λ (n : ℕ). Err n) (err_is B m left e))

guard_err : {X : Type 0} (whole : Bool) (x : X) (n left : ℕ) → cond whole (Ok x) (Err n) ≡ Err left → n ≡ left
guard_err {X} true x n left e = absurd (cc e)
guard_err {X} false x n left e = err_is X n left e

ended_stops : {X : Type 0} (x : X) (rest : List ℕ) (left : ℕ) → ended x rest ≡ Err left → Stops End rest left
ended_stops x rest left e = subst (Stops End rest) (guard_err (eqb (length rest) 0) x (length rest) left e) (stuck_stops End rest (no_more rest))

file_stops : (bytes : List ℕ) (left : ℕ) → file_at bytes ≡ Err left → Stops Magic bytes left
unfolding file_at
file_stops bytes left e =
    stops_then Magic after_header bytes (header_at bytes) _ left (header_walks bytes) (λ h rows e1.
    stops_then (after_header h) (λ s. next_row (shape_of h) 0 s) rows (walked start (entries_in h rows)) _ left (walked_walks (shape_of h) h.count rows) (λ s more e2.
    stops_then (next_row (shape_of h) 0 s) (λ (k : List ℕ). End) more (tail_at h.format s.first s.key more) _ left (tail_walks h.format s.first s.key more) (λ k rest e3.
    ended_stops (h, rows) rest left e3) e2) e1) e

left_within : (bytes : List ℕ) (left : ℕ) → Stops Magic bytes left → left ≤ length bytes
left_within bytes left s = omega (arith, ap length s.parts, length-append (concat s.fields) s.rest, s.leaves)

pub within : (bytes : List ℕ) (left : ℕ) → file_at bytes ≡ Err left → left ≤ length bytes
within bytes left e = left_within bytes left (file_stops bytes left e)

pub bad_place : (bytes : List ℕ) (left : ℕ) → file_at bytes ≡ Err left → IsBadPlace bytes (length bytes - left)
bad_place bytes left e =
    let s = file_stops bytes left e in
    let at : length (concat s.fields) ≡ length bytes - left = omega (arith, ap length s.parts, length-append (concat s.fields) s.rest, s.leaves) in
    record {
      within = omega arith;
      run = (s.fields, s.are, ap (take (length bytes - left)) s.parts ∙ take_at (concat s.fields) s.rest (length bytes - left) at);
      longest = λ n le run.
          let parts : bytes ≡ concat run.0 ++ drop n bytes = sym (take-append-drop n bytes) ∙ ap (λ (x : List ℕ). x ++ drop n bytes) run.2 in
          let most = s.longest run.0 (drop n bytes) run.1 parts in
          omega (arith, length-drop n bytes, most, left_within bytes left s);
    }
