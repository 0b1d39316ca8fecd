-- What reading a whole file owes.
use Rattle.std.proofs.Common.{◌≡◌, ℕ, ◌-◌, Bool, true, cond, eqb, List, length, map, Option, Result, Ok, Err, sym, ap, subst, ◌∙◌}
use Rattle.sv_model.specs.declared.writes.Kept.{Kept}
use Rattle.sv_model.specs.declared.writes.Op.{Op}
use Rattle.sv_model.specs.TableText.{IsTextOf, IsTableFile}
use Rattle.sv_table.specs.Decoding.{IsBadFile, IsHeadOf, IsTable}
use Rattle.sv_table.specs.Lookups.{op_upto, found_in, IsFoundIn}
use Rattle.sv_model.specs.TableTextFields.{Seen, start}
use Rattle.sv_model.specs.Order.{OrderedBy, key_of_kept, end_of_kept}
use Rattle.sv_table.specs.Places.{ArePlaces, IsIndexed}
use Rattle.sv_table.specs.Reading.{Header, Entry, HasRows, entries_in, kept_in, kept_of, ◌>>=◌, walked, tail_at, ended, header_at, file_at}
use Rattle.sv_table.specs.declared.heads.Head.{Head}
use Rattle.sv_table.proofs.OneField.{IsBytes}
use Rattle.sv_table.proofs.FieldRuns.{ok_is}
use Rattle.sv_table.proofs.HeaderText.{text_of}
use Rattle.sv_table.proofs.FileText.{IsReadAs, file_takes, file_again, rows_are, same_rows, texts_are}
use Rattle.sv_table.proofs.ReaderTexts.{bind_path}
use Rattle.sv_table.proofs.BadFields.{bad_place}

not_text : (bytes : List ℕ) (left : ℕ) → file_at bytes ≡ Err left → IsTableFile bytes → ⊥
not_text bytes left e t =
    let r = file_again bytes t.from t.to t.bottom t.rows t.text in
    let clash : Err left ≡ Ok (r.header, r.rest) = sym e ∙ r.reads in
    absurd (cc clash)

pub bad_file : (bytes : List ℕ) (left : ℕ) → file_at bytes ≡ Err left → IsBadFile bytes (length bytes - left)
bad_file bytes left e = record { none = not_text bytes left e; bad = bad_place bytes left e }

pub table_is : (bytes : List ℕ) (h : Header) (rest : List ℕ) → IsBytes bytes → file_at bytes ≡ Ok (h, rest) → IsTable bytes h rest
table_is bytes h rest fits e =
    let r = file_takes bytes (h, rest) fits e in
    record { rows = r.0; stand = r.1.stand; are = rows_are h rest r.1.stand r.0 r.1.are; text = r.1.text; count = r.1.count; front = (text_of h, r.1.front) }

pub file_is : (bytes : List ℕ) (h : Header) (rest : List ℕ) → IsTable bytes h rest → IsTableFile bytes
file_is bytes h rest t = record { from = h.from; to = h.to; bottom = h.bottom; rows = t.rows; text = t.text }

abbrev head_of : Header → Head
head_of h = record { from = h.from; to = h.to; bottom = h.bottom; count = h.count }

pub head_is : (bytes : List ℕ) (h : Header) (rest : List ℕ) (head : Head) → IsTable bytes h rest → head ≡ head_of h → IsHeadOf bytes head
head_is bytes h rest head t e = subst (IsHeadOf bytes) (sym e) (record { rows = t.rows; text = t.text; count = t.count })

-- the rows that were read are the table's
pub table_rows : (bytes : List ℕ) (h : Header) (rest : List ℕ) (rows : List Kept) → IsTable bytes h rest → kept_in h (entries_in h rest) ≡ Ok rows → IsTextOf bytes h.from h.to h.bottom rows
table_rows bytes h rest rows t e = subst (λ (l : List Kept). IsTextOf bytes h.from h.to h.bottom l) (same_rows h rest t.rows rows t.are e) t.text

-- ---- looking up

header_only : (bytes : List ℕ) (f : IsTableFile bytes) → IsReadAs bytes f.from f.to f.bottom f.rows
header_only bytes f = file_again bytes f.from f.to f.bottom f.rows f.text

pub has_header : (bytes : List ℕ) (left : ℕ) → IsTableFile bytes → header_at bytes ≡ Err left → ⊥
has_header bytes left f e =
    let r = header_only bytes f in
    let clash : Err left ≡ Ok (r.header, r.rest) = sym e ∙ r.head in
    absurd (cc clash)

pub has_rows : (bytes : List ℕ) (h : Header) (rest : List ℕ) → IsTableFile bytes → header_at bytes ≡ Ok (h, rest) → HasRows h rest
has_rows bytes h rest f e =
    let r = header_only bytes f in
    let one : Header × List ℕ = (r.header, r.rest) in
    let same : one ≡ (h, rest) = ok_is one (h, rest) (sym r.head ∙ e) in
    subst (λ (z : Header × List ℕ). HasRows z.0 z.1) same r.stand

abbrev oked : List Kept → Result (List Kept) ℕ
oked a = Ok a

oks : (a b : List Kept) → oked a ≡ oked b → a ≡ b
oks a b e = cc

found_rows : (h : Header) (key : List ℕ) (cut : ℕ) (read : Result (List Entry × List ℕ) ℕ) (rows : List Kept) → kept_in h read ≡ Ok rows → found_in h key cut read ≡ op_upto key cut rows
found_rows h key cut (Ok x) rows e = ap (op_upto key cut) (oks (map (kept_of h) x.0) rows e)
found_rows h key cut (Err left) rows e = absurd (cc e)

pub found_is : (bytes key : List ℕ) (cut : ℕ) (h : Header) (rest : List ℕ) (found : Option Op) → header_at bytes ≡ Ok (h, rest) → found ≡ found_in h key cut (entries_in h rest) → IsFoundIn bytes key cut found
found_is bytes key cut h rest found e is = record {
  of = λ from to bottom rows t.
      let r = file_again bytes from to bottom rows t in
      let one : Header × List ℕ = (r.header, r.rest) in
      let same : one ≡ (h, rest) = ok_is one (h, rest) (sym r.head ∙ e) in
      let all : kept_in h (entries_in h rest) ≡ Ok rows = subst (λ (z : Header × List ℕ). kept_in z.0 (entries_in z.0 z.1) ≡ Ok rows) same (rows_are r.header r.rest r.stand rows r.are) in
      is ∙ found_rows h key cut (entries_in h rest) rows all;
}

-- What is found by the places is what the table has.
pub found_by_places : (h : Header) (bytes places key : List ℕ) (cut : ℕ) (found : Option Op) → IsIndexed h bytes places → ((rows : List Kept) → ArePlaces h bytes places rows → OrderedBy key_of_kept end_of_kept rows → found ≡ op_upto key cut rows) → IsFoundIn bytes key cut found
found_by_places h bytes places key cut found x answers = record {
  of = λ from to bottom rows t.
      let same = texts_are bytes h.from h.to from to h.bottom bottom x.rows rows x.text t in
      subst (λ (l : List Kept). found ≡ op_upto key cut l) same.rows_are (answers x.rows x.are x.text.has.well_formed.ordered);
}

pub indexed : (bytes : List ℕ) (h : Header) (rest places : List ℕ) (t : IsTable bytes h rest) → ((all : List Kept) → kept_in h (entries_in h rest) ≡ Ok all → ArePlaces h bytes places all) → IsIndexed h bytes places
indexed bytes h rest places t are = record { rows = t.rows; text = t.text; count = t.count; are = are t.rows t.are }

-- The parts of a file were read, so the file is.
pub file_reads : (bytes : List ℕ) (h : Header) (rows : List ℕ) (s : Seen) (after : List ℕ) (greatest rest : List ℕ) → header_at bytes ≡ Ok (h, rows) → walked start (entries_in h rows) ≡ Ok (s, after)
    → tail_at h.format s.first s.key after ≡ Ok (greatest, rest) → eqb (length rest) 0 ≡ true → file_at bytes ≡ Ok (h, rows)
unfolding file_at
file_reads bytes h rows s after greatest rest a b c d =
    bind_path (header_at bytes) (λ x. walked start (entries_in x.0 x.1) >>= λ s. tail_at x.0.format s.0.first s.0.key s.1 >>= λ t. ended x t.1) (h, rows) (Ok (h, rows)) a
    (bind_path (walked start (entries_in h rows)) (λ s. tail_at h.format s.0.first s.0.key s.1 >>= λ t. ended (h, rows) t.1) (s, after) (Ok (h, rows)) b
    (bind_path (tail_at h.format s.first s.key after) (λ t. ended (h, rows) t.1) (greatest, rest) (Ok (h, rows)) c
    (ap (λ (z : Bool). cond z (Ok (h, rows)) (Err (length rest))) d)))

-- What was found among the rows that were read is what the table has.
pub found_read : (bytes key : List ℕ) (cut : ℕ) (h : Header) (rest : List ℕ) (found : Option Op) → IsTable bytes h rest → found ≡ found_in h key cut (entries_in h rest) → IsFoundIn bytes key cut found
found_read bytes key cut h rest found t is = record {
  of = λ from to bottom rows text.
      let same = texts_are bytes h.from h.to from to h.bottom bottom t.rows rows t.text text in
      is ∙ found_rows h key cut (entries_in h rest) t.rows t.are ∙ ap (op_upto key cut) same.rows_are;
}
