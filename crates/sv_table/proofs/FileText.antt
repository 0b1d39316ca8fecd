-- A whole file that is read is a table's text, and a table's text is read.
use Rattle.std.proofs.Common.{◌≡◌, ℕ, ◌-◌, ◌≤◌, Bool, true, false, cond, eqb, ◌||◌, nat_le, List, [], ◌∷◌, ◌++◌, length, map, Result, Ok, Err, ◌⊎◌, inl, inr, refl, sym, ap, subst, ◌∙◌, arith}
use Rattle.std.proofs.lemmas.Bool.{eqb-true, leb-true, ltb-true, le-leb, lt-ltb, and_parts, and_from}
use Rattle.std.proofs.lemmas.List.{append-nil, nil_from_length, length-map}
use Rattle.sv_model.specs.declared.writes.Kept.{Kept}
use Rattle.sv_model.specs.declared.cuts.Bottom.{Bottom}
use Rattle.sv_model.specs.Flat.{CutsFrom, AreCuts}
use Rattle.sv_model.specs.TableText.{Format, One, Two, Three, written, flag, header_text, text_as, table_text, old_text, HasText, HasOldText, IsTextOf}
use Rattle.sv_model.specs.TableTextFields.{is_flag, is_length, start}
use Rattle.sv_table.specs.Reading.{◌>>=◌, Header, Entry, shape_of, seen_after, walked, entries_in, kept_of, kept_in, HasRows, header_at, tail_at, ended, file_at}
use Rattle.sv_table.proofs.OneField.{IsBytes}
use Rattle.sv_table.proofs.FieldRuns.{ok_is}
use Rattle.sv_table.proofs.ReaderTexts.{bind_ok, bind_path}
use Rattle.sv_table.proofs.HeaderText.{CutsFit, BottomFits, HeaderFits, text_of, header_spells}
use Rattle.sv_table.proofs.RowText.{EntriesFit, entries_text, entries_spells, tail_text, tail_spells}
use Rattle.sv_table.proofs.KeptRows.{kept, entry_of, ordered, ends_stand, stored, deletes_cover, texts_same, ranges_same, Few, entries_back, entries_fit}

-- ---- the cuts of a format

cuts_up : (format : Format) (from to : ℕ) (cuts : List ℕ) → CutsFit format from to cuts → CutsFrom from cuts to
cuts_up One from to cuts f = subst (λ (c : List ℕ). CutsFrom from c to) (sym f) tt
cuts_up Two from to cuts f = subst (λ (c : List ℕ). CutsFrom from c to) (sym f) tt
cuts_up Three from to cuts f = f.1

cuts_few : (format : Format) (from to : ℕ) (cuts : List ℕ) → CutsFit format from to cuts → length cuts ≤ 64
cuts_few One from to cuts f = omega (arith, ap (λ (c : List ℕ). length c) f)
cuts_few Two from to cuts f = omega (arith, ap (λ (c : List ℕ). length c) f)
cuts_few Three from to cuts f = leb-true (length cuts) 64 (and_parts (nat_le 1 (length cuts)) (nat_le (length cuts) 64) f.0).1

-- the format is the one in which the table is written, or the old one
two_last : (last : Bool) → is_flag Two (flag last) ≡ true → last ≡ true
two_last true e = refl
two_last false e = absurd (cc e)

-- in which format the bytes are
abbrev pub IsIn : Format → Bottom → Type 0
IsIn format b = (format ≡ written b.last b.cuts) ⊎ (HasOldText b × (format ≡ One))

told_one : (last : Bool) (cuts : List ℕ) → cuts ≡ [] → IsIn One (record { last = last; cuts = cuts })
told_one true cuts e = inr (record { last = refl; uncut = e }, refl)
told_one false cuts e = inl (ap (written false) (sym e))

told_three : (last : Bool) (cuts : List ℕ) → is_length (length cuts) ≡ true → Three ≡ written last cuts
told_three last [] e = let clash : false ≡ true = e in absurd (cc clash)
told_three last (c ∷ cuts) e = refl

told : (format : Format) (from to : ℕ) (b : Bottom) → BottomFits format from to b → IsIn format b
told One from to b f = told_one b.last b.cuts f.1
told Two from to b f = inl (λ i. written (sym (two_last b.last f.0) i) (sym f.1 i))
told Three from to b f = inl (told_three b.last b.cuts f.1.0)

-- ---- what is read

-- the rows that are read, and where they begin
pub record IsRead (bytes : List ℕ) (h : Header) (rest : List ℕ) (rows : List Kept) : Type 0 where
  pub stand : HasRows h rest
  pub are : map (kept_of h) stand.entries ≡ rows
  pub front : bytes ≡ text_of h ++ rest
  pub text : IsTextOf bytes h.from h.to h.bottom rows
  pub count : h.count ≡ length rows

guard_ended : {X : Type 0} (whole : Bool) (made : X) (n : ℕ) (x : X) → cond whole (Ok made) (Err n) ≡ Ok x → (whole ≡ true) × (made ≡ x)
guard_ended {X} true made n x e = (refl, ok_is made x e)
guard_ended {X} false made n x e = absurd (cc e)

is_text : (bytes : List ℕ) (format : Format) (from to : ℕ) (b : Bottom) (rows : List Kept) → IsIn format b → bytes ≡ text_as format from to b rows → (bytes ≡ table_text from to b rows) ⊎ (HasOldText b × (bytes ≡ old_text from to b rows))
is_text bytes format from to b rows (inl e) is = inl (is ∙ ap (λ (f : Format). text_as f from to b rows) e)
is_text bytes format from to b rows (inr e) is = inr (e.0, is ∙ ap (λ (f : Format). text_as f from to b rows) e.1)

module _ (h : Header) (fits : HeaderFits h) where
  abbrev up : CutsFrom h.from h.bottom.cuts h.to
  up = cuts_up h.format h.from h.to h.bottom.cuts fits.bottom.1

  abbrev rows_of : List Entry → List Kept
  rows_of entries = map (kept h.bottom.last h.bottom.cuts h.from h.to up) entries

  has_text : (entries : List Entry) → EntriesFit (shape_of h) h.count start entries → HasText h.from h.to h.bottom (rows_of entries)
  has_text entries f =
      let same : length (rows_of entries) ≡ h.count = length-map entries (kept h.bottom.last h.bottom.cuts h.from h.to up) ∙ f.0 in
      let counts = and_parts (nat_le h.count (h.to - h.from)) (h.bottom.last || nat_le 1 h.count) fits.counted in
      record {
        well_formed = record {
          range = ltb-true h.from h.to fits.range;
          cuts = record { ascend = up; few = cuts_few h.format h.from h.to h.bottom.cuts fits.bottom.1 };
          at_most = omega (arith, leb-true h.count (h.to - h.from) counts.0, same);
          at_least = ap (λ (n : ℕ). h.bottom.last || nat_le 1 n) same ∙ counts.1;
          counted = omega (arith, same, fits.few);
          ordered = ordered h.bottom.last h.bottom.cuts h.from h.to up h.format start entries f.1;
          ends = ends_stand h.bottom.last h.bottom.cuts h.from h.to up h.format start entries f.1;
          deletes = λ is. deletes_cover h.bottom.last h.bottom.cuts h.from h.to up h.format start entries is f.1;
        };
        in_range = fits.in_range;
        stored = stored h.bottom.last h.bottom.cuts h.from h.to up h.format start entries f.1;
      }

  whole_text : (entries : List Entry) → EntriesFit (shape_of h) h.count start entries
      → text_as h.format h.from h.to h.bottom (rows_of entries) ≡ text_of h ++ (entries_text h.format entries ++ tail_text h.format (seen_after start entries).first (seen_after start entries).key)
  whole_text entries f =
      let same : length (rows_of entries) ≡ h.count = length-map entries (kept h.bottom.last h.bottom.cuts h.from h.to up) ∙ f.0 in
      let rows = texts_same h.bottom.last h.bottom.cuts h.from h.to up h.format start entries f.1 in
      let range = ranges_same h.bottom.last h.bottom.cuts h.from h.to up h.format entries f.1 in
      λ i. header_text h.format h.from h.to h.bottom (same i) ++ (rows i ++ range i)

  rows_same : (entries : List Entry) → map (kept_of h) entries ≡ rows_of entries
  rows_same entries = refl

-- what follows the rows
tail_takes : (h : Header) (rest : List ℕ) (least greatest more : List ℕ) (y : Header × List ℕ) → IsBytes more → (tail_at h.format least greatest more >>= λ t. ended (h, rest) t.1) ≡ Ok y
    → (more ≡ tail_text h.format least greatest) × ((h, rest) ≡ y)
tail_takes h rest least greatest more y fits e =
    let b = bind_ok (tail_at h.format least greatest more) (λ t. ended (h, rest) t.1) y e in
    let g = guard_ended (eqb (length b.0.1) 0) (h, rest) (length b.0.1) y b.2 in
    let t = (tail_spells h.format least greatest).takes more b.0 fits b.1 in
    let nothing : b.0.1 ≡ [] = nil_from_length b.0.1 (eqb-true _ _ g.0) in
    (t.parts ∙ (λ i. tail_text h.format least (t.fits i) ++ nothing i) ∙ append-nil (tail_text h.format least greatest), g.1)

abbrev tail_after : Header → List Entry → List ℕ
tail_after h entries = tail_text h.format (seen_after start entries).first (seen_after start entries).key

record RowsTaken (h : Header) (rest : List ℕ) (y : Header × List ℕ) : Type 0 where
  entries : List Entry
  more : List ℕ
  are : entries_in h rest ≡ Ok (entries, more)
  fit : EntriesFit (shape_of h) h.count start entries
  text : rest ≡ entries_text h.format entries ++ tail_after h entries
  is : (h, rest) ≡ y

abbrev after_walk : Header → List ℕ → Result (Header × List ℕ) ℕ
after_walk h rest = walked start (entries_in h rest) >>= λ s. tail_at h.format s.0.first s.0.key s.1 >>= λ t. ended (h, rest) t.1

-- the rows were read, so the walk goes on with what was seen
rows_taken : (h : Header) (rest : List ℕ) (entries : List Entry) (more : List ℕ) (y : Header × List ℕ) → IsBytes rest → entries_in h rest ≡ Ok (entries, more)
    → (tail_at h.format (seen_after start entries).first (seen_after start entries).key more >>= λ t. ended (h, rest) t.1) ≡ Ok y → RowsTaken h rest y
rows_taken h rest entries more y fits are e =
    let b = (entries_spells (shape_of h) h.count start).takes rest (entries, more) fits are in
    let t = tail_takes h rest (seen_after start entries).first (seen_after start entries).key more y b.rest_fits e in
    record { entries = entries; more = more; are = are; fit = b.fits; text = b.parts ∙ ap (λ (z : List ℕ). entries_text h.format entries ++ z) t.0; is = t.1 }

walk_taken : (h : Header) (rest : List ℕ) (read : Result (List Entry × List ℕ) ℕ) (y : Header × List ℕ) → IsBytes rest → entries_in h rest ≡ read
    → (walked start read >>= λ s. tail_at h.format s.0.first s.0.key s.1 >>= λ t. ended (h, rest) t.1) ≡ Ok y → RowsTaken h rest y
walk_taken h rest (Ok x) y fits are e = rows_taken h rest x.0 x.1 y fits are e
walk_taken h rest (Err left) y fits are e = absurd (cc e)

file_taken : (bytes : List ℕ) (h : Header) (rest : List ℕ) → HeaderFits h → bytes ≡ text_of h ++ rest → (t : RowsTaken h rest (h, rest)) → IsRead bytes h rest (map (kept_of h) t.entries)
file_taken bytes h rest fits front t =
    let text : bytes ≡ text_as h.format h.from h.to h.bottom (rows_of h fits t.entries) = front ∙ ap (λ (z : List ℕ). text_of h ++ z) t.text ∙ sym (whole_text h fits t.entries t.fit) in
    record {
      stand = record { entries = t.entries; rest = t.more; are = t.are };
      are = refl;
      front = front;
      text = record { has = has_text h fits t.entries t.fit; are = is_text bytes h.format h.from h.to h.bottom (rows_of h fits t.entries) (told h.format h.from h.to h.bottom fits.bottom) text };
      count = sym (length-map t.entries (kept_of h) ∙ t.fit.0);
    }

abbrev Taken : List ℕ → Header × List ℕ → Type 0
Taken bytes y = (rows : List Kept) × IsRead bytes y.0 y.1 rows

taken : (bytes : List ℕ) (x y : Header × List ℕ) → HeaderFits x.0 → bytes ≡ text_of x.0 ++ x.1 → RowsTaken x.0 x.1 y → Taken bytes y
taken bytes x y fits front t =
    let own : RowsTaken x.0 x.1 x = record { entries = t.entries; more = t.more; are = t.are; fit = t.fit; text = t.text; is = refl } in
    subst (Taken bytes) t.is (map (kept_of x.0) t.entries, file_taken bytes x.0 x.1 fits front own)

pub file_takes : (bytes : List ℕ) (y : Header × List ℕ) → IsBytes bytes → file_at bytes ≡ Ok y → Taken bytes y
unfolding file_at
file_takes bytes y fits e =
    let b = bind_ok (header_at bytes) (λ x. after_walk x.0 x.1) y e in
    let a = header_spells.takes bytes b.0 fits b.1 in
    taken bytes b.0 y a.fits a.parts (walk_taken b.0.0 b.0.1 (entries_in b.0.0 b.0.1) y a.rest_fits refl b.2)

-- ---- a table's text is read

in_format : (bytes : List ℕ) (from to : ℕ) (b : Bottom) (rows : List Kept) → IsTextOf bytes from to b rows → (format : Format) × IsIn format b × (bytes ≡ text_as format from to b rows)
in_format bytes from to b rows t =
    elim t.are [
      | inl e ↦ (written b.last b.cuts, inl refl, e)
      | inr e ↦ (One, inr (e.0, refl), e.1)
    ]

flag_small : (last : Bool) → nat_le (flag last) 1 ≡ true
flag_small true = refl
flag_small false = refl

written_fits : (from to : ℕ) (last : Bool) (cuts : List ℕ) → AreCuts from to cuts → BottomFits (written last cuts) from to (record { last = last; cuts = cuts })
written_fits from to true [] a = (refl, refl)
written_fits from to false [] a = (refl, refl)
written_fits from to last (c ∷ cuts) a = (flag_small last, (and_from (nat_le 1 (length (c ∷ cuts))) (nat_le (length (c ∷ cuts)) 64) (le-leb 1 (length (c ∷ cuts)) (omega arith)) (le-leb (length (c ∷ cuts)) 64 a.few), a.ascend))

bottom_fits : (format : Format) (from to : ℕ) (b : Bottom) → AreCuts from to b.cuts → IsIn format b → BottomFits format from to b
bottom_fits format from to b a (inl e) = subst (λ (f : Format). BottomFits f from to b) (sym e) (written_fits from to b.last b.cuts a)
bottom_fits format from to b a (inr e) = subst (λ (f : Format). BottomFits f from to b) (sym e.1) (flag_small b.last, e.0.uncut)

few : (format : Format) (from to : ℕ) (last : Bool) (cuts : List ℕ) (up : CutsFrom from cuts to) → CutsFit format from to cuts → Few last cuts from to up format
few One from to last cuts _ f = ap (λ (c : List ℕ). length c) f
few Two from to last cuts _ f = ap (λ (c : List ℕ). length c) f
few Three from to last cuts _ f = tt

abbrev header_of : Format → ℕ → ℕ → Bottom → List Kept → Header
header_of format from to b rows = record { format = format; from = from; to = to; bottom = b; count = length rows }

header_fits : (format : Format) (from to : ℕ) (b : Bottom) (rows : List Kept) → HasText from to b rows → IsIn format b → HeaderFits (header_of format from to b rows)
header_fits format from to b rows t is =
    let w = t.well_formed in
    record {
      range = lt-ltb from to w.range;
      in_range = t.in_range;
      bottom = bottom_fits format from to b w.cuts is;
      counted = and_from (nat_le (length rows) (to - from)) (b.last || nat_le 1 (length rows)) (le-leb (length rows) (to - from) w.at_most) w.at_least;
      few = w.counted;
    }

-- a file that is read gives these contents
pub record IsReadAs (bytes : List ℕ) (from to : ℕ) (b : Bottom) (rows : List Kept) : Type 0 where
  pub header : Header
  pub rest : List ℕ
  pub reads : file_at bytes ≡ Ok (header, rest)
  pub head : header_at bytes ≡ Ok (header, rest)
  pub stand : HasRows header rest
  pub are : map (kept_of header) stand.entries ≡ rows
  pub from_is : header.from ≡ from
  pub to_is : header.to ≡ to
  pub bottom_is : header.bottom ≡ b

module _ (format : Format) (from to : ℕ) (b : Bottom) (rows : List Kept) (t : HasText from to b rows) (is : IsIn format b) where
  abbrev h : Header
  h = header_of format from to b rows

  abbrev fits : HeaderFits h
  fits = header_fits format from to b rows t is

  abbrev entries : List Entry
  entries = map (entry_of b.last b.cuts from to (up h fits)) rows

  back : map (kept_of h) entries ≡ rows
  back = entries_back b.last b.cuts from to (up h fits) rows t.well_formed.ends

  fit : EntriesFit (shape_of h) h.count start entries
  fit = (
    length-map rows (entry_of b.last b.cuts from to (up h fits)),
    entries_fit b.last b.cuts from to (up h fits) format rows (few format from to b.last b.cuts (up h fits) fits.bottom.1) t.well_formed.ends t.well_formed.ordered t.well_formed.deletes t.stored,
  )

  abbrev tail : List ℕ
  tail = tail_after h entries

  abbrev rest : List ℕ
  rest = entries_text format entries ++ tail

  text_is : text_as format from to b rows ≡ text_of h ++ rest
  text_is = ap (λ (r : List Kept). text_as format from to b r) (sym back) ∙ whole_text h fits entries fit

  reads_head : header_at (text_of h ++ rest) ≡ Ok (h, rest)
  reads_head = header_spells.again h rest fits

  reads_rows : entries_in h rest ≡ Ok (entries, tail)
  reads_rows = (entries_spells (shape_of h) h.count start).again entries tail fit

  abbrev finish : List ℕ → Result (Header × List ℕ) ℕ
  finish z = tail_at h.format (seen_after start entries).first (seen_after start entries).key z >>= λ x. ended (h, rest) x.1

  reads_tail : finish tail ≡ Ok (h, rest)
  reads_tail =
      ap finish (sym (append-nil tail))
      ∙ bind_path (tail_at h.format (seen_after start entries).first (seen_after start entries).key (tail ++ [])) (λ x. ended (h, rest) x.1) ((seen_after start entries).key, []) (Ok (h, rest))
      ((tail_spells h.format (seen_after start entries).first (seen_after start entries).key).again (seen_after start entries).key [] refl) refl

  reads_file : file_at (text_of h ++ rest) ≡ Ok (h, rest)
  unfolding file_at
  reads_file =
      bind_path (header_at (text_of h ++ rest)) (λ x. after_walk x.0 x.1) (h, rest) (Ok (h, rest)) reads_head
      (ap (λ (r : Result (List Entry × List ℕ) ℕ). walked start r >>= λ s. tail_at h.format s.0.first s.0.key s.1 >>= λ x. ended (h, rest) x.1) reads_rows ∙ reads_tail)

  read_as : (bytes : List ℕ) → bytes ≡ text_as format from to b rows → IsReadAs bytes from to b rows
  read_as bytes e = record {
    header = h;
    rest = rest;
    reads = ap file_at (e ∙ text_is) ∙ reads_file;
    head = ap header_at (e ∙ text_is) ∙ reads_head;
    stand = record { entries = entries; rest = tail; are = reads_rows };
    are = back;
    from_is = refl;
    to_is = refl;
    bottom_is = refl;
  }

pub file_again : (bytes : List ℕ) (from to : ℕ) (b : Bottom) (rows : List Kept) → IsTextOf bytes from to b rows → IsReadAs bytes from to b rows
file_again bytes from to b rows t =
    let f = in_format bytes from to b rows t in
    read_as f.0 from to b rows t.has f.1 bytes f.2

-- ---- one table of a text

-- the rows that stand at the front of the bytes
pub rows_are : (h : Header) (rest : List ℕ) (s : HasRows h rest) (rows : List Kept) → map (kept_of h) s.entries ≡ rows → kept_in h (entries_in h rest) ≡ Ok rows
rows_are h more s rows e = ap (kept_in h) s.are ∙ ap (λ (l : List Kept). Ok l) e

abbrev kepts : List Kept → Result (List Kept) ℕ
kepts x = Ok x

kepts_is : (x y : List Kept) → kepts x ≡ kepts y → x ≡ y
kepts_is x y e = cc

pub same_rows : (h : Header) (rest : List ℕ) (rows others : List Kept) → kept_in h (entries_in h rest) ≡ Ok rows → kept_in h (entries_in h rest) ≡ Ok others → rows ≡ others
same_rows h more rows others e f = kepts_is rows others (sym e ∙ f)

pub record IsSame (from to : ℕ) (b : Bottom) (rows : List Kept) (from' to' : ℕ) (b' : Bottom) (rows' : List Kept) : Type 0 where
  pub from_is : from ≡ from'
  pub to_is : to ≡ to'
  pub bottom_is : b ≡ b'
  pub rows_are : rows ≡ rows'

pub texts_are : (bytes : List ℕ) (from to from' to' : ℕ) (b b' : Bottom) (rows rows' : List Kept) → IsTextOf bytes from to b rows → IsTextOf bytes from' to' b' rows' → IsSame from to b rows from' to' b' rows'
texts_are bytes from to from' to' b b' rows rows' t u =
    let x = file_again bytes from to b rows t in
    let y = file_again bytes from' to' b' rows' u in
    let one : Header × List ℕ = (x.header, x.rest) in
    let two : Header × List ℕ = (y.header, y.rest) in
    let same : one ≡ two = ok_is one two (sym x.reads ∙ y.reads) in
    record {
      from_is = sym x.from_is ∙ ap (λ (z : Header × List ℕ). z.0.from) same ∙ y.from_is;
      to_is = sym x.to_is ∙ ap (λ (z : Header × List ℕ). z.0.to) same ∙ y.to_is;
      bottom_is = sym x.bottom_is ∙ ap (λ (z : Header × List ℕ). z.0.bottom) same ∙ y.bottom_is;
      rows_are =
          kepts_is rows rows' (sym (rows_are x.header x.rest x.stand rows x.are) ∙ ap (λ (z : Header × List ℕ). kept_in z.0 (entries_in z.0 z.1)) same ∙ rows_are y.header y.rest y.stand rows' y.are);
    }
