-- A header and its text.
use Rattle.std.proofs.Common.{◌≡◌, ℕ, zero, suc, ◌^◌, ◌<◌, ◌≤◌, Bool, true, false, cond, eqb, ◌||◌, nat_lt, List, [], ◌∷◌, ◌++◌, length, Result, Ok, refl, sym, ap, subst, ◌∙◌, append_assoc, arith, rules}
use Rattle.std.specs.Str.{bytes_eq}
use Rattle.std.specs.Int.{w32, w64, to_le_bytes}
use Rattle.std.specs.List.{flat_map}
use Rattle.std.specs.Cmp.Derive.{both_true}
use Rattle.std.proofs.lemmas.Bool.{eqb-true, leb-true, ltb-true, lt-ltb, and_parts}
use Rattle.std.proofs.lemmas.List.{append-nil}
use Rattle.std.proofs.lemmas.List.Concat.{flat_map-cons}
use Rattle.std.proofs.lemmas.Slice.Eq.{bytes_eq-Decides}
use Rattle.sv_model.specs.declared.cuts.Bottom.{Bottom}
use Rattle.sv_model.specs.Flat.{CutsFrom}
use Rattle.sv_model.specs.TableText.{Format, One, Two, Three, magic, flag, cuts_text, header_text, AreBytes}
use Rattle.sv_model.specs.TableTextFields.{is_magic, format_of, has_cuts, is_flag, is_cut, is_count, is_length, Magic, From, To, LastFlag, CutCount, Cut, Count}
use Rattle.sv_table.specs.Reading.{◌>>=◌, Header, checked, number_at, bytes_at, byte_at, format_at, range_at, each_cut_at, some_cuts_at, bottom_at, header_at}
use Rattle.sv_table.proofs.ReaderTexts.{Spells, Joins, spells_bind, spells_done, respelled}
use Rattle.sv_table.proofs.FieldTexts.{spells_u64, spells_any_u64, spells_u32, spells_byte, spells_bytes}

-- ---- the magic

abbrev pub AnyFormat : Format → Type 0
AnyFormat f = Unit {0}

told : (m : List ℕ) (one two three : Bool) → bytes_eq m (magic One) ≡ one → bytes_eq m (magic Two) ≡ two → bytes_eq m (magic Three) ≡ three → (one || (two || three)) ≡ true
    → magic (cond one One (cond two Two Three)) ≡ m
told m true two three p q r e = sym ((bytes_eq-Decides m (magic One)).0 p)
told m false true three p q r e = sym ((bytes_eq-Decides m (magic Two)).0 q)
told m false false true p q r e = sym ((bytes_eq-Decides m (magic Three)).0 r)
told m false false false p q r e = absurd (cc e)

magic_told : (m : List ℕ) → is_magic m ≡ true → magic (format_of m) ≡ m
magic_told m e = told m (bytes_eq m (magic One)) (bytes_eq m (magic Two)) (bytes_eq m (magic Three)) refl refl refl e

magic_fits : (f : Format) → (length (magic f) ≡ 8) × (is_magic (magic f) ≡ true) × AreBytes (magic f)
magic_fits One = (refl, refl, search rules)
magic_fits Two = (refl, refl, search rules)
magic_fits Three = (refl, refl, search rules)

magic_format : (f : Format) → f ≡ format_of (magic f)
magic_format One = refl
magic_format Two = refl
magic_format Three = refl

pub format_spells : Spells magic AnyFormat format_at
unfolding format_at
format_spells =
    spells_bind magic (λ m. m) (λ m. (length m ≡ 8) × (is_magic m ≡ true) × AreBytes m) (λ bytes. checked is_magic bytes (bytes_at 8 bytes))
    (λ m f. []) (λ m f. f ≡ format_of m) (λ m bytes. Ok (format_of m, bytes)) magic AnyFormat
    (record {
      texts = λ f _. sym (append-nil (magic f));
      whole = λ m f h e. (ap magic e ∙ magic_told m h.1, tt);
      parts = λ f _. (magic_fits f, magic_format f);
    })
    (spells_bytes Magic 8 is_magic refl (λ t. refl))
    (λ m h. spells_done (format_of m))

-- ---- the range

abbrev pub le64 : ℕ → List ℕ
le64 n = to_le_bytes w64 n

abbrev pub RangeFits : ℕ × ℕ → Type 0
RangeFits r = (nat_lt r.0 r.1 ≡ true) × (r.1 < 2 ^ 64)

low_fits : (from to : ℕ) → nat_lt from to ≡ true → to < 2 ^ 64 → from < 2 ^ 64
low_fits from to lt le = omega (arith, ltb-true from to lt)

pub range_spells : Spells (λ r. le64 r.0 ++ le64 r.1) RangeFits range_at
unfolding range_at
range_spells =
    spells_bind (λ (r : ℕ × ℕ). r.0) le64 (λ n. n < 2 ^ 64) (number_at w64)
    (λ from r. le64 r.1) (λ from r. (r.0 ≡ from) × (nat_lt from r.1 ≡ true) × (r.1 < 2 ^ 64)) (λ from bytes. checked (λ n. nat_lt from n) bytes (number_at w64 bytes) >>= λ to. Ok ((from, to.0), to.1))
    (λ r. le64 r.0 ++ le64 r.1) RangeFits
    (record {
      texts = λ r _. refl;
      whole = λ from r h e. (e.0, (subst (λ (n : ℕ). nat_lt n r.1 ≡ true) (sym e.0) e.1, e.2));
      parts = λ r f. (low_fits r.0 r.1 f.0 f.1, (refl, f.0, f.1));
    })
    (spells_any_u64 (From One) refl (λ t. refl))
    (λ from h.
    spells_bind (λ (r : ℕ × ℕ). r.1) le64 (λ n. (n < 2 ^ 64) × (nat_lt from n ≡ true)) (λ bytes. checked (λ n. nat_lt from n) bytes (number_at w64 bytes))
    (λ to r. []) (λ to r. r ≡ (from, to)) (λ to bytes. Ok ((from, to), bytes))
    (λ r. le64 r.1) (λ r. (r.0 ≡ from) × (nat_lt from r.1 ≡ true) × (r.1 < 2 ^ 64))
    (record {
      texts = λ r _. sym (append-nil (le64 r.1));
      whole = λ to r h e.
          let second : r.1 ≡ to = ap (λ (z : ℕ × ℕ). z.1) e in
          (second, (ap (λ (z : ℕ × ℕ). z.0) e, subst (λ (n : ℕ). nat_lt from n ≡ true) (sym second) h.1, subst (λ (n : ℕ). n < 2 ^ 64) (sym second) h.0));
      parts = λ r f. ((f.2, f.1), λ i. (f.0 i, r.1));
    })
    (spells_u64 (To One from) (λ n. nat_lt from n) refl (λ t. refl))
    (λ to h. spells_done (from, to)))

-- ---- the cuts

abbrev pub cuts_text_of : List ℕ → List ℕ
cuts_text_of cuts = flat_map le64 cuts

abbrev pub EachFits : ℕ → ℕ → ℕ → List ℕ → Type 0
EachFits n low to cuts = (length cuts ≡ n) × CutsFrom low cuts to

head_of : List ℕ → ℕ
head_of [] = 0
head_of (x ∷ xs) = x

tail_of : List ℕ → List ℕ
tail_of [] = []
tail_of (x ∷ xs) = xs

is_cut_from : (low to cut : ℕ) → suc low ≤ cut → suc cut ≤ to → is_cut low to cut ≡ true
is_cut_from low to cut p q = both_true (lt-ltb low cut (omega arith)) (lt-ltb cut to (omega arith))

cut_from_is : (low to cut : ℕ) → is_cut low to cut ≡ true → (suc low ≤ cut) × (suc cut ≤ to)
cut_from_is low to cut e =
    let p = and_parts (nat_lt low cut) (nat_lt cut to) e in
    let a = ltb-true low cut p.0 in
    let b = ltb-true cut to p.1 in
    (omega arith, omega arith)

module _ (to : ℕ) (in_range : to < 2 ^ 64) where
  abbrev CutFits : ℕ → ℕ → Type 0
  CutFits low n = (n < 2 ^ 64) × (is_cut low to n ≡ true)

  -- what follows the first cut
  abbrev Later : ℕ → ℕ → ℕ → List ℕ → Type 0
  Later low n cut cuts = (cuts ≡ cut ∷ tail_of cuts) × (EachFits n cut to (tail_of cuts))

  later_joins : (n low cut : ℕ) → Joins tail_of cuts_text_of (EachFits n cut to) (each_cut_at n cut to) (λ rest cuts. []) (λ rest cuts. cuts ≡ cut ∷ rest) (λ rest bytes. Ok (cut ∷ rest, bytes)) (λ cuts. cuts_text_of (tail_of cuts)) (Later low n cut)
  unfolding tail_of
  later_joins n low cut = record {
    texts = λ cuts f. sym (append-nil (cuts_text_of (tail_of cuts)));
    whole = λ rest cuts h e.
        let t : tail_of cuts ≡ rest = ap tail_of e in
        (t, (e ∙ ap (λ (z : List ℕ). cut ∷ z) (sym t), subst (EachFits n cut to) (sym t) h));
    parts = λ cuts f. (f.1, f.0);
  }

  first_joins : (n low : ℕ) → Joins head_of le64 (CutFits low) (λ bytes. checked (λ c. is_cut low to c) bytes (number_at w64 bytes)) (λ cut cuts. cuts_text_of (tail_of cuts)) (Later low n) (λ cut bytes. each_cut_at n cut to bytes >>= λ cuts. Ok (cut ∷ cuts.0, cuts.1)) cuts_text_of (EachFits (suc n) low to)
  unfolding head_of tail_of
  first_joins n low = record { texts = texts; whole = whole; parts = parts }
    where
      texts : (cuts : List ℕ) → EachFits (suc n) low to cuts → cuts_text_of cuts ≡ le64 (head_of cuts) ++ cuts_text_of (tail_of cuts)
      texts [] f = absurd (omega (arith, f.0))
      texts (cut ∷ cuts) f = flat_map-cons le64 cut cuts

      whole : (cut : ℕ) (cuts : List ℕ) → CutFits low cut → Later low n cut cuts → (head_of cuts ≡ cut) × EachFits (suc n) low to cuts
      whole cut cuts h f =
          let p = cut_from_is low to cut h.1 in
          (ap head_of f.0, subst (EachFits (suc n) low to) (sym f.0) (ap suc f.1.0, (p.0, p.1, f.1.1)))

      parts : (cuts : List ℕ) → EachFits (suc n) low to cuts → CutFits low (head_of cuts) × Later low n (head_of cuts) cuts
      parts [] f = absurd (omega (arith, f.0))
      parts (cut ∷ cuts) f = ((omega arith, is_cut_from low to cut f.1.0 f.1.1), (refl, (omega (arith, f.0), f.1.2)))

  none_fits : (low : ℕ) (cuts : List ℕ) → EachFits 0 low to cuts → cuts ≡ []
  none_fits low [] f = refl
  none_fits low (cut ∷ cuts) f = absurd (omega (arith, f.0))

  pub each_spells : (n low : ℕ) → Spells cuts_text_of (EachFits n low to) (each_cut_at n low to)
  unfolding each_cut_at
  each_spells zero low =
      respelled (λ (c : List ℕ). []) cuts_text_of (λ c. c ≡ []) (EachFits 0 low to) (λ bytes. Ok ([], bytes))
      (λ cuts e. (sym (ap cuts_text_of e), subst (EachFits 0 low to) (sym e) (refl, tt)))
      (λ cuts f. none_fits low cuts f) (spells_done [])
  each_spells (suc n) low =
      spells_bind head_of le64 (CutFits low) (λ bytes. checked (λ c. is_cut low to c) bytes (number_at w64 bytes)) (λ cut cuts. cuts_text_of (tail_of cuts)) (Later low n) (λ cut bytes. each_cut_at n cut to bytes >>= λ cuts. Ok (cut ∷ cuts.0, cuts.1)) cuts_text_of (EachFits (suc n) low to)
      (first_joins n low)
      (spells_u64 (Cut 0 to true 0 0 low) (λ c. is_cut low to c) refl (λ t. refl))
      (λ cut h.
      spells_bind tail_of cuts_text_of (EachFits n cut to) (each_cut_at n cut to) (λ rest cuts. []) (λ rest cuts. cuts ≡ cut ∷ rest) (λ rest bytes. Ok (cut ∷ rest, bytes)) (λ cuts. cuts_text_of (tail_of cuts)) (Later low n cut)
      (later_joins n low cut) (each_spells n cut) (λ rest f. spells_done (cut ∷ rest)))

  -- the number of cuts, and the cuts
  abbrev pub SomeFit : ℕ → List ℕ → Type 0
  SomeFit from cuts = (is_length (length cuts) ≡ true) × CutsFrom from cuts to

  pub some_spells : (from : ℕ) → Spells (λ cuts. (length cuts ∷ []) ++ cuts_text_of cuts) (SomeFit from) (some_cuts_at from to)
  unfolding some_cuts_at
  some_spells from =
      spells_bind (λ (cuts : List ℕ). length cuts) (λ n. n ∷ []) (λ n. is_length n ≡ true) (λ bytes. checked is_length bytes (byte_at bytes))
      (λ n cuts. cuts_text_of cuts) (λ n cuts. EachFits n from to cuts) (λ n bytes. each_cut_at n from to bytes)
      (λ cuts. (length cuts ∷ []) ++ cuts_text_of cuts) (SomeFit from)
      (record {
        texts = λ cuts f. refl;
        whole = λ n cuts h f. (f.0, (ap is_length f.0 ∙ h, f.1));
        parts = λ cuts f. (f.0, (refl, f.1));
      })
      (spells_byte (CutCount from to true) is_length refl (λ t. refl))
      (λ n h. each_spells n from)

-- the cuts in a format
abbrev pub CutsFit : Format → ℕ → ℕ → List ℕ → Type 0
CutsFit One from to cuts = cuts ≡ []
CutsFit Two from to cuts = cuts ≡ []
CutsFit Three from to cuts = (is_length (length cuts) ≡ true) × CutsFrom from cuts to

abbrev cuts_at : Format → ℕ → ℕ → List ℕ → Result (List ℕ × List ℕ) ℕ
cuts_at format from to bytes = cond (has_cuts format) (some_cuts_at from to bytes) (Ok ([], bytes))

cuts_spells : (format : Format) (from to : ℕ) → to < 2 ^ 64 → Spells (cuts_text format) (CutsFit format from to) (cuts_at format from to)
cuts_spells One from to in_range = spells_done []
cuts_spells Two from to in_range = spells_done []
cuts_spells Three from to in_range = some_spells to in_range from

-- ---- the bottom

abbrev pub BottomFits : Format → ℕ → ℕ → Bottom → Type 0
BottomFits format from to b = (is_flag format (flag b.last) ≡ true) × CutsFit format from to b.cuts

flag_below : (b : ℕ) → b ≤ 1 → flag (eqb b 1) ≡ b
flag_below zero le = refl
flag_below (suc zero) le = refl
flag_below (suc (suc b)) le = absurd (omega arith)

flag_of : (format : Format) (b : ℕ) → is_flag format b ≡ true → flag (eqb b 1) ≡ b
flag_of One b e = flag_below b (leb-true b 1 e)
flag_of Two b e = flag_below b (omega (arith, eqb-true b 1 e))
flag_of Three b e = flag_below b (leb-true b 1 e)

flag_back : (last : Bool) → last ≡ eqb (flag last) 1
flag_back true = refl
flag_back false = refl

pub bottom_spells : (format : Format) (from to : ℕ) → to < 2 ^ 64 → Spells (λ b. (flag b.last ∷ []) ++ cuts_text format b.cuts) (BottomFits format from to) (bottom_at format from to)
unfolding bottom_at
bottom_spells format from to in_range =
    spells_bind (λ (b : Bottom). flag b.last) (λ n. n ∷ []) (λ n. is_flag format n ≡ true) (λ bytes. checked (λ n. is_flag format n) bytes (byte_at bytes))
    (λ n b. cuts_text format b.cuts) (λ n b. (b.last ≡ eqb n 1) × CutsFit format from to b.cuts) (λ n bytes. cuts_at format from to bytes >>= λ cuts. Ok (record { last = eqb n 1; cuts = cuts.0 }, cuts.1))
    (λ b. (flag b.last ∷ []) ++ cuts_text format b.cuts) (BottomFits format from to)
    (record {
      texts = λ b f. refl;
      whole = λ n b h f.
          let same : flag b.last ≡ n = ap flag f.0 ∙ flag_of format n h in
          (same, (ap (is_flag format) same ∙ h, f.1));
      parts = λ b f. (f.0, (flag_back b.last, f.1));
    })
    (spells_byte (LastFlag format from to) (λ n. is_flag format n) refl (λ t. refl))
    (λ n h.
    spells_bind (λ (b : Bottom). b.cuts) (cuts_text format) (CutsFit format from to) (cuts_at format from to)
    (λ cuts b. []) (λ cuts b. b ≡ record { last = eqb n 1; cuts = cuts }) (λ cuts bytes. Ok (record { last = eqb n 1; cuts = cuts }, bytes))
    (λ b. cuts_text format b.cuts) (λ b. (b.last ≡ eqb n 1) × CutsFit format from to b.cuts)
    (record {
      texts = λ b f. sym (append-nil (cuts_text format b.cuts));
      whole = λ cuts b h e.
          let second : b.cuts ≡ cuts = ap (λ (z : Bottom). z.cuts) e in
          (second, (ap (λ (z : Bottom). z.last) e, subst (CutsFit format from to) (sym second) h));
      parts = λ b f. (f.1, λ i. record { last = f.0 i; cuts = b.cuts });
    })
    (cuts_spells format from to in_range)
    (λ cuts h. spells_done (record { last = eqb n 1; cuts = cuts })))

-- ---- the header

pub record HeaderFits (h : Header) : Type 0 where
  pub range : nat_lt h.from h.to ≡ true
  pub in_range : h.to < 2 ^ 64
  pub bottom : BottomFits h.format h.from h.to h.bottom
  pub counted : is_count h.from h.to h.bottom.last h.count ≡ true
  pub few : h.count < 2 ^ 32

abbrev pub text_of : Header → List ℕ
text_of h = header_text h.format h.from h.to h.bottom h.count

module _ (format : Format) where
  abbrev AfterMagic : Header → Type 0
  AfterMagic h = (h.format ≡ format) × HeaderFits h

  abbrev bottom_text : Bottom → List ℕ
  bottom_text b = (flag b.last ∷ []) ++ cuts_text format b.cuts

  abbrev range_text : ℕ × ℕ → List ℕ
  range_text r = le64 r.0 ++ le64 r.1

  abbrev after_bottom : ℕ × ℕ → Bottom → List ℕ → Result (Header × List ℕ) ℕ
  after_bottom r b bytes =
      checked (λ n. is_count r.0 r.1 b.last n) bytes (number_at w32 bytes) >>= λ count. Ok (record { format = format; from = r.0; to = r.1; bottom = b; count = count.0 }, count.1)

  abbrev after_range : ℕ × ℕ → List ℕ → Result (Header × List ℕ) ℕ
  after_range r bytes = bottom_at format r.0 r.1 bytes >>= λ b. after_bottom r b.0 b.1

  abbrev made : ℕ × ℕ → Bottom → ℕ → Header
  made r b n = record { format = format; from = r.0; to = r.1; bottom = b; count = n }

  abbrev CountFits : ℕ × ℕ → Bottom → ℕ → Type 0
  CountFits r b n = (n < 2 ^ 32) × (is_count r.0 r.1 b.last n ≡ true)

  -- the count, after all that stands before it
  abbrev AtCount : ℕ × ℕ → Bottom → Header → Type 0
  AtCount r b h = (h ≡ made r b h.count) × CountFits r b h.count

  abbrev AtBottom : ℕ × ℕ → Header → Type 0
  AtBottom r h = (h ≡ made r h.bottom h.count) × BottomFits format r.0 r.1 h.bottom × CountFits r h.bottom h.count

  abbrev AtRange : Header → Type 0
  AtRange h = (h ≡ made (h.from, h.to) h.bottom h.count) × RangeFits (h.from, h.to) × BottomFits format h.from h.to h.bottom × CountFits (h.from, h.to) h.bottom h.count

  count_spells : (r : ℕ × ℕ) (b : Bottom) → Spells (λ h. to_le_bytes w32 h.count) (AtCount r b) (after_bottom r b)
  count_spells r b =
      spells_bind (λ (h : Header). h.count) (to_le_bytes w32) (CountFits r b) (λ bytes. checked (λ n. is_count r.0 r.1 b.last n) bytes (number_at w32 bytes))
      (λ n h. []) (λ n h. h ≡ made r b n) (λ n bytes. Ok (made r b n, bytes))
      (λ h. to_le_bytes w32 h.count) (AtCount r b)
      (record {
        texts = λ h f. sym (append-nil (to_le_bytes w32 h.count));
        whole = λ n h g e.
            let same : h.count ≡ n = ap (λ (z : Header). z.count) e in
            (same, (e ∙ ap (made r b) (sym same), subst (CountFits r b) (sym same) g));
        parts = λ h f. (f.1, f.0);
      })
      (spells_u32 (Count r.0 r.1 (record { format = format; last = b.last; cuts = 0 })) (λ n. is_count r.0 r.1 b.last n) refl (λ t. refl))
      (λ n g. spells_done (made r b n))

  rest_spells : (r : ℕ × ℕ) → RangeFits r → Spells (λ h. bottom_text h.bottom ++ to_le_bytes w32 h.count) (AtBottom r) (after_range r)
  rest_spells r fits =
      spells_bind (λ (h : Header). h.bottom) bottom_text (BottomFits format r.0 r.1) (bottom_at format r.0 r.1)
      (λ b h. to_le_bytes w32 h.count) (λ b h. AtCount r b h) (λ b bytes. after_bottom r b bytes)
      (λ h. bottom_text h.bottom ++ to_le_bytes w32 h.count) (AtBottom r)
      (record {
        texts = λ h f. refl;
        whole = λ b h g e.
            let same : h.bottom ≡ b = ap (λ (z : Header). z.bottom) e.0 in
            (same, (e.0 ∙ ap (λ (z : Bottom). made r z h.count) (sym same), subst (BottomFits format r.0 r.1) (sym same) g, subst (λ (z : Bottom). CountFits r z h.count) (sym same) e.1));
        parts = λ h f. (f.1, (f.0, f.2));
      })
      (bottom_spells format r.0 r.1 fits.1)
      (λ b g. count_spells r b)

  whole_spells : Spells (λ h. range_text (h.from, h.to) ++ (bottom_text h.bottom ++ to_le_bytes w32 h.count)) AtRange (λ bytes. range_at bytes >>= λ r. after_range r.0 r.1)
  whole_spells =
      spells_bind (λ (h : Header). (h.from, h.to)) range_text RangeFits range_at
      (λ r h. bottom_text h.bottom ++ to_le_bytes w32 h.count) (λ r h. AtBottom r h) (λ r bytes. after_range r bytes)
      (λ h. range_text (h.from, h.to) ++ (bottom_text h.bottom ++ to_le_bytes w32 h.count)) AtRange
      (record {
        texts = λ h f. refl;
        whole = λ r h g e.
            let same : (h.from, h.to) ≡ r = ap (λ (z : Header). (z.from, z.to)) e.0 in (
              same,
              (
                e.0 ∙ ap (λ (z : ℕ × ℕ). made z h.bottom h.count) (sym same),
                subst RangeFits (sym same) g,
                subst (λ (z : ℕ × ℕ). BottomFits format z.0 z.1 h.bottom) (sym same) e.1,
                subst (λ (z : ℕ × ℕ). CountFits z h.bottom h.count) (sym same) e.2,
              ),
            );
        parts = λ h f. (f.1, (f.0, f.2, f.3));
      })
      range_spells
      (λ r g. rest_spells r g)

regroup : (m a b c d e : List ℕ) → m ++ ((a ++ b) ++ ((c ++ d) ++ e)) ≡ m ++ (a ++ (b ++ (c ++ (d ++ e))))
regroup m a b c d e = simp append_assoc

header_plain : Spells (λ h. magic h.format ++ (range_text h.format (h.from, h.to) ++ (bottom_text h.format h.bottom ++ to_le_bytes w32 h.count))) HeaderFits header_at
unfolding header_at
header_plain =
    spells_bind (λ (h : Header). h.format) magic AnyFormat format_at
    (λ f h. range_text f (h.from, h.to) ++ (bottom_text f h.bottom ++ to_le_bytes w32 h.count)) (λ f h. AtRange f h) (λ f bytes. range_at bytes >>= λ r. after_range f r.0 r.1)
    (λ h. magic h.format ++ (range_text h.format (h.from, h.to) ++ (bottom_text h.format h.bottom ++ to_le_bytes w32 h.count))) HeaderFits
    (record {
      texts = λ h f. refl;
      whole = λ f h g e.
          let same : h.format ≡ f = ap (λ (z : Header). z.format) e.0 in (
            same,
            record {
              range = e.1.0;
              in_range = e.1.1;
              bottom = subst (λ (z : Format). BottomFits z h.from h.to h.bottom) (sym same) e.2;
              counted = e.3.1;
              few = e.3.0;
            },
          );
      parts = λ h f. (tt, (refl, (f.range, f.in_range), f.bottom, (f.few, f.counted)));
    })
    format_spells
    (λ f g. whole_spells f)

pub header_spells : Spells text_of HeaderFits header_at
header_spells =
    respelled (λ h. magic h.format ++ (range_text h.format (h.from, h.to) ++ (bottom_text h.format h.bottom ++ to_le_bytes w32 h.count))) text_of HeaderFits HeaderFits header_at
    (λ h f. (regroup (magic h.format) (le64 h.from) (le64 h.to) (flag h.bottom.last ∷ []) (cuts_text h.format h.bottom.cuts) (to_le_bytes w32 h.count), f))
    (λ h f. f) header_plain
