-- Rows and their text, and the range of the keys after them.
use Rattle.std.proofs.Common.{◌≡◌, ℕ, zero, suc, ◌^◌, ◌<◌, ◌≤◌, Bool, true, false, cond, eqb, not, ◌&&◌, ◌||◌, nat_le, List, [], ◌∷◌, ◌++◌, length, Result, Ok, refl, sym, ap, subst, ◌∙◌, arith}
use Rattle.std.specs.Str.{bytes_eq}
use Rattle.std.specs.Int.{w16, to_le_bytes}
use Rattle.std.specs.List.{flat_map}
use Rattle.std.proofs.lemmas.Bool.{eqb-true, leb-true, le-leb, and_parts, eq-eqb}
use Rattle.std.proofs.lemmas.List.{append-nil}
use Rattle.std.proofs.lemmas.List.Concat.{flat_map-cons}
use Rattle.std.proofs.lemmas.Slice.Eq.{bytes_eq-Decides}
use Rattle.sv_model.specs.declared.writes.Op.{Op}
use Rattle.sv_model.specs.declared.writes.Op.TheVariants.{Put, Delete}
use Rattle.sv_model.specs.Journal.{is_delete}
use Rattle.sv_model.specs.TableText.{Format, One, Two, Three, key_text, end_text, op_text, AreBytes, IsStoredOp}
use Rattle.sv_model.specs.TableTextFields.{has_cuts, is_length, Shape, Seen, key_fits, number_fits, delete_fits, mark_fits, KeyLength, KeyBytes, EndNumber, OpMark, ValueLength, ValueBytes, LeastLength, LeastKey}
use Rattle.sv_table.specs.Reading.{◌>>=◌, Entry, checked, number_at, bytes_at, byte_at, key_at, end_at, value_at, op_at, entry_at, see_entry, entries_at, exact_key_at, has_range, tail_at}
use Rattle.sv_table.proofs.ReaderTexts.{Spells, Joins, spells_bind, spells_done, respelled}
use Rattle.sv_table.proofs.FieldTexts.{spells_u16, spells_byte, spells_bytes, spells_any_bytes, spells_these}

abbrev le16 : ℕ → List ℕ
le16 n = to_le_bytes w16 n

-- ---- the key

abbrev pub KeyFits : Shape → Seen → List ℕ → Type 0
KeyFits shape seen key = (is_length (length key) ≡ true) × (key_fits shape seen key ≡ true) × AreBytes key

pub key_spells : (shape : Shape) (seen : Seen) → Spells key_text (KeyFits shape seen) (key_at shape seen)
unfolding key_at
key_spells shape seen =
    spells_bind (λ (k : List ℕ). length k) (λ n. n ∷ []) (λ n. is_length n ≡ true) (λ bytes. checked is_length bytes (byte_at bytes))
    (λ n k. k) (λ n k. (length k ≡ n) × (key_fits shape seen k ≡ true) × AreBytes k) (λ n bytes. checked (λ key. key_fits shape seen key) bytes (bytes_at n bytes))
    key_text (KeyFits shape seen)
    (record {
      texts = λ k f. refl;
      whole = λ n k h f. (f.0, (ap is_length f.0 ∙ h, f.1, f.2));
      parts = λ k f. (f.0, (refl, f.1, f.2));
    })
    (spells_byte (KeyLength shape 0 seen) is_length refl (λ t. refl))
    (λ n h. spells_bytes (KeyBytes shape 0 seen n) n (λ key. key_fits shape seen key) refl (λ t. refl))

-- ---- the number of its end

abbrev pub NumberFits : Shape → Format → Seen → List ℕ → ℕ → Type 0
NumberFits shape One seen key n = n ≡ 0
NumberFits shape Two seen key n = n ≡ 0
NumberFits shape Three seen key n = number_fits shape seen key n ≡ true

abbrev end_in : Shape → Format → Seen → List ℕ → List ℕ → Result (ℕ × List ℕ) ℕ
end_in shape format seen key bytes = cond (has_cuts format) (checked (λ n. number_fits shape seen key n) bytes (byte_at bytes)) (Ok (0, bytes))

number_spells : (shape : Shape) (format : Format) (seen : Seen) (key : List ℕ) → Spells (end_text format) (NumberFits shape format seen key) (end_in shape format seen key)
number_spells shape One seen key = spells_done 0
number_spells shape Two seen key = spells_done 0
number_spells shape Three seen key = spells_byte (EndNumber shape 0 seen key) (λ n. number_fits shape seen key n) refl (λ t. refl)

pub end_spells : (shape : Shape) (seen : Seen) (key : List ℕ) → Spells (end_text shape.format) (NumberFits shape shape.format seen key) (end_at shape seen key)
unfolding end_at
end_spells shape seen key = number_spells shape shape.format seen key

-- ---- the op

abbrev ValueFits : List ℕ → Type 0
ValueFits v = (length v ≤ 1024) × AreBytes v

value_spells : Spells (λ v. le16 (length v) ++ v) ValueFits value_at
unfolding value_at
value_spells =
    spells_bind (λ (v : List ℕ). length v) le16 (λ n. (n < 2 ^ 16) × (nat_le n 1024 ≡ true)) (λ bytes. checked (λ n. nat_le n 1024) bytes (number_at w16 bytes))
    (λ n v. v) (λ n v. (length v ≡ n) × AreBytes v) (λ n bytes. bytes_at n bytes)
    (λ v. le16 (length v) ++ v) ValueFits
    (record {
      texts = λ v f. refl;
      whole = λ n v h f. (f.0, (omega (arith, leb-true n 1024 h.1, f.0), f.1));
      parts = λ v f. ((omega (arith, f.0), le-leb (length v) 1024 f.0), (refl, f.1));
    })
    (spells_u16 (ValueLength (record { format = One; last = true; cuts = 0 }) 0 (record { first = []; key = []; number = 0; deleted = false })) (λ n. nat_le n 1024) refl (λ t. refl))
    (λ n h. spells_any_bytes (ValueBytes (record { format = One; last = true; cuts = 0 }) 0 (record { first = []; key = []; number = 0; deleted = false }) n) n refl (λ t. refl))

abbrev mark_of : Op → ℕ
mark_of (Put v) = 1
mark_of Delete = 0

abbrev op_tail : Op → List ℕ
op_tail (Put v) = le16 (length v) ++ v
op_tail Delete = []

abbrev value_in : Op → List ℕ
value_in (Put v) = v
value_in Delete = []

abbrev Marked : ℕ → Op → Type 0
Marked n op = (mark_of op ≡ n) × IsStoredOp op

abbrev after_mark : Bool → List ℕ → Result (Op × List ℕ) ℕ
after_mark put bytes = cond put (value_at bytes >>= λ v. Ok (Put v.0, v.1)) (Ok (Delete, bytes))

put_joins : (n : ℕ) → n ≡ 1 → Joins value_in (λ v. le16 (length v) ++ v) ValueFits value_at (λ v op. []) (λ v op. op ≡ Put v) (λ v bytes. Ok (Put v, bytes)) op_tail (Marked n)
put_joins n one = record { texts = texts; whole = whole; parts = parts }
  where
    texts : (op : Op) → Marked n op → op_tail op ≡ (le16 (length (value_in op)) ++ value_in op) ++ []
    texts (Put v) f = sym (append-nil (le16 (length v) ++ v))
    texts Delete f = absurd (omega (arith, f.0, one))

    whole : (v : List ℕ) (op : Op) → ValueFits v → op ≡ Put v → (value_in op ≡ v) × Marked n op
    whole v op h e = subst (λ (z : Op). (value_in z ≡ v) × Marked n z) (sym e) (refl, (sym one, h))

    parts : (op : Op) → Marked n op → ValueFits (value_in op) × (op ≡ Put (value_in op))
    parts (Put v) f = (f.1, refl)
    parts Delete f = absurd (omega (arith, f.0, one))

deletes : (n : ℕ) → n ≡ 0 → (op : Op) → Marked n op → op ≡ Delete
deletes n none (Put v) f = absurd (omega (arith, f.0, none))
deletes n none Delete f = refl

mark_spells : (shape : Shape) (left n : ℕ) (put : Bool) → eqb n 1 ≡ put → (put || (eqb n 0 && delete_fits shape left)) ≡ true → Spells op_tail (Marked n) (after_mark put)
mark_spells shape left n true is rule =
    spells_bind value_in (λ v. le16 (length v) ++ v) ValueFits value_at (λ v op. []) (λ v op. op ≡ Put v) (λ v bytes. Ok (Put v, bytes)) op_tail (Marked n)
    (put_joins n (eqb-true n 1 is)) value_spells (λ v h. spells_done (Put v))
mark_spells shape left n false is rule =
    let none = eqb-true n 0 (and_parts (eqb n 0) (delete_fits shape left) rule).0 in
    respelled (λ (op : Op). []) op_tail (λ op. op ≡ Delete) (Marked n) (after_mark false)
    (λ op e. subst (λ (z : Op). ([] ≡ op_tail z) × Marked n z) (sym e) (refl, (sym none, tt)))
    (λ op f. deletes n none op f) (spells_done Delete)

abbrev pub OpFits : Shape → ℕ → Op → Type 0
OpFits shape left op = IsStoredOp op × ((not (is_delete op) || delete_fits shape left) ≡ true)

op_whole : (shape : Shape) (left n : ℕ) (op : Op) → mark_fits shape left n ≡ true → Marked n op → (mark_of op ≡ n) × OpFits shape left op
op_whole shape left n (Put v) h f = (f.0, (f.1, refl))
op_whole shape left n Delete h f =
    (f.0, (f.1, (and_parts true (delete_fits shape left) (subst (λ (m : ℕ). mark_fits shape left m ≡ true) (sym f.0) h)).1))

op_parts : (shape : Shape) (left : ℕ) (op : Op) → OpFits shape left op → (mark_fits shape left (mark_of op) ≡ true) × Marked (mark_of op) op
op_parts shape left (Put v) f = (refl, (refl, f.0))
op_parts shape left Delete f = (f.1, (refl, f.0))

op_texts : (op : Op) → op_text op ≡ (mark_of op ∷ []) ++ op_tail op
op_texts (Put v) = refl
op_texts Delete = refl

pub op_spells : (shape : Shape) (left : ℕ) → Spells op_text (OpFits shape left) (op_at shape left)
unfolding op_at
op_spells shape left =
    spells_bind mark_of (λ n. n ∷ []) (λ n. mark_fits shape left n ≡ true) (λ bytes. checked (λ n. mark_fits shape left n) bytes (byte_at bytes))
    (λ n op. op_tail op) (λ n op. Marked n op) (λ n bytes. after_mark (eqb n 1) bytes) op_text (OpFits shape left)
    (record {
      texts = λ op f. op_texts op;
      whole = λ n op h f. op_whole shape left n op h f;
      parts = λ op f. op_parts shape left op f;
    })
    (spells_byte (OpMark shape left (record { first = []; key = []; number = 0; deleted = false }) [] 0) (λ n. mark_fits shape left n) refl (λ t. refl))
    (λ n h. mark_spells shape left n (eqb n 1) refl h)

-- ---- the row

abbrev pub entry_text : Format → Entry → List ℕ
entry_text format e = key_text e.key ++ (end_text format e.number ++ op_text e.op)

pub record EntryFits (shape : Shape) (left : ℕ) (seen : Seen) (e : Entry) : Type 0 where
  pub key : KeyFits shape seen e.key
  pub number : NumberFits shape shape.format seen e.key e.number
  pub op : OpFits shape left e.op

module _ (shape : Shape) (left : ℕ) (seen : Seen) where
  abbrev AtOp : List ℕ → ℕ → Entry → Type 0
  AtOp key n e = (e ≡ record { key = key; number = n; op = e.op }) × OpFits shape left e.op

  abbrev AtEnd : List ℕ → Entry → Type 0
  AtEnd key e = (e ≡ record { key = key; number = e.number; op = e.op }) × NumberFits shape shape.format seen key e.number × OpFits shape left e.op

  abbrev after_end : List ℕ → ℕ → List ℕ → Result (Entry × List ℕ) ℕ
  after_end key n bytes = op_at shape left bytes >>= λ op. Ok (record { key = key; number = n; op = op.0 }, op.1)

  op_rest : (key : List ℕ) (n : ℕ) → Spells (λ e. op_text e.op) (AtOp key n) (after_end key n)
  op_rest key n =
      spells_bind (λ (e : Entry). e.op) op_text (OpFits shape left) (op_at shape left)
      (λ op e. []) (λ op e. e ≡ record { key = key; number = n; op = op }) (λ op bytes. Ok (record { key = key; number = n; op = op }, bytes))
      (λ e. op_text e.op) (AtOp key n)
      (record {
        texts = λ e f. sym (append-nil (op_text e.op));
        whole = λ op e h g.
            let same : e.op ≡ op = ap (λ (z : Entry). z.op) g in
            (same, (g ∙ (λ i. record { key = key; number = n; op = sym same i }), subst (OpFits shape left) (sym same) h));
        parts = λ e f. (f.1, f.0);
      })
      (op_spells shape left) (λ op h. spells_done (record { key = key; number = n; op = op }))

  end_rest : (key : List ℕ) → Spells (λ e. end_text shape.format e.number ++ op_text e.op) (AtEnd key) (λ bytes. end_at shape seen key bytes >>= λ n. after_end key n.0 n.1)
  end_rest key =
      spells_bind (λ (e : Entry). e.number) (end_text shape.format) (NumberFits shape shape.format seen key) (end_at shape seen key)
      (λ n e. op_text e.op) (λ n e. AtOp key n e) (λ n bytes. after_end key n bytes)
      (λ e. end_text shape.format e.number ++ op_text e.op) (AtEnd key)
      (record {
        texts = λ e f. refl;
        whole = λ n e h g.
            let same : e.number ≡ n = ap (λ (z : Entry). z.number) g.0 in
            (same, (g.0 ∙ (λ i. record { key = key; number = sym same i; op = e.op }), subst (NumberFits shape shape.format seen key) (sym same) h, g.1));
        parts = λ e f. (f.1, (f.0, f.2));
      })
      (end_spells shape seen key) (λ n h. op_rest key n)

  pub entry_spells : Spells (entry_text shape.format) (EntryFits shape left seen) (entry_at shape left seen)
  unfolding entry_at
  entry_spells =
      spells_bind (λ (e : Entry). e.key) key_text (KeyFits shape seen) (key_at shape seen)
      (λ key e. end_text shape.format e.number ++ op_text e.op) (λ key e. AtEnd key e) (λ key bytes. end_at shape seen key bytes >>= λ n. after_end key n.0 n.1)
      (entry_text shape.format) (EntryFits shape left seen)
      (record {
        texts = λ e f. refl;
        whole = λ key e h g.
            let same : e.key ≡ key = ap (λ (z : Entry). z.key) g.0 in (
              same,
              record {
                key = subst (KeyFits shape seen) (sym same) h;
                number = subst (λ (k : List ℕ). NumberFits shape shape.format seen k e.number) (sym same) g.1;
                op = g.2;
              },
            );
        parts = λ e f. (f.key, (refl, f.number, f.op));
      })
      (key_spells shape seen) (λ key h. end_rest key)

-- ---- the rows

abbrev pub EntriesFrom : Shape → Seen → List Entry → Type 0
EntriesFrom shape seen [] = Unit {0}
EntriesFrom shape seen (e ∷ entries) = EntryFits shape (length entries) seen e × EntriesFrom shape (see_entry seen e) entries

abbrev pub EntriesFit : Shape → ℕ → Seen → List Entry → Type 0
EntriesFit shape n seen entries = (length entries ≡ n) × EntriesFrom shape seen entries

abbrev pub entries_text : Format → List Entry → List ℕ
entries_text format entries = flat_map (entry_text format) entries

abbrev nothing : Entry
nothing = record { key = []; number = 0; op = Delete }

head_of : List Entry → Entry
head_of [] = nothing
head_of (x ∷ xs) = x

tail_of : List Entry → List Entry
tail_of [] = []
tail_of (x ∷ xs) = xs

module _ (shape : Shape) where
  -- what follows the first row
  abbrev Later : ℕ → Seen → Entry → List Entry → Type 0
  Later n seen e entries = (entries ≡ e ∷ tail_of entries) × EntriesFit shape n (see_entry seen e) (tail_of entries)

  later_joins : (n : ℕ) (seen : Seen) (e : Entry) → Joins tail_of (entries_text shape.format) (EntriesFit shape n (see_entry seen e)) (entries_at shape n (see_entry seen e)) (λ rest entries. []) (λ rest entries. entries ≡ e ∷ rest) (λ rest bytes. Ok (e ∷ rest, bytes)) (λ entries. entries_text shape.format (tail_of entries)) (Later n seen e)
  unfolding tail_of
  later_joins n seen e = record {
    texts = λ entries f. sym (append-nil (entries_text shape.format (tail_of entries)));
    whole = λ rest entries h g.
        let t : tail_of entries ≡ rest = ap tail_of g in
        (t, (g ∙ ap (λ (z : List Entry). e ∷ z) (sym t), subst (EntriesFit shape n (see_entry seen e)) (sym t) h));
    parts = λ entries f. (f.1, f.0);
  }

  first_joins : (n : ℕ) (seen : Seen) → Joins head_of (entry_text shape.format) (EntryFits shape n seen) (entry_at shape n seen) (λ e entries. entries_text shape.format (tail_of entries)) (Later n seen) (λ e bytes. entries_at shape n (see_entry seen e) bytes >>= λ others. Ok (e ∷ others.0, others.1)) (entries_text shape.format) (EntriesFit shape (suc n) seen)
  unfolding head_of tail_of
  first_joins n seen = record { texts = texts; whole = whole; parts = parts }
    where
      texts : (entries : List Entry) → EntriesFit shape (suc n) seen entries → entries_text shape.format entries ≡ entry_text shape.format (head_of entries) ++ entries_text shape.format (tail_of entries)
      texts [] f = absurd (omega (arith, f.0))
      texts (e ∷ entries) f = flat_map-cons (entry_text shape.format) e entries

      whole : (e : Entry) (entries : List Entry) → EntryFits shape n seen e → Later n seen e entries → (head_of entries ≡ e) × EntriesFit shape (suc n) seen entries
      whole e entries h f =
          (ap head_of f.0, subst (EntriesFit shape (suc n) seen) (sym f.0) (ap suc f.1.0, (subst (λ (m : ℕ). EntryFits shape m seen e) (sym f.1.0) h, f.1.1)))

      parts : (entries : List Entry) → EntriesFit shape (suc n) seen entries → EntryFits shape n seen (head_of entries) × Later n seen (head_of entries) entries
      parts [] f = absurd (omega (arith, f.0))
      parts (e ∷ entries) f =
          let same : length entries ≡ n = omega (arith, f.0) in
          (subst (λ (m : ℕ). EntryFits shape m seen e) same f.1.0, (refl, (same, f.1.1)))

  none_fits : (seen : Seen) (entries : List Entry) → EntriesFit shape 0 seen entries → entries ≡ []
  none_fits seen [] f = refl
  none_fits seen (e ∷ entries) f = absurd (omega (arith, f.0))

  pub entries_spells : (n : ℕ) (seen : Seen) → Spells (entries_text shape.format) (EntriesFit shape n seen) (entries_at shape n seen)
  unfolding entries_at
  entries_spells zero seen =
      respelled (λ (c : List Entry). []) (entries_text shape.format) (λ c. c ≡ []) (EntriesFit shape 0 seen) (λ bytes. Ok ([], bytes))
      (λ entries e. (sym (ap (entries_text shape.format) e), subst (EntriesFit shape 0 seen) (sym e) (refl, tt)))
      (λ entries f. none_fits seen entries f) (spells_done [])
  entries_spells (suc n) seen =
      spells_bind head_of (entry_text shape.format) (EntryFits shape n seen) (entry_at shape n seen) (λ e entries. entries_text shape.format (tail_of entries)) (Later n seen) (λ e bytes. entries_at shape n (see_entry seen e) bytes >>= λ others. Ok (e ∷ others.0, others.1)) (entries_text shape.format) (EntriesFit shape (suc n) seen)
      (first_joins n seen)
      (entry_spells shape n seen)
      (λ e h.
      spells_bind tail_of (entries_text shape.format) (EntriesFit shape n (see_entry seen e)) (entries_at shape n (see_entry seen e)) (λ rest entries. []) (λ rest entries. entries ≡ e ∷ rest) (λ rest bytes. Ok (e ∷ rest, bytes)) (λ entries. entries_text shape.format (tail_of entries)) (Later n seen e)
      (later_joins n seen e) (entries_spells n (see_entry seen e)) (λ rest f. spells_done (e ∷ rest)))

-- ---- the range of the keys

exact_spells : (key : List ℕ) → Spells key_text (λ k. k ≡ key) (exact_key_at key)
unfolding exact_key_at
exact_spells key =
    spells_bind (λ (k : List ℕ). length k) (λ n. n ∷ []) (λ n. eqb n (length key) ≡ true) (λ bytes. checked (λ n. eqb n (length key)) bytes (byte_at bytes))
    (λ n k. k) (λ n k. (length k ≡ n) × (k ≡ key)) (λ n bytes. checked (λ k. bytes_eq k key) bytes (bytes_at n bytes) >>= λ k. Ok (key, k.1))
    key_text (λ k. k ≡ key)
    (record {
      texts = λ k f. refl;
      whole = λ n k h f. (f.0, f.1);
      parts = λ k f. (eq-eqb (length k) (length key) (ap (λ (z : List ℕ). length z) f), (refl, f));
    })
    (spells_byte (LeastLength key key) (λ n. eqb n (length key)) refl (λ t. refl))
    (λ n h.
    spells_bind (λ (k : List ℕ). k) (λ k. k) (λ k. (length k ≡ n) × (bytes_eq k key ≡ true)) (λ bytes. checked (λ k. bytes_eq k key) bytes (bytes_at n bytes))
    (λ k c. []) (λ k c. c ≡ key) (λ k bytes. Ok (key, bytes)) (λ k. k) (λ k. (length k ≡ n) × (k ≡ key))
    (record {
      texts = λ k f. sym (append-nil k);
      whole = λ k c g e.
          let same : c ≡ k = e ∙ sym ((bytes_eq-Decides k key).0 g.1) in
          (same, (ap (λ (z : List ℕ). length z) same ∙ g.0, e));
      parts = λ k f. ((f.0, (bytes_eq-Decides k key).1 f.1), f.1);
    })
    (spells_these (LeastKey key key n) n (λ k. bytes_eq k key) refl (λ t. refl))
    (λ k g. spells_done key))

abbrev pub tail_text : Format → List ℕ → List ℕ → List ℕ
tail_text format least greatest = cond (has_range format least) (key_text least ++ key_text greatest) []

range_spells : (least greatest : List ℕ) (range : Bool) → Spells (λ (g : List ℕ). cond range (key_text least ++ key_text g) []) (λ g. g ≡ greatest) (λ bytes. cond range (exact_key_at least bytes >>= λ x. exact_key_at greatest x.1) (Ok (greatest, bytes)))
range_spells least greatest false = spells_done greatest
range_spells least greatest true =
    spells_bind (λ (g : List ℕ). least) key_text (λ k. k ≡ least) (exact_key_at least)
    (λ k g. key_text g) (λ k g. g ≡ greatest) (λ k bytes. exact_key_at greatest bytes) (λ (g : List ℕ). key_text least ++ key_text g) (λ g. g ≡ greatest)
    (record {
      texts = λ g f. refl;
      whole = λ k g h f. (sym h, f);
      parts = λ g f. (refl, f);
    })
    (exact_spells least) (λ k h. exact_spells greatest)

pub tail_spells : (format : Format) (least greatest : List ℕ) → Spells (λ (g : List ℕ). tail_text format least g) (λ g. g ≡ greatest) (tail_at format least greatest)
unfolding tail_at
tail_spells format least greatest = range_spells least greatest (has_range format least)
