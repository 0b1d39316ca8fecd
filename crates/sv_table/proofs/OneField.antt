-- Reading one field: it stands at the front and is given, or no such field stands there.
use Rattle.std.proofs.Common.{◌≡◌, ℕ, ◌+◌, ◌<◌, Bool, true, false, cond, ltb, List, [], ◌∷◌, ◌++◌, length, get_or, take, drop, Result, Ok, Err, ◌⊎◌, refl, sym, ap, subst, ◌∙◌, arith, inl, inr}
use Rattle.std.specs.Int.{Width, byte_len, from_le_bytes}
use Rattle.std.proofs.lemmas.Bool.{cases_lt, ltb-true, ltb-false, le-ltb}
use Rattle.std.proofs.lemmas.List.{take_at, drop_at, take-append-drop, length-append, length-take-le, get_or-append-add, get_or_past}
use Rattle.std.proofs.Math.ListN.{get_or-append}
use Rattle.sv_model.specs.TableTextFields.{Field, width, meets, byte, IsField}
use Rattle.sv_table.specs.Reading.{◌>>=◌, number_at, bytes_at, byte_at, checked}

-- ---- lists

pub same_front : (a b x y : List ℕ) → a ++ x ≡ b ++ y → length a ≡ length b → (a ≡ b) × (x ≡ y)
same_front a b x y e len = (
  sym (take_at a x (length b) len) ∙ ap (take (length b)) e ∙ take_at b y (length b) refl,
  sym (drop_at a x (length b) len) ∙ ap (drop (length b)) e ∙ drop_at b y (length b) refl,
)

abbrev pub IsBytes : List ℕ → Type 0
IsBytes bytes = (i : ℕ) → get_or bytes i 0 < 256

pub bytes_rest : (text rest : List ℕ) → IsBytes (text ++ rest) → IsBytes rest
bytes_rest text rest fits i = subst (λ (n : ℕ). n < 256) (get_or-append-add text rest i 0) (fits (length text + i))

pub bytes_text : (text rest : List ℕ) → IsBytes (text ++ rest) → IsBytes text
bytes_text text rest fits i =
    elim (cases_lt i (length text)) [
      | inl lt ↦ subst (λ (n : ℕ). n < 256) (get_or-append text rest 0 i lt) (fits i)
      | inr le ↦ rw (get_or_past text i 0 le) (omega arith)
    ]

-- ---- one field

-- the field stands at the front, and is given
pub record Found (field : Field) {X : Type 0} (value : List ℕ → X) (bytes : List ℕ) (read : Result (X × List ℕ) ℕ) : Type 0 where
  pub text : List ℕ
  pub rest : List ℕ
  pub parts : bytes ≡ text ++ rest
  pub is : IsField field text
  pub gives : read ≡ Ok (value text, rest)

-- no such field stands at the front
pub record Stuck (field : Field) (bytes : List ℕ) : Type 0 where
  pub none : (text more : List ℕ) → IsField field text → bytes ≡ text ++ more → ⊥

abbrev pub Reads : (field : Field) {X : Type 0} → (List ℕ → X) → List ℕ → Result (X × List ℕ) ℕ → Type 0
Reads field value bytes read = Found field value bytes read ⊎ ((read ≡ Err (length bytes)) × Stuck field bytes)

short_stuck : (field : Field) (bytes : List ℕ) → length bytes < width field → Stuck field bytes
short_stuck field bytes lt = record { none = λ text more is e. absurd (omega (arith, is.whole, ap length e, length-append text more)) }

wrong_stuck : (field : Field) (bytes : List ℕ) → meets field (take (width field) bytes) ≡ false → Stuck field bytes
wrong_stuck field bytes wrong = record {
  none = λ text more is e.
      let front : take (width field) bytes ≡ text = ap (take (width field)) e ∙ take_at text more (width field) is.whole in
      let clash : true ≡ false = sym is.rule ∙ ap (meets field) (sym front) ∙ wrong in
      absurd (cc clash);
}

pub reads_core : (field : Field) {X : Type 0} (value : List ℕ → X) (bytes : List ℕ) (n : ℕ) (short good : Bool) → n ≡ width field → ltb (length bytes) n ≡ short → meets field (take n bytes) ≡ good
    → Reads field value bytes (cond short (Err (length bytes)) (cond good (Ok (value (take n bytes), drop n bytes)) (Err (length bytes))))
reads_core field value bytes n true good w s m = inr (refl, short_stuck field bytes (omega (arith, ltb-true _ _ s, w)))
reads_core field value bytes n false false w s m = inr (refl, wrong_stuck field bytes (ap (λ (k : ℕ). meets field (take k bytes)) (sym w) ∙ m))
reads_core field value bytes n false true w s m = inl record {
  text = take n bytes;
  rest = drop n bytes;
  parts = sym (take-append-drop n bytes);
  is = record { whole = length-take-le n bytes (ltb-false _ _ s) ∙ w; rule = m };
  gives = refl;
}

push_in : {A B : Type 0} (short : Bool) (left : ℕ) (x : A) (f : A → Result B ℕ) → (cond short (Err left) (Ok x) >>= f) ≡ cond short (Err left) (f x)
push_in true left x f = refl
push_in false left x f = refl

pub reads_number : (field : Field) (w : Width) (test : ℕ → Bool) (bytes : List ℕ) → byte_len w ≡ width field → ((text : List ℕ) → meets field text ≡ test (from_le_bytes w text))
    → Reads field (from_le_bytes w) bytes (checked test bytes (number_at w bytes))
reads_number field w test bytes wide rule =
    let n = byte_len w in
    let x : ℕ × List ℕ = (from_le_bytes w (take n bytes), drop n bytes) in
    subst (λ (r : Result (ℕ × List ℕ) ℕ). Reads field (from_le_bytes w) bytes r) (sym (push_in (ltb (length bytes) n) (length bytes) x (λ y. cond (test y.0) (Ok y) (Err (length bytes)))))
    (reads_core field (from_le_bytes w) bytes n (ltb (length bytes) n) (test (from_le_bytes w (take n bytes))) wide refl (rule (take n bytes)))

pub reads_any_number : (field : Field) (w : Width) (bytes : List ℕ) → byte_len w ≡ width field → ((text : List ℕ) → meets field text ≡ true)
    → Reads field (from_le_bytes w) bytes (number_at w bytes)
reads_any_number field w bytes wide rule = reads_core field (from_le_bytes w) bytes (byte_len w) (ltb (length bytes) (byte_len w)) true wide refl (rule (take (byte_len w) bytes))

pub reads_bytes : (field : Field) (n : ℕ) (test : List ℕ → Bool) (bytes : List ℕ) → n ≡ width field → ((text : List ℕ) → meets field text ≡ test text)
    → Reads field (λ text. text) bytes (checked test bytes (bytes_at n bytes))
reads_bytes field n test bytes wide rule =
    let x : List ℕ × List ℕ = (take n bytes, drop n bytes) in
    subst (λ (r : Result (List ℕ × List ℕ) ℕ). Reads field (λ text. text) bytes r) (sym (push_in (ltb (length bytes) n) (length bytes) x (λ y. cond (test y.0) (Ok y) (Err (length bytes)))))
    (reads_core field (λ text. text) bytes n (ltb (length bytes) n) (test (take n bytes)) wide refl (rule (take n bytes)))

pub reads_any_bytes : (field : Field) (n : ℕ) (bytes : List ℕ) → n ≡ width field → ((text : List ℕ) → meets field text ≡ true)
    → Reads field (λ text. text) bytes (bytes_at n bytes)
reads_any_bytes field n bytes wide rule = reads_core field (λ text. text) bytes n (ltb (length bytes) n) true wide refl (rule (take n bytes))

pub reads_byte : (field : Field) (test : ℕ → Bool) (bytes : List ℕ) → 1 ≡ width field → ((text : List ℕ) → meets field text ≡ test (byte text))
    → Reads field byte bytes (checked test bytes (byte_at bytes))
reads_byte field test [] wide rule = inr (refl, short_stuck field [] (omega (arith, wide)))
reads_byte field test (b ∷ rest) wide rule =
    reads_core field byte (b ∷ rest) 1 false (test b) wide (le-ltb _ _ (omega arith)) (rule (b ∷ []))

-- what was written is read
pub again : (field : Field) {X : Type 0} (value : List ℕ → X) (text rest : List ℕ) (read : Result (X × List ℕ) ℕ) → Reads field value (text ++ rest) read → IsField field text → read ≡ Ok (value text, rest)
again field value text rest read (inl f) is =
    let same = same_front f.text text f.rest rest (sym f.parts) (f.is.whole ∙ sym is.whole) in
    f.gives ∙ (λ i. Ok (value (same.0 i), same.1 i))
again field value text rest read (inr s) is = absurd (s.1.none text rest is refl)
