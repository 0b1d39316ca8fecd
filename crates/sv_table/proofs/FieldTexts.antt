-- Single fields and their texts.
use Rattle.std.proofs.Common.{◌≡◌, ℕ, suc, ◌^◌, ◌<◌, Bool, true, List, [], ◌∷◌, length, refl, sym, ap, ◌∙◌, arith}
use Rattle.std.specs.Int.{w16, w32, w64, from_le_bytes, to_le_bytes}
use Rattle.std.proofs.lemmas.Nat.{le_bytes_2, le_bytes_4, le_bytes_8, from_le_bytes-to_le_bytes_2, from_le_bytes-to_le_bytes_4, from_le_bytes-to_le_bytes_8}
use Rattle.sv_model.specs.TableText.{AreBytes}
use Rattle.sv_model.specs.TableTextFields.{Field, width, meets, byte}
use Rattle.sv_table.specs.Reading.{checked, number_at, bytes_at, byte_at}
use Rattle.sv_table.proofs.OneField.{IsBytes, reads_number, reads_any_number, reads_bytes, reads_any_bytes, reads_byte}
use Rattle.sv_table.proofs.ReaderTexts.{Spells, spells_field}

all_bytes : (bytes : List ℕ) → IsBytes bytes → AreBytes bytes
all_bytes [] fits = tt
all_bytes (b ∷ bytes) fits = (fits 0, all_bytes bytes (λ i. fits (suc i)))

one_byte : (text : List ℕ) → length text ≡ 1 → byte text ∷ [] ≡ text
one_byte [] len = absurd (omega arith)
one_byte (b ∷ []) len = refl
one_byte (b ∷ c ∷ more) len = absurd (omega (arith, len))

below_64 : (text : List ℕ) → IsBytes text → from_le_bytes w64 text < 2 ^ 64
below_64 text fits = omega (arith, fits 0, fits 1, fits 2, fits 3, fits 4, fits 5, fits 6, fits 7)

below_32 : (text : List ℕ) → IsBytes text → from_le_bytes w32 text < 2 ^ 32
below_32 text fits = omega (arith, fits 0, fits 1, fits 2, fits 3)

below_16 : (text : List ℕ) → IsBytes text → from_le_bytes w16 text < 2 ^ 16
below_16 text fits = omega (arith, fits 0, fits 1)

module _ (field : Field) where
  pub spells_u64 : (test : ℕ → Bool) → 8 ≡ width field → ((text : List ℕ) → meets field text ≡ test (from_le_bytes w64 text))
      → Spells (to_le_bytes w64) (λ n. (n < 2 ^ 64) × (test n ≡ true)) (λ bytes. checked test bytes (number_at w64 bytes))
  spells_u64 test wide rule =
      spells_field field (from_le_bytes w64) (to_le_bytes w64) (λ n. (n < 2 ^ 64) × (test n ≡ true)) (λ bytes. checked test bytes (number_at w64 bytes))
      (λ bytes. reads_number field w64 test bytes wide rule)
      (λ t is fits. (le_bytes_8 t (from_le_bytes w64 t) (is.whole ∙ sym wide) fits refl, (below_64 t fits, sym (rule t) ∙ is.rule)))
      (λ n f.
      let back = from_le_bytes-to_le_bytes_8 n f.0 in
      (record { whole = wide; rule = rule (to_le_bytes w64 n) ∙ ap test back ∙ f.1 }, back))

  pub spells_any_u64 : 8 ≡ width field → ((text : List ℕ) → meets field text ≡ true) → Spells (to_le_bytes w64) (λ n. n < 2 ^ 64) (number_at w64)
  spells_any_u64 wide rule =
      spells_field field (from_le_bytes w64) (to_le_bytes w64) (λ n. n < 2 ^ 64) (number_at w64)
      (λ bytes. reads_any_number field w64 bytes wide rule)
      (λ t is fits. (le_bytes_8 t (from_le_bytes w64 t) (is.whole ∙ sym wide) fits refl, below_64 t fits))
      (λ n f. (record { whole = wide; rule = rule (to_le_bytes w64 n) }, from_le_bytes-to_le_bytes_8 n f))

  pub spells_u32 : (test : ℕ → Bool) → 4 ≡ width field → ((text : List ℕ) → meets field text ≡ test (from_le_bytes w32 text))
      → Spells (to_le_bytes w32) (λ n. (n < 2 ^ 32) × (test n ≡ true)) (λ bytes. checked test bytes (number_at w32 bytes))
  spells_u32 test wide rule =
      spells_field field (from_le_bytes w32) (to_le_bytes w32) (λ n. (n < 2 ^ 32) × (test n ≡ true)) (λ bytes. checked test bytes (number_at w32 bytes))
      (λ bytes. reads_number field w32 test bytes wide rule)
      (λ t is fits. (le_bytes_4 t (from_le_bytes w32 t) (is.whole ∙ sym wide) fits refl, (below_32 t fits, sym (rule t) ∙ is.rule)))
      (λ n f.
      let back = from_le_bytes-to_le_bytes_4 n f.0 in
      (record { whole = wide; rule = rule (to_le_bytes w32 n) ∙ ap test back ∙ f.1 }, back))

  pub spells_u16 : (test : ℕ → Bool) → 2 ≡ width field → ((text : List ℕ) → meets field text ≡ test (from_le_bytes w16 text))
      → Spells (to_le_bytes w16) (λ n. (n < 2 ^ 16) × (test n ≡ true)) (λ bytes. checked test bytes (number_at w16 bytes))
  spells_u16 test wide rule =
      spells_field field (from_le_bytes w16) (to_le_bytes w16) (λ n. (n < 2 ^ 16) × (test n ≡ true)) (λ bytes. checked test bytes (number_at w16 bytes))
      (λ bytes. reads_number field w16 test bytes wide rule)
      (λ t is fits. (le_bytes_2 t (from_le_bytes w16 t) (is.whole ∙ sym wide) fits refl, (below_16 t fits, sym (rule t) ∙ is.rule)))
      (λ n f.
      let back = from_le_bytes-to_le_bytes_2 n f.0 in
      (record { whole = wide; rule = rule (to_le_bytes w16 n) ∙ ap test back ∙ f.1 }, back))

  pub spells_byte : (test : ℕ → Bool) → 1 ≡ width field → ((text : List ℕ) → meets field text ≡ test (byte text))
      → Spells (λ n. n ∷ []) (λ n. test n ≡ true) (λ bytes. checked test bytes (byte_at bytes))
  spells_byte test wide rule =
      spells_field field byte (λ n. n ∷ []) (λ n. test n ≡ true) (λ bytes. checked test bytes (byte_at bytes))
      (λ bytes. reads_byte field test bytes wide rule)
      (λ t is fits. (one_byte t (is.whole ∙ sym wide), sym (rule t) ∙ is.rule))
      (λ n f. (record { whole = wide; rule = rule (n ∷ []) ∙ f }, refl))

  pub spells_bytes : (n : ℕ) (test : List ℕ → Bool) → n ≡ width field → ((text : List ℕ) → meets field text ≡ test text)
      → Spells (λ t. t) (λ t. (length t ≡ n) × (test t ≡ true) × AreBytes t) (λ bytes. checked test bytes (bytes_at n bytes))
  spells_bytes n test wide rule =
      spells_field field (λ t. t) (λ t. t) (λ t. (length t ≡ n) × (test t ≡ true) × AreBytes t) (λ bytes. checked test bytes (bytes_at n bytes))
      (λ bytes. reads_bytes field n test bytes wide rule)
      (λ t is fits. (refl, (is.whole ∙ sym wide, sym (rule t) ∙ is.rule, all_bytes t fits)))
      (λ t f. (record { whole = f.0 ∙ wide; rule = rule t ∙ f.1 }, refl))

  pub spells_any_bytes : (n : ℕ) → n ≡ width field → ((text : List ℕ) → meets field text ≡ true)
      → Spells (λ t. t) (λ t. (length t ≡ n) × AreBytes t) (bytes_at n)
  spells_any_bytes n wide rule =
      spells_field field (λ t. t) (λ t. t) (λ t. (length t ≡ n) × AreBytes t) (bytes_at n)
      (λ bytes. reads_any_bytes field n bytes wide rule)
      (λ t is fits. (refl, (is.whole ∙ sym wide, all_bytes t fits)))
      (λ t f. (record { whole = f.0 ∙ wide; rule = rule t }, refl))

  pub spells_these : (n : ℕ) (test : List ℕ → Bool) → n ≡ width field → ((text : List ℕ) → meets field text ≡ test text)
      → Spells (λ t. t) (λ t. (length t ≡ n) × (test t ≡ true)) (λ bytes. checked test bytes (bytes_at n bytes))
  spells_these n test wide rule =
      spells_field field (λ t. t) (λ t. t) (λ t. (length t ≡ n) × (test t ≡ true)) (λ bytes. checked test bytes (bytes_at n bytes))
      (λ bytes. reads_bytes field n test bytes wide rule)
      (λ t is fits. (refl, (is.whole ∙ sym wide, sym (rule t) ∙ is.rule)))
      (λ t f. (record { whole = f.0 ∙ wide; rule = rule t ∙ f.1 }, refl))
