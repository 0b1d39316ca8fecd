-- The files of two numbers are two.
use Rattle.std.proofs.Common.{Equal, Greater, Less, List, None, Option, Some, ap, arith, cond, false, length, length-append, refl, replicate, suc, sym, take, true, zero, ℕ, ◌++◌, ◌-◌, ◌<◌, ◌^◌, ◌∙◌, ◌≡◌, ◌≢◌}
use Rattle.std.proofs.Math.Seq.{take-append_seam}
use Rattle.std.proofs.lemmas.Fmt.{digits_value-decimal}
use Rattle.std.proofs.lemmas.Str.Parse.{IsNumeralModel, numerals_by_value, tells_all_ascii_digits}
use Rattle.std.specs.Cmp.{eq_by_cmp_equiv}
use Rattle.std.specs.Cmp.Lexicographic.{nat_list_cmp_total, slice_cmp}
use Rattle.std.specs.FinMap as finite
use Rattle.std.specs.Ordering.{eq_by_cmp, is_eq, nat_cmp}
use Rattle.std.specs.Prelude.{decimal}
use Rattle.std.specs.Str.{all_ascii_digits}
use Rattle.std.specs.Str.Parse.{digits_value}
use Rattle.std.specs.declared.cmp.Ordering.{Ordering}
use Rattle.sv_model.specs.Files.{Files, file_name, file_of, padded, suffix, with_file}

-- the digits of a name
stem : List ℕ → List ℕ
stem name = take (length name - 4) name

stem-append : (front : List ℕ) → stem (front ++ suffix) ≡ front
unfolding stem
stem-append front = ap (λ n. take n (front ++ suffix)) (starts front) ∙ take-append_seam front suffix
  where
    starts : (front : List ℕ) → length (front ++ suffix) - 4 ≡ length front
    starts front = omega (arith, length-append front suffix)

value-zeros : (k : ℕ) (ds : List ℕ) → digits_value 10 (replicate k 48 ++ ds) ≡ digits_value 10 ds
value-zeros zero ds = refl
value-zeros (suc k) ds = value-zeros k ds

by_value : IsNumeralModel (λ ds. all_ascii_digits ds ≡ true) (digits_value 10)
by_value = numerals_by_value (λ ds. all_ascii_digits ds ≡ true) tells_all_ascii_digits

value-padded : (n : ℕ) → n < 2 ^ 64 → digits_value 10 (padded 6 n) ≡ n
value-padded n fits = value-zeros (6 - length (decimal n)) (decimal n) ∙ digits_value-decimal by_value n fits

pub file_name-injective : (m n : ℕ) → m < 2 ^ 64 → n < 2 ^ 64 → file_name m ≡ file_name n → m ≡ n
unfolding file_name
file_name-injective m n small fits e =
    sym (value-padded m small) ∙ ap (digits_value 10) (sym (stem-append (padded 6 m)) ∙ ap stem e
    ∙ stem-append (padded 6 n)) ∙ value-padded n fits

pub get-with_file : (name : List ℕ) (content : Option (List ℕ)) (files : Files) (q : List ℕ)
    → finite.get (with_file name content files) q ≡ cond (eq_by_cmp (slice_cmp nat_cmp) q name) content
    (finite.get files q)
get-with_file name None files q = finite.get-remove nat_list_cmp_total files name q
get-with_file name (Some bytes) files q = finite.get-insert nat_list_cmp_total files name bytes q

pub name_apart : (p q : List ℕ) → p ≢ q → eq_by_cmp (slice_cmp nat_cmp) p q ≡ false
name_apart p q n = by (slice_cmp nat_cmp p q) refl
  where
    by : (o : Ordering) → slice_cmp nat_cmp p q ≡ o → is_eq o ≡ false
    by Less e = refl
    by Equal e = absurd (n (finite.slice_cmp-IsAntisymmetric finite.nat_cmp-IsAntisymmetric p q e))
    by Greater e = refl

name_same : (p : List ℕ) → eq_by_cmp (slice_cmp nat_cmp) p p ≡ true
name_same p = (eq_by_cmp_equiv nat_list_cmp_total).refl p

-- the file of a number whose file was written or removed, and that of another number
pub file-here : (n : ℕ) (content : Option (List ℕ)) (files : Files)
    → file_of n (with_file (file_name n) content files) ≡ content
file-here n content files = get-with_file (file_name n) content files (file_name n)
    ∙ ap (λ b. cond b content (file_of n files)) (name_same (file_name n))

pub file-else : (m n : ℕ) (content : Option (List ℕ)) (files : Files) → m < 2 ^ 64 → n < 2 ^ 64 → m ≢ n
    → file_of m (with_file (file_name n) content files) ≡ file_of m files
file-else m n content files small fits ne =
    get-with_file (file_name n) content files (file_name m)
    ∙ ap (λ b. cond b content (file_of m files)) (name_apart (file_name m) (file_name n)
    (λ e. ne (file_name-injective m n small fits e)))
