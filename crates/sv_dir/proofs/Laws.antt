-- What the files of a directory are by number, after a call; for the crates above.
use Rattle.std.proofs.Common.{◌≡◌, ℕ, ◌^◌, ◌<◌, cond, List, Option, ap, ◌∙◌}
use Rattle.std.specs.Prelude.{◌==◌}
use Rattle.std.specs.Str.{bytes_eq}
use Rattle.std.proofs.lemmas.Map.Text.{is_eq-slice_cmp}
use Rattle.std.proofs.lemmas.Slice.Eq.{bytes_eq-Decides}
use Rattle.std.proofs.lemmas.Bool.Decides.{Decides-like, Decides-eqb, same_from_decides}
use Rattle.sv_model.specs.Files.{file_name, Files, file_of, with_file}
use Rattle.sv_dir.specs.Files.{same_name}
use Rattle.sv_dir.proofs.Held.{get-with_file}
use Rattle.sv_dir.proofs.ReadBack.{file_name-injective}

-- two numbers have one name exactly where they are equal
pub same_name-file_name : (m n : ℕ) → m < 2 ^ 64 → n < 2 ^ 64 → same_name (file_name m) (file_name n) ≡ (m == n)
same_name-file_name m n small fits =
    is_eq-slice_cmp (file_name m) (file_name n)
    ∙ same_from_decides (bytes_eq (file_name m) (file_name n)) (m == n)
    (Decides-like (bytes_eq (file_name m) (file_name n)) (file_name-injective m n small fits) (ap file_name) (bytes_eq-Decides (file_name m) (file_name n)))
    (Decides-eqb m n)

-- the file of a number changes where that number's file is written or removed, and nowhere else
pub file_of-with_file : (m n : ℕ) (content : Option (List ℕ)) (files : Files) → m < 2 ^ 64 → n < 2 ^ 64
    → file_of m (with_file (file_name n) content files) ≡ cond (m == n) content (file_of m files)
file_of-with_file m n content files small fits =
    get-with_file (file_name n) content files (file_name m)
    ∙ ap (λ b. cond b content (file_of m files)) (same_name-file_name m n small fits)
