-- Words that name no path.
use Rattle.std.proofs.Common.{◌≡◌, ◌<◌, ◌≤◌, ℕ, Bool, true, false, cond, ◌&&◌, List, [], ◌∷◌, length, map, get_or, Option, None, refl, ◌∙◌, ap, arith}
use Rattle.std.specs.Prelude.{bytes_eq, codes}
use Rattle.std.proofs.lemmas.Slice.Eq.{bytes_eq-Decides}
use Rattle.sv_run.specs.RunWords.{dir_word, joined_path, path_of}

not_same : (a b : List ℕ) → (a ≡ b → ⊥) → bytes_eq a b ≡ false
not_same a b other = at (bytes_eq a b) refl
  where
    at : (r : Bool) → bytes_eq a b ≡ r → r ≡ false
    at true is = absurd (other ((bytes_eq-Decides a b).0 is))
    at false is = refl

pub few_words : {A : Type 0} (f : A → List ℕ) (words : List A) → length words < 2 → dir_word (map f words) ≡ None
few_words f [] lt = refl
few_words f (a ∷ []) lt = refl
few_words f (a ∷ b ∷ words) lt = absurd (omega arith)

pub many_words : {A : Type 0} (f : A → List ℕ) (words : List A) → 4 ≤ length words → dir_word (map f words) ≡ None
many_words f [] le = refl
many_words f (a ∷ []) le = refl
many_words f (a ∷ b ∷ []) le = absurd (omega arith)
many_words f (a ∷ b ∷ c ∷ []) le = absurd (omega arith)
many_words f (a ∷ b ∷ c ∷ d ∷ words) le = refl

pub other_two : {A : Type 0} (f : A → List ℕ) (words : List A) (a : A) → length words ≡ 2 → a ≡ get_or words 0 a → (f a ≡ codes "run" → ⊥) → dir_word (map f words) ≡ None
other_two f [] a two first other = refl
other_two f (x ∷ []) a two first other = refl
other_two f (x ∷ y ∷ []) a two first other =
    ap (λ b. cond b (joined_path (f y)) None) (not_same (f x) (codes "run") (λ e. other (ap f first ∙ e)))
other_two f (x ∷ y ∷ z ∷ words) a two first other = absurd (omega (arith, two))

pub other_three : {A : Type 0} (f : A → List ℕ) (words : List A) (a : A) → length words ≡ 3 → a ≡ get_or words 0 a → (f a ≡ codes "run" → ⊥) → dir_word (map f words) ≡ None
other_three f [] a three first other = refl
other_three f (x ∷ []) a three first other = refl
other_three f (x ∷ y ∷ []) a three first other = absurd (omega (arith, three))
other_three f (x ∷ y ∷ z ∷ []) a three first other =
    ap (λ b. cond (b && bytes_eq (f y) (codes "--dir")) (path_of (f z)) None) (not_same (f x) (codes "run") (λ e. other (ap f first ∙ e)))
other_three f (x ∷ y ∷ z ∷ w ∷ words) a three first other = refl

none_either : (b : Bool) (o : Option (List ℕ)) → cond (b && false) o None ≡ None
none_either true o = refl
none_either false o = refl

pub other_option : {A : Type 0} (f : A → List ℕ) (words : List A) (a : A) → length words ≡ 3 → a ≡ get_or words 1 a → (f a ≡ codes "--dir" → ⊥) → dir_word (map f words) ≡ None
other_option f [] a three second other = refl
other_option f (x ∷ []) a three second other = refl
other_option f (x ∷ y ∷ []) a three second other = absurd (omega (arith, three))
other_option f (x ∷ y ∷ z ∷ []) a three second other =
    ap (λ b. cond (bytes_eq (f x) (codes "run") && b) (path_of (f z)) None) (not_same (f y) (codes "--dir") (λ e. other (ap f second ∙ e)))
    ∙ none_either (bytes_eq (f x) (codes "run")) (path_of (f z))
other_option f (x ∷ y ∷ z ∷ w ∷ words) a three second other = refl
