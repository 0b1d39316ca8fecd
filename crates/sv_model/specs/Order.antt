-- The order of rows of a table or a frozen memtable: by key, and in one key the newest first. How new a row is, is its
-- rank: the end that it bears, or its number.
use Rattle.std.specs.Prelude.{◌≡◌, ℕ, Bool, false, ◌&&◌, ◌||◌, nat_lt, nat_le, List, [], ◌∷◌, Option, find, IsTrue}
use Rattle.std.specs.Ordering.{nat_cmp, is_lt}
use Rattle.std.specs.Cmp.Lexicographic.{slice_cmp}
use Rattle.sv_model.specs.declared.writes.Kept.{Kept}
use Rattle.sv_model.specs.declared.writes.Numbered.{Numbered}
use Rattle.sv_model.specs.Journal.{same_key}

-- a key stands before another: by bytes, a prefix first
abbrev pub is_below : List ℕ → List ℕ → Bool
is_below a b = is_lt (slice_cmp nat_cmp a b)

-- an item stands before another
abbrev pub comes_before : {A : Type 0} → (A → List ℕ) → (A → ℕ) → A → A → Bool
comes_before key rank a b = is_below (key a) (key b) || (same_key (key a) (key b) && nat_lt (rank b) (rank a))

-- each item stands before the next, and the last that was seen before the first
abbrev pub OrderedFrom : {A : Type 0} → (A → List ℕ) → (A → ℕ) → A → List A → Type 0
OrderedFrom key rank last [] = Unit {0}
OrderedFrom key rank last (x ∷ xs) = IsTrue (comes_before key rank last x) × OrderedFrom key rank x xs

abbrev pub OrderedBy : {A : Type 0} → (A → List ℕ) → (A → ℕ) → List A → Type 0
OrderedBy key rank [] = Unit {0}
OrderedBy key rank (x ∷ xs) = OrderedFrom key rank x xs

-- no item's key is below that of the one before
abbrev pub RisesFrom : {A : Type 0} → (A → List ℕ) → A → List A → Type 0
RisesFrom key last [] = Unit {0}
RisesFrom key last (x ∷ xs) = (is_below (key x) (key last) ≡ false) × RisesFrom key x xs

abbrev pub RisesBy : {A : Type 0} → (A → List ℕ) → List A → Type 0
RisesBy key [] = Unit {0}
RisesBy key (x ∷ xs) = RisesFrom key x xs

-- the item stands ahead of the items of a key whose rank is at most this
abbrev pub is_ahead : {A : Type 0} → (A → List ℕ) → (A → ℕ) → List ℕ → ℕ → A → Bool
is_ahead key rank wanted upto item = is_below (key item) wanted || (same_key wanted (key item) && nat_lt upto (rank item))

-- the first item of a key whose rank is at most this
abbrev pub first_upto : {A : Type 0} → (A → List ℕ) → (A → ℕ) → List ℕ → ℕ → List A → Option A
first_upto key rank wanted upto items = find (λ x. same_key wanted (key x) && nat_le (rank x) upto) items

abbrev pub key_of_kept : Kept → List ℕ
key_of_kept r = r.row.key

abbrev pub end_of_kept : Kept → ℕ
end_of_kept r = r.end

abbrev pub key_of_numbered : Numbered → List ℕ
key_of_numbered n = n.row.key

abbrev pub number_of : Numbered → ℕ
number_of n = n.number
