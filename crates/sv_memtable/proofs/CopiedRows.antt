-- The copies that a freeze makes, key by key in the map's order and of each key the newest first, are the frozen rows.
use Rattle.std.proofs.Common.{◌≡◌, ◌<◌, ℕ, suc, Bool, true, false, cond, ◌&&◌, ◌||◌, nat_lt, List, [], ◌∷◌, ◌++◌, map, append_assoc, Bor, Some, refl, sym, ap, subst, ◌∙◌, inl, inr}
use Rattle.std.specs.Prelude.{reverse, slice_get, option_map, unwrap_or}
use Rattle.std.specs.Ordering.{nat_cmp, is_lt}
use Rattle.std.specs.declared.cmp.Ordering.TheVariants.{Less}
use Rattle.std.specs.Cmp.{eq_by_cmp_equiv}
use Rattle.std.specs.Cmp.Lexicographic.{slice_cmp, nat_list_cmp_total}
use Rattle.std.specs.List.{All, AllByRecursion, filter, filter_map, cons_option, list_any}
use Rattle.std.specs.List.Sorted.{IsPermutation, IsStrictlySortedBy}
use Rattle.std.specs.Map.{keys_of, values_of, lookup}
use Rattle.std.specs.BTreeMap.{BTreeMap, IsOrdered, is_at, get, keys, values}
use Rattle.std.proofs.lemmas.Bool.{or_left, or_right, or_cases, and_from, lt-ltb}
use Rattle.std.proofs.lemmas.List.{append-nil, reverse-append, map-append}
use Rattle.std.proofs.lemmas.List.Elements.{filter_map-append}
use Rattle.std.proofs.lemmas.List.Sorted.{IsPermutation-refl, IsPermutation-sym, IsPermutation-trans, IsPermutation-cons, IsPermutation-middle, IsPermutation-append, IsPermutation-reverse}
use Rattle.std.proofs.lemmas.Map.Keys.{sorted_head, sorted_tail}
use Rattle.std.proofs.lemmas.Map.Entries.{btree_map_get_place}
use Rattle.sv_model.specs.declared.writes.Row.{Row}
use Rattle.sv_model.specs.declared.writes.Numbered.{Numbered}
use Rattle.sv_model.specs.Flat.{numbered_after}
use Rattle.sv_model.specs.Journal.{same_key}
use Rattle.sv_model.specs.Order.{is_below, key_of_numbered, number_of}
use Rattle.sv_model.proofs.KeyOrder.{same_eq, same_yes, below_other}
use Rattle.sv_memtable.specs.Index.{numbers_of_key, numbers_at, IsIndexed, numbered_row}
use Rattle.sv_memtable.specs.Freezing.{IsFrozenOf}
use Rattle.sv_memtable.proofs.NumberedRows.{LeadsBack, all_lead_back}
use Rattle.sv_memtable.proofs.IndexLaws.{IsOfRow, numbers_within}
use Rattle.sv_memtable.proofs.FrozenRows.{EachPair, all_weaker, all_reverse, pairs_reverse, before, ordered_from_pairs, added_rise}

-- the rows of these numbers, list by list, of each list the last first
abbrev pub copies_of : List Row → List (List ℕ) → List Numbered
copies_of rows [] = []
copies_of rows (numbers ∷ lists) = filter_map (numbered_row rows) (reverse numbers) ++ copies_of rows lists

-- ---- one turn of the loop over the numbers of a list
pub yields : (rows : List Row) (start copies more : List Numbered) (yielded : List (Bor ℕ)) (x : Bor ℕ) → more ≡ copies ++ filter_map (numbered_row rows) (x.now ∷ []) → copies ≡ start ++ filter_map (numbered_row rows) (map (λ (n : Bor ℕ). n.now) yielded) → more ≡ start ++ filter_map (numbered_row rows) (map (λ (n : Bor ℕ). n.now) (yielded ++ x ∷ []))
yields rows start copies more yielded x e so_far =
    let f = numbered_row rows in
    let numbers = map (λ (n : Bor ℕ). n.now) yielded in
    e
    ∙ ap (λ l. l ++ filter_map f (x.now ∷ [])) so_far
    ∙ append_assoc start (filter_map f numbers) (filter_map f (x.now ∷ []))
    ∙ sym (ap (λ l. start ++ l) (ap (filter_map f) (map-append (λ (n : Bor ℕ). n.now) yielded (x ∷ [])) ∙ filter_map-append f numbers (x.now ∷ [])))

-- ---- one turn of the loop over the lists
pub takes : (copies more : List Numbered) (rows : List Row) (total : List Numbered) (left rest : List (List ℕ)) (numbers : List ℕ) → left ≡ numbers ∷ rest → more ≡ copies ++ filter_map (numbered_row rows) (reverse numbers) → copies ++ copies_of rows left ≡ total → more ++ copies_of rows rest ≡ total
takes copies more rows total left rest numbers e appended so_far =
    ap (λ l. l ++ copies_of rows rest) appended
    ∙ append_assoc copies (filter_map (numbered_row rows) (reverse numbers)) (copies_of rows rest)
    ∙ sym (ap (λ l. copies ++ copies_of rows l) e)
    ∙ so_far

pub ends : (copies : List Numbered) (rows : List Row) (total : List Numbered) (left : List (List ℕ)) → left ≡ [] → copies ++ copies_of rows left ≡ total → copies ≡ total
ends copies rows total left e so_far = sym (append-nil copies) ∙ ap (λ l. copies ++ copies_of rows l) (sym e) ∙ so_far

-- ---- the rows of one key

abbrev is_key : List ℕ → Numbered → Bool
is_key key n = same_key key (key_of_numbered n)

module _ (ns : List Numbered) where
  abbrev of_key : List ℕ → List Numbered
  of_key key = filter (is_key key) ns

  -- the rows key by key, of each key the last first
  abbrev by_keys : List (List ℕ) → List Numbered
  by_keys [] = []
  by_keys (key ∷ keys) = reverse (of_key key) ++ by_keys keys

kept_all : (chosen : Bool) (P : Numbered → Type 0) (n : Numbered) (ns : List Numbered) → P n → AllByRecursion P ns → AllByRecursion P (cond chosen (n ∷ ns) ns)
kept_all true P n ns p h = (p, h)
kept_all false P n ns p h = h

all_kept : (chosen : Numbered → Bool) (P : Numbered → Type 0) (ns : List Numbered) → AllByRecursion P ns → AllByRecursion P (filter chosen ns)
all_kept chosen P [] h = tt
all_kept chosen P (n ∷ ns) h = kept_all (chosen n) P n (filter chosen ns) h.0 (all_kept chosen P ns h.1)

kept_pairs : (chosen : Bool) (R : Numbered → Numbered → Type 0) (n : Numbered) (ns : List Numbered) → AllByRecursion (R n) ns → EachPair R ns → EachPair R (cond chosen (n ∷ ns) ns)
kept_pairs true R n ns a h = (a, h)
kept_pairs false R n ns a h = h

pairs_kept : (chosen : Numbered → Bool) (R : Numbered → Numbered → Type 0) (ns : List Numbered) → EachPair R ns → EachPair R (filter chosen ns)
pairs_kept chosen R [] h = tt
pairs_kept chosen R (n ∷ ns) h = kept_pairs (chosen n) R n (filter chosen ns) (all_kept chosen (R n) ns h.0) (pairs_kept chosen R ns h.1)

pass_one : (b : Bool) (chosen : Numbered → Bool) (n : Numbered) (ns : List Numbered) → chosen n ≡ b → AllByRecursion (λ m. chosen m ≡ true) ns → AllByRecursion (λ m. chosen m ≡ true) (cond b (n ∷ ns) ns)
pass_one true chosen n ns t h = (t, h)
pass_one false chosen n ns t h = h

all_pass : (chosen : Numbered → Bool) (ns : List Numbered) → AllByRecursion (λ n. chosen n ≡ true) (filter chosen ns)
all_pass chosen [] = tt
all_pass chosen (n ∷ ns) = pass_one (chosen n) chosen n (filter chosen ns) refl (all_pass chosen ns)

-- numbers give their rows back
rows_back : (rows : List Row) (ns : List Numbered) → AllByRecursion (LeadsBack rows) ns → filter_map (numbered_row rows) (map number_of ns) ≡ ns
rows_back rows [] h = refl
rows_back rows (n ∷ ns) h =
    ap (λ o. cons_option (option_map (λ (row : Row). record { number = n.number; row = row }) o) (filter_map (numbered_row rows) (map number_of ns))) h.0
    ∙ ap (λ l. n ∷ l) (rows_back rows ns h.1)

map-reverse : {A B : Type 0} (f : A → B) (xs : List A) → reverse (map f xs) ≡ map f (reverse xs)
map-reverse f [] = refl
map-reverse f (x ∷ xs) =
    reverse-append (f x ∷ []) (map f xs)
    ∙ ap (λ l. l ++ f x ∷ []) (map-reverse f xs)
    ∙ sym (map-append f (reverse xs) (x ∷ []))
    ∙ ap (map f) (sym (reverse-append (x ∷ []) xs))

copied : (rows : List Row) (key : List ℕ) → filter_map (numbered_row rows) (reverse (numbers_of_key key rows)) ≡ reverse (of_key (numbered_after 0 rows) key)
copied rows key =
    let ns = numbered_after 0 rows in
    ap (filter_map (numbered_row rows)) (map-reverse number_of (of_key ns key))
    ∙ rows_back rows (reverse (of_key ns key)) (all_reverse (LeadsBack rows) (of_key ns key) (all_kept (is_key key) (LeadsBack rows) ns (all_lead_back rows)))

-- ---- the copies of all keys

abbrev Leads : List Row → List (List ℕ × List ℕ) → Type 0
Leads rows es = (i : ℕ) (key numbers : List ℕ) → slice_get es i ≡ Some (key, numbers) → numbers ≡ numbers_of_key key rows

copies_by_keys : (rows : List Row) (es : List (List ℕ × List ℕ)) → Leads rows es → copies_of rows (values_of es) ≡ by_keys (numbered_after 0 rows) (keys_of es)
copies_by_keys rows [] leads = refl
copies_by_keys rows (e ∷ es) leads =
    ap (λ l. filter_map (numbered_row rows) (reverse l) ++ copies_of rows (values_of es)) (leads 0 e.0 e.1 refl)
    ∙ ap (λ l. l ++ copies_of rows (values_of es)) (copied rows e.0)
    ∙ ap (λ l. reverse (of_key (numbered_after 0 rows) e.0) ++ l) (copies_by_keys rows es (λ i key numbers is. leads (suc i) key numbers is))

-- ---- their order

all_append : {A : Type 0} (P : A → Type 0) (xs ys : List A) → AllByRecursion P xs → AllByRecursion P ys → AllByRecursion P (xs ++ ys)
all_append P [] ys h k = k
all_append P (x ∷ xs) ys h k = (h.0, all_append P xs ys h.1 k)

pairs_append : {A : Type 0} (R : A → A → Type 0) (xs ys : List A) → EachPair R xs → EachPair R ys → AllByRecursion (λ x. AllByRecursion (R x) ys) xs → EachPair R (xs ++ ys)
pairs_append R [] ys h k all = k
pairs_append R (x ∷ xs) ys h k all = (all_append (R x) xs ys h.0 all.0, pairs_append R xs ys h.1 k all.1)

-- pairs of items that all have a property
pairs_with : {A : Type 0} (P : A → Type 0) (R S : A → A → Type 0) → ((x y : A) → P x → P y → R x y → S x y) → (xs : List A) → AllByRecursion P xs → EachPair R xs → EachPair S xs
pairs_with P R S step [] all h = tt
pairs_with {A} P R S step (x ∷ xs) all h = (one xs all.1 h.0, pairs_with P R S step xs all.1 h.1)
  where
    one : (ys : List A) → AllByRecursion P ys → AllByRecursion (R x) ys → AllByRecursion (S x) ys
    one [] a r = tt
    one (y ∷ ys) a r = (step x y all.0 a.0 r.0, one ys a.1 r.1)

module _ (ns : List Numbered) (rise : EachPair (λ (x y : Numbered). x.number < y.number) ns) where
  abbrev Keyed : List ℕ → Numbered → Type 0
  Keyed key n = is_key key n ≡ true

  falls : (key : List ℕ) (x y : Numbered) → Keyed key x → Keyed key y → y.number < x.number → before x y ≡ true
  falls key x y p q less =
      let kx = key_of_numbered x in
      let ky = key_of_numbered y in
      let same : same_key kx ky ≡ true = same_yes kx ky (sym (same_eq key kx p) ∙ same_eq key ky q) in
      or_right (is_below kx ky) (same_key kx ky && nat_lt y.number x.number) (and_from (same_key kx ky) (nat_lt y.number x.number) same (lt-ltb y.number x.number less))

  keyed : (key : List ℕ) → AllByRecursion (Keyed key) (reverse (of_key ns key))
  keyed key = all_reverse (Keyed key) (of_key ns key) (all_pass (is_key key) ns)

  one_key : (key : List ℕ) → EachPair (λ x y. before x y ≡ true) (reverse (of_key ns key))
  one_key key =
      pairs_with (Keyed key) (λ (x y : Numbered). y.number < x.number) (λ x y. before x y ≡ true) (falls key) (reverse (of_key ns key)) (keyed key)
      (pairs_reverse (λ (x y : Numbered). x.number < y.number) (of_key ns key) (pairs_kept (is_key key) (λ (x y : Numbered). x.number < y.number) ns rise))

  -- rows of later keys stand after those of this one
  abbrev Above : List ℕ → Numbered → Type 0
  Above key n = is_below key (key_of_numbered n) ≡ true

  above_keys : (key : List ℕ) (keys : List (List ℕ)) → AllByRecursion (λ other. slice_cmp nat_cmp key other ≡ Less) keys → AllByRecursion (Above key) (by_keys ns keys)
  above_keys key [] h = tt
  above_keys key (other ∷ keys) h =
      all_append (Above key) (reverse (of_key ns other)) (by_keys ns keys)
      (all_weaker (Keyed other) (Above key) (λ n p. subst (λ (l : List ℕ). is_below key l ≡ true) (same_eq other (key_of_numbered n) p) (ap is_lt h.0)) (reverse (of_key ns other)) (keyed other))
      (above_keys key keys h.1)

  first_key : (key : List ℕ) (x y : Numbered) → Keyed key x → Above key y → before x y ≡ true
  first_key key x y p q =
      let kx = key_of_numbered x in
      let ky = key_of_numbered y in
      or_left (is_below kx ky) (same_key kx ky && nat_lt y.number x.number) (subst (λ (l : List ℕ). is_below l ky ≡ true) (same_eq key kx p) q)

  pub in_order : (keys : List (List ℕ)) → IsStrictlySortedBy (slice_cmp nat_cmp) keys → EachPair (λ x y. before x y ≡ true) (by_keys ns keys)
  in_order [] up = tt
  in_order (key ∷ keys) up =
      let later = by_keys ns keys in
      let higher = above_keys key keys (sorted_head (slice_cmp nat_cmp) key keys up) in
      pairs_append (λ x y. before x y ≡ true) (reverse (of_key ns key)) later (one_key key) (in_order keys (sorted_tail (slice_cmp nat_cmp) key keys up))
      (all_weaker (Keyed key) (λ x. AllByRecursion (λ y. before x y ≡ true) later) (λ x p. all_weaker (Above key) (λ y. before x y ≡ true) (λ y q. first_key key x y p q) later higher) (reverse (of_key ns key)) (keyed key))

-- ---- each row once

split_one : (t u : Bool) (n : Numbered) (both left right : List Numbered) → (t ≡ true → u ≡ true → ⊥) → IsPermutation both (left ++ right) → IsPermutation (cond (t || u) (n ∷ both) both) (cond t (n ∷ left) left ++ cond u (n ∷ right) right)
split_one true true n both left right apart h = absurd (apart refl refl)
split_one true false n both left right apart h = IsPermutation-cons n both (left ++ right) h
split_one false true n both left right apart h =
    IsPermutation-trans (n ∷ both) (n ∷ (left ++ right)) (left ++ n ∷ right) (IsPermutation-cons n both (left ++ right) h)
    (IsPermutation-sym (left ++ n ∷ right) (n ∷ (left ++ right)) (IsPermutation-middle left n right))
split_one false false n both left right apart h = h

split : (t u : Numbered → Bool) → ((n : Numbered) → t n ≡ true → u n ≡ true → ⊥) → (ns : List Numbered) → IsPermutation (filter (λ n. t n || u n) ns) (filter t ns ++ filter u ns)
split t u apart [] = IsPermutation-refl []
split t u apart (n ∷ ns) = split_one (t n) (u n) n (filter (λ n. t n || u n) ns) (filter t ns) (filter u ns) (apart n) (split t u apart ns)

abbrev has_key : List (List ℕ) → Numbered → Bool
has_key keys n = list_any (λ key. is_key key n) keys

none_kept : (ns : List Numbered) → filter (λ n. has_key [] n) ns ≡ []
none_kept [] = refl
none_kept (n ∷ ns) = none_kept ns

not_later : (key : List ℕ) (keys : List (List ℕ)) → AllByRecursion (λ other. slice_cmp nat_cmp key other ≡ Less) keys → (n : Numbered) → is_key key n ≡ true → has_key keys n ≡ true → ⊥
not_later key [] h n p q = absurd (cc q)
not_later key (other ∷ keys) h n p q =
    elim (or_cases (is_key other n) (has_key keys n) q) [
      | inl here ↦ below_other key other (ap is_lt h.0) (same_eq key (key_of_numbered n) p ∙ sym (same_eq other (key_of_numbered n) here))
      | inr later ↦ not_later key keys h.1 n p later
    ]

pub each_once : (ns : List Numbered) (keys : List (List ℕ)) → IsStrictlySortedBy (slice_cmp nat_cmp) keys → IsPermutation (filter (has_key keys) ns) (by_keys ns keys)
each_once ns [] up = subst (λ l. IsPermutation l []) (sym (none_kept ns)) (IsPermutation-refl [])
each_once ns (key ∷ keys) up =
    let here = of_key ns key in
    let later = filter (has_key keys) ns in
    IsPermutation-trans (filter (has_key (key ∷ keys)) ns) (here ++ later) (reverse here ++ by_keys ns keys)
    (split (is_key key) (has_key keys) (not_later key keys (sorted_head (slice_cmp nat_cmp) key keys up)) ns)
    (IsPermutation-append here (reverse here) later (by_keys ns keys) (IsPermutation-reverse here) (each_once ns keys (sorted_tail (slice_cmp nat_cmp) key keys up)))

-- each row has a key of the map
keep_all : (chosen : Numbered → Bool) (ns : List Numbered) → AllByRecursion (λ n. chosen n ≡ true) ns → filter chosen ns ≡ ns
keep_all chosen [] h = refl
keep_all chosen (n ∷ ns) h = ap (λ b. cond b (n ∷ filter chosen ns) (filter chosen ns)) h.0 ∙ ap (λ l. n ∷ l) (keep_all chosen ns h.1)

looked_at : (n : Numbered) (e : List ℕ × List ℕ) (es : List (List ℕ × List ℕ)) (b : Bool) → is_key e.0 n ≡ b → (unwrap_or (lookup (is_at (slice_cmp nat_cmp (key_of_numbered n))) (e ∷ es)) [] ≡ [] → ⊥) → ((unwrap_or (lookup (is_at (slice_cmp nat_cmp (key_of_numbered n))) es) [] ≡ [] → ⊥) → has_key (keys_of es) n ≡ true) → (is_key e.0 n || has_key (keys_of es) n) ≡ true
looked_at n e es true t some later = or_left (is_key e.0 n) (has_key (keys_of es) n) t
looked_at n e es false t some later =
    let found = lookup (is_at (slice_cmp nat_cmp (key_of_numbered n))) es in
    let next : lookup (is_at (slice_cmp nat_cmp (key_of_numbered n))) (e ∷ es) ≡ found =
    ap (λ b. cond b (Some e.1) found) ((eq_by_cmp_equiv nat_list_cmp_total).symm (key_of_numbered n) e.0 ∙ t)
    in
    or_right (is_key e.0 n) (has_key (keys_of es) n) (later (λ none. some (ap (λ o. unwrap_or o []) next ∙ none)))

looked_up : (n : Numbered) (es : List (List ℕ × List ℕ)) → (unwrap_or (lookup (is_at (slice_cmp nat_cmp (key_of_numbered n))) es) [] ≡ [] → ⊥) → has_key (keys_of es) n ≡ true
looked_up n [] some = absurd (some refl)
looked_up n (e ∷ es) some = looked_at n e es (is_key e.0 n) refl some (looked_up n es)

skip : (n : Numbered) (ns : List Numbered) (m : Numbered) (front : List Numbered) (b : Bool) → map number_of (cond b (m ∷ filter (is_key (key_of_numbered n)) (front ++ n ∷ ns)) (filter (is_key (key_of_numbered n)) (front ++ n ∷ ns))) ≡ [] → (map number_of (filter (is_key (key_of_numbered n)) (front ++ n ∷ ns)) ≡ [] → ⊥) → ⊥
skip n ns m front true none later = cc none
skip n ns m front false none later = later none

-- a row of a list has its number among those of its key
numbered_somewhere : (n : Numbered) (ns front : List Numbered) → map number_of (filter (is_key (key_of_numbered n)) (front ++ n ∷ ns)) ≡ [] → ⊥
numbered_somewhere n ns [] none =
    let here : is_key (key_of_numbered n) n ≡ true = same_yes (key_of_numbered n) (key_of_numbered n) refl in
    let some : map number_of (filter (is_key (key_of_numbered n)) (n ∷ ns)) ≡ n.number ∷ map number_of (filter (is_key (key_of_numbered n)) ns) =
    ap (λ b. map number_of (cond b (n ∷ filter (is_key (key_of_numbered n)) ns) (filter (is_key (key_of_numbered n)) ns))) here
    in
    cc (some, none)
numbered_somewhere n ns (m ∷ front) none = skip n ns m front (is_key (key_of_numbered n) m) none (numbered_somewhere n ns front)

module _ (rows : List Row) (index : BTreeMap (List ℕ) (List ℕ)) (h : IsIndexed rows index) (up : IsOrdered (slice_cmp nat_cmp) index) where
  leads_there : Leads rows index.entries
  leads_there i key numbers is =
      let got : get (slice_cmp nat_cmp) index key ≡ Some numbers = btree_map_get_place nat_list_cmp_total index i key numbers up is in
      sym (ap (λ o. unwrap_or o []) got) ∙ h.leads key

  of_rows : (es : List (List ℕ × List ℕ)) → Leads rows es → AllByRecursion (All (IsOfRow rows)) (values_of es)
  of_rows [] leads = tt
  of_rows (e ∷ es) leads = (subst (All (IsOfRow rows)) (sym (leads 0 e.0 e.1 refl)) (numbers_within e.0 rows), of_rows es (λ i key numbers is. leads (suc i) key numbers is))

  pub all_of_rows : AllByRecursion (All (IsOfRow rows)) (values index)
  all_of_rows = of_rows index.entries leads_there

  all_there : (ns front : List Numbered) → front ++ ns ≡ numbered_after 0 rows → AllByRecursion (λ n. has_key (keys index) n ≡ true) ns
  all_there [] front e = tt
  all_there (n ∷ ns) front e =
      let k = key_of_numbered n in
      let some : numbers_at index k ≡ [] → ⊥ = λ none. numbered_somewhere n ns front (ap (λ l. map number_of (filter (is_key k) l)) e ∙ sym (h.leads k) ∙ none) in
      (looked_up n index.entries some, all_there ns (front ++ n ∷ []) (append_assoc front (n ∷ []) ns ∙ e))

  pub copies_are_frozen : (copies : List Numbered) → copies ≡ copies_of rows (values index) → IsFrozenOf rows copies
  copies_are_frozen copies e =
      let ns = numbered_after 0 rows in
      let is : copies ≡ by_keys ns (keys index) = e ∙ copies_by_keys rows index.entries leads_there in
      let whole : filter (has_key (keys index)) ns ≡ ns = keep_all (has_key (keys index)) ns (all_there ns [] refl) in
      subst (IsFrozenOf rows) (sym is) (record {
        ordered = ordered_from_pairs (by_keys ns (keys index)) (in_order ns (added_rise 0 rows) (keys index) up);
        all = subst (λ l. IsPermutation l (by_keys ns (keys index))) whole (each_once ns (keys index) up);
      })
