-- The index of an open memtable: it stays one when a row is added, and what it leads to are the key's newest rows.
use Rattle.std.proofs.Common.{◌≡◌, ◌<◌, ◌≤◌, ℕ, zero, suc, ◌+◌, Bool, true, false, cond, nat_le, List, [], ◌∷◌, ◌++◌, length, take, map, get_or, Option, Some, None, refl, sym, ap, subst, ◌∙◌, arith}
use Rattle.std.specs.Prelude.{find, reverse, slice_get, option_map, option_and_then, unwrap_or, IfSome}
use Rattle.std.specs.List.{filter, All, AllByRecursion}
use Rattle.std.specs.List.Sorted.{IsNonDecreasing}
use Rattle.std.specs.Cmp.{eq_by_cmp_equiv}
use Rattle.std.specs.Cmp.Lexicographic.{slice_cmp, nat_list_cmp_total}
use Rattle.std.specs.Ordering.{nat_cmp}
use Rattle.std.specs.BTreeMap.{BTreeMap, get}
use Rattle.std.proofs.lemmas.Bool.{le-leb}
use Rattle.std.proofs.lemmas.List.{reverse-append, length-append, map-append, append-nil}
use Rattle.std.proofs.lemmas.List.Elements.{filter-append, All-from_recursion, All-filter, All-map, All-contains, Contains-push, recursion_from_All}
use Rattle.std.proofs.Math.Seq.{take-length}
use Rattle.sv_model.specs.declared.writes.Row.{Row}
use Rattle.sv_model.specs.declared.writes.Numbered.{Numbered}
use Rattle.sv_model.specs.Flat.{numbered_after}
use Rattle.sv_model.specs.Journal.{same_key, newest_row}
use Rattle.sv_model.specs.Order.{key_of_numbered, number_of}
use Rattle.sv_model.specs.Registers.{entry}
use Rattle.sv_model.proofs.KeyOrder.{same_eq}
use Rattle.sv_model.specs.declared.limits.TheConstants.{MAX_ROWS}
use Rattle.sv_memtable.specs.Index.{numbers_of_key, numbers_at, IsIndexed, Notes, LeadsAsBefore}
use Rattle.sv_memtable.proofs.NumberedRows.{find_last, find-reverse, if_last, last_of_chosen, is_upto, newest_among, Bears, all_bear, LeadsBack, all_lead_back, numbered-push}

-- ---- a row is added

kept_one : (b : Bool) (n : Numbered) → map number_of (cond b (n ∷ []) []) ≡ cond b (n.number ∷ []) []
kept_one true n = refl
kept_one false n = refl

numbers-push : (key : List ℕ) (rows : List Row) (row : Row) → numbers_of_key key (rows ++ row ∷ []) ≡ numbers_of_key key rows ++ cond (same_key key row.key) (suc (length rows) ∷ []) []
numbers-push key rows row =
    let n : Numbered = record { number = suc (length rows); row = row } in
    let of_key : Numbered → Bool = λ n. same_key key (key_of_numbered n) in
    ap (λ l. map number_of (filter of_key l)) (numbered-push 0 (length rows) rows row (omega arith))
    ∙ ap (map number_of) (filter-append of_key (numbered_after 0 rows) (n ∷ []))
    ∙ map-append number_of (filter of_key (numbered_after 0 rows)) (filter of_key (n ∷ []))
    ∙ ap (λ l. numbers_of_key key rows ++ l) (kept_one (same_key key row.key) n)

pub indexed-push : (rows : List Row) (row : Row) (number : ℕ) (old new : BTreeMap (List ℕ) (List ℕ)) → IsIndexed rows old → length rows < MAX_ROWS → number ≡ length rows + 1 → Notes old row.key number new → IsIndexed (rows ++ row ∷ []) new
indexed-push rows row number old new h few e notes = record {
  few = omega (arith, length-append rows (row ∷ []));
  leads = λ q.
      let next : number ≡ suc (length rows) = omega arith in
      notes q
      ∙ ap (λ l. l ++ cond (same_key row.key q) (number ∷ []) []) (h.leads q)
      ∙ ap (λ b. numbers_of_key q rows ++ cond b (number ∷ []) []) ((eq_by_cmp_equiv nat_list_cmp_total).symm row.key q)
      ∙ ap (λ n. numbers_of_key q rows ++ cond (same_key q row.key) (n ∷ []) []) next
      ∙ sym (numbers-push q rows row);
}

pub indexed-same : (rows : List Row) (old new : BTreeMap (List ℕ) (List ℕ)) → IsIndexed rows old → LeadsAsBefore old new → IsIndexed rows new
indexed-same rows old new h same = record { few = h.few; leads = λ q. same q ∙ h.leads q }

-- ---- the numbers of a key

abbrev Rises : ℕ → List ℕ → Type 0
Rises low [] = Unit {0}
Rises low (x ∷ xs) = (low < x) × Rises x xs

rises_lower : (low high : ℕ) (xs : List ℕ) → low ≤ high → Rises high xs → Rises low xs
rises_lower low high [] le h = tt
rises_lower low high (x ∷ xs) le h = (omega (arith, h.0), h.1)

rise_one : (b : Bool) (before : ℕ) (n : Numbered) (rest : List Numbered) → n.number ≡ suc before → Rises (suc before) (map number_of rest) → Rises before (map number_of (cond b (n ∷ rest) rest))
rise_one true before n rest e h = (omega arith, subst (λ m. Rises m (map number_of rest)) (sym e) h)
rise_one false before n rest e h = rises_lower before (suc before) (map number_of rest) (omega arith) h

rise : (chosen : Numbered → Bool) (before : ℕ) (rows : List Row) → Rises before (map number_of (filter chosen (numbered_after before rows)))
rise chosen before [] = tt
rise chosen before (row ∷ rows) =
    let n : Numbered = record { number = suc before; row = row } in
    rise_one (chosen n) before n (filter chosen (numbered_after (suc before) rows)) refl (rise chosen (suc before) rows)

above_low : (low : ℕ) (xs : List ℕ) → Rises low xs → (j d : ℕ) → j < length xs → low < get_or xs j d
above_low low [] h j d lt = absurd (omega arith)
above_low low (x ∷ xs) h zero d lt = h.0
above_low low (x ∷ xs) h (suc j) d lt = omega (arith, h.0, above_low x xs h.1 j d (omega arith))

rising : (low : ℕ) (xs : List ℕ) → Rises low xs → IsNonDecreasing xs
rising low [] h i j d le lt = absurd (omega arith)
rising low (x ∷ xs) h zero zero d le lt = omega arith
rising low (x ∷ xs) h zero (suc j) d le lt = omega (arith, above_low x xs h.1 j d (omega arith))
rising low (x ∷ xs) h (suc i) zero d le lt = absurd (omega arith)
rising low (x ∷ xs) h (suc i) (suc j) d le lt = rising x xs h.1 i j d (omega arith) (omega arith)

pub numbers_rise : (key : List ℕ) (rows : List Row) → IsNonDecreasing (numbers_of_key key rows)
numbers_rise key rows = rising 0 (numbers_of_key key rows) (rise (λ n. same_key key (key_of_numbered n)) 0 rows)

abbrev pub IsOfRow : List Row → ℕ → Type 0
IsOfRow rows n = (1 ≤ n) × (n ≤ length rows)

within : {A : Type 0} (xs : List A) (i : ℕ) (x : A) → slice_get xs i ≡ Some x → i < length xs
within [] i x e = absurd (cc e)
within (y ∷ xs) zero x e = omega arith
within (y ∷ xs) (suc i) x e = omega (arith, within xs i x e)

of_rows : (rows : List Row) (ns : List Numbered) → AllByRecursion (Bears 0 rows) ns → AllByRecursion (λ (n : Numbered). IsOfRow rows n.number) ns
of_rows rows [] all = tt
of_rows rows (n ∷ ns) all = ((omega (arith, all.0.1), omega (arith, all.0.1, within rows all.0.0 n.row all.0.2)), of_rows rows ns all.1)

pub numbers_within : (key : List ℕ) (rows : List Row) → All (IsOfRow rows) (numbers_of_key key rows)
numbers_within key rows =
    let ns = numbered_after 0 rows in
    let all : All (λ (n : Numbered). IsOfRow rows n.number) ns = All-from_recursion (λ (n : Numbered). IsOfRow rows n.number) ns (of_rows rows ns (all_bear 0 rows)) in
    All-map (IsOfRow rows) number_of (filter (λ n. same_key key (key_of_numbered n)) ns)
    (All-filter (λ n. same_key key (key_of_numbered n)) (λ (n : Numbered). IsOfRow rows n.number) ns all)

-- ---- what is found

back : (rows : List Row) (o : Option Numbered) → IfSome o (LeadsBack rows) → option_and_then (entry rows) (option_map number_of o) ≡ option_map (λ (n : Numbered). n.row) o
back rows None h = refl
back rows (Some n) h = h

-- the last number of a key that is at most the cut is that of the newest among so many rows
pub found_upto : (rows : List Row) (key : List ℕ) (upto : ℕ) → option_and_then (entry rows) (find (λ n. nat_le n upto) (reverse (numbers_of_key key rows))) ≡ newest_row key (take upto rows)
found_upto rows key upto =
    let ns = numbered_after 0 rows in
    ap (option_and_then (entry rows)) (
    find-reverse (λ n. nat_le n upto) (numbers_of_key key rows)
    ∙ last_of_chosen number_of (λ n. nat_le n upto) (λ n. same_key key (key_of_numbered n)) ns)
    ∙ back rows (find_last (is_upto key upto) ns) (if_last (LeadsBack rows) (is_upto key upto) ns (all_lead_back rows))
    ∙ sym (ap (option_map (λ (n : Numbered). n.row)) (find-reverse (is_upto key upto) ns))
    ∙ newest_among key upto rows

-- the last number of a key is that of a row
pub last_within : (rows : List Row) (key older : List ℕ) (number : ℕ) → numbers_of_key key rows ≡ older ++ number ∷ [] → IsOfRow rows number
last_within rows key older number e =
    let all : All (IsOfRow rows) (older ++ number ∷ []) = subst (All (IsOfRow rows)) e (numbers_within key rows) in
    All-contains (IsOfRow rows) (older ++ number ∷ []) number all (Contains-push older number)

-- the last number of a key is that of its newest row
pub found_last : (rows : List Row) (key older : List ℕ) (number : ℕ) → numbers_of_key key rows ≡ older ++ number ∷ [] → entry rows number ≡ newest_row key rows
found_last rows key older number e =
    let is = last_within rows key older number e in
    let first : reverse (numbers_of_key key rows) ≡ number ∷ reverse older = ap reverse e ∙ reverse-append older (number ∷ []) in
    let passes : nat_le number (length rows) ≡ true = le-leb number (length rows) is.1 in
    sym (ap (λ l. option_and_then (entry rows) (find (λ n. nat_le n (length rows)) l)) first
    ∙ ap (λ b. option_and_then (entry rows) (cond b (Some number) (find (λ n. nat_le n (length rows)) (reverse older)))) passes)
    ∙ found_upto rows key (length rows)
    ∙ ap (newest_row key) (take-length rows)

-- ---- what the map leads to

pub led : (rows : List Row) (index : BTreeMap (List ℕ) (List ℕ)) (key numbers : List ℕ) → IsIndexed rows index → get (slice_cmp nat_cmp) index key ≡ Some numbers → numbers_of_key key rows ≡ numbers
led rows index key numbers h got = sym (h.leads key) ∙ ap (λ o. unwrap_or o []) got

pub led_nowhere : (rows : List Row) (index : BTreeMap (List ℕ) (List ℕ)) (key : List ℕ) → IsIndexed rows index → get (slice_cmp nat_cmp) index key ≡ None → numbers_of_key key rows ≡ []
led_nowhere rows index key h got = sym (h.leads key) ∙ ap (λ o. unwrap_or o []) got

-- a key without numbers has no row
pub none_upto : (rows : List Row) (key : List ℕ) (upto : ℕ) → numbers_of_key key rows ≡ [] → newest_row key (take upto rows) ≡ None
none_upto rows key upto e =
    sym (found_upto rows key upto) ∙ ap (λ l. option_and_then (entry rows) (find (λ n. nat_le n upto) (reverse l))) e

pub none_at_all : (rows : List Row) (key : List ℕ) → numbers_of_key key rows ≡ [] → newest_row key rows ≡ None
none_at_all rows key e = sym (ap (newest_row key) (take-length rows)) ∙ none_upto rows key (length rows) e

-- what is found among the numbers of a key is the number of a row
pub found_within : (rows : List Row) (key : List ℕ) (test : ℕ → Bool) → IfSome (find test (reverse (numbers_of_key key rows))) (IsOfRow rows)
found_within rows key test =
    subst (λ o. IfSome o (IsOfRow rows)) (sym (find-reverse test (numbers_of_key key rows)))
    (if_last (IsOfRow rows) test (numbers_of_key key rows) (recursion_from_All (IsOfRow rows) (numbers_of_key key rows) (numbers_within key rows)))

-- ---- a number is noted

noted : (b : Bool) (numbers : List ℕ) (number : ℕ) (o : Option (List ℕ)) → (b ≡ true → unwrap_or o [] ≡ numbers) → unwrap_or (cond b (Some (numbers ++ number ∷ [])) o) [] ≡ unwrap_or o [] ++ cond b (number ∷ []) []
noted true numbers number o h = ap (λ l. l ++ number ∷ []) (sym (h refl))
noted false numbers number o h = sym (append-nil (unwrap_or o []))

-- the map has one more number at the key
pub notes_from : (old new : BTreeMap (List ℕ) (List ℕ)) (key numbers after : List ℕ) (number : ℕ) → numbers_at old key ≡ numbers → after ≡ numbers ++ number ∷ [] → ((q : List ℕ) → get (slice_cmp nat_cmp) new q ≡ cond (same_key key q) (Some after) (get (slice_cmp nat_cmp) old q)) → Notes old key number new
notes_from old new key numbers after number at e writes = λ q.
    ap (λ o. unwrap_or o []) (writes q ∙ ap (λ l. cond (same_key key q) (Some l) (get (slice_cmp nat_cmp) old q)) e)
    ∙ noted (same_key key q) numbers number (get (slice_cmp nat_cmp) old q) (λ same. ap (numbers_at old) (sym (same_eq key q same)) ∙ at)

as_before : (b : Bool) (numbers : List ℕ) (o : Option (List ℕ)) → (b ≡ true → unwrap_or o [] ≡ numbers) → unwrap_or (cond b (Some numbers) o) [] ≡ unwrap_or o []
as_before true numbers o h = sym (h refl)
as_before false numbers o h = refl

-- the map has at the key the numbers that it had
pub leads_as_before : (old new : BTreeMap (List ℕ) (List ℕ)) (key numbers after : List ℕ) → numbers_at old key ≡ numbers → after ≡ numbers → ((q : List ℕ) → get (slice_cmp nat_cmp) new q ≡ cond (same_key key q) (Some after) (get (slice_cmp nat_cmp) old q)) → LeadsAsBefore old new
leads_as_before old new key numbers after at e writes = λ q.
    ap (λ o. unwrap_or o []) (writes q ∙ ap (λ l. cond (same_key key q) (Some l) (get (slice_cmp nat_cmp) old q)) e)
    ∙ as_before (same_key key q) numbers (get (slice_cmp nat_cmp) old q) (λ same. ap (numbers_at old) (sym (same_eq key q same)) ∙ at)
