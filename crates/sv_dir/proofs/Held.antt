-- The files that a map of names and bytes holds.
use Rattle.std.proofs.Common.{◌≡◌, ℕ, Bool, true, false, cond, ◌||◌, List, [], ◌∷◌, ◌++◌, map, Option, Some, None, refl, sym, ◌∙◌, ap, subst}
use Rattle.std.specs.Prelude.{String, Vec, string_bytes, option_map, is_some}
use Rattle.std.specs.declared.alloc.Global.{Global}
use denote.Ref.{Bor}
use Rattle.std.specs.declared.cmp.Ordering.TheVariants.{Less, Equal, Greater}
use Rattle.std.specs.declared.cmp.Ordering.{Ordering}
use Rattle.std.specs.Ordering.{nat_cmp, is_eq, eq_by_cmp}
use Rattle.std.specs.Cmp.{eq_by_cmp_equiv}
use Rattle.std.specs.Cmp.Lexicographic.{slice_cmp, nat_list_cmp_total}
use Rattle.std.specs.List.{list_any, AllByRecursion}
use Rattle.std.specs.List.Sorted.{IsStrictlySortedBy}
use Rattle.std.specs.String.{string_cmp}
use Rattle.std.specs.Str.{bytes_eq}
use Rattle.std.specs.Map.{lookup}
use Rattle.std.specs.BTreeMap.{BTreeMap, keys, is_at, get_by_text, UpdatesBy, IsOrdered}
use Rattle.std.specs.FinMap as finite
use Rattle.std.proofs.lemmas.Map.Text.{btree_map_updates_text, is_eq-slice_cmp}
use Rattle.std.proofs.lemmas.Map.Keys.{IsDistinct-from_sorted}
use Rattle.std.proofs.lemmas.List.Sums.{fold_push}
use Rattle.sv_dir.specs.declared.dir.Found.TheVariants as found
use Rattle.sv_dir.specs.declared.dir.Removal.TheVariants as removal
use Rattle.sv_model.specs.Files.{Files, with_file}
use Rattle.sv_dir.specs.Files.{same_name, ListsEach, Finds, removal_of}
use Rattle.sv_dir.specs.MemDir.{entry_of, held, all_put}

-- a look-up in the entries is one in the map
find-entries : (q : List ℕ) (es : List (String Global × Vec ℕ Global)) → finite.find (slice_cmp nat_cmp) q (map entry_of es) ≡ option_map (λ v. v.items) (lookup (is_at (λ k. slice_cmp nat_cmp q (string_bytes k))) es)
find-entries q [] = refl
find-entries q (e ∷ es) =
    elim (is_eq (slice_cmp nat_cmp q (string_bytes e.0))) as (λ b. cond b (Some e.1.items) (finite.find (slice_cmp nat_cmp) q (map entry_of es)) ≡ option_map (λ v. v.items) (cond b (Some e.1) (lookup (is_at (λ k. slice_cmp nat_cmp q (string_bytes k))) es))) [
      | true ↦ refl
      | false ↦ find-entries q es
    ]

pub get-held : (m : BTreeMap (String Global) (Vec ℕ Global)) (q : List ℕ) → finite.get (held m) q ≡ option_map (λ v. v.items) (get_by_text m q)
get-held m q = finite.get-from_entries nat_list_cmp_total (map entry_of m.entries) q ∙ find-entries q m.entries

pub get-with_file : (name : List ℕ) (content : Option (List ℕ)) (files : Files) (q : List ℕ) → finite.get (with_file name content files) q ≡ cond (eq_by_cmp (slice_cmp nat_cmp) q name) content (finite.get files q)
get-with_file name None files q = finite.get-remove nat_list_cmp_total files name q
get-with_file name (Some bytes) files q = finite.get-insert nat_list_cmp_total files name bytes q

option_map-cond : (b : Bool) (o p : Option (Vec ℕ Global)) → option_map (λ v. v.items) (cond b o p) ≡ cond b (option_map (λ v. v.items) o) (option_map (λ v. v.items) p)
option_map-cond true o p = refl
option_map-cond false o p = refl

same_test : (name q : List ℕ) → bytes_eq name q ≡ eq_by_cmp (slice_cmp nat_cmp) q name
same_test name q = sym (is_eq-slice_cmp name q) ∙ (eq_by_cmp_equiv nat_list_cmp_total).symm name q

same_files : (f g : Files) → ((q : List ℕ) → finite.get f q ≡ finite.get g q) → f ≡ g
same_files f g same = finite.same_map nat_list_cmp_total (finite.slice_cmp-IsAntisymmetric finite.nat_cmp-IsAntisymmetric) f g same

-- to write what a file holds changes nothing
kept_at : (name : List ℕ) (files : Files) (q : List ℕ) (o : Ordering) → slice_cmp nat_cmp q name ≡ o → finite.get files q ≡ cond (is_eq o) (finite.get files name) (finite.get files q)
kept_at name files q Less e = refl
kept_at name files q Equal e = sym (finite.get_tied nat_list_cmp_total files q name e)
kept_at name files q Greater e = refl

pub with_file-same : (name : List ℕ) (files : Files) → files ≡ with_file name (finite.get files name) files
with_file-same name files =
    same_files files (with_file name (finite.get files name) files) (λ q. kept_at name files q (slice_cmp nat_cmp q name) refl ∙ sym (get-with_file name (finite.get files name) files q))

pub held_updated : (name : List ℕ) (m n : BTreeMap (String Global) (Vec ℕ Global)) (w : Option (Vec ℕ Global)) → UpdatesBy string_cmp (λ k. slice_cmp nat_cmp name (string_bytes k)) m n w → held n ≡ with_file name (option_map (λ v. v.items) w) (held m)
held_updated name m n w u =
    same_files (held n) (with_file name (option_map (λ v. v.items) w) (held m)) (λ q.
    get-held n q
    ∙ ap (option_map (λ v. v.items)) (btree_map_updates_text name m n w u q)
    ∙ option_map-cond (bytes_eq name q) w (get_by_text m q)
    ∙ ap (λ b. cond b (option_map (λ v. v.items) w) (option_map (λ v. v.items) (get_by_text m q))) (same_test name q)
    ∙ ap (cond (eq_by_cmp (slice_cmp nat_cmp) q name) (option_map (λ v. v.items) w)) (sym (get-held m q))
    ∙ sym (get-with_file name (option_map (λ v. v.items) w) (held m) q))

-- the calls, which look by a key that is the name
pub held_after : (key name : List ℕ) → key ≡ name → (m n : BTreeMap (String Global) (Vec ℕ Global)) (w : Option (Vec ℕ Global)) → UpdatesBy string_cmp (λ k. slice_cmp nat_cmp key (string_bytes k)) m n w → held n ≡ with_file name (option_map (λ v. v.items) w) (held m)
held_after key name e m n w u = held_updated key m n w u ∙ ap (λ k. with_file k (option_map (λ v. v.items) w) (held m)) e

get_named : (key name : List ℕ) → key ≡ name → (m : BTreeMap (String Global) (Vec ℕ Global)) (o : Option (Vec ℕ Global)) → get_by_text m key ≡ o → option_map (λ v. v.items) o ≡ finite.get (held m) name
get_named key name e m o h = sym (ap (option_map (λ v. v.items)) h) ∙ sym (get-held m key) ∙ ap (finite.get (held m)) e

pub finds_bytes : (key name : List ℕ) → key ≡ name → (m : BTreeMap (String Global) (Vec ℕ Global)) (v read : Vec ℕ Global) → get_by_text m key ≡ Some v → read.items ≡ v.items → Finds (finite.get (held m) name) (found.Bytes read)
finds_bytes key name e m v read h same = subst (λ o. Finds o (found.Bytes read)) (get_named key name e m (Some v) h) same

pub finds_none : (key name : List ℕ) → key ≡ name → (m : BTreeMap (String Global) (Vec ℕ Global)) → get_by_text m key ≡ None → Finds (finite.get (held m) name) found.Absent
finds_none key name e m h = subst (λ o. Finds o found.Absent) (get_named key name e m None h) tt

removal_of_some : (o : Option (Vec ℕ Global)) → is_some o ≡ true → removal.Removed ≡ removal_of (option_map (λ v. v.items) o)
removal_of_some (Some v) h = refl
removal_of_some None h = absurd (cc)

removal_of_none : (o : Option (Vec ℕ Global)) → is_some o ≡ false → removal.Absent ≡ removal_of (option_map (λ v. v.items) o)
removal_of_none (Some v) h = absurd (cc)
removal_of_none None h = refl

pub removal_removed : (key name : List ℕ) → key ≡ name → (m : BTreeMap (String Global) (Vec ℕ Global)) (o : Option (Vec ℕ Global)) → get_by_text m key ≡ o → is_some o ≡ true → removal.Removed ≡ removal_of (finite.get (held m) name)
removal_removed key name e m o h some = removal_of_some o some ∙ ap removal_of (get_named key name e m o h)

pub removal_absent : (key name : List ℕ) → key ≡ name → (m : BTreeMap (String Global) (Vec ℕ Global)) (o : Option (Vec ℕ Global)) → get_by_text m key ≡ o → is_some o ≡ false → removal.Absent ≡ removal_of (finite.get (held m) name)
removal_absent key name e m o h none = removal_of_none o none ∙ ap removal_of (get_named key name e m o h)

-- one file more of a list
map_entries_push : (es : List (String Global × Vec ℕ Global)) (e : String Global × Vec ℕ Global) → map entry_of (es ++ (e ∷ [])) ≡ map entry_of es ++ (entry_of e ∷ [])
map_entries_push [] e = refl
map_entries_push (x ∷ es) e = ap (λ s. entry_of x ∷ s) (map_entries_push es e)

pub one_put_more : (es : List (String Global × Vec ℕ Global)) (e : String Global × Vec ℕ Global) → all_put (map entry_of (es ++ (e ∷ []))) ≡ finite.insert (all_put (map entry_of es)) (string_bytes e.0) e.1.items
one_put_more es e = ap all_put (map_entries_push es e) ∙ fold_push (λ files entry. finite.insert files entry.0 entry.1) finite.empty (map entry_of es) (entry_of e)

-- names read through references
pub names_through : (rs : List (Bor (String Global))) (ks : List (String Global)) → map (λ r. r.now) rs ≡ ks → map (λ r. string_bytes r.now) rs ≡ map string_bytes ks
names_through [] ks e = ap (map string_bytes) e
names_through (r ∷ rs) ks e = ap (λ s. string_bytes r.now ∷ s) (names_through rs (map (λ x. x.now) rs) refl) ∙ ap (map string_bytes) e

-- the names
has_entries : (q : List ℕ) (es : List (String Global × Vec ℕ Global)) → list_any (same_name q) (map (λ e. string_bytes e.0) es) ≡ is_some (finite.find (slice_cmp nat_cmp) q (map entry_of es))
has_entries q [] = refl
has_entries q (e ∷ es) =
    elim (is_eq (slice_cmp nat_cmp q (string_bytes e.0))) as (λ b. (b || list_any (same_name q) (map (λ e. string_bytes e.0) es)) ≡ is_some (cond b (Some e.1.items) (finite.find (slice_cmp nat_cmp) q (map entry_of es)))) [
      | true ↦ refl
      | false ↦ has_entries q es
    ]

names_of_keys : (es : List (String Global × Vec ℕ Global)) → map string_bytes (map (λ e. e.0) es) ≡ map (λ e. string_bytes e.0) es
names_of_keys [] = refl
names_of_keys (e ∷ es) = ap (λ s. string_bytes e.0 ∷ s) (names_of_keys es)

below-names : (k : String Global) (ks : List (String Global)) → AllByRecursion (λ y. string_cmp k y ≡ Less) ks → AllByRecursion (λ y. slice_cmp nat_cmp (string_bytes k) y ≡ Less) (map string_bytes ks)
below-names k [] h = h
below-names k (x ∷ ks) h = (h.0, below-names k ks h.1)

sorted-names : (ks : List (String Global)) → IsStrictlySortedBy string_cmp ks → IsStrictlySortedBy (slice_cmp nat_cmp) (map string_bytes ks)
unfolding IsStrictlySortedBy
sorted-names [] h = h
sorted-names (k ∷ ks) h = (below-names k ks h.0, sorted-names ks h.1)

pub in_order : (m : BTreeMap (String Global) (Vec ℕ Global)) (names : List (List ℕ)) → names ≡ map string_bytes (keys m) → IsOrdered string_cmp m → IsStrictlySortedBy (slice_cmp nat_cmp) names
in_order m names e ordered = subst (IsStrictlySortedBy (slice_cmp nat_cmp)) (sym e) (sorted-names (keys m) ordered)

pub lists_each : (m : BTreeMap (String Global) (Vec ℕ Global)) (names : List (List ℕ)) → names ≡ map string_bytes (keys m) → IsOrdered string_cmp m → ListsEach names (held m)
lists_each m names e ordered = record {
  has = λ q. ap (list_any (same_name q)) (e ∙ names_of_keys m.entries) ∙ has_entries q m.entries ∙ sym (ap is_some (finite.get-from_entries nat_list_cmp_total (map entry_of m.entries) q));
  once = IsDistinct-from_sorted (slice_cmp nat_cmp) names (in_order m names e ordered);
}
