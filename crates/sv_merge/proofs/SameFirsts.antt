-- When lists of rows have the same first rows of each end, whatever stands before and after them.
use Rattle.std.proofs.Common.{◌≡◌, ℕ, Bool, true, false, cond, ◌&&◌, List, [], ◌∷◌, ◌++◌, map, Option, Some, None, refl, sym, ap, ◌∙◌, append_assoc}
use Rattle.std.proofs.lemmas.Bool.{eqb-true, eq-eqb, and_from}
use Rattle.std.proofs.lemmas.List.{map-append}
use Rattle.sv_model.specs.declared.writes.Kept.{Kept}
use Rattle.sv_model.specs.Journal.{is_delete}
use Rattle.sv_model.specs.Flat.{end_among, is_empty, without_last_deletes, stays}
use Rattle.sv_model.proofs.FlatFirsts.{is_last, firsts}
use Rattle.sv_model.proofs.FlatReads.{AllDeletes, deletes_left}
use Rattle.sv_merge.specs.Merging.{moved}

abbrev pub SameFirsts : List Kept → List Kept → Type 0
SameFirsts xs ys = (last : Option ℕ) (more : List Kept) → firsts last (xs ++ more) ≡ firsts last (ys ++ more)

behind : (front xs ys : List Kept) → ((last : Option ℕ) → firsts last xs ≡ firsts last ys) → (last : Option ℕ)
    → firsts last (front ++ xs) ≡ firsts last (front ++ ys)
behind [] xs ys same last = same last
behind (r ∷ front) xs ys same last =
    (λ i. cond (is_last last r.end) (behind front xs ys same last i) (r ∷ behind front xs ys same (Some r.end) i))

pub same_join : (xs ys us vs : List Kept) → SameFirsts xs ys → SameFirsts us vs → SameFirsts (xs ++ us) (ys ++ vs)
same_join xs ys us vs p q last more =
    ap (firsts last) (append_assoc xs us more)
    ∙ p last (us ++ more)
    ∙ behind ys (us ++ more) (vs ++ more) (λ l. q l more) last
    ∙ ap (firsts last) (sym (append_assoc ys vs more))

pub same_refl : (xs ys : List Kept) → xs ≡ ys → SameFirsts xs ys
same_refl xs ys e last more = ap (λ (l : List Kept). firsts last (l ++ more)) e

pub same_trans : (xs ys zs : List Kept) → SameFirsts xs ys → SameFirsts ys zs → SameFirsts xs zs
same_trans xs ys zs p q last more = p last more ∙ q last more

-- ---- the first of each end, once more under new ends

module _ (cuts : List ℕ) (to : ℕ) where
  abbrev Follows : Option ℕ → Option ℕ → Type 0
  Follows None new = Unit {0}
  Follows (Some e) new = new ≡ Some (end_among cuts to e)

  again_new : (old new : Option ℕ) (e : ℕ) → Follows old new → is_last old e ≡ true
      → is_last new (end_among cuts to e) ≡ true
  again_new None new e follows same = absurd (cc same)
  again_new (Some l) new e follows same =
      ap (λ (x : Option ℕ). is_last x (end_among cuts to e)) follows
      ∙ eq-eqb (end_among cuts to e) (end_among cuts to l) (ap (end_among cuts to) (eqb-true e l same))

  follows_next : (new : Option ℕ) (e : ℕ) → is_last new (end_among cuts to e) ≡ true → Follows (Some e) new
  follows_next None e same = absurd (cc same)
  follows_next (Some l) e same = ap Some (sym (eqb-true (end_among cuts to e) l same))

  twice : (old new : Option ℕ) (rows more : List Kept) → Follows old new
      → firsts new (map (moved cuts to) (firsts old rows) ++ more) ≡ firsts new (map (moved cuts to) rows ++ more)
  twice old new [] more follows = refl
  twice old new (r ∷ rows) more follows =
      at (is_last old r.end) refl (is_last new (end_among cuts to r.end)) refl (twice old new rows more follows) (λ n f. twice (Some r.end) n rows more f)
    where
      at : (b : Bool) → is_last old r.end ≡ b → (c : Bool) → is_last new (end_among cuts to r.end) ≡ c
          → firsts new (map (moved cuts to) (firsts old rows) ++ more) ≡ firsts new (map (moved cuts to) rows ++ more)
          → ((n : Option ℕ) → Follows (Some r.end) n → firsts n (map (moved cuts to) (firsts (Some r.end) rows) ++ more) ≡ firsts n (map (moved cuts to) rows ++ more))
          → firsts new (map (moved cuts to) (cond b (firsts old rows) (r ∷ firsts (Some r.end) rows)) ++ more)
          ≡ cond c (firsts new (map (moved cuts to) rows ++ more)) (moved cuts to r ∷ firsts (Some (end_among cuts to r.end)) (map (moved cuts to) rows ++ more))
      at true e c is skip next =
          skip ∙ ap (λ (b : Bool). cond b (firsts new (map (moved cuts to) rows ++ more)) (moved cuts to r ∷ firsts (Some (end_among cuts to r.end)) (map (moved cuts to) rows ++ more)))
          (sym (again_new old new r.end follows e) ∙ is)
      at false e true is skip next =
          ap (λ (b : Bool). cond b (firsts new (map (moved cuts to) (firsts (Some r.end) rows) ++ more)) (moved cuts to r ∷ firsts (Some (end_among cuts to r.end)) (map (moved cuts to) (firsts (Some r.end) rows) ++ more))) is
          ∙ next new (follows_next new r.end is)
      at false e false is skip next =
          ap (λ (b : Bool). cond b (firsts new (map (moved cuts to) (firsts (Some r.end) rows) ++ more)) (moved cuts to r ∷ firsts (Some (end_among cuts to r.end)) (map (moved cuts to) (firsts (Some r.end) rows) ++ more))) is
          ∙ ap (λ (l : List Kept). moved cuts to r ∷ l) (next (Some (end_among cuts to r.end)) refl)

  pub same_twice : (rows : List Kept) → SameFirsts (map (moved cuts to) (firsts None rows)) (map (moved cuts to) rows)
  same_twice rows last more = twice None last rows more tt

-- ---- deletes at the old end

firsts_deletes : (last : Option ℕ) (rows : List Kept) → AllDeletes rows → AllDeletes (firsts last rows)
firsts_deletes last [] all = tt
firsts_deletes last (r ∷ rows) all = at (is_last last r.end) (firsts_deletes last rows all.1) (firsts_deletes (Some r.end) rows all.1)
  where
    at : (b : Bool) → AllDeletes (firsts last rows) → AllDeletes (firsts (Some r.end) rows)
        → AllDeletes (cond b (firsts last rows) (r ∷ firsts (Some r.end) rows))
    at true h n = h
    at false h n = (all.0, n)

split_deletes : (last : Option ℕ) (rows old : List Kept) → AllDeletes old
    → (left : List Kept) × (firsts last (rows ++ old) ≡ firsts last rows ++ left) × AllDeletes left
split_deletes last [] old all = (firsts last old, refl, firsts_deletes last old all)
split_deletes last (r ∷ rows) old all = at (is_last last r.end) (split_deletes last rows old all) (split_deletes (Some r.end) rows old all)
  where
    at : (b : Bool) → (left : List Kept) × (firsts last (rows ++ old) ≡ firsts last rows ++ left) × AllDeletes left
        → (left : List Kept) × (firsts (Some r.end) (rows ++ old) ≡ firsts (Some r.end) rows ++ left) × AllDeletes left
        → (left : List Kept) × (cond b (firsts last (rows ++ old)) (r ∷ firsts (Some r.end) (rows ++ old)) ≡ cond b (firsts last rows) (r ∷ firsts (Some r.end) rows) ++ left) × AllDeletes left
    at true h n = h
    at false h n = (n.0, ap (λ (l : List Kept). r ∷ l) n.1, n.2)

without_deletes : (rows : List Kept) → AllDeletes rows → without_last_deletes rows ≡ []
without_deletes [] all = refl
without_deletes (r ∷ rows) all =
    ap (λ (b : Bool). cond b [] (r ∷ without_last_deletes rows)) (and_from (is_delete r.row.op) (is_empty (without_last_deletes rows)) all.0 (ap is_empty (without_deletes rows all.1)))

without_more : (rows old : List Kept) → AllDeletes old → without_last_deletes (rows ++ old) ≡ without_last_deletes rows
without_more [] old all = without_deletes old all
without_more (r ∷ rows) old all = ap (λ (l : List Kept). cond (is_delete r.row.op && is_empty l) [] (r ∷ l)) (without_more rows old all)

pub old_deletes : (rows old : List Kept) → AllDeletes old
    → without_last_deletes (firsts None (rows ++ old)) ≡ without_last_deletes (firsts None rows)
old_deletes rows old all =
    let split = split_deletes None rows old all in ap without_last_deletes split.1 ∙ without_more (firsts None rows) split.0 split.2

moved_deletes : (cuts : List ℕ) (to : ℕ) (rows : List Kept) → AllDeletes rows → AllDeletes (map (moved cuts to) rows)
moved_deletes cuts to [] all = tt
moved_deletes cuts to (r ∷ rows) all = (all.0, moved_deletes cuts to rows all.1)

-- It makes no difference whether the oldest rows were without them already.
pub oldest_stays : (cuts : List ℕ) (to : ℕ) (last own : Bool) (front rows : List Kept) → (last ≡ false → own ≡ false)
    → stays last (firsts None (front ++ map (moved cuts to) (stays own rows))) ≡ stays last (firsts None (front ++ map (moved cuts to) rows))
oldest_stays cuts to last false front rows h = refl
oldest_stays cuts to false true front rows h = absurd (let clash : true ≡ false = h refl in cc clash)
oldest_stays cuts to true true front rows h =
    let split = deletes_left rows in
    let m = moved cuts to in
    let whole : front ++ map m rows ≡ (front ++ map m (without_last_deletes rows)) ++ map m split.0 =
    ap (λ (l : List Kept). front ++ map m l) split.1
    ∙ ap (λ (l : List Kept). front ++ l) (map-append m (without_last_deletes rows) split.0)
    ∙ sym (append_assoc front (map m (without_last_deletes rows)) (map m split.0)) in
    sym (ap (λ (l : List Kept). without_last_deletes (firsts None l)) whole
    ∙ old_deletes (front ++ map m (without_last_deletes rows)) (map m split.0) (moved_deletes cuts to split.0 split.2))
