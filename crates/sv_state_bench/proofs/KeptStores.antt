-- A store of two families may be opened.
use Rattle.std.proofs.Common.{◌≡◌, ◌≤◌, ◌<◌, ◌++◌, ◌∷◌, ℕ, zero, suc, List, [], length, map, Some, refl, sym, ap, ◌∙◌, subst, arith, length-append}
use Rattle.std.proofs.lemmas.List.{length-map}
use Rattle.std.specs.Option.{option_map}
use Rattle.std.specs.Prelude.{slice_get}
use Rattle.sv_model.specs.declared.records.FileMeta.{FileMeta}
use Rattle.sv_model.specs.declared.openings.OpenFamily.{OpenFamily}
use Rattle.sv_model.specs.declared.openings.Opening.{Opening}
use Rattle.sv_model.specs.Families.{default_name}
use Rattle.sv_model.specs.Flat.{AreCuts}
use Rattle.sv_model.specs.Lists.{Distinct, Every}
use Rattle.sv_model.specs.Named.{numbers_of}
use Rattle.sv_model.specs.Ranges.{FilesJoin}
use Rattle.sv_model.proofs.Entries.{get_none, get_one, some}
use Rattle.sv_state.specs.Openings.{IsOpenFamily, MayOpen, opening_files, opening_write, opening_writes}
use Rattle.sv_state_bench.specs.Kept.{IsKeptAs, kept_file}

-- a family of one file, and one of none
one-file : (f : OpenFamily) (name : List ℕ) → IsKeptAs name (kept_file ∷ []) 1 f → IsOpenFamily f
one-file f name k = record {
  options = k.options;
  joins = subst (λ (z : List FileMeta × ℕ). FilesJoin 0 z.0 z.1) (λ i. (sym k.files_are i, sym k.writes_are i)) (refl, refl);
  some = subst (Every (λ m. m.from < m.to)) (sym k.files_are) (λ i m e. let q = get_one kept_file i m e in subst (λ (z : FileMeta). z.from < z.to) (sym q.1) (omega arith));
  cuts = subst (Every (λ m. AreCuts m.from m.to m.bottom.cuts)) (sym k.files_are)
      (λ i m e. let q = get_one kept_file i m e in subst (λ (z : FileMeta). AreCuts z.from z.to z.bottom.cuts) (sym q.1) (record { ascend = omega arith; few = omega arith }));
  above = λ i m e above.
      let q = get_one kept_file i m (ap (λ l. slice_get l i) (sym k.files_are) ∙ e) in
      absurd (omega (arith, q.0, above));
}

no-file : (f : OpenFamily) (name : List ℕ) → IsKeptAs name [] 0 f → IsOpenFamily f
no-file f name k = record {
  options = k.options;
  joins = subst (λ (z : List FileMeta × ℕ). FilesJoin 0 z.0 z.1) (λ i. (sym k.files_are i, sym k.writes_are i)) refl;
  some = subst (Every (λ m. m.from < m.to)) (sym k.files_are) (λ i m e. absurd (get_none i m e));
  cuts = subst (Every (λ m. AreCuts m.from m.to m.bottom.cuts)) (sym k.files_are) (λ i m e. absurd (get_none i m e));
  above = λ i m e above. absurd (get_none i m (ap (λ l. slice_get l i) (sym k.files_are) ∙ e));
}

pub as-kept : (name : List ℕ) (fs gs : List FileMeta) (n m : ℕ) (f : OpenFamily) → IsKeptAs name fs n f → fs ≡ gs → n ≡ m → IsKeptAs name gs m f
as-kept name fs gs n m f k p q = record { name_is = k.name_is; options = k.options; files_are = k.files_are ∙ p; writes_are = k.writes_are ∙ q }

module _ (f g : OpenFamily) (k : IsKeptAs default_name (kept_file ∷ []) 1 f) (l : IsKeptAs (97 ∷ []) [] 0 g) where
  files-are : opening_files (f ∷ g ∷ []) ≡ kept_file ∷ []
  files-are = λ i. k.files_are i ++ (l.files_are i ++ [])

  numbers-are : numbers_of (opening_files (f ∷ g ∷ [])) ≡ 3 ∷ []
  numbers-are = ap numbers_of files-are

  apart : f.name ≡ g.name → ⊥
  apart q = let z : default_name ≡ 97 ∷ [] = sym k.name_is ∙ q ∙ l.name_is in absurd (cc)

  names : Distinct (f.name ∷ g.name ∷ [])
  names zero zero x p q = refl
  names zero (suc zero) x p q = absurd (apart (some (p ∙ sym q)))
  names zero (suc (suc j)) x p q = absurd (get_none j x q)
  names (suc zero) zero x p q = absurd (apart (some (q ∙ sym p)))
  names (suc zero) (suc zero) x p q = refl
  names (suc zero) (suc (suc j)) x p q = absurd (get_none j x q)
  names (suc (suc i)) j x p q = absurd (get_none i x p)

  each : Every IsOpenFamily (f ∷ g ∷ [])
  each zero x e = subst IsOpenFamily (some e) (one-file f default_name k)
  each (suc zero) x e = subst IsOpenFamily (some e) (no-file g (97 ∷ []) l)
  each (suc (suc i)) x e = absurd (get_none i x e)

  few : length (opening_writes 0 (f ∷ g ∷ [])) ≤ 262144
  few =
      let p = length-append (map (opening_write 0) f.writes.items) (map (opening_write 1) g.writes.items ++ []) in
      let q = length-append (map (opening_write 1) g.writes.items) [] in
      omega (arith, p, q, length-map f.writes.items (opening_write 0), length-map g.writes.items (opening_write 1), k.writes_are, l.writes_are)

  pub may-open : (o : Opening) → o.families.items ≡ f ∷ g ∷ [] → o.next ≡ 5 → MayOpen o 5
  may-open o q n = record {
    most = subst (λ (l : List OpenFamily). length l ≤ 16) (sym q) (omega arith);
    default = ap (λ (l : List OpenFamily). option_map (λ f. f.name) (slice_get l 0)) q ∙ ap Some k.name_is;
    names = subst (λ (l : List OpenFamily). Distinct (map (λ f. f.name) l)) (sym q) names;
    each = subst (Every IsOpenFamily) (sym q) each;
    distinct = subst Distinct (sym (ap (λ l. numbers_of (opening_files l)) q ∙ numbers-are)) (λ i j x a b. (get_one 3 i x a).0 ∙ sym (get_one 3 j x b).0);
    within = subst (Every (λ m. (1 ≤ m) × (m < o.next))) (sym (ap (λ l. numbers_of (opening_files l)) q ∙ numbers-are))
        (λ i m e. let w = get_one 3 i m e in (omega (arith, w.1), omega (arith, w.1, n)));
    few = subst (λ l. length (opening_writes 0 l) ≤ 262144) (sym q) few;
    least = omega arith;
    next_is = omega (arith, n);
  }
