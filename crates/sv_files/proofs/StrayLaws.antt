-- Strays registered one after the other.
use Rattle.std.proofs.Common.{◌≡◌, ◌<◌, ◌≤◌, ℕ, suc, ◌+◌, List, [], ◌∷◌, ◌++◌, length, get_or, take, map, Some, refl, sym, ap, ◌∙◌, arith, append_assoc, length-append}
use Rattle.std.proofs.lemmas.List.{take_more}
use Rattle.std.proofs.lemmas.Option.{slice_get-get_or}
use Rattle.sv_model.specs.declared.records.RegisteredFile.{RegisteredFile}
use Rattle.sv_model.specs.Lists.{In, same, times}
use Rattle.sv_model.specs.Numbers.{registered}
use Rattle.sv_model.proofs.Lists.{total-append, in_times, times_in}
use Rattle.sv_files.specs.Kept.{AddsStrays, obsolete_stray}
use Rattle.sv_files.proofs.ChosenItems.{chosen_push, chosen-skip}

map-push : (strays : List ℕ) (n : ℕ) → map obsolete_stray (strays ++ n ∷ []) ≡ map obsolete_stray strays ++ obsolete_stray n ∷ []
map-push [] n = refl
map-push (m ∷ strays) n = ap (λ l. obsolete_stray m ∷ l) (map-push strays n)

pub registered-strays : (n : ℕ) (strays : List ℕ) → registered n (map obsolete_stray strays) ≡ times n strays
registered-strays n [] = refl
registered-strays n (m ∷ strays) = ap (λ k. same n m + k) (registered-strays n strays)

pub registered-with : (n : ℕ) (l : List RegisteredFile) (strays : List ℕ) → registered n (l ++ map obsolete_stray strays) ≡ registered n l + times n strays
registered-with n l strays = total-append (λ x. same n x.number) l (map obsolete_stray strays) ∙ ap (λ k. registered n l + k) (registered-strays n strays)

module _ (old new : List RegisteredFile) (listed : List ℕ) (limit n : ℕ) (h : AddsStrays old new listed limit) where
  count : registered n new ≡ registered n old + times n h.strays
  count = ap (registered n) h.is ∙ registered-with n old h.strays

  pub stray_push : n < limit → registered n new ≡ 0 → AddsStrays old (new ++ obsolete_stray n ∷ []) (listed ++ n ∷ []) limit
  stray_push low none = record {
    strays = h.strays ++ n ∷ [];
    chosen = chosen_push (λ k. (registered k old ≡ 0) × (k < limit)) listed h.strays n h.chosen ((let c = count in omega (arith, c, none)), low) (λ there. (let t = times_in n h.strays there in let c = count in omega (arith, c, none, t)));
    is = ap (λ l. l ++ obsolete_stray n ∷ []) h.is ∙ append_assoc old (map obsolete_stray h.strays) (obsolete_stray n ∷ []) ∙ ap (λ l. old ++ l) (sym (map-push h.strays n));
  }

  pub stray-high : limit ≤ n → AddsStrays old new (listed ++ n ∷ []) limit
  stray-high le = record {
    strays = h.strays;
    chosen = chosen-skip (λ k. (registered k old ≡ 0) × (k < limit)) listed h.strays n h.chosen (λ so. absurd (omega (arith, so.1)));
    is = h.is;
  }

  pub stray-known : 0 < registered n new → AddsStrays old new (listed ++ n ∷ []) limit
  stray-known known = record {
    strays = h.strays;
    chosen = chosen-skip (λ k. (registered k old ≡ 0) × (k < limit)) listed h.strays n h.chosen (λ so. in_times n h.strays (let c = count in omega (arith, c, known, so.0)));
    is = h.is;
  }

-- ---- an item of a loop
pub item-in : (xs : List ℕ) (i x : ℕ) → i < length xs → x ≡ get_or xs i x → In x xs
item-in xs i x within is = record { at = i; is = slice_get-get_or xs i x within ∙ ap Some (sym is) }

pub take-item : (xs : List ℕ) (i x : ℕ) → i < length xs → x ≡ get_or xs i x → take (i + 1) xs ≡ take i xs ++ x ∷ []
take-item xs i x within is = take_more xs i x within ∙ ap (λ (y : ℕ). take i xs ++ y ∷ []) (sym is)

-- ---- the last number is taken back
take-one : (front old : List RegisteredFile) (last : RegisteredFile) → front ++ last ∷ [] ≡ take (suc (length front)) old → front ≡ take (length front) old
take-one [] [] last e = refl
take-one [] (y ∷ old) last e = refl
take-one (x ∷ front) [] last e = absurd (cc)
take-one (x ∷ front) (y ∷ old) last e =
    let head : x ≡ y = cc in
    let tail : front ++ last ∷ [] ≡ take (suc (length front)) old = cc in
    let rest = take-one front old last tail in cc

pub take-front : (old front : List RegisteredFile) (last : RegisteredFile) (now : List RegisteredFile) → now ≡ front ++ last ∷ [] → now ≡ take (length now) old → front ≡ take (length front) old
take-front old front last now is first =
    let long : length now ≡ suc (length front) = omega (arith, ap length is, length-append front (last ∷ [])) in
    take-one front old last (sym is ∙ first ∙ ap (λ n. take n old) long)
