-- Items chosen from a list, one after the other.
use Rattle.std.proofs.Common.{◌≡◌, ℕ, suc, ◌⊎◌, inl, inr, ⊎_elim, List, [], ◌∷◌, ◌++◌, length, Some, refl, sym, ap, ◌∙◌, subst, arith}
use Rattle.sv_model.specs.Lists.{Distinct, In, IsChosen, IsPartOf}
use Rattle.sv_model.proofs.Registers.{entry_push, entry-old, entry-new}

pub in_push : (n y : ℕ) (xs : List ℕ) → In n (xs ++ y ∷ []) → In n xs ⊎ (n ≡ y)
in_push n y xs there = ⊎_elim (λ old. inl (record { at = there.at; is = old })) (λ new. inr new.1) (entry_push xs y (suc there.at) n there.is)

pub in-old : (n y : ℕ) (xs : List ℕ) → In n xs → In n (xs ++ y ∷ [])
in-old n y xs there = record { at = there.at; is = entry-old xs (y ∷ []) (suc there.at) n there.is }

pub in-new : (y : ℕ) (xs : List ℕ) → In y (xs ++ y ∷ [])
in-new y xs = record { at = length xs; is = entry-new xs y (suc (length xs)) (omega arith) }

distinct_push : (xs : List ℕ) (y : ℕ) → Distinct xs → (In y xs → ⊥) → Distinct (xs ++ y ∷ [])
distinct_push xs y once new i j x first second = ⊎_elim
    (λ a. ⊎_elim (λ b. once i j x a b) (λ b. absurd (new (record { at = i; is = a ∙ ap Some b.1 }))) (entry_push xs y (suc j) x second))
    (λ a. ⊎_elim (λ b. absurd (new (record { at = j; is = b ∙ ap Some a.1 }))) (λ b. (let e = a.0 ∙ sym b.0 in omega (arith, e))) (entry_push xs y (suc j) x second))
    (entry_push xs y (suc i) x first)

part_push : (xs ys : List ℕ) (y : ℕ) → IsPartOf xs ys → IsPartOf (xs ++ y ∷ []) (ys ++ y ∷ [])
part_push [] [] y part = inl (refl, tt)
part_push [] (z ∷ ys) y part = inr (part_push [] ys y part)
part_push (x ∷ xs) [] y part = absurd part
part_push (x ∷ xs) (z ∷ ys) y part = ⊎_elim (λ here. inl (here.0, part_push xs ys y here.1)) (λ later. inr (part_push (x ∷ xs) ys y later)) part

part-skip : (xs ys : List ℕ) (y : ℕ) → IsPartOf xs ys → IsPartOf xs (ys ++ y ∷ [])
part-skip [] ys y part = tt
part-skip (x ∷ xs) [] y part = absurd part
part-skip (x ∷ xs) (z ∷ ys) y part = ⊎_elim (λ here. inl (here.0, part-skip xs ys y here.1)) (λ later. inr (part-skip (x ∷ xs) ys y later)) part

module _ (P : ℕ → Type 0) (all given : List ℕ) (n : ℕ) (h : IsChosen P all given) where
  pub chosen_push : P n → (In n given → ⊥) → IsChosen P (all ++ n ∷ []) (given ++ n ∷ [])
  chosen_push so new = record {
    exact = λ k. (
      λ there. ⊎_elim (λ old. (let e = (h.exact k).0 old in (in-old k n all e.0, e.1))) (λ e. (subst (λ j. In j (all ++ n ∷ [])) (sym e) (in-new n all), subst P (sym e) so)) (in_push k n given there),
      λ (there, so_k). ⊎_elim (λ old. in-old k n given ((h.exact k).1 (old, so_k))) (λ e. subst (λ j. In j (given ++ n ∷ [])) (sym e) (in-new n given)) (in_push k n all there),
    );
    once = distinct_push given n h.once new;
    order = part_push given all n h.order;
  }

  pub chosen-skip : (P n → In n given) → IsChosen P (all ++ n ∷ []) given
  chosen-skip had = record {
    exact = λ k. (
      λ there. (let e = (h.exact k).0 there in (in-old k n all e.0, e.1)),
      λ (there, so_k). ⊎_elim (λ old. (h.exact k).1 (old, so_k)) (λ e. subst (λ j. In j given) (sym e) (had (subst P e so_k))) (in_push k n all there),
    );
    once = h.once;
    order = part-skip given all n h.order;
  }
