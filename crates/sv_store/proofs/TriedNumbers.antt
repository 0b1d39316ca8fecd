-- The numbers that were tried, those of them that are Gone and those that are left, with one number more.
use Rattle.std.proofs.Common.{◌≡◌, ◌++◌, ◌∷◌, ◌⊎◌, inl, inr, ⊎_elim, ℕ, suc, List, [], length, Some, sym, ap, ◌∙◌, subst, refl, arith}
use Rattle.sv_model.specs.Lists.{Distinct, In, IsPartOf}
use Rattle.sv_model.proofs.Entries.{get_none, in-cons, in-left, in-none, in-suc, in_append}
use Rattle.sv_model.proofs.Registers.{entry_push, entry-new}
use Rattle.sv_store.specs.Removals.{AreTried}

-- ---- one item more in a list
in_push : (k n : ℕ) (xs : List ℕ) → In k (xs ++ n ∷ []) → In k xs ⊎ (k ≡ n)
in_push k n xs there = ⊎_elim
    (λ old. inl old)
    (λ new. ⊎_elim (λ e. inr e) (λ i. absurd (in-none k i)) (in-cons k n [] new))
    (in_append k xs (n ∷ []) there)

pub in-old : (k n : ℕ) (xs : List ℕ) → In k xs → In k (xs ++ n ∷ [])
in-old k n xs there = in-left k xs (n ∷ []) there

pub in-new : (n : ℕ) (xs : List ℕ) → In n (xs ++ n ∷ [])
in-new n xs = record { at = length xs; is = entry-new xs n (suc (length xs)) (omega arith) }

distinct_push : (xs : List ℕ) (y : ℕ) → Distinct xs → (In y xs → ⊥) → Distinct (xs ++ y ∷ [])
distinct_push xs y once new i j x first second = ⊎_elim
    (λ a. ⊎_elim (λ b. once i j x a b) (λ b. absurd (new (record { at = i; is = a ∙ ap Some b.1 }))) (entry_push xs y (suc j) x second))
    (λ a. ⊎_elim (λ b. absurd (new (record { at = j; is = b ∙ ap Some a.1 }))) (λ b. (let e = a.0 ∙ sym b.0 in omega (arith, e))) (entry_push xs y (suc j) x second))
    (entry_push xs y (suc i) x first)

-- ---- a list with some items left out
part_push : (xs ys : List ℕ) (y : ℕ) → IsPartOf xs ys → IsPartOf (xs ++ y ∷ []) (ys ++ y ∷ [])
part_push [] [] y part = inl (refl, tt)
part_push [] (z ∷ ys) y part = inr (part_push [] ys y part)
part_push (x ∷ xs) [] y part = absurd part
part_push (x ∷ xs) (z ∷ ys) y part = ⊎_elim (λ here. inl (here.0, part_push xs ys y here.1)) (λ later. inr (part_push (x ∷ xs) ys y later)) part

part-skip : (xs ys : List ℕ) (y : ℕ) → IsPartOf xs ys → IsPartOf xs (ys ++ y ∷ [])
part-skip [] ys y part = tt
part-skip (x ∷ xs) [] y part = absurd part
part-skip (x ∷ xs) (z ∷ ys) y part = ⊎_elim (λ here. inl (here.0, part-skip xs ys y here.1)) (λ later. inr (part-skip (x ∷ xs) ys y later)) part

pub part-in : (xs ys : List ℕ) (n : ℕ) → IsPartOf xs ys → In n xs → In n ys
part-in [] ys n part there = absurd (in-none n there)
part-in (x ∷ xs) [] n part there = absurd part
part-in (x ∷ xs) (y ∷ ys) n part there = ⊎_elim
    (λ here. ⊎_elim
    (λ e. record { at = 0; is = ap Some (sym (e ∙ here.0)) })
    (λ later. in-suc n y ys (part-in xs ys n here.1 later))
    (in-cons n x xs there))
    (λ later. in-suc n y ys (part-in (x ∷ xs) ys n later there))
    part

-- ---- the numbers that were tried
pub none-tried : AreTried [] [] []
none-tried = record {
  gone_are = tt;
  left_are = record {
    exact = λ n. (λ there. absurd (in-none n there), λ there. absurd (in-none n there.0));
    once = λ i j x a b. absurd (get_none i x a);
    order = tt;
  };
}

module _ (tried gone left : List ℕ) (n : ℕ) (new : In n tried → ⊥) (h : AreTried tried gone left) where
  pub gone-tried : AreTried (tried ++ n ∷ []) (gone ++ n ∷ []) left
  gone-tried = record {
    gone_are = part_push gone tried n h.gone_are;
    left_are = record {
      exact = λ k. (
        λ there. (let e = (h.left_are.exact k).0 there in (in-old k n tried e.0, λ g. ⊎_elim e.1 (λ q. new (subst (λ j. In j tried) q e.0)) (in_push k n gone g))),
        λ w. ⊎_elim
            (λ old. (h.left_are.exact k).1 (old, λ g. w.1 (in-old k n gone g)))
            (λ q. absurd (w.1 (subst (λ j. In j (gone ++ n ∷ [])) (sym q) (in-new n gone))))
            (in_push k n tried w.0),
      );
      once = h.left_are.once;
      order = part-skip left tried n h.left_are.order;
    };
  }

  pub left-tried : AreTried (tried ++ n ∷ []) gone (left ++ n ∷ [])
  left-tried = record {
    gone_are = part-skip gone tried n h.gone_are;
    left_are = record {
      exact = λ k. (
        λ there. ⊎_elim
            (λ old. (let e = (h.left_are.exact k).0 old in (in-old k n tried e.0, e.1)))
            (λ q. (subst (λ j. In j (tried ++ n ∷ [])) (sym q) (in-new n tried), λ g. new (part-in gone tried n h.gone_are (subst (λ j. In j gone) q g))))
            (in_push k n left there),
        λ w. ⊎_elim
            (λ old. in-old k n left ((h.left_are.exact k).1 (old, w.1)))
            (λ q. subst (λ j. In j (left ++ n ∷ [])) (sym q) (in-new n left))
            (in_push k n tried w.0),
      );
      once = distinct_push left n h.left_are.once (λ i. new ((h.left_are.exact n).0 i).0);
      order = part_push left tried n h.left_are.order;
    };
  }
