-- What a holder that goes gives back: walking its items, each whose count comes to 0 is given.
use Rattle.std.proofs.Common.{◌≡◌, ◌≢◌, ℕ, zero, suc, ◌+◌, ◌<◌, ◌≤◌, true, false, cond, ◌==◌, ◌⊎◌, inl, inr, ◌↔◌, List, [], ◌∷◌, arith, refl, sym, ap, subst, ◌∙◌}
use Rattle.std.proofs.lemmas.Grind.{common_steps}
use Rattle.sv_model.specs.Lists.{Distinct, IsPartOf, IsChosen, same, times}
use Rattle.sv_model.proofs.Basics.{apart_or}
use Rattle.sv_model.proofs.Lists.{same_here, same_other, times_in, in_times, total_at}

-- the items that nobody else holds, each where it stands last
abbrev pub freed : (ℕ → ℕ) → List ℕ → List ℕ
freed others [] = []
freed others (x ∷ xs) = cond (others x + times x xs == 0) (x ∷ freed others xs) (freed others xs)

zero_or : (n : ℕ) → ((n == 0) ≡ true × n ≡ 0) ⊎ ((n == 0) ≡ false × 0 < n)
zero_or n = grind (arith, common_steps)

-- the items that are not the last of theirs, or that others hold, are left out
pub freed-take : (others : ℕ → ℕ) (x : ℕ) (xs : List ℕ) → others x + times x xs ≡ 0 → freed others (x ∷ xs) ≡ x ∷ freed others xs
freed-take others x xs none = elim (zero_or (others x + times x xs)) [
  | inl is ↦ rw is.0 refl
  | inr not_it ↦ absurd (omega arith)
]

pub freed-leave : (others : ℕ → ℕ) (x : ℕ) (xs : List ℕ) → 0 < others x + times x xs → freed others (x ∷ xs) ≡ freed others xs
freed-leave others x xs some = elim (zero_or (others x + times x xs)) [
  | inl is ↦ absurd (omega arith)
  | inr not_it ↦ rw not_it.0 refl
]

-- what others hold is not given
freed_held : (others : ℕ → ℕ) (n : ℕ) (xs : List ℕ) → 0 < others n → times n (freed others xs) ≡ 0
freed_held others n [] held = refl
freed_held others n (x ∷ xs) held =
    let h = freed_held others n xs held in
    elim (zero_or (others x + times x xs)) [
      | inl is ↦
          let apart : n ≢ x = λ e. (let f = ap others e in absurd (omega arith)) in
          let s = same_other n x apart in
          rw (freed-take others x xs is.1) (omega arith)
      | inr not_it ↦ rw (freed-leave others x xs not_it.1) h
    ]

freed_absent : (others : ℕ → ℕ) (n : ℕ) (xs : List ℕ) → times n xs ≡ 0 → times n (freed others xs) ≡ 0
freed_absent others n [] none = refl
freed_absent others n (x ∷ xs) none =
    let h = freed_absent others n xs (omega arith) in
    elim (zero_or (others x + times x xs)) [
      | inl is ↦ rw (freed-take others x xs is.1) (omega arith)
      | inr not_it ↦ rw (freed-leave others x xs not_it.1) h
    ]

-- what nobody else holds is given once
freed_once : (others : ℕ → ℕ) (n : ℕ) (xs : List ℕ) → others n ≡ 0 → 0 < times n xs → times n (freed others xs) ≡ 1
freed_once others n [] free some = absurd (omega arith)
freed_once others n (x ∷ xs) free some =
    elim (apart_or n x) [
      | inl here ↦
          let one = same_here n in
          let e = ap (same n) here in
          let f = ap others here in
          let g = ap (λ k. times k xs) here in
          elim (zero_or (others x + times x xs)) [
            | inl is ↦
                let h = freed_absent others n xs (omega arith) in
                rw (freed-take others x xs is.1) (omega arith)
            | inr not_it ↦ rw (freed-leave others x xs not_it.1) (freed_once others n xs free (omega arith))
          ]
      | inr apart ↦
          let none = same_other n x apart in
          let h = freed_once others n xs free (omega arith) in
          elim (zero_or (others x + times x xs)) [
            | inl is ↦ rw (freed-take others x xs is.1) (omega arith)
            | inr not_it ↦ rw (freed-leave others x xs not_it.1) h
          ]
    ]

freed-le : (others : ℕ → ℕ) (n : ℕ) (xs : List ℕ) → times n (freed others xs) ≤ 1
freed-le others n xs = elim (zero_or (others n)) [
  | inl free ↦ elim (zero_or (times n xs)) [
    | inl absent ↦ let h = freed_absent others n xs absent.1 in omega arith
    | inr there ↦ let h = freed_once others n xs free.1 there.1 in omega arith
  ]
  | inr held ↦ let h = freed_held others n xs held.1 in omega arith
]

-- a list in which nothing stands twice
pub distinct_times : (l : List ℕ) → ((n : ℕ) → times n l ≤ 1) → Distinct l
distinct_times [] once i j x a b = absurd (cc)
distinct_times (y ∷ l) once zero zero x a b = refl
distinct_times (y ∷ l) once zero (suc j) x a b =
    let e : y ≡ x = cc in
    let one = same_here x in
    let f = ap (same x) e in
    let h = total_at (same x) l j x b in
    let o = once x in
    absurd (omega arith)
distinct_times (y ∷ l) once (suc i) zero x a b =
    let e : y ≡ x = cc in
    let one = same_here x in
    let f = ap (same x) e in
    let h = total_at (same x) l i x a in
    let o = once x in
    absurd (omega arith)
distinct_times (y ∷ l) once (suc i) (suc j) x a b = ap suc (distinct_times l (λ n. let o = once n in omega arith) i j x a b)

part-skip : (xs ys : List ℕ) (y : ℕ) → IsPartOf xs ys → IsPartOf xs (y ∷ ys)
part-skip [] ys y h = tt
part-skip (x ∷ xs) ys y h = inr h

freed_part : (others : ℕ → ℕ) (xs : List ℕ) → IsPartOf (freed others xs) xs
freed_part others [] = tt
freed_part others (x ∷ xs) = elim (zero_or (others x + times x xs)) [
  | inl is ↦ subst (λ l. IsPartOf l (x ∷ xs)) (sym (freed-take others x xs is.1)) (inl (refl, freed_part others xs))
  | inr not_it ↦ subst (λ l. IsPartOf l (x ∷ xs)) (sym (freed-leave others x xs not_it.1)) (part-skip (freed others xs) xs x (freed_part others xs))
]

-- what is given: the items that nobody else holds, in their order, each once
pub freed_chosen : (others : ℕ → ℕ) (xs : List ℕ) → IsChosen (λ n. others n ≡ 0) xs (freed others xs)
freed_chosen others xs = record {
  exact = λ n. (
    (λ there.
        let more = times_in n (freed others xs) there in
        let free : others n ≡ 0 = elim (zero_or (others n)) [
          | inl free ↦ free.1
          | inr held ↦ let h = freed_held others n xs held.1 in absurd (omega arith)
        ] in
        let some : 0 < times n xs = elim (zero_or (times n xs)) [
          | inl absent ↦ let h = freed_absent others n xs absent.1 in absurd (omega arith)
          | inr some ↦ some.1
        ] in
        (in_times n xs some, free)),
    (λ both.
        let some = times_in n xs both.0 in
        let h = freed_once others n xs both.1 some in
        in_times n (freed others xs) (omega arith)),
  );
  once = distinct_times (freed others xs) (λ n. freed-le others n xs);
  order = freed_part others xs;
}

-- it depends on the counts alone
pub freed-same : (others counts : ℕ → ℕ) (xs : List ℕ) → ((n : ℕ) → others n ≡ counts n) → freed others xs ≡ freed counts xs
freed-same others counts [] eq = refl
freed-same others counts (x ∷ xs) eq =
    let e = eq x in
    let h = freed-same others counts xs eq in
    elim (zero_or (others x + times x xs)) [
      | inl is ↦ freed-take others x xs is.1 ∙ ap (λ l. x ∷ l) h ∙ sym (freed-take counts x xs (omega arith))
      | inr not_it ↦ freed-leave others x xs not_it.1 ∙ h ∙ sym (freed-leave counts x xs (omega arith))
    ]

-- the same choice by another test that comes to the same
pub chosen-same : (P Q : ℕ → Type 0) (all given : List ℕ) → ((n : ℕ) → P n ↔ Q n) → IsChosen P all given → IsChosen Q all given
chosen-same P Q all given both chosen = record {
  exact = λ n. (
    (λ there. let h = (chosen.exact n).0 there in (h.0, (both n).0 h.1)),
    (λ there. (chosen.exact n).1 (there.0, (both n).1 there.1)),
  );
  once = chosen.once;
  order = chosen.order;
}
