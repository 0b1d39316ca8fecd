-- From what a book of file numbers gives to the changes of its books: numbers marked one at a time or all at once, and
-- strays registered one after the other.
use Rattle.std.proofs.Common.{◌≡◌, ◌<◌, ℕ, zero, suc, ◌⊎◌, inl, inr, List, [], ◌∷◌, ◌++◌, map, Option, Some, None, slice_get, refl, sym, ap, ◌∙◌, subst, arith, append_assoc, append-nil}
use mathlib.Core.Logic.{dite}
use native.Mathlib.Decide.{ℕ_discrete}
use Rattle.sv_model.specs.declared.records.RegisteredFile.{RegisteredFile}
use Rattle.sv_model.specs.declared.records.FileStatus.{FileStatus}
use Rattle.sv_model.specs.declared.records.FileStatus.TheVariants.{Obsolete, Grabbed, Gone}
use Rattle.sv_model.specs.Lists.{In, Distinct, same}
use Rattle.sv_model.specs.Registers.{entry, GoesOn}
use Rattle.sv_model.specs.After.{After}
use Rattle.sv_model.specs.Books.{Books}
use Rattle.sv_model.specs.Numbers.{IsMarked, least_captured, registered}
use Rattle.sv_model.specs.Steady.{Sound}
use Rattle.sv_model.proofs.Lists.{same_other, total-push}
use Rattle.sv_model.proofs.AfterLaws.{after-itself, after-through}
use Rattle.sv_laws.specs.Purges.{IsPurgeStep}
use Rattle.sv_model.proofs.Entries.{some, in-suc}
use Rattle.sv_laws.proofs.Settled.{marked-else, marked-here}
use Rattle.sv_laws.proofs.Purged.{strayed}

-- ---- the bound

-- what is below the bound is below each captured number
pub below-captured : (captured : List (Option ℕ)) (n : ℕ) → n < least_captured captured → (f k : ℕ)
    → slice_get captured f ≡ Some (Some k) → n < k
below-captured [] n low f k e = absurd (cc)
below-captured (None ∷ captured) n low zero k e = absurd (let q : None ≡ Some k = some e in cc)
below-captured (None ∷ captured) n low (suc f) k e = below-captured captured n low f k e
below-captured (Some m ∷ captured) n low zero k e = let q : m ≡ k = some (some e) in omega (arith, low, q)
below-captured (Some m ∷ captured) n low (suc f) k e = below-captured captured n (omega (arith, low)) f k e

-- ---- one number marked

abbrev pub Steps : List (Option ℕ) → RegisteredFile → RegisteredFile → Type 0
Steps captured x y = (y ≡ x) ⊎ IsPurgeStep captured x y

module _ (captured : List (Option ℕ)) (n : ℕ) (was now : FileStatus) (N K : List RegisteredFile) (m : IsMarked n was now N K) where
  marked-steps : IsPurgeStep captured m.it (record m.it { status = now }) → GoesOn (Steps captured) N K
  marked-steps step i x e = dite (ℕ_discrete i m.at)
      (λ q.
      let x_is : m.it ≡ x = some (sym m.found ∙ ap (entry N) (sym q) ∙ e) in
      (record m.it { status = now }, ap (entry K) q ∙ marked-here n was now N K m, inr (subst (λ z. IsPurgeStep captured z (record m.it { status = now })) x_is step)))
      (λ q. (x, marked-else n was now N K m i x q e, inl refl))

-- an Obsolete number below the bound is Grabbed
pub taken-steps : (captured : List (Option ℕ)) (n : ℕ) (N K : List RegisteredFile) → IsMarked n Obsolete Grabbed N K
    → n < least_captured captured → GoesOn (Steps captured) N K
taken-steps captured n N K m low = marked-steps captured n Obsolete Grabbed N K m (record {
  number = refl;
  family = refl;
  status = inl (m.had.status_is, refl, λ f k e. omega (arith, below-captured captured n low f k e, m.had.number_is));
})

-- a Grabbed number is Gone, or Obsolete again
pub removed-steps : (captured : List (Option ℕ)) (n : ℕ) (N K : List RegisteredFile) → IsMarked n Grabbed Gone N K
    → GoesOn (Steps captured) N K
removed-steps captured n N K m =
    marked-steps captured n Grabbed Gone N K m (record {
      number = refl;
      family = refl;
      status = inr (m.had.status_is, inl refl);
    })

pub given-back-steps : (captured : List (Option ℕ)) (n : ℕ) (N K : List RegisteredFile)
    → IsMarked n Grabbed Obsolete N K → GoesOn (Steps captured) N K
given-back-steps captured n N K m =
    marked-steps captured n Grabbed Obsolete N K m (record {
      number = refl;
      family = refl;
      status = inr (m.had.status_is, inr refl);
    })

-- ---- each record mapped

pub goes-map : {A : Type 0} (R : A → A → Type 0) (g : A → A) (l : List A)
    → ((n : ℕ) (x : A) → entry l n ≡ Some x → R x (g x)) → GoesOn R l (map g l)
goes-map R g l each zero x e = absurd (cc)
goes-map {A} R g l each (suc n) x e = (g x, mapped l n x e, each (suc n) x e)
  where
    mapped : (k : List A) (i : ℕ) (z : A) → slice_get k i ≡ Some z → slice_get (map g k) i ≡ Some (g z)
    mapped [] i z h = absurd (cc)
    mapped (y ∷ k) zero z h = ap (λ o. Some (g o)) (some h)
    mapped (y ∷ k) (suc i) z h = mapped k i z h

-- ---- strays

abbrev pub stray_of : ℕ → RegisteredFile
stray_of n = record { number = n; status = Grabbed; family = None }

abbrev pub with_strays : Books → List ℕ → Books
with_strays a ns = record a { files = record a.files { numbers = a.files.numbers ++ map stray_of ns } }

-- strays that differ, none of which was registered, below each captured number and the next
pub all-strayed : (ns : List ℕ) (a : Books) → Sound a → Distinct ns
    → ((n : ℕ) → In n ns → (registered n a.files.numbers ≡ 0) × (n < a.files.next) × (n < least_captured a.files.captured))
    → Sound (with_strays a ns) × After a (with_strays a ns)
all-strayed [] a k once new =
    subst
    (λ (l : List RegisteredFile). Sound (record a { files = record a.files { numbers = l } }) × After a (record a { files = record a.files { numbers = l } }))
    (sym (append-nil a.files.numbers)) (k, after-itself a)
all-strayed (n ∷ ns) a k once new =
    let b : Books = record a { files = record a.files { numbers = a.files.numbers ++ stray_of n ∷ [] } } in
    let here = new n (record { at = 0; is = refl }) in
    let one = strayed a b k n (record {
      new = here.0;
      below = here.1;
      low = below-captured a.files.captured n here.2;
      is = refl;
    }) in
    let rest = all-strayed ns b one.0 (λ i j x p q. (let e : suc i ≡ suc j = once (suc i) (suc j) x p q in omega (arith, e))) (λ m i.
    let t = new m (in-suc m n ns i) in
    let apart : m ≡ n → ⊥ =
    λ e. (let q : 0 ≡ suc i.at = once 0 (suc i.at) n refl (i.is ∙ ap Some e) in omega (arith, q)) in
    (omega (arith, t.0, total-push (λ (x : RegisteredFile). same m x.number) a.files.numbers (stray_of n), same_other m n apart), t.1, t.2)) in
    let lists : (a.files.numbers ++ stray_of n ∷ []) ++ map stray_of ns ≡ a.files.numbers ++ map stray_of (n ∷ ns) =
    append_assoc a.files.numbers (stray_of n ∷ []) (map stray_of ns) in
    let through = after-through a b (with_strays b ns) one.1 rest.1 in
    subst
    (λ (l : List RegisteredFile). Sound (record a { files = record a.files { numbers = l } }) × After a (record a { files = record a.files { numbers = l } }))
    lists (rest.0, through)
