-- Registers of which only lives change.
use Rattle.std.proofs.Common.{◌≡◌, ℕ, ◌⊎◌, inl, inr, ⊎_elim, Bool, false, List, length, Option, Some, sym, ap, ◌∙◌, subst, arith}
use Rattle.std.specs.Prelude.{◌↔◌, is_some}
use Rattle.sv_model.specs.declared.records.RegisteredFile.{RegisteredFile}
use Rattle.sv_model.specs.declared.records.FileStatus.{FileStatus}
use Rattle.sv_model.specs.declared.records.FileStatus.TheVariants.{Pending, Live, Obsolete, Grabbed}
use Rattle.sv_model.specs.Lists.{same, bit}
use Rattle.sv_model.specs.Registers.{GoesOn}
use Rattle.sv_model.specs.After.{KeepsNumber}
use Rattle.sv_model.specs.Named.{IsLive}
use Rattle.sv_model.specs.Numbers.{NumbersStand, IsRegistered, captures, captured_numbers}
use Rattle.sv_laws.specs.Cleaning.{Ends, EndsFiles, TurnsFile}
use Rattle.sv_laws.proofs.Registers.{goes-back, live-back, total-same}
use Rattle.sv_model.proofs.Metas.{captured_numbers-goes}
use Rattle.sv_laws.proofs.Apart.{live_gone, live_pending}

-- What code that only ends things shows: each record goes on, and what is Live is just what is named.
pub ends-of : {A : Type 0} (Keeps : A → A → Type 0) (live : A → Bool) (Named : ℕ → Type 0) (a b : List A)
    → ((x y : A) → Keeps x y → live x ≡ false → live y ≡ false) → length b ≡ length a → GoesOn Keeps a b
    → ((n : ℕ) → IsLive live b n ↔ Named n) → Ends Keeps live Named a b
ends-of Keeps live Named a b gone long goes law = record {
  long = long;
  goes = goes;
  exact = λ n. (
    λ h. (let t = goes-back Keeps a b goes long n h.it h.at in record { it = t.0; at = t.1; live = live-back (live t.0) (live h.it) (gone t.0 h.it t.2) h.live }, (law n).0 h),
    λ h. (law n).1 h.1,
  );
}

-- ---- numbers

no-obsolete : {A : Type 0} (s : FileStatus) → (s ≡ Pending) ⊎ ((s ≡ Live) ⊎ (s ≡ Grabbed)) → s ≡ Obsolete → A
no-obsolete s h e =
    ⊎_elim
    (λ q. absurd (let z : Obsolete ≡ Pending = sym e ∙ q in cc))
    (⊎_elim (λ q. absurd (let z : Obsolete ≡ Live = sym e ∙ q in cc)) (λ q. absurd (let z : Obsolete ≡ Grabbed = sym e ∙ q in cc)))
    h

module _ (Named : ℕ → Type 0) (N K : List RegisteredFile) (h : EndsFiles Named N K) where
  number_same : (x y : RegisteredFile) → TurnsFile Named x y → y.number ≡ x.number
  number_same x y t =
      ⊎_elim (λ q. ap (λ (z : RegisteredFile). z.number) q.0) (λ q. ap (λ (z : RegisteredFile). z.number) q.0) t

  family_same : (x y : RegisteredFile) → TurnsFile Named x y → y.family ≡ x.family
  family_same x y t =
      ⊎_elim (λ q. ap (λ (z : RegisteredFile). z.family) q.0) (λ q. ap (λ (z : RegisteredFile). z.family) q.0) t

  -- a record that is not Obsolete is as it was
  not-turned : (x y : RegisteredFile) → TurnsFile Named x y
      → (y.status ≡ Pending) ⊎ ((y.status ≡ Live) ⊎ (y.status ≡ Grabbed))
      → (y ≡ x) × (x.status ≡ Live → Named x.number)
  not-turned x y t s = ⊎_elim (λ q. q) (λ q. no-obsolete y.status s (ap (λ (z : RegisteredFile). z.status) q.0)) t

  pub files-goes : GoesOn KeepsNumber N K
  files-goes n x e = let t = h.goes n x e in (
    t.0,
    t.1,
    record {
      number = number_same x t.0 t.2;
      family = family_same x t.0 t.2;
      gone = λ g. ⊎_elim (λ q. ap (λ (z : RegisteredFile). z.status) q.0 ∙ g) (λ q. live_gone (sym q.1 ∙ g)) t.2;
    },
  )

  pub files-captures : captures K ≡ captures N
  files-captures =
      total-same (TurnsFile Named) (λ x. bit (is_some x.family))
      (λ x y t. ap (λ f. bit (is_some f)) (family_same x y t)) N K h.long h.goes

  pub files-captured_numbers : captured_numbers K ≡ captured_numbers N
  files-captured_numbers =
      captured_numbers-goes (TurnsFile Named) (λ x y t. (number_same x y t, family_same x y t)) N K h.long h.goes

  -- what is Live is what was Live and is named
  pub files_live : (n : ℕ) → IsRegistered K n Live → IsRegistered N n Live × Named n
  files_live n w =
      let t = goes-back (TurnsFile Named) N K h.goes h.long w.0 w.1 w.2 in
      let u = not-turned t.0 w.1 t.2 (inr (inl w.3.status_is)) in
      let number : t.0.number ≡ n = ap (λ (z : RegisteredFile). z.number) (sym u.0) ∙ w.3.number_is in
      let status : t.0.status ≡ Live = ap (λ (z : RegisteredFile). z.status) (sym u.0) ∙ w.3.status_is in
      ((w.0, t.0, t.1, record { number_is = number; status_is = status }), subst Named number (u.1 status))

  pub files-live : (n : ℕ) → IsRegistered N n Live → Named n → IsRegistered K n Live
  files-live n w named =
      let t = h.goes w.0 w.1 w.2 in
      ⊎_elim
      (λ q. (
        w.0,
        t.0,
        t.1,
        record {
          number_is = ap (λ (z : RegisteredFile). z.number) q.0 ∙ w.3.number_is;
          status_is = ap (λ (z : RegisteredFile). z.status) q.0 ∙ w.3.status_is;
        },
      ))
      (λ q. absurd (q.2 (subst Named (sym w.3.number_is) named)))
      t.2

  pub numbers-ended : (C : List (Option ℕ)) (next : ℕ) → NumbersStand N C next → NumbersStand K C next
  numbers-ended C next law = record {
    once = λ n.
        omega (
          arith,
          law.once n,
          total-same (TurnsFile Named) (λ x. same n x.number) (λ x y t. ap (same n) (number_same x y t)) N K h.long
              h.goes,
        );
    below = λ i y e. let t = goes-back (TurnsFile Named) N K h.goes h.long i y e in omega (arith, law.below i t.0 t.1, number_same t.0 y t.2);
    pending = λ i y e p. let t = goes-back (TurnsFile Named) N K h.goes h.long i y e in let u = not-turned t.0 y t.2 (inl p) in
        let w = law.pending i t.0 t.1 (ap (λ (z : RegisteredFile). z.status) (sym u.0) ∙ p) in
        (w.0, ap (λ (z : RegisteredFile). z.family) u.0 ∙ w.1, w.2 ∙ ap (λ (z : RegisteredFile). Some (Some z.number)) (sym u.0));
    held = λ f n e. let w = law.held f n e in let t = h.goes w.0 w.1 w.2 in (
      w.0,
      t.0,
      t.1,
      record {
        number_is = number_same w.1 t.0 t.2 ∙ w.3.number_is;
        status_is = ⊎_elim
            (λ q. ap (λ (z : RegisteredFile). z.status) q.0 ∙ w.3.status_is)
            (λ q. live_pending (sym q.1 ∙ w.3.status_is))
            t.2;
        family_is = family_same w.1 t.0 t.2 ∙ w.3.family_is;
      },
    );
    drawn = λ i y e p. let t = goes-back (TurnsFile Named) N K h.goes h.long i y e in
        omega (arith, law.drawn i t.0 t.1 (ap is_some (sym (family_same t.0 y t.2)) ∙ p), number_same t.0 y t.2);
    grabbed = λ i y e p f n c. let t = goes-back (TurnsFile Named) N K h.goes h.long i y e in let u = not-turned t.0 y t.2 (inr (inr p)) in
        omega
        (arith, law.grabbed i t.0 t.1 (ap (λ (z : RegisteredFile). z.status) (sym u.0) ∙ p) f n c, number_same t.0 y t.2);
    least = law.least;
    most = law.most;
  }
