-- Numbers are grabbed and given back; strays; holds and jobs.
use Rattle.sv_model.proofs.Metas.{captured_numbers-goes, captured_numbers-push}
use Rattle.std.proofs.Common.{◌≡◌, ℕ, ◌⊎◌, inl, inr, ⊎_elim, [], ◌∷◌, ◌++◌, Some, None, refl, sym, ap, ◌∙◌, subst, arith, append-nil}
use Rattle.std.specs.Prelude.{is_some}
use mathlib.Core.Logic.{dite}
use native.Mathlib.Decide.{ℕ_discrete}
use Rattle.sv_model.specs.declared.records.RegisteredFile.{RegisteredFile}
use Rattle.sv_model.specs.declared.records.FileStatus.{FileStatus}
use Rattle.sv_model.specs.declared.records.FileStatus.TheVariants.{Pending, Live, Obsolete, Grabbed, Gone}
use Rattle.sv_model.specs.Lists.{same, bit}
use Rattle.sv_model.specs.Registers.{entry}
use Rattle.sv_model.specs.After.{KeepsNumber, After}
use Rattle.sv_model.specs.Books.{Books}
use Rattle.sv_model.specs.Numbers.{NumbersStand, registered, captured_numbers}
use Rattle.sv_model.specs.Steady.{Sound}
use Rattle.sv_model.proofs.Lists.{same_other, same-le, total-push}
use Rattle.sv_model.proofs.Registers.{entry-old, entry_push, goes-same, goes-push}
use Rattle.sv_model.proofs.AfterLaws.{continues-itself, number-itself}
use Rattle.sv_laws.specs.Purges.{IsPurgeStep, ChangesGrabbed, IsStray, ChangesHolds}
use Rattle.sv_laws.proofs.Registers.{goes-back, total-same}
use Rattle.sv_laws.proofs.FileChanges.{files-changed}
use Rattle.sv_laws.proofs.Apart.{false_true, grabbed_gone, grabbed_live, grabbed_pending, live_gone, live_grabbed, live_obsolete, obsolete_gone, pending_gone, pending_grabbed, pending_obsolete}

-- ---- numbers grabbed and given back

module _ (a b : Books) (k : Sound a) (h : ChangesGrabbed a b) where
  abbrev R : RegisteredFile → RegisteredFile → Type 0
  R = λ x y. (y ≡ x) ⊎ IsPurgeStep a.files.captured x y

  abbrev e : Books
  e = record a { files = record a.files { numbers = b.files.numbers; jobs = b.files.jobs } }

  law : NumbersStand a.files.numbers a.files.captured a.files.next
  law = k.lawful.numbers

  number_is : (x y : RegisteredFile) → (y ≡ x) ⊎ IsPurgeStep a.files.captured x y → y.number ≡ x.number
  number_is x y t = ⊎_elim (λ q. ap (λ (z : RegisteredFile). z.number) q) (λ q. q.number) t

  family_is : (x y : RegisteredFile) → (y ≡ x) ⊎ IsPurgeStep a.files.captured x y → y.family ≡ x.family
  family_is x y t = ⊎_elim (λ q. ap (λ (z : RegisteredFile). z.family) q) (λ q. q.family) t

  -- a number that is Pending or Live before or after stands
  fixed : (s : FileStatus) → (s ≡ Pending) ⊎ (s ≡ Live) → (s ≡ Obsolete) ⊎ ((s ≡ Grabbed) ⊎ (s ≡ Gone)) → ⊥
  fixed s p q = ⊎_elim
      (λ i. ⊎_elim (λ o. pending_obsolete (sym i ∙ o)) (⊎_elim (λ o. pending_grabbed (sym i ∙ o)) (λ o. pending_gone (sym i ∙ o))) q)
      (λ i. ⊎_elim (λ o. live_obsolete (sym i ∙ o)) (⊎_elim (λ o. live_grabbed (sym i ∙ o)) (λ o. live_gone (sym i ∙ o))) q)
      p

  after_fixed : (x y : RegisteredFile) → (y ≡ x) ⊎ IsPurgeStep a.files.captured x y
      → (y.status ≡ Pending) ⊎ (y.status ≡ Live) → y ≡ x
  after_fixed x y t s =
      ⊎_elim
      (λ q. q)
      (λ q. absurd (fixed y.status s (⊎_elim (λ o. inr (inl o.1)) (λ o. ⊎_elim (λ u. inr (inr u)) (λ u. inl u) o.1) q.status)))
      t

  before_fixed : (x y : RegisteredFile) → (y ≡ x) ⊎ IsPurgeStep a.files.captured x y
      → (x.status ≡ Pending) ⊎ (x.status ≡ Live) → y ≡ x
  before_fixed x y t s =
      ⊎_elim (λ q. q) (λ q. absurd (fixed x.status s (⊎_elim (λ o. inl o.0) (λ o. inr (inl o.0)) q.status))) t

  back : (i : ℕ) (y : RegisteredFile) → entry b.files.numbers i ≡ Some y
      → (x : RegisteredFile) × (entry a.files.numbers i ≡ Some x) × ((y ≡ x) ⊎ IsPurgeStep a.files.captured x y)
  back = goes-back R a.files.numbers b.files.numbers h.goes h.long

  numbers : NumbersStand b.files.numbers a.files.captured a.files.next
  numbers = record {
    once = λ n.
        omega (
          arith,
          law.once n,
          total-same R (λ x. same n x.number) (λ x y t. ap (same n) (number_is x y t)) a.files.numbers b.files.numbers
              h.long h.goes,
        );
    below = λ i y at. let t = back i y at in omega (arith, law.below i t.0 t.1, number_is t.0 y t.2);
    pending = λ i y at p. let t = back i y at in let u = after_fixed t.0 y t.2 (inl p) in
        let w = law.pending i t.0 t.1 (ap (λ (z : RegisteredFile). z.status) (sym u) ∙ p) in
        (w.0, family_is t.0 y t.2 ∙ w.1, w.2 ∙ ap (λ (z : RegisteredFile). Some (Some z.number)) (sym u));
    held = λ f n q. let w = law.held f n q in let t = h.goes w.0 w.1 w.2 in let u = before_fixed w.1 t.0 t.2 (inl w.3.status_is) in (
      w.0,
      t.0,
      t.1,
      record {
        number_is = number_is w.1 t.0 t.2 ∙ w.3.number_is;
        status_is = ap (λ (z : RegisteredFile). z.status) u ∙ w.3.status_is;
        family_is = family_is w.1 t.0 t.2 ∙ w.3.family_is;
      },
    );
    drawn = λ i y at p. let t = back i y at in
        omega (arith, law.drawn i t.0 t.1 (ap is_some (sym (family_is t.0 y t.2)) ∙ p), number_is t.0 y t.2);
    grabbed = λ i y at p f n q. let t = back i y at in ⊎_elim
        (λ o. omega (arith, law.grabbed i t.0 t.1 (ap (λ (z : RegisteredFile). z.status) (sym o) ∙ p) f n q, ap (λ (z : RegisteredFile). z.number) o))
        (λ o. ⊎_elim (λ u. omega (arith, u.2 f n q, o.number)) (λ u. omega (arith, law.grabbed i t.0 t.1 u.0 f n q, o.number)) o.status)
        t.2;
    least = law.least;
    most = law.most;
  }

  pub grabbed-changed : Sound b × After a b
  grabbed-changed = subst (λ (z : Books). Sound z × After a z) (sym h.is) (files-changed a e k (record {
    numbers = numbers;
    goes = λ n x at. let t = h.goes n x at in (
      t.0,
      t.1,
      record {
        number = number_is x t.0 t.2;
        family = family_is x t.0 t.2;
        gone = λ g. ⊎_elim
            (λ q. ap (λ (z : RegisteredFile). z.status) q ∙ g)
            (λ q. ⊎_elim (λ o. obsolete_gone (sym o.0 ∙ g)) (λ o. grabbed_gone (sym o.0 ∙ g)) q.status)
            t.2;
      },
    );
    metas = continues-itself a.metas;
    metas_are = k.lawful.metas
        ∙ sym (captured_numbers-goes R (λ x y t. (number_is x y t, family_is x y t)) a.files.numbers b.files.numbers h.long h.goes);
    cuts = k.lawful.cuts;
    next = omega arith;
    live = λ n. (
      λ w. let t = h.goes w.0 w.1 w.2 in let u = before_fixed w.1 t.0 t.2 (inr w.3.status_is) in (
        w.0,
        t.0,
        t.1,
        record {
          number_is = number_is w.1 t.0 t.2 ∙ w.3.number_is;
          status_is = ap (λ (z : RegisteredFile). z.status) u ∙ w.3.status_is;
        },
      ),
      λ w. let t = back w.0 w.1 w.2 in let u = after_fixed t.0 w.1 t.2 (inr w.3.status_is) in (
        w.0,
        t.0,
        t.1,
        record {
          number_is = ap (λ (z : RegisteredFile). z.number) (sym u) ∙ w.3.number_is;
          status_is = ap (λ (z : RegisteredFile). z.status) (sym u) ∙ w.3.status_is;
        },
      ),
    );
    few = omega (
      arith,
      k.lawful.limits.captured,
      total-same R (λ x. bit (is_some x.family)) (λ x y t. ap (λ f. bit (is_some f)) (family_is x y t))
          a.files.numbers b.files.numbers h.long h.goes,
    );
    holds = k.lawful.limits.holds;
    lanes = k.steady.holds;
    jobs = h.jobs;
    families = k.steady.captured;
    busy = k.steady.busy;
    covers = k.steady.covers;
    awaited = k.steady.awaited;
    clear = λ f m i. inl i;
    is = refl;
  }))

-- ---- strays, holds and jobs

pub strayed : (a b : Books) (k : Sound a) (n : ℕ) → IsStray a b n → Sound b × After a b
strayed a b k n h =
    let y : RegisteredFile = record { number = n; status = Grabbed; family = None } in
    let law = k.lawful.numbers in
    let e : Books = record a { files = record a.files { numbers = a.files.numbers ++ y ∷ [] } } in
    subst (λ (z : Books). Sound z × After a z) (sym h.is) (files-changed a e k (record {
      numbers = record {
        once = λ m. dite (ℕ_discrete m n)
            (λ q. omega (arith, total-push (λ (x : RegisteredFile). same m x.number) a.files.numbers y, same-le m n, h.new, ap (λ i. registered i a.files.numbers) q))
            (λ q. omega (arith, law.once m, total-push (λ (x : RegisteredFile). same m x.number) a.files.numbers y, same_other m n q));
        below = λ i x at. ⊎_elim
            (λ o. law.below i x o)
            (λ o. omega (arith, h.below, ap (λ (z : RegisteredFile). z.number) o.1))
            (entry_push a.files.numbers y i x at);
        pending = λ i x at p. ⊎_elim
            (λ o. law.pending i x o p)
            (λ o. grabbed_pending (ap (λ (z : RegisteredFile). z.status) (sym o.1) ∙ p))
            (entry_push a.files.numbers y i x at);
        held = λ g m q. let w = law.held g m q in (w.0, w.1, entry-old a.files.numbers (y ∷ []) w.0 w.1 w.2, w.3);
        drawn = λ i x at p. ⊎_elim
            (λ o. law.drawn i x o p)
            (λ o. false_true (ap (λ (z : RegisteredFile). is_some z.family) (sym o.1) ∙ p))
            (entry_push a.files.numbers y i x at);
        grabbed = λ i x at p g m q. ⊎_elim
            (λ o. law.grabbed i x o p g m q)
            (λ o. omega (arith, h.low g m q, ap (λ (z : RegisteredFile). z.number) o.1))
            (entry_push a.files.numbers y i x at);
        least = law.least;
        most = law.most;
      };
      goes = goes-push KeepsNumber a.files.numbers y number-itself;
      metas = continues-itself a.metas;
      metas_are = k.lawful.metas
          ∙ sym (captured_numbers-push a.files.numbers y ∙ append-nil (captured_numbers a.files.numbers));
      cuts = k.lawful.cuts;
      next = omega arith;
      live = λ m. (
        λ w. (w.0, w.1, entry-old a.files.numbers (y ∷ []) w.0 w.1 w.2, w.3),
        λ w. ⊎_elim
            (λ o. (w.0, w.1, o, w.3))
            (λ o. grabbed_live (ap (λ (z : RegisteredFile). z.status) (sym o.1) ∙ w.3.status_is))
            (entry_push a.files.numbers y w.0 w.1 w.2),
      );
      few = omega (
        arith,
        k.lawful.limits.captured,
        total-push (λ (x : RegisteredFile). bit (is_some x.family)) a.files.numbers y,
      );
      holds = k.lawful.limits.holds;
      lanes = k.steady.holds;
      jobs = k.lawful.limits.jobs;
      families = k.steady.captured;
      busy = k.steady.busy;
      covers = k.steady.covers;
      awaited = k.steady.awaited;
      clear = λ f m i. inl i;
      is = refl;
    }))

pub holds-changed : (a b : Books) (k : Sound a) → ChangesHolds a b → Sound b × After a b
holds-changed a b k h =
    let e : Books = record a { files = record a.files { holds = b.files.holds; jobs = b.files.jobs } } in
    subst (λ (z : Books). Sound z × After a z) (sym h.is) (files-changed a e k (record {
      numbers = k.lawful.numbers;
      goes = goes-same KeepsNumber a.files.numbers number-itself;
      metas = continues-itself a.metas;
      metas_are = k.lawful.metas;
      cuts = k.lawful.cuts;
      next = omega arith;
      live = λ m. (λ w. w, λ w. w);
      few = k.lawful.limits.captured;
      holds = h.holds;
      lanes = h.lanes;
      jobs = h.jobs;
      families = k.steady.captured;
      busy = k.steady.busy;
      covers = k.steady.covers;
      awaited = k.steady.awaited;
      clear = λ f m i. inl i;
      is = refl;
    }))
