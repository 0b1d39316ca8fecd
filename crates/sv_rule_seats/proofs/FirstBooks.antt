-- What the books of an opening have.
use Rattle.std.proofs.Common.{List, None, Some, [], ap, arith, cond, length, ne_eqb, refl, slice_get, subst, suc, sym, zero, ℕ, ◌<◌, ◌∙◌, ◌∷◌, ◌≡◌, ◌≢◌, ◌≤◌}
use mathlib.Core.Logic.{dite}
use native.Mathlib.Decide.{ℕ_discrete}
use Rattle.sv_model.specs.Books.{Books}
use Rattle.sv_model.specs.Journal.{borne_by, by_lane}
use Rattle.sv_model.specs.Openings.{IsOpening, first_memtable, first_super}
use Rattle.sv_model.specs.Registers.{EachEntry, entry}
use Rattle.sv_model.specs.declared.records.Family.{Family}
use Rattle.sv_model.specs.declared.records.Memtable.{Memtable}
use Rattle.sv_model.specs.declared.records.SuperVersion.{SuperVersion}
use Rattle.sv_model.specs.declared.writes.Write.{Write}
use Rattle.sv_rule.specs.Numbers.{IsBased}
use Rattle.sv_rule.specs.Sums.{below}
use Rattle.sv_model.specs.Supers.{LiveAt, current_of, current_serial, pack, pack_at, pack_of_serial}
use Rattle.sv_rule.proofs.Basics.{some_is}
use Rattle.sv_rule.proofs.CurrentLaws.{get_lt, some-at}
use Rattle.sv_rule_seats.proofs.SeatSplits.{none_by}
use Rattle.sv_rule.proofs.Sums.{below_le, by_less}

-- ---- sums

pub below-zero : (f : ℕ → ℕ) (n : ℕ) → ((k : ℕ) → k < n → f k ≡ 0) → below f n ≡ 0
unfolding below
below-zero f zero h = refl
below-zero f (suc n) h = omega (arith, below-zero f n (λ k l. h k (omega arith)), h n (omega arith))

pub below-one : (f : ℕ → ℕ) (j n : ℕ) → j < n → ((k : ℕ) → k < n → k ≢ j → f k ≡ 0) → below f n ≡ f j
unfolding below
below-one f j zero l h = absurd (omega arith)
below-one f j (suc n) l h = dite (ℕ_discrete j n)
    (λ e. omega (arith, below-zero f n (λ k y. h k (omega arith) (λ z. omega arith)), ap f e))
    (λ ne. omega (
      arith,
      below-one f j n (omega arith) (λ k y z. h k (omega arith) z),
      h n (omega arith) (λ z. ne (sym z)),
    ))

-- where nothing comes from n on
pub below-upto : (f : ℕ → ℕ) (n m : ℕ) → ((k : ℕ) → f k ≤ 1) → ((k : ℕ) → k < m → n ≤ k → f k ≡ 0) → below f m ≤ n
unfolding below
below-upto f n zero one h = omega arith
below-upto f n (suc m) one h = by_less m n
    (λ l. omega (arith, below_le f m one, one m))
    (λ l. omega (arith, below-upto f n m one (λ k y z. h k (omega arith) z), h m (omega arith) l))

-- ---- books

beyond-none : {A : Type 0} (l : List A) (n : ℕ) → length l ≤ n → slice_get l n ≡ None
beyond-none [] n h = refl
beyond-none (x ∷ l) zero h = absurd (omega arith)
beyond-none (x ∷ l) (suc n) h = beyond-none l n (omega arith)

module _ (b : Books) (o : IsOpening b) where
  -- the family of a SuperVersion, a memtable, or a top
  pub record IsNth {A : Type 0} (what : ℕ → Family → A) (t : ℕ) (x : A) : Type 0 where
    pub index : ℕ
    pub family : Family
    pub serial : t ≡ suc index
    pub family_at : slice_get b.families index ≡ Some family
    pub is : x ≡ what index family

  nth : {A : Type 0} (l : List A) (what : ℕ → Family → A) → length l ≡ length b.families
      → ((i : ℕ) (y : Family) → slice_get b.families i ≡ Some y → slice_get l i ≡ Some (what i y)) → (t : ℕ) (x : A)
      → entry l t ≡ Some x → IsNth what t x
  nth l what long each zero x e = absurd (cc)
  nth l what long each (suc i) x e = let y = some-at b.families i (omega (arith, get_lt l i x e, long)) in
      record { index = i; family = y.0; serial = refl; family_at = y.1; is = some_is (sym e ∙ each i y.0 y.1) }

  pub nth_super : (t : ℕ) (x : SuperVersion) → entry b.supers t ≡ Some x
      → IsNth (λ i y. first_super b.journal i y.options) t x
  nth_super = nth b.supers (λ i y. first_super b.journal i y.options) o.supers_made o.supers

  pub nth_memtable : (t : ℕ) (x : Memtable) → entry b.memtables t ≡ Some x
      → IsNth (λ i y. first_memtable b.journal i) t x
  nth_memtable = nth b.memtables (λ i y. first_memtable b.journal i) o.memtables_made o.memtables

  pub super_at : (f : ℕ) → f < length b.families → LiveAt b.supers (suc f) f
  super_at f l = let y = some-at b.families f l in record {
    sv = first_super b.journal f y.0.options;
    is = o.supers f y.0 y.1;
    live = refl;
    place_is = refl;
  }

  pub super_only : (t k : ℕ) → LiveAt b.supers t k → (t ≡ suc k) × (k < length b.families)
  super_only t k l =
      let n = nth_super t l.sv l.is in
      let place : n.index ≡ k = sym (ap (λ (z : SuperVersion). z.place) n.is) ∙ l.place_is in
      (omega (arith, n.serial, place), omega (arith, place, get_lt b.families n.index n.family n.family_at))

  pub current_at_first : (f : ℕ) → f < length b.families → current_of b f ≡ pack (suc f) f
  current_at_first f l =
      let y = some-at b.families f l in
      ap (λ z. pack_of_serial b.supers (current_serial z)) (o.tops f y.0 y.1)
      ∙ ap (pack_at (suc f)) (o.supers f y.0 y.1)

  pub current_none : (f : ℕ) → length b.families ≤ f → current_of b f ≡ 0
  current_none f l = ap (λ z. pack_of_serial b.supers (current_serial z))
      (beyond-none b.tops f (omega (arith, l, o.tops_made)))

  pub based-first : EachEntry (λ t x. IsBased b.memtables x) b.supers
  based-first t x e =
      let n = nth_super t x e in
      subst (IsBased b.memtables) (sym n.is) (record {
        active = first_memtable b.journal n.index;
        at = o.memtables n.index n.family n.family_at;
        family = refl;
        base = refl;
      })

  -- no write is of a memtable that is registered, nor of a lane
  pub bears_none : (m : ℕ) → borne_by (suc m) b.journal ≡ []
  bears_none m = none_of b.journal (λ i w e. (o.writes i w e).0)
    where
      none_of : (l : List Write) → ((i : ℕ) (w : Write) → slice_get l i ≡ Some w → w.mem ≡ 0) → borne_by (suc m) l ≡ []
      none_of [] h = refl
      none_of (w ∷ l) h = ap (λ z. cond z (w ∷ borne_by (suc m) l) (borne_by (suc m) l))
          (ne_eqb w.mem (suc m) (λ e. omega (arith, h 0 w refl, e))) ∙ none_of l (λ i x e. h (suc i) x e)

  pub no_writes : (l : ℕ) → l < 32 → by_lane l b.journal ≡ []
  no_writes l few = none_by l b.journal (λ i w e is. omega (arith, (o.writes i w e).1, few, is))
