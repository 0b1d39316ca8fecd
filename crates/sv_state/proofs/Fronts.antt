-- The members at the front of a list that begin before a write.
use Rattle.std.proofs.Common.{◌≡◌, ◌<◌, ◌≤◌, ◌+◌, ◌∷◌, ⊎_elim, ℕ, zero, suc, List, [], length, Some, refl, sym, ap, ◌∙◌, subst, arith, drop}
use Rattle.std.specs.Prelude.{slice_get}
use Rattle.sv_model.specs.declared.writes.Write.{Write}
use Rattle.sv_model.specs.declared.records.Memtable.{Memtable}
use Rattle.sv_model.specs.Journal.{borne_by}
use Rattle.sv_model.specs.Described.{MembersJoin}
use Rattle.sv_model.specs.Lists.{Every, In}
use Rattle.sv_model.specs.Registers.{entry}
use Rattle.sv_laws.specs.NewCurrents.{IsParted}
use Rattle.sv_model.proofs.Entries.{every_none, in-cons, in-none, some}
use Rattle.sv_state.specs.Finishing.{HasFront}

-- one more member at the front
pub front-more : (M : List Memtable) (to : ℕ) (ms : List ℕ) (i m : ℕ) → slice_get ms i ≡ Some m → ((it : Memtable) → entry M m ≡ Some it → it.first < to)
    → (r : ℕ) → HasFront M to (drop (suc i) ms) r → HasFront M to (drop i ms) (suc r)
front-more M to [] i m e low r h = absurd (in-none m (record { at = i; is = e }))
front-more M to (n ∷ ms) zero m e low r h = (subst (λ k. (it : Memtable) → entry M k ≡ Some it → it.first < to) (some (sym e)) low, h)
front-more M to (n ∷ ms) (suc i) m e low r h = front-more M to ms i m e low r h

-- no more of them
pub front-none : (M : List Memtable) (to : ℕ) (ms : List ℕ) (i m : ℕ) → slice_get ms i ≡ Some m → ((it : Memtable) → entry M m ≡ Some it → to ≤ it.first)
    → HasFront M to (drop i ms) 0
front-none M to [] i m e high = absurd (in-none m (record { at = i; is = e }))
front-none M to (n ∷ ms) zero m e high = subst (λ k. (it : Memtable) → entry M k ≡ Some it → to ≤ it.first) (some (sym e)) high
front-none M to (n ∷ ms) (suc i) m e high = front-none M to ms i m e high

pub front-end : (M : List Memtable) (to : ℕ) (ms : List ℕ) (i : ℕ) → length ms ≤ i → HasFront M to (drop i ms) 0
front-end M to [] zero le = refl
front-end M to [] (suc i) le = refl
front-end M to (n ∷ ms) zero le = absurd (omega (arith, le))
front-end M to (n ∷ ms) (suc i) le = front-end M to ms i (omega (arith, le))

-- ---- members whose ranges join

late : (J : List Write) (M : List Memtable) (f : ℕ) (ms : List ℕ) (from end m : ℕ) (it : Memtable) → MembersJoin J M f from ms end → In m ms → entry M m ≡ Some it → from ≤ it.first
late J M f [] from end m it j i h = absurd (in-none m i)
late J M f (n ∷ ms) from end m it j i h = ⊎_elim
    (λ q. omega (arith, j.0.first_is, ap (λ (x : Memtable). x.first) (some (sym j.0.at ∙ ap (entry M) (sym q) ∙ h))))
    (λ o. omega (arith, late J M f ms (from + length (borne_by n J)) end m it j.1 o h))
    (in-cons m n ms i)

pub front-parted : (J : List Write) (M : List Memtable) (f : ℕ) (ms : List ℕ) (from end to n : ℕ) → MembersJoin J M f from ms end → HasFront M to ms n → IsParted M to ms (drop n ms)
front-parted J M f [] from end to zero j h = record { front = []; parts = refl; low = every_none _; high = every_none _ }
front-parted J M f [] from end to (suc n) j h = absurd (omega (arith, h))
front-parted J M f (m ∷ ms) from end to zero j h = record {
  front = [];
  parts = refl;
  low = every_none _;
  high = λ i x e it at.
      let first : to ≤ j.0.it.first = h j.0.it j.0.at in
      omega (arith, first, j.0.first_is, late J M f (m ∷ ms) from end x it j (record { at = i; is = e }) at);
}
front-parted J M f (m ∷ ms) from end to (suc n) j h =
    let r = front-parted J M f ms (from + length (borne_by m J)) end to n j.1 h.1 in
    record {
      front = m ∷ r.front;
      parts = ap (λ l. m ∷ l) r.parts;
      low = every-cons m r.front h.0 r.low;
      high = r.high;
    }
  where
    every-cons : (m : ℕ) (l : List ℕ) → ((it : Memtable) → entry M m ≡ Some it → it.first < to)
        → Every (λ k. (it : Memtable) → entry M k ≡ Some it → it.first < to) l → Every (λ k. (it : Memtable) → entry M k ≡ Some it → it.first < to) (m ∷ l)
    every-cons m l h r zero x e = subst (λ k. (it : Memtable) → entry M k ≡ Some it → it.first < to) (some e) h
    every-cons m l h r (suc i) x e = r i x e
