-- Cuts, and the order of snapshots: a later snapshot reads each family at the same cut or a later one.
use Rattle.std.proofs.Common.{◌≡◌, ◌≤◌, ◌==◌, ℕ, zero, suc, ⊎_elim, Bool, true, false, cond, List, [], ◌∷◌, ◌++◌, length, take, Some, refl, sym, ap, ◌∙◌, subst, arith}
use Rattle.std.proofs.lemmas.List.{take_all}
use Rattle.sv_model.specs.declared.writes.Write.{Write}
use Rattle.sv_model.specs.declared.records.Snapshot.{Snapshot}
use Rattle.sv_model.specs.Journal.{of_family}
use Rattle.sv_model.specs.Registers.{entry, change}
use Rattle.sv_model.specs.Snapshots.{cut_of}
use Rattle.sv_model.specs.Steady.{Sound}
use Rattle.sv_model.specs.Books.{Books}
use Rattle.sv_model.proofs.Registers.{entry_push, entry_change, entry_le}
use Rattle.sv_laws.specs.Snapping.{IsSnapped, IsUnsnapped, Ascend}

-- a snapshot of now reads each family whole
pub cut-now : (J : List Write) (f : ℕ) → cut_of J (length J) f ≡ length (of_family f J)
cut-now J f = ap (λ l. length (of_family f l)) (take_all (length J) J (omega arith))

none-taken : (n : ℕ) (f : ℕ) → cut_of [] n f ≡ 0
none-taken zero f = refl
none-taken (suc n) f = refl

pub cut-ascend : (J : List Write) (f m n : ℕ) → m ≤ n → cut_of J m f ≤ cut_of J n f
cut-ascend [] f m n le = omega (arith, none-taken m f)
cut-ascend (w ∷ J) f zero n le = omega arith
cut-ascend (w ∷ J) f (suc m) zero le = absurd (omega arith)
cut-ascend (w ∷ J) f (suc m) (suc n) le = by (w.family == f) (cut-ascend J f m n (omega arith))
  where
    by : (b : Bool) → cut_of J m f ≤ cut_of J n f
        → length (cond b (w ∷ of_family f (take m J)) (of_family f (take m J))) ≤ length (cond b (w ∷ of_family f (take n J)) (of_family f (take n J)))
    by true h = omega (arith, h)
    by false h = h

-- ---- snapshots stay in order

pushed-ascend : (l : List Snapshot) (y : Snapshot) → ((n : ℕ) (s : Snapshot) → entry l n ≡ Some s → s.at ≤ y.at)
    → Ascend l
    → Ascend (l ++ y ∷ [])
pushed-ascend l y last up n m s t e d le = ⊎_elim
    (λ o. ⊎_elim (λ p. up n m s t o p le) (λ p. omega (arith, last n s o, ap (λ (z : Snapshot). z.at) p.1)) (entry_push l y m t d))
    (λ o. ⊎_elim
    (λ p. absurd (omega (arith, o.0, le, entry_le l m t p)))
    (λ p. omega (arith, ap (λ (z : Snapshot). z.at) o.1, ap (λ (z : Snapshot). z.at) p.1))
    (entry_push l y m t d))
    (entry_push l y n s e)

-- a record that keeps its place
changed-back : (l : List Snapshot) (i : ℕ) (x : Snapshot) → entry l i ≡ Some x → (n : ℕ) (s : Snapshot)
    → entry (change l i (record x { live = false })) n ≡ Some s → (u : Snapshot) × (entry l n ≡ Some u) × (s.at ≡ u.at)
changed-back l i x at n s e = ⊎_elim
    (λ o. (x, ap (entry l) o.0 ∙ at, ap (λ (z : Snapshot). z.at) o.1))
    (λ o. (s, o.1, refl))
    (entry_change l i n (record x { live = false }) s e)

pub snapped-ascend : (a b : Books) → Sound a → IsSnapped a b → Ascend a.snapshots → Ascend b.snapshots
snapped-ascend a b k h up =
    subst (λ (z : Books). Ascend z.snapshots) (sym h.is)
    (pushed-ascend a.snapshots (record { at = length a.journal; live = true }) k.lawful.snapshots.within up)

pub unsnapped-ascend : (a b : Books) (i : ℕ) (x : Snapshot) → IsUnsnapped a b i x → Ascend a.snapshots
    → Ascend b.snapshots
unsnapped-ascend a b i x h up = subst (λ (z : Books). Ascend z.snapshots) (sym h.is) (λ n m s t e d le.
    let p = changed-back a.snapshots i x h.at n s e in
    let q = changed-back a.snapshots i x h.at m t d in
    omega (arith, p.2, q.2, up n m p.0 q.0 p.1 q.1 le))
