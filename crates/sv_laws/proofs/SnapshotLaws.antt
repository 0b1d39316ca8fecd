-- The law of snapshots is kept while their cuts are.
use Rattle.sv_model.specs.Lists.{total, bit}
use Rattle.sv_model.specs.Registers.{entry}
use Rattle.std.proofs.Common.{◌≡◌, ◌≤◌, ℕ, List, length, take, sym, ap, ◌∙◌, subst, ⊎_elim, arith, length-append, Some}
use Rattle.std.proofs.lemmas.List.{take-append-le}
use Rattle.sv_model.specs.declared.writes.Write.{Write}
use Rattle.sv_model.specs.declared.records.Snapshot.{Snapshot}
use Rattle.sv_model.specs.Journal.{of_family}
use Rattle.sv_model.specs.Snapshots.{SnapshotsStand, cut_of, IsClear}
use Rattle.sv_model.specs.After.{Continues}
use Rattle.sv_model.specs.Books.{Books}
use Rattle.sv_laws.specs.Snapping.{KeepsCuts}

-- a snapshot keeps its cut while the journal goes on
pub cut-stays : (a b : List Write) → Continues a b → (at f : ℕ) → at ≤ length a → cut_of b at f ≡ cut_of a at f
cut-stays a b more at f le = ap (λ l. length (of_family f l)) (ap (take at) more.1 ∙ take-append-le at a more.0 le)

pub snapshots-kept : (a b : Books) → SnapshotsStand a.journal a.versions a.files.captured a.metas a.tops a.snapshots
    → KeepsCuts a b → SnapshotsStand b.journal b.versions b.files.captured b.metas b.tops b.snapshots
snapshots-kept a b h k = record {
  within = λ n s e. omega (arith, h.within n s (old n s e), ap length k.journal.1, length-append a.journal k.journal.0);
  few = subst (λ l. total (λ s. bit s.live) l ≤ 64) (sym k.snapshots) h.few;
  made = omega (arith, h.made, ap length k.snapshots);
  lasts = λ n s e l f file w.
      let o = old n s e in
      let same = sym (cut-stays a.journal b.journal k.journal s.at f (h.within n s o)) in
      subst (λ c. IsClear c file) same
      (⊎_elim (λ i. h.lasts n s o l f file i) (λ i. h.awaited n s o l f file i) (k.lasts f file w));
  awaited = λ n s e l f file w.
      let o = old n s e in
      let same = sym (cut-stays a.journal b.journal k.journal s.at f (h.within n s o)) in
      ⊎_elim (λ i. subst (λ c. IsClear c file) same (h.awaited n s o l f file i)) (λ i. i n s e l) (k.awaited f file w);
}
  where
    old : (n : ℕ) (s : Snapshot) → entry b.snapshots n ≡ Some s → entry a.snapshots n ≡ Some s
    old n s e = ap (λ l. entry l n) (sym k.snapshots) ∙ e
