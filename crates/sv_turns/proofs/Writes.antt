-- Turns of writes, and of snapshots that are taken and ended.
use Rattle.std.proofs.Common.{List, None, Option, Some, [], ap, arith, cond, false, length, refl, subst, sym, true, ℕ, ⊎_elim, ◌++◌, ◌+◌, ◌∙◌, ◌∷◌, ◌≡◌, ◌≤◌}
use Rattle.std.specs.Prelude.{slice_get}
use mathlib.Core.Logic.{dite}
use native.Mathlib.Decide.{ℕ_discrete}
use Rattle.sv_model.specs.Books.{Books}
use Rattle.sv_model.specs.Lists.{same}
use Rattle.sv_model.specs.Registers.{change, entry}
use Rattle.sv_model.specs.Tasks.{Task, gone_count, gone_snapshot, handle}
use Rattle.sv_model.specs.Turns.{Stands, Turns}
use Rattle.sv_model.specs.declared.records.Snapshot.{Snapshot}
use Rattle.sv_model.specs.declared.writes.Write.{Write}
use Rattle.sv_model.proofs.Entries.{get_one}
use Rattle.sv_model.proofs.Lists.{same_here, same_other}
use Rattle.sv_model.proofs.Registers.{entry-else, entry-old, entry-same, entry_push}
use Rattle.sv_laws.specs.Snapping.{IsSnapped, IsUnsnapped}
use Rattle.sv_laws.specs.Writes.{IsWritten}
use Rattle.sv_turns.specs.Called.{IsCalled}
use Rattle.sv_turns.specs.Owned.{ends_snapshot}
use Rattle.sv_turns.proofs.Frames.{append_none, handles-stand, no_writes, snapshots-stand, turns-files_stand}

-- SuperVersions, currents, memtables and families stand
pub stands-all : (a b : Books) → b.supers ≡ a.supers → b.tops ≡ a.tops → b.memtables ≡ a.memtables
    → b.families ≡ a.families → Stands a b
stands-all a b supers tops memtables families = record {
  supers = supers;
  tops = tops;
  memtables = memtables;
  families = record {
    goes = λ f x at. (x, ap (λ z. slice_get z f) families ∙ at, refl);
    long = subst (λ z. length a.families ≤ length z) (sym families) (omega arith);
  };
  long = ap length families;
}

-- a snapshot that is new is Live
snapped_one : (l : List Snapshot) (s : Snapshot) → s.live ≡ true → (n : ℕ)
    → gone_snapshot n (l ++ s ∷ []) ≡ gone_snapshot n l
snapped_one l s live n = by (entry l n) refl (entry (l ++ s ∷ []) n) refl
  where
    by : (o : Option Snapshot) → entry l n ≡ o → (p : Option Snapshot) → entry (l ++ s ∷ []) n ≡ p
        → gone_count p ≡ gone_count o
    by (Some x) e p q = ap gone_count (sym q ∙ entry-old l (s ∷ []) n x e)
    by None e None q = refl
    by None e (Some y) q = ⊎_elim
        (λ (h : entry l n ≡ Some y). absurd (clash (sym e ∙ h)))
        (λ (h : (n ≡ length l + 1) × (y ≡ s)). ap (λ (z : Snapshot). cond z.live 0 1) h.1 ∙ ap (λ b. cond b 0 1) live)
        (entry_push l s n y q)
      where
        clash : None ≡ Some y → ⊥
        clash e = cc

-- the one that ends is Gone
ended_one : (l : List Snapshot) (k : ℕ) (x : Snapshot) → entry l k ≡ Some x → x.live ≡ true → (n : ℕ)
    → gone_snapshot n (change l k (record x { live = false })) ≡ gone_snapshot n l + same n k
ended_one l k x at live n = dite (ℕ_discrete n k)
    (λ e.
    let now : gone_snapshot k (change l k (record x { live = false })) ≡ 1 = ap gone_count
    (entry-same l k x (record x { live = false }) at) in
    let was : gone_snapshot k l ≡ 0 = ap gone_count at ∙ live_none live in
    omega (
      arith,
      now,
      was,
      ap (λ m. gone_snapshot m (change l k (record x { live = false }))) e,
      ap (λ m. gone_snapshot m l) e,
      ap (λ m. same m k) e,
      same_here k,
    ))
    (λ ne. omega (
      arith,
      ap gone_count (entry-else l k n (record x { live = false }) ne),
      same_other n k ne,
    ))
  where
    live_none : x.live ≡ true → gone_count (Some x) ≡ 0
    live_none e = ap {B = ℕ} (λ b. cond b 0 1) e

module _ (l : ℕ) (a b : Books) (t : Task) (c : IsCalled l a t b) where
  -- A write of the lane is accepted.
  pub written-turns : (f : ℕ) (w : Write) → IsWritten a b f w → w.lane ≡ l → Turns l a t b t (w ∷ [])
  written-turns f w h lane =
      turns-files_stand l a b t c t (w ∷ []) (ap (λ (z : Books). z.files) h.is) refl refl refl refl refl refl
      (ap (λ (z : Books). z.journal) h.is)
      (λ i x e. ap (λ (z : Write). z.lane) (get_one w i x e).1 ∙ lane)
      (handles-stand l a.families b.families t.handles
      (λ k g. ap (λ (z : Books). handle z.families k g) h.is))
      (snapshots-stand a.snapshots b.snapshots t.ended (ap (λ (z : Books). z.snapshots) h.is))

  pub written-stands : (f : ℕ) (w : Write) → IsWritten a b f w → Stands a b
  written-stands f w h = stands-all a b (ap (λ (z : Books). z.supers) h.is) (ap (λ (z : Books). z.tops) h.is)
      (ap (λ (z : Books). z.memtables) h.is) (ap (λ (z : Books). z.families) h.is)

  -- A snapshot is taken.
  pub snapped-turns : IsSnapped a b → Turns l a t b t []
  snapped-turns h =
      let s : Snapshot = record { at = length a.journal; live = true } in
      turns-files_stand l a b t c t [] (ap (λ (z : Books). z.files) h.is) refl refl refl refl refl refl
      (ap (λ (z : Books). z.journal) h.is ∙ append_none a.journal) (no_writes l)
      (handles-stand l a.families b.families t.handles
      (λ k g. ap (λ (z : Books). handle z.families k g) h.is))
      (λ n. omega (
        arith,
        ap (λ (z : Books). gone_snapshot n z.snapshots) h.is,
        snapped_one a.snapshots s refl n,
      ))

  -- A snapshot is ended.
  pub unsnapped-turns : (k : ℕ) (x : Snapshot) → IsUnsnapped a b k x → Turns l a t b (ends_snapshot k t) []
  unsnapped-turns k x h =
      turns-files_stand l a b t c (ends_snapshot k t) [] (ap (λ (z : Books). z.files) h.is) refl refl refl refl refl
      refl (ap (λ (z : Books). z.journal) h.is ∙ append_none a.journal) (no_writes l)
      (handles-stand l a.families b.families t.handles
      (λ k g. ap (λ (z : Books). handle z.families k g) h.is))
      (λ n. omega (
        arith,
        ap (λ (z : Books). gone_snapshot n z.snapshots) h.is,
        ended_one a.snapshots k x h.at h.live n,
      ))

  pub snapped-stands : IsSnapped a b → Stands a b
  snapped-stands h = stands-all a b (ap (λ (z : Books). z.supers) h.is) (ap (λ (z : Books). z.tops) h.is)
      (ap (λ (z : Books). z.memtables) h.is) (ap (λ (z : Books). z.families) h.is)

  pub unsnapped-stands : (k : ℕ) (x : Snapshot) → IsUnsnapped a b k x → Stands a b
  unsnapped-stands k x h = stands-all a b (ap (λ (z : Books). z.supers) h.is) (ap (λ (z : Books). z.tops) h.is)
      (ap (λ (z : Books). z.memtables) h.is) (ap (λ (z : Books). z.families) h.is)
