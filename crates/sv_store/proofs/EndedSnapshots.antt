-- A Live snapshot ends at the close.
use Rattle.std.proofs.Common.{◌≡◌, ◌<◌, ℕ, true, false, cond, not, Some, None, Result, Ok, Err, length, option_map, unwrap_or, refl, sym, ap, ◌∙◌, subst, arith}
use Rattle.std.specs.Prelude.{OnOk}
use Rattle.sv_model.specs.declared.records.Snapshot.{Snapshot}
use Rattle.sv_model.specs.declared.refusals.Refusal.{Refusal}
use Rattle.sv_model.specs.declared.refusals.Refusal.TheVariants as refusal
use Rattle.sv_model.specs.Books.{Books}
use Rattle.sv_model.specs.Lists.{bit, total}
use Rattle.sv_model.specs.Refusals.{RefusesExactly}
use Rattle.sv_model.proofs.Registers.{length-change, total-change}
use Rattle.sv_journal.specs.Calls.{IsNewest, is_live_snapshot, snapshot_refusal}
use Rattle.sv_state.specs.Taken.{IsEnded}
use Rattle.sv_store.specs.Ending.{EndsSnapshots}

-- the end of a Live one is not refused
pub newest-ended : {T : Type 0} (a b : Books) (id : ℕ) (r : Result T Refusal) → IsNewest a.snapshots id → OnOk r (IsEnded a id b)
    → RefusesExactly (snapshot_refusal a.snapshots id) r → IsEnded a id b
newest-ended a b id (Ok x) n h q = h
newest-ended a b id (Err e) n h q =
    let live : is_live_snapshot a.snapshots id ≡ true = ap (λ o. unwrap_or (option_map (λ (s : Snapshot). s.live) o) false) n.found ∙ n.live in
    let z : None ≡ Some e = ap (λ b. cond (not b) (Some refusal.NoSnapshot) None) (sym live) ∙ q in
    absurd (cc)

abbrev pub live_count : Books → ℕ
live_count b = total (λ s. bit s.live) b.snapshots

module _ (a b : Books) (id : ℕ) (h : IsEnded a id b) where
  pub fewer-live : live_count b < live_count a
  fewer-live = omega (
    arith,
    ap (λ (z : Books). live_count z) h.is.is,
    total-change (λ (s : Snapshot). bit s.live) a.snapshots id h.it (record h.it { live = false }) h.is.at,
    ap bit h.is.live,
  )

  pub one-snapshot : EndsSnapshots a b
  one-snapshot = record {
    taken = ap (λ (z : Books). length z.snapshots) h.is.is ∙ length-change a.snapshots id (record h.it { live = false });
    is = subst (λ (z : Books). z ≡ record a { snapshots = z.snapshots }) (sym h.is.is) refl;
  }

pub snapshots-through : (a m b : Books) → EndsSnapshots a m → EndsSnapshots m b → EndsSnapshots a b
snapshots-through a m b h k = record {
  taken = k.taken ∙ h.taken;
  is = k.is ∙ ap (λ (z : Books). record z { snapshots = b.snapshots }) h.is;
}
