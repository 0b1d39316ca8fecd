-- Snapshots, and handles of families.
use Rattle.std.proofs.Common.{◌≡◌, ◌<◌, ℕ, true, List, length, None, Result, Ok, Err, ap}
use Rattle.std.specs.Prelude.{IfOk, OnErr, OnOk, nat_le}
use Rattle.sv_model.specs.declared.records.Family.{Family}
use Rattle.sv_model.specs.declared.records.Snapshot.{Snapshot}
use Rattle.sv_model.specs.declared.refusals.Refusal.{Refusal}
use Rattle.sv_model.specs.declared.refusals.Refusal.TheVariants.{RegisterFull, TooManySnapshots}
use Rattle.sv_model.specs.After.{After}
use Rattle.sv_model.specs.Books.{Books}
use Rattle.sv_model.specs.Families.{IsOwnStanding, IsStanding}
use Rattle.sv_model.specs.Lists.{bit, total}
use Rattle.sv_model.specs.Refusals.{Refuses}
use Rattle.sv_model.specs.Steady.{Sound}
use Rattle.sv_family.specs.Calls.{IsChanged, as_dropped, with_handle}
use Rattle.sv_journal.specs.Seen.{JournalSeen}
use Rattle.sv_journal.specs.Calls as journal
use Rattle.sv_journal.specs.Calls.{snap_refusal}
use Rattle.sv_laws.specs.Changes.{dropped, opened, snapped, unsnapped}
use Rattle.sv_laws.proofs.Kept.{sound-kept}
use Rattle.sv_model.proofs.RefusalLaws.{none_due}
use Rattle.sv_state.proofs.Calls.{below, not-due, same-books}

-- ---- snapshots

-- the books with this journal
abbrev pub with_journal : Books → JournalSeen → Books
with_journal a j = record a { journal = j.writes; snapshots = j.snapshots }

module _ (a : Books) (j : JournalSeen) (k : Sound (with_journal a j)) (new : JournalSeen) where
  pub snap-changes : (r : Result (ℕ × ℕ) Refusal) → IfOk r (λ m. journal.IsSnapped j m.0 m.1 new) → Refuses (snap_refusal j.snapshots) r → OnErr r (new ≡ j)
      → Sound (with_journal a new) × After (with_journal a j) (with_journal a new)
  snap-changes (Err e) h f g = same-books (with_journal a j) (with_journal a new) k (ap (with_journal a) g)
  snap-changes (Ok m) h f g =
      let d = none_due _ _ f in
      let few = (not-due (nat_le 1048576 (length j.snapshots)) RegisterFull None d.0).0 in
      let live = (not-due (nat_le 64 (total (λ (s : Snapshot). bit s.live) j.snapshots)) TooManySnapshots None (none_due _ _ d.1).0).0 in
      sound-kept (with_journal a j) (with_journal a new) k (snapped (record {
        few_live = below 64 (total (λ (s : Snapshot). bit s.live) j.snapshots) live;
        few = below 1048576 (length j.snapshots) few;
        is = ap (with_journal a) h.is;
      }))

  pub unsnap-changes : {T : Type 0} (id : ℕ) (r : Result T Refusal) → OnOk r (journal.IsUnsnapped j id new) → OnErr r (new ≡ j)
      → Sound (with_journal a new) × After (with_journal a j) (with_journal a new)
  unsnap-changes id (Err e) h g = same-books (with_journal a j) (with_journal a new) k (ap (with_journal a) g)
  unsnap-changes id (Ok m) h g = sound-kept (with_journal a j) (with_journal a new) k (unsnapped id h.it (record {
    at = h.found;
    live = h.live;
    is = ap (with_journal a) h.is;
  }))

-- ---- handles

module _ (a : Books) (k : Sound a) (lane : ℕ) (name : List ℕ) (new : List Family) where
  abbrev with_families : List Family → Books
  with_families l = record a { families = l }

  pub open-changes : (r : Result ℕ Refusal) → IfOk r (λ id. IsChanged (IsStanding name) (with_handle lane true) a.families id new) → OnErr r (new ≡ a.families)
      → Sound (record a { families = new }) × After a (record a { families = new })
  open-changes (Err e) h g = same-books a (with_families new) k (ap with_families g)
  open-changes (Ok id) h g = sound-kept a (with_families new) k (opened id lane (record {
    it = h.it;
    at = h.at;
    stands = h.was.stands;
    is = ap with_families h.changed;
  }))

  pub drop-changes : (r : Result ℕ Refusal) → IfOk r (λ id. IsChanged (IsOwnStanding lane name) as_dropped a.families id new) → IfOk r (λ id. 0 < id) → OnErr r (new ≡ a.families)
      → Sound (record a { families = new }) × After a (record a { families = new })
  drop-changes (Err e) h o g = same-books a (with_families new) k (ap with_families g)
  drop-changes (Ok id) h o g = sound-kept a (with_families new) k (dropped id lane (record {
    it = h.it;
    at = h.at;
    other = o;
    handle = h.was.own.handle;
    is = ap with_families h.changed;
  }))
