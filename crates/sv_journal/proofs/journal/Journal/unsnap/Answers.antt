use Rattle.std.proofs.Common.{◌≡◌, ◌+◌, ◌-◌, List, Some, false, refl, sym, ap, ◌∙◌, subst, arith}
use Rattle.std.specs.Prelude.{slice_set}
use Rattle.sv_model.specs.declared.records.Snapshot.{Snapshot}
use Rattle.sv_model.specs.Registers.{entry, change}
use Rattle.sv_model.proofs.Registers.{change-code, entry_le}
use Rattle.sv_journal.specs.declared.live.LiveSnapshot.{LiveSnapshot}
use Rattle.sv_journal.specs.Calls.{IsUnsnapped}
use Rattle.sv_journal.specs.Kept.{IsJournal, IsPlaceOf, snapshot_of}
use Rattle.sv_journal.specs.Seen.{JournalSeen}
use Rattle.sv_journal.specs.contracts.journal.Journal.{the_view}
use Rattle.sv_journal.proofs.CutReads.{entry-read}
use Rattle.sv_journal.proofs.LiveLaws.{live-fewer, place-entry}
use Rattle.sv_journal.proofs.journal.Journal.unsnap.Goals as goal

pub overflow_sub-id : goal.overflow_sub-id
overflow_sub-id c =
    let i = c.self.inside in
    let q : IsPlaceOf i.live.items c.args.id c.in-Some.place = subst (λ l. IsPlaceOf l c.args.id c.in-Some.place) c.as_slice.ensures.value c.in-Some.ensures in
    (entry_le i.snapshots.items c.args.id (snapshot_of q.it) (place-entry i.writes.items i.snapshots.items i.live.items c.self.invariant.live c.args.id c.in-Some.place q)).0

pub index_mut-snapshot-requires : goal.index_mut-snapshot-requires
index_mut-snapshot-requires c =
    let i = c.self.inside in
    let q : IsPlaceOf i.live.items c.args.id c.in-Some.place = subst (λ l. IsPlaceOf l c.args.id c.in-Some.place) c.as_slice.ensures.value c.in-Some.ensures in
    let le = entry_le i.snapshots.items c.args.id (snapshot_of q.it) (place-entry i.writes.items i.snapshots.items i.live.items c.self.invariant.live c.args.id c.in-Some.place q) in
    omega (arith, le.0, le.1)

-- the snapshot, and what becomes of the register
place : (c : goal.After-self-1) → IsPlaceOf c.self.inside.live.items c.args.id c.in-Some.place
place c = subst (λ l. IsPlaceOf l c.args.id c.in-Some.place) c.as_slice.ensures.value c.in-Some.ensures

found : (c : goal.After-self-1) → entry c.self.inside.snapshots.items c.args.id ≡ Some (snapshot_of (place c).it)
found c = place-entry c.self.inside.writes.items c.self.inside.snapshots.items c.self.inside.live.items c.self.invariant.live c.args.id c.in-Some.place (place c)

before : (c : goal.After-self-1) → c.args.id ≡ (c.args.id - 1) + 1
before c = let le = entry_le c.self.inside.snapshots.items c.args.id (snapshot_of (place c).it) (found c) in omega (arith, le.0)

changed : (c : goal.After-self-1) → slice_set c.self.inside.snapshots.items (c.args.id - 1) (record { at = c.index_mut-snapshot.result.now.at; live = false }) ≡ change c.self.inside.snapshots.items c.args.id (record { at = (place c).it.at; live = false })
changed c =
    let S = c.self.inside.snapshots.items in
    let s : c.index_mut-snapshot.result.now ≡ snapshot_of (place c).it = c.index_mut-snapshot.ensures.value ∙ entry-read S c.args.id (c.args.id - 1) (snapshot_of (place c).it) c.index_mut-snapshot.result.now (found c) (before c) in
    ap (λ (z : Snapshot). slice_set S (c.args.id - 1) (record { at = z.at; live = false })) s
    ∙ change-code S c.args.id (c.args.id - 1) (record { at = (place c).it.at; live = false }) (before c)

pub invariant_of-self : goal.invariant_of-self
invariant_of-self c =
    let i = c.self.inside in
    let y : Snapshot = record { at = (place c).it.at; live = false } in
    subst (λ (z : List Snapshot × List LiveSnapshot). IsJournal i.writes.items i.counts z.0 z.1) (λ k. (sym (changed c) k, sym c.remove.ensures.items k)) (record {
      few = c.self.invariant.few;
      counts = c.self.invariant.counts;
      live = live-fewer i.writes.items i.snapshots.items i.live.items c.self.invariant.live c.args.id c.in-Some.place (place c) y refl;
    })

pub returns-clause-ended : goal.returns-clause-ended
returns-clause-ended c =
    let i = c.self.inside in
    subst (λ (z : JournalSeen). IsUnsnapped z c.args.id (record (the_view i) { snapshots = slice_set i.snapshots.items (c.args.id - 1) (record { at = c.index_mut-snapshot.result.now.at; live = false }) })) c.self.view_is (record {
      it = snapshot_of (place c).it;
      found = found c;
      live = refl;
      is = (λ k. record (the_view i) { snapshots = changed c k });
    })
