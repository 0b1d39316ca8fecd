use Rattle.std.proofs.Common.{◌≡◌, ℕ, true, false, [], Some, sym, subst, arith}
use Rattle.std.specs.Prelude.{slice_get, slice_index_or}
use Rattle.std.proofs.lemmas.Option.{slice_get-get_or, slice_get_within}
use Rattle.sv_journal.specs.declared.live.LiveSnapshot.{LiveSnapshot}
use Rattle.sv_journal.specs.Calls.{is_live_cut}
use Rattle.sv_journal.specs.Kept.{AreLive}
use Rattle.sv_journal.specs.Seen.{JournalSeen}
use Rattle.sv_journal.proofs.CutReads.{cut-live, cut-none, none-more}
use Rattle.sv_journal.proofs.journal.Journal.is_live_cut.Goals as goal

pub returns-then-snapshot-family : goal.returns-then-snapshot-family
returns-then-snapshot-family c =
    let i = c.self.inside in
    let items = c.deref-snapshot-items.result.now in
    let n = c.loop-snapshot.snapshot-index in
    let f = c.family.inside.0 in
    let h : AreLive i.writes.items i.snapshots.items items = subst (AreLive i.writes.items i.snapshots.items) (sym c.deref-snapshot-items.ensures.value) c.self.invariant.live in
    let d : LiveSnapshot = record { id = 0; at = 0; cuts = [] } in
    let at : slice_get items n ≡ Some (slice_index_or items n d) = slice_get-get_or items n d c.loop-snapshot-test.true in
    let is : is_live_cut i.writes.items i.snapshots.items f c.args.cut ≡ true =
    cut-live i.writes.items i.snapshots.items items h f (omega (arith, c.family.view_is, c.requires)) c.args.cut n (slice_index_or items n d) at c.if-snapshot-family.true in
    subst (λ (z : JournalSeen × ℕ). true ≡ is_live_cut z.0.writes z.0.snapshots z.1 c.args.cut) (λ k. (c.self.view_is k, c.family.view_is k)) (sym is)

pub loop-snapshot-preserved : goal.loop-snapshot-preserved
loop-snapshot-preserved c =
    none-more c.deref-snapshot-items.result.now c.args.family c.family.inside.0 c.args.cut c.loop-snapshot.snapshot-index
    (record { id = 0; at = 0; cuts = [] }) c.family.view_is c.if-snapshot-family.false c.loop-snapshot.invariant

pub returns : goal.returns
returns c =
    let i = c.self.inside in
    let items = c.deref-snapshot-items.result.now in
    let h : AreLive i.writes.items i.snapshots.items items = subst (AreLive i.writes.items i.snapshots.items) (sym c.deref-snapshot-items.ensures.value) c.self.invariant.live in
    let is : is_live_cut i.writes.items i.snapshots.items c.args.family c.args.cut ≡ false =
    cut-none i.writes.items i.snapshots.items items h c.args.family c.requires c.args.cut (λ k r e. c.loop-snapshot.invariant k r (omega (arith, slice_get_within items k r e, c.loop-snapshot-test.false)) e) in
    subst (λ (z : JournalSeen). false ≡ is_live_cut z.writes z.snapshots c.args.family c.args.cut) c.self.view_is (sym is)
