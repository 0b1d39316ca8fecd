use Rattle.std.proofs.Common.{◌≡◌, ◌+◌, ◌++◌, ◌∷◌, [], ℕ, List, take, map, sym, ap, ◌∙◌, subst, arith}
use Rattle.std.specs.Prelude.{slice_index_or}
use Rattle.std.proofs.lemmas.Option.{slice_get-get_or}
use Rattle.sv_laws.specs.Snapping.{AreGathered}
use Rattle.sv_journal.specs.declared.live.LiveSnapshot.{LiveSnapshot}
use Rattle.sv_journal.specs.Kept.{AreLive, snapshot_of}
use Rattle.sv_journal.specs.Seen.{JournalSeen}
use Rattle.sv_journal.proofs.CutReads.{all-seen, gathered-more, passed-high, passed-low, room-left}
use Rattle.sv_journal.proofs.journal.Journal.live_cuts.Goals as goal

abbrev first : LiveSnapshot
first = record { id = 0; at = 0; cuts = [] }

pub push-requires : goal.push-requires
push-requires c =
    let items = c.deref-snapshot-items.result.now in
    let j = c.args.self.now in
    let h : AreLive j.writes j.snapshots items = subst (λ (z : JournalSeen × List LiveSnapshot). AreLive z.0.writes z.0.snapshots z.1) (λ k. (c.self.view_is k, sym c.deref-snapshot-items.ensures.value k)) c.self.invariant.live in
    room-left j.writes j.snapshots items h c.args.family c.requires c.args.from c.args.to c.loop-snapshot.last c.loop-snapshot.snapshot-index c.loop-snapshot.cuts c.loop-snapshot.invariant c.loop-snapshot-test.true

pub loop-snapshot-preserved-then-cut-last : goal.loop-snapshot-preserved-then-cut-last
loop-snapshot-preserved-then-cut-last c =
    let items = c.deref-snapshot-items.result.now in
    let j = c.args.self.now in
    let n = c.loop-snapshot.snapshot-index in
    let r : LiveSnapshot = slice_index_or items n first in
    let h : AreLive j.writes j.snapshots items = subst (λ (z : JournalSeen × List LiveSnapshot). AreLive z.0.writes z.0.snapshots z.1) (λ k. (c.self.view_is k, sym c.deref-snapshot-items.ensures.value k)) c.self.invariant.live in
    passed-low j.writes j.snapshots items h c.args.family c.requires c.args.from c.args.to c.loop-snapshot.last n c.loop-snapshot.cuts r (slice_get-get_or items n first c.loop-snapshot-test.true) c.loop-snapshot.invariant
    (omega (arith, c.if-cut-last.true, ap (λ k. slice_index_or r.cuts k 0) c.family.view_is))

pub loop-snapshot-preserved-then-to-cut : goal.loop-snapshot-preserved-then-to-cut
loop-snapshot-preserved-then-to-cut c =
    let items = c.deref-snapshot-items.result.now in
    let j = c.args.self.now in
    let n = c.loop-snapshot.snapshot-index in
    let r : LiveSnapshot = slice_index_or items n first in
    let h : AreLive j.writes j.snapshots items = subst (λ (z : JournalSeen × List LiveSnapshot). AreLive z.0.writes z.0.snapshots z.1) (λ k. (c.self.view_is k, sym c.deref-snapshot-items.ensures.value k)) c.self.invariant.live in
    passed-high j.writes j.snapshots items h c.args.family c.requires c.args.from c.args.to c.loop-snapshot.last n c.loop-snapshot.cuts r (slice_get-get_or items n first c.loop-snapshot-test.true) c.loop-snapshot.invariant
    (omega (arith, c.if-to-cut.true, ap (λ k. slice_index_or r.cuts k 0) c.family.view_is))

pub loop-snapshot-preserved : goal.loop-snapshot-preserved
loop-snapshot-preserved c =
    let items = c.deref-snapshot-items.result.now in
    let j = c.args.self.now in
    let n = c.loop-snapshot.snapshot-index in
    let r : LiveSnapshot = slice_index_or items n first in
    let cuts = c.loop-snapshot.cuts in
    let h : AreLive j.writes j.snapshots items = subst (λ (z : JournalSeen × List LiveSnapshot). AreLive z.0.writes z.0.snapshots z.1) (λ k. (c.self.view_is k, sym c.deref-snapshot-items.ensures.value k)) c.self.invariant.live in
    let one : slice_index_or r.cuts c.family.inside.0 0 ≡ slice_index_or r.cuts c.args.family 0 = ap (λ k. slice_index_or r.cuts k 0) c.family.view_is in
    let new : c.push.new.self ≡ cuts ++ slice_index_or r.cuts c.args.family 0 ∷ [] = c.push.ensures ∙ ap (λ x. cuts ++ x ∷ []) one in
    subst (λ (z : ℕ × List ℕ). AreGathered j.writes c.args.family c.args.from c.args.to z.0 (map snapshot_of (take (n + 1) items)) z.1) (λ k. (sym one k, sym new k))
    (gathered-more j.writes j.snapshots items h c.args.family c.requires c.args.from c.args.to c.loop-snapshot.last n cuts r (slice_get-get_or items n first c.loop-snapshot-test.true) c.loop-snapshot.invariant
    (omega (arith, c.if-cut-last.false, one)) (omega (arith, c.if-to-cut.false, one)))

pub returns : goal.returns
returns c file ef et ec =
    let items = c.deref-snapshot-items.result.now in
    let j = c.args.self.now in
    let n = c.loop-snapshot.snapshot-index in
    let h : AreLive j.writes j.snapshots items = subst (λ (z : JournalSeen × List LiveSnapshot). AreLive z.0.writes z.0.snapshots z.1) (λ k. (c.self.view_is k, sym c.deref-snapshot-items.ensures.value k)) c.self.invariant.live in
    all-seen j.writes j.snapshots items h c.args.family c.requires c.loop-snapshot.last n file (omega (arith, c.loop-snapshot-test.false)) c.loop-snapshot.auto.snapshot-index-end
    (subst (λ (z : ℕ × (ℕ × List ℕ)). AreGathered j.writes c.args.family z.0 z.1.0 c.loop-snapshot.last (map snapshot_of (take n items)) z.1.1) (λ k. (sym ef k, (sym et k, sym ec k))) c.loop-snapshot.invariant)
