use Rattle.std.proofs.Common.{◌≡◌, ◌<◌, ◌+◌, ◌++◌, ◌∷◌, [], List, true, length, sym, ap, ◌∙◌, subst, arith}
use Rattle.sv_model.specs.declared.records.Snapshot.{Snapshot}
use Rattle.sv_journal.specs.declared.live.LiveSnapshot.{LiveSnapshot}
use Rattle.sv_journal.specs.Kept.{IsJournal}
use Rattle.sv_journal.proofs.LiveLaws.{live-more}
use Rattle.sv_journal.proofs.journal.Journal.snap.Goals as goal

pub invariant_of-self-2 : goal.invariant_of-self-2
invariant_of-self-2 c =
    let i = c.self.inside in
    let W = i.writes.items in
    let S = i.snapshots.items in
    let L = i.live.items in
    let at : c.len-at.result ≡ length W = omega (arith, c.len-at.ensures, i.writes.ok.0) in
    let id : c.len-3.result ≡ length S = omega (arith, c.len-3.ensures, c.reserve.new.self.ok.0, ap (λ (l : List Snapshot). length l) c.reserve.ensures.items) in
    let few : length S < 1048576 = omega (arith, c.if-len-ge-MAX_SNAPSHOTS.false, c.len.ensures, i.snapshots.ok.0) in
    let room : length L < 64 = omega (arith, c.if-len-ge-MAX_SNAPSHOTS_LIVE.false, c.len-2.ensures, i.live.ok.0) in
    let more = live-more W S L c.self.invariant.live i.counts c.self.invariant.counts few room in
    let eS : c.push_reserved.new.self.items ≡ S ++ record { at = length W; live = true } ∷ [] =
    c.push_reserved.ensures.items ∙ (λ k. c.reserve.ensures.items k ++ record { at = at k; live = true } ∷ []) in
    let eL : c.push_reserved-2.new.self.items ≡ L ++ record { id = length S + 1; at = length W; cuts = i.counts } ∷ [] =
    c.push_reserved-2.ensures.items ∙ (λ k. c.reserve-2.ensures.items k ++ record { id = id k + 1; at = at k; cuts = i.counts } ∷ []) in
    subst (λ (z : List Snapshot × List LiveSnapshot). IsJournal W i.counts z.0 z.1) (λ k. (sym eS k, sym eL k)) (record {
      few = c.self.invariant.few;
      counts = c.self.invariant.counts;
      live = more;
    })
