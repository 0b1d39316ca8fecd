use Rattle.std.proofs.Common.{◌≡◌, ℕ, refl, ap, ◌∙◌, subst, arith}
use Rattle.std.specs.Prelude.{slice_index_or}
use Rattle.std.proofs.lemmas.Option.{get_or_from_slice_get}
use Rattle.sv_journal.specs.declared.live.LiveSnapshot.{LiveSnapshot}
use Rattle.sv_journal.specs.Calls.{IsCutAt}
use Rattle.sv_journal.specs.Kept.{IsPlaceOf, snapshot_of}
use Rattle.sv_journal.specs.Seen.{JournalSeen}
use Rattle.sv_journal.proofs.CutReads.{read}
use Rattle.sv_journal.proofs.LiveLaws.{place-entry}
use Rattle.sv_journal.proofs.journal.Journal.cut_at.Goals as goal

pub returns-clause-cut : goal.returns-clause-cut
returns-clause-cut c =
    let i = c.self.inside in
    let live = i.live.items in
    let f = c.family.inside.0 in
    let p = c.in-Some.place in
    let q : IsPlaceOf live c.args.id p = subst (λ l. IsPlaceOf l c.args.id p) c.as_slice.ensures.value c.in-Some.ensures in
    let r = c.index.result.now in
    let it : r ≡ q.it = c.index.ensures ∙ get_or_from_slice_get live p q.it r q.at in
    subst (λ (z : JournalSeen × ℕ). IsCutAt z.0 c.args.id z.1 (slice_index_or r.cuts f 0)) (λ k. (c.self.view_is k, c.family.view_is k)) (record {
      it = snapshot_of q.it;
      found = place-entry i.writes.items i.snapshots.items live c.self.invariant.live c.args.id p q;
      live = refl;
      is = ap (λ (z : LiveSnapshot). slice_index_or z.cuts f 0) it ∙ read i.writes.items i.snapshots.items live c.self.invariant.live f (omega (arith, c.family.view_is, c.requires)) p q.it q.at;
    })
