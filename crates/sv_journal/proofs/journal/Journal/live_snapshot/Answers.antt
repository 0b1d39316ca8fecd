use Rattle.std.proofs.Common.{◌≡◌, ◌-◌, ◌+◌, length, refl, subst, arith}
use Rattle.std.proofs.lemmas.Option.{slice_get_read}
use Rattle.sv_journal.specs.Calls.{IsNewest}
use Rattle.sv_journal.specs.Seen.{JournalSeen}
use Rattle.sv_journal.proofs.LiveLaws.{newest-live}
use Rattle.sv_journal.proofs.journal.Journal.live_snapshot.Goals as goal

pub returns : goal.returns
returns c =
    let i = c.self.inside in
    let r = c.index.result.now in
    let n = c.len-count.result - 1 in
    let some : n + 1 ≡ length i.live.items = grind (arith, c.if-count-lt1.false, c.len-count.ensures) in
    subst (λ (z : JournalSeen). IsNewest z.snapshots r.id) c.self.view_is
    (newest-live i.writes.items i.snapshots.items i.live.items c.self.invariant.live n r some (slice_get_read i.live.items (length i.live.items) n r refl (omega (arith, some)) c.index.ensures))
