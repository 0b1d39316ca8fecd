use Rattle.std.proofs.Common.{◌≡◌, ◌+◌, ◌∷◌, ◌++◌, [], List, length, sym, ap, subst, arith, length-append}
use Rattle.std.specs.Prelude.{slice_index_or, slice_set}
use Rattle.sv_model.specs.declared.writes.Write.{Write}
use Rattle.sv_model.specs.Journal.{of_family}
use Rattle.sv_journal.specs.Seen.{JournalSeen}
use Rattle.sv_journal.specs.Kept.{AreCounts, IsJournal}
use Rattle.sv_journal.proofs.JournalLaws.{count-fits, counts-grow, live-grow, number-is}
use Rattle.sv_journal.proofs.journal.Journal.push.Goals as goal

pub overflow_add-number : goal.overflow_add-number
overflow_add-number c =
    let f : c.write.inside.0.0.0 ≡ c.args.write.family = ap (λ (w : Write). w.family) c.write.view_is in
    let few : length c.self.inside.writes.items + 0 ≡ length c.args.self.now.writes = omega (arith, ap (λ (j : JournalSeen). length j.writes) c.self.view_is) in
    omega (arith, count-fits c.self.inside.writes.items c.args.write c.self.inside.counts c.self.invariant.counts c.requires.family (omega (arith, few, c.requires.few)), ap (λ k. slice_index_or c.self.inside.counts k 0) f)

pub invariant_of-self : goal.invariant_of-self
invariant_of-self c =
    let i = c.self.inside in
    let w = c.args.write in
    let f : c.write.inside.0.0.0 ≡ c.args.write.family = ap (λ (w : Write). w.family) c.write.view_is in
    let few : length i.writes.items + 0 ≡ length c.args.self.now.writes = omega (arith, ap (λ (j : JournalSeen). length j.writes) c.self.view_is) in
    subst (λ l. IsJournal l (slice_set i.counts c.write.inside.0.0.0 (slice_index_or i.counts c.write.inside.0.0.0 0 + 1)) i.snapshots.items i.live.items) (sym c.push_reserved.ensures.items) (record {
      few = omega (arith, few, c.requires.few, length-append i.writes.items (w ∷ []));
      counts = subst (λ k. AreCounts (i.writes.items ++ w ∷ []) (slice_set i.counts k (slice_index_or i.counts k 0 + 1))) (sym f) (counts-grow i.writes.items w i.counts c.self.invariant.counts c.requires.family);
      live = live-grow i.writes.items w i.snapshots.items i.live.items c.self.invariant.live;
    })

pub returns-clause-number : goal.returns-clause-number
returns-clause-number c =
    let i = c.self.inside in
    let w = c.args.write in
    let f : c.write.inside.0.0.0 ≡ c.args.write.family = ap (λ (w : Write). w.family) c.write.view_is in
    omega (arith, ap (λ k. slice_index_or i.counts k 0) f, number-is i.writes.items w i.counts c.self.invariant.counts c.requires.family, ap (λ (l : List Write). length (of_family w.family l)) c.push_reserved.ensures.items)
