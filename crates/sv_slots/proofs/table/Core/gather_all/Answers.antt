use Rattle.std.proofs.Common.{ap, refl, sym, ◌∙◌, ◌∷◌, ◌≡◌}
use Rattle.sv_rule.specs.SeatPlays.{IsIdle}
use Rattle.sv_slots.proofs.Ends.{gathered-last, gathers-first, some_seat, views-last}
use Rattle.sv_slots.proofs.Rows.{every-before, every-last, first-rest}
use Rattle.sv_slots.specs.Closings.{gathered_by, views_of}
use Rattle.sv_slots.specs.Known.{table_of}
use Rattle.sv_slots.proofs.table.Core.gather_all.Goals as goal

pub loop-other-init : goal.loop-other-init
loop-other-init g c =
    let r = c.remove-first in let all = c.args.seats.items in
    let e = first-rest all r.result (some_seat all (λ s. s.seat.me.0) c.requires.all) r.ensures.value ∙ ap (λ z. r.result ∷ z) (sym r.ensures.items) in
    let t = gathers-first (table_of c.args.self.now) all r.new.self.items r.result c.requires e in
    (refl, refl, λ i x a. t.1 i x a ∙ sym t.0, t.2)

pub gather-requires-clause-table : goal.gather-requires-clause-table
gather-requires-clause-table g c =
    let r = c.remove-first in let all = c.args.seats.items in
    let e = first-rest all r.result (some_seat all (λ s. s.seat.me.0) c.requires.all) r.ensures.value ∙ ap (λ z. r.result ∷ z) (sym r.ensures.items) in
    let t = gathers-first (table_of c.args.self.now) all r.new.self.items r.result c.requires e in
    let inv = c.loop-other.invariant in
    (inv.0 ∙ t.0, every-last (λ s. s.seat.table_id ≡ r.result.seat.table_id) c.pop.new.self.items c.loop-other.seats.items c.in-Some.other c.in-Some.ensures.items inv.2 ∙ t.0)

pub gather-requires-clause-idle : goal.gather-requires-clause-idle
gather-requires-clause-idle g c =
    every-last IsIdle (views_of c.pop.new.self.items) (views_of c.loop-other.seats.items) c.in-Some.other.seat.me.0
    (views-last c.pop.new.self.items c.loop-other.seats.items c.in-Some.other c.in-Some.ensures.items)
    c.loop-other.invariant.3

pub loop-other-preserved : goal.loop-other-preserved
loop-other-preserved g c =
    let inv = c.loop-other.invariant in let l = c.pop.new.self.items in let all = c.loop-other.seats.items in
    let x = c.in-Some.other in let e = c.in-Some.ensures.items in let views = views-last l all x e in (
      c.gather.ensures.same.0 ∙ inv.0,
      ap (λ z. gathered_by z (views_of l)) c.gather.ensures.gathered
          ∙ (gathered-last c.loop-other.first.seat.me.0 x.seat.me.0 (views_of l) (views_of all) views ∙ inv.1),
      every-before (λ s. s.seat.table_id ≡ c.remove-first.result.seat.table_id) l all x e inv.2,
      every-before IsIdle (views_of l) (views_of all) x.seat.me.0 views inv.3,
    )

pub returns-clause-table : goal.returns-clause-table
returns-clause-table g c =
    let r = c.remove-first in let all = c.args.seats.items in
    let e = first-rest all r.result (some_seat all (λ s. s.seat.me.0) c.requires.all) r.ensures.value ∙ ap (λ z. r.result ∷ z) (sym r.ensures.items) in
    let t = gathers-first (table_of c.args.self.now) all r.new.self.items r.result c.requires e in
    c.loop-other.invariant.0 ∙ t.0
