use Rattle.std.proofs.Common.{arith, inl, refl, subst, sym, ◌∙◌}
use Rattle.sv_db.specs.Locals.{IsLocal}
use Rattle.sv_db.specs.Named.{AddsPin}
use Rattle.sv_db.proofs.Keeping.{goes-keeps, still-local}
use Rattle.sv_db.proofs.Pinned.{all-taken, few-pins, least-free, pinned-local}
use Rattle.sv_slots.specs.Known.{table_of}
use Rattle.sv_db.proofs.locals.Local.pin_own.Goals as goal

pub returns-in_default-clause-pins : goal.returns-in_default-clause-pins
returns-in_default-clause-pins g c = let pins = c.args.self.now.pins in record {
  ok = tt;
  err = (refl, inl (refl, all-taken pins c.requires.local.pins.long (sym c.least_free.ensures ∙ c.in_default.is), refl));
}

pub pin_of-requires-clause-room : goal.pin_of-requires-clause-room
pin_of-requires-clause-room g c = let fit = c.requires.local.pins in
    omega (arith, fit.count, few-pins c.args.self.now.pins fit.long)

pub returns-in-Ok-clause-local : goal.returns-in-Ok-clause-local
returns-in-Ok-clause-local g c = let self = c.args.self.now in let e = c.in-Ok.ensures in
    let free = least-free self.pins c.in-Some.number (sym c.least_free.ensures ∙ c.in-Some.is) in
    subst (λ after. IsLocal (table_of c.args.db.now.core) c.args.db.now.lanes self.lane self.handles after c.pin_of.new.seat)
    (sym c.keep.ensures.kept)
    (pinned-local (table_of c.args.db.now.core) c.args.db.now.lanes self.lane self.handles self.pins self.seat
    c.pin_of.new.seat c.pin_of.ensures.same c.requires.local c.args.family c.in-Some.number c.in-Ok.sv c.requires.lend.0
    free.0.free e.pins)

pub returns-in-Ok-clause-pins : goal.returns-in-Ok-clause-pins
returns-in-Ok-clause-pins g c = let self = c.args.self.now in let e = c.in-Ok.ensures in
    let free = least-free self.pins c.in-Some.number (sym c.least_free.ensures ∙ c.in-Some.is) in record {
      ok = subst (λ n. AddsPin self.pins c.keep.new.pins n c.keep.result.1 c.args.family self.seat.seat.me.0 c.pin_of.new.seat.seat.me.0)
          (sym c.keep.ensures.shown.0) (record {
            least = free.0;
            sv = c.in-Ok.sv;
            is = c.keep.ensures.kept;
            shows = c.keep.ensures.shown.1;
            pins = e.pins;
          });
      err = tt;
    }

pub returns-in-Err-clause-local : goal.returns-in-Err-clause-local
returns-in-Err-clause-local g c = let self = c.args.self.now in let none = c.in-Err.ensures.none in
    still-local (table_of c.args.db.now.core) c.args.db.now.lanes self.lane self.handles self.pins self.seat c.pin_of.new.seat
    c.pin_of.ensures.same (goes-keeps c.args.family self.seat.seat.me.0 c.pin_of.new.seat.seat.me.0 none.goes)
    c.requires.local none.goes.hand
