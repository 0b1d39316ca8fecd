use Rattle.std.proofs.Common.{Option, ap, subst, sym}
use Rattle.std.specs.Option.{option_copied}
use Rattle.sv_borrows.specs.Parts.{body_of}
use Rattle.sv_gets.specs.Reading.{FindsIn}
use Rattle.sv_gets.proofs.Finding.{finds-active, finds-files, finds-frozen, pairs-frozen, stops-at}
use Rattle.sv_gets.proofs.Looking.{pairs_of}
use Rattle.sv_gets.proofs.ReadViews.{reads-on, still-may}
use Rattle.sv_model.specs.declared.writes.Op.{Op}
use Rattle.sv_objects.specs.Shown.{shown}
use Rattle.sv_objects.specs.declared.bodies.Body.{Body}
use Rattle.sv_reads.specs.Parts.{FindsBefore}
use Rattle.sv_slots.specs.Seats.{bodied}
use Rattle.sv_gets.proofs.reads.read.Goals as goal

pub read_files-requires-clause-sv : goal.read_files-requires-clause-sv
read_files-requires-clause-sv g c =
    let x = bodied body_of c.args.sv.now in
    still-may x.body.descriptor.family x 1 c.args.seat.now.seat.me.0 c.read_active.new.seat.seat.me.0 c.requires.sv
    c.read_active.ensures.reads

pub returns-in-Some-clause-found : goal.returns-in-Some-clause-found
returns-in-Some-clause-found g c =
    let v = c.args.seat.now.seat.me.0 in let w = c.read_active.new.seat.seat.me.0 in
    let x = bodied body_of c.args.sv.now in let f = x.body.descriptor.family in let m = c.in_ok-cut.field-0 in
    let met = c.in_ok-cut.ensures.met in let reads = c.read_active.ensures.reads in
    finds-active f x v c.requires.sv c.args.key.now m.found m.cut w reads met c.in-Some.value c.in-Some.is

pub returns-in-Some-find_frozen-clause-found : goal.returns-in-Some-find_frozen-clause-found
returns-in-Some-find_frozen-clause-found g c =
    let v = c.args.seat.now.seat.me.0 in let w = c.read_active.new.seat.seat.me.0 in
    let x = bodied body_of c.args.sv.now in let f = x.body.descriptor.family in let m = c.in_ok-cut.field-0 in
    let met = c.in_ok-cut.ensures.met in let reads = c.read_active.ensures.reads in
    let frozen = subst (λ (z : Body). FindsBefore z.descriptor.base (shown z.frozen) c.args.key.now m.cut
    (option_copied c.find_frozen.result)) c.deref.ensures c.find_frozen.ensures in
    let before = subst (λ l. FindsBefore x.body.descriptor.base l c.args.key.now m.cut (option_copied c.find_frozen.result))
    (sym (pairs-frozen (shown c.args.sv.now.body.value.frozen))) frozen in
    let op = c.in-Some-find_frozen.op.now in
    let is = ap (λ o. option_copied o) c.in-Some-find_frozen.is in
    subst (λ z. FindsIn f x c.args.key.now z m.cut v w) (sym c.in_ok-value.ensures)
    (finds-frozen f x v c.requires.sv c.args.key.now m.found m.cut w reads met c.in_default.is op
    (subst (λ (o : Option Op). FindsBefore x.body.descriptor.base (pairs_of x.body.frozen) c.args.key.now m.cut o) is before))

pub returns-in-Ok-clause-reads : goal.returns-in-Ok-clause-reads
returns-in-Ok-clause-reads g c =
    reads-on 1 0 c.args.seat.now.seat.me.0 c.read_active.new.seat.seat.me.0 c.read_files.new.seat.seat.me.0
    c.read_active.ensures.reads c.read_files.ensures.reads

pub returns-in-Ok-clause-found : goal.returns-in-Ok-clause-found
returns-in-Ok-clause-found g c =
    let v = c.args.seat.now.seat.me.0 in let w = c.read_active.new.seat.seat.me.0 in
    let x = bodied body_of c.args.sv.now in let f = x.body.descriptor.family in let m = c.in_ok-cut.field-0 in
    let met = c.in_ok-cut.ensures.met in let reads = c.read_active.ensures.reads in
    let frozen = subst (λ (z : Body). FindsBefore z.descriptor.base (shown z.frozen) c.args.key.now m.cut
    (option_copied c.find_frozen.result)) c.deref.ensures c.find_frozen.ensures in
    let before = subst (λ l. FindsBefore x.body.descriptor.base l c.args.key.now m.cut (option_copied c.find_frozen.result))
    (sym (pairs-frozen (shown c.args.sv.now.body.value.frozen))) frozen in
    let is = ap (λ o. option_copied o) c.in_default-find_frozen.is in
    let r = c.read_files in
    subst (λ z. FindsIn f x c.args.key.now z m.cut v r.new.seat.seat.me.0) (sym c.into_value.ensures)
    (finds-files f x v c.requires.sv c.args.key.now m.found m.cut w reads met c.in_default.is
    (subst (λ (o : Option Op). FindsBefore x.body.descriptor.base (pairs_of x.body.frozen) c.args.key.now m.cut o) is before)
    r.result r.new.seat.seat.me.0 r.ensures.reads r.ensures.files c.in-Ok.found c.in-Ok.is)

pub returns-in-Err-clause-reads : goal.returns-in-Err-clause-reads
returns-in-Err-clause-reads g c =
    reads-on 1 0 c.args.seat.now.seat.me.0 c.read_active.new.seat.seat.me.0 c.read_files.new.seat.seat.me.0
    c.read_active.ensures.reads c.read_files.ensures.reads

pub returns-in-Err-clause-stops : goal.returns-in-Err-clause-stops
returns-in-Err-clause-stops g c =
    let v = c.args.seat.now.seat.me.0 in let w = c.read_active.new.seat.seat.me.0 in
    let x = bodied body_of c.args.sv.now in let f = x.body.descriptor.family in let m = c.in_ok-cut.field-0 in
    let met = c.in_ok-cut.ensures.met in let reads = c.read_active.ensures.reads in
    let frozen = subst (λ (z : Body). FindsBefore z.descriptor.base (shown z.frozen) c.args.key.now m.cut
    (option_copied c.find_frozen.result)) c.deref.ensures c.find_frozen.ensures in
    let before = subst (λ l. FindsBefore x.body.descriptor.base l c.args.key.now m.cut (option_copied c.find_frozen.result))
    (sym (pairs-frozen (shown c.args.sv.now.body.value.frozen))) frozen in
    let is = ap (λ o. option_copied o) c.in_default-find_frozen.is in
    let r = c.read_files in
    stops-at f x v c.requires.sv c.args.key.now m.found m.cut w reads met c.in_default.is
    (subst (λ (o : Option Op). FindsBefore x.body.descriptor.base (pairs_of x.body.frozen) c.args.key.now m.cut o) is before)
    r.result r.new.seat.seat.me.0 r.ensures.reads r.ensures.files c.in-Err.refusal c.in-Err.is r.ensures.failed
