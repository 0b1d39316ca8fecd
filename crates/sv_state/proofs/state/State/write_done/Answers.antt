use Rattle.std.proofs.Common.{◌<◌, refl, sym, ap, ◌∙◌, subst}
use Rattle.sv_model.specs.declared.writes.Write.{Write}
use Rattle.sv_model.specs.declared.records.Descriptor.{Descriptor}
use Rattle.sv_model.specs.After.{After}
use Rattle.sv_model.specs.Books.{Books}
use Rattle.sv_model.specs.Steady.{Sound}
use Rattle.sv_state.specs.Follows.{Follows}
use Rattle.sv_state.specs.Seen.{StateSeen}
use Rattle.sv_state.specs.Views.{books_of}
use Rattle.sv_state.specs.Writing.{CanWrite}
use Rattle.sv_state.proofs.Calls.{follows}
use Rattle.sv_state.proofs.References.{body-of, current-ref}
use Rattle.sv_state.proofs.OtherCalls.{with_journal}
use Rattle.sv_state.proofs.Stays.{keeps-state}
use Rattle.sv_state.proofs.Switches.{write-law}
use Rattle.sv_state.proofs.state.State.write_done.Goals as goal

pub invariant_of-self : goal.invariant_of-self
invariant_of-self c =
    let i = c.self.inside in
    let a : Books = books_of i in
    let k = c.self.invariant.sound in
    let can : CanWrite (record { books = a; spare = i.journal.spare }) c.args.lane c.args.family = subst (λ (z : StateSeen). CanWrite z c.args.lane c.args.family) (sym c.self.view_is) c.requires in
    let ref = current-ref a i.held.items c.self.invariant.kept c.args.family can.serial can.it can.is_open.current in
    let d = ap (λ (z : Descriptor). z.active) (ap (λ z. z.descriptor) (c.body_at.ensures ref.0 ref.1) ∙ (body-of a can.serial ref.0.pack ref.0.body.value can.it can.is_open.current.has ref.2).descriptor_is) in
    let w = c.write_of.ensures in
    let law : Sound (record a { journal = c.push.new.self.writes }) × After a (record a { journal = c.push.new.self.writes }) =
    write-law a k c.args.family can.serial can.it can.is_open c.write_of.result c.push.new.self.writes (ap (λ (z : Write). z.family) w) (ap (λ (z : Write). z.mem) w ∙ d) (subst (λ (z : Write). z.lane < 32) (sym w) can.lane_is) can.few can.few_rows c.push.ensures.writes in
    let law2 : Sound (with_journal a c.push.new.self) × After a (with_journal a c.push.new.self) = subst (λ N. Sound (record a { journal = c.push.new.self.writes; snapshots = N }) × After a (record a { journal = c.push.new.self.writes; snapshots = N })) (sym c.push.ensures.snapshots) law in
    keeps-state a (with_journal a c.push.new.self) i.held.items c.self.invariant law2 refl

pub returns-clause-follows : goal.returns-clause-follows
returns-clause-follows c =
    let i = c.self.inside in
    let a : Books = books_of i in
    let k = c.self.invariant.sound in
    let can : CanWrite (record { books = a; spare = i.journal.spare }) c.args.lane c.args.family = subst (λ (z : StateSeen). CanWrite z c.args.lane c.args.family) (sym c.self.view_is) c.requires in
    let ref = current-ref a i.held.items c.self.invariant.kept c.args.family can.serial can.it can.is_open.current in
    let d = ap (λ (z : Descriptor). z.active) (ap (λ z. z.descriptor) (c.body_at.ensures ref.0 ref.1) ∙ (body-of a can.serial ref.0.pack ref.0.body.value can.it can.is_open.current.has ref.2).descriptor_is) in
    let w = c.write_of.ensures in
    let law : Sound (record a { journal = c.push.new.self.writes }) × After a (record a { journal = c.push.new.self.writes }) =
    write-law a k c.args.family can.serial can.it can.is_open c.write_of.result c.push.new.self.writes (ap (λ (z : Write). z.family) w) (ap (λ (z : Write). z.mem) w ∙ d) (subst (λ (z : Write). z.lane < 32) (sym w) can.lane_is) can.few can.few_rows c.push.ensures.writes in
    let law2 : Sound (with_journal a c.push.new.self) × After a (with_journal a c.push.new.self) = subst (λ N. Sound (record a { journal = c.push.new.self.writes; snapshots = N }) × After a (record a { journal = c.push.new.self.writes; snapshots = N })) (sym c.push.ensures.snapshots) law in
    subst (λ (z : StateSeen). Follows z.books (with_journal a c.push.new.self)) c.self.view_is (follows a (with_journal a c.push.new.self) law2)
