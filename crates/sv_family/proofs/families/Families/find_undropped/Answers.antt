use Rattle.std.proofs.Common.{ap, ◌∙◌, Some}
use Rattle.sv_family.proofs.SoughtFamilies.{dropped_due_next, dropped_not_due_next}
use Rattle.sv_family.proofs.families.Families.find_undropped.Goals as goal

pub returns-then-is_dropped-clause-refused : goal.returns-then-is_dropped-clause-refused
returns-then-is_dropped-clause-refused c =
    dropped_due_next c.args.self.now c.args.lane c.args.name.now c.in_ok-id.id c.in_ok-id.ensures.found _
    c.in_ok-id.ensures.refused (c.is_dropped.ensures ∙ ap Some c.if-is_dropped.true)

pub returns-clause-refused : goal.returns-clause-refused
returns-clause-refused c =
    dropped_not_due_next c.args.self.now c.args.lane c.args.name.now c.in_ok-id.id c.in_ok-id.ensures.found _
    c.in_ok-id.ensures.refused (c.in_ok-id.ensures.lawful.meant c.args.lane c.args.name.now)
    (c.is_dropped.ensures ∙ ap Some c.if-is_dropped.false)
