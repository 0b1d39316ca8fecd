use Rattle.std.proofs.Common.{None, sym, ◌∙◌}
use Rattle.sv_model.specs.Files.{file_name as name_of}
use Rattle.sv_dir.proofs.Held.{held_after, removal_removed, removal_absent}
use Rattle.sv_dir.proofs.memory.MemDir.take.Goals as goal

pub returns-then-was_there-clause-removal : goal.returns-then-was_there-clause-removal
returns-then-was_there-clause-removal c =
    removal_removed c.as_str.result.now (name_of c.args.number) (c.as_str.ensures.value ∙ c.file_name-name.ensures.name) c.args.self.now.files
    c.remove.result (sym c.remove.ensures.value) (sym c.is_some-was_there.ensures ∙ c.if-was_there.true)

pub returns-then-was_there-clause-removed : goal.returns-then-was_there-clause-removed
returns-then-was_there-clause-removed c =
    held_after c.as_str.result.now (name_of c.args.number) (c.as_str.ensures.value ∙ c.file_name-name.ensures.name) c.args.self.now.files c.remove.new.self None c.remove.ensures.updates

pub returns-else-was_there-clause-removal : goal.returns-else-was_there-clause-removal
returns-else-was_there-clause-removal c =
    removal_absent c.as_str.result.now (name_of c.args.number) (c.as_str.ensures.value ∙ c.file_name-name.ensures.name) c.args.self.now.files
    c.remove.result (sym c.remove.ensures.value) (sym c.is_some-was_there.ensures ∙ c.if-was_there.false)

pub returns-else-was_there-clause-removed : goal.returns-else-was_there-clause-removed
returns-else-was_there-clause-removed c =
    held_after c.as_str.result.now (name_of c.args.number) (c.as_str.ensures.value ∙ c.file_name-name.ensures.name) c.args.self.now.files c.remove.new.self None c.remove.ensures.updates
