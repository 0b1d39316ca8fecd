use Rattle.std.proofs.Common.{Some, string_bytes, refl, sym, ap, ◌∙◌}
use Rattle.std.specs.FinMap as finite
use Rattle.sv_dir.proofs.Held.{held_after, one_put_more}
use Rattle.sv_dir.proofs.memory.MemDir.new.Goals as goal

pub loop-name-preserved-in_ok-insert : goal.loop-name-preserved-in_ok-insert
loop-name-preserved-in_ok-insert c =
    held_after (string_bytes c.in-Some.name) (string_bytes c.in-Some.name) refl c.loop-name.held c.insert.new.self (Some c.in-Some.bytes) c.in_ok-insert.ensures.updates
    ∙ ap (λ files. finite.insert files (string_bytes c.in-Some.name) c.in-Some.bytes.items) c.loop-name.invariant
    ∙ sym (one_put_more c.loop-name.yielded (c.in-Some.name, c.in-Some.bytes))

pub loop-name-preserved : goal.loop-name-preserved
loop-name-preserved c =
    held_after (string_bytes c.in-Some.name) (string_bytes c.in-Some.name) refl c.loop-name.held c.insert.new.self (Some c.in-Some.bytes) c.in_ok-insert.ensures.updates
    ∙ ap (λ files. finite.insert files (string_bytes c.in-Some.name) c.in-Some.bytes.items) c.loop-name.invariant
    ∙ sym (one_put_more c.loop-name.yielded (c.in-Some.name, c.in-Some.bytes))
