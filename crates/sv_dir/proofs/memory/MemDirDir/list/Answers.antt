use Rattle.std.proofs.Common.{map, string_bytes, subst}
use Rattle.sv_dir.specs.Files.{ListsEach}
use Rattle.sv_dir.proofs.Held.{lists_each, in_order}
use Rattle.sv_dir.proofs.memory.MemDirDir.list.Goals as goal

pub returns-clause-names : goal.returns-clause-names
returns-clause-names c =
    subst (ListsEach (map string_bytes c.in_ok-names_of.field-0.items)) c.next_call.ensures.files
    (lists_each c.next_call.new.self.files (map string_bytes c.in_ok-names_of.field-0.items) c.in_ok-names_of.ensures.names c.in_ok-names_of.ensures.order)

pub returns-clause-order : goal.returns-clause-order
returns-clause-order c =
    in_order c.next_call.new.self.files (map string_bytes c.in_ok-names_of.field-0.items) c.in_ok-names_of.ensures.names c.in_ok-names_of.ensures.order
