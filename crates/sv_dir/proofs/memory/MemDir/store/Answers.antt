use Rattle.std.proofs.Common.{◌≡◌, Some, string_bytes, ap, ◌∙◌, rules}
use Rattle.sv_model.specs.Files.{file_name as name_of, with_file}
use Rattle.sv_dir.specs.MemDir.{held}
use Rattle.sv_dir.proofs.Held.{held_after}
use Rattle.sv_dir.proofs.memory.MemDir.store.Goals as goal

pub returns-clause-stored : goal.returns-clause-stored
returns-clause-stored c =
    let key : string_bytes c.in_ok-name.name ≡ c.as_str.result.now = search rules in
    let same : c.in_ok-bytes.bytes.items ≡ c.args.bytes.now = search rules in
    held_after (string_bytes c.in_ok-name.name) (name_of c.args.number) (key ∙ c.as_str.ensures.value ∙ c.file_name.ensures.name) c.args.self.now.files c.insert.new.self (Some c.in_ok-bytes.bytes) c.in_ok-insert.ensures.updates
    ∙ ap (λ bytes. with_file (name_of c.args.number) (Some bytes) (held c.args.self.now.files)) same
