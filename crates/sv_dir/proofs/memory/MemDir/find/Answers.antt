use Rattle.std.proofs.Common.{◌≡◌, sym, ◌∙◌, rules}
use Rattle.sv_model.specs.Files.{file_name as name_of}
use Rattle.sv_dir.proofs.Held.{finds_bytes, finds_none}
use Rattle.sv_dir.proofs.memory.MemDir.find.Goals as goal

pub returns-in_ok-to_vec-in-Some : goal.returns-in_ok-to_vec-in-Some
returns-in_ok-to_vec-in-Some c =
    let same : c.in_ok-to_vec-in-Some.field-0.items ≡ c.in-Some.bytes.now.items = search rules in
    finds_bytes c.as_str.result.now (name_of c.args.number) (c.as_str.ensures.value ∙ c.file_name-name.ensures.name) c.args.self.now.files
    c.in-Some.bytes.now c.in_ok-to_vec-in-Some.field-0 (sym c.in-Some.ensures.value) same

pub returns-in-None : goal.returns-in-None
returns-in-None c =
    finds_none c.as_str.result.now (name_of c.args.number) (c.as_str.ensures.value ∙ c.file_name-name.ensures.name) c.args.self.now.files (sym c.in-None.ensures.value)
