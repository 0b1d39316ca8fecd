use Rattle.std.proofs.Common.{◌≡◌, Some, ap, ◌∙◌, rules}
use Rattle.sv_model.specs.Files.{file_name, file_of, with_file}
use Rattle.sv_dir.specs.Fails.{half_of}
use Rattle.sv_dir.specs.MemDir.{mem_files}
use Rattle.sv_dir.proofs.Held.{with_file-same}
use Rattle.sv_dir.proofs.memory.MemDirDir.put.Goals as goal

pub returns-in-Some-Before-clause-failed : goal.returns-in-Some-Before-clause-failed
returns-in-Some-Before-clause-failed c = λ _. (
  file_of c.args.number (mem_files c.args.self.now),
  ap (λ files. Some files) (c.fail.ensures.files ∙ c.next_call.ensures.files ∙ with_file-same (file_name c.args.number) (mem_files c.args.self.now)),
)

pub returns-in_ok-store-in-Some-Half-clause-failed : goal.returns-in_ok-store-in-Some-Half-clause-failed
returns-in_ok-store-in-Some-Half-clause-failed c = λ _.
    let half : mem_files c.fail-in-Some-Half.new.self ≡ with_file (file_name c.args.number) (Some (half_of c.args.bytes.now)) (mem_files c.args.self.now) = search rules in
    (Some (half_of c.args.bytes.now), ap (λ files. Some files) half)

pub returns-in_ok-store-in-Some-After-clause-failed : goal.returns-in_ok-store-in-Some-After-clause-failed
returns-in_ok-store-in-Some-After-clause-failed c = λ _.
    let whole : mem_files c.fail-in-Some-After.new.self ≡ with_file (file_name c.args.number) (Some c.args.bytes.now) (mem_files c.args.self.now) = search rules in
    (Some c.args.bytes.now, ap (λ files. Some files) whole)
