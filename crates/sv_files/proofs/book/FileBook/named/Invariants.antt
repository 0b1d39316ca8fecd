use Rattle.std.proofs.Common.{◌≡◌, map, take}
use Rattle.sv_files.specs.Calls.{live_file}
use Rattle.sv_files.proofs.book.FileBook.named.Given as goal

-- the files so far are registered
abbrev pub invariant-loop-family : goal.invariant-loop-family
invariant-loop-family l = l.numbers ≡ map live_file (take l.family-index l.files)
