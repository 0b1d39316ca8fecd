-- The listing has the name of each file.
use Rattle.std.proofs.Common.{List, String, Global, map, subst}
use Rattle.std.specs.Prelude.{string_bytes}
use Rattle.sv_run.specs.Openings.{IsFirstOf}
use Rattle.sv_run.proofs.Numbering.{listed-first}
use Rattle.sv_run.proofs.opening.first_number.Goals as goal

pub returns-clause-first : goal.returns-clause-first
returns-clause-first g c =
    listed-first c.number_above.result c.in_ok-names.names.items (g.D.Dir.files c.args.dir.now)
    (subst (λ (z : List (String Global)). IsFirstOf c.number_above.result (map string_bytes z)) c.as_slice.ensures.value c.number_above.ensures.first)
    c.in_ok-names.ensures.names
