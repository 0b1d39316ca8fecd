-- What contracts see of the parts of a database.
use Rattle.std.specs.Prelude.{ℕ, map}
use Rattle.sv_model.specs.Cells.{Cell}
use Rattle.sv_objects.specs.Shown.{shown}
use Rattle.sv_objects.specs.declared.bodies.Body.{Body as Kept}
use Rattle.sv_rule.specs.Views.{Body, FrozenAt}

abbrev pub frozen_at : ℕ × Cell → FrozenAt
frozen_at x = record { cell = x.0; frozen = x.1 }

-- what the references of a SuperVersion share
abbrev pub body_of : Kept → Body
body_of b = record { descriptor = b.descriptor; cell = b.cell; frozen = map frozen_at (shown b.frozen); files = b.files }
