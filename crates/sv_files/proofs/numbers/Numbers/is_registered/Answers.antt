use Rattle.std.proofs.Common.{◌<◌, ◌↔◌, Bool, IsTrue, List, sym, subst}
use Rattle.sv_model.specs.Numbers.{registered}
use Rattle.sv_model.specs.declared.records.RegisteredFile.{RegisteredFile}
use Rattle.sv_files.proofs.KeptLaws.{is_registered}
use Rattle.sv_files.proofs.numbers.Numbers.is_registered.Goals as goal

pub returns : goal.returns
returns c =
    subst (λ (l : List RegisteredFile). IsTrue c.contains_key.result ↔ (0 < registered c.args.number l)) c.self.view_is
    (subst (λ (b : Bool). IsTrue b ↔ (0 < registered c.args.number c.self.inside.files.items)) (sym c.contains_key.ensures)
    (is_registered c.self.inside.places c.self.inside.files.items c.args.number c.self.invariant.positions))
