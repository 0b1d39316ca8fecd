use Rattle.sv_imm.proofs.Released.{released}
use Rattle.sv_imm.proofs.imm_lists.ImmLists.release.Goals as goal

pub returns : goal.returns
returns c = released c.self.inside.lists c.args.self.now c.release.new.self c.list.inside.0 c.args.list c.release.result.items c.self.view_is c.list.view_is c.release.ensures
