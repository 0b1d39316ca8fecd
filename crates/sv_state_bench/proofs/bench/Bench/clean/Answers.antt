use Rattle.std.proofs.Common.{◌≡◌, Some, length, refl, ap, ◌∙◌, arith}
use Rattle.std.proofs.lemmas.Option.{slice_get_read}
use Rattle.std.specs.Prelude.{slice_get}
use Rattle.sv_state_bench.proofs.Standings.{cleaned-stands, rest-set}
use Rattle.sv_state_bench.proofs.bench.Bench.clean.Goals as goal

pub invariant_of-self : goal.invariant_of-self
invariant_of-self c =
    let i = c.self.inside in
    let a = i.state.books in
    let W = i.waiting.items in
    let at : slice_get W c.args.place ≡ Some (Some c.in_ok-pack.pack) =
    slice_get_read W (length W) c.args.place c.index.result.now refl (omega (arith, c.if-place-len.false, c.len.ensures, i.waiting.ok.0)) c.index.ensures ∙ ap Some c.in_ok-pack.was in
    let free = c.self.invariant.waiting_are.free c.args.place c.in_ok-pack.pack at in
    cleaned-stands a c.cleanup-cells.new.self.books i.actives.items i.outputs.items i.waiting.items c.self.invariant c.cleanup-cells.ensures.follows.sound c.args.place c.in_ok-pack.pack at
    free.serial free.it free.pack_is (c.cleanup-cells.ensures.gone free).cleaned _ (rest-set i.waiting.items c.args.place _ at)
