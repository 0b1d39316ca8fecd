use Rattle.std.proofs.Common.{◌≡◌, ◌∷◌, ◌++◌, ℕ, [], List, Option, Some, length, ap, ◌∙◌}
use Rattle.std.specs.Prelude.{slice_get}
use Rattle.sv_state_bench.proofs.Standings.{cleaned-stands, last-get, rest-front}
use Rattle.sv_state_bench.proofs.bench.Bench.settle.Goals as goal

pub invariant_of-self-2 : goal.invariant_of-self-2
invariant_of-self-2 c =
    let i = c.self.inside in
    let W = i.waiting.items in
    let V = c.pop.new.self.items in
    let pack = c.in-Some-Some.pack in
    let is : W ≡ V ++ Some pack ∷ [] = c.in-Some-Some.ensures.items ∙ ap (λ (x : Option ℕ). V ++ x ∷ []) c.in-Some-Some.field-0-is in
    let at : slice_get W (length V) ≡ Some (Some pack) = ap (λ (l : List (Option ℕ)). slice_get l (length V)) is ∙ last-get V (Some pack) in
    let free = c.self.invariant.waiting_are.free (length V) pack at in
    cleaned-stands i.state.books c.cleanup.new.self.books i.actives.items i.outputs.items W c.self.invariant c.cleanup.ensures.follows.sound (length V) pack at
    free.serial free.it free.pack_is (c.cleanup.ensures.gone free).cleaned V (rest-front W V (Some pack) is)
