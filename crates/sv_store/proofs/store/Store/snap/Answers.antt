use Rattle.std.proofs.Common.{◌≡◌, ◌+◌, ℕ, length}
use Rattle.sv_store.proofs.FrameLaws.{snapped-rests}
use Rattle.sv_store.proofs.store.Store.snap.Goals as goal

pub invariant_of-self : goal.invariant_of-self
invariant_of-self c =
    let k = c.snap in
    let a = c.self.inside.state.books in
    snapped-rests c.self.inside.state k.new.self c.self.inside.cells c.self.invariant k.ensures.follows.sound
    (λ (made : ℕ × ℕ). made.0 ≡ length a.snapshots + 1) (λ (made : ℕ × ℕ). made.1 ≡ length a.journal) k.result k.ensures.made k.ensures.kept
