use Rattle.std.proofs.Common.{ℕ, refl, sym, subst}
use Rattle.sv_store.specs.Reading.{Finds}
use Rattle.sv_store.proofs.store.Store.read_at.Goals as goal

pub returns-clause-found : goal.returns-clause-found
returns-clause-found g c =
    let at = c.requires.current in (
      refl,
      subst (λ (n : ℕ). Finds c.args.self.now.books (g.D.Dir.files c.args.dir.now) c.args.family c.args.key.now c.args.cut c.in_ok-value.value n) (sym (c.serial-sv.ensures at))
          (c.in_ok-value.ensures.found at),
    )
