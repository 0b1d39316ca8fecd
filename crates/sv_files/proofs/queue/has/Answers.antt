use Rattle.std.proofs.Common.{◌↔◌, Bool, Ok, Err, Result, is_ok, IsTrue, ℕ, List, sym, subst, refl}
use Rattle.sv_model.specs.Lists.{In}
use Rattle.sv_files.proofs.AscendingNumbers.{Searches, search-rising, found-in, missed-in}
use Rattle.sv_files.proofs.queue.has.Goals as goal

answers : (xs : List ℕ) (x : ℕ) (r : Result ℕ ℕ) → Searches xs x r → IsTrue (is_ok r) ↔ In x xs
answers xs x (Ok i) at = (λ e. found-in xs x i at, λ there. refl)
answers xs x (Err i) at = (λ e. absurd (cc), λ there. absurd (missed-in xs x i at there))

pub returns : goal.returns
returns c =
    subst (λ (b : Bool). IsTrue b ↔ In c.args.number c.args.queue.now.items) (sym c.is_ok.ensures.value)
    (answers c.args.queue.now.items c.args.number c.binary_search.result (search-rising c.args.queue.now.items c.args.number c.binary_search.result c.requires c.binary_search.ensures.position))
