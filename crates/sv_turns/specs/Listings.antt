-- What a listing tells: of a directory, as a scan is given it; and of a family's files.
use Rattle.std.specs.Prelude.{List, ℕ, ◌<◌, ◌≡◌, ◌≤◌, ◌⊎◌}
use Rattle.sv_model.specs.Books.{FileRegister}
use Rattle.sv_model.specs.Lists.{Every, In}
use Rattle.sv_model.specs.Numbers.{having, is_grabbed, least_captured, registered}
use Rattle.sv_model.specs.Summaries.{is_obsolete}

-- What a scan found is Grabbed, and was Obsolete or not registered. A listed number below the bound and the next one that
-- was not found is registered, and is not Obsolete: some lane writes it, a Version names it, or it is being removed.
pub record TellsScan (a b : FileRegister) (listed found : List ℕ) : Type 0 where
  pub grabbed : Every (λ n. 1 ≤ having is_grabbed n b.numbers) found
  pub was : Every (λ n. (1 ≤ having is_obsolete n a.numbers) ⊎ (registered n a.numbers ≡ 0)) found
  pub left : Every (λ n. n < least_captured a.captured → n < a.next
      → In n found ⊎ ((1 ≤ registered n b.numbers) × (having is_obsolete n b.numbers ≡ 0))) listed
