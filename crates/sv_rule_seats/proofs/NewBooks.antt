-- The books of a database that is new are those of an opening.
use Rattle.std.proofs.Common.{Some, [], arith, map, refl, replicate, suc, true, zero, ℕ, ◌<◌, ◌≡◌}
use Rattle.sv_model.specs.Lawful.{Lawful}
use Rattle.sv_model.specs.Lists.{bit, at}
use Rattle.sv_model.specs.Openings.{IsOpening, opening_books}
use Rattle.sv_model.specs.Registers.{entry}
use Rattle.sv_rule.specs.Begins.{FirstBooks}
use Rattle.sv_model.specs.Tasks.{handle}
use Rattle.sv_rule.specs.Views.{Disk}
use Rattle.sv_rule.proofs.StepLaws.{next}

-- ---- the books of a database that is new

at-true : (n lane : ℕ) → lane < n → at 0 (map bit (replicate n true)) lane ≡ 1
at-true zero lane l = absurd (omega arith)
at-true (suc n) zero l = refl
at-true (suc n) (suc lane) l = at-true n lane (omega arith)

no_entry : {A : Type 0} (i : ℕ) (x : A) → entry [] i ≡ Some x → ⊥
no_entry zero x e = cc
no_entry (suc i) x e = cc

pub new-books : (next : ℕ) (d : Disk) → IsOpening (opening_books next) → Lawful (opening_books next)
    → FirstBooks (opening_books next) d
new-books next d o lawful = record {
  opening = o;
  lawful = lawful;
  default = λ lane few. at-true 32 lane few;
  others = λ lane f pos. none_else lane f pos;
  numbers = λ i x e. absurd (no_entry i x e);
  files = λ files e. record {
    live = λ n h. absurd (no_entry h.0 h.1 h.2);
    gone = λ i x e _. absurd (no_entry i x e);
    others = λ name h. refl;
  };
}
  where
    none_else : (lane f : ℕ) → 0 < f → handle (opening_books next).families lane f ≡ 0
    none_else lane zero pos = absurd (omega arith)
    none_else lane (suc f) pos = refl
