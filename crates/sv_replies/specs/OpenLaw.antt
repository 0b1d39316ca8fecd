-- Families are opened.
use Rattle.std.specs.Prelude.{ℕ, List}
use Rattle.sv_model.specs.declared.refusals.Refusal.{Refusal}
use Rattle.sv_model.specs.declared.refusals.Refusal.TheVariants as refusal
use Rattle.sv_model.specs.Books.{Books}
use Rattle.sv_replies.specs.Known.{Known}
use Rattle.sv_replies.specs.Moments.{IsNamed, NamedAreDropped}

-- the family has the name
abbrev pub Opens : Books → List ℕ → ℕ → Type 0
Opens books name id = IsNamed books id name

-- what a refused opening says of the books: no family stands that has the name
abbrev pub OpenMet : Books → Known → List ℕ → Refusal → Type 0
OpenMet books k name refusal.NoFamily = NamedAreDropped books k name
OpenMet books k name e = ⊥
