-- Families are made.
use Rattle.std.specs.Prelude.{◌≡◌, ◌<◌, ℕ, List, None, IsSome}
use Rattle.sv_model.specs.declared.refusals.Refusal.{Refusal}
use Rattle.sv_model.specs.declared.refusals.Refusal.TheVariants as refusal
use Rattle.sv_model.specs.Books.{Books}
use Rattle.sv_model.specs.Moments.{WereManyMemtables, WereManyLive, WereAllMade}
use Rattle.sv_replies.specs.Known.{Known}
use Rattle.sv_replies.specs.Moments.{IsNamed, IsTaken, WereManyFamilies}

-- The family has the name, of which the lane had no handle, and its id is above each that the lane made.
pub record Creates (books : Books) (k : Known) (name : List ℕ) (id : ℕ) : Type 0 where
  pub free : k.handles name ≡ None
  pub newer : k.created < id
  pub named : IsNamed books id name

-- the lane had no handle of the name, and the books were so
pub record MetWithout (k : Known) (name : List ℕ) (met : Type 0) : Type 0 where
  pub free : k.handles name ≡ None
  pub was : met

-- what a refused creation says: that the name is taken comes first, then that the lane has a handle of it
abbrev pub CreateMet : Books → Known → List ℕ → Refusal → Type 0
CreateMet books k name refusal.NameTaken = IsTaken books name
CreateMet books k name refusal.AlreadyOpen = IsSome (k.handles name)
CreateMet books k name refusal.TooManyFamilies = MetWithout k name (WereManyFamilies books)
CreateMet books k name refusal.TooManyMemtables = MetWithout k name (WereManyMemtables books)
CreateMet books k name refusal.RegisterFull = MetWithout k name (WereAllMade books)
CreateMet books k name refusal.TooManyLive = MetWithout k name (WereManyLive books)
CreateMet books k name e = ⊥
