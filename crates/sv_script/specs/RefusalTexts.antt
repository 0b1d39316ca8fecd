-- The number, name and fields of each refusal, as they are printed.
use Rattle.std.specs.Prelude.{ℕ, List, [], ◌∷◌, ◌++◌, codes}
use Rattle.sv_model.specs.declared.refusals.Refusal.{Refusal}
use Rattle.sv_model.specs.declared.refusals.Refusal.TheVariants as refusal
use Rattle.sv_script.specs.Texts.{listed}

-- what stands before the fields
unfoldable pub refusal_head : Refusal → List ℕ
refusal_head (refusal.KeyLength length) = codes "refused 1 KeyLength"
refusal_head (refusal.ValueLength length) = codes "refused 2 ValueLength"
refusal_head refusal.TooManyLive = codes "refused 3 TooManyLive"
refusal_head refusal.RegisterFull = codes "refused 4 RegisterFull"
refusal_head refusal.NameTaken = codes "refused 5 NameTaken"
refusal_head refusal.TooManyFamilies = codes "refused 6 TooManyFamilies"
refusal_head refusal.NoFamily = codes "refused 7 NoFamily"
refusal_head refusal.AlreadyOpen = codes "refused 8 AlreadyOpen"
refusal_head refusal.NotOpen = codes "refused 9 NotOpen"
refusal_head refusal.IsDefault = codes "refused 10 IsDefault"
refusal_head refusal.Dropped = codes "refused 11 Dropped"
refusal_head (refusal.BadOption value least greatest) = codes "refused 12 BadOption"
refusal_head refusal.NoHold = codes "refused 13 NoHold"
refusal_head (refusal.Disabled count) = codes "refused 14 Disabled"
refusal_head refusal.Stalled = codes "refused 15 Stalled"
refusal_head refusal.NothingToFlush = codes "refused 16 NothingToFlush"
refusal_head refusal.JournalFull = codes "refused 17 JournalFull"
refusal_head refusal.TooManyMemtables = codes "refused 18 TooManyMemtables"
refusal_head refusal.TooManyPins = codes "refused 19 TooManyPins"
refusal_head refusal.NoPin = codes "refused 20 NoPin"
refusal_head (refusal.DirFault number) = codes "refused 21 DirFault"
refusal_head (refusal.BadFile number place) = codes "refused 22 BadFile"
refusal_head (refusal.Busy number) = codes "refused 23 Busy"
refusal_head refusal.NothingToCompact = codes "refused 24 NothingToCompact"
refusal_head refusal.TooManyHolds = codes "refused 25 TooManyHolds"
refusal_head refusal.TooManySnapshots = codes "refused 26 TooManySnapshots"
refusal_head refusal.NoSnapshot = codes "refused 27 NoSnapshot"
refusal_head refusal.NoIterator = codes "refused 28 NoIterator"
refusal_head (refusal.NoHandle index) = codes "refused 29 NoHandle"
refusal_head refusal.OutOfMemory = codes "no memory"

-- the fields, in the order in which they are printed
unfoldable pub refusal_fields : Refusal → List ℕ
refusal_fields (refusal.KeyLength length) = length ∷ []
refusal_fields (refusal.ValueLength length) = length ∷ []
refusal_fields (refusal.BadOption value least greatest) = value ∷ least ∷ greatest ∷ []
refusal_fields (refusal.Disabled count) = count ∷ []
refusal_fields (refusal.DirFault number) = number ∷ []
refusal_fields (refusal.BadFile number place) = number ∷ place ∷ []
refusal_fields (refusal.Busy number) = number ∷ []
refusal_fields (refusal.NoHandle index) = index ∷ []
refusal_fields other = []

-- A refusal prints its number, its name and its fields; out of memory has neither.
unfoldable pub refusal_text : Refusal → List ℕ
refusal_text refusal = refusal_head refusal ++ listed (refusal_fields refusal)
