-- Families are dropped.
use Rattle.std.specs.Prelude.{ℕ}
use Rattle.sv_model.specs.declared.refusals.Refusal.{Refusal}
use Rattle.sv_model.specs.declared.refusals.Refusal.TheVariants as refusal
use Rattle.sv_model.specs.Books.{Books}
use Rattle.sv_replies.specs.Moments.{WasDropped}

-- the family is dropped
abbrev pub Drops : Books → ℕ → Type 0
Drops books family = WasDropped books family

-- what a refused drop says of the books: another lane dropped the family
abbrev pub DropMet : Books → Refusal → ℕ → Type 0
DropMet books refusal.Dropped family = WasDropped books family
DropMet books e family = ⊥
