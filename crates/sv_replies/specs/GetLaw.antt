-- Gets.
use Rattle.std.specs.Prelude.{◌≡◌, ◌≤◌, ℕ, false, List, Option, length}
use Rattle.sv_model.specs.declared.refusals.Refusal.{Refusal}
use Rattle.sv_model.specs.declared.refusals.Refusal.TheVariants as refusal
use Rattle.sv_model.specs.Books.{Books}
use Rattle.sv_model.specs.Journal.{of_family}
use Rattle.sv_model.specs.Reads.{LooksAt}
use Rattle.sv_model.specs.Moments.{WasCapturedFor}
use Rattle.sv_replies.specs.Known.{Known}
use Rattle.sv_replies.specs.Settings.{Setting}
use Rattle.sv_replies.specs.Unread.{IsFoundUnread}

-- a read of all that the lane had seen, through a SuperVersion no older than it was shown
pub record Gets (s : Setting) (books : Books) (k : Known) (key : List ℕ) (found : Option (List ℕ))
    (cut serial family : ℕ) : Type 0 where
  pub later : (k.families family).seen ≤ cut
  pub newer : (k.families family).serial ≤ serial
  pub within : cut ≤ length (of_family family books.journal)
  pub looks : LooksAt s.told books family key found cut serial
  pub unread : IsFoundUnread books family key found cut serial

-- What a refused read says of the books. A file is never bad where the directory tells its files.
abbrev pub ReadMet : Setting → Books → Refusal → ℕ → Type 0
ReadMet s books (refusal.DirFault number) family = WasCapturedFor books family number
ReadMet s books (refusal.BadFile number place) family = (s.told ≡ false) × WasCapturedFor books family number
ReadMet s books e family = ⊥
