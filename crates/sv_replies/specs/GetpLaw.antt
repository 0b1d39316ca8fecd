-- Gets through a pin.
use Rattle.std.specs.Prelude.{◌≡◌, ◌≤◌, ◌⊎◌, ℕ, List, Option, length}
use Rattle.sv_model.specs.declared.records.SuperVersion.{SuperVersion}
use Rattle.sv_model.specs.Books.{Books, end_of}
use Rattle.sv_model.specs.Journal.{of_family}
use Rattle.sv_model.specs.Lists.{In}
use Rattle.sv_model.specs.Reads.{LooksAt}
use Rattle.sv_model.specs.Registers.{Has}
use Rattle.sv_replies.specs.Known.{Known, Pinned}
use Rattle.sv_replies.specs.Settings.{Setting}
use Rattle.sv_replies.specs.Unread.{IsFoundUnread}
use Rattle.sv_replies.specs.Moments.{IsIn}

-- the SuperVersion's active memtable is frozen since, and the cut is where it ends
pub record EndsAt (books : Books) (cut : ℕ) (s : SuperVersion) : Type 0 where
  pub end : cut ≡ end_of books.journal s
  pub frozen : Has (λ l. In s.descriptor.active l.members) books.lists

-- A read through the SuperVersion of the pin: of all that the lane had seen, or up to where the SuperVersion ends.
pub record GetsPinned (s : Setting) (books : Books) (k : Known) (key : List ℕ) (found : Option (List ℕ))
    (cut serial : ℕ) (pin : Pinned) : Type 0 where
  pub serial_is : serial ≡ pin.serial
  pub later : ((k.families pin.family).seen ≤ cut) ⊎ IsIn (EndsAt books cut) books.supers serial
  pub within : cut ≤ length (of_family pin.family books.journal)
  pub looks : LooksAt s.told books pin.family key found cut serial
  pub unread : IsFoundUnread books pin.family key found cut serial
