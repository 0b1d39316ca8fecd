-- Gets at a snapshot.
use Rattle.std.specs.Prelude.{◌≡◌, ◌≤◌, ℕ, true, List, Option, length}
use Rattle.sv_model.specs.declared.records.Snapshot.{Snapshot}
use Rattle.sv_model.specs.declared.records.SuperVersion.{SuperVersion}
use Rattle.sv_model.specs.declared.refusals.Refusal.{Refusal}
use Rattle.sv_model.specs.declared.refusals.Refusal.TheVariants as refusal
use Rattle.sv_model.specs.Books.{Books, end_of}
use Rattle.sv_model.specs.Journal.{look}
use Rattle.sv_model.specs.Snapshots.{cut_of}
use Rattle.sv_replies.specs.Known.{Known}
use Rattle.sv_replies.specs.Settings.{Setting}
use Rattle.sv_replies.specs.Unread.{IsFoundUnread}
use Rattle.sv_replies.specs.Moments.{IsIn}
use Rattle.sv_replies.specs.GetLaw.{ReadMet}
use Rattle.sv_replies.specs.SnapLaw.{MayUse, NoSuch}

-- the SuperVersion is of the family, and the cut is not after its end
pub record EndsFrom (books : Books) (family cut : ℕ) (s : SuperVersion) : Type 0 where
  pub family_is : s.descriptor.family ≡ family
  pub ends : cut ≤ end_of books.journal s

-- the cut is where the snapshot, whose place lies in the journal, reads the family
pub record CutsAt (books : Books) (family cut : ℕ) (x : Snapshot) : Type 0 where
  pub is : cut ≡ cut_of books.journal x.at family
  pub within : x.at ≤ length books.journal

-- A read at the snapshot's cut, through a SuperVersion no older than the lane was shown.
pub record GetsAt (s : Setting) (books : Books) (k : Known) (snapshot : ℕ) (key : List ℕ) (found : Option
    (List ℕ)) (cut serial family : ℕ) : Type 0 where
  pub may : MayUse s k snapshot
  pub newer : (k.families family).serial ≤ serial
  pub through : IsIn (EndsFrom books family cut) books.supers serial
  pub cut_is : IsIn (CutsAt books family cut) books.snapshots snapshot
  pub found_is : s.told ≡ true → look books.journal family cut key ≡ found
  pub unread : IsFoundUnread books family key found cut serial

-- what a refused read at a snapshot says of the books
abbrev pub GetsMet : Setting → Books → Known → ℕ → Refusal → ℕ → Type 0
GetsMet s books k snapshot refusal.NoSnapshot family = NoSuch s books k snapshot
GetsMet s books k snapshot e family = ReadMet s books e family
