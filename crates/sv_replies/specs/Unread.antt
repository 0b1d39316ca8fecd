-- What a read finds in memtables, and so also where the directory does not tell its files.
use Rattle.std.specs.Prelude.{◌≡◌, ℕ, List, [], Option, Some, take, drop}
use Rattle.sv_model.specs.declared.writes.Op.{Op}
use Rattle.sv_model.specs.declared.records.SuperVersion.{SuperVersion}
use Rattle.sv_model.specs.declared.records.Version.{Version}
use Rattle.sv_model.specs.Books.{Books}
use Rattle.sv_model.specs.Journal.{look, newest_op, of_family, rows_of, value_of}
use Rattle.sv_model.specs.Ranges.{reach_of}
use Rattle.sv_model.specs.Registers.{entry}
use Rattle.sv_replies.specs.Moments.{IsIn}

-- what the newest of the first `cut` writes of a key does, where it stands in no file of the SuperVersion
abbrev pub newest_unread : Books → ℕ → List ℕ → ℕ → Version → Option Op
newest_unread books family key cut version =
    newest_op key (rows_of (drop (reach_of version.files) (take cut (of_family family books.journal))))

-- A write after those that the files of the SuperVersion cover decides; where it has no file, the first `cut`
-- writes do.
pub record FindsUnread (books : Books) (family : ℕ) (key : List ℕ) (found : Option (List ℕ)) (cut : ℕ)
    (s : SuperVersion) : Type 0 where
  pub version : Version
  pub at : entry books.versions s.descriptor.version ≡ Some version
  pub above : (o : Op) → newest_unread books family key cut version ≡ Some o → value_of o ≡ found
  pub alone : version.files ≡ [] → look books.journal family cut key ≡ found

abbrev pub IsFoundUnread : Books → ℕ → List ℕ → Option (List ℕ) → ℕ → ℕ → Type 0
IsFoundUnread books family key found cut serial = IsIn (FindsUnread books family key found cut) books.supers serial
