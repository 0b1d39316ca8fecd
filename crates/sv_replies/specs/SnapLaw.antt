-- Snapshots are taken and ended.
use Rattle.std.specs.Prelude.{◌≡◌, ◌≤◌, ℕ, true, false, length, take}
use Rattle.sv_model.specs.declared.records.Snapshot.{Snapshot}
use Rattle.sv_model.specs.declared.refusals.Refusal.{Refusal}
use Rattle.sv_model.specs.declared.refusals.Refusal.TheVariants as refusal
use Rattle.sv_model.specs.Books.{Books}
use Rattle.sv_model.specs.Journal.{by_lane}
use Rattle.sv_model.specs.Snapshots.{cut_of}
use Rattle.sv_replies.specs.Known.{Known}
use Rattle.sv_replies.specs.Settings.{Setting}
use Rattle.sv_replies.specs.Moments.{IsIn, WereAllSnapped, WereManySnapshots}

abbrev pub StandsAt : ℕ → Snapshot → Type 0
StandsAt at x = x.at ≡ at

abbrev pub IsOver : Snapshot → Type 0
IsOver x = x.live ≡ false

-- The snapshot is new and has its place, before which stands all that the lane had seen, and of the lane's own writes
-- just those that were accepted.
pub record Snaps (s : Setting) (books : Books) (k : Known) (snapshot at : ℕ) : Type 0 where
  pub new : k.snapshots snapshot ≡ false
  pub stands : IsIn (StandsAt at) books.snapshots snapshot
  pub within : at ≤ length books.journal
  pub covers : (family : ℕ) → (k.families family).seen ≤ cut_of books.journal at family
  pub own : length (by_lane s.lane (take at books.journal)) ≡ k.accepted

abbrev pub SnapMet : Books → Refusal → Type 0
SnapMet books refusal.RegisterFull = WereAllSnapped books
SnapMet books refusal.TooManySnapshots = WereManySnapshots books
SnapMet books e = ⊥

-- the lane did not end the snapshot, and where no other lane is it took it
pub record MayUse (s : Setting) (k : Known) (snapshot : ℕ) : Type 0 where
  pub stays : k.ended snapshot ≡ false
  pub alone : s.lanes ≡ 1 → k.snapshots snapshot ≡ true

-- the snapshot is over
pub record Unsnaps (s : Setting) (books : Books) (k : Known) (snapshot : ℕ) : Type 0 where
  pub may : MayUse s k snapshot
  pub over : IsIn IsOver books.snapshots snapshot

-- Where the snapshot was Live once, to the lane's knowledge, it is over; where no other lane is, by the lane itself.
pub record NoSuch (s : Setting) (books : Books) (k : Known) (snapshot : ℕ) : Type 0 where
  pub over : k.snapshots snapshot ≡ true → IsIn IsOver books.snapshots snapshot
  pub alone : s.lanes ≡ 1 → k.snapshots snapshot ≡ true → k.ended snapshot ≡ true

abbrev pub UnsnapMet : Setting → Books → Known → ℕ → Refusal → Type 0
UnsnapMet s books k snapshot refusal.NoSnapshot = NoSuch s books k snapshot
UnsnapMet s books k snapshot e = ⊥
