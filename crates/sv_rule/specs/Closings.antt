-- What the last seat finds at the end, when no lane has anything in hand.
use Rattle.std.specs.Prelude.{◌≡◌, ◌<◌, ◌≤◌, ◌+◌, ◌⊎◌, ℕ}
use Rattle.sv_model.specs.Tasks.{handle}
use Rattle.sv_model.specs.Supers.{LiveAt, current_of, pack}
use Rattle.sv_model.specs.Books.{Books}
use Rattle.sv_model.specs.HeldFiles.{FilesHold}
use Rattle.sv_model.specs.Lists.{Every, at}
use Rattle.sv_model.specs.Numbers.{having, is_grabbed, is_pending}
use Rattle.sv_model.specs.Summaries.{is_gone}
use Rattle.sv_rule.specs.Held.{Told}
use Rattle.sv_rule.specs.InHand.{Accounts}
use Rattle.sv_rule.specs.Tasks.{faults, removals}
use Rattle.sv_rule.specs.Views.{Disk, LaneView}

-- The books b and the directory d, found by the last seat, whose view is v.
pub record IsEnd (b : Books) (d : Disk) (v : LaneView) : Type 0 where
  -- the books fit what the lane knows, and what each lane knew that was joined into it
  pub own : Accounts b v.known
  pub joined : Every (λ o. Accounts b o.known) v.joined
  -- nothing but a current is held: so each SuperVersion that is not Gone is a current
  pub live : (t k : ℕ) → k < 256 → LiveAt b.supers t k → (f : ℕ) × (f < 16) × (current_of b f ≡ pack t k)
  -- no output, no job, no hold, and no handle but those of `default`
  pub pending : (n : ℕ) → having is_pending n b.files.numbers ≡ 0
  pub grabbed : (n : ℕ) → having is_grabbed n b.files.numbers ≡ 0
  pub jobs : b.files.jobs ≡ 0
  pub holds : (lane : ℕ) → at 0 b.files.holds lane ≡ 0
  pub handles : (lane f : ℕ) → 0 < f → handle b.families lane f ≡ 0
  -- what became Gone since the opening was made so by these lanes, once
  pub removed : (n : ℕ) → removals n v + having is_gone n v.known.start.books.files.numbers ≡ having is_gone n
      b.files.numbers
  -- where the directory tells its files, they are what the books say; its count rose by what the lanes met
  pub files : Told (FilesHold b) v.known.start.disk.files d.files
  pub faults : (v.known.start.disk.faults + faults v ≤ d.faults) ⊎ (18446744073709551615 ≤ d.faults)
