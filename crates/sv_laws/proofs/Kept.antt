-- Each change keeps the books sound, and the books after it come after.
use Rattle.sv_model.specs.Books.{Books}
use Rattle.sv_model.specs.After.{After}
use Rattle.sv_model.specs.Steady.{Sound}
use Rattle.sv_laws.specs.Changes.{Changes, written, option_set, switched, flush_begun, merge_planned, flushed, compacted, given_up, cleaned, created, opened, dropped, released, retired, forgotten, current_ended, grabbed, stray, held, snapped, unsnapped}
use Rattle.sv_laws.proofs.Written as of_write
use Rattle.sv_laws.proofs.OptionSet as of_option
use Rattle.sv_laws.proofs.Switched as of_switch
use Rattle.sv_laws.proofs.Captured as of_capture
use Rattle.sv_laws.proofs.GivenUp as of_given_up
use Rattle.sv_laws.proofs.Flushed as of_flush
use Rattle.sv_laws.proofs.Compacted as of_compaction
use Rattle.sv_laws.proofs.Created as of_family
use Rattle.sv_laws.proofs.Cleaned as of_cleanup
use Rattle.sv_laws.proofs.Handles as of_handles
use Rattle.sv_laws.proofs.Purged as of_numbers
use Rattle.sv_laws.proofs.Snapped as of_snapshots

pub sound-kept : (a b : Books) → Sound a → Changes a b → Sound b × After a b
sound-kept a b k (written f w h) = of_write.written a b k f w h
sound-kept a b k (option_set f o h) = of_option.option-set a b k f o h
sound-kept a b k (switched f h) = of_switch.switched a b k f h
sound-kept a b k (flush_begun f file h) = of_capture.flush-begun a b k f file h
sound-kept a b k (merge_planned f file h) = of_capture.merge-planned a b k f file h
sound-kept a b k (flushed f file h) = of_flush.flushed a b k f file h
sound-kept a b k (compacted f file h) = of_compaction.compacted a b k f file h
sound-kept a b k (given_up f n h) = of_given_up.given-up a b k f n h
sound-kept a b k (cleaned s x h) = of_cleanup.cleaned a b k s x h
sound-kept a b k (created r h) = of_family.created a b k r h
sound-kept a b k (opened f lane h) = of_handles.opened a b k f lane h
sound-kept a b k (dropped f lane h) = of_handles.dropped a b k f lane h
sound-kept a b k (released f lane h) = of_handles.let-go a b k f lane h
sound-kept a b k (retired f lane h) = of_handles.retired a b k f lane h
sound-kept a b k (forgotten f h) = of_handles.forgotten a b k f h
sound-kept a b k (current_ended f h) = of_handles.ended a b k f h
sound-kept a b k (grabbed h) = of_numbers.grabbed-changed a b k h
sound-kept a b k (stray n h) = of_numbers.strayed a b k n h
sound-kept a b k (held h) = of_numbers.holds-changed a b k h
sound-kept a b k (snapped h) = of_snapshots.snapped a b k h
sound-kept a b k (unsnapped n x h) = of_snapshots.unsnapped a b k n x h
