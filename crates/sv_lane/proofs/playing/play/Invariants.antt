-- The lines so far are answered, and there is room for the replies to the others.
use Rattle.std.proofs.Common.{◌≡◌, ◌≤◌, length, take, vec_len, vec_capacity}
use Rattle.sv_lane.specs.Played.{Played}
use Rattle.sv_lane.proofs.playing.play.Given as goal

abbrev pub invariant-loop-line : goal.invariant-loop-line
invariant-loop-line g l = record {
  room : length l.lines ≤ vec_capacity l.replies;
  count : vec_len l.replies ≡ l.line-index;
  played : Played (record { books = l.initial.store.books; files = g.D.Dir.files l.initial.dir; faults = g.D.Dir.faults l.initial.dir }) (record { books = l.store.books; files = g.D.Dir.files l.dir; faults = g.D.Dir.faults l.dir }) (take l.line-index l.lines) l.replies.items;
}
