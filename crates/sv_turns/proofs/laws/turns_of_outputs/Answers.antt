use Rattle.std.proofs.Common.{ap}
use Rattle.sv_model.specs.Books.{Books}
use Rattle.sv_turns.proofs.Currents.{compacted-opens, flushed-opens}
use Rattle.sv_turns.proofs.Jobs.{files-stands}
use Rattle.sv_turns.proofs.Outputs.{captured-stands, compacted-turns, flush_begun-turns, flushed-turns, given_up-turns, merge_planned-turns}
use Rattle.sv_turns.proofs.laws.turns_of_outputs.Goals as goal

pub returns-clause-flush_begun : goal.returns-clause-flush_begun
returns-clause-flush_begun c l a b t k f file h none =
    (flush_begun-turns l a b t k f file h none, captured-stands l a b t k f file h.captured)

pub returns-clause-merge_planned : goal.returns-clause-merge_planned
returns-clause-merge_planned c l a b t k f file h none =
    (merge_planned-turns l a b t k f file h none, captured-stands l a b t k f file h.captured)

pub returns-clause-flushed : goal.returns-clause-flushed
returns-clause-flushed c l a b t k f o h has written = (
  flushed-turns l a b t k f o h has written,
  flushed-opens l a b t k f o.meta h,
  ap (λ (z : Books). z.memtables) h.is,
)

pub returns-clause-compacted : goal.returns-clause-compacted
returns-clause-compacted c l a b t k f o h has written = (
  compacted-turns l a b t k f o h has written,
  compacted-opens l a b t k f o.meta h,
  ap (λ (z : Books). z.memtables) h.is,
)

pub returns-clause-given_up : goal.returns-clause-given_up
returns-clause-given_up c l a b t k f o h has = (given_up-turns l a b t k f o h has, files-stands a b h.is)
