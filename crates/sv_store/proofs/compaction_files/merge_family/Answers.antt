-- The merge is due over the files of the family's Version, and what each end leaves.
use Rattle.std.proofs.Common.{inl, inr, ap, ◌∙◌}
use Rattle.sv_objects.specs.declared.bodies.Body.{Body}
use Rattle.sv_store.proofs.CompactionFiles.{current-at, files-of, may-install, merge-due, number-here, puts-merge, stops-merge}
use Rattle.sv_store.proofs.FlushedLaws.{compacted-still, given-still, own-given}
use Rattle.sv_store.proofs.OutputLaws.{given-stands}
use Rattle.sv_store.proofs.compaction_files.merge_family.Goals as goal

pub captor-family-requires : goal.captor-family-requires
captor-family-requires g c =
    record { family = c.requires.1; is = number-here c.requires.0 c.args.state.now.books c.args.cells.now c.requires.1 c.args.file c.requires.2 }

pub current-requires : goal.current-requires
current-requires g c =
    let a = c.requires.0 in
    let m = c.args.state.now.books in
    let f = c.requires.1 in
    let can = c.requires.2 in
    let same = c.captor-family.ensures f (number-here a m c.args.cells.now f c.args.file can) in
    current-at a m c.args.cells.now f c.args.file can c.captor-family.result same

pub write_compaction-requires : goal.write_compaction-requires
write_compaction-requires g c =
    let a = c.requires.0 in
    let m = c.args.state.now.books in
    let cells = c.args.cells.now in
    let f = c.requires.1 in
    let file = c.args.file in
    let can = c.requires.2 in
    let same = c.captor-family.ensures f (number-here a m cells f file can) in
    let files = c.as_slice.ensures ∙ ap (λ (z : Body). z.files) c.deref.ensures
    ∙ files-of a m cells f file can c.captor-family.result same c.current.result.now.pack c.current.result.now.body.value c.current.ensures in
    merge-due a m can.rests.stands.sound f file can.planned c.as_slice.result.now files (g.D.Dir.files c.args.dir.now) (g.D.Dir.files c.args.dir.now) c.planned_merge_is_due.ensures

-- ---- the merge was not put

pub output_failed-requires : goal.output_failed-requires
output_failed-requires g c =
    record { family = c.requires.1; is = number-here c.requires.0 c.args.state.now.books c.args.cells.now c.requires.1 c.args.file c.requires.2 }

pub returns-in-Err-clause-stopped : goal.returns-in-Err-clause-stopped
returns-in-Err-clause-stopped g c a f can =
    let m = c.args.state.now.books in
    let b = c.output_failed.new.self.books in
    let cells = c.args.cells.now in
    let file = c.args.file in
    let same = c.captor-family.ensures f (number-here a m cells f file can) in
    let files = c.as_slice.ensures ∙ ap (λ (z : Body). z.files) c.deref.ensures
    ∙ files-of a m cells f file can c.captor-family.result same c.current.result.now.pack c.current.result.now.body.value c.current.ensures in
    record {
      file = file;
      mid = m;
      planned = can.planned;
      given_up = own-given m b cells f file (may-install a m cells f file can) c.output_failed.ensures.given_up;
      why = inl (stops-merge a m can.rests.stands.sound f file can.planned c.as_slice.result.now files (g.D.Dir.files c.args.dir.now) (g.D.Dir.files c.write_compaction.new.dir)
          c.in-Err.refusal c.in-Err.ensures.refused c.in-Err.ensures.flat);
    }

pub returns-in-Err-clause-rests : goal.returns-in-Err-clause-rests
returns-in-Err-clause-rests g c =
    let a = c.requires.0 in
    let m = c.args.state.now.books in
    let b = c.output_failed.new.self.books in
    let cells = c.args.cells.now in
    let f = c.requires.1 in
    let file = c.args.file in
    let can = c.requires.2 in
    let install = may-install a m cells f file can in
    let given = own-given m b cells f file install c.output_failed.ensures.given_up in
    record {
      stands = given-stands m b cells install.stands c.output_failed.ensures.follows.sound f file.number given;
      still = given-still a m b f file can.planned.captured can.rests.still given;
    }

-- ---- the merge was put

pub install_compacted-requires-clause-can : goal.install_compacted-requires-clause-can
install_compacted-requires-clause-can g c =
    (c.requires.1, may-install c.requires.0 c.args.state.now.books c.args.cells.now c.requires.1 c.args.file c.requires.2)

pub install_compacted-requires-clause-kind : goal.install_compacted-requires-clause-kind
install_compacted-requires-clause-kind g c = c.requires.2.planned.kind

pub returns-in-Ok-install_compacted-clause-merged : goal.returns-in-Ok-install_compacted-clause-merged
returns-in-Ok-install_compacted-clause-merged g c a f can =
    let m = c.args.state.now.books in
    let cells = c.args.cells.now in
    let file = c.args.file in
    let same = c.captor-family.ensures f (number-here a m cells f file can) in
    let files = c.as_slice.ensures ∙ ap (λ (z : Body). z.files) c.deref.ensures
    ∙ files-of a m cells f file can c.captor-family.result same c.current.result.now.pack c.current.result.now.body.value c.current.ensures in
    record {
      mid = m;
      planned = can.planned;
      puts = puts-merge a m can.rests.stands.sound f file can.planned c.as_slice.result.now files (g.D.Dir.files c.args.dir.now) (g.D.Dir.files c.write_compaction.new.dir)
          c.in-Ok.ensures.written c.in-Ok.ensures.flat;
      renews = c.in-Ok-install_compacted.ensures.compacted f (may-install a m cells f file can);
    }

pub returns-in-Ok-install_compacted-clause-rests : goal.returns-in-Ok-install_compacted-clause-rests
returns-in-Ok-install_compacted-clause-rests g c =
    let a = c.requires.0 in
    let m = c.args.state.now.books in
    let f = c.requires.1 in
    let file = c.args.file in
    let can = c.requires.2 in
    record {
      stands = c.install_compacted.ensures.stands;
      still = compacted-still a m c.install_compacted.new.state.books f file can.planned.captured can.rests.still
          (c.in-Ok-install_compacted.ensures.compacted f (may-install a m c.args.cells.now f file can));
    }

pub returns-in-Err-install_compacted-clause-stopped : goal.returns-in-Err-install_compacted-clause-stopped
returns-in-Err-install_compacted-clause-stopped g c a f can =
    let m = c.args.state.now.books in
    let cells = c.args.cells.now in
    let file = c.args.file in
    let same = c.captor-family.ensures f (number-here a m cells f file can) in
    let files = c.as_slice.ensures ∙ ap (λ (z : Body). z.files) c.deref.ensures
    ∙ files-of a m cells f file can c.captor-family.result same c.current.result.now.pack c.current.result.now.body.value c.current.ensures in
    let puts = puts-merge a m can.rests.stands.sound f file can.planned c.as_slice.result.now files (g.D.Dir.files c.args.dir.now) (g.D.Dir.files c.write_compaction.new.dir)
    c.in-Ok.ensures.written c.in-Ok.ensures.flat in
    record {
      file = file;
      mid = m;
      planned = can.planned;
      given_up = c.in-Err-install_compacted.ensures.given_up f (may-install a m cells f file can);
      why = inr (puts, c.in-Err-install_compacted.ensures.refused);
    }

pub returns-in-Err-install_compacted-clause-rests : goal.returns-in-Err-install_compacted-clause-rests
returns-in-Err-install_compacted-clause-rests g c =
    let a = c.requires.0 in
    let m = c.args.state.now.books in
    let f = c.requires.1 in
    let file = c.args.file in
    let can = c.requires.2 in
    record {
      stands = c.install_compacted.ensures.stands;
      still = given-still a m c.install_compacted.new.state.books f file can.planned.captured can.rests.still
          (c.in-Err-install_compacted.ensures.given_up f (may-install a m c.args.cells.now f file can));
    }
