use Rattle.std.proofs.Common.{ap, arith, min, refl, subst, sym, ℕ, ◌++◌, ◌+◌, ◌∙◌, ◌≤◌}
use Rattle.std.specs.Prelude.{is_some}
use Rattle.sv_borrows.specs.Parts.{body_of}
use Rattle.sv_gets.specs.Reading.{reads_in}
use Rattle.sv_gets.proofs.ReadViews.{dir-reads, may-give-dir}
use Rattle.sv_file_checks.specs.Faults.{fault_of}
use Rattle.sv_model.specs.Lists.{bit}
use Rattle.sv_objects.specs.declared.bodies.Body.{Body}
use Rattle.sv_reads.specs.Files.{FilesAnswer, LooksServed}
use Rattle.sv_rule.specs.LockPlays.{MayGiveDir}
use Rattle.sv_rule.specs.Views.{Disk, LaneView}
use Rattle.sv_slots.specs.Seats.{bodied}
use Rattle.sv_gets.proofs.files.read_files.Goals as goal

pub give_folder-requires-clause-marks : goal.give_folder-requires-clause-marks
give_folder-requires-clause-marks g c = (refl, refl)

pub give_folder-requires-clause-listed : goal.give_folder-requires-clause-listed
give_folder-requires-clause-listed g c = (refl, refl)

pub give_folder-requires-clause-reads : goal.give_folder-requires-clause-reads
give_folder-requires-clause-reads g c = refl

pub give_folder-requires-clause-lock : goal.give_folder-requires-clause-lock
give_folder-requires-clause-lock g c =
    let v = c.args.seat.now.seat.me.0 in let t = c.take_dir-folder in let r = c.find_in_files-found in
    let x = bodied body_of c.args.sv.now in let f = x.body.descriptor.family in
    let d : Disk = record { files = g.D.Dir.files t.result.dir.value; faults = g.D.Dir.faults t.result.dir.value } in
    let now : Disk = record { files = g.D.Dir.files r.new.dir; faults = g.D.Dir.faults r.new.dir } in
    let value = c.deref_mut.ensures.value in
    let rose = subst (λ (z : ℕ × ℕ). min (z.0 + z.1) 18446744073709551615 ≤ now.faults)
    (λ i. (g.D.Dir.faults (value i), sym c.is_fault.ensures i)) r.ensures.faults.rose in
    subst (λ (z : Body). MayGiveDir t.new.seat.seat.me.0 now t.new.seat.seat.me.0.known.task
    (reads_in now.files z.files) t.new.seat.seat.me.0.names 0 (bit c.is_fault.result)) (sym c.deref-body.ensures)
    (may-give-dir v c.requires.free d t.new.seat.seat.me.0 t.ensures.took x f c.requires.sv now
    (r.ensures.same ∙ ap (λ z. g.D.Dir.files z) value) (bit c.is_fault.result)
    (subst (λ n. n ≤ now.faults) (ap (λ z. g.D.Dir.faults z) value) r.ensures.faults.later) rose)

pub returns-clause-reads : goal.returns-clause-reads
returns-clause-reads g c =
    let v = c.args.seat.now.seat.me.0 in let t = c.take_dir-folder in let r = c.find_in_files-found in
    let x = bodied body_of c.args.sv.now in let f = x.body.descriptor.family in
    let d : Disk = record { files = g.D.Dir.files t.result.dir.value; faults = g.D.Dir.faults t.result.dir.value } in
    let now : Disk = record { files = g.D.Dir.files r.new.dir; faults = g.D.Dir.faults r.new.dir } in
    dir-reads v c.requires.free d t.new.seat.seat.me.0 t.ensures.took t.new.seat.seat.me.0.known.task
    (reads_in now.files c.deref-body.result.now.files) (bit c.is_fault.result) c.give_folder.new.seat.seat.me.0 refl
    c.give_folder.ensures.gave

pub returns-clause-files : goal.returns-clause-files
returns-clause-files g c =
    let v = c.args.seat.now.seat.me.0 in let t = c.take_dir-folder in let r = c.find_in_files-found in
    let x = bodied body_of c.args.sv.now in let f = x.body.descriptor.family in
    let d : Disk = record { files = g.D.Dir.files t.result.dir.value; faults = g.D.Dir.faults t.result.dir.value } in
    let now : Disk = record { files = g.D.Dir.files r.new.dir; faults = g.D.Dir.faults r.new.dir } in
    let files = ap (λ (z : Body). z.files) c.deref-body.ensures in
    record {
      told = g.D.Dir.files c.deref_mut.result.now;
      as_first = ap (λ z. is_some (g.D.Dir.files z)) c.deref_mut.ensures.value ∙ t.ensures.told;
      reads = ap (λ (z : LaneView). z.known.reads) c.give_folder.ensures.gave
          ∙ (λ i. (t.ensures.took i).known.reads ++ reads_in (r.ensures.same i) (files i));
      looks = subst (λ (z : Body). LooksServed (g.D.Dir.files c.deref_mut.result.now) z.files c.args.key.now c.args.cut r.result)
          c.deref-body.ensures r.ensures.looks;
      answer = subst (λ (z : Body). FilesAnswer (g.D.Dir.files c.deref_mut.result.now) z.files c.args.key.now c.args.cut r.result)
          c.deref-body.ensures r.ensures.answer;
    }

pub returns-clause-failed : goal.returns-clause-failed
returns-clause-failed g c = λ n e. omega (
  arith,
  ap (λ (z : LaneView). z.counts.faults) c.give_folder.ensures.gave,
  ap (λ (z : LaneView). z.counts.faults) c.take_dir-folder.ensures.took,
  c.is_fault.ensures,
  ap (λ z. fault_of z) e,
)
