use Rattle.sv_gets.specs.Reading.{reads_in}
use Rattle.sv_model.specs.Lists.{bit}
use Rattle.sv_gets.proofs.files.read_files.Given as goal

abbrev pub ghosts-give_folder : goal.ghosts-give_folder
ghosts-give_folder g a = record {
  task = a.seat.now.seat.me.0.known.task;
  reads = reads_in (g.D.Dir.files a.folder.dir.value) a._body.now.files;
  names = a.seat.now.seat.me.0.names;
  lists = 0;
  rise = bit a._failed;
}
