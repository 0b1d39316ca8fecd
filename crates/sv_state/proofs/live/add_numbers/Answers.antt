use Rattle.std.proofs.Common.{◌≡◌, ◌⊎◌, length, Some, refl, sym, ap, ◌∙◌}
use Rattle.std.specs.Prelude.{slice_get}
use Rattle.std.specs.BTreeSet.{insert_key, keys}
use Rattle.std.specs.Ordering.{nat_cmp}
use Rattle.std.proofs.lemmas.Option.{slice_get_read}
use Rattle.sv_model.specs.declared.records.FileMeta.{FileMeta}
use Rattle.sv_model.specs.Lists.{In}
use Rattle.sv_model.specs.Named.{numbers_of}
use Rattle.sv_state.proofs.Answered.{ok-holds}
use Rattle.sv_state.proofs.LiveNumbers.{gather-more}
use Rattle.sv_state.proofs.live.add_numbers.Goals as goal

pub loop-file-preserved : goal.loop-file-preserved
loop-file-preserved c =
    let i = c.loop-file.file-index in
    let files = c.args.files.now in
    let file : FileMeta = c.file-item.result in
    let K = keys c.loop-file.numbers in
    let L = keys c.insert.new.self in
    let at : slice_get files i ≡ Some file = slice_get_read files (length files) i file refl c.loop-file-test.true c.file-item.is in
    let is : L ≡ insert_key nat_cmp K file.number = ok-holds c.insert.result _ (sym c.is_err.ensures.value ∙ c.if-is_err.false) c.insert.ensures.keys ∙ ap (insert_key nat_cmp K) c.number_of.ensures in
    gather-more (λ n. In n (keys c.args.numbers.now) ⊎ In n (numbers_of files)) K L files file i at is c.loop-file.invariant
