-- What was found can be copied.
use Rattle.sv_reads.proofs.FoundHits.{hit_stored, is_table}
use Rattle.sv_reads.proofs.bytes.op_in.Goals as goal

pub op_of-requires : goal.op_of-requires
op_of-requires c =
    let bytes = c.args.bytes.now in
    let hit = c.in-Ok-Some in
    hit_stored bytes c.args.key.now c.args.cut hit.field-0 hit.hit (is_table c.args.file.now bytes hit.ensures.good)
    hit.field-0-is hit.ensures.found
