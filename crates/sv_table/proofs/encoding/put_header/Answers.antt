use Rattle.std.proofs.Common.{append_assoc}
use Rattle.sv_table.proofs.encoding.put_header.Goals as goal

pub returns-clause-text : goal.returns-clause-text
returns-clause-text c =
    rw (c.in_ok-extend_from_slice-4.ensures.items, c.in_ok-put_cuts.ensures, c.in_ok-push.ensures.items, c.in_ok-extend_from_slice-3.ensures.items, c.in_ok-extend_from_slice-2.ensures.items, c.in_ok-extend_from_slice.ensures.items)
    (rw (c.magic_of.ensures, c.to_le_bytes.ensures, c.to_le_bytes-2.ensures, c.flag_of.ensures, c.as_slice.ensures.cuts, c.to_le_bytes-3.ensures, c.as_slice-2.ensures) (simp append_assoc))
