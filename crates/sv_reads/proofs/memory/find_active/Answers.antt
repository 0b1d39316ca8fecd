-- The first rows up to the cut are no more than there are.
use Rattle.std.proofs.Common.{◌≡◌, ap, ◌∙◌, ◌-◌, ℕ, min, length, take}
use Rattle.sv_model.specs.Journal.{newest_op}
use Rattle.sv_reads.proofs.PartLooks.{finds_after, take_most}
use Rattle.sv_reads.proofs.memory.find_active.Goals as goal

pub returns : goal.returns
returns c =
    let rows = c.args.cell.now.rows in
    let key = c.args.key.now in
    let some = c.saturating_sub.ensures in
    let all = c.from.ensures ∙ c.len.ensures.rows in
    let upto : c.min-upto.result ≡ min (c.args.cut - c.args.base) (length rows) = c.min-upto.ensures
    ∙ (λ i. min (some i) (all i)) in
    finds_after c.args.base rows key c.args.cut _
    (c.find_at.ensures ∙ ap (λ (n : ℕ). newest_op key (take n rows)) upto ∙ ap (newest_op key) (take_most (c.args.cut - c.args.base) rows))
