use Rattle.std.proofs.Common.{ℕ, List, ◌++◌, sym, ap, ◌∙◌, append_assoc}
use Rattle.sv_model.specs.TableText.{key_text}
use Rattle.sv_table.specs.Views.{format_is}
use Rattle.sv_table.proofs.WrittenText.{range_written}
use Rattle.sv_table.proofs.encoding.put_range.Goals as goal

pub returns-in_ok-put_key-2 : goal.returns-in_ok-put_key-2
returns-in_ok-put_key-2 c =
    let m = c.in-Two-Some-Some in
    let range = range_written (format_is c.args.format) c.args.rows.now m.first.now m.last.now (ap format_is m.is-0) m.ensures.value m.ensures'.value in
    c.in_ok-put_key-2.ensures.text
    ∙ (λ i. (c.in_ok-put_key.ensures.text i) ++ key_text (c.as_bytes-in-Two-Some-Some.ensures.bytes i))
    ∙ ap (λ (z : List ℕ). (c.args.out.now.items ++ key_text z) ++ key_text m.last.now.row.key) c.as_bytes.ensures.bytes
    ∙ append_assoc c.args.out.now.items (key_text m.first.now.row.key) (key_text m.last.now.row.key)
    ∙ ap (λ (z : List ℕ). c.args.out.now.items ++ z) (sym range)
