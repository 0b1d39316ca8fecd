use Rattle.std.proofs.Common.{◌≡◌, ℕ, ◌<◌, ◌++◌, length, List, subst, ap, ◌∙◌, append_assoc}
use Rattle.std.specs.List.{All, flat_map}
use Rattle.std.proofs.lemmas.List.{take_all}
use Rattle.std.proofs.lemmas.List.Elements.{All-more, recursion_from_All}
use Rattle.sv_model.specs.declared.writes.Kept.{Kept}
use Rattle.sv_model.specs.TableText.{Format, header_text, kept_text, range_text, text_as, IsStored}
use Rattle.sv_table.specs.Views.{format_is}
use Rattle.sv_table.proofs.WrittenText.{writes, written}
use Rattle.sv_table.proofs.encoding.encode.Goals as goal

pub loop-kept-preserved : goal.loop-kept-preserved
loop-kept-preserved c =
    let t = c.args.table.now in
    let format = format_is c.format_of-format.result in
    let cuts = c.as_slice-cuts.result.now in
    let at = c.loop-kept.kept-index in
    let kept = c.kept-item.result in
    let within : at < length t.rows = rw c.as_slice-kept-items.ensures at c.loop-kept-test.true in
    let item = rw c.as_slice-kept-items.ensures at c.kept-item.is in
    record {
      written = writes (kept_text format cuts) (header_text format t.from t.to t.bottom (length t.rows)) t.rows at kept c.loop-kept.out.items c.put_row.new.out.items within item c.loop-kept.invariant.written c.in_ok-put_row.ensures.text;
      stored = All-more (λ r. IsStored r.row) t.rows at kept within c.loop-kept.invariant.stored (subst (λ (k : Kept). IsStored k.row) item c.in_ok-put_row.ensures.stored);
    }

pub returns-clause-text : goal.returns-clause-text
returns-clause-text c =
    let t = c.args.table.now in
    let format = format_is c.format_of-format.result in
    let cuts = c.as_slice-cuts.result.now in
    let over = rw c.as_slice-kept-items.ensures at c.loop-kept-test.false in
    let header = header_text format t.from t.to t.bottom (length t.rows) in
    let rows : c.loop-kept.out.items ≡ header ++ flat_map (kept_text format cuts) t.rows = written (kept_text format cuts) header t.rows c.loop-kept.kept-index c.loop-kept.out.items over c.loop-kept.invariant.written in
    c.in_ok-put_range.ensures
    ∙ (λ i. rows i ++ range_text format (c.as_slice.ensures i))
    ∙ ap (λ (z : List ℕ). (header ++ flat_map (kept_text format z) t.rows) ++ range_text format t.rows) c.as_slice-cuts.ensures.cuts
    ∙ append_assoc header (flat_map (kept_text format t.bottom.cuts) t.rows) (range_text format t.rows)
    ∙ ap (λ (f : Format). text_as f t.from t.to t.bottom t.rows) c.format_of-format.ensures

pub returns-clause-has_text : goal.returns-clause-has_text
returns-clause-has_text c =
    let rows = c.args.table.now.rows in
    let over = rw c.as_slice-kept-items.ensures at c.loop-kept-test.false in
    let all : All (λ r. IsStored r.row) rows = subst (λ (l : List Kept). All (λ r. IsStored r.row) l) (take_all c.loop-kept.kept-index rows over) c.loop-kept.invariant.stored in
    record {
      well_formed = c.requires;
      in_range = c.in_ok-put_header.ensures.in_range;
      stored = recursion_from_All (λ (r : Kept). IsStored r.row) rows all;
    }
