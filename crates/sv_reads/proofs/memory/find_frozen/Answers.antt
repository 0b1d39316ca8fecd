-- The newest memtable with a row decides.
use Rattle.std.proofs.Common.{◌-◌, ◌∷◌, ◌++◌, ℕ, List, length, take, ap, sym, ◌∙◌, arith}
use Rattle.std.specs.Arc.{arc_value}
use Rattle.sv_model.specs.Cells.{Cell}
use Rattle.sv_model.specs.Journal.{newest_op}
use Rattle.sv_objects.specs.Shown.{shown}
use Rattle.sv_reads.proofs.FrozenRows.{shown_last, shown_none, splits, ends_before, newest_here, found_here, none_here}
use Rattle.sv_reads.proofs.memory.find_frozen.Goals as goal

pub returns-in-Some : goal.returns-in-Some
returns-in-Some c =
    let key = c.args.key.now in
    let all = shown c.args.body.now.frozen in
    let left = c.loop-left.left.now in
    let inv = c.loop-left.invariant in
    let item = c.held-item.result in
    let x : ℕ × Cell = (item.0, arc_value item.1) in
    let is = c.frozen_of-frozen.ensures in
    let older = shown (take (length left - 1) left) in
    let stands = splits all (shown left) older inv.newer x inv.stands
    (shown_last left item (omega arith) c.held-item.is) in
    let begins = c.saturating_sub-begin.ensures
    ∙ ap (λ (n : ℕ). c.loop-left.end - n) (c.count_rows.ensures ∙ ap (λ (f : Cell). length f.rows) is) in
    let found = c.in-Some.ensures ∙ (λ i. newest_op key (take (c.saturating_sub.ensures i) (is i).rows)) in
    found_here key c.args.cut c.args.body.now.descriptor.base c.loop-left.end c.saturating_sub-begin.result x
    inv.newer inv.ends begins inv.passed all older c.in-Some.op.now stands found

pub loop-left-preserved : goal.loop-left-preserved
loop-left-preserved c =
    let key = c.args.key.now in
    let all = shown c.args.body.now.frozen in
    let left = c.loop-left.left.now in
    let base = c.args.body.now.descriptor.base in
    let end = c.loop-left.end in
    let begin = c.saturating_sub-begin.result in
    let inv = c.loop-left.invariant in
    let item = c.held-item.result in
    let x : ℕ × Cell = (item.0, arc_value item.1) in
    let is = c.frozen_of-frozen.ensures in
    let older = shown (take (length left - 1) left) in
    let begins = c.saturating_sub-begin.ensures
    ∙ ap (λ (n : ℕ). end - n) (c.count_rows.ensures ∙ ap (λ (f : Cell). length f.rows) is) in
    let none = c.in_default-find_among.ensures
    ∙ (λ i. newest_op key (take (c.saturating_sub.ensures i) (is i).rows)) in
    record {
      newer = x ∷ inv.newer;
      stands = splits all (shown left) older inv.newer x inv.stands
          (shown_last left item (omega arith) c.held-item.is);
      ends = ends_before key c.args.cut base end begin x inv.newer inv.ends begins;
      passed = λ within. newest_here key c.args.cut base end begin x inv.newer inv.ends begins inv.passed within
          ∙ sym none;
    }

pub returns : goal.returns
returns c =
    let all = shown c.args.body.now.frozen in
    let inv = c.loop-left.invariant in
    let same = inv.stands
    ∙ ap (λ (l : List (ℕ × Cell)). l ++ inv.newer) (shown_none c.loop-left.left.now (omega arith)) in
    none_here c.args.key.now c.args.cut c.args.body.now.descriptor.base c.loop-left.end all inv.newer same inv.ends
    inv.passed
