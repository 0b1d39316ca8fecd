use Rattle.std.proofs.Common.{◌≡◌, ◌+◌, ◌++◌, ◌∷◌, drop, suc, sym, ◌∙◌, subst, arith}
use Rattle.std.proofs.Math.ListN.{drop_of_length-le}
use Rattle.std.proofs.Math.Seq.{drop-cons}
use Rattle.sv_model.specs.Named.{NamedMemtable}
use Rattle.sv_laws.specs.Midst.{Midst}
use Rattle.sv_objects.proofs.cleanup.sweep.Goals as goal

pub loop-mem-preserved : goal.loop-mem-preserved
loop-mem-preserved c = record {
  midst = λ all left apart h.
      let i = c.loop-mem.mem-index in
      let mems = c.args.mems.now in
      let one : drop i mems ≡ c.mem-item.result ∷ drop (i + 1) mems =
      drop-cons mems i c.mem-item.result c.loop-mem-test.true ∙ (λ k. sym c.mem-item.is k ∷ drop (let e : suc i ≡ i + 1 = omega arith in e k) mems) in
      c.end_unnamed.ensures.midst all (drop (i + 1) mems ++ left) apart
      (subst (λ l. Midst (NamedMemtable c.args.supers.now c.args.lists.now) all c.loop-mem.memtables (l ++ left) c.loop-mem.cells.items) one (c.loop-mem.invariant.midst all left apart h));
  room = c.end_unnamed.ensures.room;
}

pub returns-clause-midst : goal.returns-clause-midst
returns-clause-midst c all left apart h =
    subst (λ l. Midst (NamedMemtable c.args.supers.now c.args.lists.now) all c.loop-mem.memtables (l ++ left) c.loop-mem.cells.items)
    (drop_of_length-le c.args.mems.now (omega (arith, c.loop-mem-test.false))) (c.loop-mem.invariant.midst all left apart h)
