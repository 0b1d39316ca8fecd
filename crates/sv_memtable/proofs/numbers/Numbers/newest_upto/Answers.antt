-- The older numbers that are at most the cut stand first.
use Rattle.std.proofs.Common.{◌≡◌, true, false, nat_le, length, Some, None, sym, ap, subst, ◌∙◌, arith}
use Rattle.std.specs.Prelude.{find, reverse}
use Rattle.std.specs.List.Sorted.{IsNonDecreasing, IsPartitionPoint}
use Rattle.sv_memtable.proofs.PartedNumbers.{found_none, found_at, older_rise}
use Rattle.sv_memtable.proofs.numbers.Numbers.newest_upto.Goals as goal

pub count_upto-count-requires : goal.count_upto-count-requires
count_upto-count-requires c =
    let older = c.self.inside.older.items in
    subst IsNonDecreasing (sym c.as_slice.ensures.value) (older_rise older c.self.inside.newest (subst IsNonDecreasing (sym c.self.view_is) c.requires))

pub returns-then-count-eq0 : goal.returns-then-count-eq0
returns-then-count-eq0 c =
    let older = c.self.inside.older.items in
    let parted = subst (λ l. IsPartitionPoint (λ y. nat_le y c.args.upto ≡ true) (λ y. nat_le y c.args.upto ≡ false) l c.count_upto-count.result) c.as_slice.ensures.value c.count_upto-count.ensures.parted in
    subst (λ l. None ≡ find (λ n. nat_le n c.args.upto) (reverse l)) c.self.view_is (found_none older c.self.inside.newest c.args.upto c.count_upto-count.result c.if-self-upto.false c.if-count-eq0.true parted)

pub returns : goal.returns
returns c =
    let older = c.self.inside.older.items in
    let parted = subst (λ l. IsPartitionPoint (λ y. nat_le y c.args.upto ≡ true) (λ y. nat_le y c.args.upto ≡ false) l c.count_upto-count.result) c.as_slice.ensures.value c.count_upto-count.ensures.parted in
    let bound = ap length c.as_slice.ensures.value in
    let is = ap (λ n. Some n) c.index.ensures in
    subst (λ l. Some c.index.result.now ≡ find (λ n. nat_le n c.args.upto) (reverse l)) c.self.view_is
    (is ∙ found_at older c.self.inside.newest c.args.upto c.count_upto-count.result c.index.result.now c.if-self-upto.false c.if-count-eq0.false (omega (arith, bound, c.count_upto-count.ensures.bound)) parted)
