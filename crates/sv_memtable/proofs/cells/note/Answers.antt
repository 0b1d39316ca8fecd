-- The key's numbers are written through, or the key comes into the map.
use Rattle.std.proofs.Common.{◌≡◌, [], List, ℕ, cond, Some, refl, sym, ap, subst}
use Rattle.std.specs.Prelude.{IsSome, unwrap_or}
use Rattle.std.specs.Ordering.{nat_cmp}
use Rattle.std.specs.Cmp.Lexicographic.{slice_cmp}
use Rattle.std.specs.BTreeMap.{BTreeMap, get}
use Rattle.std.proofs.lemmas.Result.{on_ok_weaker, on_err_weaker}
use Rattle.sv_model.specs.Journal.{same_key}
use Rattle.sv_memtable.specs.Index.{numbers_at}
use Rattle.sv_memtable.proofs.IndexLaws.{notes_from, leads_as_before}
use Rattle.sv_memtable.proofs.cells.note.Goals as goal

-- what the map has after a write through what it lent
writes : (c : goal.After-index-in-Some-1) → (q : List ℕ) → get (slice_cmp nat_cmp) (c.get_mut.follows.lender c.push.new.self) q ≡ cond (same_key c.args.key.now q) (Some c.push.new.self) (get (slice_cmp nat_cmp) c.args.index.now q)
writes c =
    let there : IsSome (get (slice_cmp nat_cmp) c.args.index.now c.args.key.now) = subst IsSome c.in-Some.ensures.value refl in
    ((c.get_mut.follows.holds c.push.new.self).3 there).0

pub returns-in-Some-clause-ok : goal.returns-in-Some-clause-ok
returns-in-Some-clause-ok c =
    let at : numbers_at c.args.index.now c.args.key.now ≡ c.in-Some.numbers.now = ap (λ o. unwrap_or o []) (sym c.in-Some.ensures.value) in
    on_ok_weaker c.push.result (λ e. notes_from c.args.index.now (c.get_mut.follows.lender c.push.new.self) c.args.key.now c.in-Some.numbers.now c.push.new.self c.args.number at e (writes c)) c.push.ensures.ok

pub returns-in-Some-clause-err : goal.returns-in-Some-clause-err
returns-in-Some-clause-err c =
    let at : numbers_at c.args.index.now c.args.key.now ≡ c.in-Some.numbers.now = ap (λ o. unwrap_or o []) (sym c.in-Some.ensures.value) in
    on_err_weaker c.push.result (λ e. leads_as_before c.args.index.now (c.get_mut.follows.lender c.push.new.self) c.args.key.now c.in-Some.numbers.now c.push.new.self at e (writes c)) c.push.ensures.err

pub returns-in_ok-insert-in-None-clause-ok : goal.returns-in_ok-insert-in-None-clause-ok
returns-in_ok-insert-in-None-clause-ok c =
    let old = c.args.index.now in
    let key = c.args.key.now in
    let at : numbers_at old key ≡ [] = ap (λ o. unwrap_or o []) (sym c.in-None.ensures.value) in
    let keyed : BTreeMap (List ℕ) (List ℕ) → List ℕ → Type 0 = λ m k. (q : List ℕ) → get (slice_cmp nat_cmp) c.insert.new.self q ≡ cond (same_key k q) (Some c.of.result) (get (slice_cmp nat_cmp) m q) in
    let writes : keyed old key =
    subst (λ m. keyed m key) c.get_mut.follows.holds-at-none (subst (keyed c.get_mut.follows.lender-at-none) c.in_ok-clone-in-None.ensures.cases c.in_ok-insert-in-None.ensures.updates.0)
    in
    notes_from old c.insert.new.self key [] c.of.result c.args.number at c.of.ensures writes
