use Rattle.std.proofs.Common.{ℕ, List, Option, take, sym, ap, ◌∙◌, subst}
use Rattle.std.specs.Prelude.{sum}
use Rattle.std.proofs.lemmas.List.{take_all}
use Rattle.sv_model.specs.declared.refusals.Refusal.{Refusal}
use Rattle.sv_model.specs.Books.{FileRegister}
use Rattle.sv_model.specs.Numbers.{IsReady}
use Rattle.sv_model.proofs.AscendingLists.{rises_from}
use Rattle.sv_store.proofs.EndedNumbers.{ready-still}
use Rattle.sv_store.proofs.PurgeSteps.{PurgedUpTo, all-removed, none-purged, one-purged, some-left}
use Rattle.sv_store.proofs.RemovalSteps.{dir_seen, fresh-next, next-at, next-tried}
use Rattle.sv_store.proofs.TriedNumbers.{part-in}
use Rattle.sv_store.proofs.purges.remove_each.Goals as goal

pub loop-number-init : goal.loop-number-init
loop-number-init g c = none-purged c.args.state.now (g.D.Dir.files c.args.dir.now) (g.D.Dir.faults c.args.dir.now) c.laws.ensures.sound

pub loop-number-preserved : goal.loop-number-preserved
loop-number-preserved g c =
    let items = c.args.ready.now in
    let i = c.loop-number.number-index in
    let n = c.number-item.result in
    let k = c.remove_ready-tried in
    let fresh = fresh-next items (rises_from items c.requires.ready.rising) i n (next-at items i n c.loop-number-test.true c.number-item.is) in
    let files = g.D.Dir.files c.args.dir.now in
    let last = g.D.Dir.files k.new.dir in
    let before = g.D.Dir.faults c.args.dir.now in
    let after = g.D.Dir.faults k.new.dir in
    let step = one-purged c.args.state.now c.loop-number.state k.new.state files (g.D.Dir.files c.loop-number.dir) last before (g.D.Dir.faults c.loop-number.dir) after
    (take i items) c.loop-number.refused n fresh c.laws.ensures.sound.lawful.numbers.once c.loop-number.invariant k.result
    (record {
      gone = k.ensures.gone;
      left = k.ensures.left;
      removed = k.ensures.removed;
      failed = k.ensures.failed;
      cause = k.ensures.cause;
      rest = k.ensures.rest;
      follows = k.ensures.follows;
    }) in
    subst (λ (z : List ℕ × Option Refusal). PurgedUpTo c.args.state.now k.new.state (dir_seen files last before after) z.0 z.1)
    (λ j. (next-tried items i n c.loop-number-test.true c.number-item.is j, sym c.refused_after-refused.ensures j)) step

pub remove_ready-tried-requires-clause-ready : goal.remove_ready-tried-requires-clause-ready
remove_ready-tried-requires-clause-ready g c =
    let items = c.args.ready.now in
    let i = c.loop-number.number-index in
    let n = c.number-item.result in
    let h = c.loop-number.invariant in
    let at = next-at items i n c.loop-number-test.true c.number-item.is in
    let fresh = fresh-next items (rises_from items c.requires.ready.rising) i n at in
    subst (λ (r : FileRegister). IsReady r n) (sym h.is)
    (ready-still c.args.state.now.books.files h.gone n ((c.requires.ready.exact n).0 (record { at = i; is = at }))
    (λ there. fresh (part-in h.gone (take i items) n h.passed.are.gone_are there)))

pub remove_ready-tried-requires-clause-free : goal.remove_ready-tried-requires-clause-free
remove_ready-tried-requires-clause-free g c = ap (λ (r : FileRegister). sum r.holds) c.loop-number.invariant.is ∙ c.requires.free

pub remove_ready-tried-requires-clause-idle : goal.remove_ready-tried-requires-clause-idle
remove_ready-tried-requires-clause-idle g c = ap (λ (r : FileRegister). r.jobs) c.loop-number.invariant.is ∙ c.requires.idle

pub returns-clause-all : goal.returns-clause-all
returns-clause-all g c = λ none.
    let items = c.args.ready.now in
    let d = dir_seen (g.D.Dir.files c.args.dir.now) (g.D.Dir.files c.loop-number.dir) (g.D.Dir.faults c.args.dir.now) (g.D.Dir.faults c.loop-number.dir) in
    all-removed c.args.state.now c.loop-number.state d items c.loop-number.refused
    (subst (λ (l : List ℕ). PurgedUpTo c.args.state.now c.loop-number.state d l c.loop-number.refused) (take_all c.loop-number.number-index items c.loop-number-test.false) c.loop-number.invariant)
    none

pub returns-clause-some : goal.returns-clause-some
returns-clause-some g c =
    let items = c.args.ready.now in
    let d = dir_seen (g.D.Dir.files c.args.dir.now) (g.D.Dir.files c.loop-number.dir) (g.D.Dir.faults c.args.dir.now) (g.D.Dir.faults c.loop-number.dir) in
    some-left c.args.state.now c.loop-number.state d items c.loop-number.refused
    (subst (λ (l : List ℕ). PurgedUpTo c.args.state.now c.loop-number.state d l c.loop-number.refused) (take_all c.loop-number.number-index items c.loop-number-test.false) c.loop-number.invariant)

pub returns-clause-rest : goal.returns-clause-rest
returns-clause-rest g c = c.loop-number.invariant.rest

pub returns-clause-follows : goal.returns-clause-follows
returns-clause-follows g c = c.loop-number.invariant.follows
