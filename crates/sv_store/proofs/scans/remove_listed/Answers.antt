use Rattle.std.proofs.Common.{◌≡◌, ◌+◌, ℕ, suc, List, Option, drop, take, sym, subst, arith}
use Rattle.std.proofs.lemmas.List.{take_all}
use Rattle.sv_model.specs.declared.refusals.Refusal.{Refusal}
use Rattle.sv_model.proofs.AscendingLists.{rises_from}
use Rattle.sv_files.specs.Calls.{IsScanned}
use Rattle.sv_store.specs.Scanning.{Scans, with_strays}
use Rattle.sv_store.proofs.HandedNumbers.{next-grabbed, under_way}
use Rattle.sv_store.proofs.RemovalSteps.{dir_seen, fresh-next, next-at, next-tried}
use Rattle.sv_store.proofs.ScanLaws.{all-scanned, some-scanned}
use Rattle.sv_store.proofs.ScanSteps.{ScannedUpTo, handed-obsolete, next-once, next-waits, none-scanned, none-waits, one-scanned}
use Rattle.sv_store.proofs.scans.remove_listed.Goals as goal

pub loop-number-init : goal.loop-number-init
loop-number-init g c =
    none-scanned c.args.state.now c.scan.new.self (g.D.Dir.files c.args.dir.now) (g.D.Dir.faults c.args.dir.now) c.args.listed.now c.as_slice-numbers.result.now
    (subst (λ (l : List ℕ). IsScanned c.args.state.now.books.files c.scan.new.self.books.files c.args.listed.now l) (sym c.as_slice-numbers.ensures.value) c.in-Ok.ensures.found)
    c.in-Ok.ensures.rest c.in-Ok.ensures.follows

pub loop-number-preserved : goal.loop-number-preserved
loop-number-preserved g c =
    let old = c.args.state.now in
    let items = c.as_slice-numbers.result.now in
    let listed = c.args.listed.now in
    let h = c.loop-number.invariant in
    let i = c.loop-number.number-index in
    let n = c.number-item.result in
    let k = c.remove_grabbed-tried in
    let at = next-at items i n c.loop-number-test.true c.number-item.is in
    let rises = rises_from items h.hands.are.rising in
    let files = g.D.Dir.files c.args.dir.now in
    let between = g.D.Dir.files c.loop-number.dir in
    let last = g.D.Dir.files k.new.dir in
    let before = g.D.Dir.faults c.args.dir.now in
    let faults = g.D.Dir.faults c.loop-number.dir in
    let after = g.D.Dir.faults k.new.dir in
    let step = one-scanned old c.loop-number.state k.new.state files between last before faults after listed items (take i items) (drop (suc i) items) c.loop-number.refused n
    (record { at = i; is = at }) (fresh-next items rises i n at) (next-once items rises i n at)
    (subst (λ (w : List ℕ). ScannedUpTo old c.loop-number.state (dir_seen files between before faults) listed items (take i items) w c.loop-number.refused)
    (next-waits items i n c.loop-number-test.true c.number-item.is) h)
    k.result
    (record {
      gone = k.ensures.gone;
      left = k.ensures.left;
      removed = k.ensures.removed;
      failed = k.ensures.failed;
      cause = k.ensures.cause;
      rest = k.ensures.rest;
      follows = k.ensures.follows;
    }) in
    let next : suc i ≡ i + 1 = omega arith in
    subst (λ (z : List ℕ × List ℕ × Option Refusal). ScannedUpTo old k.new.state (dir_seen files last before after) listed items z.0 z.1 z.2)
    (λ j. (next-tried items i n c.loop-number-test.true c.number-item.is j, drop (next j) items, sym c.refused_after-refused.ensures j)) step

pub remove_grabbed-tried-requires : goal.remove_grabbed-tried-requires
remove_grabbed-tried-requires g c =
    let old = c.args.state.now.books.files in
    let items = c.as_slice-numbers.result.now in
    let h = c.loop-number.invariant in
    let i = c.loop-number.number-index in
    let n = c.number-item.result in
    let at = next-at items i n c.loop-number-test.true c.number-item.is in
    next-grabbed (with_strays old h.strays) c.loop-number.state.books.files h.gone (drop (suc i) items) n
    (subst (λ (w : List ℕ). c.loop-number.state.books.files ≡ under_way (with_strays old h.strays) h.gone w) (next-waits items i n c.loop-number-test.true c.number-item.is) h.is)
    (handed-obsolete old c.args.listed.now h.strays items h.hands n (record { at = i; is = at }))

pub returns-in-None-clause-scanned : goal.returns-in-None-clause-scanned
returns-in-None-clause-scanned g c =
    let items = c.as_slice-numbers.result.now in
    let i = c.loop-number.number-index in
    let old = c.args.state.now in
    let mid = c.loop-number.state in
    let d = dir_seen (g.D.Dir.files c.args.dir.now) (g.D.Dir.files c.loop-number.dir) (g.D.Dir.faults c.args.dir.now) (g.D.Dir.faults c.loop-number.dir) in
    let h = subst (λ (z : List ℕ × List ℕ). ScannedUpTo old mid d c.args.listed.now items z.0 z.1 c.loop-number.refused)
    (λ j. (take_all i items c.loop-number-test.false j, none-waits items i c.loop-number-test.false j)) c.loop-number.invariant in
    subst (λ (l : List ℕ). Scans old.books.files c.end_job.new.self.books.files d l) c.as_slice-numbers.ensures.value
    (all-scanned old mid c.end_job.new.self d c.args.listed.now items c.loop-number.refused c.requires.free c.requires.listing h c.end_job.ensures.ended c.in-None.is)

pub returns-in-Some-clause-stops : goal.returns-in-Some-clause-stops
returns-in-Some-clause-stops g c =
    let items = c.as_slice-numbers.result.now in
    let i = c.loop-number.number-index in
    let old = c.args.state.now in
    let mid = c.loop-number.state in
    let d = dir_seen (g.D.Dir.files c.args.dir.now) (g.D.Dir.files c.loop-number.dir) (g.D.Dir.faults c.args.dir.now) (g.D.Dir.faults c.loop-number.dir) in
    let h = subst (λ (z : List ℕ × List ℕ). ScannedUpTo old mid d c.args.listed.now items z.0 z.1 c.loop-number.refused)
    (λ j. (take_all i items c.loop-number-test.false j, none-waits items i c.loop-number-test.false j)) c.loop-number.invariant in
    some-scanned old mid c.end_job.new.self d c.args.listed.now items c.loop-number.refused c.requires.free c.requires.listing h c.end_job.ensures.ended c.in-Some.refusal c.in-Some.is
