use Rattle.std.proofs.Common.{◌≤◌, length, Some, sym, ap, ◌∙◌, subst, arith}
use Rattle.std.specs.Prelude.{option_map, slice_get}
use Rattle.std.specs.BTreeSet.{keys}
use Rattle.sv_model.specs.declared.records.Family.{Family}
use Rattle.sv_model.specs.Books.{Books}
use Rattle.sv_state.specs.Currents.{StandsAt}
use Rattle.sv_state.specs.Seen.{StateSeen}
use Rattle.sv_state.specs.Views.{books_of}
use Rattle.sv_state.proofs.LiveNumbers.{shown-end, shown-more, shown-skip, stands-at}
use Rattle.sv_state.proofs.state.State.shown_numbers.Goals as goal

pub last_files-requires : goal.last_files-requires
last_files-requires c =
    let a : Books = books_of c.self.inside in
    let k = c.loop-index.index in
    subst (λ (z : StateSeen). StandsAt z.books k) c.self.view_is (stands-at a c.self.invariant.sound k (c.is_dropped.ensures ∙ ap Some c.if-is_dropped.false))

pub loop-index-preserved-then-is_dropped : goal.loop-index-preserved-then-is_dropped
loop-index-preserved-then-is_dropped c =
    let b : Books = c.args.self.now.books in
    let k = c.loop-index.index in
    shown-skip b k (keys c.loop-index.numbers) (ap (λ (z : StateSeen). option_map (λ (f : Family). f.dropped) (slice_get z.books.families k)) (sym c.self.view_is) ∙ c.is_dropped.ensures ∙ ap Some c.if-is_dropped.true) c.loop-index.invariant

pub loop-index-preserved : goal.loop-index-preserved
loop-index-preserved c =
    let a : Books = books_of c.self.inside in
    let b : Books = c.args.self.now.books in
    let k = c.loop-index.index in
    let st : StandsAt b k = subst (λ (z : StateSeen). StandsAt z.books k) c.self.view_is (stands-at a c.self.invariant.sound k (c.is_dropped.ensures ∙ ap Some c.if-is_dropped.false)) in
    shown-more b k (keys c.loop-index.numbers) (keys c.add_numbers.new.numbers) c.last_files.result.now st (c.last_files.ensures st) c.loop-index.invariant c.in_ok-add_numbers.ensures

pub returns : goal.returns
returns c =
    let b : Books = c.args.self.now.books in
    let le : length b.families ≤ c.loop-index.index = omega (arith, c.loop-index-test.false, c.len-index-end.ensures.len, ap (λ (z : StateSeen). length z.books.families) c.self.view_is) in
    shown-end b c.loop-index.index (keys c.loop-index.numbers) le c.loop-index.invariant
