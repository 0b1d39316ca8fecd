-- The current before goes, or the number is given up.
use Rattle.std.proofs.Common.{Option, sym, ◌∙◌, subst}
use Rattle.sv_model.specs.declared.records.FileStatus.TheVariants.{Live, Obsolete}
use Rattle.sv_model.specs.declared.refusals.Refusal.{Refusal}
use Rattle.sv_model.specs.Refusals.{IsDue}
use Rattle.sv_laws.specs.Captures.{IsGivenUp}
use Rattle.sv_laws.specs.NewCurrents.{IsCompacted}
use Rattle.sv_store.specs.Going.{Renews}
use Rattle.sv_store.proofs.FlushedLaws.{can-finish, compacted-over, over-obeys, over-renews, same-family}
use Rattle.sv_store.proofs.OutputLaws.{given-stands}
use Rattle.sv_store.proofs.OutputRefusals.{install-due}
use Rattle.sv_store.proofs.StandLaws.{follows-through}
use Rattle.sv_store.proofs.compaction_installs.install_compacted.Goals as goal

pub compact_done-requires-clause-finish : goal.compact_done-requires-clause-finish
compact_done-requires-clause-finish c =
    let can = c.requires.can in
    (can.0, can-finish c.args.state.now.books c.args.cells.now can.0 c.args.file can.1)

pub obey-requires : goal.obey-requires
obey-requires c =
    let k = c.in-Ok in
    let a = c.args.state.now.books in
    let m = c.compact_done.new.self.books in
    over-obeys a m c.args.cells.now c.requires.can.1.stands c.compact_done.ensures.follows.sound k.install.family
    (compacted-over a m k.install.family c.args.file k.ensures.compacted) k.install.old k.ensures.tells.old

pub returns-clause-compacted : goal.returns-clause-compacted
returns-clause-compacted c = λ f can.
    let k = c.in-Ok in
    let a = c.args.state.now.books in
    let b = c.obey.new.state.books in
    let file = c.args.file in
    let w = k.ensures.compacted in
    subst (λ g. Renews (λ x y. IsCompacted x y g file) g a b) (sym (same-family a c.args.cells.now f k.install.family file can Live _ w.settled))
    (over-renews a c.compact_done.new.self.books c.args.cells.now can.stands c.compact_done.ensures.follows.sound k.install.family
    (compacted-over a c.compact_done.new.self.books k.install.family file w) k.install.old k.ensures.tells.old
    (λ x y. IsCompacted x y k.install.family file) w b c.obey.ensures.goes)

pub returns-clause-refused : goal.returns-clause-refused
returns-clause-refused c =
    let can = c.requires.can in
    let a = c.args.state.now.books in
    sym (install-due a c.args.cells.now can.0 c.args.file can.1) ∙ c.in-Ok.ensures.refused can.0 (can-finish a c.args.cells.now can.0 c.args.file can.1)

pub returns-clause-follows : goal.returns-clause-follows
returns-clause-follows c =
    follows-through c.args.state.now.books c.compact_done.new.self.books c.obey.new.state.books c.compact_done.ensures.follows c.obey.ensures.follows

pub returns-in-Err-clause-given_up : goal.returns-in-Err-clause-given_up
returns-in-Err-clause-given_up c = λ f can.
    let a = c.args.state.now.books in
    let m = c.compact_done.new.self.books in
    let g = c.in-Err.ensures.given_up in
    subst (λ n. IsGivenUp a m n c.args.file.number) (sym (same-family a c.args.cells.now f g.0 c.args.file can Obsolete _ g.1.settled)) g.1

pub returns-in-Err-clause-refused : goal.returns-in-Err-clause-refused
returns-in-Err-clause-refused c =
    let can = c.requires.can in
    let a = c.args.state.now.books in
    subst (λ (d : Option Refusal). IsDue d c.in-Err.refusal) (install-due a c.args.cells.now can.0 c.args.file can.1)
    (c.in-Err.ensures.refused can.0 (can-finish a c.args.cells.now can.0 c.args.file can.1))

pub returns-in-Err-clause-stands : goal.returns-in-Err-clause-stands
returns-in-Err-clause-stands c =
    let g = c.in-Err.ensures.given_up in
    given-stands c.args.state.now.books c.compact_done.new.self.books c.args.cells.now c.requires.can.1.stands c.compact_done.ensures.follows.sound g.0 c.args.file.number g.1
