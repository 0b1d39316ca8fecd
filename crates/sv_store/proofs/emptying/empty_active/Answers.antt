-- The active memtable has no row, or the family switches.
use Rattle.std.proofs.Common.{subst}
use Rattle.sv_store.specs.Emptying.{CanEmpty}
use Rattle.sv_store.proofs.FlushLaws.{emptied-none, empties-by, empties-none, may-freeze, switch-memory, switched-emptied}
use Rattle.sv_store.proofs.emptying.empty_active.Goals as goal

pub switch-requires : goal.switch-requires
switch-requires c =
    let b = c.args.state.now.books in
    may-freeze b c.args.cells.now c.args.family c.in-Some.cell (subst (CanEmpty b c.args.cells.now c.args.family) c.in-Some.is c.requires)

pub returns-in_default-clause-empties : goal.returns-in_default-clause-empties
returns-in_default-clause-empties c =
    let b = c.args.state.now.books in
    empties-none b c.args.cells.now c.args.family (subst (CanEmpty b c.args.cells.now c.args.family) c.in_default.is c.requires)

pub returns-in_default-clause-emptied : goal.returns-in_default-clause-emptied
returns-in_default-clause-emptied c =
    let b = c.args.state.now.books in
    emptied-none b c.args.cells.now c.args.family (subst (CanEmpty b c.args.cells.now c.args.family) c.in_default.is c.requires)

pub returns-in-Ok-clause-empties : goal.returns-in-Ok-clause-empties
returns-in-Ok-clause-empties c =
    let b = c.args.state.now.books in
    let can = subst (CanEmpty b c.args.cells.now c.args.family) c.in-Some.is c.requires in
    empties-by b c.args.cells.now c.args.family c.in-Some.cell can c.switch.new.state.books c.in-Ok.ensures.switched

pub returns-in-Ok-clause-emptied : goal.returns-in-Ok-clause-emptied
returns-in-Ok-clause-emptied c =
    switched-emptied c.args.state.now.books c.switch.new.state.books c.requires.stands.sound c.args.family c.in-Ok.ensures.switched c.requires.idle c.requires.numbers

pub returns-in-Err-clause-refused : goal.returns-in-Err-clause-refused
returns-in-Err-clause-refused c =
    let b = c.args.state.now.books in
    let can = subst (CanEmpty b c.args.cells.now c.args.family) c.in-Some.is c.requires in
    switch-memory b c.args.cells.now c.args.family c.in-Some.cell can c.in-Err.refusal c.in-Err.ensures.refused
