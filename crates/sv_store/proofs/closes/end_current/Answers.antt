use Rattle.sv_store.proofs.ClosingSteps.{may-reclaim, reclaimed-alone, reclaimed-ends}
use Rattle.sv_store.proofs.StandLaws.{follows-through}
use Rattle.sv_store.proofs.closes.end_current.Goals as goal

pub reclaim-requires : goal.reclaim-requires
reclaim-requires c =
    let e = c.lose_current-install.ensures in
    may-reclaim c.args.state.now.books c.lose_current-install.new.state.books c.laws.ensures.sound c.args.family e.loses c.lose_current-install.result e.family e.tells

pub returns-clause-alone : goal.returns-clause-alone
returns-clause-alone c =
    let e = c.lose_current-install.ensures in
    reclaimed-alone c.args.state.now.books c.lose_current-install.new.state.books c.laws.ensures.sound c.args.family e.loses c.lose_current-install.result e.family e.tells
    c.reclaim.new.state.books c.reclaim.ensures.goes c.requires.alone

pub returns-clause-ends : goal.returns-clause-ends
returns-clause-ends c =
    let e = c.lose_current-install.ensures in
    reclaimed-ends c.args.state.now.books c.lose_current-install.new.state.books c.laws.ensures.sound c.args.family e.loses c.lose_current-install.result e.family e.tells
    c.reclaim.new.state.books c.reclaim.ensures.goes e.lets_go

pub returns-clause-follows : goal.returns-clause-follows
returns-clause-follows c = follows-through c.args.state.now.books c.lose_current-install.new.state.books c.reclaim.new.state.books c.lose_current-install.ensures.follows c.reclaim.ensures.follows
