use Rattle.std.proofs.Common.{refl}
use Rattle.sv_store.proofs.RemovalMarks.{is-grabbed, only-through, ready-gone, ready-left, same-left}
use Rattle.sv_store.proofs.StandLaws.{follows-through}
use Rattle.sv_store.proofs.purges.remove_ready.Goals as goal

pub remove_grabbed-tried-requires : goal.remove_grabbed-tried-requires
remove_grabbed-tried-requires g c =
    is-grabbed c.args.number c.args.state.now.books.files c.take.new.self.books.files (c.if-not-take.ensures.taken refl)

pub returns-clause-gone : goal.returns-clause-gone
returns-clause-gone g c =
    let k = c.remove_grabbed-tried in
    ready-gone k.result c.args.number c.args.state.now.books.files c.take.new.self.books.files k.new.state.books.files c.end_job.new.self.books.files
    c.laws.ensures.sound.lawful.numbers.once (c.if-not-take.ensures.taken refl) k.ensures.gone c.end_job.ensures.ended

pub returns-clause-left : goal.returns-clause-left
returns-clause-left g c =
    let k = c.remove_grabbed-tried in
    let only = only-through c.args.state.now k.new.state c.end_job.new.self
    (only-through c.args.state.now c.take.new.self k.new.state c.take.ensures.rest k.ensures.rest) c.end_job.ensures.rest in
    same-left k.result c.args.state.now c.end_job.new.self only
    (ready-left k.result c.args.number c.args.state.now.books.files c.take.new.self.books.files k.new.state.books.files c.end_job.new.self.books.files
    c.laws.ensures.sound.lawful.numbers.once (c.if-not-take.ensures.taken refl) k.ensures.left c.end_job.ensures.ended)

pub returns-clause-follows : goal.returns-clause-follows
returns-clause-follows g c =
    let k = c.remove_grabbed-tried in
    follows-through c.args.state.now.books k.new.state.books c.end_job.new.self.books
    (follows-through c.args.state.now.books c.take.new.self.books k.new.state.books c.take.ensures.follows k.ensures.follows) c.end_job.ensures.follows
