use Rattle.sv_answers.proofs.ToldFiles.{purge-stop-told, purge-told}
use Rattle.std.proofs.Common.{List, ℕ, sym, subst, refl}
use Rattle.std.specs.Prelude.{Ok, Err}
use Rattle.sv_store.specs.Purging.{Purges}
use Rattle.sv_store.proofs.RemovalSteps.{dir_seen}
use Rattle.sv_answers.proofs.PurgeAnswers.{purge-counts, purge-replies}
use Rattle.sv_answers.proofs.MakesAnswers.{makes-files}
use Rattle.sv_answers.proofs.PurgeNext.{purge-next, purge-stop-next}
use Rattle.sv_script.specs.declared.replies.Reply.TheVariants as reply
use Rattle.sv_answers.proofs.purges.purge.Goals as goal

pub returns-in-Ok-clause-answered : goal.returns-in-Ok-clause-answered
returns-in-Ok-clause-answered g c told k all =
    let x = c.in-Ok.ensures in
    let d = dir_seen (g.D.Dir.files c.args.dir.now) (g.D.Dir.files c.purge.new.dir) (g.D.Dir.faults c.args.dir.now) (g.D.Dir.faults c.purge.new.dir) in
    let a = c.args.store.now in
    let b = c.purge.new.self in
    purge-replies told a b x.follows k all x.rest d c.laws.ensures.rests.stands.sound.lawful.numbers.once (Ok c.from_vec.result)
    (subst (λ (l : List ℕ). Purges a.books.files b.books.files d l) (sym c.from_vec.ensures) x.purged) tt

pub returns-in-Err-clause-answered : goal.returns-in-Err-clause-answered
returns-in-Err-clause-answered g c told k all =
    let x = c.in-Err.ensures in
    let d = dir_seen (g.D.Dir.files c.args.dir.now) (g.D.Dir.files c.purge.new.dir) (g.D.Dir.faults c.args.dir.now) (g.D.Dir.faults c.purge.new.dir) in
    purge-replies told c.args.store.now c.purge.new.self x.follows k all x.rest d c.laws.ensures.rests.stands.sound.lawful.numbers.once (Err c.in-Err.refusal) tt x.stops

pub returns-in-Ok-clause-faults : goal.returns-in-Ok-clause-faults
returns-in-Ok-clause-faults g c =
    let x = c.in-Ok.ensures in
    let d = dir_seen (g.D.Dir.files c.args.dir.now) (g.D.Dir.files c.purge.new.dir) (g.D.Dir.faults c.args.dir.now) (g.D.Dir.faults c.purge.new.dir) in
    let a = c.args.store.now.books.files in
    let b = c.purge.new.self.books.files in
    purge-counts a b d (Ok c.from_vec.result) (subst (λ (l : List ℕ). Purges a b d l) (sym c.from_vec.ensures) x.purged) tt

pub returns-in-Err-clause-faults : goal.returns-in-Err-clause-faults
returns-in-Err-clause-faults g c =
    let x = c.in-Err.ensures in
    let d = dir_seen (g.D.Dir.files c.args.dir.now) (g.D.Dir.files c.purge.new.dir) (g.D.Dir.faults c.args.dir.now) (g.D.Dir.faults c.purge.new.dir) in
    purge-counts c.args.store.now.books.files c.purge.new.self.books.files d (Err c.in-Err.refusal) tt x.stops

pub returns-in-Ok-clause-purged : goal.returns-in-Ok-clause-purged
returns-in-Ok-clause-purged g c =
    let d = dir_seen (g.D.Dir.files c.args.dir.now) (g.D.Dir.files c.purge.new.dir) (g.D.Dir.faults c.args.dir.now) (g.D.Dir.faults c.purge.new.dir) in
    subst (λ (l : List ℕ). Purges c.args.store.now.books.files c.purge.new.self.books.files d l) (sym c.from_vec.ensures) c.in-Ok.ensures.purged

pub returns-in-Ok-clause-told : goal.returns-in-Ok-clause-told
returns-in-Ok-clause-told g c =
    let d = dir_seen (g.D.Dir.files c.args.dir.now) (g.D.Dir.files c.purge.new.dir) (g.D.Dir.faults c.args.dir.now) (g.D.Dir.faults c.purge.new.dir) in
    purge-told c.args.store.now.books.files c.purge.new.self.books.files d c.in-Ok.numbers.items c.in-Ok.ensures.purged

pub returns-in-Err-clause-told : goal.returns-in-Err-clause-told
returns-in-Err-clause-told g c =
    let d = dir_seen (g.D.Dir.files c.args.dir.now) (g.D.Dir.files c.purge.new.dir) (g.D.Dir.faults c.args.dir.now) (g.D.Dir.faults c.purge.new.dir) in
    purge-stop-told c.args.store.now.books.files c.purge.new.self.books.files d c.in-Err.refusal c.in-Err.ensures.stops

pub returns-in-Ok-clause-makes : goal.returns-in-Ok-clause-makes
returns-in-Ok-clause-makes g c =
    let x = c.in-Ok.ensures in
    let d = dir_seen (g.D.Dir.files c.args.dir.now) (g.D.Dir.files c.purge.new.dir) (g.D.Dir.faults c.args.dir.now) (g.D.Dir.faults c.purge.new.dir) in
    makes-files c.args.store.now c.purge.new.self (reply.Purge c.from_vec.result) refl refl x.rest
    (purge-next c.args.store.now.books.files c.purge.new.self.books.files d c.in-Ok.numbers.items x.purged)

pub returns-in-Err-clause-makes : goal.returns-in-Err-clause-makes
returns-in-Err-clause-makes g c =
    let x = c.in-Err.ensures in
    let d = dir_seen (g.D.Dir.files c.args.dir.now) (g.D.Dir.files c.purge.new.dir) (g.D.Dir.faults c.args.dir.now) (g.D.Dir.faults c.purge.new.dir) in
    makes-files c.args.store.now c.purge.new.self (reply.Refused c.in-Err.refusal) refl refl x.rest
    (purge-stop-next c.args.store.now.books.files c.purge.new.self.books.files d c.in-Err.refusal x.stops)
