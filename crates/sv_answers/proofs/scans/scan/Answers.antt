use Rattle.sv_answers.proofs.ToldFiles.{scan-stop-told, scan-told}
use Rattle.std.proofs.Common.{List, ℕ, subst, sym, refl}
use Rattle.sv_script.specs.declared.commands.Command.TheVariants as command
use Rattle.sv_script.specs.declared.replies.Reply.TheVariants as reply
use Rattle.sv_replies.specs.Answers.{Answers}
use Rattle.sv_store.specs.Removals.{DirSeen}
use Rattle.sv_store.specs.Scanning.{Scans}
use Rattle.sv_answers.specs.Answered.{CountsReply, alone}
use Rattle.sv_answers.proofs.ScanAnswers.{refused-counts, scan-refused, scan-shown, shown-counts}
use Rattle.sv_answers.proofs.MakesAnswers.{makes-files}
use Rattle.sv_answers.proofs.PurgeNext.{scan-next, scan-stop-next}
use Rattle.sv_answers.proofs.scans.scan.Goals as goal

pub returns-in-Ok-clause-answered : goal.returns-in-Ok-clause-answered
returns-in-Ok-clause-answered g c told k all =
    let x = c.in-Ok.ensures in
    let a = c.args.store.now in
    let b = c.scan.new.self in
    let d : DirSeen = record { files = g.D.Dir.files c.args.dir.now; later = g.D.Dir.files c.scan.new.dir; before = g.D.Dir.faults c.args.dir.now; now = g.D.Dir.faults c.scan.new.dir } in
    subst (λ (numbers : List ℕ). Answers (alone told) a.books b.books k command.Scan (reply.Scan numbers)) (sym c.from_vec.ensures)
    (scan-shown told a b x.follows k all x.rest d c.laws.ensures.rests.stands.sound.lawful.numbers.once c.in-Ok.numbers.items x.scanned)

pub returns-in-Ok-clause-faults : goal.returns-in-Ok-clause-faults
returns-in-Ok-clause-faults g c =
    let d : DirSeen = record { files = g.D.Dir.files c.args.dir.now; later = g.D.Dir.files c.scan.new.dir; before = g.D.Dir.faults c.args.dir.now; now = g.D.Dir.faults c.scan.new.dir } in
    subst (λ (numbers : List ℕ). CountsReply (reply.Scan numbers) d.before d.now) (sym c.from_vec.ensures)
    (shown-counts c.args.store.now.books.files c.scan.new.self.books.files d c.in-Ok.numbers.items c.in-Ok.ensures.scanned)

pub returns-in-Err-clause-answered : goal.returns-in-Err-clause-answered
returns-in-Err-clause-answered g c told k all =
    let x = c.in-Err.ensures in
    let d : DirSeen = record { files = g.D.Dir.files c.args.dir.now; later = g.D.Dir.files c.scan.new.dir; before = g.D.Dir.faults c.args.dir.now; now = g.D.Dir.faults c.scan.new.dir } in
    scan-refused told c.args.store.now c.scan.new.self x.follows k all x.rest d c.in-Err.refusal x.stops

pub returns-in-Err-clause-faults : goal.returns-in-Err-clause-faults
returns-in-Err-clause-faults g c =
    let d : DirSeen = record { files = g.D.Dir.files c.args.dir.now; later = g.D.Dir.files c.scan.new.dir; before = g.D.Dir.faults c.args.dir.now; now = g.D.Dir.faults c.scan.new.dir } in
    refused-counts c.args.store.now.books.files c.scan.new.self.books.files d c.in-Err.refusal c.in-Err.ensures.stops

pub returns-in-Ok-clause-scanned : goal.returns-in-Ok-clause-scanned
returns-in-Ok-clause-scanned g c =
    let d : DirSeen = record { files = g.D.Dir.files c.args.dir.now; later = g.D.Dir.files c.scan.new.dir; before = g.D.Dir.faults c.args.dir.now; now = g.D.Dir.faults c.scan.new.dir } in
    subst (λ (numbers : List ℕ). Scans c.args.store.now.books.files c.scan.new.self.books.files d numbers) (sym c.from_vec.ensures) c.in-Ok.ensures.scanned

pub returns-in-Ok-clause-told : goal.returns-in-Ok-clause-told
returns-in-Ok-clause-told g c =
    let d : DirSeen = record { files = g.D.Dir.files c.args.dir.now; later = g.D.Dir.files c.scan.new.dir; before = g.D.Dir.faults c.args.dir.now; now = g.D.Dir.faults c.scan.new.dir } in
    scan-told c.args.store.now.books.files c.scan.new.self.books.files d c.in-Ok.numbers.items c.in-Ok.ensures.scanned

pub returns-in-Err-clause-told : goal.returns-in-Err-clause-told
returns-in-Err-clause-told g c =
    let d : DirSeen = record { files = g.D.Dir.files c.args.dir.now; later = g.D.Dir.files c.scan.new.dir; before = g.D.Dir.faults c.args.dir.now; now = g.D.Dir.faults c.scan.new.dir } in
    scan-stop-told c.args.store.now.books.files c.scan.new.self.books.files d c.in-Err.refusal c.in-Err.ensures.stops

pub returns-in-Ok-clause-makes : goal.returns-in-Ok-clause-makes
returns-in-Ok-clause-makes g c =
    let x = c.in-Ok.ensures in
    let d : DirSeen = record { files = g.D.Dir.files c.args.dir.now; later = g.D.Dir.files c.scan.new.dir; before = g.D.Dir.faults c.args.dir.now; now = g.D.Dir.faults c.scan.new.dir } in
    makes-files c.args.store.now c.scan.new.self (reply.Scan c.from_vec.result) refl refl x.rest
    (scan-next c.args.store.now.books.files c.scan.new.self.books.files d c.in-Ok.numbers.items x.scanned)

pub returns-in-Err-clause-makes : goal.returns-in-Err-clause-makes
returns-in-Err-clause-makes g c =
    let x = c.in-Err.ensures in
    let d : DirSeen = record { files = g.D.Dir.files c.args.dir.now; later = g.D.Dir.files c.scan.new.dir; before = g.D.Dir.faults c.args.dir.now; now = g.D.Dir.faults c.scan.new.dir } in
    makes-files c.args.store.now c.scan.new.self (reply.Refused c.in-Err.refusal) refl refl x.rest
    (scan-stop-next c.args.store.now.books.files c.scan.new.self.books.files d c.in-Err.refusal x.stops)
