use Rattle.sv_model.specs.Numbers.{IsReady}
use Rattle.sv_files.proofs.BookLaws.{in-order-map, ready-is}
use Rattle.sv_files.proofs.book.FileBook.ready.Goals as goal

pub returns-in_err-found-clause-none : goal.returns-in_err-found-clause-none
returns-in_err-found-clause-none c none =
    let n = c.in_err-found.ensures.none in
    absurd (none n.0 ((ready-is _ c.args.self.now c.bound.result n.0 c.self.view_is c.bound.ensures).0 (n.1, n.2)))

pub returns-clause-ready : goal.returns-clause-ready
returns-clause-ready c =
    in-order-map _ (IsReady c.args.self.now) c.in_ok-found.found.items (λ n. ready-is _ c.args.self.now c.bound.result n c.self.view_is c.bound.ensures) c.in_ok-found.ensures.found
