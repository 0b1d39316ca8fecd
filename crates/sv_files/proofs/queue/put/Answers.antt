use Rattle.std.proofs.Common.{◌≡◌, ◌≤◌, Ok, Err, arith, sym, subst}
use Rattle.std.specs.List.{insert}
use Rattle.std.specs.List.Sorted.{IsStrictlyIncreasing}
use Rattle.std.specs.VecDeque.{deque_len, deque_capacity}
use Rattle.sv_model.specs.Lists.{In}
use Rattle.sv_files.proofs.AnswerLaws.{fine_holds}
use Rattle.sv_files.proofs.AscendingNumbers.{Searches, search-rising, found-in, insert_rising, insert_has, insert-old, insert_in}
use Rattle.sv_files.proofs.queue.put.Goals as goal

searched : (c : goal.After-insert) → Searches c.args.queue.now.items c.args.number (Err c.in-Err.at)
searched c = search-rising c.args.queue.now.items c.args.number (Err c.in-Err.at) c.requires.rising c.in-Err.ensures.position

items : (c : goal.After-insert) → insert c.args.queue.now.items c.in-Err.at c.args.number ≡ c.insert.new.self.items
items c = sym (fine_holds c.insert.result (deque_capacity c.args.queue.now ≤ deque_len c.args.queue.now) (c.insert.new.self.items ≡ insert c.args.queue.now.items c.in-Err.at c.args.number) c.insert.ensures.full (λ full. omega (arith, c.requires.room)) c.insert.ensures.items)

pub returns-in-Err-clause-rising : goal.returns-in-Err-clause-rising
returns-in-Err-clause-rising c =
    subst IsStrictlyIncreasing (items c) (insert_rising c.args.queue.now.items c.in-Err.at c.args.number c.requires.rising (searched c))

pub returns-in-Err-clause-has : goal.returns-in-Err-clause-has
returns-in-Err-clause-has c =
    subst (In c.args.number) (items c) (insert_has c.args.queue.now.items c.in-Err.at c.args.number c.requires.rising (searched c))

pub returns-in-Err-clause-others : goal.returns-in-Err-clause-others
returns-in-Err-clause-others c n apart = (
  λ there. insert_in c.args.queue.now.items c.in-Err.at c.args.number c.requires.rising (searched c) n apart (subst (In n) (sym (items c)) there),
  λ there. subst (In n) (items c) (insert-old c.args.queue.now.items c.in-Err.at c.args.number c.requires.rising (searched c) n there),
)

there : (c : goal.In_default) → In c.args.number c.args.queue.now.items
there c =
    found-in c.args.queue.now.items c.args.number c.in_default.field-0 (search-rising c.args.queue.now.items c.args.number (Ok c.in_default.field-0) c.requires.rising c.in_default.ensures.position)

pub returns-in_default-clause-has : goal.returns-in_default-clause-has
returns-in_default-clause-has c = there c

pub returns-in_default-clause-len : goal.returns-in_default-clause-len
returns-in_default-clause-len c = absurd (c.requires.new (there c))
