use Rattle.std.proofs.Common.{◌≡◌, Ok, Err, sym, subst}
use Rattle.std.specs.List.{remove}
use Rattle.sv_model.specs.Lists.{In}
use Rattle.sv_files.proofs.AnswerLaws.{some_holds}
use Rattle.sv_files.proofs.AscendingNumbers.{Searches, search-rising, missed-in, remove_gone, remove_in, remove-old}
use Rattle.sv_files.proofs.queue.take.Goals as goal

searched : (c : goal.After-remove) → Searches c.args.queue.now.items c.args.number (Ok c.in-Ok.at)
searched c = search-rising c.args.queue.now.items c.args.number (Ok c.in-Ok.at) c.requires.rising c.in-Ok.ensures.position

items : (c : goal.After-remove) → remove c.args.queue.now.items c.in-Ok.at ≡ c.remove.new.self.items
items c = sym (some_holds c.remove.result (c.remove.new.self.items ≡ remove c.args.queue.now.items c.in-Ok.at) (c.remove.ensures.variant.1 c.in-Ok.ensures.bound) c.remove.ensures.items)

pub returns-in-Ok-clause-gone : goal.returns-in-Ok-clause-gone
returns-in-Ok-clause-gone c there =
    remove_gone c.args.queue.now.items c.in-Ok.at c.args.number c.requires.rising (searched c) (subst (In c.args.number) (sym (items c)) there)

pub returns-in-Ok-clause-others : goal.returns-in-Ok-clause-others
returns-in-Ok-clause-others c n apart = (
  λ there. remove_in c.args.queue.now.items c.in-Ok.at c.args.number c.requires.rising (searched c) n (subst (In n) (sym (items c)) there),
  λ there. subst (In n) (items c) (remove-old c.args.queue.now.items c.in-Ok.at c.args.number c.requires.rising (searched c) n apart there),
)

-- the search finds the number
never : (c : goal.In_default) → ⊥
never c =
    missed-in c.args.queue.now.items c.args.number c.in_default.field-0 (search-rising c.args.queue.now.items c.args.number (Err c.in_default.field-0) c.requires.rising c.in_default.ensures.position) c.requires.has

pub returns-in_default-clause-gone : goal.returns-in_default-clause-gone
returns-in_default-clause-gone c there = never c

pub returns-in_default-clause-len : goal.returns-in_default-clause-len
returns-in_default-clause-len c = absurd (never c)
