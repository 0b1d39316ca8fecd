use Rattle.std.proofs.Common.{◌≡◌, ◌+◌, ◌↔◌, ◌∷◌, [], ◌++◌, ℕ, Bool, false, IsTrue, None, length, List, refl, sym, subst}
use Rattle.std.specs.BTreeMap.{UpdatesBy}
use Rattle.std.specs.Ordering.{nat_cmp}
use Rattle.std.specs.VecDeque.{deque_capacity}
use Rattle.sv_model.specs.declared.records.RegisteredFile.{RegisteredFile}
use Rattle.sv_model.specs.Lists.{In}
use Rattle.sv_model.specs.Summaries.{is_obsolete}
use Rattle.sv_model.proofs.Registers.{entry-new}
use Rattle.sv_files.specs.Kept.{AreKept}
use Rattle.sv_files.proofs.KeptLaws.{was-in, kept_front, is-set, IsSet}
use Rattle.sv_files.proofs.numbers.Numbers.take_back.Goals as goal

pub set-requires-clause-was : goal.set-requires-clause-was
set-requires-clause-was c =
    let l = c.take_last-last.new.self.items in
    let x = c.take_last-last.result in
    let kept = subst (λ (k : List RegisteredFile). AreKept k c.self.inside.places c.self.inside.obsolete.items (deque_capacity c.self.inside.obsolete)) c.take_last-last.ensures.items c.self.invariant in
    subst (λ (b : Bool). IsTrue b ↔ In c.number_of-number.result c.self.inside.obsolete.items) (sym c.is_obsolete-waited.ensures)
    (subst (λ (n : ℕ). IsTrue (is_obsolete x.status) ↔ In n c.self.inside.obsolete.items) (sym c.number_of-number.ensures)
    (was-in (l ++ x ∷ []) c.self.inside.obsolete.items (length l + 1) x kept.once kept.in_order (entry-new l x (length l + 1) refl)))

pub invariant_of-self : goal.invariant_of-self
invariant_of-self c =
    let l = c.take_last-last.new.self.items in
    let x = c.take_last-last.result in
    let kept = subst (λ (k : List RegisteredFile). AreKept k c.self.inside.places c.self.inside.obsolete.items (deque_capacity c.self.inside.obsolete)) c.take_last-last.ensures.items c.self.invariant in
    let number_is : c.number_of-number.result ≡ x.number = c.number_of-number.ensures in
    let set_is = subst (λ (n : ℕ). IsSet n (is_obsolete x.status) false c.self.inside.obsolete.items c.set.new.queue.items) number_is
    (is-set c.number_of-number.result c.is_obsolete-waited.result false (is_obsolete x.status) false c.self.inside.obsolete c.set.new.queue c.is_obsolete-waited.ensures refl c.set.ensures.rising c.set.ensures.now c.set.ensures.others c.set.ensures.len) in
    let updates = subst (λ (n : ℕ). UpdatesBy nat_cmp (nat_cmp n) c.self.inside.places c.remove.new.self None) number_is c.remove.ensures.updates in
    kept_front l c.self.inside.places c.remove.new.self c.self.inside.obsolete.items c.set.new.queue.items (deque_capacity c.self.inside.obsolete) (deque_capacity c.set.new.queue) x kept updates set_is c.set.ensures.capacity
