use Rattle.std.proofs.Common.{◌≡◌, ◌+◌, ◌≤◌, ◌∷◌, [], ◌++◌, ℕ, false, Some, length, List, arith, refl, sym, ap, subst, ◌∙◌}
use Rattle.std.specs.BTreeMap.{UpdatesBy}
use Rattle.std.specs.Ordering.{nat_cmp}
use Rattle.std.specs.VecDeque.{deque_capacity}
use Rattle.sv_model.specs.declared.records.RegisteredFile.{RegisteredFile}
use Rattle.sv_model.specs.declared.records.FileStatus.TheVariants.{Obsolete}
use Rattle.sv_model.specs.Lists.{In}
use Rattle.sv_model.specs.Numbers.{registered}
use Rattle.sv_model.specs.Summaries.{is_obsolete}
use Rattle.sv_files.specs.Kept.{AreKept}
use Rattle.sv_files.proofs.AnswerLaws.{ok_holds}
use Rattle.sv_files.proofs.Registered.{bit-le, count-le, registered-some}
use Rattle.sv_files.proofs.KeptLaws.{kept_push, is-set, IsSet}
use Rattle.sv_files.proofs.numbers.Numbers.push.Goals as goal

pub overflow_sub-room : goal.overflow_sub-room
overflow_sub-room c =
    omega (arith, c.self.invariant.counted, count-le c.self.inside.files.items, c.self.inside.files.ok.0, c.self.inside.obsolete.ok.0)

pub set-requires-clause-was : goal.set-requires-clause-was
set-requires-clause-was c = (
  λ e. absurd (cc),
  λ there. absurd (
      let r = (c.self.invariant.in_order.exact c.args.number).0 (subst (In c.args.number) c.reserve-2.ensures.items there) in
      let some = registered-some c.self.inside.files.items c.args.number Obsolete r in
      omega (arith, c.requires, ap (registered c.args.number) c.self.view_is)),
)

pub set-requires-clause-room : goal.set-requires-clause-room
set-requires-clause-room c =
    let bit = bit-le c.is_obsolete.result in
    omega (arith, c.in_ok-reserve-2.ensures.ok, c.self.invariant.counted, count-le c.self.inside.files.items, c.self.inside.files.ok.0, c.self.inside.obsolete.ok.0)

pub invariant_of-self-2 : goal.invariant_of-self-2
invariant_of-self-2 c =
    let l = c.self.inside.files.items in
    let y : RegisteredFile = record { number = c.args.number; status = c.args.status; family = c.args.family } in
    let pushed : c.push_reserved.new.self.items ≡ l ++ y ∷ [] = c.push_reserved.ensures.items ∙ ap (λ (k : List RegisteredFile). k ++ y ∷ []) c.reserve.ensures.items in
    let len : c.len-at.result ≡ length l = omega (arith, c.self.inside.files.ok.0) in
    let updates : UpdatesBy nat_cmp (nat_cmp c.args.number) c.self.inside.places c.insert.new.self (Some (length l)) =
    subst (λ (k : ℕ). UpdatesBy nat_cmp (nat_cmp c.args.number) c.self.inside.places c.insert.new.self (Some k)) len
    (ok_holds c.insert.result _ (sym c.is_err.ensures.value ∙ c.if-is_err.false) c.insert.ensures.updates) in
    let set_is : IsSet c.args.number false (is_obsolete c.args.status) c.self.inside.obsolete.items c.set.new.queue.items =
    subst (λ (q : List ℕ). IsSet c.args.number false (is_obsolete c.args.status) q c.set.new.queue.items) c.reserve-2.ensures.items
    (is-set c.args.number false c.is_obsolete.result false (is_obsolete c.args.status) c.reserve-2.new.self c.set.new.queue refl c.is_obsolete.ensures c.set.ensures.rising c.set.ensures.now c.set.ensures.others c.set.ensures.len) in
    let wide : length l + 1 ≤ deque_capacity c.set.new.queue =
    omega (arith, c.in_ok-reserve-2.ensures.ok, c.set.ensures.capacity, c.self.invariant.counted, count-le l, c.self.inside.files.ok.0, c.self.inside.obsolete.ok.0) in
    subst (λ (k : List RegisteredFile). AreKept k c.insert.new.self c.set.new.queue.items (deque_capacity c.set.new.queue)) (sym pushed)
    (kept_push l c.self.inside.places c.self.inside.obsolete.items c.set.new.queue.items (deque_capacity c.self.inside.obsolete) (deque_capacity c.set.new.queue) c.self.invariant c.insert.new.self y (ap (registered c.args.number) c.self.view_is ∙ c.requires) updates set_is wide)
