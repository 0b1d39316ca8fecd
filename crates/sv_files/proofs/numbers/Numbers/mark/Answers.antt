use Rattle.std.proofs.Common.{◌≡◌, ◌<◌, ◌↔◌, Bool, IsTrue, IsSome, Option, ℕ, suc, List, set, arith, refl, sym, ap, subst, ◌∙◌}
use Rattle.std.specs.VecDeque.{deque_capacity, deque_len}
use Rattle.std.proofs.lemmas.Option.{get_or_from_slice_get, slice_get_within}
use Rattle.sv_model.specs.declared.records.RegisteredFile.{RegisteredFile}
use Rattle.sv_model.specs.Lists.{In}
use Rattle.sv_model.specs.Numbers.{IsMarked, registered}
use Rattle.sv_model.specs.Summaries.{is_obsolete}
use Rattle.sv_files.specs.Kept.{AreKept}
use Rattle.sv_files.proofs.Registered.{with_status}
use Rattle.sv_files.proofs.KeptLaws.{has-place, read-is, was-in, kept_mark, room-mark, is-set, IsSet}
use Rattle.sv_files.proofs.numbers.Numbers.mark.Goals as goal

pub position-at-requires : goal.position-at-requires
position-at-requires c =
    let p = has-place c.self.inside.places c.self.inside.files.items c.args.number c.self.invariant.positions (subst (λ (l : List RegisteredFile). 0 < registered c.args.number l) (sym c.self.view_is) c.requires) in
    subst (λ (o : Option ℕ). IsSome o) (sym p.1) refl

pub index-was-requires : goal.index-was-requires
index-was-requires c =
    let x = c.self.invariant.positions.found c.args.number c.position-at.result c.position-at.ensures in
    omega (arith, slice_get_within c.self.inside.files.items c.position-at.result x.0 x.1, c.self.inside.files.ok.0)

pub index_mut-file-requires : goal.index_mut-file-requires
index_mut-file-requires c =
    let x = c.self.invariant.positions.found c.args.number c.position-at.result c.position-at.ensures in
    omega (arith, slice_get_within c.self.inside.files.items c.position-at.result x.0 x.1, c.self.inside.files.ok.0)

pub set-requires-clause-was : goal.set-requires-clause-was
set-requires-clause-was c =
    let l = c.self.inside.files.items in
    let x = c.index-was.result.now in
    let r = read-is c.self.inside.places l c.args.number c.position-at.result x c.self.invariant.positions c.position-at.ensures c.index-was.ensures in
    subst (λ (b : Bool). IsTrue b ↔ In c.args.number c.self.inside.obsolete.items) (sym c.is_obsolete.ensures)
    (subst (λ (n : ℕ). IsTrue (is_obsolete x.status) ↔ In n c.self.inside.obsolete.items) r.1
    (was-in l c.self.inside.obsolete.items (suc c.position-at.result) x c.self.invariant.once c.self.invariant.in_order r.0))

pub set-requires-clause-room : goal.set-requires-clause-room
set-requires-clause-room c =
    let l = c.self.inside.files.items in
    let x = c.index-was.result.now in
    let r = read-is c.self.inside.places l c.args.number c.position-at.result x c.self.invariant.positions c.position-at.ensures c.index-was.ensures in
    room-mark l c.self.inside.places c.self.inside.obsolete.items (deque_len c.self.inside.obsolete) (deque_capacity c.self.inside.obsolete) c.self.invariant c.position-at.result x c.args.now c.is_obsolete.result c.is_obsolete-2.result r.0 c.self.inside.obsolete.ok.0 c.is_obsolete.ensures c.is_obsolete-2.ensures

pub invariant_of-self : goal.invariant_of-self
invariant_of-self c =
    let l = c.self.inside.files.items in
    let x = c.index-was.result.now in
    let r = read-is c.self.inside.places l c.args.number c.position-at.result x c.self.invariant.positions c.position-at.ensures c.index-was.ensures in
    let is : c.index_mut-file.result.now ≡ x = c.index_mut-file.ensures.value ∙ get_or_from_slice_get l c.position-at.result x c.index_mut-file.result.now r.0 in
    let set_is = subst (λ (n : ℕ). IsSet n (is_obsolete x.status) (is_obsolete c.args.now) c.self.inside.obsolete.items c.set.new.queue.items) (sym r.1)
    (is-set c.args.number c.is_obsolete.result c.is_obsolete-2.result (is_obsolete x.status) (is_obsolete c.args.now) c.self.inside.obsolete c.set.new.queue c.is_obsolete.ensures c.is_obsolete-2.ensures c.set.ensures.rising c.set.ensures.now c.set.ensures.others c.set.ensures.len) in
    subst (λ (z : RegisteredFile). AreKept (set l c.position-at.result (with_status z c.args.now)) c.self.inside.places c.set.new.queue.items (deque_capacity c.set.new.queue)) (sym is)
    (kept_mark l c.self.inside.places c.self.inside.obsolete.items c.set.new.queue.items (deque_capacity c.self.inside.obsolete) (deque_capacity c.set.new.queue) c.self.invariant c.position-at.result x c.args.now r.0 set_is c.set.ensures.capacity)

pub returns : goal.returns
returns c =
    let l = c.self.inside.files.items in
    let x = c.index-was.result.now in
    let r = read-is c.self.inside.places l c.args.number c.position-at.result x c.self.invariant.positions c.position-at.ensures c.index-was.ensures in
    let is : c.index_mut-file.result.now ≡ x = c.index_mut-file.ensures.value ∙ get_or_from_slice_get l c.position-at.result x c.index_mut-file.result.now r.0 in
    let there : (m : IsMarked c.args.number x.status c.args.now l (set l c.position-at.result (with_status x c.args.now))) × (m.it ≡ x) =
    (record { at = suc c.position-at.result; it = x; found = r.0; had = record { number_is = r.1; status_is = refl }; marked = refl }, refl) in
    record {
      once = omega (arith, c.self.invariant.once c.args.number, ap (registered c.args.number) c.self.view_is);
      marked = subst (λ (old : List RegisteredFile). (m : IsMarked c.args.number x.status c.args.now old (set l c.position-at.result (with_status c.index_mut-file.result.now c.args.now))) × (m.it ≡ x)) c.self.view_is
          (subst (λ (z : RegisteredFile). (m : IsMarked c.args.number x.status c.args.now l (set l c.position-at.result (with_status z c.args.now))) × (m.it ≡ x)) (sym is) there);
    }
