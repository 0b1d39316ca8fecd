use Rattle.std.proofs.Common.{◌≡◌, ◌+◌, ◌∷◌, ◌++◌, ℕ, List, [], length, Option, Some, None, sym, ap, ◌∙◌, subst, arith}
use Rattle.sv_model.specs.declared.records.Top.{Top}
use Rattle.sv_model.specs.declared.sv_refs.SvRef.{SvRef}
use Rattle.sv_model.specs.Books.{Books}
use Rattle.sv_family.specs.Calls.{new_family}
use Rattle.sv_laws.specs.NewCurrents.{IsFamilyMade}
use Rattle.sv_laws.proofs.GrownRegisters.{get_within}
use Rattle.sv_objects.specs.declared.bodies.Body.{Body}
use Rattle.sv_objects.specs.Cleanups.{with_objects}
use Rattle.sv_state.specs.Follows.{Follows}
use Rattle.sv_state.specs.Refs.{IsState}
use Rattle.sv_state.specs.Seen.{StateSeen}
use Rattle.sv_state.specs.Views.{books_of}
use Rattle.sv_state.specs.Writing.{TellsSwitch}
use Rattle.sv_state.proofs.Calls.{follows, same-books}
use Rattle.sv_state.proofs.Creations.{fresh_at, is-made, made-law, made-ref, pushes-state, taken_back, vacant_is}
use Rattle.sv_state.proofs.state.State.create.Goals as goal

pub returns-in_default-clause-follows : goal.returns-in_default-clause-follows
returns-in_default-clause-follows c =
    let a : Books = books_of c.self.inside in
    let b : Books = record a { tops = c.reserve.new.self.items } in
    subst (λ (z : StateSeen). Follows z.books b) c.self.view_is (follows a b (same-books a b c.self.invariant.sound (ap (λ (l : List Top). record a { tops = l }) c.reserve.ensures.items)))

pub returns-in_default-reserve-clause-follows : goal.returns-in_default-reserve-clause-follows
returns-in_default-reserve-clause-follows c =
    let a : Books = books_of c.self.inside in
    let b : Books = record a { tops = c.reserve.new.self.items } in
    subst (λ (z : StateSeen). Follows z.books b) c.self.view_is (follows a b (same-books a b c.self.invariant.sound (ap (λ (l : List Top). record a { tops = l }) c.reserve.ensures.items)))

pub returns-in_err-family-clause-follows : goal.returns-in_err-family-clause-follows
returns-in_err-family-clause-follows c =
    let a : Books = books_of c.self.inside in
    let b : Books = record a { families = c.create.new.self; tops = c.reserve.new.self.items } in
    subst (λ (z : StateSeen). Follows z.books b) c.self.view_is (follows a b (same-books a b c.self.invariant.sound (λ i. record a { families = c.in_err-family.ensures.kept i; tops = c.reserve.ensures.items i })))

pub returns-in-Err-clause-follows : goal.returns-in-Err-clause-follows
returns-in-Err-clause-follows c =
    let a : Books = books_of c.self.inside in
    let b : Books = record (with_objects a c.make_family.new.self) { families = c.take_back.new.self; tops = c.reserve.new.self.items } in
    let families = taken_back a.families c.create.new.self c.take_back.new.self (new_family c.args.lane c.args.name.now) c.take_back.ensures.undone.0 c.in_ok-family.ensures.made.made c.take_back.ensures.undone.1 in
    subst (λ (z : StateSeen). Follows z.books b) c.self.view_is (follows a b (same-books a b c.self.invariant.sound (λ i. record (with_objects a (c.in-Err.ensures.kept i)) { families = families i; tops = c.reserve.ensures.items i })))

pub invariant_of-self-2 : goal.invariant_of-self-2
invariant_of-self-2 c =
    let i = c.self.inside in
    let a : Books = books_of i in
    let k = c.self.invariant.sound in
    let o = i.objects in
    let p = c.make_family.new.self in
    let made = c.in-Ok-make_family.made in
    let m = c.in-Ok-make_family.ensures.made in
    let F = c.create.new.self in
    let T = c.push_reserved.new.self.items in
    let top = c.top_of.ensures (length o.supers + 1) m.place m.room.within m.pack_is in
    let T_is = c.push_reserved.ensures.items ∙ (λ j. c.reserve.ensures.items j ++ top j ∷ []) in
    let new : Books = record (with_objects a p) { families = F; tops = T } in
    let held : c.push_reserved-2.new.self.items ≡ i.held.items ++ Some made ∷ [] = c.push_reserved-2.ensures.items ∙ ap (λ (l : List (Option (SvRef Body))). l ++ Some made ∷ []) c.reserve-2.ensures.items in
    subst (IsState new) (sym held)
    (pushes-state a new i.held.items c.self.invariant (made-law a o p k c.args.lane c.args.name.now c.in_ok-family.family F c.in_ok-family.ensures.made c.in_ok-family.ensures.lawful made.pack made.body.value m T T_is) (record { current = Some (length o.supers + 1); last = made.body.value.descriptor.version }) (Some made) T_is (made-ref a o p k c.args.lane c.args.name.now c.in_ok-family.family F c.in_ok-family.ensures.made c.in_ok-family.ensures.lawful made.pack made.body.value m T T_is))

pub returns-clause-made : goal.returns-clause-made
returns-clause-made c =
    let i = c.self.inside in
    let a : Books = books_of i in
    let k = c.self.invariant.sound in
    let o = i.objects in
    let p = c.make_family.new.self in
    let made = c.in-Ok-make_family.made in
    let m = c.in-Ok-make_family.ensures.made in
    let F = c.create.new.self in
    let T = c.push_reserved.new.self.items in
    let top = c.top_of.ensures (length o.supers + 1) m.place m.room.within m.pack_is in
    let T_is = c.push_reserved.ensures.items ∙ (λ j. c.reserve.ensures.items j ++ top j ∷ []) in
    let new : Books = record (with_objects a p) { families = F; tops = T } in
    subst (λ (z : StateSeen). IsFamilyMade z.books new (new_family c.args.lane c.args.name.now)) c.self.view_is (is-made a o p k c.args.lane c.args.name.now c.in_ok-family.family F c.in_ok-family.ensures.made c.in_ok-family.ensures.lawful made.pack made.body.value m T T_is)

pub returns-clause-tells : goal.returns-clause-tells
returns-clause-tells c =
    let i = c.self.inside in
    let a : Books = books_of i in
    let k = c.self.invariant.sound in
    let o = i.objects in
    let p = c.make_family.new.self in
    let made = c.in-Ok-make_family.made in
    let m = c.in-Ok-make_family.ensures.made in
    let F = c.create.new.self in
    let T = c.push_reserved.new.self.items in
    let top = c.top_of.ensures (length o.supers + 1) m.place m.room.within m.pack_is in
    let T_is = c.push_reserved.ensures.items ∙ (λ j. c.reserve.ensures.items j ++ top j ∷ []) in
    let new : Books = record (with_objects a p) { families = F; tops = T } in
    let r = made-ref a o p k c.args.lane c.args.name.now c.in_ok-family.family F c.in_ok-family.ensures.made c.in_ok-family.ensures.lawful made.pack made.body.value m T T_is in
    let vacant : ◌≡◌ {A = Option (ℕ × ℕ)} (Some (c.deref.result.now.cell, c.deref-2.result.now.descriptor.active)) (Some (made.body.value.cell, made.body.value.descriptor.active)) =
    (λ j. Some ((c.deref.ensures j).cell, (c.deref-2.ensures j).descriptor.active)) in
    subst (λ (z : StateSeen). TellsSwitch z.books new (length z.books.families) (record { family = c.in_ok-family.family; new = made.pack; old = None; vacant = Some (c.deref.result.now.cell, c.deref-2.result.now.descriptor.active) })) c.self.view_is (record {
      tells = record {
        family_is = c.in_ok-family.ensures.made.next;
        it = r.it;
        at = r.at;
        new_is = r.pack_is;
        old = λ t e. absurd (omega (arith, get_within a.tops (length a.families) t e, k.lawful.paired));
      };
      memtable = _;
      memtable_at = fresh_at a o p k c.args.lane c.args.name.now c.in_ok-family.family F c.in_ok-family.ensures.made c.in_ok-family.ensures.lawful made.pack made.body.value m T T_is;
      vacant = vacant ∙ vacant_is a o p k c.args.lane c.args.name.now c.in_ok-family.family F c.in_ok-family.ensures.made c.in_ok-family.ensures.lawful made.pack made.body.value m T T_is;
    })

pub returns-clause-follows : goal.returns-clause-follows
returns-clause-follows c =
    let i = c.self.inside in
    let a : Books = books_of i in
    let k = c.self.invariant.sound in
    let o = i.objects in
    let p = c.make_family.new.self in
    let made = c.in-Ok-make_family.made in
    let m = c.in-Ok-make_family.ensures.made in
    let F = c.create.new.self in
    let T = c.push_reserved.new.self.items in
    let top = c.top_of.ensures (length o.supers + 1) m.place m.room.within m.pack_is in
    let T_is = c.push_reserved.ensures.items ∙ (λ j. c.reserve.ensures.items j ++ top j ∷ []) in
    let new : Books = record (with_objects a p) { families = F; tops = T } in
    subst (λ (z : StateSeen). Follows z.books new) c.self.view_is (follows a new (made-law a o p k c.args.lane c.args.name.now c.in_ok-family.family F c.in_ok-family.ensures.made c.in_ok-family.ensures.lawful made.pack made.body.value m T T_is))
