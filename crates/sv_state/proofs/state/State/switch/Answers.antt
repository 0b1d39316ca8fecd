use Rattle.std.proofs.Common.{◌≡◌, ◌+◌, ◌∷◌, ◌++◌, ℕ, [], length, Option, Some, refl, sym, ap, ◌∙◌, subst}
use Rattle.sv_model.specs.declared.records.Descriptor.{Descriptor}
use Rattle.sv_model.specs.Books.{Books}
use Rattle.sv_model.specs.Named.{IsLiveList}
use Rattle.sv_model.specs.Registers.{entry}
use Rattle.sv_laws.specs.NewCurrents.{IsSwitched}
use Rattle.sv_laws.proofs.GrownRegisters.{get_within}
use Rattle.sv_laws.proofs.Needs.{few-members}
use Rattle.sv_laws.proofs.OpenFamilies.{list-lives}
use Rattle.sv_objects.specs.declared.bodies.Body.{Body}
use Rattle.sv_objects.specs.declared.objects.Objects.{Objects}
use Rattle.sv_objects.specs.Cleanups.{with_objects}
use Rattle.sv_state.specs.Follows.{Follows}
use Rattle.sv_state.specs.Refs.{IsState}
use Rattle.sv_state.specs.Seen.{StateSeen}
use Rattle.sv_state.specs.Views.{books_of}
use Rattle.sv_state.specs.Writing.{CanSwitch, TellsSwitch}
use Rattle.sv_state.proofs.Calls.{follows, same-books}
use Rattle.sv_state.proofs.Closings.{sets-state}
use Rattle.sv_state.proofs.References.{old-ref}
use Rattle.sv_state.proofs.Switches.{fresh_at, is-switched, switch-law, switch-ref, vacant_is}
use Rattle.sv_state.proofs.Finding.{open-body}
use Rattle.sv_state.proofs.state.State.switch.Goals as goal

pub make_switched-requires-clause-live : goal.make_switched-requires-clause-live
make_switched-requires-clause-live c =
    let i = c.self.inside in
    let a : Books = books_of i in
    let k = c.self.invariant.sound in
    let f = c.args.family in
    let can : CanSwitch a f c.args.frozen.value = subst (λ (z : StateSeen). CanSwitch z.books f c.args.frozen.value) (sym c.self.view_is) c.requires in
    let old : Body = c.body_at-body.result.now in
    let w = open-body a i.held.items c.self.invariant f can.serial can.it can.is_open old c.body_at-body.ensures in
    let d_is = w.descriptor_is in
    subst (λ (z : Descriptor). IsLiveList i.objects.lists z.list) (sym d_is) (list-lives a k f can.serial can.it can.is_open)

pub make_switched-requires-clause-short : goal.make_switched-requires-clause-short
make_switched-requires-clause-short c l e =
    let i = c.self.inside in
    let a : Books = books_of i in
    let k = c.self.invariant.sound in
    let f = c.args.family in
    let can : CanSwitch a f c.args.frozen.value = subst (λ (z : StateSeen). CanSwitch z.books f c.args.frozen.value) (sym c.self.view_is) c.requires in
    let old : Body = c.body_at-body.result.now in
    let w = open-body a i.held.items c.self.invariant f can.serial can.it can.is_open old c.body_at-body.ensures in
    let d_is = w.descriptor_is in
    few-members a k f can.serial can.it can.is_open can.row l (ap (λ (z : Descriptor). entry i.objects.lists z.list) (sym d_is) ∙ e)

pub returns-in_err-made-clause-follows : goal.returns-in_err-made-clause-follows
returns-in_err-made-clause-follows c =
    let i = c.self.inside in
    let a : Books = books_of i in
    let b : Books = with_objects a c.make_switched.new.self in
    subst (λ (z : StateSeen). Follows z.books b) c.self.view_is (follows a b (same-books a b c.self.invariant.sound (ap (λ (o : Objects). with_objects a o) c.in_err-made.ensures.kept)))

pub put_current-old-requires-clause-within : goal.put_current-old-requires-clause-within
put_current-old-requires-clause-within c =
    let a : Books = books_of c.self.inside in
    let can : CanSwitch a c.args.family c.args.frozen.value = subst (λ (z : StateSeen). CanSwitch z.books c.args.family c.args.frozen.value) (sym c.self.view_is) c.requires in
    get_within a.tops c.args.family can.is_open.current.top can.is_open.current.at

pub invariant_of-self-2 : goal.invariant_of-self-2
invariant_of-self-2 c =
    let i = c.self.inside in
    let a : Books = books_of i in
    let k = c.self.invariant.sound in
    let f = c.args.family in
    let can : CanSwitch a f c.args.frozen.value = subst (λ (z : StateSeen). CanSwitch z.books f c.args.frozen.value) (sym c.self.view_is) c.requires in
    let old : Body = c.body_at-body.result.now in
    let w = open-body a i.held.items c.self.invariant f can.serial can.it can.is_open old c.body_at-body.ensures in
    let d_is = w.descriptor_is in
    let p = c.make_switched.new.self in
    let made = c.in_ok-made.made in
    let m = c.in_ok-made.ensures.made in
    let T = c.put_current-old.new.tops.items in
    let T_is = c.put_current-old.ensures.tops (length i.objects.supers + 1) m.ref.place m.ref.room.within m.ref.pack_is in
    let new : Books = record (with_objects a p) { tops = T } in
    let r = switch-ref a i.objects p k f old.cell c.args.frozen.value can old.descriptor d_is c.written-base.result c.written-base.ensures c.push.new.self made.pack made.body.value m T T_is old w refl (c.in_ok-push.ensures.frozen ∙ ap (λ l. l ++ (old.cell, c.args.frozen.value) ∷ []) c.in_ok-held.ensures.frozen) (ap (λ z. z.items) c.push.ensures.files ∙ c.in_ok-held.ensures.files) in
    subst (IsState new) (sym c.put_current-old.ensures.held)
    (sets-state a new i.held.items c.self.invariant (switch-law a i.objects p k f old.cell c.args.frozen.value can old.descriptor d_is c.written-base.result c.written-base.ensures c.push.new.self made.pack made.body.value m T T_is) f can.is_open.current.top (record { current = Some (length i.objects.supers + 1); last = made.body.value.descriptor.version }) (Some made) can.is_open.current.at T_is r)

pub returns-clause-switched : goal.returns-clause-switched
returns-clause-switched c =
    let i = c.self.inside in
    let a : Books = books_of i in
    let k = c.self.invariant.sound in
    let f = c.args.family in
    let can : CanSwitch a f c.args.frozen.value = subst (λ (z : StateSeen). CanSwitch z.books f c.args.frozen.value) (sym c.self.view_is) c.requires in
    let old : Body = c.body_at-body.result.now in
    let w = open-body a i.held.items c.self.invariant f can.serial can.it can.is_open old c.body_at-body.ensures in
    let d_is = w.descriptor_is in
    let p = c.make_switched.new.self in
    let made = c.in_ok-made.made in
    let m = c.in_ok-made.ensures.made in
    let T = c.put_current-old.new.tops.items in
    let T_is = c.put_current-old.ensures.tops (length i.objects.supers + 1) m.ref.place m.ref.room.within m.ref.pack_is in
    let new : Books = record (with_objects a p) { tops = T } in
    subst (λ (z : StateSeen). IsSwitched z.books new f) c.self.view_is (is-switched a i.objects p k f old.cell c.args.frozen.value can old.descriptor d_is c.written-base.result c.written-base.ensures c.push.new.self made.pack made.body.value m T T_is)

pub returns-clause-tells : goal.returns-clause-tells
returns-clause-tells c =
    let i = c.self.inside in
    let a : Books = books_of i in
    let k = c.self.invariant.sound in
    let f = c.args.family in
    let can : CanSwitch a f c.args.frozen.value = subst (λ (z : StateSeen). CanSwitch z.books f c.args.frozen.value) (sym c.self.view_is) c.requires in
    let old : Body = c.body_at-body.result.now in
    let w = open-body a i.held.items c.self.invariant f can.serial can.it can.is_open old c.body_at-body.ensures in
    let d_is = w.descriptor_is in
    let p = c.make_switched.new.self in
    let made = c.in_ok-made.made in
    let m = c.in_ok-made.ensures.made in
    let T = c.put_current-old.new.tops.items in
    let T_is = c.put_current-old.ensures.tops (length i.objects.supers + 1) m.ref.place m.ref.room.within m.ref.pack_is in
    let new : Books = record (with_objects a p) { tops = T } in
    let r = switch-ref a i.objects p k f old.cell c.args.frozen.value can old.descriptor d_is c.written-base.result c.written-base.ensures c.push.new.self made.pack made.body.value m T T_is old w refl (c.in_ok-push.ensures.frozen ∙ ap (λ l. l ++ (old.cell, c.args.frozen.value) ∷ []) c.in_ok-held.ensures.frozen) (ap (λ z. z.items) c.push.ensures.files ∙ c.in_ok-held.ensures.files) in
    let vacant : ◌≡◌ {A = Option (ℕ × ℕ)} (Some (c.deref.result.now.cell, c.deref-2.result.now.descriptor.active)) (Some (made.body.value.cell, made.body.value.descriptor.active)) =
    (λ j. Some ((c.deref.ensures j).cell, (c.deref-2.ensures j).descriptor.active)) in
    subst (λ (z : StateSeen). TellsSwitch z.books new f (record { family = f; new = made.pack; old = c.put_current-old.result; vacant = Some (c.deref.result.now.cell, c.deref-2.result.now.descriptor.active) })) c.self.view_is (record {
      tells = record {
        family_is = refl;
        it = r.it;
        at = r.at;
        new_is = r.pack_is;
        old = old-ref a i.held.items c.self.invariant.kept f c.put_current-old.result c.put_current-old.ensures.old;
      };
      memtable = _;
      memtable_at = fresh_at a i.objects p k f old.cell c.args.frozen.value can old.descriptor d_is c.written-base.result c.written-base.ensures c.push.new.self made.pack made.body.value m T T_is;
      vacant = vacant ∙ vacant_is a i.objects p k f old.cell c.args.frozen.value can old.descriptor d_is c.written-base.result c.written-base.ensures c.push.new.self made.pack made.body.value m T T_is;
    })

pub returns-clause-follows : goal.returns-clause-follows
returns-clause-follows c =
    let i = c.self.inside in
    let a : Books = books_of i in
    let k = c.self.invariant.sound in
    let f = c.args.family in
    let can : CanSwitch a f c.args.frozen.value = subst (λ (z : StateSeen). CanSwitch z.books f c.args.frozen.value) (sym c.self.view_is) c.requires in
    let old : Body = c.body_at-body.result.now in
    let w = open-body a i.held.items c.self.invariant f can.serial can.it can.is_open old c.body_at-body.ensures in
    let d_is = w.descriptor_is in
    let p = c.make_switched.new.self in
    let made = c.in_ok-made.made in
    let m = c.in_ok-made.ensures.made in
    let T = c.put_current-old.new.tops.items in
    let T_is = c.put_current-old.ensures.tops (length i.objects.supers + 1) m.ref.place m.ref.room.within m.ref.pack_is in
    let new : Books = record (with_objects a p) { tops = T } in
    subst (λ (z : StateSeen). Follows z.books new) c.self.view_is (follows a new (switch-law a i.objects p k f old.cell c.args.frozen.value can old.descriptor d_is c.written-base.result c.written-base.ensures c.push.new.self made.pack made.body.value m T T_is))
