use Rattle.std.proofs.Common.{◌≡◌, ◌+◌, ℕ, suc, List, length, Some, None, refl, sym, ap, ◌∙◌, subst}
use Rattle.std.specs.Prelude.{slice_get, slice_set}
use Rattle.sv_model.specs.declared.records.Descriptor.{Descriptor}
use Rattle.sv_model.specs.declared.settings.Options.{Options}
use Rattle.sv_model.specs.Books.{Books}
use Rattle.sv_model.specs.Families.{InRange}
use Rattle.sv_model.proofs.Registers.{entry-same}
use Rattle.sv_family.specs.Calls.{with_option}
use Rattle.sv_laws.specs.NewCurrents.{IsOptionSet}
use Rattle.sv_laws.proofs.GrownRegisters.{get_within}
use Rattle.sv_model.proofs.Entries.{some}
use Rattle.sv_objects.specs.declared.bodies.Body.{Body}
use Rattle.sv_objects.specs.declared.objects.Objects.{Objects}
use Rattle.sv_objects.specs.Cleanups.{with_objects}
use Rattle.sv_state.specs.Changing.{IsSet}
use Rattle.sv_state.specs.Follows.{Follows}
use Rattle.sv_state.specs.Refs.{IsState}
use Rattle.sv_state.specs.Seen.{StateSeen}
use Rattle.sv_state.specs.Views.{books_of}
use Rattle.sv_state.specs.Writing.{Tells}
use Rattle.sv_state.proofs.Calls.{follows, same-books}
use Rattle.sv_state.proofs.Closings.{sets-state}
use Rattle.sv_state.proofs.OptionSets.{is-option-set, option-law, option-ref, options-read, same-own}
use Rattle.sv_state.proofs.References.{old-ref}
use Rattle.sv_state.proofs.Finding.{meant-body, meant-it, meant-kept, meant-open, meant-so}
use Rattle.sv_state.proofs.state.State.set_option.Goals as goal

get-set : {A : Type 0} (l : List A) (f : ℕ) (x y : A) → slice_get l f ≡ Some x → slice_get (slice_set l f y) f ≡ Some y
get-set l f x y e = entry-same l (suc f) x y e

pub body_at-body-requires : goal.body_at-body-requires
body_at-body-requires c =
    let i = c.self.inside in
    let a : Books = books_of i in
    let k = c.self.invariant.sound in
    let f = c.in-Ok.family in
    let x = meant-so a c.args.self.now.books (ap (λ (z : StateSeen). z.books) c.self.view_is) c.args.lane c.args.name.now f c.in-Ok.ensures.found c.requires.current in
    meant-kept a i.held.items c.self.invariant c.args.lane c.args.name.now f x

pub returns-in_err-made-clause-follows : goal.returns-in_err-made-clause-follows
returns-in_err-made-clause-follows c =
    let a : Books = books_of c.self.inside in
    let b : Books = with_objects a c.make_renewed.new.self in
    subst (λ (z : StateSeen). Follows z.books b) c.self.view_is (follows a b (same-books a b c.self.invariant.sound (ap (λ (o : Objects). with_objects a o) c.in_err-made.ensures.kept)))

pub put_current-old-requires-clause-within : goal.put_current-old-requires-clause-within
put_current-old-requires-clause-within c =
    let i = c.self.inside in
    let a : Books = books_of i in
    let k = c.self.invariant.sound in
    let f = c.in-Ok.family in
    let x = meant-so a c.args.self.now.books (ap (λ (z : StateSeen). z.books) c.self.view_is) c.args.lane c.args.name.now f c.in-Ok.ensures.found c.requires.current in
    get_within a.tops f x.current.top x.current.at

pub invariant_of-self-2 : goal.invariant_of-self-2
invariant_of-self-2 c =
    let i = c.self.inside in
    let a : Books = books_of i in
    let k = c.self.invariant.sound in
    let f = c.in-Ok.family in
    let x = meant-so a c.args.self.now.books (ap (λ (z : StateSeen). z.books) c.self.view_is) c.args.lane c.args.name.now f c.in-Ok.ensures.found c.requires.current in
    let o = i.objects in
    let p = c.make_renewed.new.self in
    let old : Body = c.body_at-body.result.now in
    let w = meant-body a i.held.items c.self.invariant c.args.lane c.args.name.now f x old c.body_at-body.ensures in
    let opt : Options = c.with_option-options.result in
    let opt_is : opt ≡ with_option c.args.option c.args.value x.it.options = c.with_option-options.ensures ∙ ap (with_option c.args.option c.args.value) (options-read i.families f x.it c.options.result x.at c.options.ensures) in
    let d_is : c.renewed-descriptor.result ≡ record (meant-it a i.held.items c.self.invariant c.args.lane c.args.name.now f x).descriptor { options = opt } = c.renewed-descriptor.ensures ∙ ap (λ (z : Descriptor). record z { options = opt }) w.descriptor_is in
    let made = c.in_ok-made.made in
    let m = c.in_ok-made.ensures.made in
    let g = c.in-Ok-set_option.field-0 in
    let changed = c.in-Ok-set_option.ensures.changed in
    let F = c.set_option.new.self in
    let own : f ≡ g = same-own i.families F c.args.lane c.args.name.now c.args.option c.args.value f g x.it x.at x.own changed c.set_option.ensures.lawful in
    let it_is : changed.it ≡ x.it = some (sym changed.at ∙ ap (slice_get i.families) (sym own) ∙ x.at) in
    let F_is : F ≡ slice_set i.families f (record x.it { options = opt }) = changed.changed ∙ (λ j. slice_set i.families (sym own j) (record (it_is j) { options = with_option c.args.option c.args.value (it_is j).options })) ∙ ap (λ z. slice_set i.families f (record x.it { options = z })) (sym opt_is) in
    let range : InRange opt = c.set_option.ensures.lawful.options f (record x.it { options = opt }) (ap (λ l. slice_get l f) F_is ∙ get-set i.families f x.it (record x.it { options = opt }) x.at) in
    let T = c.put_current-old.new.tops.items in
    let T_is = c.put_current-old.ensures.tops (length o.supers + 1) m.place m.room.within m.pack_is in
    let new : Books = record (with_objects a p) { families = F; tops = T } in
    subst (IsState new) (sym c.put_current-old.ensures.held)
    (sets-state a new i.held.items c.self.invariant (option-law a o p k f x.current.serial (meant-it a i.held.items c.self.invariant c.args.lane c.args.name.now f x) (meant-open a i.held.items c.self.invariant c.args.lane c.args.name.now f x) opt range c.renewed-descriptor.result d_is old.cell c.in_ok-held.held made.pack made.body.value m c.make_renewed.ensures.rest F F_is T T_is) f x.current.top (record { current = Some (length o.supers + 1); last = made.body.value.descriptor.version }) (Some made) x.current.at T_is (option-ref a o p k f x.current.serial (meant-it a i.held.items c.self.invariant c.args.lane c.args.name.now f x) (meant-open a i.held.items c.self.invariant c.args.lane c.args.name.now f x) opt range c.renewed-descriptor.result d_is old.cell c.in_ok-held.held made.pack made.body.value m c.make_renewed.ensures.rest F F_is T T_is old w refl c.in_ok-held.ensures.frozen c.in_ok-held.ensures.files))

pub returns-clause-set : goal.returns-clause-set
returns-clause-set c =
    let i = c.self.inside in
    let a : Books = books_of i in
    let k = c.self.invariant.sound in
    let f = c.in-Ok.family in
    let x = meant-so a c.args.self.now.books (ap (λ (z : StateSeen). z.books) c.self.view_is) c.args.lane c.args.name.now f c.in-Ok.ensures.found c.requires.current in
    let o = i.objects in
    let p = c.make_renewed.new.self in
    let old : Body = c.body_at-body.result.now in
    let w = meant-body a i.held.items c.self.invariant c.args.lane c.args.name.now f x old c.body_at-body.ensures in
    let opt : Options = c.with_option-options.result in
    let opt_is : opt ≡ with_option c.args.option c.args.value x.it.options = c.with_option-options.ensures ∙ ap (with_option c.args.option c.args.value) (options-read i.families f x.it c.options.result x.at c.options.ensures) in
    let d_is : c.renewed-descriptor.result ≡ record (meant-it a i.held.items c.self.invariant c.args.lane c.args.name.now f x).descriptor { options = opt } = c.renewed-descriptor.ensures ∙ ap (λ (z : Descriptor). record z { options = opt }) w.descriptor_is in
    let made = c.in_ok-made.made in
    let m = c.in_ok-made.ensures.made in
    let g = c.in-Ok-set_option.field-0 in
    let changed = c.in-Ok-set_option.ensures.changed in
    let F = c.set_option.new.self in
    let own : f ≡ g = same-own i.families F c.args.lane c.args.name.now c.args.option c.args.value f g x.it x.at x.own changed c.set_option.ensures.lawful in
    let it_is : changed.it ≡ x.it = some (sym changed.at ∙ ap (slice_get i.families) (sym own) ∙ x.at) in
    let F_is : F ≡ slice_set i.families f (record x.it { options = opt }) = changed.changed ∙ (λ j. slice_set i.families (sym own j) (record (it_is j) { options = with_option c.args.option c.args.value (it_is j).options })) ∙ ap (λ z. slice_set i.families f (record x.it { options = z })) (sym opt_is) in
    let range : InRange opt = c.set_option.ensures.lawful.options f (record x.it { options = opt }) (ap (λ l. slice_get l f) F_is ∙ get-set i.families f x.it (record x.it { options = opt }) x.at) in
    let T = c.put_current-old.new.tops.items in
    let T_is = c.put_current-old.ensures.tops (length o.supers + 1) m.place m.room.within m.pack_is in
    let new : Books = record (with_objects a p) { families = F; tops = T } in
    subst (λ (z : StateSeen). IsSet z.books new c.args.lane c.args.name.now c.args.option c.args.value f) c.self.view_is (record {
      it = x.it;
      at = x.at;
      own = x.own;
      set = subst (λ z. IsOptionSet a new f z) opt_is (is-option-set a o p k f x.current.serial (meant-it a i.held.items c.self.invariant c.args.lane c.args.name.now f x) (meant-open a i.held.items c.self.invariant c.args.lane c.args.name.now f x) opt range c.renewed-descriptor.result d_is old.cell c.in_ok-held.held made.pack made.body.value m c.make_renewed.ensures.rest F F_is T T_is);
    })

pub returns-clause-tells : goal.returns-clause-tells
returns-clause-tells c =
    let i = c.self.inside in
    let a : Books = books_of i in
    let k = c.self.invariant.sound in
    let f = c.in-Ok.family in
    let x = meant-so a c.args.self.now.books (ap (λ (z : StateSeen). z.books) c.self.view_is) c.args.lane c.args.name.now f c.in-Ok.ensures.found c.requires.current in
    let o = i.objects in
    let p = c.make_renewed.new.self in
    let old : Body = c.body_at-body.result.now in
    let w = meant-body a i.held.items c.self.invariant c.args.lane c.args.name.now f x old c.body_at-body.ensures in
    let opt : Options = c.with_option-options.result in
    let opt_is : opt ≡ with_option c.args.option c.args.value x.it.options = c.with_option-options.ensures ∙ ap (with_option c.args.option c.args.value) (options-read i.families f x.it c.options.result x.at c.options.ensures) in
    let d_is : c.renewed-descriptor.result ≡ record (meant-it a i.held.items c.self.invariant c.args.lane c.args.name.now f x).descriptor { options = opt } = c.renewed-descriptor.ensures ∙ ap (λ (z : Descriptor). record z { options = opt }) w.descriptor_is in
    let made = c.in_ok-made.made in
    let m = c.in_ok-made.ensures.made in
    let g = c.in-Ok-set_option.field-0 in
    let changed = c.in-Ok-set_option.ensures.changed in
    let F = c.set_option.new.self in
    let own : f ≡ g = same-own i.families F c.args.lane c.args.name.now c.args.option c.args.value f g x.it x.at x.own changed c.set_option.ensures.lawful in
    let it_is : changed.it ≡ x.it = some (sym changed.at ∙ ap (slice_get i.families) (sym own) ∙ x.at) in
    let F_is : F ≡ slice_set i.families f (record x.it { options = opt }) = changed.changed ∙ (λ j. slice_set i.families (sym own j) (record (it_is j) { options = with_option c.args.option c.args.value (it_is j).options })) ∙ ap (λ z. slice_set i.families f (record x.it { options = z })) (sym opt_is) in
    let range : InRange opt = c.set_option.ensures.lawful.options f (record x.it { options = opt }) (ap (λ l. slice_get l f) F_is ∙ get-set i.families f x.it (record x.it { options = opt }) x.at) in
    let T = c.put_current-old.new.tops.items in
    let T_is = c.put_current-old.ensures.tops (length o.supers + 1) m.place m.room.within m.pack_is in
    let new : Books = record (with_objects a p) { families = F; tops = T } in
    let r = option-ref a o p k f x.current.serial (meant-it a i.held.items c.self.invariant c.args.lane c.args.name.now f x) (meant-open a i.held.items c.self.invariant c.args.lane c.args.name.now f x) opt range c.renewed-descriptor.result d_is old.cell c.in_ok-held.held made.pack made.body.value m c.make_renewed.ensures.rest F F_is T T_is old w refl c.in_ok-held.ensures.frozen c.in_ok-held.ensures.files in
    subst (λ (z : StateSeen). Tells z.books new f (record { family = f; new = made.pack; old = c.put_current-old.result; vacant = None })) c.self.view_is (record {
      family_is = refl;
      it = r.it;
      at = r.at;
      new_is = r.pack_is;
      old = old-ref a i.held.items c.self.invariant.kept f c.put_current-old.result c.put_current-old.ensures.old;
    })

pub returns-clause-follows : goal.returns-clause-follows
returns-clause-follows c =
    let i = c.self.inside in
    let a : Books = books_of i in
    let k = c.self.invariant.sound in
    let f = c.in-Ok.family in
    let x = meant-so a c.args.self.now.books (ap (λ (z : StateSeen). z.books) c.self.view_is) c.args.lane c.args.name.now f c.in-Ok.ensures.found c.requires.current in
    let o = i.objects in
    let p = c.make_renewed.new.self in
    let old : Body = c.body_at-body.result.now in
    let w = meant-body a i.held.items c.self.invariant c.args.lane c.args.name.now f x old c.body_at-body.ensures in
    let opt : Options = c.with_option-options.result in
    let opt_is : opt ≡ with_option c.args.option c.args.value x.it.options = c.with_option-options.ensures ∙ ap (with_option c.args.option c.args.value) (options-read i.families f x.it c.options.result x.at c.options.ensures) in
    let d_is : c.renewed-descriptor.result ≡ record (meant-it a i.held.items c.self.invariant c.args.lane c.args.name.now f x).descriptor { options = opt } = c.renewed-descriptor.ensures ∙ ap (λ (z : Descriptor). record z { options = opt }) w.descriptor_is in
    let made = c.in_ok-made.made in
    let m = c.in_ok-made.ensures.made in
    let g = c.in-Ok-set_option.field-0 in
    let changed = c.in-Ok-set_option.ensures.changed in
    let F = c.set_option.new.self in
    let own : f ≡ g = same-own i.families F c.args.lane c.args.name.now c.args.option c.args.value f g x.it x.at x.own changed c.set_option.ensures.lawful in
    let it_is : changed.it ≡ x.it = some (sym changed.at ∙ ap (slice_get i.families) (sym own) ∙ x.at) in
    let F_is : F ≡ slice_set i.families f (record x.it { options = opt }) = changed.changed ∙ (λ j. slice_set i.families (sym own j) (record (it_is j) { options = with_option c.args.option c.args.value (it_is j).options })) ∙ ap (λ z. slice_set i.families f (record x.it { options = z })) (sym opt_is) in
    let range : InRange opt = c.set_option.ensures.lawful.options f (record x.it { options = opt }) (ap (λ l. slice_get l f) F_is ∙ get-set i.families f x.it (record x.it { options = opt }) x.at) in
    let T = c.put_current-old.new.tops.items in
    let T_is = c.put_current-old.ensures.tops (length o.supers + 1) m.place m.room.within m.pack_is in
    let new : Books = record (with_objects a p) { families = F; tops = T } in
    subst (λ (z : StateSeen). Follows z.books new) c.self.view_is (follows a new (option-law a o p k f x.current.serial (meant-it a i.held.items c.self.invariant c.args.lane c.args.name.now f x) (meant-open a i.held.items c.self.invariant c.args.lane c.args.name.now f x) opt range c.renewed-descriptor.result d_is old.cell c.in_ok-held.held made.pack made.body.value m c.make_renewed.ensures.rest F F_is T T_is))
