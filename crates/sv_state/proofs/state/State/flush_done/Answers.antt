use Rattle.std.proofs.Common.{◌+◌, length, Some, None, refl, sym, ap, ◌∙◌, subst}
use Rattle.sv_model.specs.declared.records.Descriptor.{Descriptor}
use Rattle.sv_model.specs.declared.records.FileMeta.{FileMeta}
use Rattle.sv_model.specs.Books.{Books}
use Rattle.sv_model.specs.Named.{IsLiveList, IsLiveVersion}
use Rattle.sv_model.specs.declared.records.FileStatus.TheVariants.{Pending}
use Rattle.sv_model.specs.Numbers.{IsRegistered}
use Rattle.sv_model.specs.Registers.{entry}
use Rattle.sv_laws.specs.Captures.{IsGivenUp}
use Rattle.sv_laws.specs.NewCurrents.{IsFlushed}
use Rattle.sv_laws.proofs.OpenFamilies.{list-lives, version-lives}
use Rattle.sv_objects.specs.declared.bodies.Body.{Body}
use Rattle.sv_objects.specs.declared.objects.Objects.{Objects}
use Rattle.sv_objects.specs.Cleanups.{with_objects}
use Rattle.sv_state.specs.Follows.{Follows}
use Rattle.sv_state.specs.Refs.{IsState}
use Rattle.sv_state.specs.Seen.{StateSeen}
use Rattle.sv_state.specs.Views.{books_of}
use Rattle.sv_state.specs.Writing.{Tells}
use Rattle.sv_state.proofs.Calls.{follows}
use Rattle.sv_state.proofs.Closings.{sets-state}
use Rattle.sv_state.proofs.Endings.{can-of, captured-of, done-body}
use Rattle.sv_state.proofs.Finding.{open-kept}
use Rattle.sv_state.proofs.Finishes.{done-it, done-open, dropped-read, few-in-list, flush-joins, flushed-law, flushed-ref, give-up, given-law, is-flushed, list-paired, not-named, was-pending}
use Rattle.sv_state.proofs.References.{old-ref}
use Rattle.sv_state.proofs.Stays.{keeps-state}
use Rattle.sv_state.proofs.state.State.flush_done.Goals as goal

pub captor-family-requires : goal.captor-family-requires
captor-family-requires c =
    captured-of (books_of c.self.inside) c.args.self.now.books (ap (λ (z : StateSeen). z.books) c.self.view_is) c.args.file c.requires.finish

pub invariant_of-self : goal.invariant_of-self
invariant_of-self c =
    let i = c.self.inside in
    let a : Books = books_of i in
    let k = c.self.invariant.sound in
    let f = c.captor-family.result in
    let file : FileMeta = c.args.file in
    let can = can-of a c.args.self.now.books (ap (λ (z : StateSeen). z.books) c.self.view_is) k file f c.captor-family.ensures c.requires.finish in
    let b : Books = record a { files = c.settle.new.self } in
    let h : IsGivenUp a b f file.number = give-up a i.objects i.objects refl f file.number can.captured c.settle.new.self c.settle.ensures in
    keeps-state a b i.held.items c.self.invariant (given-law a b k f file.number h) refl

pub returns-then-is_dropped-clause-given_up : goal.returns-then-is_dropped-clause-given_up
returns-then-is_dropped-clause-given_up c =
    let i = c.self.inside in
    let a : Books = books_of i in
    let k = c.self.invariant.sound in
    let f = c.captor-family.result in
    let file : FileMeta = c.args.file in
    let can = can-of a c.args.self.now.books (ap (λ (z : StateSeen). z.books) c.self.view_is) k file f c.captor-family.ensures c.requires.finish in
    let b : Books = record a { files = c.settle.new.self } in
    let h : IsGivenUp a b f file.number = give-up a i.objects i.objects refl f file.number can.captured c.settle.new.self c.settle.ensures in
    (f, subst (λ (z : StateSeen). IsGivenUp z.books b f file.number) c.self.view_is h)

pub returns-then-is_dropped-clause-follows : goal.returns-then-is_dropped-clause-follows
returns-then-is_dropped-clause-follows c =
    let i = c.self.inside in
    let a : Books = books_of i in
    let k = c.self.invariant.sound in
    let f = c.captor-family.result in
    let file : FileMeta = c.args.file in
    let can = can-of a c.args.self.now.books (ap (λ (z : StateSeen). z.books) c.self.view_is) k file f c.captor-family.ensures c.requires.finish in
    let b : Books = record a { files = c.settle.new.self } in
    let h : IsGivenUp a b f file.number = give-up a i.objects i.objects refl f file.number can.captured c.settle.new.self c.settle.ensures in
    subst (λ (z : StateSeen). Follows z.books b) c.self.view_is (follows a b (given-law a b k f file.number h))

pub body_at-body-requires : goal.body_at-body-requires
body_at-body-requires c =
    let i = c.self.inside in
    let a : Books = books_of i in
    let k = c.self.invariant.sound in
    let f = c.captor-family.result in
    let file : FileMeta = c.args.file in
    let can = can-of a c.args.self.now.books (ap (λ (z : StateSeen). z.books) c.self.view_is) k file f c.captor-family.ensures c.requires.finish in
    let stands = dropped-read i.families f can.it c.is_dropped.result can.at c.is_dropped.ensures ∙ c.if-is_dropped.false in
    open-kept a i.held.items c.self.invariant f (can.current stands).serial (done-it a k f file can stands) (done-open a k f file can stands)

pub settle-requires-in-Err : goal.settle-requires-in-Err
settle-requires-in-Err c =
    let i = c.self.inside in
    let a : Books = books_of i in
    let k = c.self.invariant.sound in
    let f = c.captor-family.result in
    let file : FileMeta = c.args.file in
    subst (λ (o : Objects). IsRegistered o.files.numbers file.number Pending) (sym c.in-Err.ensures.kept) (was-pending a k f file.number c.captor-family.ensures)

pub flushed-requires-clause-live_version : goal.flushed-requires-clause-live_version
flushed-requires-clause-live_version c =
    let i = c.self.inside in
    let a : Books = books_of i in
    let k = c.self.invariant.sound in
    let f = c.captor-family.result in
    let file : FileMeta = c.args.file in
    let can = can-of a c.args.self.now.books (ap (λ (z : StateSeen). z.books) c.self.view_is) k file f c.captor-family.ensures c.requires.finish in
    let stands = dropped-read i.families f can.it c.is_dropped.result can.at c.is_dropped.ensures ∙ c.if-is_dropped.false in
    let old : Body = c.body_at-body.result.now in
    let w = done-body a i.held.items c.self.invariant f file can stands old c.body_at-body.ensures in
    subst (λ (z : Descriptor). IsLiveVersion i.objects.versions z.version) (sym w.descriptor_is) (version-lives a k f (can.current stands).serial (done-it a k f file can stands) (done-open a k f file can stands))

pub flushed-requires-clause-joins : goal.flushed-requires-clause-joins
flushed-requires-clause-joins c v e =
    let i = c.self.inside in
    let a : Books = books_of i in
    let k = c.self.invariant.sound in
    let f = c.captor-family.result in
    let file : FileMeta = c.args.file in
    let can = can-of a c.args.self.now.books (ap (λ (z : StateSeen). z.books) c.self.view_is) k file f c.captor-family.ensures c.requires.finish in
    let stands = dropped-read i.families f can.it c.is_dropped.result can.at c.is_dropped.ensures ∙ c.if-is_dropped.false in
    let old : Body = c.body_at-body.result.now in
    let w = done-body a i.held.items c.self.invariant f file can stands old c.body_at-body.ensures in
    flush-joins a k f file can stands c.requires.kind v (ap (λ (z : Descriptor). entry i.objects.versions z.version) (sym w.descriptor_is) ∙ e)

pub flushed-requires-clause-live : goal.flushed-requires-clause-live
flushed-requires-clause-live c =
    let i = c.self.inside in
    let a : Books = books_of i in
    let k = c.self.invariant.sound in
    let f = c.captor-family.result in
    let file : FileMeta = c.args.file in
    let can = can-of a c.args.self.now.books (ap (λ (z : StateSeen). z.books) c.self.view_is) k file f c.captor-family.ensures c.requires.finish in
    let stands = dropped-read i.families f can.it c.is_dropped.result can.at c.is_dropped.ensures ∙ c.if-is_dropped.false in
    let old : Body = c.body_at-body.result.now in
    let w = done-body a i.held.items c.self.invariant f file can stands old c.body_at-body.ensures in
    subst (λ (z : Descriptor). IsLiveList i.objects.lists z.list) (sym w.descriptor_is) (list-lives a k f (can.current stands).serial (done-it a k f file can stands) (done-open a k f file can stands))

pub flushed-requires-clause-short : goal.flushed-requires-clause-short
flushed-requires-clause-short c l e =
    let i = c.self.inside in
    let a : Books = books_of i in
    let k = c.self.invariant.sound in
    let f = c.captor-family.result in
    let file : FileMeta = c.args.file in
    let can = can-of a c.args.self.now.books (ap (λ (z : StateSeen). z.books) c.self.view_is) k file f c.captor-family.ensures c.requires.finish in
    let stands = dropped-read i.families f can.it c.is_dropped.result can.at c.is_dropped.ensures ∙ c.if-is_dropped.false in
    let old : Body = c.body_at-body.result.now in
    let w = done-body a i.held.items c.self.invariant f file can stands old c.body_at-body.ensures in
    few-in-list a k f file can stands l (ap (λ (z : Descriptor). entry i.objects.lists z.list) (sym w.descriptor_is) ∙ e)

pub flushed-requires-clause-paired : goal.flushed-requires-clause-paired
flushed-requires-clause-paired c l e =
    let i = c.self.inside in
    let a : Books = books_of i in
    let k = c.self.invariant.sound in
    let f = c.captor-family.result in
    let file : FileMeta = c.args.file in
    let can = can-of a c.args.self.now.books (ap (λ (z : StateSeen). z.books) c.self.view_is) k file f c.captor-family.ensures c.requires.finish in
    let stands = dropped-read i.families f can.it c.is_dropped.result can.at c.is_dropped.ensures ∙ c.if-is_dropped.false in
    let old : Body = c.body_at-body.result.now in
    let w = done-body a i.held.items c.self.invariant f file can stands old c.body_at-body.ensures in
    list-paired a (done-it a k f file can stands).descriptor old w l (ap (λ (z : Descriptor). entry i.objects.lists z.list) (sym w.descriptor_is) ∙ e)

pub flushed-requires-clause-unnamed : goal.flushed-requires-clause-unnamed
flushed-requires-clause-unnamed c =
    let i = c.self.inside in
    let a : Books = books_of i in
    let k = c.self.invariant.sound in
    let f = c.captor-family.result in
    let file : FileMeta = c.args.file in
    let can = can-of a c.args.self.now.books (ap (λ (z : StateSeen). z.books) c.self.view_is) k file f c.captor-family.ensures c.requires.finish in
    let stands = dropped-read i.families f can.it c.is_dropped.result can.at c.is_dropped.ensures ∙ c.if-is_dropped.false in
    let old : Body = c.body_at-body.result.now in
    let w = done-body a i.held.items c.self.invariant f file can stands old c.body_at-body.ensures in
    not-named a k f file can stands

pub invariant_of-self-in-Err : goal.invariant_of-self-in-Err
invariant_of-self-in-Err c =
    let i = c.self.inside in
    let a : Books = books_of i in
    let k = c.self.invariant.sound in
    let f = c.captor-family.result in
    let file : FileMeta = c.args.file in
    let can = can-of a c.args.self.now.books (ap (λ (z : StateSeen). z.books) c.self.view_is) k file f c.captor-family.ensures c.requires.finish in
    let p : Objects = c.flushed.new.objects in
    let b : Books = record (with_objects a p) { files = c.settle-in-Err.new.self } in
    let h : IsGivenUp a b f file.number = give-up a i.objects p c.in-Err.ensures.kept f file.number can.captured c.settle-in-Err.new.self c.settle-in-Err.ensures in
    keeps-state a b i.held.items c.self.invariant (given-law a b k f file.number h) refl

pub returns-in-Err-clause-given_up : goal.returns-in-Err-clause-given_up
returns-in-Err-clause-given_up c =
    let i = c.self.inside in
    let a : Books = books_of i in
    let k = c.self.invariant.sound in
    let f = c.captor-family.result in
    let file : FileMeta = c.args.file in
    let can = can-of a c.args.self.now.books (ap (λ (z : StateSeen). z.books) c.self.view_is) k file f c.captor-family.ensures c.requires.finish in
    let p : Objects = c.flushed.new.objects in
    let b : Books = record (with_objects a p) { files = c.settle-in-Err.new.self } in
    let h : IsGivenUp a b f file.number = give-up a i.objects p c.in-Err.ensures.kept f file.number can.captured c.settle-in-Err.new.self c.settle-in-Err.ensures in
    (f, subst (λ (z : StateSeen). IsGivenUp z.books b f file.number) c.self.view_is h)

pub returns-in-Err-clause-follows : goal.returns-in-Err-clause-follows
returns-in-Err-clause-follows c =
    let i = c.self.inside in
    let a : Books = books_of i in
    let k = c.self.invariant.sound in
    let f = c.captor-family.result in
    let file : FileMeta = c.args.file in
    let can = can-of a c.args.self.now.books (ap (λ (z : StateSeen). z.books) c.self.view_is) k file f c.captor-family.ensures c.requires.finish in
    let p : Objects = c.flushed.new.objects in
    let b : Books = record (with_objects a p) { files = c.settle-in-Err.new.self } in
    let h : IsGivenUp a b f file.number = give-up a i.objects p c.in-Err.ensures.kept f file.number can.captured c.settle-in-Err.new.self c.settle-in-Err.ensures in
    subst (λ (z : StateSeen). Follows z.books b) c.self.view_is (follows a b (given-law a b k f file.number h))

pub invariant_of-self-2 : goal.invariant_of-self-2
invariant_of-self-2 c =
    let i = c.self.inside in
    let a : Books = books_of i in
    let k = c.self.invariant.sound in
    let f = c.captor-family.result in
    let file : FileMeta = c.args.file in
    let can = can-of a c.args.self.now.books (ap (λ (z : StateSeen). z.books) c.self.view_is) k file f c.captor-family.ensures c.requires.finish in
    let stands = dropped-read i.families f can.it c.is_dropped.result can.at c.is_dropped.ensures ∙ c.if-is_dropped.false in
    let old : Body = c.body_at-body.result.now in
    let w = done-body a i.held.items c.self.invariant f file can stands old c.body_at-body.ensures in
    let p : Objects = c.flushed.new.objects in
    let made = c.in-Ok.made in
    let m = c.in-Ok.ensures.made in
    let F = c.settle-2.new.self in
    let T = c.put_current-old.new.tops.items in
    let T_is = c.put_current-old.ensures.tops (length i.objects.supers + 1) m.made.ref.place m.made.ref.room.within m.made.ref.pack_is in
    let new : Books = record (with_objects a p) { files = F; tops = T } in
    subst (IsState new) (sym c.put_current-old.ensures.held)
    (sets-state a new i.held.items c.self.invariant (flushed-law a i.objects p k f file can stands c.requires.kind old w made.pack made.body.value m F c.settle-2.ensures T T_is) f (can.current stands).top (record { current = Some (length i.objects.supers + 1); last = made.body.value.descriptor.version }) (Some made) (can.current stands).at T_is (flushed-ref a i.objects p k f file can stands c.requires.kind old w made.pack made.body.value m F c.settle-2.ensures T T_is))

pub returns-clause-flushed : goal.returns-clause-flushed
returns-clause-flushed c =
    let i = c.self.inside in
    let a : Books = books_of i in
    let k = c.self.invariant.sound in
    let f = c.captor-family.result in
    let file : FileMeta = c.args.file in
    let can = can-of a c.args.self.now.books (ap (λ (z : StateSeen). z.books) c.self.view_is) k file f c.captor-family.ensures c.requires.finish in
    let stands = dropped-read i.families f can.it c.is_dropped.result can.at c.is_dropped.ensures ∙ c.if-is_dropped.false in
    let old : Body = c.body_at-body.result.now in
    let w = done-body a i.held.items c.self.invariant f file can stands old c.body_at-body.ensures in
    let p : Objects = c.flushed.new.objects in
    let made = c.in-Ok.made in
    let m = c.in-Ok.ensures.made in
    let F = c.settle-2.new.self in
    let T = c.put_current-old.new.tops.items in
    let T_is = c.put_current-old.ensures.tops (length i.objects.supers + 1) m.made.ref.place m.made.ref.room.within m.made.ref.pack_is in
    let new : Books = record (with_objects a p) { files = F; tops = T } in
    subst (λ (z : StateSeen). IsFlushed z.books new f file) c.self.view_is (is-flushed a i.objects p k f file can stands c.requires.kind old w made.pack made.body.value m F c.settle-2.ensures T T_is)

pub returns-clause-tells : goal.returns-clause-tells
returns-clause-tells c =
    let i = c.self.inside in
    let a : Books = books_of i in
    let k = c.self.invariant.sound in
    let f = c.captor-family.result in
    let file : FileMeta = c.args.file in
    let can = can-of a c.args.self.now.books (ap (λ (z : StateSeen). z.books) c.self.view_is) k file f c.captor-family.ensures c.requires.finish in
    let stands = dropped-read i.families f can.it c.is_dropped.result can.at c.is_dropped.ensures ∙ c.if-is_dropped.false in
    let old : Body = c.body_at-body.result.now in
    let w = done-body a i.held.items c.self.invariant f file can stands old c.body_at-body.ensures in
    let p : Objects = c.flushed.new.objects in
    let made = c.in-Ok.made in
    let m = c.in-Ok.ensures.made in
    let F = c.settle-2.new.self in
    let T = c.put_current-old.new.tops.items in
    let T_is = c.put_current-old.ensures.tops (length i.objects.supers + 1) m.made.ref.place m.made.ref.room.within m.made.ref.pack_is in
    let new : Books = record (with_objects a p) { files = F; tops = T } in
    let r = flushed-ref a i.objects p k f file can stands c.requires.kind old w made.pack made.body.value m F c.settle-2.ensures T T_is in
    subst (λ (z : StateSeen). Tells z.books new f (record { family = f; new = made.pack; old = c.put_current-old.result; vacant = None })) c.self.view_is (record {
      family_is = refl;
      it = r.it;
      at = r.at;
      new_is = r.pack_is;
      old = old-ref a i.held.items c.self.invariant.kept f c.put_current-old.result c.put_current-old.ensures.old;
    })

pub returns-clause-follows : goal.returns-clause-follows
returns-clause-follows c =
    let i = c.self.inside in
    let a : Books = books_of i in
    let k = c.self.invariant.sound in
    let f = c.captor-family.result in
    let file : FileMeta = c.args.file in
    let can = can-of a c.args.self.now.books (ap (λ (z : StateSeen). z.books) c.self.view_is) k file f c.captor-family.ensures c.requires.finish in
    let stands = dropped-read i.families f can.it c.is_dropped.result can.at c.is_dropped.ensures ∙ c.if-is_dropped.false in
    let old : Body = c.body_at-body.result.now in
    let w = done-body a i.held.items c.self.invariant f file can stands old c.body_at-body.ensures in
    let p : Objects = c.flushed.new.objects in
    let made = c.in-Ok.made in
    let m = c.in-Ok.ensures.made in
    let F = c.settle-2.new.self in
    let T = c.put_current-old.new.tops.items in
    let T_is = c.put_current-old.ensures.tops (length i.objects.supers + 1) m.made.ref.place m.made.ref.room.within m.made.ref.pack_is in
    let new : Books = record (with_objects a p) { files = F; tops = T } in
    subst (λ (z : StateSeen). Follows z.books new) c.self.view_is (follows a new (flushed-law a i.objects p k f file can stands c.requires.kind old w made.pack made.body.value m F c.settle-2.ensures T T_is))
