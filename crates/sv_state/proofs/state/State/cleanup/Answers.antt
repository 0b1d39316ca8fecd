use Rattle.std.proofs.Common.{refl, sym, ap, ◌∙◌, subst}
use Rattle.std.specs.Option.{option_copied}
use Rattle.sv_model.specs.Books.{Books}
use Rattle.sv_laws.specs.Changes.{cleaned}
use Rattle.sv_laws.proofs.Kept.{sound-kept}
use Rattle.sv_objects.specs.Cleanups.{with_objects}
use Rattle.sv_state.specs.Follows.{Follows}
use Rattle.sv_state.specs.Gone.{IsFree, IsLastOr, SuperGoes}
use Rattle.sv_state.specs.Seen.{StateSeen}
use Rattle.sv_state.specs.Views.{books_of}
use Rattle.sv_state.proofs.Calls.{follows}
use Rattle.sv_state.proofs.Closings.{can-clean}
use Rattle.sv_state.proofs.Stays.{keeps-state}
use Rattle.sv_state.proofs.state.State.cleanup.Goals as goal

pub clean-requires : goal.clean-requires
clean-requires c =
    let i = c.self.inside in
    let a : Books = books_of i in
    let free : IsFree a c.args.pack = subst (λ (z : StateSeen). IsFree z.books c.args.pack) (sym c.self.view_is) c.requires in
    can-clean a i.objects c.self.invariant.sound c.args.pack free c.pack.inside.serial c.pack.inside.place c.in-Some.descriptor.now c.is_last-last.result c.pack.view_is c.pack.invariant
    (sym (ap option_copied c.in-Some.is) ∙ c.descriptor.ensures)
    (subst (λ T. IsLastOr c.in-Some.descriptor.now.version i.families T c.is_last-last.result) c.as_slice.ensures.value c.is_last-last.ensures)

pub invariant_of-self : goal.invariant_of-self
invariant_of-self c =
    let i = c.self.inside in
    let a : Books = books_of i in
    let free : IsFree a c.args.pack = subst (λ (z : StateSeen). IsFree z.books c.args.pack) (sym c.self.view_is) c.requires in
    let can = can-clean a i.objects c.self.invariant.sound c.args.pack free c.pack.inside.serial c.pack.inside.place c.in-Some.descriptor.now c.is_last-last.result c.pack.view_is c.pack.invariant
    (sym (ap option_copied c.in-Some.is) ∙ c.descriptor.ensures)
    (subst (λ T. IsLastOr c.in-Some.descriptor.now.version i.families T c.is_last-last.result) c.as_slice.ensures.value c.is_last-last.ensures) in
    let b : Books = with_objects a c.clean.new.self in
    keeps-state a b i.held.items c.self.invariant (sound-kept a b c.self.invariant.sound (cleaned free.serial free.it (c.clean.ensures can).cleaned)) refl

pub returns-clause-gone : goal.returns-clause-gone
returns-clause-gone c =
    let i = c.self.inside in
    let a : Books = books_of i in
    let b : Books = with_objects a c.clean.new.self in
    subst (λ (z : StateSeen). (free : IsFree z.books c.args.pack) → SuperGoes z.books free.serial free.it b c.clean.result.items) c.self.view_is
    (λ (free : IsFree a c.args.pack).
    let gone = c.clean.ensures (can-clean a i.objects c.self.invariant.sound c.args.pack free c.pack.inside.serial c.pack.inside.place c.in-Some.descriptor.now c.is_last-last.result c.pack.view_is c.pack.invariant
    (sym (ap option_copied c.in-Some.is) ∙ c.descriptor.ensures)
    (subst (λ T. IsLastOr c.in-Some.descriptor.now.version i.families T c.is_last-last.result) c.as_slice.ensures.value c.is_last-last.ensures)) in
    record { cleaned = gone.cleaned; cells_are = gone.gone })

pub returns-clause-follows : goal.returns-clause-follows
returns-clause-follows c =
    let i = c.self.inside in
    let a : Books = books_of i in
    let free : IsFree a c.args.pack = subst (λ (z : StateSeen). IsFree z.books c.args.pack) (sym c.self.view_is) c.requires in
    let can = can-clean a i.objects c.self.invariant.sound c.args.pack free c.pack.inside.serial c.pack.inside.place c.in-Some.descriptor.now c.is_last-last.result c.pack.view_is c.pack.invariant
    (sym (ap option_copied c.in-Some.is) ∙ c.descriptor.ensures)
    (subst (λ T. IsLastOr c.in-Some.descriptor.now.version i.families T c.is_last-last.result) c.as_slice.ensures.value c.is_last-last.ensures) in
    let b : Books = with_objects a c.clean.new.self in
    subst (λ (z : StateSeen). Follows z.books b) c.self.view_is (follows a b (sound-kept a b c.self.invariant.sound (cleaned free.serial free.it (c.clean.ensures can).cleaned)))
