use Rattle.std.proofs.Common.{◌≡◌, Some, sym, ap, ◌∙◌, arith}
use Rattle.sv_model.specs.declared.records.RegisteredFile.{RegisteredFile}
use Rattle.sv_model.specs.declared.records.FileStatus.{FileStatus}
use Rattle.sv_model.specs.declared.records.FileStatus.TheVariants.{Pending, Live, Obsolete, Grabbed}
use Rattle.sv_model.specs.Numbers.{IsRegistered}
use Rattle.sv_files.specs.declared.settled.Settled.{Settled}
use Rattle.sv_files.specs.declared.settled.Settled.TheVariants as settled
use Rattle.sv_files.specs.Calls.{Settles, settled_status}
use Rattle.sv_files.proofs.Registered.{registered-some}
use Rattle.sv_files.proofs.BookLaws.{book-settled, family-within, has-family, here, settles, there}
use Rattle.sv_files.proofs.book.FileBook.settle.Goals as goal

-- it is neither Pending nor Grabbed
other : (how : Settled) (s : FileStatus) → s ≡ settled_status how → (s ≡ Pending → ⊥) × (s ≡ Grabbed → ⊥)
other settled.Live s is = (λ e. (let both : Live ≡ Pending = sym is ∙ e in cc), λ e. (let both : Live ≡ Grabbed = sym is ∙ e in cc))
other settled.Obsolete s is = (λ e. (let both : Obsolete ≡ Pending = sym is ∙ e in cc), λ e. (let both : Obsolete ≡ Grabbed = sym is ∙ e in cc))

pub mark-was-requires : goal.mark-was-requires
mark-was-requires c =
    registered-some c.self.inside.numbers c.number.inside.0 Pending (here (λ n r. IsRegistered r.numbers n Pending) c.self.view_is c.number.view_is c.requires)

pub bounds-self-inside-family-inside : goal.bounds-self-inside-family-inside
bounds-self-inside-family-inside c =
    let of = ap (λ (z : RegisteredFile). z.family) c.mark-was.ensures.marked.1 ∙ c.in-Some.is ∙ ap Some (sym c.family.view_is) in
    family-within _ c.self.inside.made c.number.inside.0 c.family.inside.0 c.mark-was.result.status c.status_of.result c.mark-was.new.self c.self.invariant c.mark-was.ensures.marked.0 (here (λ n r. IsRegistered r.numbers n Pending) c.self.view_is c.number.view_is c.requires) of

pub listed : goal.listed
listed c =
    let of = ap (λ (z : RegisteredFile). z.family) c.mark-was.ensures.marked.1 ∙ c.in-Some.is ∙ ap Some (sym c.family.view_is) in
    let w = family-within _ c.self.inside.made c.number.inside.0 c.family.inside.0 c.mark-was.result.status c.status_of.result c.mark-was.new.self c.self.invariant c.mark-was.ensures.marked.0 (here (λ n r. IsRegistered r.numbers n Pending) c.self.view_is c.number.view_is c.requires) of in
    omega (arith, w, c.self.invariant.laws.families)

pub invariant_of-self : goal.invariant_of-self
invariant_of-self c =
    let o = other c.args.settled c.status_of.result c.status_of.ensures in
    let of = ap (λ (z : RegisteredFile). z.family) c.mark-was.ensures.marked.1 ∙ c.in-Some.is ∙ ap Some (sym c.family.view_is) in
    book-settled _ c.self.inside.made c.number.inside.0 c.family.inside.0 c.mark-was.result.status c.status_of.result c.mark-was.new.self c.self.invariant c.mark-was.ensures.marked.0 (here (λ n r. IsRegistered r.numbers n Pending) c.self.view_is c.number.view_is c.requires) of o.0 o.1

never : (c : goal.In_default) → ⊥
never c =
    has-family _ c.self.inside.made c.number.inside.0 c.mark-was.result.status c.status_of.result c.mark-was.new.self c.self.invariant c.mark-was.ensures.marked.0 (here (λ n r. IsRegistered r.numbers n Pending) c.self.view_is c.number.view_is c.requires) (ap (λ (z : RegisteredFile). z.family) c.mark-was.ensures.marked.1 ∙ c.in_default.is)

pub invariant_of-self-in_default : goal.invariant_of-self-in_default
invariant_of-self-in_default c = absurd (never c)

pub returns-in-Some : goal.returns-in-Some
returns-in-Some c =
    let of = ap (λ (z : RegisteredFile). z.family) c.mark-was.ensures.marked.1 ∙ c.in-Some.is ∙ ap Some (sym c.family.view_is) in
    there (λ n r new. Settles n (settled_status c.args.settled) r new) _ c.self.view_is c.number.view_is
    (settles _ c.self.inside.made c.number.inside.0 c.family.inside.0 c.mark-was.result.status c.status_of.result c.mark-was.new.self c.self.invariant c.mark-was.ensures.marked.0 (here (λ n r. IsRegistered r.numbers n Pending) c.self.view_is c.number.view_is c.requires) of (settled_status c.args.settled) c.status_of.ensures)

pub returns-in_default : goal.returns-in_default
returns-in_default c = absurd (never c)
