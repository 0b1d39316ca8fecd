use Rattle.std.proofs.Common.{◌≡◌, ◌≤◌, ◌∷◌, ◌++◌, [], List, Option, Some, refl, sym, ap, ◌∙◌, subst, arith}
use Rattle.sv_model.specs.declared.sv_refs.SvRef.{SvRef}
use Rattle.sv_model.specs.Books.{Books, FileRegister}
use Rattle.sv_model.specs.Openings.{opening_books}
use Rattle.sv_model.specs.Steady.{Sound}
use Rattle.sv_laws.proofs.Opened.{first-sound}
use Rattle.sv_objects.specs.declared.bodies.Body.{Body}
use Rattle.sv_state.specs.Refs.{IsState}
use Rattle.sv_state.proofs.Firsts.{first-books, first-state, pack_is}
use Rattle.sv_state.proofs.state.State.new.Goals as goal

books : (c : goal.After-new-3) → record { journal = c.new-2.result.writes; supers = c.make_family.new.self.supers; memtables = c.make_family.new.self.memtables; lists = c.make_family.new.self.lists; versions = c.make_family.new.self.versions; files = c.make_family.new.self.files; metas = c.new-3.result.items; families = c.in_ok-families.families; tops = c.push.new.self.items; snapshots = c.new-2.result.snapshots } ≡ opening_books c.args.next
books c =
    let o = c.new-objects.ensures in
    let r = c.in-Ok.first in
    let files = o.files ∙ c.new-files.ensures in
    let pack = pack_is c.new-objects.result c.make_family.new.self c.args.next r.pack r.body.value c.in-Ok.ensures.made o.supers o.memtables o.lists o.versions files in
    let top : c.push.new.self.items ≡ record { current = Some 1; last = r.body.value.descriptor.version } ∷ [] =
    c.in_ok-push.ensures.items ∙ (λ i. c.new-tops.ensures.items i ++ c.top_of.ensures 1 0 (omega arith) pack i ∷ []) in
    first-books c.new-objects.result c.make_family.new.self c.args.next r.pack r.body.value c.in-Ok.ensures.made o.supers o.memtables o.lists o.versions files
    c.new-2.result.writes c.new-2.result.snapshots c.new-3.result.items c.in_ok-families.families c.push.new.self.items
    c.new-2.ensures.writes c.new-2.ensures.snapshots c.new-3.ensures.items c.in_ok-families.ensures.first top

pub invariant_of-result : goal.invariant_of-result
invariant_of-result c =
    let o = c.new-objects.ensures in
    let r = c.in-Ok.first in
    let files = o.files ∙ c.new-files.ensures in
    let held : c.push-2.new.self.items ≡ Some r ∷ [] = c.in_ok-push-2.ensures.items ∙ ap (λ (l : List (Option (SvRef Body))). l ++ Some r ∷ []) c.new-held.ensures.items in
    let most : c.args.next ≤ 18446744073709551615 = subst (λ (z : FileRegister). z.next ≤ 18446744073709551615) c.new-files.ensures c.laws.ensures.numbers.most in
    subst (λ (z : Books × List (Option (SvRef Body))). IsState z.0 z.1) (λ i. (sym (books c) i, sym held i))
    (first-state c.new-objects.result c.make_family.new.self c.args.next r.pack r.body.value c.in-Ok.ensures.made o.supers o.memtables o.lists o.versions files c.requires most r refl refl)

pub returns-clause-books : goal.returns-clause-books
returns-clause-books c = books c

pub returns-clause-sound : goal.returns-clause-sound
returns-clause-sound c = subst Sound (sym (books c)) (first-sound c.args.next c.requires (subst (λ (z : FileRegister). z.next ≤ 18446744073709551615) c.new-files.ensures c.laws.ensures.numbers.most))
