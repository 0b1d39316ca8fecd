use Rattle.std.proofs.Common.{◌≡◌, ◌<◌, ◌++◌, ◌∷◌, [], ℕ, ◌+◌, List, Some, None, set, slice_get, sym, ap, subst, ◌∙◌, arith}
use Rattle.sv_model.specs.Books.{FileRegister}
use Rattle.sv_model.specs.declared.records.RegisteredFile.{RegisteredFile}
use Rattle.sv_files.specs.Kept.{IsFileBook}
use Rattle.sv_files.proofs.NumbersLaws.{fresh, next-new}
use Rattle.sv_files.proofs.BookLaws.{book-captured}
use Rattle.sv_files.proofs.book.FileBook.capture.Goals as goal

pub push-requires : goal.push-requires
push-requires c =
    next-new c.self.inside.numbers c.self.inside.captured c.self.inside.next c.self.inside.next c.self.invariant.laws.numbers (omega arith)

pub invariant_of-self-2 : goal.invariant_of-self-2
invariant_of-self-2 c =
    let f = c.family.inside.0 in
    let idle : slice_get c.self.inside.captured f ≡ Some None =
    ap (slice_get c.self.inside.captured) c.family.view_is ∙ ap (λ (r : FileRegister). slice_get r.captured c.args.family) c.self.view_is ∙ c.requires.idle in
    let pushed : c.push.new.self ≡ c.self.inside.numbers ++ fresh c.self.inside.next f ∷ [] =
    c.in_ok-push.ensures.ok ∙ ap (λ (k : ℕ). c.self.inside.numbers ++ fresh c.self.inside.next k ∷ []) (sym c.family.view_is) in
    let more : c.self.inside.next < 18446744073709551615 = omega (arith, c.if-self.false, c.self.invariant.laws.numbers.most) in
    subst (λ (l : List RegisteredFile). IsFileBook (record { numbers = l; captured = set c.self.inside.captured f (Some c.self.inside.next); holds = c.self.inside.holds; jobs = c.self.inside.jobs; next = c.self.inside.next + 1 }) (c.self.inside.made + 1)) (sym pushed)
    (book-captured _ c.self.inside.made f c.self.invariant idle c.if-self-ge-MAX_CAPTURED.false more)
