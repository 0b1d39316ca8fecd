use Rattle.std.proofs.Common.{◌≡◌, ℕ, List, length, map, refl, arith, sym, ap, subst, ◌∙◌}
use Rattle.std.proofs.lemmas.List.{take_all}
use Rattle.std.proofs.lemmas.Option.{slice_get_read}
use Rattle.sv_model.specs.declared.records.RegisteredFile.{RegisteredFile}
use Rattle.sv_model.specs.Numbers.{FilesStand, captures, registered}
use Rattle.sv_files.specs.Calls.{AreNamed, live_file, opened}
use Rattle.sv_files.proofs.NamedLaws.{captures-live, named-new, numbers-named}
use Rattle.sv_files.proofs.BookLaws.{first-book}
use Rattle.sv_files.proofs.book.FileBook.named.Goals as goal

pub push-requires : goal.push-requires
push-requires c =
    let i = c.loop-family.family-index in
    let at = slice_get_read c.args.files.now (length c.args.files.now) i c.loop-family-item.result refl c.loop-family-test.true c.loop-family-item.is in
    ap (λ (n : ℕ). registered n c.loop-family.numbers) c.number.view_is ∙ ap (registered c.loop-family-item.result.1) c.loop-family.invariant
    ∙ named-new c.args.next c.args.files.now i c.loop-family-item.result c.requires.named at

-- all files are registered
all : (c : goal.After-raw) → c.loop-family.numbers ≡ map live_file c.args.files.now
all c = c.loop-family.invariant ∙ ap (map live_file) (take_all c.loop-family.family-index c.args.files.now c.loop-family-test.false)

pub with_numbers-requires-clause-stand : goal.with_numbers-requires-clause-stand
with_numbers-requires-clause-stand c =
    let files = c.args.files.now in
    let named = subst (λ (next : ℕ). AreNamed next files) (sym c.raw.ensures) c.requires.named in
    subst (λ (l : List RegisteredFile). FilesStand (opened c.raw.result l)) (sym (all c))
    (first-book c.raw.result (map live_file files) (numbers-named c.raw.result files named (omega (arith, c.requires.next, c.raw.ensures)) (omega (arith, c.raw.type_inv))) (omega (arith, captures-live files, named.few)))

pub with_numbers-requires-clause-made : goal.with_numbers-requires-clause-made
with_numbers-requires-clause-made c = sym (ap captures (all c) ∙ captures-live c.args.files.now)
