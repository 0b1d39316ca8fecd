use Rattle.std.proofs.Common.{◌≡◌, ◌+◌, ◌∷◌, Some, length, drop, suc, refl, sym, ap, ◌∙◌, subst, arith}
use Rattle.std.specs.Prelude.{slice_get}
use Rattle.std.proofs.Math.ListN.{drop_of_length-le}
use Rattle.std.proofs.Math.Seq.{drop-cons}
use Rattle.std.proofs.lemmas.Option.{slice_get_read}
use Rattle.sv_model.specs.Named.{NamedFile}
use Rattle.sv_laws.specs.Midst.{MidstFiles}
use Rattle.sv_laws.proofs.MidstLaws.{midst-file}
use Rattle.sv_objects.proofs.CleanLaws.{still-live}
use Rattle.sv_objects.proofs.cleanup.retire_all.Goals as goal

pub loop-number-preserved : goal.loop-number-preserved
loop-number-preserved c =
    let i = c.loop-number.number-index in
    let ns = c.args.numbers.now in
    let n = c.number-item.result in
    let at : slice_get ns i ≡ Some n = slice_get_read ns (length ns) i n refl c.loop-number-test.true c.number-item.is in
    let one : drop i ns ≡ n ∷ drop (i + 1) ns =
    drop-cons ns i n c.loop-number-test.true ∙ (λ k. sym c.number-item.is k ∷ drop (let e : suc i ≡ i + 1 = omega arith in e k) ns) in
    let inv = c.loop-number.invariant in
    record {
      live = λ j m le e. still-live c.loop-number.files.numbers c.retire.new.self.numbers n m c.retire.ensures.numbers
          (λ q. (let same : j ≡ i = c.requires.once j i m e (at ∙ ap Some (sym q)) in omega (arith, same, le))) (inv.live j m (omega (arith, le)) e);
      midst = λ V all once free h. midst-file (NamedFile V) all c.loop-number.files.numbers c.retire.new.self.numbers n (drop (i + 1) ns) once
          (subst (MidstFiles (NamedFile V) all c.loop-number.files.numbers) one (inv.midst V all once free h)) (free n (record { at = i; is = at })) c.retire.ensures.numbers;
      rest = c.retire.ensures.rest ∙ (λ k. record (inv.rest k) { numbers = c.retire.new.self.numbers });
    }

pub returns-clause-midst : goal.returns-clause-midst
returns-clause-midst c V all once free h =
    subst (MidstFiles (NamedFile V) all c.loop-number.files.numbers) (drop_of_length-le c.args.numbers.now (omega (arith, c.loop-number-test.false))) (c.loop-number.invariant.midst V all once free h)
