use Rattle.std.proofs.Common.{◌≡◌, ◌∷◌, ◌++◌, ℕ, [], List, Option, Some, length, slice_set, refl, sym, ap, ◌∙◌, subst, arith}
use Rattle.std.proofs.lemmas.Option.{slice_get_read}
use Rattle.std.specs.Prelude.{slice_get}
use Rattle.sv_model.specs.declared.records.FileMeta.{FileMeta}
use Rattle.sv_model.specs.Books.{Books}
use Rattle.sv_state_bench.specs.Standing.{Stands}
use Rattle.sv_state_bench.proofs.Installs.{compacted-stands, flushed-stands, pack_of}
use Rattle.sv_state_bench.proofs.OutputLaws.{can-finish, given-up-stands, settled-outputs}
use Rattle.sv_state_bench.proofs.bench.Bench.end.Goals as goal

pub compact_done-requires-clause-finish : goal.compact_done-requires-clause-finish
compact_done-requires-clause-finish c =
    let i = c.self.inside in
    let at : slice_get i.outputs.items c.args.place ≡ Some (Some c.in-Some.file) =
    slice_get_read i.outputs.items (length i.outputs.items) c.args.place c.index_mut.result.now refl (omega (arith, c.if-place-len.false, c.len.ensures, i.outputs.ok.0)) c.index_mut.ensures.value
    ∙ ap Some (sym c.replace.ensures.value ∙ c.in-Some.is) in
    can-finish i.state.books i.actives.items i.outputs.items i.waiting.items c.self.invariant c.args.place c.in-Some.file at

pub invariant_of-self-in_err-install : goal.invariant_of-self-in_err-install
invariant_of-self-in_err-install c =
    let i = c.self.inside in
    let b = c.compact_done.new.self.books in
    let at : slice_get i.outputs.items c.args.place ≡ Some (Some c.in-Some.file) =
    slice_get_read i.outputs.items (length i.outputs.items) c.args.place c.index_mut.result.now refl (omega (arith, c.if-place-len.false, c.len.ensures, i.outputs.ok.0)) c.index_mut.ensures.value
    ∙ ap Some (sym c.replace.ensures.value ∙ c.in-Some.is) in
    let g = c.in_err-install.ensures.given_up in
    subst (λ (z : List (Option FileMeta) × List (Option ℕ)). Stands b i.actives.items z.0 z.1)
    (λ j. (slice_set i.outputs.items c.args.place (sym c.replace.ensures.after j), sym c.reserve.ensures.items j))
    (given-up-stands i.state.books b i.actives.items i.outputs.items i.waiting.items c.self.invariant c.compact_done.ensures.follows.sound c.args.place c.in-Some.file at g.0 g.1)

pub invariant_of-self-then-file : goal.invariant_of-self-then-file
invariant_of-self-then-file c =
    let i = c.self.inside in
    let a = i.state.books in
    let b = c.compact_done.new.self.books in
    let k = c.in_ok-install in
    let at : slice_get i.outputs.items c.args.place ≡ Some (Some c.in-Some.file) =
    slice_get_read i.outputs.items (length i.outputs.items) c.args.place c.index_mut.result.now refl (omega (arith, c.if-place-len.false, c.len.ensures, i.outputs.ok.0)) c.index_mut.ensures.value
    ∙ ap Some (sym c.replace.ensures.value ∙ c.in-Some.is) in
    let w = k.ensures.compacted in
    let outs = settled-outputs a b c.self.invariant.sound i.outputs.items c.self.invariant.outputs_are c.args.place c.in-Some.file at k.install.family _ w.settled (ap (λ (z : Books). z.metas) w.is) in
    let items : c.push_reserved.new.self.items ≡ i.waiting.items ++ pack_of k.install.old ∷ [] =
    c.push_reserved.ensures.items ∙ (λ j. c.reserve.ensures.items j ++ c.pack_of.ensures j ∷ []) in
    subst (λ (z : List (Option FileMeta) × List (Option ℕ)). Stands b i.actives.items z.0 z.1)
    (λ j. (slice_set i.outputs.items c.args.place (sym c.replace.ensures.after j), sym items j))
    (compacted-stands a b i.actives.items i.outputs.items i.waiting.items c.self.invariant c.compact_done.ensures.follows.sound k.install.family c.in-Some.file w _ outs k.install.old k.ensures.tells.old)

pub flush_done-requires-clause-finish : goal.flush_done-requires-clause-finish
flush_done-requires-clause-finish c =
    let i = c.self.inside in
    let at : slice_get i.outputs.items c.args.place ≡ Some (Some c.in-Some.file) =
    slice_get_read i.outputs.items (length i.outputs.items) c.args.place c.index_mut.result.now refl (omega (arith, c.if-place-len.false, c.len.ensures, i.outputs.ok.0)) c.index_mut.ensures.value
    ∙ ap Some (sym c.replace.ensures.value ∙ c.in-Some.is) in
    can-finish i.state.books i.actives.items i.outputs.items i.waiting.items c.self.invariant c.args.place c.in-Some.file at

pub invariant_of-self-in_err-install-2 : goal.invariant_of-self-in_err-install-2
invariant_of-self-in_err-install-2 c =
    let i = c.self.inside in
    let b = c.flush_done.new.self.books in
    let at : slice_get i.outputs.items c.args.place ≡ Some (Some c.in-Some.file) =
    slice_get_read i.outputs.items (length i.outputs.items) c.args.place c.index_mut.result.now refl (omega (arith, c.if-place-len.false, c.len.ensures, i.outputs.ok.0)) c.index_mut.ensures.value
    ∙ ap Some (sym c.replace.ensures.value ∙ c.in-Some.is) in
    let g = c.in_err-install-2.ensures.given_up in
    subst (λ (z : List (Option FileMeta) × List (Option ℕ)). Stands b i.actives.items z.0 z.1)
    (λ j. (slice_set i.outputs.items c.args.place (sym c.replace.ensures.after j), sym c.reserve.ensures.items j))
    (given-up-stands i.state.books b i.actives.items i.outputs.items i.waiting.items c.self.invariant c.flush_done.ensures.follows.sound c.args.place c.in-Some.file at g.0 g.1)

pub invariant_of-self-2 : goal.invariant_of-self-2
invariant_of-self-2 c =
    let i = c.self.inside in
    let a = i.state.books in
    let b = c.flush_done.new.self.books in
    let k = c.in_ok-install-2 in
    let at : slice_get i.outputs.items c.args.place ≡ Some (Some c.in-Some.file) =
    slice_get_read i.outputs.items (length i.outputs.items) c.args.place c.index_mut.result.now refl (omega (arith, c.if-place-len.false, c.len.ensures, i.outputs.ok.0)) c.index_mut.ensures.value
    ∙ ap Some (sym c.replace.ensures.value ∙ c.in-Some.is) in
    let w = k.ensures.flushed in
    let outs = settled-outputs a b c.self.invariant.sound i.outputs.items c.self.invariant.outputs_are c.args.place c.in-Some.file at k.install.family _ w.settled (ap (λ (z : Books). z.metas) w.is) in
    let items : c.push_reserved-2.new.self.items ≡ i.waiting.items ++ pack_of k.install.old ∷ [] =
    c.push_reserved-2.ensures.items ∙ (λ j. c.reserve.ensures.items j ++ c.pack_of-2.ensures j ∷ []) in
    subst (λ (z : List (Option FileMeta) × List (Option ℕ)). Stands b i.actives.items z.0 z.1)
    (λ j. (slice_set i.outputs.items c.args.place (sym c.replace.ensures.after j), sym items j))
    (flushed-stands a b i.actives.items i.outputs.items i.waiting.items c.self.invariant c.flush_done.ensures.follows.sound k.install.family c.in-Some.file w _ outs k.install.old k.ensures.tells.old)
