use Rattle.std.proofs.Common.{◌≡◌, ◌+◌, ◌∷◌, ◌++◌, ℕ, [], List, Option, length, slice_set, sym, ap, ◌∙◌, subst, arith}
use Rattle.std.proofs.lemmas.Option.{slice_get_within}
use Rattle.sv_model.proofs.Entries.{some}
use Rattle.sv_state.specs.Seen.{StateSeen}
use Rattle.sv_state_bench.specs.Freezing.{HasRow}
use Rattle.sv_state_bench.specs.Standing.{Stands, cell_of}
use Rattle.sv_state_bench.proofs.Installs.{pack_of, switched-stands}
use Rattle.sv_state_bench.proofs.Standings.{indexed}
use Rattle.sv_state_bench.proofs.bench.Bench.switch.Goals as goal

pub switch-requires : goal.switch-requires
switch-requires c =
    let i = c.self.inside in
    let has = subst (λ (s : StateSeen). HasRow s.books c.args.family) (sym c.self.view_is) c.requires in
    let at = c.self.invariant.actives_are c.args.family has.serial has.it has.is_open.current in
    let cell = indexed i.actives.items c.family.inside.0 c.args.family (cell_of i.state.books.journal has.it.descriptor.active) c.index.result.now c.family.view_is at c.index.ensures in
    record {
      serial = has.serial;
      it = has.it;
      is_open = has.is_open;
      row = has.row;
      frozen_is = c.in-Ok-new.ensures.ok ∙ c.in_ok-frozen.ensures ∙ cell;
    }

pub index_mut-requires : goal.index_mut-requires
index_mut-requires c =
    let i = c.self.inside in
    let has = subst (λ (s : StateSeen). HasRow s.books c.args.family) (sym c.self.view_is) c.requires in
    let at = c.self.invariant.actives_are c.args.family has.serial has.it has.is_open.current in
    omega (arith, c.family-2.view_is, slice_get_within i.actives.items c.args.family _ at, i.actives.ok.0)

pub invariant_of-self-2 : goal.invariant_of-self-2
invariant_of-self-2 c =
    let i = c.self.inside in
    let a = i.state.books in
    let b = c.switch.new.self.books in
    let k = c.in_ok-install in
    let mem_is : c.in-Some.mem ≡ length a.memtables + 1 = ap (λ (z : ℕ × ℕ). z.1) (some (sym c.in-Some.is ∙ k.ensures.tells.vacant)) in
    let cell : c.new-2.result ≡ record { id = length a.memtables + 1; rows = [] } = c.new-2.ensures ∙ ap (λ m. record { id = m; rows = [] }) mem_is in
    let items : c.push_reserved.new.self.items ≡ i.waiting.items ++ pack_of k.install.old ∷ [] =
    c.push_reserved.ensures.items ∙ (λ j. c.reserve.ensures.items j ++ c.pack_of.ensures j ∷ []) in
    subst (λ (W : List (Option ℕ)). Stands b (slice_set i.actives.items c.family-2.inside.0 c.new-2.result) i.outputs.items W) (sym items)
    (switched-stands a b i.actives.items i.outputs.items i.waiting.items c.self.invariant c.switch.ensures.follows.sound c.args.family k.ensures.switched _
    (λ j. slice_set i.actives.items (c.family-2.view_is j) (cell j)) k.install.old k.ensures.tells.tells.old)
