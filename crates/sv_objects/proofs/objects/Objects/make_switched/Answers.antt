use Rattle.std.proofs.Common.{ℕ, refl, subst}
use Rattle.sv_model.specs.Named.{list_live}
use Rattle.sv_imm.specs.Changes.{live_list}
use Rattle.sv_laws.proofs.Rooms.{cell-made}
use Rattle.sv_objects.specs.Makings.{RefMade}
use Rattle.sv_objects.proofs.LastMade.{cell-read, last-live, taken_back}
use Rattle.sv_objects.proofs.objects.Objects.make_switched.Goals as goal

pub take_back-requires-in-Err : goal.take_back-requires-in-Err
take_back-requires-in-Err c = last-live list_live _ _ (live_list _) (c.in-Ok.ensures.ok c.requires.live.it c.requires.live.at).made refl

pub returns-in-Err-clause-kept : goal.returns-in-Err-clause-kept
returns-in-Err-clause-kept c =
    let o = c.args.self.now in
    let lists = taken_back _ _ _ _ _ (c.in-Ok.ensures.ok c.requires.live.it c.requires.live.at).made c.take_back-in-Err.ensures.1 in
    let memtables = taken_back _ _ _ _ _ c.in_ok-active.ensures.made.made c.take_back-in-Err-2.ensures.undone.1 in
    λ i. record { supers = c.in-Err.ensures.kept i; memtables = memtables i; lists = lists i; versions = o.versions; files = o.files }

pub returns-in-Ok-make_ref-clause-made : goal.returns-in-Ok-make_ref-clause-made
returns-in-Ok-make_ref-clause-made c =
    let o = c.args.self.now in
    let d = c.args.current in
    let m = c.in_ok-active.ensures.made in
    let cell = cell-read o.memtables d.family c.args.base c.make.new.self c.in_ok-active.active c.cell_of-cell.result m c.cell_of-cell.ensures in
    let list = (c.in-Ok.ensures.ok c.requires.live.it c.requires.live.at).next in
    record {
      cell = m.cell;
      cell_room = cell-made o.memtables m.cell c.in_ok-active.ensures.refused m.within m.least;
      cell_least = m.least;
      ref = subst (λ (z : ℕ × (ℕ × ℕ)). RefMade o.supers (record d { active = z.0; list = z.1.0; base = c.args.base }) z.1.1 c.args.held c.make_ref.new.supers c.in-Ok-make_ref.made.pack c.in-Ok-make_ref.made.body.value) (λ i. (m.id_is i, (list i, cell i))) c.in-Ok-make_ref.ensures.made;
      memtables = m.made;
      lists = λ l e. (c.in-Ok.ensures.ok l e).made;
      versions = refl;
      files = refl;
    }
