use Rattle.std.proofs.Common.{◌++◌, ◌∷◌, [], ℕ, refl, ap, ◌∙◌, subst}
use Rattle.sv_model.specs.Named.{list_live, version_live}
use Rattle.sv_imm.specs.Changes.{live_list}
use Rattle.sv_version.specs.Changes.{live_version}
use Rattle.sv_objects.specs.Makings.{RefMade}
use Rattle.sv_objects.specs.Shown.{shown}
use Rattle.sv_objects.proofs.LastMade.{cell-read, last-live}
use Rattle.sv_objects.proofs.objects.Objects.make_open.Goals as goal

pub take_back-requires-in_default-append : goal.take_back-requires-in_default-append
take_back-requires-in_default-append c = last-live list_live _ _ (live_list _) c.in-Ok.ensures.ok.made refl

pub take_back-requires-in-Err : goal.take_back-requires-in-Err
take_back-requires-in-Err c = last-live version_live _ _ (live_version _) c.in-Ok-append.ensures.ok.made refl

pub take_back-requires-in-Err-2 : goal.take_back-requires-in-Err-2
take_back-requires-in-Err-2 c = last-live list_live _ _ (live_list _) c.in-Ok.ensures.ok.made refl

pub returns-in-Ok-make_ref-clause-made : goal.returns-in-Ok-make_ref-clause-made
returns-in-Ok-make_ref-clause-made c =
    let o = c.args.self.now in
    let m = c.in_ok-active.ensures.made in
    let cell = cell-read o.memtables c.args.family c.args.base c.make.new.self c.in_ok-active.active c.cell_of-cell.result m c.cell_of-cell.ensures in
    let list = c.in-Ok.ensures.ok in
    let version = c.in-Ok-append.ensures.ok in
    let ref = subst (λ (z : ℕ × (ℕ × (ℕ × ℕ))). RefMade o.supers (record { family = c.args.family; active = z.0; list = z.1.0; version = z.1.1.0; base = c.args.base; options = c.args.options }) z.1.1.1 (record { frozen = c.new.result; files = c.in_ok-copied.field-0 }) c.make_ref.new.supers c.in-Ok-make_ref.made.pack c.in-Ok-make_ref.made.body.value) (λ i. (m.id_is i, (list.next i, (version.next i, cell i)))) c.in-Ok-make_ref.ensures.made in
    record {
      cell = m.cell;
      cell_least = m.least;
      place = ref.place;
      least = ref.least;
      supers = ref.made;
      memtables = m.made;
      lists = list.made;
      versions = version.made ∙ ap (λ l. o.versions ++ live_version l ∷ []) c.in_ok-files.ensures;
      files = refl;
      pack_is = ref.pack_is;
      descriptor_is = ref.body_is.descriptor_is;
      cell_is = ref.body_is.cell_is;
      frozen_are = ref.body_is.frozen_are ∙ ap shown c.new.ensures.items;
      files_are = ref.body_is.files_are ∙ c.in_ok-copied.ensures;
    }
