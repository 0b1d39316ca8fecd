use Rattle.std.proofs.Common.{◌≡◌, ℕ, refl, ap, ◌∙◌, subst}
use Rattle.sv_model.specs.declared.records.Descriptor.{Descriptor}
use Rattle.sv_model.specs.Named.{list_live, version_live}
use Rattle.sv_imm.specs.Changes.{live_list}
use Rattle.sv_version.specs.Changes.{live_version}
use Rattle.sv_laws.proofs.Rooms.{cell-made}
use Rattle.sv_objects.specs.Makings.{RefMade, first_of}
use Rattle.sv_objects.specs.Shown.{shown}
use Rattle.sv_objects.proofs.LastMade.{cell-read, last-live}
use Rattle.sv_objects.proofs.objects.Objects.make_family.Goals as goal

pub take_back-requires-in-Err : goal.take_back-requires-in-Err
take_back-requires-in-Err c = last-live version_live _ _ (live_version _) c.in-Ok-first.ensures.ok.made refl

pub take_back-requires-in-Err-2 : goal.take_back-requires-in-Err-2
take_back-requires-in-Err-2 c = last-live list_live _ _ (live_list _) c.in-Ok.ensures.ok.made refl

pub returns-in-Ok-make_ref-clause-made : goal.returns-in-Ok-make_ref-clause-made
returns-in-Ok-make_ref-clause-made c =
    let o = c.args.self.now in
    let m = c.in_ok-active.ensures.made in
    let cell = cell-read o.memtables c.args.family 0 c.make.new.self c.in_ok-active.active c.cell_of-cell.result m c.cell_of-cell.ensures in
    let d : c.first_descriptor-descriptor.result ≡ first_of o c.args.family c.args.options =
    c.first_descriptor-descriptor.ensures
    ∙ (λ i. record { family = c.args.family; active = m.id_is i; list = c.in-Ok.ensures.ok.next i; version = c.in-Ok-first.ensures.ok.next i; base = 0; options = c.args.options }) in
    let ref : RefMade o.supers (first_of o c.args.family c.args.options) m.cell c.none.result c.make_ref.new.supers c.in-Ok-make_ref.made.pack c.in-Ok-make_ref.made.body.value =
    subst (λ (z : Descriptor × ℕ). RefMade o.supers z.0 z.1 c.none.result c.make_ref.new.supers c.in-Ok-make_ref.made.pack c.in-Ok-make_ref.made.body.value) (λ i. (d i, cell i)) c.in-Ok-make_ref.ensures.made in
    record {
      cell = m.cell;
      cell_room = cell-made o.memtables m.cell c.in_ok-active.ensures.refused m.within m.least;
      cell_least = m.least;
      place = ref.place;
      room = ref.room;
      least = ref.least;
      supers = ref.made;
      memtables = m.made;
      lists = c.in-Ok.ensures.ok.made;
      versions = c.in-Ok-first.ensures.ok.made;
      files = refl;
      pack_is = ref.pack_is;
      descriptor_is = ref.body_is.descriptor_is;
      cell_is = ref.body_is.cell_is;
      frozen_are = ref.body_is.frozen_are ∙ ap shown c.none.ensures.frozen;
      files_are = ref.body_is.files_are ∙ c.none.ensures.files;
    }
