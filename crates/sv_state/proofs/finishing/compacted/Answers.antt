use Rattle.std.proofs.Common.{◌∷◌, [], ap, ◌∙◌}
use Rattle.sv_model.specs.declared.records.FileMeta.{FileMeta}
use Rattle.sv_objects.specs.declared.bodies.Body.{Body}
use Rattle.sv_objects.specs.Makings.{CompactionMade}
use Rattle.sv_state.specs.Finishing.{BodyCompacted}
use Rattle.sv_state.proofs.Finishes.{ok-map}
use Rattle.sv_state.proofs.finishing.compacted.Goals as goal

pub returns-clause-made : goal.returns-clause-made
returns-clause-made c =
    let file : FileMeta = c.args.file in
    let old : Body = c.args.body.now in
    let held = c.in_ok-held.held in
    ok-map c.make_compacted.result
    (λ r. CompactionMade c.args.objects.now old.descriptor old.cell file held c.make_compacted.new.self r.pack r.body.value)
    (λ r. BodyCompacted c.args.objects.now old file c.make_compacted.new.self r.pack r.body.value)
    (λ r h. record { held = held; frozen_are = c.in_ok-held.ensures.frozen; files_are = c.in_ok-held.ensures.files ∙ ap (λ (z : FileMeta). z ∷ []) c.same_file.ensures; made = h })
    c.make_compacted.ensures.made
