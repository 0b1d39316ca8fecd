use Rattle.std.proofs.Common.{◌∷◌, ◌++◌, [], ap, ◌∙◌, subst}
use Rattle.sv_model.specs.declared.records.FileMeta.{FileMeta}
use Rattle.sv_objects.specs.declared.bodies.Body.{Body}
use Rattle.sv_objects.specs.Makings.{FlushMade}
use Rattle.sv_objects.specs.Shown.{shown}
use Rattle.sv_state.specs.Finishing.{BodyFlushed, HasFront}
use Rattle.sv_state.proofs.Finishes.{ok-map}
use Rattle.sv_state.proofs.finishing.flushed.Goals as goal

pub returns-clause-made : goal.returns-clause-made
returns-clause-made c =
    let file : FileMeta = c.args.file in
    let old : Body = c.args.body.now in
    let held = c.push_file.new.self in
    let n = c.front_count-count.result in
    ok-map c.make_flushed.result
    (λ r. FlushMade c.args.objects.now old.descriptor old.cell file n held c.make_flushed.new.self r.pack r.body.value)
    (λ r. BodyFlushed c.args.objects.now old file c.make_flushed.new.self r.pack r.body.value)
    (λ r h. record { count = n; front = λ l e. subst (λ ms. HasFront c.args.objects.now.memtables file.to ms n) (c.members-members.ensures l e) c.front_count-count.ensures.front; held = held; frozen_are = ap (λ v. shown v.items) c.push_file.ensures.frozen ∙ c.in_ok-held.ensures.frozen; files_are = c.in_ok-push_file.ensures.files ∙ (λ j. c.in_ok-held.ensures.files j ++ c.same_file.ensures j ∷ []); made = h })
    c.make_flushed.ensures.made
