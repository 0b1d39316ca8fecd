use Rattle.std.proofs.Common.{◌≡◌, ◌<◌, ◌∙◌, suc, List, length, Some, ap, subst, arith}
use Rattle.sv_model.specs.declared.records.Descriptor.{Descriptor}
use Rattle.sv_model.specs.declared.records.FileMeta.{FileMeta}
use Rattle.sv_model.specs.declared.openings.OpenFamily.{OpenFamily}
use Rattle.sv_objects.specs.Openings.{OpenMade}
use Rattle.sv_state.specs.declared.begun.Begun.{Begun}
use Rattle.sv_state.specs.Begun.{IsBegun}
use Rattle.sv_state.specs.Openings.{open_list, open_memtable, open_top, open_version}
use Rattle.sv_state.proofs.OpenLists.{length-by_id}
use Rattle.sv_state.proofs.OpenRoom.{none-refused, only-memory}
use Rattle.sv_state.proofs.OpenRefs.{begun-next}
use Rattle.sv_state.proofs.begun.Begun.add.Goals as goal

-- as many families have begun as have something on top
so-many : (kept : List OpenFamily) (b : Begun) → IsBegun kept b → length b.tops.items ≡ length kept
so-many kept b h = ap (λ l. length l) h.tops ∙ length-by_id open_top 0 kept

pub overflow_cast-id : goal.overflow_cast-id
overflow_cast-id c =
    let few = c.requires.few in
    omega (arith, c.len.ensures, so-many few.0 c.args.self.now few.1, few.2)

pub make_open-requires-clause-few_memtables : goal.make_open-requires-clause-few_memtables
make_open-requires-clause-few_memtables c =
    let few = c.requires.few in
    omega (arith, ap (λ l. length l) few.1.memtables, length-by_id open_memtable 0 few.0, few.2)

pub make_open-requires-clause-few_lists : goal.make_open-requires-clause-few_lists
make_open-requires-clause-few_lists c =
    let few = c.requires.few in
    omega (arith, ap (λ l. length l) few.1.lists, length-by_id open_list 0 few.0, few.2)

pub make_open-requires-clause-few_versions : goal.make_open-requires-clause-few_versions
make_open-requires-clause-few_versions c =
    let few = c.requires.few in
    omega (arith, ap (λ l. length l) few.1.versions, length-by_id open_version 0 few.0, few.2)

pub returns-clause-begun : goal.returns-clause-begun
returns-clause-begun c kept h =
    let b = c.args.self.now in
    let f = c.args.family.now in
    let r = c.in-Ok.first in
    let few = c.requires.few in
    let new : Begun = record { objects = c.make_open.new.self; tops = c.push.new.self; held = c.push-2.new.self } in
    let small : length kept < 256 = omega (arith, so-many kept b h, so-many few.0 b few.1, few.2) in
    let id_is : c.len.result ≡ length kept = omega (arith, c.len.ensures, so-many kept b h) in
    let base_is : c.len-base.result ≡ length f.writes.items = omega (arith, c.len-base.ensures) in
    let made = subst (λ (l : List FileMeta). OpenMade b.objects c.len.result f.options c.len-base.result l c.make_open.new.self r.pack r.body.value) c.as_slice-files.ensures.value c.in-Ok.ensures.made in
    begun-next kept f b new r c.top_of.result c.len.result c.len-base.result h id_is base_is made
    c.in_ok-push.ensures.items
    (λ ref. c.top_of.ensures (suc (length kept)) (length kept) small ref.pack_is ∙ ap (λ (d : Descriptor). record { current = Some (suc (length kept)); last = d.version }) ref.descriptor_is)
    c.in_ok-push-2.ensures.items

pub unreachable-requires : goal.unreachable-requires
unreachable-requires c =
    let few = c.requires.few in
    c.in_default.not-OutOfMemory (only-memory _ c.in-Err.refusal (none-refused few.0 c.args.self.now few.1 few.2) c.in-Err.ensures.refused)
