-- The objects with which the families of a store that was kept begin.
use Rattle.std.specs.Prelude.{◌≡◌, ◌+◌, ◌*◌, ℕ, suc, List, [], Some, length, slice_get}
use Rattle.sv_model.specs.declared.sv_refs.SvRef.{SvRef}
use Rattle.sv_model.specs.declared.openings.OpenFamily.{OpenFamily}
use Rattle.sv_objects.specs.declared.bodies.Body.{Body}
use Rattle.sv_objects.specs.Shown.{shown}
use Rattle.sv_state.specs.declared.begun.Begun.{Begun}
use Rattle.sv_state.specs.Openings.{by_id, open_list, open_memtable, open_super, open_top, open_version}

-- the pack and the body of a reference of the family's first SuperVersion
pub record IsOpenRef (id : ℕ) (f : OpenFamily) (pack : ℕ) (body : Body) : Type 0 where
  pub pack_is : pack ≡ suc id * 256 + id
  pub descriptor_is : body.descriptor ≡ (open_super id f).descriptor
  pub cell_is : body.cell ≡ id
  pub frozen_are : shown body.frozen ≡ []
  pub files_are : body.files ≡ f.files.items

-- These families have begun, and a reference of the current of each is kept.
pub record IsBegun (kept : List OpenFamily) (b : Begun) : Type 0 where
  pub supers : b.objects.supers ≡ by_id open_super 0 kept
  pub memtables : b.objects.memtables ≡ by_id open_memtable 0 kept
  pub lists : b.objects.lists ≡ by_id open_list 0 kept
  pub versions : b.objects.versions ≡ by_id open_version 0 kept
  pub tops : b.tops.items ≡ by_id open_top 0 kept
  pub paired : length b.held.items ≡ length kept
  pub held : (i : ℕ) (f : OpenFamily) → slice_get kept i ≡ Some f
      → (r : SvRef Body) × (slice_get b.held.items i ≡ Some (Some r)) × IsOpenRef i f r.pack r.body.value
