-- The part that a look at the places asks for.
use Rattle.std.specs.Prelude.{◌≡◌}
use Rattle.sv_model.specs.declared.records.SuperVersion.{SuperVersion}
use Rattle.sv_model.specs.declared.records.Descriptor.{Descriptor}
use Rattle.sv_registry.specs.declared.parts.Part.{Part}
use Rattle.sv_registry.specs.declared.parts.Part.TheVariants.{Active, List, Version}
use Rattle.sv_model.specs.Named.{UsesMemtable, UsesList, UsesVersion}

-- the descriptor names the part
abbrev pub Names : Part → Descriptor → Type 0
Names (Active mem) d = d.active ≡ mem
Names (List list) d = d.list ≡ list
Names (Version version) d = d.version ≡ version

-- the SuperVersion is Live and names the part
abbrev pub NamesPart : Part → SuperVersion → Type 0
NamesPart (Active mem) s = UsesMemtable mem s
NamesPart (List list) s = UsesList list s
NamesPart (Version version) s = UsesVersion version s
