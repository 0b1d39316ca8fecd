-- Which commands are built at this stage.
use Rattle.std.specs.Prelude.{ℕ, Bool, true, false, ◌&&◌, nat_le, T}
use Rattle.sv_script.specs.declared.commands.Command.{Command}
use Rattle.sv_script.specs.declared.commands.Command.TheVariants.{Compact, Create, Delete, Drop, Flush, Get, Gets, Hold, Live, Open, Purge, Put, Release, Scan, Set, Snap, Unhold, Unsnap}

-- Those of one lane but pins and rests, which keep SuperVersions from one command to the next.
abbrev pub is_built : Command → Bool
is_built (Put family key value) = true
is_built (Delete family key) = true
is_built (Get family key) = true
is_built (Gets snapshot family key) = true
is_built (Flush family) = true
is_built (Compact family) = true
is_built (Create family) = true
is_built (Open family) = true
is_built (Release family) = true
is_built (Drop family) = true
is_built (Set family option value) = true
is_built Hold = true
is_built Unhold = true
is_built Live = true
is_built Purge = true
is_built Scan = true
is_built Snap = true
is_built (Unsnap snapshot) = true
is_built command = false

abbrev pub IsBuilt : Command → Type 0
IsBuilt command = T (is_built command)

-- The command is built, and the lane is the one that there is yet.
abbrev pub may_run : ℕ → Command → Bool
may_run lane command = nat_le lane 1 && is_built command
