-- Which commands ask nothing of the directory.
use Rattle.std.specs.Prelude.{Bool, true, false, T}
use Rattle.sv_script.specs.declared.commands.Command.{Command}
use Rattle.sv_script.specs.declared.commands.Command.TheVariants.{Create, Delete, Drop, Hold, Live, Open, Put, Release, Set, Snap, Unhold, Unsnap}

-- the commands that ask nothing of the directory
abbrev pub asks_none : Command → Bool
asks_none (Put family key value) = true
asks_none (Delete family key) = true
asks_none (Create family) = true
asks_none (Open family) = true
asks_none (Release family) = true
asks_none (Drop family) = true
asks_none (Set family option value) = true
asks_none Hold = true
asks_none Unhold = true
asks_none Live = true
asks_none Snap = true
asks_none (Unsnap snapshot) = true
asks_none command = false

abbrev pub AsksNone : Command → Type 0
AsksNone command = T (asks_none command)
