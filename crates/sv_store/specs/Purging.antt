-- What a purge answers and leaves.
use Rattle.std.specs.Prelude.{◌≡◌, ◌⊎◌, ℕ, List, [], Some, None}
use Rattle.sv_model.specs.declared.refusals.Refusal.{Refusal}
use Rattle.sv_model.specs.declared.refusals.Refusal.TheVariants as refusal
use Rattle.sv_model.specs.Books.{FileRegister}
use Rattle.sv_model.specs.Numbers.{AreInOrder, IsReady}
use Rattle.sv_files.specs.Calls.{disabled}
use Rattle.sv_store.specs.Removals.{DirSeen, IsUntouched, Removes, RemovesSome}

-- No hold stands. The numbers are those that were Obsolete and below the bound, ascending, and each is Gone.
pub record Purges (old new : FileRegister) (d : DirSeen) (numbers : List ℕ) : Type 0 where
  pub free : disabled old ≡ None
  pub ready : AreInOrder (IsReady old) numbers
  pub removes : Removes old new d numbers numbers []

-- The same, but some of them are left.
pub record PurgesSome (old new : FileRegister) (d : DirSeen) (e : Refusal) : Type 0 where
  pub free : disabled old ≡ None
  pub numbers : List ℕ
  pub ready : AreInOrder (IsReady old) numbers
  pub removes : RemovesSome old new d numbers e

-- nothing changed, and nothing was asked of the directory
pub record IsIdle (old new : FileRegister) (d : DirSeen) : Type 0 where
  pub same : new ≡ old
  pub untouched : IsUntouched d

-- What a refused purge leaves. It is refused as `Disabled` exactly where holds stand, as many as shown.
abbrev pub PurgeStops : FileRegister → FileRegister → DirSeen → Refusal → Type 0
PurgeStops old new d (refusal.Disabled count) = (disabled old ≡ Some (refusal.Disabled count)) × IsIdle old new d
PurgeStops old new d (refusal.DirFault number) = PurgesSome old new d (refusal.DirFault number)
PurgeStops old new d refusal.OutOfMemory = IsIdle old new d ⊎ PurgesSome old new d refusal.OutOfMemory
PurgeStops old new d e = ⊥
