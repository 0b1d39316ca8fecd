-- A purge and a scan draw no number.
use Rattle.std.proofs.Common.{◌≡◌, ⊎_elim, ℕ, List, ap}
use Rattle.sv_model.specs.declared.refusals.Refusal.{Refusal}
use Rattle.sv_model.specs.declared.refusals.Refusal.TheVariants as refusal
use Rattle.sv_model.specs.Books.{FileRegister}
use Rattle.sv_store.specs.Purging.{PurgeStops, Purges, PurgesSome}
use Rattle.sv_store.specs.Removals.{DirSeen}
use Rattle.sv_store.specs.Scanning.{ScanStops, Scans, ScansSome}

module _ (old new : FileRegister) (d : DirSeen) where
  pub purge-next : (numbers : List ℕ) → Purges old new d numbers → new.next ≡ old.next
  purge-next numbers h = ap (λ (z : FileRegister). z.next) h.removes.is

  some-next : (e : Refusal) → PurgesSome old new d e → new.next ≡ old.next
  some-next e h = ap (λ (z : FileRegister). z.next) h.removes.removes.is

  pub purge-stop-next : (e : Refusal) → PurgeStops old new d e → new.next ≡ old.next
  purge-stop-next (refusal.Disabled count) h = ap (λ (z : FileRegister). z.next) h.1.same
  purge-stop-next (refusal.DirFault number) h = some-next (refusal.DirFault number) h
  purge-stop-next refusal.OutOfMemory h = ⊎_elim (λ z. ap (λ (y : FileRegister). y.next) z.same) (λ z. some-next refusal.OutOfMemory z) h
  purge-stop-next e h = absurd h

  pub scan-next : (numbers : List ℕ) → Scans old new d numbers → new.next ≡ old.next
  scan-next numbers h = ap (λ (z : FileRegister). z.next) h.removes.is

  scanned-some : (e : Refusal) → ScansSome old new d e → new.next ≡ old.next
  scanned-some e h = ap (λ (z : FileRegister). z.next) h.removes.removes.is

  pub scan-stop-next : (e : Refusal) → ScanStops old new d e → new.next ≡ old.next
  scan-stop-next (refusal.Disabled count) h = ap (λ (z : FileRegister). z.next) h.1.same
  scan-stop-next (refusal.DirFault number) h = ⊎_elim
      (λ z. ap (λ (y : FileRegister). y.next) z.none.same)
      (λ z. scanned-some (refusal.DirFault number) z)
      h
  scan-stop-next refusal.OutOfMemory h = ⊎_elim
      (λ z. ap (λ (y : FileRegister). y.next) z.same)
      (λ z. scanned-some refusal.OutOfMemory z)
      h
  scan-stop-next e h = absurd h
