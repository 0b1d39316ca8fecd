-- Numbers that a purge or a scan takes were not Gone.
use Rattle.std.proofs.Common.{◌≡◌, ◌≤◌, ⊎_elim, ℕ, List, refl, sym, ◌∙◌, ap, arith}
use Rattle.sv_model.specs.declared.records.FileStatus.TheVariants.{Gone, Obsolete}
use Rattle.sv_model.specs.declared.records.RegisteredFile.{RegisteredFile}
use Rattle.sv_model.specs.Books.{FileRegister}
use Rattle.sv_model.specs.Lists.{In, same}
use Rattle.sv_model.specs.Numbers.{IsRegistered, registered}
use Rattle.sv_model.specs.Registers.{entry}
use Rattle.sv_model.proofs.Entries.{some}
use Rattle.sv_model.proofs.Lists.{same_here}
use Rattle.sv_model.proofs.NumberLaws.{one_entry}
use Rattle.sv_model.proofs.Registers.{total_entry}
use Rattle.sv_store.specs.Purging.{Purges}
use Rattle.sv_store.specs.Removals.{DirSeen}
use Rattle.sv_store.specs.Scanning.{Scans}

module _ (r : FileRegister) (once : (n : ℕ) → registered n r.numbers ≤ 1) (n : ℕ) where
  obsolete-not-gone : IsRegistered r.numbers n Obsolete → IsRegistered r.numbers n Gone → ⊥
  obsolete-not-gone o g =
      let one = one_entry r.numbers n o.0 g.0 o.1 g.1 (once n) o.2 g.2 o.3.number_is g.3.number_is in
      let it : o.1 ≡ g.1 = some (sym o.2 ∙ (ap (entry r.numbers) one ∙ g.2)) in
      let q : Obsolete ≡ Gone = sym o.3.status_is ∙ (ap (λ (z : RegisteredFile). z.status) it ∙ g.3.status_is) in
      absurd (cc)

  new-not-gone : registered n r.numbers ≡ 0 → IsRegistered r.numbers n Gone → ⊥
  new-not-gone none g =
      omega (arith, none, total_entry (λ (z : RegisteredFile). same n z.number) r.numbers g.0 g.1 g.2, ap (same n) g.3.number_is, same_here n)

module _ (old new : FileRegister) (d : DirSeen) (once : (n : ℕ) → registered n old.numbers ≤ 1) (numbers : List ℕ) where
  pub purged-new : Purges old new d numbers → (n : ℕ) → In n numbers → IsRegistered old.numbers n Gone → ⊥
  purged-new h n has = obsolete-not-gone old once n ((h.ready.exact n).0 has).obsolete

  pub scanned-new : Scans old new d numbers → (n : ℕ) → In n numbers → IsRegistered old.numbers n Gone → ⊥
  scanned-new h n has gone = ⊎_elim
      (λ ready. obsolete-not-gone old once n ready.obsolete gone)
      (λ stray. new-not-gone old once n ((h.begun.hands.chosen.exact n).0 stray).1.new gone)
      ((h.begun.hands.are.exact n).0 has)
