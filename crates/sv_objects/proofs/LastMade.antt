-- What was made last: its entry, and taking it back.
use Rattle.std.proofs.Common.{◌≡◌, ℕ, Bool, true, List, [], ◌∷◌, ◌++◌, Some, length, sym, ap, ◌∙◌, subst}
use Rattle.std.proofs.lemmas.List.{same_from_push, length_push}
use Rattle.sv_model.specs.declared.records.Memtable.{Memtable}
use Rattle.sv_model.specs.Named.{IsLive}
use Rattle.sv_model.specs.Registers.{entry}
use Rattle.sv_model.proofs.Registers.{entry-new}
use Rattle.sv_cells.specs.Calls.{IsMade}
use Rattle.sv_model.proofs.Entries.{some}
use Rattle.sv_objects.specs.Makings.{IsCellOf}

-- what is left is what was there before
pub taken_back : {A : Type 0} (old pushed left : List A) (x y : A) → pushed ≡ old ++ x ∷ [] → pushed ≡ left ++ y ∷ []
    → left ≡ old
taken_back old pushed left x y e split = (same_from_push left old y x (sym split ∙ e)).0

-- what was made last is Live
pub last-live : {A : Type 0} (live : A → Bool) (old pushed : List A) (x : A) → pushed ≡ old ++ x ∷ [] → live x ≡ true
    → IsLive live pushed (length pushed)
last-live live old pushed x e lives = record {
  it = x;
  at = subst (λ z. entry z (length z) ≡ Some x) (sym e) (entry-new old x (length (old ++ x ∷ [])) (length_push old x));
  live = lives;
}

-- the cell that is read is that of the memtable that was made
pub cell-read : (old : List Memtable) (family first : ℕ) (new : List Memtable) (id cell : ℕ) (made : IsMade old family first new id)
    → IsCellOf new id cell → cell ≡ made.cell
cell-read old family first new id cell made w =
    let y : Memtable = record { family = family; first = first; cell = made.cell; live = true } in
    let is : w.it ≡ y =
    some (sym w.at ∙ ap (λ l. entry l id) made.made ∙ entry-new old y id made.id_is) in
    sym w.is ∙ ap (λ (m : Memtable). m.cell) is
