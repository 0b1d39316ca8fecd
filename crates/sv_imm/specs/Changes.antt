-- What a call does to the lists ever made.
use Rattle.std.specs.Prelude.{◌≡◌, ℕ, ◌+◌, ◌++◌, ◌∷◌, List, [], Some, true, false, length}
use Rattle.sv_model.specs.declared.records.MemtableList.{MemtableList}
use Rattle.sv_model.specs.Lists.{IsChosen}
use Rattle.sv_model.specs.Named.{HasMember}
use Rattle.sv_model.specs.Registers.{entry, change, Has}

-- a live list with these members
abbrev pub live_list : List ℕ → MemtableList
live_list members = record { members = members; live = true }

-- A list with these members was made, and has the next id.
pub record IsMade (old : List MemtableList) (members : List ℕ) (new : List MemtableList) (id : ℕ) : Type 0 where
  pub next : id ≡ length old + 1
  pub made : new ≡ old ++ live_list members ∷ []

-- a list keeps its members and is Gone
abbrev pub gone_list : MemtableList → MemtableList
gone_list l = record { members = l.members; live = false }

-- The list is Gone. Given are its members that no other list names, the oldest first, each once.
pub record IsReleased (old : List MemtableList) (id : ℕ) (new : List MemtableList) (answer : List ℕ) : Type 0 where
  pub gone : (l : MemtableList) → entry old id ≡ Some l → new ≡ change old id (gone_list l)
  pub given : (l : MemtableList) → entry old id ≡ Some l → IsChosen (λ m. Has (HasMember m) new → ⊥) l.members answer
