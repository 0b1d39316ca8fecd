-- Registers of holders: records that name objects by their numbers while they are Live.
use Rattle.std.specs.Prelude.{◌≡◌, ◌≤◌, ℕ, Bool, true, cond, List, Some, length}
use Rattle.sv_model.specs.declared.counts.Counts.{Counts}
use Rattle.sv_model.specs.declared.holders.TheConstants.{MAX_HOLDERS}
use Rattle.sv_model.specs.Counts.{count_of}
use Rattle.sv_model.specs.Lists.{In, IsChosen, total, times}
use Rattle.sv_model.specs.Registers.{entry, change, Has, EachEntry}

-- the holder is Live and names the object with this number
pub record Holds {A : Type 0} (numbers : A → List ℕ) (lives : A → Bool) (n : ℕ) (x : A) : Type 0 where
  pub live : lives x ≡ true
  pub has : In n (numbers x)

-- how often a holder names the object with this number: not at all once it is Gone
abbrev pub namings : {A : Type 0} → (A → List ℕ) → (A → Bool) → ℕ → A → ℕ
namings numbers live n x = cond (live x) (times n (numbers x)) 0

-- The counts are those of the register's holders, each of which is sound.
pub record AreCounted {A : Type 0} (numbers : A → List ℕ) (live : A → Bool) (sound : A → Type 0) (register : List A) (counts : Counts) : Type 0 where
  pub counted : (n : ℕ) → count_of counts n ≡ total (namings numbers live n) register
  pub each : EachEntry (λ n x. sound x) register
  pub few : length register ≤ MAX_HOLDERS

-- The holder is Gone. Given are the numbers that it named and no other Live holder names, in its order, each once.
pub record IsLetGo {A : Type 0} (numbers : A → List ℕ) (live : A → Bool) (ends : A → A) (old : List A) (id : ℕ) (new : List A) (answer : List ℕ) : Type 0 where
  pub gone : (x : A) → entry old id ≡ Some x → new ≡ change old id (ends x)
  pub given : (x : A) → entry old id ≡ Some x → IsChosen (λ n. Has (Holds numbers live n) new → ⊥) (numbers x) answer
