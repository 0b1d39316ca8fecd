-- What a put or a delete of a lane of many answers, and what it leaves.
use Rattle.std.specs.Prelude.{Bool, IfErr, IfOk, List, Result, [], false, length, true, ℕ, ◌++◌, ◌+◌, ◌∷◌, ◌≡◌, ◌≤◌, ◌⊎◌}
use Rattle.sv_borrows.specs.Grown.{Cleans}
use Rattle.sv_laws.specs.NewCurrents.{IsSwitched}
use Rattle.sv_laws.specs.Writes.{IsWritten}
use Rattle.sv_model.specs.Books.{Books}
use Rattle.sv_model.specs.Journal.{of_family}
use Rattle.sv_model.specs.Lists.{at}
use Rattle.sv_model.specs.declared.refusals.Refusal.{Refusal}
use Rattle.sv_model.specs.declared.refusals.Refusal.TheVariants as refusal
use Rattle.sv_model.specs.declared.writes.Row.{Row}
use Rattle.sv_model.specs.declared.writes.Write.{Write}
use Rattle.sv_rule.specs.Views.{Bodied, LaneView}
use Rattle.sv_state.specs.Planning.{MeantAt, Planned, active_rows, is_switch_due, write_refusal}
use Rattle.sv_state.specs.Writing.{write_of}

-- ---- of the books

-- The family has switched to a new memtable; and a SuperVersion of which nobody had a reference any more is Gone.
abbrev pub Switches : ℕ → Books → Books → Type 0
Switches f a b = (m : Books) × IsSwitched a m f × Cleans m b

-- The row is the last write of the journal, which lane l made, and has this number in its family.
pub record Accepts (l : ℕ) (a b : Books) (f : ℕ) (row : Row) (n : ℕ) : Type 0 where
  pub mem : ℕ
  pub written : IsWritten a b f (write_of l f mem row)
  pub number_is : n ≡ length (of_family f b.journal)

-- it is accepted, after a switch where one was due
abbrev pub PutsAs : Bool → ℕ → Books → Books → ℕ → Row → ℕ → Type 0
PutsAs true l a b f row n = (m : Books) × Switches f a m × Accepts l m b f row n
PutsAs false l a b f row n = Accepts l a b f row n

abbrev pub IsPut : (l : ℕ) (a b : Books) {name : List ℕ} → MeantAt a l name → Row → ℕ → Type 0
IsPut l a b m row n = PutsAs (is_switch_due (active_rows a m) m.is_open.family.options) l a b m.family row n

-- the switch that was due is done, and nothing else
pub record IsSwitchAlone (l : ℕ) (a b : Books) (name : List ℕ) : Type 0 where
  pub meant : MeantAt a l name
  pub due : is_switch_due (active_rows a meant) meant.is_open.family.options ≡ true
  pub switched : Switches meant.family a b

-- A refusal leaves the books as they were. Only out of memory may leave a switch that was due done.
abbrev pub StopsAs : ℕ → Books → Books → List ℕ → Refusal → Type 0
StopsAs l a b name refusal.OutOfMemory = (b ≡ a) ⊎ IsSwitchAlone l a b name
StopsAs l a b name e = b ≡ a

-- what is said of the books found and those left
pub record Answers (l : ℕ) (name : List ℕ) (row : Row) (r : Result ℕ Refusal) (a b : Books) : Type 0 where
  pub planned : Planned a l name (write_refusal a) (λ m n. IsPut l a b m row n) r
  pub stops : IfErr r (StopsAs l a b name)

-- the lane's gets of the family look at the write from now on
abbrev pub HasMet : ℕ → List ℕ → Result ℕ Refusal → Books → List ℕ → Type 0
HasMet l name r a seen = IfOk r (λ n. (m : MeantAt a l name) × (n ≤ at 0 seen m.family))

-- ---- of the lane

-- The lane took the DB lock once, found the books a and left the books b. It knows more bodies, made these writes, and
-- began so many rounds.
abbrev pub put_view : Books → Books → List Bodied → List Write → List ℕ → List ℕ → ℕ → LaneView → LaneView
put_view a b more writes seen looked adds v = record v {
  known = record v.known {
    found = v.known.found ++ a ∷ [];
    left = v.known.left ++ b ∷ [];
    bodies = v.known.bodies ++ more;
    mine = v.known.mine ++ writes;
    seen = seen;
  };
  slots = record v.slots { looked = looked };
  counts = record v.counts { adds = v.counts.adds + adds };
}

-- What a put or a delete answers and leaves. The journal has just its writes more, and nothing else of the lane changed.
pub record Puts (l : ℕ) (name : List ℕ) (row : Row) (r : Result ℕ Refusal) (v w : LaneView) : Type 0 where
  pub found : Books
  pub left : Books
  pub answers : Answers l name row r found left
  pub more : List Bodied
  pub writes : List Write
  pub seen : List ℕ
  pub looked : List ℕ
  pub adds : ℕ
  pub journal : left.journal ≡ found.journal ++ writes
  pub rises : (f : ℕ) → at 0 v.known.seen f ≤ at 0 seen f
  pub met : HasMet l name r found seen
  pub is : w ≡ put_view found left more writes seen looked adds v
