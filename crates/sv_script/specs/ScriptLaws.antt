-- What holds of every script.
use Rattle.std.specs.Prelude.{◌≡◌, ℕ, ◌+◌, ◌≤◌, ◌<◌, List, [], ◌∷◌, All, length}
use Rattle.sv_script.specs.declared.scripts.TheConstants.{MAX_COMMANDS}
use Rattle.sv_script.specs.declared.scripts.Line.{Line}
use Rattle.sv_script.specs.declared.scripts.Script.{Script}
use Rattle.sv_script.specs.Built.{IsBuilt}

-- A line has a number, stands in one of the phases, and has a command that is built, of the one lane.
pub record IsRunnable (phases : ℕ) (line : Line) : Type 0 where
  pub numbered : 1 ≤ line.line
  pub phase : line.phase < phases
  pub lane : line.lane ≡ 1
  pub built : IsBuilt line.command

-- The lines stand in the order of their numbers, and so of their phases: from this number and this phase on.
abbrev pub AreInOrder : (number phase : ℕ) → List Line → Type 0
AreInOrder number phase [] = Unit {0}
AreInOrder number phase (line ∷ lines) =
    (number ≤ line.line) × (phase ≤ line.phase) × AreInOrder (line.line + 1) line.phase lines

pub record IsWellFormed (script : Script) : Type 0 where
  pub lanes : script.lanes ≡ 1
  pub runnable : All (IsRunnable script.phases) script.lines
  pub order : AreInOrder 1 0 script.lines
  pub few : length script.lines ≤ MAX_COMMANDS
