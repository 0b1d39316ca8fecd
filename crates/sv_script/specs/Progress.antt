-- A script that is read line by line.
use Rattle.std.specs.Prelude.{◌≡◌, ℕ, ◌+◌, List, ◌∷◌, ◌++◌, length, count_by, Result, Ok, Err}
use Rattle.sv_script.specs.declared.scripts.BadLine.{BadLine}
use Rattle.sv_script.specs.declared.scripts.Line.{Line}
use Rattle.sv_script.specs.declared.scripts.Script.{Script}
use Rattle.sv_script.specs.declared.scripts.ScriptError.{ScriptError}
use Rattle.sv_script.specs.declared.scripts.ScriptError.TheVariants as errors
use Rattle.sv_script.specs.declared.parsing.progress.Progress.{Progress}
use Rattle.sv_script.specs.Words.{Words, Lines}
use Rattle.sv_script.specs.Script.{is_phase_end, lanes_of, lines_from}

-- the lines that were read, and those that are still read
abbrev pub whole : ℕ → List Line → Result (List Line) BadLine → Result Script BadLine
whole phases front (Err bad) = Err bad
whole phases front (Ok lines) =
    Ok (record { lanes = lanes_of (front ++ lines); phases = phases; lines = front ++ lines })

-- The script of lines that were read and of those that are left: the next line has this number and stands in this
-- phase.
abbrev pub finish_at : (number phase : ℕ) → List Line → Lines → Result Script BadLine
finish_at number phase front rest =
    whole (phase + count_by is_phase_end rest + 1) front (lines_from number phase (length front) rest)

abbrev pub finish : Progress → Lines → Result Script BadLine
finish read rest = finish_at read.number read.phase read.lines rest

-- a line was read, and the script goes on behind it
pub record GoesOn (old : Progress) (words : Words) (new : Progress) : Type 0 where
  pub next : new.number ≡ old.number + 1
  pub same : (rest : Lines) → finish old (words ∷ rest) ≡ finish new rest

-- the line is the first bad one; out of memory may stand in its place
abbrev pub StopsAt : Progress → Words → ScriptError → Type 0
StopsAt old words (errors.Bad bad) = (rest : Lines) → finish old (words ∷ rest) ≡ Err bad
StopsAt old words errors.OutOfMemory = Unit {0}
