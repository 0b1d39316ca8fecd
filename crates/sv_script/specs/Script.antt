-- The script that bytes are, else the first bad line and what is wrong with it.
use Rattle.std.specs.Prelude.{◌≡◌, ℕ, ◌+◌, max, Bool, true, false, ◌&&◌, nat_lt, ◌==◌, if◌then◌else◌, codes}
use Rattle.std.specs.Prelude.{List, [], ◌∷◌, map, fold, count_by, length, Result, Ok, Err}
use Rattle.std.specs.Str.{bytes_eq}
use Rattle.sv_script.specs.declared.scripts.TheConstants.{MAX_COMMANDS}
use Rattle.sv_script.specs.declared.scripts.BadKind.{BadKind}
use Rattle.sv_script.specs.declared.scripts.BadKind.TheVariants as kinds
use Rattle.sv_script.specs.declared.scripts.BadLine.{BadLine}
use Rattle.sv_script.specs.declared.scripts.Line.{Line}
use Rattle.sv_script.specs.declared.scripts.Script.{Script}
use Rattle.sv_script.specs.declared.scripts.ScriptError.{ScriptError}
use Rattle.sv_script.specs.declared.scripts.ScriptError.TheVariants as errors
use Rattle.sv_script.specs.declared.commands.Command.{Command}
use Rattle.sv_script.specs.Built.{may_run}
use Rattle.sv_script.specs.Commands.{command_of}
use Rattle.sv_script.specs.Numbers.{lane_of}
use Rattle.sv_script.specs.Reading.{◌>>=◌, or_bad}
use Rattle.sv_script.specs.Words.{Words, Lines, lines_of_words}

-- `#`
abbrev pub begins_comment : List ℕ → Bool
begins_comment [] = false
begins_comment (byte ∷ _) = byte == 35

-- A line without words is skipped, and so is one whose first word begins a comment.
abbrev pub is_skipped : Words → Bool
is_skipped [] = true
is_skipped (word ∷ _) = begins_comment word

-- a line whose only word is `phase`
abbrev pub is_phase_end : Words → Bool
is_phase_end [] = false
is_phase_end (word ∷ words) = bytes_eq word (codes "phase") && (length words == 0)

-- The lane and the command that the words of a line are, else the first thing that is wrong with them: the lane,
-- what follows it, and last whether it runs already.
unfoldable pub lane_and_command : Words → Result (ℕ × Command) BadKind
lane_and_command [] = Err kinds.Lane
lane_and_command (word ∷ words) = do
  lane ← or_bad kinds.Lane (lane_of word)
  command ← command_of words
  if may_run lane command then Ok (lane, command) else Err kinds.Unbuilt

-- the same of a command line that so many came before: after 500,000 it is one too many, whatever it says
unfoldable pub command_line : ℕ → Words → Result (ℕ × Command) BadKind
command_line before words = if nat_lt before MAX_COMMANDS then lane_and_command words else Err kinds.Commands

-- a command line, then the lines after it
abbrev pub then_lines :
    (number phase : ℕ) → Result (ℕ × Command) BadKind → Result (List Line) BadLine → Result (List Line) BadLine
then_lines number phase (Err kind) rest = Err (record { line = number; kind = kind })
then_lines number phase (Ok read) (Err bad) = Err bad
then_lines number phase (Ok read) (Ok lines) =
    Ok (record { line = number; lane = read.0; phase = phase; command = read.1 } ∷ lines)

-- The command lines among lines, else the first bad one. The first of the lines has this number and stands in this
-- phase, and so many command lines came before it.
unfoldable pub lines_from : (number phase before : ℕ) → Lines → Result (List Line) BadLine
lines_from number phase before [] = Ok []
lines_from number phase before (words ∷ rest) =
    if is_skipped words then lines_from (number + 1) phase before rest
    else if is_phase_end words then lines_from (number + 1) (phase + 1) before rest
    else then_lines number phase (command_line before words) (lines_from (number + 1) phase (before + 1) rest)

-- the greatest lane, or 1
unfoldable pub lanes_of : List Line → ℕ
lanes_of lines = fold max 1 (map (λ line. line.lane) lines)

-- one more than the phases that are ended
unfoldable pub phases_of : Lines → ℕ
phases_of lines = count_by is_phase_end lines + 1

abbrev pub with_counts : Lines → Result (List Line) BadLine → Result Script BadLine
with_counts all (Err bad) = Err bad
with_counts all (Ok lines) = Ok (record { lanes = lanes_of lines; phases = phases_of all; lines = lines })

unfoldable pub script_of : List ℕ → Result Script BadLine
script_of bytes = let all = lines_of_words bytes in with_counts all (lines_from 1 0 0 all)

-- The answer is the script or its first bad line; out of memory may stand in place of either.
abbrev pub IsParsed : Result Script BadLine → Result Script ScriptError → Type 0
IsParsed read (Ok script) = read ≡ Ok script
IsParsed read (Err (errors.Bad bad)) = read ≡ Err bad
IsParsed read (Err errors.OutOfMemory) = Unit {0}
