-- What the program writes where no report is due.
use Rattle.std.specs.Prelude.{ℕ, List, ◌++◌, codes}
use Rattle.sv_script.specs.declared.scripts.BadLine.{BadLine}
use Rattle.sv_script.specs.declared.scripts.BadKind.{BadKind}
use Rattle.sv_script.specs.declared.scripts.BadKind.TheVariants as kind
use Rattle.sv_script.specs.declared.outcomes.Outcome.{Outcome}
use Rattle.sv_script.specs.declared.outcomes.Outcome.TheVariants as outcome
use Rattle.sv_script.specs.Texts.{numbered, feed}

-- the word for what a bad line has wrong
unfoldable pub kind_word : BadKind → List ℕ
kind_word kind.Commands = codes "commands"
kind_word kind.Lane = codes "lane"
kind_word kind.Command = codes "command"
kind_word kind.Count = codes "count"
kind_word kind.Name = codes "name"
kind_word kind.Item = codes "item"
kind_word kind.Number = codes "number"
kind_word kind.Option = codes "option"
kind_word kind.Unbuilt = codes "unbuilt"

-- which line of the script is bad, and why
unfoldable pub bad_line_text : BadLine → List ℕ
bad_line_text bad = numbered (codes "bad script line ") bad.line ++ (codes ": " ++ (kind_word bad.kind ++ feed))

-- the three forms of the words that the program takes
abbrev pub usage_text : List ℕ
usage_text =
    codes "usage: svrun run [--dir PATH]\n" ++ (codes "       svrun trial N\n" ++ codes "       svrun --help\n")

-- the text of each outcome
unfoldable pub outcome_text : Outcome → List ℕ
outcome_text outcome.Usage = usage_text
outcome_text (outcome.BadScript bad) = bad_line_text bad
outcome_text outcome.ScriptTooLong = codes "script too long\n"
outcome_text outcome.ReadFault = codes "read fault\n"
outcome_text outcome.DirFault = codes "directory fault\n"
outcome_text outcome.OutOfMemory = codes "no memory\n"
