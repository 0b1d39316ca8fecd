-- Where one lane is, each get looks at just the writes that were accepted before it.
use Rattle.std.specs.Prelude.{◌≡◌, ◌==◌, ℕ, List, length, filter, take, slice_get, Some, IsSomeAnd}
use Rattle.sv_model.specs.Journal.{Change}
use Rattle.sv_script.specs.Answered.{Answered}
use Rattle.sv_script.specs.declared.commands.Command.{Command}
use Rattle.sv_script.specs.declared.commands.Command.TheVariants as command
use Rattle.sv_script.specs.declared.replies.Reply.{Reply}
use Rattle.sv_script.specs.declared.replies.Reply.TheVariants as reply
use Rattle.sv_replies.specs.Known.{Known, known_after}
use Rattle.sv_replies.specs.LanesFit.{accepted}

-- how many of the changes are of the family
abbrev pub count_in : ℕ → List Change → ℕ
count_in family changes = length (filter (λ c. c.family == family) changes)

-- the cut of a get is the number of its family's writes so far
abbrev pub SeesAll : Known → List Change → Command → Reply → Type 0
SeesAll k before (command.Get name key) (reply.Found value cut sv) =
    IsSomeAnd (k.handles name) (λ f. cut ≡ count_in f before)
SeesAll k before (command.Get name key) (reply.Absent cut sv) =
    IsSomeAnd (k.handles name) (λ f. cut ≡ count_in f before)
SeesAll k before command reply = Unit {0}

abbrev pub GetsSeeAll : List Answered → Type 0
GetsSeeAll all = (n : ℕ) (a : Answered) → slice_get all n ≡ Some a
    → SeesAll (known_after (take n all)) (accepted (take n all)) a.command a.reply
