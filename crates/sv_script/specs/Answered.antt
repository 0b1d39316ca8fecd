-- The commands of a lane with their replies.
use Rattle.std.specs.Prelude.{ℕ, List, [], ◌∷◌}
use Rattle.sv_model.specs.declared.Refusal.TheVariants as refusal
use Rattle.sv_model.specs.Lists.{total}
use Rattle.sv_script.specs.declared.scripts.Line.{Line}
use Rattle.sv_script.specs.declared.commands.Command.{Command}
use Rattle.sv_script.specs.declared.replies.Reply.{Reply}
use Rattle.sv_script.specs.declared.replies.Reply.TheVariants as reply

-- a command of a lane with the reply that it got
pub record Answered : Type 0 where
  pub command : Command
  pub reply : Reply

-- the lines of a lane with their replies, as far as both go
abbrev pub answered : List Line → List (ℕ × Reply) → List Answered
answered (line ∷ lines) (r ∷ replies) =
    record { command = line.command; reply = r.1 } ∷ answered lines replies
answered lines replies = []

-- 1 where the reply says that the directory failed
abbrev pub fault_by : Reply → ℕ
fault_by (reply.Refused (refusal.DirFault number)) = 1
fault_by reply = 0

-- how many replies to the lane say that the directory failed
abbrev pub dir_faults : List Answered → ℕ
dir_faults all = total (λ a. fault_by a.reply) all
