-- The law of all lanes tried on two lanes.
use Rattle.std.proofs.Common.{◌≡◌, ℕ, List, [], ◌∷◌, refl, arith}
use Rattle.std.specs.Prelude.{map}
use Rattle.sv_model.specs.declared.writes.Op.{Op}
use Rattle.sv_model.specs.declared.writes.Op.TheVariants as op
use Rattle.sv_model.specs.declared.writes.Write.{Write}
use Rattle.sv_model.specs.Journal.{by_lane, change_of}
use Rattle.sv_model.specs.Lists.{Distinct}
use Rattle.sv_script.specs.Answered.{Answered}
use Rattle.sv_script.specs.declared.commands.Command.TheVariants as command
use Rattle.sv_script.specs.declared.replies.Reply.TheVariants as reply
use Rattle.sv_replies.specs.LanesFit.{accepted, ended, purged}
use Rattle.sv_replies.proofs.WorkedBooks.{home, cold, a, one, line}

-- the first lane writes into a family that it made, the second into `default`
abbrev first : List Answered
first =
    line (command.Create cold) (reply.Create 1)
    ∷ line (command.Put cold a one) (reply.Put 1)
    ∷ line command.Snap (reply.Snap 1 2)
    ∷ line (command.Delete cold a) (reply.Delete 2)
    ∷ line command.Purge (reply.Purge (1 ∷ 3 ∷ []))
    ∷ []

abbrev second : List Answered
second =
    line (command.Put home a one) (reply.Put 1)
    ∷ line (command.Unsnap 1) reply.Unsnap
    ∷ line command.Scan (reply.Scan (2 ∷ []))
    ∷ []

abbrev lanes : List (List Answered)
lanes = first ∷ second ∷ []

abbrev write : ℕ → ℕ → Op → Write
write lane family o = record { family = family; key = a; op = o; mem = 1; lane = lane }

abbrev journal : List Write
journal = write 0 1 (op.Put one) ∷ write 1 0 (op.Put one) ∷ write 0 1 op.Delete ∷ []

first_journal : map change_of (by_lane 0 journal) ≡ accepted first
first_journal = refl

second_journal : map change_of (by_lane 1 journal) ≡ accepted second
second_journal = refl

all_purged : purged lanes ≡ 1 ∷ 3 ∷ 2 ∷ []
all_purged = refl

all_ended : ended lanes ≡ 1 ∷ []
all_ended = refl

-- a number in two purges, and a snapshot that two lanes ended
purged_twice : Distinct (purged (first ∷ (line command.Purge (reply.Purge (3 ∷ [])) ∷ []) ∷ [])) → ⊥
purged_twice h = absurd (let e : 1 ≡ 2 = h 1 2 3 refl refl in omega (arith, e))

ended_twice : Distinct (ended (second ∷ (line (command.Unsnap 1) reply.Unsnap ∷ []) ∷ [])) → ⊥
ended_twice h = absurd (let e : 0 ≡ 1 = h 0 1 1 refl refl in omega (arith, e))
