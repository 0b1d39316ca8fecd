-- What a command does to the store, from what the store's call ensures.
use Rattle.std.proofs.Common.{◌≡◌, inl, ℕ, List, refl, subst}
use Rattle.std.specs.Prelude.{Result}
use Rattle.sv_model.specs.declared.refusals.Refusal.{Refusal}
use Rattle.sv_model.specs.declared.refusals.Refusal.TheVariants as refusal
use Rattle.sv_model.specs.declared.writes.Op.{Op}
use Rattle.sv_model.specs.Books.{FileRegister}
use Rattle.sv_store.specs.Removals.{DirSeen}
use Rattle.sv_store.specs.Seen.{StoreSeen}
use Rattle.sv_store.specs.Writing.{StopsAs, Writes}
use Rattle.sv_script.specs.declared.commands.Command.{Command}
use Rattle.sv_script.specs.declared.commands.Command.TheVariants as command
use Rattle.sv_script.specs.declared.replies.Reply.{Reply}
use Rattle.sv_answers.specs.Run.{AsksNone}
use Rattle.sv_answers.specs.Steps.{Steps, StepsAlone}

-- the store with another file register
abbrev pub with_files : StoreSeen → FileRegister → StoreSeen
with_files a files = record a { books = record a.books { files = files } }

-- a write of the row that was asked for
pub row-step : (a b : StoreSeen) (name made key : List ℕ) (o p : Op) (r : Result ℕ Refusal) → made ≡ key → o ≡ p
    → Writes a b name (record { key = made; op = o }) r → Writes a b name (record { key = key; op = p }) r
row-step a b name made key o p r key_is op_is h =
    subst (λ (z : Op). Writes a b name (record { key = key; op = z }) r) op_is
    (subst (λ (z : List ℕ). Writes a b name (record { key = z; op = o }) r) key_is h)

-- nothing was done
pub stops-same : (a : StoreSeen) (name : List ℕ) (e : Refusal) → StopsAs a a name e
stops-same a name refusal.OutOfMemory = inl refl
stops-same a name e = refl

-- a command that asks nothing of the directory
pub alone-steps : (a b : StoreSeen) (d : DirSeen) (c : Command) (r : Reply) → AsksNone c → StepsAlone a b c r → Steps a b d c r
alone-steps a b d (command.Get name key) r none h = absurd none
alone-steps a b d (command.Gets snapshot name key) r none h = absurd none
alone-steps a b d (command.Flush name) r none h = absurd none
alone-steps a b d (command.Compact name) r none h = absurd none
alone-steps a b d command.Purge r none h = absurd none
alone-steps a b d command.Scan r none h = absurd none
alone-steps a b d c r none h = h
