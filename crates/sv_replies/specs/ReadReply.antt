-- The reply to a read that found this.
use Rattle.std.specs.Prelude.{ℕ, List, Option, Some, None}
use Rattle.sv_script.specs.declared.replies.Reply.{Reply}
use Rattle.sv_script.specs.declared.replies.Reply.TheVariants as reply

abbrev pub read_reply : Option (List ℕ) → ℕ → ℕ → Reply
read_reply (Some value) cut sv = reply.Found value cut sv
read_reply None cut sv = reply.Absent cut sv
