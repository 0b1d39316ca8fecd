-- The text of each reply.
use Rattle.std.specs.Prelude.{ℕ, List, ◌++◌, codes, decimal}
use Rattle.sv_script.specs.declared.replies.Reply.{Reply}
use Rattle.sv_script.specs.declared.replies.Reply.TheVariants as reply
use Rattle.sv_script.specs.Items.{item_text}
use Rattle.sv_script.specs.Texts.{numbered, listed, feed}
use Rattle.sv_script.specs.RefusalTexts.{refusal_text}

-- which writes a read saw, and through which SuperVersion
unfoldable pub seen_text : ℕ → ℕ → List ℕ
seen_text cut sv = numbered (codes " cut ") cut ++ numbered (codes " sv ") sv

-- a file and the writes that it covers
unfoldable pub file_text : ℕ → ℕ → ℕ → List ℕ
file_text number from to =
    numbered (codes " file ") number ++ (numbered (codes " from ") from ++ numbered (codes " to ") to)

-- the reply alone
unfoldable pub answer_text : Reply → List ℕ
answer_text (reply.Put n) = numbered (codes "ok put ") n
answer_text (reply.Delete n) = numbered (codes "ok delete ") n
answer_text (reply.Found value cut sv) = codes "found " ++ (item_text value ++ seen_text cut sv)
answer_text (reply.Absent cut sv) = codes "absent" ++ seen_text cut sv
answer_text (reply.Flush number from to) = codes "ok flush" ++ file_text number from to
answer_text (reply.Compact number from to) = codes "ok compact" ++ file_text number from to
answer_text (reply.Create id) = numbered (codes "ok create ") id
answer_text (reply.Open id) = numbered (codes "ok open ") id
answer_text reply.Release = codes "ok release"
answer_text reply.Drop = codes "ok drop"
answer_text (reply.Set sv) = numbered (codes "ok set sv ") sv
answer_text (reply.Pin pin sv) = numbered (codes "ok pin ") pin ++ numbered (codes " sv ") sv
answer_text reply.Unpin = codes "ok unpin"
answer_text (reply.Hold count) = numbered (codes "ok hold ") count
answer_text (reply.Unhold count) = numbered (codes "ok unhold ") count
answer_text (reply.Live numbers) = codes "ok live" ++ listed numbers
answer_text (reply.Purge numbers) = codes "ok purge" ++ listed numbers
answer_text (reply.Scan numbers) = codes "ok scan" ++ listed numbers
answer_text (reply.Rest count) = numbered (codes "ok rest ") count
answer_text (reply.Snap snapshot at) = numbered (codes "ok snap ") snapshot ++ numbered (codes " at ") at
answer_text reply.Unsnap = codes "ok unsnap"
answer_text (reply.Refused refusal) = refusal_text refusal

-- the line: its number, one space, the reply
unfoldable pub reply_text : ℕ → Reply → List ℕ
reply_text line reply = decimal line ++ (codes " " ++ (answer_text reply ++ feed))
