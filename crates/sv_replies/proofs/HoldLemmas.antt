-- Holds, purges, scans and rests: why the replies fit, and what the lane then knows.
use Rattle.std.proofs.Common.{◌≡◌, ◌≤◌, ◌+◌, ℕ, List, [], length, Some, None, refl, sym, ◌∙◌, arith}
use Rattle.std.specs.Prelude.{slice_get}
use Rattle.std.specs.List.Sorted.{IsStrictlyIncreasing}
use Rattle.sv_model.specs.declared.records.FileStatus.TheVariants.{Gone}
use Rattle.sv_model.specs.After.{After}
use Rattle.sv_model.specs.Books.{Books}
use Rattle.sv_model.specs.Lists.{In}
use Rattle.sv_model.specs.Numbers.{IsRegistered}
use Rattle.sv_script.specs.declared.commands.Command.TheVariants as command
use Rattle.sv_script.specs.declared.replies.Reply.{Reply}
use Rattle.sv_script.specs.declared.replies.Reply.TheVariants as reply
use Rattle.sv_replies.specs.Due.{due}
use Rattle.sv_replies.specs.Known.{Known, learn}
use Rattle.sv_replies.specs.Knows.{Knows, OwnAre}
use Rattle.sv_replies.specs.ReplyFits.{ReplyFits}
use Rattle.sv_replies.specs.Settings.{Setting}
use Rattle.sv_replies.proofs.KnowsLaws.{knows-later}
use Rattle.sv_replies.proofs.LearnLaws.{knows-counts}

item : (m n : ℕ) → Some m ≡ Some n → m ≡ n
item m n e = cc

-- the lane's count in the books is that which it was told
own_count : (lane : ℕ) (a : Books) (k : Known) (count : ℕ) → OwnAre lane a k
    → slice_get a.files.holds lane ≡ Some count → count ≡ k.holds
own_count lane a k count own at = item count k.holds (sym at ∙ own.holds)

pub hold-fits : (s : Setting) (a b : Books) (k : Known) (before count : ℕ) → OwnAre s.lane a k
    → slice_get a.files.holds s.lane ≡ Some before
    → count ≡ before + 1 → due k command.Hold ≡ None → ReplyFits s b k command.Hold (reply.Hold count)
hold-fits s a b k before count own at more none =
    (none, let e : count ≡ k.holds + 1 = omega (arith, more, own_count s.lane a k before own at) in e)

pub unhold-fits : (s : Setting) (a b : Books) (k : Known) (before count : ℕ) → OwnAre s.lane a k
    → slice_get a.files.holds s.lane ≡ Some before
    → count + 1 ≡ before → due k command.Unhold ≡ None → ReplyFits s b k command.Unhold (reply.Unhold count)
unhold-fits s a b k before count own at less none =
    (none, let e : count + 1 ≡ k.holds = omega (arith, less, own_count s.lane a k before own at) in e)

pub hold-knows : (a b : Books) (k : Known) (count : ℕ) → After a b → Knows a k
    → Knows b (learn k command.Hold (reply.Hold count))
hold-knows a b k count after knows = knows-counts b k k.touched k.accepted count (knows-later a b k after knows)

pub unhold-knows : (a b : Books) (k : Known) (count : ℕ) → After a b → Knows a k
    → Knows b (learn k command.Unhold (reply.Unhold count))
unhold-knows a b k count after knows = knows-counts b k k.touched k.accepted count (knows-later a b k after knows)

-- ---- numbers that became Gone

pub purge-fits : (s : Setting) (b : Books) (k : Known) (numbers : List ℕ) → due k command.Purge ≡ None
    → IsStrictlyIncreasing numbers
    → ((n : ℕ) → In n numbers → IsRegistered b.files.numbers n Gone)
    → ReplyFits s b k command.Purge (reply.Purge numbers)
purge-fits s b k numbers none rising gone = (none, record { rising = rising; gone = gone })

pub scan-fits : (s : Setting) (b : Books) (k : Known) (numbers : List ℕ) → due k command.Scan ≡ None
    → IsStrictlyIncreasing numbers
    → ((n : ℕ) → In n numbers → IsRegistered b.files.numbers n Gone) → ReplyFits s b k command.Scan (reply.Scan numbers)
scan-fits s b k numbers none rising gone = (none, record { rising = rising; gone = gone })

-- ---- rests

pub rest-fits : (s : Setting) (b : Books) (k : Known) (count : ℕ) → count ≤ length k.touched
    → ReplyFits s b k command.Rest (reply.Rest count)
rest-fits s b k count few = (refl, few)

pub rest-knows : (b : Books) (k : Known) (r : Reply) → Knows b k → Knows b (learn k command.Rest r)
rest-knows b k r knows = knows-counts b k [] k.accepted k.holds knows
