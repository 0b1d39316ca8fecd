-- Reads at a snapshot and through a pin: why the replies fit, and what the lane then knows.
use Rattle.std.proofs.Common.{◌≡◌, ℕ, true, List, length, Option, Some, None, refl, sym, subst, arith}
use Rattle.sv_model.specs.declared.records.Snapshot.{Snapshot}
use Rattle.sv_model.specs.declared.records.SuperVersion.{SuperVersion}
use Rattle.sv_model.specs.Books.{Books}
use Rattle.sv_model.specs.Journal.{look}
use Rattle.sv_model.specs.Lawful.{Lawful}
use Rattle.sv_model.specs.Registers.{entry}
use Rattle.sv_model.specs.Snapshots.{cut_of}
use Rattle.sv_model.specs.Steady.{IsCurrent}
use Rattle.sv_laws.proofs.CutLaws.{cut-ascend, cut-now}
use Rattle.sv_script.specs.declared.commands.Command.TheVariants as command
use Rattle.sv_script.specs.declared.replies.Reply.{Reply}
use Rattle.sv_replies.specs.Due.{due}
use Rattle.sv_replies.specs.GetpLaw.{GetsPinned}
use Rattle.sv_replies.specs.GetsLaw.{GetsAt}
use Rattle.sv_replies.specs.Known.{Known, Pinned, family_of_pin, learn, read}
use Rattle.sv_replies.specs.Knows.{Knows}
use Rattle.sv_replies.specs.ReadReply.{read_reply}
use Rattle.sv_replies.specs.ReplyFits.{ReplyFits}
use Rattle.sv_replies.specs.Settings.{Setting}
use Rattle.sv_replies.specs.SnapLaw.{MayUse}
use Rattle.sv_replies.specs.Unread.{FindsUnread}
use Rattle.sv_replies.proofs.GetLemmas.{current-ends, current-newest, current-of}
use Rattle.sv_replies.proofs.LearnLaws.{ReadShows, knows-read}
use Rattle.sv_replies.proofs.MetLaws.{through}

-- A read at the cut of a Live snapshot, through the current SuperVersion.
pub current-gets_at : (b : Books) (law : Lawful b) (f sv : ℕ) (x : SuperVersion) (current : IsCurrent b.tops b.supers f sv x)
    → (s : Setting) (k : Known) (n : ℕ) (y : Snapshot) (key : List ℕ) (found : Option (List ℕ)) → Knows b k
    → MayUse s k n
    → entry b.snapshots n ≡ Some y → (s.told ≡ true → look b.journal f (cut_of b.journal y.at f) key ≡ found)
    → FindsUnread b f key found (cut_of b.journal y.at f) x
    → GetsAt s b k n key found (cut_of b.journal y.at f) sv f
current-gets_at b law f sv x current s k n y key found knows may at looked unread =
    let within = law.snapshots.within n y at in
    record {
      may = may;
      newer = current-newest b law f sv x current k knows;
      through = (
        x,
        current.has,
        record {
          family_is = current-of b law f sv x current;
          ends = omega (arith, current-ends b law f sv x current, cut-ascend b.journal f y.at (length b.journal) within, cut-now b.journal f);
        },
      );
      cut_is = (y, at, record { is = refl; within = within });
      found_is = looked;
      unread = (x, current.has, unread);
    }

-- ---- through a pin

pub getp-fits : (s : Setting) (b : Books) (k : Known) (pin : ℕ) (p : Pinned) (key : List ℕ) (found : Option (List ℕ)) (cut sv : ℕ)
    → k.pins pin ≡ Some p → due k (command.Getp pin key) ≡ None → GetsPinned s b k key found cut sv p
    → ReplyFits s b k (command.Getp pin key) (read_reply found cut sv)
getp-fits s b k pin p key (Some value) cut sv has none gets =
    (none, through (k.pins pin) p (GetsPinned s b k key (Some value) cut sv) has gets)
getp-fits s b k pin p key None cut sv has none gets =
    (none, through (k.pins pin) p (GetsPinned s b k key None cut sv) has gets)

pub getp-knows : (b : Books) (k : Known) (pin : ℕ) (p : Pinned) (key : List ℕ) (r : Reply) → Knows b k
    → k.pins pin ≡ Some p
    → ReadShows b p.family r → Knows b (learn k (command.Getp pin key) r)
getp-knows b k pin p key r knows has shown =
    subst (λ (z : Option Pinned). Knows b (read (family_of_pin z) r k)) (sym has) (knows-read b k p.family r knows shown)
