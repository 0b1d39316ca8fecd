-- Reads at a snapshot and through a pin, pins and rests that are answered.
use Rattle.std.proofs.Common.{◌≡◌, ◌≤◌, ℕ, List, [], length, Option, Some, None, refl, sym, subst}
use Rattle.sv_model.specs.declared.records.Snapshot.{Snapshot}
use Rattle.sv_model.specs.After.{After}
use Rattle.sv_model.specs.Books.{Books}
use Rattle.sv_model.specs.Registers.{entry}
use Rattle.sv_script.specs.declared.commands.Command.TheVariants as command
use Rattle.sv_script.specs.declared.replies.Reply.{Reply}
use Rattle.sv_script.specs.declared.replies.Reply.TheVariants as reply
use Rattle.sv_replies.specs.Answers.{Answers, KnowsAll}
use Rattle.sv_replies.specs.Due.{due, free_pin}
use Rattle.sv_replies.specs.GetpLaw.{GetsPinned}
use Rattle.sv_replies.specs.GetsLaw.{GetsAt}
use Rattle.sv_replies.specs.Known.{Known, Pinned, family_of_pin, learn, learns, met, pinned, read, read_at, with_at}
use Rattle.sv_replies.specs.LanesFit.{change_asked}
use Rattle.sv_replies.specs.Moments.{IsIn, IsOf}
use Rattle.sv_replies.specs.ReadReply.{read_reply}
use Rattle.sv_replies.specs.Settings.{Setting}
use Rattle.sv_replies.proofs.AloneLemmas.{still_true}
use Rattle.sv_replies.proofs.AnswersLaws.{KeepsAll, SameOwn, all-kept, none-asked, read-same, same-on, touch-same}
use Rattle.sv_replies.proofs.FamilyLemmas.{pin-fits, pin-knows, unpin-fits, unpin-knows}
use Rattle.sv_replies.proofs.GetLemmas.{shows-read}
use Rattle.sv_replies.proofs.FindsLemmas.{adds-none}
use Rattle.sv_replies.proofs.GetsLemmas.{getp-fits, getp-knows}
use Rattle.sv_replies.proofs.HoldLemmas.{rest-fits, rest-knows}
use Rattle.sv_replies.proofs.KnowsLaws.{knows-later}
use Rattle.sv_replies.proofs.LearnLaws.{of_handle}
use Rattle.sv_replies.proofs.SnapLemmas.{ShowsSerial, gets-fits, gets-knows}

read_at-same : (k : Known) (n f : ℕ) (r : Reply) → SameOwn k (read_at n (Some f) r k)
read_at-same k n f (reply.Found value cut sv) =
    record { handles = refl; holds = refl; accepted = refl; ended = refl; snapshots = λ m e. still_true k.snapshots n m e }
read_at-same k n f (reply.Absent cut sv) =
    record { handles = refl; holds = refl; accepted = refl; ended = refl; snapshots = λ m e. still_true k.snapshots n m e }
read_at-same k n f r = record { handles = refl; holds = refl; accepted = refl; ended = refl; snapshots = λ m e. e }

shows-serial : (b : Books) (f : ℕ) (found : Option (List ℕ)) (cut sv : ℕ) → IsIn (IsOf f) b.supers sv
    → ShowsSerial b f (read_reply found cut sv)
shows-serial b f (Some value) cut sv of = of
shows-serial b f None cut sv of = of

module _ (s : Setting) (a b : Books) (k : Known) (h : KnowsAll s a k) (after : After a b) (keeps : KeepsAll s.lane a b) where
  pub gets-answers : (n : ℕ) (x : Snapshot) (name key : List ℕ) (f : ℕ) (found : Option (List ℕ)) (cut sv : ℕ)
      → k.handles name ≡ Some f
      → due k (command.Gets n name key) ≡ None → GetsAt s b k n key found cut sv f → entry b.snapshots n ≡ Some x
      → IsIn (IsOf f) b.supers sv
      → Answers s a b k (command.Gets n name key) (read_reply found cut sv)
  gets-answers n x name key f found cut sv has none gets at of = record {
    fits = gets-fits s b k n name key f found cut sv has none gets;
    still = all-kept s a b k (learn k (command.Gets n name key) (read_reply found cut sv)) keeps
        (of_handle (λ z. SameOwn k (read_at n z (read_reply found cut sv) k)) (k.handles name) f has (read_at-same k n f (read_reply found cut sv)))
        (gets-knows b k n name key f (read_reply found cut sv) (knows-later a b k after h.knows) has (x, at) (shows-serial b f found cut sv of)) h;
    asked = none-asked s a b k (command.Gets n name key) (read_reply found cut sv) keeps.own.writes (asks found);
    own = adds-none s.lane a b keeps.journal;
    finds = tt;
  }
    where
      asks : (o : Option (List ℕ)) → change_asked k (command.Gets n name key) (read_reply o cut sv) ≡ []
      asks (Some value) = refl
      asks None = refl

  pub getp-answers : (pin : ℕ) (p : Pinned) (key : List ℕ) (found : Option (List ℕ)) (cut sv : ℕ) → k.pins pin ≡ Some p
      → due k (command.Getp pin key) ≡ None → GetsPinned s b k key found cut sv p → IsIn (IsOf p.family) b.supers sv
      → Answers s a b k (command.Getp pin key) (read_reply found cut sv)
  getp-answers pin p key found cut sv has none gets of = record {
    fits = getp-fits s b k pin p key found cut sv has none gets;
    still = all-kept s a b k (learn k (command.Getp pin key) (read_reply found cut sv)) keeps
        (subst (λ (z : Option Pinned). SameOwn k (read (family_of_pin z) (read_reply found cut sv) k)) (sym has) (read-same k p.family (read_reply found cut sv)))
        (getp-knows b k pin p key (read_reply found cut sv) (knows-later a b k after h.knows) has (shows-read b p.family found cut sv (record { within = gets.within; of = of }))) h;
    asked = none-asked s a b k (command.Getp pin key) (read_reply found cut sv) keeps.own.writes (asks found);
    own = adds-none s.lane a b keeps.journal;
    finds = tt;
  }
    where
      asks : (o : Option (List ℕ)) → change_asked k (command.Getp pin key) (read_reply o cut sv) ≡ []
      asks (Some value) = refl
      asks None = refl

  pinned-same : (f pin sv : ℕ) → SameOwn k (pinned (Some f) pin sv (learns (met sv) (Some f) k))
  pinned-same f pin sv = record { handles = refl; holds = refl; accepted = refl; ended = refl; snapshots = λ m e. e }

  pub pin-answers : (name : List ℕ) (f pin sv : ℕ) → k.handles name ≡ Some f → due k (command.Pin name) ≡ None
      → free_pin k ≡ Some pin
      → (k.families f).serial ≤ sv → IsIn (IsOf f) b.supers sv → Answers s a b k (command.Pin name) (reply.Pin pin sv)
  pin-answers name f pin sv has none least newer of = record {
    fits = pin-fits s b k name f pin sv has none least newer of;
    still = all-kept s a b k (learn k (command.Pin name) (reply.Pin pin sv)) keeps
        (same-on k (pinned (k.handles name) pin sv (learns (met sv) (k.handles name) k)) (learn k (command.Pin name) (reply.Pin pin sv))
        (of_handle (λ z. SameOwn k (pinned z pin sv (learns (met sv) z k))) (k.handles name) f has (pinned-same f pin sv))
        (touch-same (pinned (k.handles name) pin sv (learns (met sv) (k.handles name) k)) (k.handles name)))
        (pin-knows b k name f pin sv (knows-later a b k after h.knows) has of) h;
    asked = none-asked s a b k (command.Pin name) (reply.Pin pin sv) keeps.own.writes refl;
    own = adds-none s.lane a b keeps.journal;
    finds = tt;
  }

  pub unpin-answers : (pin : ℕ) → due k (command.Unpin pin) ≡ None → Answers s a b k (command.Unpin pin) reply.Unpin
  unpin-answers pin none = record {
    fits = unpin-fits s b k pin none;
    still = all-kept s a b k (record k { pins = with_at k.pins pin None }) keeps
        (record { handles = refl; holds = refl; accepted = refl; ended = refl; snapshots = λ m e. e })
        (unpin-knows b k pin (knows-later a b k after h.knows)) h;
    asked = none-asked s a b k (command.Unpin pin) reply.Unpin keeps.own.writes refl;
    own = adds-none s.lane a b keeps.journal;
    finds = tt;
  }

  pub rest-answers : (count : ℕ) → count ≤ length k.touched → Answers s a b k command.Rest (reply.Rest count)
  rest-answers count few = record {
    fits = rest-fits s b k count few;
    still = all-kept s a b k (record k { touched = [] }) keeps
        (record { handles = refl; holds = refl; accepted = refl; ended = refl; snapshots = λ m e. e })
        (rest-knows b k (reply.Rest count) (knows-later a b k after h.knows)) h;
    asked = none-asked s a b k command.Rest (reply.Rest count) keeps.own.writes refl;
    own = adds-none s.lane a b keeps.journal;
    finds = tt;
  }
