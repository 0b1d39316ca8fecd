-- Each command that is answered, from the change of the books that it makes.
use Rattle.std.proofs.Common.{◌≡◌, ◌<◌, ℕ, true, List, [], ◌∷◌, ◌++◌, length, map, Option, Some, None, refl, sym, ◌∙◌, ap}
use Rattle.std.proofs.lemmas.List.{append-nil, map-append}
use Rattle.sv_model.specs.declared.records.FileMeta.{FileMeta}
use Rattle.sv_model.specs.declared.refusals.Refusal.{Refusal}
use Rattle.sv_model.specs.declared.writes.Op.{Op}
use Rattle.sv_model.specs.declared.writes.Op.TheVariants as op
use Rattle.sv_model.specs.declared.writes.Write.{Write}
use Rattle.sv_model.specs.After.{After}
use Rattle.sv_model.specs.Books.{Books, FileRegister}
use Rattle.sv_model.specs.Journal.{Change, by_lane, change_of, of_family}
use Rattle.sv_model.specs.Reads.{IsWrite}
use Rattle.sv_model.specs.Steady.{Sound}
use Rattle.sv_laws.specs.NewCurrents.{IsCompacted, IsFlushed}
use Rattle.sv_laws.specs.Writes.{IsWritten}
use Rattle.sv_script.specs.declared.commands.Command.{Command}
use Rattle.sv_script.specs.declared.commands.Command.TheVariants as command
use Rattle.sv_script.specs.declared.replies.Reply.{Reply}
use Rattle.sv_script.specs.declared.replies.Reply.TheVariants as reply
use Rattle.sv_replies.specs.Answers.{Answers, KnowsAll}
use Rattle.sv_replies.specs.Due.{due}
use Rattle.sv_replies.specs.GetLaw.{Gets}
use Rattle.sv_replies.specs.Known.{FamilyKnown, Known, file_made, flushed_to, learn, learns, reached_to, read, touches, wrote}
use Rattle.sv_replies.specs.Knows.{AllAreOwn, Knows}
use Rattle.sv_replies.specs.LanesFit.{change_asked, change_in}
use Rattle.sv_replies.specs.PlannedFlush.{IsPlannedFor}
use Rattle.sv_replies.specs.ReadReply.{read_reply}
use Rattle.sv_replies.specs.ReplyFits.{ReplyFits}
use Rattle.sv_replies.specs.Settings.{Setting}
use Rattle.sv_replies.specs.Moments.{IsIn, IsOf}
use Rattle.sv_replies.proofs.AcceptedLemmas.{asks-none}
use Rattle.sv_replies.proofs.AloneLemmas.{alone-kept}
use Rattle.sv_replies.proofs.CompactLemmas.{compact-fits, compact-knows}
use Rattle.sv_replies.proofs.FindsLemmas.{adds-none, adds-one, finds-read, finds-refused}
use Rattle.sv_replies.proofs.FlushLemmas.{flush-fits, flush-knows}
use Rattle.sv_replies.proofs.GetLemmas.{get-fits, get-knows, shows-read}
use Rattle.sv_replies.proofs.KnowsLaws.{knows-later}
use Rattle.sv_replies.proofs.LearnLaws.{knows-counts, knows-touch, of_handle}
use Rattle.sv_replies.proofs.MetLaws.{through}
use Rattle.sv_replies.proofs.OwnLemmas.{KeepsOwn, keeps-all, lane-writes, own-kept, own-write}
use Rattle.sv_replies.proofs.WriteLemmas.{delete-fits, delete-knows, put-fits, put-knows}

-- what the lane alone changes was told to be as before
pub record SameOwn (k l : Known) : Type 0 where
  pub handles : l.handles ≡ k.handles
  pub holds : l.holds ≡ k.holds
  pub accepted : l.accepted ≡ k.accepted
  pub ended : l.ended ≡ k.ended
  pub snapshots : (n : ℕ) → k.snapshots n ≡ true → l.snapshots n ≡ true

-- the books keep the lane's own, and all writes, snapshots and holds
pub record KeepsAll (lane : ℕ) (a b : Books) : Type 0 where
  pub own : KeepsOwn lane a b
  pub journal : b.journal ≡ a.journal
  pub snapshots : b.snapshots ≡ a.snapshots
  pub holds : b.files.holds ≡ a.files.holds

pub keeps-books : (lane : ℕ) (a b : Books) → b.families ≡ a.families → b.files.holds ≡ a.files.holds
    → b.journal ≡ a.journal
    → b.snapshots ≡ a.snapshots → KeepsAll lane a b
keeps-books lane a b families holds journal snapshots =
    record { own = keeps-all lane a b families holds journal; journal = journal; snapshots = snapshots; holds = holds }

pub keeps-same : (lane : ℕ) (a : Books) → KeepsAll lane a a
keeps-same lane a = keeps-books lane a a refl refl refl refl

pub all-kept : (s : Setting) (a b : Books) (k l : Known) → KeepsAll s.lane a b → SameOwn k l → Knows b l
    → KnowsAll s a k → KnowsAll s b l
all-kept s a b k l keeps same knows h = record {
  knows = knows;
  own = own-kept s.lane a b k l keeps.own same.handles same.holds same.accepted h.own;
  alone = λ one. alone-kept a b k l keeps.snapshots keeps.holds same.holds same.snapshots same.ended (h.alone one);
}

pub same-known : (k : Known) → SameOwn k k
same-known k = record { handles = refl; holds = refl; accepted = refl; ended = refl; snapshots = λ n e. e }

-- a command that asks for no write
pub none-asked : (s : Setting) (a b : Books) (k : Known) (c : Command) (r : Reply)
    → by_lane s.lane b.journal ≡ by_lane s.lane a.journal → change_asked k c r ≡ []
    → map change_of (by_lane s.lane b.journal) ≡ map change_of (by_lane s.lane a.journal) ++ change_asked k c r
none-asked s a b k c r same none =
    ap (map change_of) same ∙ sym (append-nil (map change_of (by_lane s.lane a.journal))) ∙ ap (λ (z : List Change). map change_of (by_lane s.lane a.journal) ++ z) (sym none)

-- ---- refused commands

pub touch-same : (k : Known) (o : Option ℕ) → SameOwn k (touches o k)
touch-same k None = same-known k
touch-same k (Some f) = record { handles = refl; holds = refl; accepted = refl; ended = refl; snapshots = λ n e. e }

refused-same : (k : Known) (c : Command) (e : Refusal) → SameOwn k (learn k c (reply.Refused e))
refused-same k (command.Get name key) e = touch-same k (k.handles name)
refused-same k (command.Pin name) e = touch-same k (k.handles name)
refused-same k command.Rest e =
    record { handles = refl; holds = refl; accepted = refl; ended = refl; snapshots = λ n q. q }
refused-same k c e = same-known k

refused-knows : (b : Books) (k : Known) (c : Command) (e : Refusal) → Knows b k → Knows b (learn k c (reply.Refused e))
refused-knows b k (command.Get name key) e h = knows-touch b k (k.handles name) h
refused-knows b k (command.Pin name) e h = knows-touch b k (k.handles name) h
refused-knows b k command.Rest e h = knows-counts b k [] k.accepted k.holds h
refused-knows b k c e h = h

pub refused-answers : (s : Setting) (a b : Books) (k : Known) (c : Command) (e : Refusal) → KnowsAll s a k → After a b
    → KeepsAll s.lane a b
    → ReplyFits s b k c (reply.Refused e) → Answers s a b k c (reply.Refused e)
refused-answers s a b k c e h after keeps fits = record {
  fits = fits;
  still = all-kept s a b k (learn k c (reply.Refused e)) keeps (refused-same k c e) (refused-knows b k c e (knows-later a b k after h.knows)) h;
  asked = none-asked s a b k c (reply.Refused e) keeps.own.writes (asks-none k c e);
  own = adds-none s.lane a b keeps.journal;
  finds = finds-refused s a k c e;
}

-- ---- writes

module _ (s : Setting) (a b : Books) (k : Known) (f : ℕ) (w : Write) (h : KnowsAll s a k) (after : After a b) (is : IsWritten a b f w) where
  knows-written : (o : Option ℕ) (n : ℕ) → o ≡ Some f → w.lane ≡ s.lane → Knows b (wrote o n k)
      → KnowsAll s b (wrote o n k)
  knows-written o n has mine knows = record {
    knows = knows;
    own = own-write s.lane a b f w is mine k o n has h.own;
    alone = λ one. of_handle (λ z. AllAreOwn b (wrote z n k)) o f has
        (alone-kept a b k (wrote (Some f) n k) (ap (λ (x : Books). x.snapshots) is.is) (ap (λ (x : Books). x.files.holds) is.is) refl (λ m e. e) refl (h.alone one));
  }

  written-asked : (key : List ℕ) (o : Op) (name : List ℕ) → IsWrite s.lane key o w → k.handles name ≡ Some f
      → map change_of (by_lane s.lane b.journal) ≡ map change_of (by_lane s.lane a.journal) ++ change_in (k.handles name) key o
  written-asked key o name at has =
      ap (map change_of) (lane-writes s.lane a b f w is at.lane_is) ∙ map-append change_of (by_lane s.lane a.journal) (w ∷ [])
      ∙ ap (λ (z : Change). map change_of (by_lane s.lane a.journal) ++ z ∷ []) (λ i. record { family = is.family_is i; key = at.key_is i; op = at.op_is i })
      ∙ ap (λ (z : Option ℕ). map change_of (by_lane s.lane a.journal) ++ change_in z key o) (sym has)

  pub put-answers : (name key value : List ℕ) (n : ℕ) → k.handles name ≡ Some f
      → due k (command.Put name key value) ≡ None
      → IsWrite s.lane key (op.Put value) w → n ≡ length (of_family f b.journal)
      → Answers s a b k (command.Put name key value) (reply.Put n)
  put-answers name key value n has none at number = record {
    fits = put-fits a b f w is s k name key value n h.knows has none at number;
    still = knows-written (k.handles name) n has at.lane_is (put-knows a b f w is k name key value n after h.knows has number);
    asked = written-asked key (op.Put value) name at has;
    own = adds-one s.lane f a b w is at.lane_is;
    finds = tt;
  }

  pub delete-answers : (name key : List ℕ) (n : ℕ) → k.handles name ≡ Some f → due k (command.Delete name key) ≡ None
      → IsWrite s.lane key op.Delete w → n ≡ length (of_family f b.journal)
      → Answers s a b k (command.Delete name key) (reply.Delete n)
  delete-answers name key n has none at number = record {
    fits = delete-fits a b f w is s k name key n h.knows has none at number;
    still = knows-written (k.handles name) n has at.lane_is (delete-knows a b f w is k name key n after h.knows has number);
    asked = written-asked key op.Delete name at has;
    own = adds-one s.lane f a b w is at.lane_is;
    finds = tt;
  }

-- ---- reads, which may leave other books where a reference goes

pub read-same : (k : Known) (f : ℕ) (r : Reply) → SameOwn k (read (Some f) r k)
read-same k f (reply.Found value cut sv) =
    record { handles = refl; holds = refl; accepted = refl; ended = refl; snapshots = λ n e. e }
read-same k f (reply.Absent cut sv) =
    record { handles = refl; holds = refl; accepted = refl; ended = refl; snapshots = λ n e. e }
read-same k f r = same-known k

pub same-on : (k l m : Known) → SameOwn k l → SameOwn l m → SameOwn k m
same-on k l m p q = record {
  handles = q.handles ∙ p.handles;
  holds = q.holds ∙ p.holds;
  accepted = q.accepted ∙ p.accepted;
  ended = q.ended ∙ p.ended;
  snapshots = λ n e. q.snapshots n (p.snapshots n e);
}

get-same : (k : Known) (name key : List ℕ) (f : ℕ) (r : Reply) → k.handles name ≡ Some f
    → SameOwn k (learn k (command.Get name key) r)
get-same k name key f r has =
    same-on k (read (k.handles name) r k) (touches (k.handles name) (read (k.handles name) r k))
    (of_handle (λ z. SameOwn k (read z r k)) (k.handles name) f has (read-same k f r))
    (touch-same (read (k.handles name) r k) (k.handles name))

pub get-answers : (s : Setting) (a b : Books) (k : Known) (name key : List ℕ) (f : ℕ) (found : Option (List ℕ)) (cut sv : ℕ)
    → KnowsAll s a k → After a b → KeepsAll s.lane a b
    → k.handles name ≡ Some f → due k (command.Get name key) ≡ None → Gets s b k key found cut sv f
    → IsIn (IsOf f) b.supers sv → (s.lanes ≡ 1 → cut ≡ length (of_family f a.journal))
    → Answers s a b k (command.Get name key) (read_reply found cut sv)
get-answers s a b k name key f found cut sv h after keeps has none gets of end = record {
  fits = get-fits s b k name key f found cut sv has none gets;
  still =
      all-kept s a b k (learn k (command.Get name key) (read_reply found cut sv)) keeps (get-same k name key f (read_reply found cut sv) has)
      (get-knows b k name key f (read_reply found cut sv) (knows-later a b k after h.knows) has (shows-read b f found cut sv (record { within = gets.within; of = of }))) h;
  asked = none-asked s a b k (command.Get name key) (read_reply found cut sv) keeps.own.writes (asks found);
  own = adds-none s.lane a b keeps.journal;
  finds = finds-read s a k name key found cut sv
      (λ one. through (k.handles name) f (λ g. cut ≡ length (of_family g a.journal)) has (end one));
}
  where
    asks : (o : Option (List ℕ)) → change_asked k (command.Get name key) (read_reply o cut sv) ≡ []
    asks (Some value) = refl
    asks None = refl

-- ---- flushes and compactions end

learnt-same : (k : Known) (more : FamilyKnown → FamilyKnown) (f number : ℕ)
    → SameOwn k (file_made number (learns more (Some f) k))
learnt-same k more f number =
    record { handles = refl; holds = refl; accepted = refl; ended = refl; snapshots = λ n e. e }

module _ (s : Setting) (a b : Books) (k : Known) (f : ℕ) (file : FileMeta) (sound : Sound a) (h : KnowsAll s a k) (after : After a b) (name : List ℕ) (has : k.handles name ≡ Some f) where
  pub flush-answers : IsFlushed a b f file → IsPlannedFor k f file → due k (command.Flush name) ≡ None
      → Answers s a b k (command.Flush name) (reply.Flush file.number file.from file.to)
  flush-answers is planned none = record {
    fits = flush-fits a b f file sound is s k name planned has none;
    still = all-kept s a b k (learn k (command.Flush name) (reply.Flush file.number file.from file.to))
        (keeps-books s.lane a b (ap (λ (x : Books). x.families) is.is) (ap (λ (x : FileRegister). x.holds) is.settled.rest) (ap (λ (x : Books). x.journal) is.is) (ap (λ (x : Books). x.snapshots) is.is))
        (of_handle (λ z. SameOwn k (file_made file.number (learns (flushed_to file.to) z k))) (k.handles name) f has (learnt-same k (flushed_to file.to) f file.number))
        (flush-knows a b f file sound is k name after h.knows has) h;
    asked = none-asked s a b k (command.Flush name) (reply.Flush file.number file.from file.to) (ap (λ (x : Books). by_lane s.lane x.journal) is.is) refl;
    own = adds-none s.lane a b (ap (λ (x : Books). x.journal) is.is);
    finds = tt;
  }

  pub compact-answers : IsCompacted a b f file → k.file < file.number → due k (command.Compact name) ≡ None
      → Answers s a b k (command.Compact name) (reply.Compact file.number file.from file.to)
  compact-answers is newer none = record {
    fits = compact-fits a b f file sound is s k name h.knows newer has none;
    still = all-kept s a b k (learn k (command.Compact name) (reply.Compact file.number file.from file.to))
        (keeps-books s.lane a b (ap (λ (x : Books). x.families) is.is) (ap (λ (x : FileRegister). x.holds) is.settled.rest) (ap (λ (x : Books). x.journal) is.is) (ap (λ (x : Books). x.snapshots) is.is))
        (of_handle (λ z. SameOwn k (file_made file.number (learns (reached_to file.to) z k))) (k.handles name) f has (learnt-same k (reached_to file.to) f file.number))
        (compact-knows a b f file sound is k name after h.knows has) h;
    asked = none-asked s a b k (command.Compact name) (reply.Compact file.number file.from file.to) (ap (λ (x : Books). by_lane s.lane x.journal) is.is) refl;
    own = adds-none s.lane a b (ap (λ (x : Books). x.journal) is.is);
    finds = tt;
  }
