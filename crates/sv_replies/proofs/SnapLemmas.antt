-- Snapshots are taken, read at and ended: why the replies fit, and what the lane then knows.
use Rattle.std.proofs.Common.{◌≡◌, ◌+◌, ℕ, Bool, true, false, List, length, take, Option, Some, None, refl, sym, ◌∙◌, ap, arith}
use Rattle.std.proofs.lemmas.List.{take_all}
use Rattle.sv_model.specs.declared.records.Snapshot.{Snapshot}
use Rattle.sv_model.specs.declared.writes.Write.{Write}
use Rattle.sv_model.specs.After.{After}
use Rattle.sv_model.specs.Books.{Books}
use Rattle.sv_model.specs.Journal.{by_lane, of_family}
use Rattle.sv_model.specs.Registers.{entry}
use Rattle.sv_model.proofs.Registers.{entry-new, entry-same, entry_le}
use Rattle.sv_laws.specs.Snapping.{IsSnapped, IsUnsnapped}
use Rattle.sv_model.proofs.Entries.{some}
use Rattle.sv_script.specs.declared.commands.Command.TheVariants as command
use Rattle.sv_script.specs.declared.replies.Reply.{Reply}
use Rattle.sv_script.specs.declared.replies.Reply.TheVariants as reply
use Rattle.sv_replies.specs.Due.{due}
use Rattle.sv_replies.specs.GetsLaw.{GetsAt}
use Rattle.sv_replies.specs.Known.{Known, learn, learns, met, read_at, with_at}
use Rattle.sv_replies.specs.Knows.{AllAreOwn, Knows}
use Rattle.sv_replies.specs.ReadReply.{read_reply}
use Rattle.sv_replies.specs.ReplyFits.{ReplyFits}
use Rattle.sv_replies.specs.Settings.{Setting}
use Rattle.sv_replies.specs.SnapLaw.{IsOver, MayUse, NoSuch}
use Rattle.sv_replies.specs.Moments.{IsIn, IsOf}
use Rattle.sv_replies.proofs.KnowsLaws.{at_holds, knows-later}
use Rattle.sv_replies.proofs.LearnLaws.{knows-serial, of_handle}
use Rattle.sv_replies.proofs.MetLaws.{through}

-- ---- what is known

abbrev IsMade : Books → ℕ → Type 0
IsMade b n = (x : Snapshot) × (entry b.snapshots n ≡ Some x)

-- a snapshot that was made
pub knows-snapshot : (b : Books) (k : Known) (n : ℕ) → Knows b k → IsMade b n
    → Knows b (record k { snapshots = with_at k.snapshots n true })
knows-snapshot b k n h made = record {
  families = h.families;
  handles = h.handles;
  named = h.named;
  created = h.created;
  file = h.file;
  pins = h.pins;
  snapshots = at_holds (λ m z. z ≡ true → IsMade b m) k.snapshots n true h.snapshots (λ e. made);
  ended = h.ended;
}

-- one that is over
pub knows-ended : (b : Books) (k : Known) (n : ℕ) → Knows b k → IsIn IsOver b.snapshots n
    → Knows b (record k { ended = with_at k.ended n true })
knows-ended b k n h over = record {
  families = h.families;
  handles = h.handles;
  named = h.named;
  created = h.created;
  file = h.file;
  pins = h.pins;
  snapshots = h.snapshots;
  ended = at_holds (λ m z. z ≡ true → IsIn IsOver b.snapshots m) k.ended n true h.ended (λ e. over);
}

apart : (d : Bool) → (d ≡ true → ⊥) → d ≡ false
apart true h = absurd (h refl)
apart false h = refl

live_over : (x y : Snapshot) → Some x ≡ Some y → x.live ≡ true → y.live ≡ false → ⊥
live_over x y e live over =
    absurd (let d : true ≡ false = sym live ∙ ap (λ (z : Snapshot). z.live) (some e) ∙ over in cc)

-- a lane may use what is Live
pub may-use : (s : Setting) (b : Books) (k : Known) (n : ℕ) (x : Snapshot) → Knows b k → (s.lanes ≡ 1 → AllAreOwn b k)
    → entry b.snapshots n ≡ Some x → x.live ≡ true → MayUse s k n
may-use s b k n x knows alone at live = record {
  stays = apart (k.ended n) (λ e. let over = knows.ended n e in live_over x over.0 (sym at ∙ over.1) live over.2);
  alone = λ one. (alone one).taken n x at;
}

-- ---- taken

module _ (a b : Books) (h : IsSnapped a b) where
  abbrev it : Snapshot
  it = record { at = length a.journal; live = true }

  snapped_at : (n : ℕ) → n ≡ length a.snapshots + 1 → entry b.snapshots n ≡ Some it
  snapped_at n number = ap (λ (x : Books). entry x.snapshots n) h.is ∙ entry-new a.snapshots it n number

  journal-is : b.journal ≡ a.journal
  journal-is = ap (λ (x : Books). x.journal) h.is

  all-of : (at : ℕ) → at ≡ length a.journal → take at b.journal ≡ a.journal
  all-of at end = ap (take at) journal-is ∙ take_all at a.journal (omega (arith, end))

  pub snap-fits : (s : Setting) (k : Known) (n at : ℕ) → Knows a k → length (by_lane s.lane a.journal) ≡ k.accepted
      → n ≡ length a.snapshots + 1 → at ≡ length a.journal → ReplyFits s b k command.Snap (reply.Snap n at)
  snap-fits s k n at knows own number end = (
    refl,
    record {
      new = apart (k.snapshots n) (λ e. let x = knows.snapshots n e in absurd (omega (arith, (entry_le a.snapshots n x.0 x.1).1, number)));
      stands = (it, snapped_at n number, sym end);
      within = omega (arith, end, ap (λ (l : List Write). length l) journal-is);
      covers = λ f. omega (arith, (knows.families f).seen, ap (λ (l : List Write). length (of_family f l)) (all-of at end));
      own = ap (λ (l : List Write). length (by_lane s.lane l)) (all-of at end) ∙ own;
    },
  )

  pub snap-knows : (k : Known) (n at : ℕ) → After a b → Knows a k → n ≡ length a.snapshots + 1
      → Knows b (learn k command.Snap (reply.Snap n at))
  snap-knows k n at after knows number = knows-snapshot b k n (knows-later a b k after knows) (it, snapped_at n number)

-- ---- ended

module _ (a b : Books) (n : ℕ) (x : Snapshot) (h : IsUnsnapped a b n x) where
  is-over : IsIn IsOver b.snapshots n
  is-over = (
    record x { live = false },
    ap (λ (z : Books). entry z.snapshots n) h.is ∙ entry-same a.snapshots n x (record x { live = false }) h.at,
    refl,
  )

  pub unsnap-fits : (s : Setting) (k : Known) → Knows a k → (s.lanes ≡ 1 → AllAreOwn a k)
      → ReplyFits s b k (command.Unsnap n) reply.Unsnap
  unsnap-fits s k knows alone = (refl, record { may = may-use s a k n x knows alone h.at h.live; over = is-over })

  pub unsnap-knows : (k : Known) → After a b → Knows a k → Knows b (learn k (command.Unsnap n) reply.Unsnap)
  unsnap-knows k after knows =
      knows-ended b (record k { snapshots = with_at k.snapshots n true }) n
      (knows-snapshot b k n (knows-later a b k after knows) (is-over.0, is-over.1)) is-over

-- ---- read at

pub gets-fits : (s : Setting) (b : Books) (k : Known) (n : ℕ) (name key : List ℕ) (f : ℕ) (found : Option (List ℕ)) (cut sv : ℕ)
    → k.handles name ≡ Some f → due k (command.Gets n name key) ≡ None → GetsAt s b k n key found cut sv f
    → ReplyFits s b k (command.Gets n name key) (read_reply found cut sv)
gets-fits s b k n name key f (Some value) cut sv has none gets =
    (none, through (k.handles name) f (GetsAt s b k n key (Some value) cut sv) has gets)
gets-fits s b k n name key f None cut sv has none gets =
    (none, through (k.handles name) f (GetsAt s b k n key None cut sv) has gets)

-- the serial that a read shows
abbrev pub ShowsSerial : Books → ℕ → Reply → Type 0
ShowsSerial b f (reply.Found value cut sv) = IsIn (IsOf f) b.supers sv
ShowsSerial b f (reply.Absent cut sv) = IsIn (IsOf f) b.supers sv
ShowsSerial b f r = Unit {0}

knows-read_at : (b : Books) (k : Known) (n f : ℕ) (r : Reply) → Knows b k → IsMade b n → ShowsSerial b f r
    → Knows b (read_at n (Some f) r k)
knows-read_at b k n f (reply.Found value cut sv) h made of =
    knows-snapshot b (learns (met sv) (Some f) k) n (knows-serial b k h f sv of) made
knows-read_at b k n f (reply.Absent cut sv) h made of =
    knows-snapshot b (learns (met sv) (Some f) k) n (knows-serial b k h f sv of) made
knows-read_at b k n f r h made of = h

pub gets-knows : (b : Books) (k : Known) (n : ℕ) (name key : List ℕ) (f : ℕ) (r : Reply) → Knows b k
    → k.handles name ≡ Some f → IsMade b n
    → ShowsSerial b f r → Knows b (learn k (command.Gets n name key) r)
gets-knows b k n name key f r knows has made of =
    of_handle (λ z. Knows b (read_at n z r k)) (k.handles name) f has (knows-read_at b k n f r knows made of)

-- ---- no such snapshot

-- no snapshot of this number is Live
pub no-such : (s : Setting) (b : Books) (k : Known) (n : ℕ) → Knows b k → (s.lanes ≡ 1 → AllAreOwn b k)
    → ((x : Snapshot) → entry b.snapshots n ≡ Some x → x.live ≡ false) → NoSuch s b k n
no-such s b k n knows alone none = record {
  over = λ e. let x = knows.snapshots n e in (x.0, x.1, none x.0 x.1);
  alone = λ one e. let x = knows.snapshots n e in (alone one).over n (x.0, x.1, none x.0 x.1);
}
