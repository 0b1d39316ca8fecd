-- What one answer adds to what a lane knows of its families is within the books.
use Rattle.std.proofs.Common.{◌≡◌, ◌≤◌, ◌<◌, ◌+◌, ℕ, zero, suc, max, List, length, Option, Some, None, sym, subst, arith}
use Rattle.std.proofs.Math.Nat.{max-le}
use Rattle.sv_model.specs.Books.{Books}
use Rattle.sv_model.specs.Journal.{of_family}
use Rattle.sv_script.specs.declared.replies.Reply.{Reply}
use Rattle.sv_script.specs.declared.replies.Reply.TheVariants as reply
use Rattle.sv_replies.specs.Known.{Known, file_made, flushed_to, learns, met, reached_to, read, saw, touches, wrote}
use Rattle.sv_replies.specs.Knows.{Knows, LastReaches}
use Rattle.sv_replies.specs.Moments.{IsAt, IsIn, IsOf}
use Rattle.sv_replies.proofs.KnowsLaws.{knows-flushed, knows-learns, knows-met, knows-reached, knows-saw}

-- counts that the books are not asked for
pub knows-counts : (b : Books) (k : Known) (touched : List ℕ) (accepted holds : ℕ) → Knows b k
    → Knows b (record k { touched = touched; accepted = accepted; holds = holds })
knows-counts b k touched accepted holds h = record {
  families = h.families;
  handles = h.handles;
  named = h.named;
  created = h.created;
  file = h.file;
  pins = h.pins;
  snapshots = h.snapshots;
  ended = h.ended;
}

-- what is so of the family of a handle
pub of_handle : (P : Option ℕ → Type 0) (o : Option ℕ) (f : ℕ) → o ≡ Some f → P (Some f) → P o
of_handle P o f is p = subst P (sym is) p

module _ (b : Books) (k : Known) (h : Knows b k) (f : ℕ) where
  pub knows-wrote : (n : ℕ) → n ≤ length (of_family f b.journal) → Knows b (wrote (Some f) n k)
  knows-wrote n within =
      let l = learns (saw n) (Some f) k in
      knows-counts b l l.touched (k.accepted + 1) l.holds (knows-learns b k (saw n) f h (knows-saw b f (k.families f) (h.families f) n within))

  pub knows-serial : (sv : ℕ) → IsIn (IsOf f) b.supers sv → Knows b (learns (met sv) (Some f) k)
  knows-serial sv of = knows-learns b k (met sv) f h (knows-met b f (k.families f) (h.families f) sv of)

  pub knows-cut : (n : ℕ) → n ≤ length (of_family f b.journal) → Knows b (learns (saw n) (Some f) k)
  knows-cut n within = knows-learns b k (saw n) f h (knows-saw b f (k.families f) (h.families f) n within)

  pub knows-flush : (to : ℕ) → IsAt (LastReaches b to) b.tops f → Knows b (learns (flushed_to to) (Some f) k)
  knows-flush to at = knows-learns b k (flushed_to to) f h (knows-flushed b f (k.families f) (h.families f) to at)

  pub knows-merge : (to : ℕ) → IsAt (LastReaches b to) b.tops f → Knows b (learns (reached_to to) (Some f) k)
  knows-merge to at = knows-learns b k (reached_to to) f h (knows-reached b f (k.families f) (h.families f) to at)

pub knows-touch : (b : Books) (k : Known) (o : Option ℕ) → Knows b k → Knows b (touches o k)
knows-touch b k None h = h
knows-touch b k (Some f) h = knows-counts b k (touches (Some f) k).touched k.accepted k.holds h

-- the cut and the serial that a read shows
pub record ReadsWithin (b : Books) (f : ℕ) (cut sv : ℕ) : Type 0 where
  pub within : cut ≤ length (of_family f b.journal)
  pub of : IsIn (IsOf f) b.supers sv

abbrev pub ReadShows : Books → ℕ → Reply → Type 0
ReadShows b f (reply.Found value cut sv) = ReadsWithin b f cut sv
ReadShows b f (reply.Absent cut sv) = ReadsWithin b f cut sv
ReadShows b f r = Unit {0}

knows-both : (b : Books) (k : Known) (f cut sv : ℕ) → Knows b k → ReadsWithin b f cut sv
    → Knows b (learns (met sv) (Some f) (learns (saw cut) (Some f) k))
knows-both b k f cut sv h shown =
    knows-serial b (learns (saw cut) (Some f) k) (knows-cut b k h f cut shown.within) f sv shown.of

pub knows-read : (b : Books) (k : Known) (f : ℕ) (r : Reply) → Knows b k → ReadShows b f r → Knows b (read (Some f) r k)
knows-read b k f (reply.Found value cut sv) h shown = knows-both b k f cut sv h shown
knows-read b k f (reply.Absent cut sv) h shown = knows-both b k f cut sv h shown
knows-read b k f r h shown = h

pub max_below : (n m top : ℕ) → n < top → m < top → max n m < top
max_below n m zero p q = absurd (omega (arith, p))
max_below n m (suc top) p q =
    let most : max n m ≤ top = max-le (omega (arith, p)) (omega (arith, q)) in
    omega (arith, most)

-- the number of a file is below the next one
pub knows-file : (b : Books) (k : Known) (number : ℕ) → Knows b k → number < b.files.next → Knows b (file_made number k)
knows-file b k number h below = record {
  families = h.families;
  handles = h.handles;
  named = h.named;
  created = h.created;
  file = max_below k.file number b.files.next h.file below;
  pins = h.pins;
  snapshots = h.snapshots;
  ended = h.ended;
}
