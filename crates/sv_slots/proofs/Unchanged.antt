-- A lane that leaves the books as they are may give the DB lock.
use Rattle.std.proofs.Common.{List, None, Some, [], arith, false, inl, refl, true, ℕ, ◌<◌, ◌≡◌}
use Rattle.sv_model.specs.Lawful.{Lawful}
use Rattle.sv_model.specs.Tasks.{Task}
use Rattle.sv_model.specs.Turns.{IsAccounted, Turns}
use Rattle.sv_model.proofs.AfterLaws.{after-itself}
use Rattle.sv_model.specs.Books.{Books}
use Rattle.sv_model.specs.declared.writes.Write.{Write}
use Rattle.sv_rule.proofs.Basics.{append_none, every_none}
use Rattle.sv_rule.proofs.TurnsSame.{stands-same}
use Rattle.sv_rule.specs.LockPlays.{MayGiveDb}
use Rattle.sv_rule.specs.Views.{Desk, LaneView, idle}

-- lawful books may stay as they are
lawful-turns : (l : ℕ) (b : Books) (u : Task) → Lawful b → (u.quiet ≡ true → (0 < u.holds) × (b.files.jobs ≡ 0))
    → (u.quiet ≡ false → u.listed ≡ []) → Turns l b u b u []
lawful-turns l b u lawful quiet loud = record {
  counts = record {
    lawful = lawful;
    later = after-itself b;
    journal = append_none b.journal;
    own = every_none (λ (w : Write). w.lane ≡ l);
    outputs = λ n. refl;
    grabbed = λ n. refl;
    removed = λ n. refl;
    ended = λ n. refl;
    jobs = refl;
    holds = refl;
    others_hold = λ k n. refl;
    handles = λ f. refl;
    others_handle = λ k f n. refl;
    default = refl;
    output = λ o e. inl (record { was = o; is = e; same = refl });
    gone = λ n h. inl h;
    begins = λ none one. absurd (omega (arith, none, one));
    quiet = quiet;
    loud = loud;
    listed = λ i n e. inl (record { at = i; is = e });
  };
  written = λ o e w. e;
  live = λ n h. inl h;
  gone = λ n h. inl h;
  marks = λ k h z. h;
}

-- those that the lane found
pub still-turns : (l : ℕ) (b : Books) (t : Task) → IsAccounted l b t → Turns l b t b t []
still-turns l b t is = lawful-turns l b t is.lawful is.quiet is.loud

-- those that a turn came to
pub turned-still : (l : ℕ) (a b : Books) (t u : Task) (more : List Write) → Turns l a t b u more → Turns l b u b u []
turned-still l a b t u more h = lawful-turns l b u h.counts.lawful h.counts.quiet h.counts.loud

pub gives_still : (v : LaneView) (d : Desk) → v.seat.spent ≡ false → v.locks.db ≡ Some d → d.work ≡ idle → d.due ≡ []
    → v.locks.cell ≡ None → Turns v.known.lane d.books v.known.task d.books v.known.task []
    → MayGiveDb v d.books v.known.task
gives_still v d alive has resting due bare still = record {
  alive = alive;
  desk = d;
  has = has;
  resting = resting;
  due = due;
  cell = bare;
  turns = still;
  stands = stands-same d.books;
}

pub gives_found : (v : LaneView) (d : Desk) → v.seat.spent ≡ false → v.locks.db ≡ Some d
    → d.work ≡ idle → d.due ≡ [] → v.locks.cell ≡ None → IsAccounted v.known.lane d.books v.known.task
    → MayGiveDb v d.books v.known.task
gives_found v d alive has resting due bare is =
    gives_still v d alive has resting due bare (still-turns v.known.lane d.books v.known.task is)
