-- The views of new seats, and of a seat that was joined.
use Rattle.std.specs.Prelude.{ℕ, true, false, List, [], ◌∷◌, None, Some}
use Rattle.sv_model.specs.Books.{Books}
use Rattle.sv_model.specs.Families.{first_options}
use Rattle.sv_rule.specs.Views.{Bodied, Disk, Start, Known, Work, Desk, Locks, Slots, Counts, Seat, LaneView, idle, sweeping}
use Rattle.sv_model.specs.Tasks.{Task}

abbrev pub no_books : Books
no_books = record {
  journal = [];
  supers = [];
  memtables = [];
  lists = [];
  versions = [];
  files = record { numbers = []; captured = []; holds = []; jobs = 0; next = 0 };
  metas = [];
  families = [];
  tops = [];
  snapshots = [];
}

abbrev pub no_start : Start
no_start = record { disk = record { files = None; faults = 0 }; books = no_books }

abbrev pub no_bodied : Bodied
no_bodied = record {
  pack = 0;
  body = record {
    descriptor = record {
      family = 0;
      active = 0;
      list = 0;
      version = 0;
      base = 0;
      options = first_options;
    };
    cell = 0;
    frozen = [];
    files = [];
  };
}

abbrev pub no_desk : Desk
no_desk = record { books = no_books; work = idle; due = [] }

abbrev pub no_locks : Locks
no_locks = record { db = None; cell = None; dir = None }

abbrev pub no_slots : Slots
no_slots = record { slot = []; cached = []; met = []; looked = [] }

abbrev pub no_counts : Counts
no_counts = record { looks = 0; uses = 0; misses = 0; swept = 0; takes = 0; faults = 0; lists = 0; adds = 0 }

-- a task with handles of these families, and nothing else
abbrev pub bare_task : List ℕ → Task
bare_task handles = record {
  handles = handles;
  holds = 0;
  quiet = false;
  listed = [];
  output = None;
  job = None;
  removed = [];
  ended = [];
}

abbrev pub bare_known : ℕ → Start → List ℕ → Known
bare_known lane start handles = record {
  lane = lane;
  start = start;
  found = [];
  left = [];
  task = bare_task handles;
  bodies = [];
  rows = [];
  reads = [];
  mine = [];
  seen = [];
  round = 0;
  frames = [];
}

abbrev pub bare_view : Seat → Known → LaneView
bare_view seat known = record {
  seat = seat;
  known = known;
  locks = no_locks;
  slots = no_slots;
  counts = no_counts;
  hand = [];
  owes = [];
  loads = [];
  names = [];
  joined = [];
}

-- the view of a lane's new seat
abbrev pub new_view : ℕ → ℕ → ℕ → Start → LaneView
new_view lane lanes made start = bare_view (record { spent = false; lanes = lanes; made = made; ends = [] })
    (bare_known lane start (0 ∷ []))

-- the view that a joined seat leaves
abbrev pub nobody : LaneView
nobody = bare_view (record { spent = true; lanes = 0; made = 0; ends = [] }) (bare_known 0 no_start [])

-- the view of the first seat
abbrev pub first_view : ℕ → Books → Disk → LaneView
first_view lanes b d = new_view 0 lanes 1 (record { disk = d; books = b })

-- ---- the desk of a lane

abbrev pub desk_of : LaneView → Desk
desk_of v = elim v.locks.db as (λ _. Desk) [ None ↦ no_desk | Some d ↦ d ]

abbrev pub old_in : Work → ℕ
old_in (sweeping f old lane mid taken) = old
old_in w = 0

abbrev pub taken_in : Work → ℕ
taken_in (sweeping f old lane mid taken) = taken
taken_in w = 0
