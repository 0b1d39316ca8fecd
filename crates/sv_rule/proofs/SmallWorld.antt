-- A small world: two lanes and one family. Both lanes had cached its SuperVersion 1. Lane 0 has the DB lock, made
-- SuperVersion 2, and sweeps: it is past its own slot, and lane 1's still has a reference of SuperVersion 1.
use Rattle.sv_model.specs.declared.writes.Op.TheVariants as op
use Rattle.std.proofs.Common.{List, None, Some, [], false, replicate, true, ℕ, ◌++◌, ◌∷◌}
use Rattle.atomic_table.specs.Table.{State}
use Rattle.sv_model.specs.Books.{Books}
use Rattle.sv_model.specs.Families.{default_family, first_options}
use Rattle.sv_model.specs.Openings.{opening_books}
use Rattle.sv_model.specs.declared.records.Memtable.{Memtable}
use Rattle.sv_model.specs.declared.records.SuperVersion.{SuperVersion}
use Rattle.sv_model.specs.declared.writes.Write.{Write}
use Rattle.sv_rule.specs.Blanks.{bare_known, new_view, no_counts, no_locks}
use Rattle.sv_rule.specs.Views.{Bodied, LaneView, Start, Work, sweeping}

abbrev pub w : Write
w = record { family = 0; key = 107 ∷ []; op = op.Delete; mem = 1; lane = 1 }

abbrev pub s1 : SuperVersion
s1 = record {
  descriptor = record {
    family = 0;
    active = 1;
    list = 1;
    version = 1;
    base = 0;
    options = first_options;
  };
  place = 0;
  live = true;
}

abbrev pub s2 : SuperVersion
s2 = record {
  descriptor = record {
    family = 0;
    active = 2;
    list = 2;
    version = 1;
    base = 1;
    options = first_options;
  };
  place = 1;
  live = true;
}

abbrev pub m1 : Memtable
m1 = record { family = 0; first = 0; cell = 0; live = true }

abbrev pub m2 : Memtable
m2 = record { family = 0; first = 1; cell = 1; live = true }

abbrev pub b : Books
b = record {
  journal = w ∷ [];
  supers = s1 ∷ s2 ∷ [];
  memtables = m1 ∷ m2 ∷ [];
  lists = record { members = []; live = true } ∷ record { members = 1 ∷ []; live = true } ∷ [];
  versions = record { files = []; live = true } ∷ [];
  files = record { numbers = []; captured = replicate 16 None; holds = replicate 32 0; jobs = 0; next = 1 };
  metas = [];
  families = default_family ∷ [];
  tops = record { current = Some 2; last = 1 } ∷ [];
  snapshots = [];
}

-- SuperVersion 1 at place 0 is the pack 256, SuperVersion 2 at place 1 the pack 513
abbrev pub work : Work
work = sweeping 0 256 1 false 0

abbrev pub start : Start
start = record { disk = record { files = None; faults = 0 }; books = opening_books 1 }

abbrev pub it : Bodied
it = record { pack = 256; body = record { descriptor = s1.descriptor; cell = 0; frozen = []; files = [] } }

-- it has a reference of SuperVersion 1 in hand, which it took from the number word
abbrev pub lane0 : LaneView
lane0 = record (new_view 0 2 2 start) {
  locks = record no_locks { db = Some (record { books = b; work = work; due = [] }) };
  hand = 256 ∷ [];
  counts = record no_counts { adds = 1 };
}

abbrev pub lane1 : LaneView
lane1 = record (new_view 1 2 0 start) {
  known = record (bare_known 1 start (0 ∷ [])) { mine = w ∷ []; seen = 1 ∷ []; round = 1; bodies = it ∷ [] };
  slots = record { slot = []; cached = 256 ∷ []; met = 1 ∷ []; looked = 513 ∷ [] };
  loads = record { family = 0; pack = 513 } ∷ [];
}

abbrev pub vs : List LaneView
vs = lane0 ∷ lane1 ∷ []

-- the DB lock is taken; one number word is not 0; the round was added to once; two places have a SuperVersion; and the
-- slot word of lane 1 has the pack
abbrev pub words : List ℕ
words = 1 ∷ (replicate 65 0 ++ 513 ∷ (replicate 15 0 ++ 1 ∷ 4294967298 ∷ 8589934593 ∷
    (replicate 254 0 ++ (replicate 16 0 ++ 256 ∷ replicate 495 0))))

abbrev pub Small : State Books LaneView
Small = record { words = words; homes = []; views = vs }
