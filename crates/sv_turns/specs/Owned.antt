-- What a lane has of its own after each call.
use Rattle.std.specs.Prelude.{Bool, List, None, Some, [], cond, false, map, true, ℕ, ◌++◌, ◌==◌, ◌∷◌}
use Rattle.sv_model.specs.Tasks.{Mark, Task}
use Rattle.sv_model.specs.declared.records.FileMeta.{FileMeta}

-- ---- outputs

-- a number is captured for a file that is to cover this
abbrev pub captures_output : FileMeta → Task → Task
captures_output file t = record t { output = Some (record { meta = file; written = false }) }

-- the output is the family's, or given up
abbrev pub without_output : Task → Task
without_output t = record t { output = None }

-- ---- jobs

abbrev pub grabbed_mark : ℕ → Mark
grabbed_mark n = record { number = n; taken = false }

-- a job begins with these numbers
abbrev pub begins_job : List ℕ → Task → Task
begins_job found t = record t { job = Some (map grabbed_mark found) }

-- the marks without the first of the number
abbrev pub without_mark : ℕ → List Mark → List Mark
without_mark n [] = []
without_mark n (k ∷ marks) = cond (k.number == n) marks (k ∷ without_mark n marks)

-- a number of the job is given back, which is Gone or Obsolete again
abbrev pub gives_back : ℕ → Bool → List Mark → Task → Task
gives_back n gone marks t =
    record t { job = Some (without_mark n marks); removed = cond gone (n ∷ t.removed) t.removed }

abbrev pub ends_job : Task → Task
ends_job t = record t { job = None }

-- ---- holds

-- The lane has so many holds. With none left its hold has not answered, and what it listed since is nothing.
abbrev pub holds_with : ℕ → Task → Task
holds_with count t = record t {
  holds = count;
  quiet = cond (count == 0) false t.quiet;
  listed = cond (count == 0) [] t.listed;
}

-- its hold has answered
abbrev pub quietens : Task → Task
quietens t = record t { quiet = true }

-- these numbers were listed
abbrev pub lists : List ℕ → Task → Task
lists found t = record t { listed = t.listed ++ found }

-- ---- handles and snapshots

abbrev pub opens_family : ℕ → Task → Task
opens_family f t = record t { handles = f ∷ t.handles }

-- the numbers without the first that is n
abbrev pub without : ℕ → List ℕ → List ℕ
without n [] = []
without n (x ∷ xs) = cond (x == n) xs (x ∷ without n xs)

abbrev pub releases : ℕ → Task → Task
releases f t = record t { handles = without f t.handles }

abbrev pub ends_snapshot : ℕ → Task → Task
ends_snapshot n t = record t { ended = n ∷ t.ended }
