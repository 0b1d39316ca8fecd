-- What the books have of a lane's own: its handles and holds, the output that it writes, the numbers that it grabbed, and
-- what it made Gone.
use Rattle.std.specs.Prelude.{ℕ, Bool, cond, List, [], Option, None, Some, slice_get, map}
use Rattle.sv_model.specs.declared.records.Family.{Family}
use Rattle.sv_model.specs.declared.records.FileMeta.{FileMeta}
use Rattle.sv_model.specs.declared.records.Snapshot.{Snapshot}
use Rattle.sv_model.specs.Lists.{at, total, same, bit}
use Rattle.sv_model.specs.Registers.{entry}

-- a captured number with what its file is to cover, and whether the file was written
pub record Output : Type 0 where
  pub meta : FileMeta
  pub written : Bool

-- a number that was grabbed, and whether its file was taken away
pub record Mark : Type 0 where
  pub number : ℕ
  pub taken : Bool

pub record Task : Type 0 where
  -- the families of which the lane has a handle
  pub handles : List ℕ
  pub holds : ℕ
  -- whether its hold has answered, and the numbers listed since
  pub quiet : Bool
  pub listed : List ℕ
  pub output : Option Output
  -- the numbers grabbed and not given back
  pub job : Option (List Mark)
  -- the numbers that it made Gone, and the snapshots
  pub removed : List ℕ
  pub ended : List ℕ

-- ---- counted

abbrev pub output_count : ℕ → Option Output → ℕ
output_count n None = 0
output_count n (Some o) = same n o.meta.number

-- how often the number is the output
abbrev pub has_output : ℕ → Task → ℕ
has_output n t = output_count n t.output

abbrev pub marks_of : Option (List Mark) → List Mark
marks_of None = []
marks_of (Some marks) = marks

abbrev pub job_count : Option (List Mark) → ℕ
job_count None = 0
job_count (Some marks) = 1

abbrev pub has_job : Task → ℕ
has_job t = job_count t.job

-- how often the number is in the job
abbrev pub grabs : ℕ → Task → ℕ
grabs n t = total (λ k. same n k.number) (marks_of t.job)

-- ---- of the books

abbrev pub handle_in : ℕ → Option Family → ℕ
handle_in l None = 0
handle_in l (Some f) = at 0 (map bit f.handles) l

-- 1 where the lane has a handle of the family
abbrev pub handle : List Family → ℕ → ℕ → ℕ
handle families l f = handle_in l (slice_get families f)

abbrev pub gone_count : Option Snapshot → ℕ
gone_count None = 0
gone_count (Some s) = cond s.live 0 1

-- 1 where the snapshot was made and is Gone
abbrev pub gone_snapshot : ℕ → List Snapshot → ℕ
gone_snapshot n snapshots = gone_count (entry snapshots n)
