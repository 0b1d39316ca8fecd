-- File numbers are grabbed for removal, removed or given back; strays; holds and jobs.
use Rattle.std.specs.Prelude.{◌≡◌, ◌<◌, ◌≤◌, ◌++◌, ◌∷◌, ◌⊎◌, ℕ, List, [], Option, Some, None, length, slice_get}
use Rattle.sv_model.specs.declared.records.RegisteredFile.{RegisteredFile}
use Rattle.sv_model.specs.declared.records.FileStatus.TheVariants.{Obsolete, Grabbed, Gone}
use Rattle.sv_model.specs.Lists.{Every}
use Rattle.sv_model.specs.Registers.{GoesOn}
use Rattle.sv_model.specs.Books.{Books}
use Rattle.sv_model.specs.Numbers.{registered}
use Rattle.sv_model.specs.declared.limits.TheConstants.{MAX_HOLDS, MAX_JOBS, MAX_LANES}

-- An Obsolete number below each captured one is Grabbed, or a Grabbed one is Gone or Obsolete again.
pub record IsPurgeStep (captured : List (Option ℕ)) (x y : RegisteredFile) : Type 0 where
  pub number : y.number ≡ x.number
  pub family : y.family ≡ x.family
  pub status : ((x.status ≡ Obsolete) × (y.status ≡ Grabbed) × ((f n : ℕ) → slice_get captured f ≡ Some (Some n) → x.number < n)) ⊎ ((x.status ≡ Grabbed) × ((y.status ≡ Gone) ⊎ (y.status ≡ Obsolete)))

-- Numbers are grabbed, removed or given back, and jobs may begin or end.
pub record ChangesGrabbed (a b : Books) : Type 0 where
  pub long : length b.files.numbers ≡ length a.files.numbers
  pub goes : GoesOn (λ x y. (y ≡ x) ⊎ IsPurgeStep a.files.captured x y) a.files.numbers b.files.numbers
  pub jobs : b.files.jobs ≤ MAX_JOBS
  pub is : b ≡ record a { files = record a.files { numbers = b.files.numbers; jobs = b.files.jobs } }

-- A number that a scan listed, which was not registered, is Grabbed, as a stray.
pub record IsStray (a b : Books) (n : ℕ) : Type 0 where
  pub new : registered n a.files.numbers ≡ 0
  pub below : n < a.files.next
  pub low : (f k : ℕ) → slice_get a.files.captured f ≡ Some (Some k) → n < k
  pub is : b ≡ record a {
    files = record a.files { numbers = a.files.numbers ++ record { number = n; status = Grabbed; family = None } ∷ [] };
  }

-- Holds and jobs changed.
pub record ChangesHolds (a b : Books) : Type 0 where
  pub holds : Every (λ h. h ≤ MAX_HOLDS) b.files.holds
  pub lanes : length b.files.holds ≡ MAX_LANES
  pub jobs : b.files.jobs ≤ MAX_JOBS
  pub is : b ≡ record a { files = record a.files { holds = b.files.holds; jobs = b.files.jobs } }
