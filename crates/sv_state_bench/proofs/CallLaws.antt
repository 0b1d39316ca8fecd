-- The tests' state stands through holds, removals and snapshots.
use Rattle.std.proofs.Common.{◌≡◌, ◌<◌, ◌-◌, ℕ, List, Option, Result, Ok, Err, refl, ap, ◌∙◌, arith}
use Rattle.std.specs.Prelude.{IfOk, OnErr, OnOk}
use Rattle.sv_model.specs.declared.records.FileMeta.{FileMeta}
use Rattle.sv_model.specs.declared.records.FileStatus.TheVariants as status
use Rattle.sv_model.specs.declared.refusals.Refusal.{Refusal}
use Rattle.sv_model.specs.Books.{Books, FileRegister}
use Rattle.sv_model.specs.Cells.{Cell}
use Rattle.sv_model.specs.Numbers.{IsRegistered, MarksOnly}
use Rattle.sv_model.specs.Registers.{entry}
use Rattle.sv_model.specs.Steady.{Sound}
use Rattle.sv_model.proofs.Registers.{entry-same}
use Rattle.sv_files.specs.Calls.{IsTaken, ungrabbed, with_hold}
use Rattle.sv_laws.specs.Snapping.{IsSnapped}
use Rattle.sv_state.specs.Follows.{OnlyFiles}
use Rattle.sv_state.specs.Seen.{StateSeen}
use Rattle.sv_state.specs.Taken.{IsEnded}
use Rattle.sv_state_bench.specs.Standing.{Stands}
use Rattle.sv_state_bench.proofs.Standings.{kept, same}

-- only files changed, of which the captured numbers stand
pub only-files : (a b : StateSeen) (A : List Cell) (O : List (Option FileMeta)) (W : List (Option ℕ)) → Stands a.books A O W → Sound b.books → OnlyFiles a b
    → b.books.files.captured ≡ a.books.files.captured → b.books.files.jobs ≡ 0 → Stands b.books A O W
only-files a b A O W h sound only captured jobs =
    same a.books b.books A O W h sound
    (ap (λ (z : StateSeen). z.books.journal) only) (ap (λ (z : StateSeen). z.books.supers) only) (ap (λ (z : StateSeen). z.books.families) only)
    (ap (λ (z : StateSeen). z.books.tops) only) (ap (λ (z : StateSeen). z.books.metas) only) captured jobs

pub held-stands : (a b : StateSeen) (A : List Cell) (O : List (Option FileMeta)) (W : List (Option ℕ)) → Stands a.books A O W → Sound b.books → OnlyFiles a b → (lane : ℕ) (X : ℕ → Type 0)
    (r : Result ℕ Refusal) → IfOk r (λ count. X count × (b.books.files ≡ with_hold a.books.files lane count)) → OnErr r (b ≡ a) → Stands b.books A O W
held-stands a b A O W h sound only lane X (Ok n) o k =
    only-files a b A O W h sound only (ap (λ (z : FileRegister). z.captured) o.1) (ap (λ (z : FileRegister). z.jobs) o.1 ∙ h.jobs)
held-stands a b A O W h sound only lane X (Err e) o k = kept a b A O W h k

-- a number that was taken is Grabbed
pub taken-grabbed : (n : ℕ) (a b : FileRegister) → IsTaken n a b → IsRegistered b.numbers n status.Grabbed
taken-grabbed n a b t = (
  t.numbers.at,
  record t.numbers.it { status = status.Grabbed },
  ap (λ l. entry l t.numbers.at) t.numbers.marked ∙ entry-same a.numbers t.numbers.at t.numbers.it (record t.numbers.it { status = status.Grabbed }) t.numbers.found,
  record { number_is = t.numbers.had.number_is; status_is = refl },
)

pub taken-jobs : (n : ℕ) (a b : FileRegister) → IsTaken n a b → 0 < b.jobs
taken-jobs n a b t = omega (arith, ap (λ (z : FileRegister). z.jobs) t.rest)

-- it is taken, given back, and the job ends
pub removed-stands : (a b m e : StateSeen) (A : List Cell) (O : List (Option FileMeta)) (W : List (Option ℕ)) → Stands a.books A O W → (n : ℕ) (gone : _) → OnlyFiles a b → IsTaken n a.books.files b.books.files
    → OnlyFiles b m → MarksOnly n status.Grabbed (ungrabbed gone) b.books.files m.books.files → OnlyFiles m e
    → e.books.files ≡ record m.books.files { jobs = m.books.files.jobs - 1 } → Sound e.books → Stands e.books A O W
removed-stands a b m e A O W h n gone p t q g r f sound =
    only-files a e A O W h sound
    (r ∙ ap (λ (z : StateSeen). record z { books = record z.books { files = e.books.files } }) (q ∙ ap (λ (z : StateSeen). record z { books = record z.books { files = m.books.files } }) p))
    (ap (λ (z : FileRegister). z.captured) f ∙ ap (λ (z : FileRegister). z.captured) g.rest ∙ ap (λ (z : FileRegister). z.captured) t.rest)
    (omega (arith, ap (λ (z : FileRegister). z.jobs) f, ap (λ (z : FileRegister). z.jobs) g.rest, ap (λ (z : FileRegister). z.jobs) t.rest, h.jobs))

pub snapped-stands : (a b : Books) (A : List Cell) (O : List (Option FileMeta)) (W : List (Option ℕ)) → Stands a A O W → Sound b → IsSnapped a b → Stands b A O W
snapped-stands a b A O W h sound s =
    same a b A O W h sound (ap (λ (z : Books). z.journal) s.is) (ap (λ (z : Books). z.supers) s.is) (ap (λ (z : Books). z.families) s.is) (ap (λ (z : Books). z.tops) s.is)
    (ap (λ (z : Books). z.metas) s.is) (ap (λ (z : Books). z.files.captured) s.is) (ap (λ (z : Books). z.files.jobs) s.is ∙ h.jobs)

pub unsnapped-stands : {T : Type 0} (a b : StateSeen) (A : List Cell) (O : List (Option FileMeta)) (W : List (Option ℕ)) → Stands a.books A O W → Sound b.books → (id : ℕ) (r : Result T Refusal)
    → OnOk r (IsEnded a.books id b.books) → OnErr r (b ≡ a) → Stands b.books A O W
unsnapped-stands a b A O W h sound id (Ok n) o k =
    let s = o.is in
    same a.books b.books A O W h sound (ap (λ (z : Books). z.journal) s.is) (ap (λ (z : Books). z.supers) s.is) (ap (λ (z : Books). z.families) s.is) (ap (λ (z : Books). z.tops) s.is)
    (ap (λ (z : Books). z.metas) s.is) (ap (λ (z : Books). z.files.captured) s.is) (ap (λ (z : Books). z.files.jobs) s.is ∙ h.jobs)
unsnapped-stands a b A O W h sound id (Err e) o k = kept a b A O W h k
