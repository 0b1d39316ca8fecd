-- Nothing is under way, before a call and after it.
use Rattle.std.proofs.Common.{◌≡◌, ⊎_elim, ℕ, List, refl, sym, ap, ◌∙◌, subst}
use Rattle.std.specs.Prelude.{IfOk, OnErr, Ok, Err, Result, slice_get}
use Rattle.sv_model.specs.declared.records.FileStatus.TheVariants.{Grabbed}
use Rattle.sv_model.specs.declared.records.RegisteredFile.{RegisteredFile}
use Rattle.sv_model.specs.declared.records.SuperVersion.{SuperVersion}
use Rattle.sv_model.specs.declared.refusals.Refusal.{Refusal}
use Rattle.sv_model.specs.Books.{Books, FileRegister}
use Rattle.sv_model.specs.Numbers.{IsRegistered}
use Rattle.sv_files.specs.Calls.{with_hold}
use Rattle.sv_laws.specs.Cleaning.{IsCleaned}
use Rattle.sv_laws.proofs.Apart.{obsolete_grabbed}
use Rattle.sv_laws.proofs.Registers.{goes-back}
use Rattle.sv_state.specs.Seen.{StateSeen}
use Rattle.sv_store.specs.Standing.{IsStill}

-- the same numbers, captures and jobs
pub still-same : (r s : FileRegister) → IsStill r → s.numbers ≡ r.numbers → s.captured ≡ r.captured → s.jobs ≡ r.jobs → IsStill s
still-same r s h numbers captured jobs = record {
  jobs = jobs ∙ h.jobs;
  idle = λ f c e. h.idle f c (ap (λ l. slice_get l f) (sym captured) ∙ e);
  given_back = λ n q. h.given_back n (subst (λ (l : List RegisteredFile). IsRegistered l n Grabbed) numbers q);
}

pub held-still : (a b : StateSeen) (lane : ℕ) (X : ℕ → Type 0) (r : Result ℕ Refusal) → IfOk r (λ count. X count × (b.books.files ≡ with_hold a.books.files lane count))
    → OnErr r (b ≡ a) → IsStill a.books.files → IsStill b.books.files
held-still a b lane X (Ok n) h k s = subst IsStill (sym h.1) (still-same a.books.files (with_hold a.books.files lane n) s refl refl refl)
held-still a b lane X (Err e) h k s = subst (λ (z : StateSeen). IsStill z.books.files) (sym k) s

-- a cleanup
pub cleaned-still : (b e : Books) (s : ℕ) (x : SuperVersion) → IsCleaned b e s x → IsStill b.files → IsStill e.files
cleaned-still b e s x g h =
    let files = ap (λ (z : Books). z.files) g.is in
    record {
      jobs = ap (λ (z : FileRegister). z.jobs) files ∙ h.jobs;
      idle = λ f c q. h.idle f c (ap (λ (z : FileRegister). slice_get z.captured f) (sym files) ∙ q);
      given_back = λ n q.
          let w = goes-back _ b.files.numbers e.files.numbers g.numbers.goes g.numbers.long q.0 q.1 q.2 in
          ⊎_elim
          (λ t. h.given_back n (q.0, w.0, w.1, record { number_is = ap (λ (z : RegisteredFile). z.number) (sym t.0) ∙ q.3.number_is; status_is = ap (λ (z : RegisteredFile). z.status) (sym t.0) ∙ q.3.status_is }))
          (λ t. obsolete_grabbed (ap (λ (z : RegisteredFile). z.status) (sym t.0) ∙ q.3.status_is))
          w.2;
    }
