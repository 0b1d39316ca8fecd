-- What a scan tells of the numbers that were listed, and that files which a family names are Live.
use Rattle.std.proofs.Common.{List, Some, ap, arith, eq-eqb, false, inl, inr, ne_eqb, refl, suc, sym, true, zero, ℕ, ⊎_elim, ◌<◌, ◌==◌, ◌∙◌, ◌≡◌, ◌≤◌}
use Rattle.std.proofs.Common.{cond}
use Rattle.std.specs.Prelude.{slice_get}
use mathlib.Core.Logic.{dite}
use native.Mathlib.Decide.{ℕ_discrete}
use Rattle.sv_model.specs.Books.{Books, FileRegister}
use Rattle.sv_model.specs.Families.{is_retired}
use Rattle.sv_model.specs.Lawful.{Lawful}
use Rattle.sv_model.specs.Lists.{Every, bit}
use Rattle.sv_model.specs.Named.{numbers_of}
use Rattle.sv_model.specs.Numbers.{IsRegistered, NumbersStand, having, is_live, registered}
use Rattle.sv_model.specs.Registers.{entry}
use Rattle.sv_model.specs.Summaries.{is_obsolete}
use Rattle.sv_model.specs.declared.records.Family.{Family}
use Rattle.sv_model.specs.declared.records.FileStatus.{FileStatus}
use Rattle.sv_model.specs.declared.records.FileStatus.TheVariants.{Gone, Grabbed, Live, Obsolete, Pending}
use Rattle.sv_model.specs.declared.records.RegisteredFile.{RegisteredFile}
use Rattle.sv_model.specs.declared.records.Top.{Top}
use Rattle.sv_model.specs.declared.records.Version.{Version}
use Rattle.sv_model.proofs.Entries.{some}
use Rattle.sv_model.proofs.Lists.{times_in}
use Rattle.sv_model.proofs.Registers.{has_total}
use Rattle.sv_files.specs.Calls.{IsScanned}
use Rattle.sv_turns.specs.Listings.{TellsScan}
use Rattle.sv_turns.proofs.StatusCounts.{having_registered}
use Rattle.sv_turns.proofs.Found.{scanned-grabbed, scanned-obsolete, scanned-registered}

-- a number that has the status is registered with it
obsolete_term : (n : ℕ) (x : RegisteredFile) → 0 < cond (x.number == n) (bit (is_obsolete x.status)) 0
    → (x.number ≡ n) × (x.status ≡ Obsolete)
obsolete_term n x h = dite (ℕ_discrete x.number n)
    (λ e. (
      e,
      of x.status (omega (
        arith,
        h,
        ap (λ b. cond b (bit (is_obsolete x.status)) 0) (eq-eqb x.number n e),
      )),
    ))
    (λ ne. absurd (omega (arith, h, ap (λ b. cond b (bit (is_obsolete x.status)) 0) (ne_eqb x.number n ne))))
  where
    of : (s : FileStatus) → 0 < bit (is_obsolete s) → s ≡ Obsolete
    of Pending h = absurd (omega arith)
    of Live h = absurd (omega arith)
    of Obsolete h = refl
    of Grabbed h = absurd (omega arith)
    of Gone h = absurd (omega arith)

pub having_obsolete : (n : ℕ) (l : List RegisteredFile) → 1 ≤ having is_obsolete n l → IsRegistered l n Obsolete
having_obsolete n l h =
    let w = has_total (λ (x : RegisteredFile). cond (x.number == n) (bit (is_obsolete x.status)) 0) l (omega arith) in
    let t = obsolete_term n w.1 w.3 in
    (w.0, w.1, w.2, record { number_is = t.0; status_is = t.1 })

by_none : {A : Type 0} (k : ℕ) → (k ≡ 0 → A) → (1 ≤ k → A) → A
by_none zero f g = f refl
by_none (suc k) f g = g (omega arith)

pub scan-tells : (a b : FileRegister) (listed found : List ℕ) → NumbersStand a.numbers a.captured a.next
    → IsScanned a b listed found → TellsScan a b listed found
scan-tells a b listed found s h = record {
  grabbed = λ i n e. omega (
    arith,
    scanned-grabbed a s b listed found h n,
    times_in n found (record { at = i; is = e }),
  );
  was = λ i n e. ⊎_elim
      (λ r. inl (having_registered is_obsolete Obsolete refl n a.numbers r.obsolete))
      (λ w. inr (((h.chosen.exact n).0 w).1).new)
      ((h.found_are.exact n).0 (record { at = i; is = e }));
  left = λ i n e low below. by_none (registered n a.numbers)
      (λ none. inl ((h.found_are.exact n).1 (inr ((h.chosen.exact n).1 (
        record { at = i; is = e },
        record {
          new = none;
          low = low;
          below = below;
        },
      )))))
      (λ some. by_none (having is_obsolete n a.numbers)
      (λ none. inr (
        omega (arith, some, scanned-registered a s b listed found h n),
        omega (arith, none, scanned-obsolete a s b listed found h n),
      ))
      (λ one. inl ((h.found_are.exact n).1 (inl (record {
        obsolete = having_obsolete n a.numbers one;
        below = low;
      })))));
}

-- Each file of the last Version of a family that is not retired is Live.
pub last_files-live : (b : Books) → Lawful b → (f : ℕ) (y : Family) (t : Top) → slice_get b.families f ≡ Some y
    → slice_get b.tops f ≡ Some t → is_retired y ≡ false → (v : Version) → entry b.versions t.last ≡ Some v
    → Every (λ n. 1 ≤ having is_live n b.files.numbers) (numbers_of v.files)
last_files-live b k f y t at on stands v is i n e =
    let w = (k.versions t.last).1 (inr (record {
      id = f;
      family = y;
      top = t;
      at = at;
      on = on;
      stands = stands;
      is = refl;
    })) in
    let live : v.live ≡ true = ap (λ (z : Version). z.live) (some (sym is ∙ w.at)) ∙ w.live in
    having_registered is_live Live refl n b.files.numbers ((k.files n).1
    (t.last, v, is, record { live = live; has = record { at = i; is = e } }))
