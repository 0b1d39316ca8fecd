-- A capture is given up.
use Rattle.std.proofs.Common.{◌≤◌, ℕ, suc, inl, ⊎_elim, length, None, refl, sym, ap, ◌∙◌, subst, arith}
use Rattle.sv_model.specs.declared.records.FileStatus.TheVariants.{Pending, Live, Obsolete}
use Rattle.sv_model.specs.Lists.{Every}
use Rattle.sv_model.specs.After.{After}
use Rattle.sv_model.specs.Books.{Books, FileRegister}
use Rattle.sv_model.specs.Steady.{Sound}
use Rattle.sv_model.proofs.Registers.{length-change}
use Rattle.sv_model.proofs.AfterLaws.{continues-itself}
use Rattle.sv_laws.specs.Captures.{IsGivenUp}
use Rattle.sv_laws.proofs.Settled.{marked-goes, marked-keeps, marked_is, marked-captures, settled-captured, settled_other, numbers-settled, marked-captured_numbers}
use Rattle.sv_laws.proofs.FileChanges.{files-changed}
use Rattle.sv_laws.proofs.Apart.{live_obsolete, obsolete_grabbed, obsolete_pending, pending_gone, pending_live}

pub given-up : (a b : Books) (k : Sound a) (f n : ℕ) → IsGivenUp a b f n → Sound b × After a b
given-up a b k f n h =
    let s = h.settled in
    let e : Books = record a { files = b.files } in
    subst (λ (z : Books). Sound z × After a z) (sym h.is) (files-changed a e k (record {
      numbers = numbers-settled f n Obsolete a.files b.files s k.lawful.numbers (λ q. obsolete_pending q)
          (λ q. obsolete_grabbed q);
      goes = marked-goes n Pending Obsolete a.files.numbers b.files.numbers s.numbers (λ q. pending_gone q);
      metas = continues-itself a.metas;
      metas_are = k.lawful.metas
          ∙ sym (marked-captured_numbers n Pending Obsolete a.files.numbers b.files.numbers s.numbers);
      cuts = k.lawful.cuts;
      clear = λ g m i. inl (record {
        captured_is = (settled_other f n Obsolete a.files b.files s g m.number i.captured_is).1;
        covered = i.covered;
      });
      next = omega (arith, ap (λ (F : FileRegister). F.next) s.rest);
      live = λ m. (
        λ w. marked-keeps n Pending Obsolete a.files.numbers b.files.numbers s.numbers m Live (λ q. pending_live (sym q)) w,
        λ w. ⊎_elim
            (λ o. o)
            (λ o. live_obsolete o.1)
            (marked_is n Pending Obsolete a.files.numbers b.files.numbers s.numbers m Live w),
      );
      few = omega (
        arith,
        k.lawful.limits.captured,
        marked-captures n Pending Obsolete a.files.numbers b.files.numbers s.numbers,
      );
      holds = subst (Every (λ i. i ≤ 255)) (ap (λ (F : FileRegister). F.holds) (sym s.rest)) k.lawful.limits.holds;
      lanes = ap (λ (F : FileRegister). length F.holds) s.rest ∙ k.steady.holds;
      jobs = omega (arith, k.lawful.limits.jobs, ap (λ (F : FileRegister). F.jobs) s.rest);
      families = ap length (settled-captured f n Obsolete a.files b.files s)
          ∙ length-change a.files.captured (suc f) None ∙ k.steady.captured;
      covers = λ g m w q i r. k.steady.covers g m w (settled_other f n Obsolete a.files b.files s g m q).1 i r;
      busy = λ g m q. k.steady.busy g m (settled_other f n Obsolete a.files b.files s g m q).1;
      awaited = λ g m i x q c. k.steady.awaited g m i x (settled_other f n Obsolete a.files b.files s g m q).1 c;
      is = refl;
    }))
