-- Work in hand, and files, at the opening.
use Rattle.std.proofs.Common.{Bool, List, None, Option, Some, [], ap, arith, false, inl, not, refl, suc, sym, true, zero, ℕ, ◌&&◌, ◌<◌, ◌==◌, ◌∙◌, ◌∷◌, ◌≡◌}
use mathlib.Core.Logic.{dite}
use native.Mathlib.Decide.{ℕ_discrete}
use Rattle.sv_model.specs.Books.{Books}
use Rattle.sv_model.specs.Files.{Files, file_of}
use Rattle.sv_model.specs.HeldFiles.{FilesHold, HasItsText}
use Rattle.sv_model.specs.Lists.{Every, In, bit, times, total, at}
use Rattle.sv_model.specs.Numbers.{having, is_grabbed, is_pending}
use Rattle.sv_model.specs.declared.records.FileStatus.{FileStatus}
use Rattle.sv_model.specs.declared.records.FileStatus.TheVariants.{Live}
use Rattle.sv_model.specs.declared.records.Top.{Top}
use Rattle.sv_model.proofs.AfterLaws.{after-itself}
use Rattle.sv_rule.specs.Begins.{FirstBooks}
use Rattle.sv_rule.specs.Blanks.{first_view}
use Rattle.sv_rule.specs.Held.{FilesHeld, Told}
use Rattle.sv_rule.specs.InHand.{Accounts, IsQuiet, WorkHeld}
use Rattle.sv_model.specs.Tasks.{marks_of, Mark, Output}
use Rattle.sv_rule.specs.Table.{number}
use Rattle.sv_rule.specs.UnderWay.{excepts}
use Rattle.sv_rule.specs.Views.{Disk, LaneView, Start, idle}
use Rattle.sv_rule.proofs.Basics.{each_one, every_none, some_is, true_not}
use Rattle.sv_rule.proofs.CurrentLaws.{get_lt}
use Rattle.sv_rule_seats.proofs.FirstBooks.{no_writes}
use Rattle.sv_rule_seats.proofs.SeatSplits.{accounts-none}
use Rattle.sv_rule_seats.proofs.SeatWork.{zero-cond}
use Rattle.sv_rule.proofs.Statuses.{having-has}
use Rattle.sv_rule.proofs.Sums.{same-else}

at-zeros : (l : List ℕ) → Every (λ h. h ≡ 0) l → (k : ℕ) → at 0 l k ≡ 0
at-zeros [] h k = refl
at-zeros (x ∷ l) h zero = h 0 x refl
at-zeros (x ∷ l) h (suc k) = at-zeros l (λ i y e. h (suc i) y e) k

no_output : (o : Output) → None ≡ Some o → ⊥
no_output o e = cc

module _ (lanes_made : ℕ) (b : Books) (d : Disk) (first : FirstBooks b d) where
  abbrev v : LaneView
  v = first_view lanes_made b d

  abbrev start : Start
  start = record { disk = d; books = b }

  none_such : (is : FileStatus → Bool) → is Live ≡ false → (n : ℕ) → having is n b.files.numbers ≡ 0
  none_such is not n = dite (ℕ_discrete (having is n b.files.numbers) 0) (λ z. z)
      (λ ne. let h = having-has is n b.files.numbers (omega (arith, ne)) in
      absurd (true_not (sym h.3.1 ∙ ap is (first.numbers h.0 h.1 h.2) ∙ not)))

  pub work-first : (number : ℕ → ℕ) → ((f : ℕ) → 0 < excepts f idle → ⊥) → WorkHeld b idle start d number (v ∷ [])
  work-first number nothing = record {
    outputs = λ n. sym (none_such is_pending refl n);
    metas = each_one (λ j x. (o : Output) → x.known.task.output ≡ Some o → In o.meta b.metas) v
        (λ o e. absurd (no_output o e));
    grabbed = λ n. sym (none_such is_grabbed refl n);
    jobs = sym first.opening.jobs;
    removed = λ n. omega arith;
    ended = λ n. omega arith;
    holds = λ k. omega (arith, zero-cond (0 == k) 0 refl, at-zeros b.files.holds first.opening.holds k);
    handles = λ k f pos. omega (
      arith,
      first.others k f pos,
      zero-cond (0 == k) (times f (0 ∷ [])) (omega (arith, same-else f 0 (λ e. omega (arith, pos, e)))),
    );
    default = first.default;
    own_default = each_one (λ j x. x.seat.spent ≡ false → times 0 x.known.task.handles ≡ 1) v (λ _. refl);
    spent = each_one (λ j x. x.seat.spent ≡ true → (x.known.task.holds ≡ 0)
        × ((f : ℕ) → times f x.known.task.handles ≡ 0)) v (λ e. absurd (true_not (sym e)));
    quiet = each_one (λ j x. x.seat.spent ≡ false → x.known.task.quiet ≡ true → IsQuiet b x.known.task) v
        (λ _ e. absurd (true_not (sym e)));
    loud = each_one (λ j x. x.known.task.quiet ≡ false → x.known.task.listed ≡ []) v (λ _. refl);
    currents = record {
      retired = λ f x t at on gone. absurd (true_not (sym gone
          ∙ ap (λ q. q && (total bit x.handles == 0)) (first.opening.stand f x at)));
      others = λ f x t at on none_now. absurd (some_none
          (sym (ap (λ (y : Top). y.current) (some_is (sym on ∙ first.opening.tops f x at))) ∙ none_now));
    };
    silent = λ f near excepted z. absurd (nothing f excepted);
    starts = each_one (λ j x. x.seat.spent ≡ false → x.known.start ≡ start) v (λ _. refl);
    accounts = each_one (λ j x. x.seat.spent ≡ false → Accounts b x.known) v
        (λ _. accounts-none b 0 start (0 ∷ []) first.lawful (after-itself b)
        (no_writes b first.opening 0 (omega arith)));
    joined = each_one (λ j x. Every (λ o. Accounts b o.known) x.joined) v (every_none (λ o. Accounts b o.known));
    opening = λ i w e. omega (arith, (first.opening.writes i w e).1);
    writes = λ i w e from. absurd (omega (arith, get_lt b.journal i w e, from));
    faults = inl (omega arith);
  }
    where
      some_none : {k : ℕ} → Some k ≡ None → ⊥
      some_none e = cc

  pub files-first : Told (λ p q. FilesHeld b p q (v ∷ [])) d.files d.files
  files-first = by d.files first.files
    where
      by : (o : Option Files) → ((files : Files) → o ≡ Some files → FilesHold b files files)
          → Told (λ p q. FilesHeld b p q (v ∷ [])) o o
      by None h = tt
      by (Some f) h = record {
        hold = h f refl;
        written = each_one (λ j x. (o : Output) → x.known.task.output ≡ Some o → o.written ≡ true
            → HasItsText b f o.meta.number) v (λ o e _. absurd (no_output o e));
        listed = each_one (λ j x. x.seat.spent ≡ false → Every (HasItsText b f) x.known.task.listed) v
            (λ _. every_none (HasItsText b f));
        taken = each_one (λ j x. Every (λ k. k.taken ≡ true → file_of k.number f ≡ None) (marks_of x.known.task.job))
            v (every_none (λ (k : Mark). k.taken ≡ true → file_of k.number f ≡ None));
      }
