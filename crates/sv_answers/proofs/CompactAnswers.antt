-- Compactions of the store, and the replies.
use Rattle.std.proofs.Common.{◌≡◌, ◌⊎◌, inl, inr, ⊎_elim, ℕ, Bool, true, false, List, [], ◌∷◌, Option, Some, None, refl, sym, ◌∙◌, subst}
use Rattle.std.specs.Prelude.{IfErr, IfOk, Result, Ok, Err, is_some, slice_get}
use Rattle.sv_model.specs.declared.records.FileMeta.{FileMeta}
use Rattle.sv_model.specs.declared.refusals.Refusal.{Refusal}
use Rattle.sv_model.specs.declared.refusals.Refusal.TheVariants as refusal
use Rattle.sv_model.specs.After.{After}
use Rattle.sv_model.specs.Books.{Books}
use Rattle.sv_model.specs.Described.{IsFileOf}
use Rattle.sv_model.specs.Files.{Files}
use Rattle.sv_model.specs.HeldFiles.{LiveAreHeld}
use Rattle.sv_model.specs.Lists.{In}
use Rattle.sv_model.specs.Moments.{WasCapturedFor}
use Rattle.sv_model.specs.Reads.{IsCapturedFor}
use Rattle.sv_model.specs.Refusals.{IsDue}
use Rattle.sv_model.specs.Registers.{Has}
use Rattle.sv_model.specs.Steady.{Sound}
use Rattle.sv_model.proofs.Entries.{in-right, some}
use Rattle.sv_laws.specs.Captures.{IsGivenUp, IsMergePlanned}
use Rattle.sv_laws.specs.Changes.{compacted, given_up, merge_planned}
use Rattle.sv_laws.proofs.Kept.{sound-kept}
use Rattle.sv_laws.proofs.OpenFamilies.{of_f, says}
use Rattle.sv_family.specs.Refused.{change_refusal}
use Rattle.sv_file_checks.specs.Checks.{ReadRefusal}
use Rattle.sv_files.specs.Calls.{capture_refusal}
use Rattle.sv_registry.specs.Calls.{make_refusal}
use Rattle.sv_outputs.specs.Putting.{OutputRefused}
use Rattle.sv_outputs.specs.Reading.{IsReached}
use Rattle.sv_state.specs.Follows.{Follows}
use Rattle.sv_state.specs.Planning.{MeantAt, busy_refusal, compact_refusal, compacts_nothing, only_if}
use Rattle.sv_store.specs.Compacting.{CompactRefused, Compacts, GivesUpMerge, StopsMerge}
use Rattle.sv_store.specs.Outputs.{IsPlanRefused}
use Rattle.sv_store.specs.Seen.{StoreSeen}
use Rattle.sv_store.specs.Standing.{IsStill}
use Rattle.sv_store.proofs.HeldLaws.{still-captured}
use Rattle.sv_script.specs.declared.commands.Command.{Command}
use Rattle.sv_script.specs.declared.commands.Command.TheVariants as command
use Rattle.sv_script.specs.declared.replies.Reply.{Reply}
use Rattle.sv_script.specs.declared.replies.Reply.TheVariants as reply
use Rattle.sv_replies.specs.Answers.{Answers, KnowsAll}
use Rattle.sv_replies.specs.CompactLaw.{CompactMet}
use Rattle.sv_replies.specs.Known.{Known}
use Rattle.sv_replies.specs.Moments.{WasMerged}
use Rattle.sv_replies.specs.ReplyFits.{ReplyFits}
use Rattle.sv_replies.specs.Settings.{Setting}
use Rattle.sv_replies.proofs.AfterLemmas.{all_made-later, captured-later, many_live-later}
use Rattle.sv_replies.proofs.AnswersLaws.{compact-answers, refused-answers}
use Rattle.sv_replies.proofs.CompactLemmas.{merge-planned}
use Rattle.sv_replies.proofs.MetLaws.{fits_met, through}
use Rattle.sv_replies.proofs.MomentLemmas.{was-merged-none, was-merged-one}
use Rattle.sv_answers.specs.Answered.{IsHeld, alone}
use Rattle.sv_answers.proofs.FamilyAnswers.{refused-same}
use Rattle.sv_answers.proofs.FlushAnswers.{captured-keeps, given-keeps, none-busy, refused-as}
use Rattle.sv_answers.proofs.HandleLemmas.{both, change-fits, meant-free, meant-handle}
use Rattle.sv_answers.proofs.MidAnswers.{answers-after, keeps-through, knows-kept}
use Rattle.sv_answers.proofs.RefusalCases.{due-or, first-or, is-all_numbered, is-full, last-due, test-due}
use Rattle.sv_answers.proofs.SetAnswers.{answers-cleaned}

-- ---- what its plan meets

module _ (told : Bool) (a : Books) (sound : Sound a) (still : IsStill a.files) (k : Known) (all : KnowsAll (alone told) a k) (name : List ℕ) where
  abbrev s : Setting
  s = alone told

  abbrev command_is : Command
  command_is = command.Compact name

  by-handle : (e : Refusal) → change_refusal a.families 0 name ≡ Some e → ReplyFits s a k command_is (reply.Refused e)
  by-handle e h =
      change-fits s a k all.knows all.own name command_is e h refl
      (λ f has dropped. through (k.handles name) f (CompactMet s a k refusal.Dropped) has dropped)

  module _ (m : MeantAt a 0 name) where
    merged : (files : List FileMeta) → m.version.files ≡ files → compacts_nothing a.journal a.snapshots m.family files ≡ true
        → WasMerged a m.family (k.families m.family).flushed
    merged [] is t = was-merged-none a m.family m.serial m.it sound m.is_open k all.knows m.version m.version_at is
    merged (x ∷ []) is t = was-merged-one a m.family m.serial m.it sound m.is_open k all.knows m.version x m.version_at is (both x.bottom.last _ t).0
    merged (x ∷ (y ∷ files)) is t = absurd (cc)

    nothing-left : (e : Refusal) → only_if (compacts_nothing a.journal a.snapshots m.family m.version.files) (Some refusal.NothingToCompact) ≡ Some e
        → CompactMet s a k e m.family
    nothing-left e h =
        let t = test-due (compacts_nothing a.journal a.snapshots m.family m.version.files) (Some refusal.NothingToCompact) e h in
        let same : refusal.NothingToCompact ≡ e = (let q : Some refusal.NothingToCompact ≡ Some e = t.1 in cc) in
        subst (λ z. CompactMet s a k z m.family) same (merged m.version.files refl t.0)

    none-left : (e : Refusal) → capture_refusal a.files ≡ Some e → CompactMet s a k e m.family
    none-left e h = let z = is-all_numbered a e h in subst (λ y. CompactMet s a k y m.family) (sym z.0) z.1

    moment : (e : Refusal) → compact_refusal a m ≡ Some e → CompactMet s a k e m.family
    moment e h =
        let busy = busy_refusal (slice_get a.files.captured m.family) in
        let nothing = only_if (compacts_nothing a.journal a.snapshots m.family m.version.files) (Some refusal.NothingToCompact) in
        ⊎_elim
        (λ q. absurd (none-busy a.files still m.family e q))
        (λ q. ⊎_elim (nothing-left e) (λ r. none-left e (last-due (capture_refusal a.files) e r)) (first-or nothing (capture_refusal a.files ∷ []) e q))
        (first-or busy (nothing ∷ capture_refusal a.files ∷ []) e h)

  pub plan-fits : (e : Refusal) → IsPlanRefused a name (compact_refusal a) e → ReplyFits s a k command_is (reply.Refused e)
  plan-fits e h = ⊎_elim
      (by-handle e)
      (λ w. ⊎_elim
      (λ out. subst (λ z. ReplyFits s a k command_is (reply.Refused z)) (sym out) tt)
      (λ q. fits_met s a k command_is e (meant-free s a k all.knows all.own name w.0 command_is refl)
      (through (k.handles name) w.0.family (CompactMet s a k e) (meant-handle s a k all.knows all.own name w.0) (moment w.0 e q)))
      (due-or (compact_refusal a w.0) e w.1))
      h

-- ---- it stops after its plan

-- a file that was reached is one of the files
reached-in : (told : Option Files) (files : List FileMeta) (file : FileMeta) → IsReached told files file → In file files
reached-in told files file r =
    subst (λ (l : List FileMeta). In file l) (sym r.stands) (in-right file r.older (file ∷ r.newer) (record { at = 0; is = refl }))

untold : (told : Option Files) → ((all : Files) → told ≡ Some all → ⊥) → is_some told ≡ false
untold None none = refl
untold (Some all) none = absurd (none all refl)

module _ (told now : Option Files) (a b : Books) (sound : Sound a) (after : After a b) (held : IsHeld a told) (k : Known) (f : ℕ) (file : FileMeta) (mid : Books)
    (planned : IsMergePlanned a mid f file) (given : IsGivenUp mid b f file.number) where
  abbrev met : Refusal → Type 0
  met e = (e ≡ refusal.OutOfMemory) ⊎ CompactMet (alone (is_some told)) b k e f

  -- each file of the Version was captured for the family
  captured-in : (x : FileMeta) → In x planned.version.files → WasCapturedFor b f x.number
  captured-in x has =
      let d = says a sound f planned.s planned.c planned.is_open in
      let version = some (sym planned.version_at ∙ d.version_at) in
      let there = subst (λ v. In x v.files) version has in
      let it : IsFileOf a.files.numbers a.metas planned.c.descriptor.family x = d.files.each there.at x there.is in
      captured-later a b f x.number after
      (subst (λ g. Has (IsCapturedFor g x.number) a.files.numbers) (of_f a sound f planned.s planned.c planned.is_open) it.captured)

  -- and so was the number that is given up
  given-later : After mid b
  given-later = (sound-kept mid b (sound-kept a mid sound (merge_planned f file planned)).0 (given_up f file.number given)).1

  read-met : (x : FileMeta) → In x planned.version.files → (e : Refusal) → ReadRefusal told x e
      → ((all : Files) → told ≡ Some all → LiveAreHeld a all → (number place : ℕ) → e ≡ refusal.BadFile number place → ⊥) → met e
  read-met x has (refusal.DirFault n) r good = inr (subst (WasCapturedFor b f) (sym r) (captured-in x has))
  read-met x has (refusal.BadFile n place) r good =
      inr (untold told (λ all is. good all is (held all is) n place refl), subst (WasCapturedFor b f) (sym r.0) (captured-in x has))
  read-met x has refusal.OutOfMemory r good = inl refl
  read-met x has e r good = absurd r

  put-met : (e : Refusal) → OutputRefused file.number told now e → met e
  put-met e h = ⊎_elim
      (λ out. inl out)
      (λ q. inr (subst (λ z. CompactMet (alone (is_some told)) b k z f) (sym q) (still-captured a mid f file planned.captured b given-later)))
      (refused-as file.number told now e h)

  full-met : (e : Refusal) → IsDue (make_refusal mid.supers) e → met e
  full-met e h = ⊎_elim
      (λ out. inl out)
      (λ q. ⊎_elim
      (λ z. inr (subst (λ y. CompactMet (alone (is_some told)) b k y f) (sym z.0) (inl (all_made-later mid b given-later z.1))))
      (λ z. inr (subst (λ y. CompactMet (alone (is_some told)) b k y f) (sym z.0) (many_live-later mid b given-later z.1)))
      (is-full mid e q))
      (due-or (make_refusal mid.supers) e h)

  merge-met : (e : Refusal) → StopsMerge a planned.version.files file told now e → met e
  merge-met e h = ⊎_elim
      (λ r. read-met r.0.file (reached-in told planned.version.files r.0.file r.0.reached) e r.0.refused h.held)
      (λ r. put-met e r.1)
      h.refused

module _ (told now : Option Files) (a b : StoreSeen) (next : Follows a.books b.books) (sound : Sound a.books) (held : IsHeld a.books told) (k : Known)
    (all : KnowsAll (alone (is_some told)) a.books k) (name : List ℕ) where
  stop-met : (e : Refusal) (f : ℕ) → GivesUpMerge a.books b.books told now f e → (e ≡ refusal.OutOfMemory) ⊎ CompactMet (alone (is_some told)) b.books k e f
  stop-met e f w = ⊎_elim
      (merge-met told now a.books b.books sound next.after held k f w.file w.mid w.planned w.given_up e)
      (λ z. full-met told now a.books b.books sound next.after held k f w.file w.mid w.planned w.given_up e z.1)
      w.why

  stop-answers : (e : Refusal) (m : MeantAt a.books 0 name) → GivesUpMerge a.books b.books told now m.family e
      → Answers (alone (is_some told)) a.books b.books k (command.Compact name) (reply.Refused e)
  stop-answers e m w =
      let s = alone (is_some told) in
      refused-answers s a.books b.books k (command.Compact name) e all next.after
      (keeps-through 0 a.books w.mid b.books (captured-keeps 0 m.family a.books w.mid w.file w.planned.captured)
      (given-keeps 0 m.family w.file.number w.mid b.books w.given_up))
      (⊎_elim
      (λ out. subst (λ z. ReplyFits s b.books k (command.Compact name) (reply.Refused z)) (sym out) tt)
      (λ met. fits_met s b.books k (command.Compact name) e (meant-free s a.books k all.knows all.own name m (command.Compact name) refl)
      (through (k.handles name) m.family (CompactMet s b.books k e) (meant-handle s a.books k all.knows all.own name m) met))
      (stop-met e m.family w))

  done-answers : (file : FileMeta) → Compacts a.books b.books told now name file
      → Answers (alone (is_some told)) a.books b.books k (command.Compact name) (reply.Compact file.number file.from file.to)
  done-answers file h =
      let s = alone (is_some told) in
      let c = command.Compact name in
      let r = reply.Compact file.number file.from file.to in
      let f = h.meant.family in
      let w = h.merges in
      let x = w.renews.mid in
      let begun = sound-kept a.books w.mid sound (merge_planned f file w.planned) in
      let ended = sound-kept w.mid x begun.0 (compacted f file w.renews.is) in
      let keeps = captured-keeps 0 f a.books w.mid file w.planned.captured in
      let at_mid = knows-kept s a.books w.mid k keeps begun.1 all in
      let has = meant-handle s a.books k all.knows all.own name h.meant in
      let none = meant-free s a.books k all.knows all.own name h.meant c refl in
      answers-after s a.books w.mid k keeps begun.1 b.books c r
      (answers-cleaned (is_some told) w.mid x b.books k at_mid ended.0 ended.1 w.renews.goes.s w.renews.goes.x w.renews.goes.cleaned c r
      (compact-answers s w.mid x k f file begun.0 at_mid ended.1 name has w.renews.is (merge-planned a.books w.mid f file k all.knows w.planned) none))

abbrev pub compact_replied : Result FileMeta Refusal → Reply
compact_replied (Ok file) = reply.Compact file.number file.from file.to
compact_replied (Err e) = reply.Refused e

pub compact-replies : (told now : Option Files) (a b : StoreSeen) → Follows a.books b.books → Sound a.books → IsStill a.books.files → IsHeld a.books told
    → (k : Known) → KnowsAll (alone (is_some told)) a.books k → (name : List ℕ) (r : Result FileMeta Refusal)
    → IfOk r (Compacts a.books b.books told now name) → IfErr r (CompactRefused a b told now name)
    → Answers (alone (is_some told)) a.books b.books k (command.Compact name) (compact_replied r)
compact-replies told now a b next sound still held k all name (Ok file) done stopped = done-answers told now a b next sound held k all name file done
compact-replies told now a b next sound still held k all name (Err e) done stopped = ⊎_elim
    (λ w. refused-same (is_some told) a b next k all (command.Compact name) e w.same (plan-fits (is_some told) a.books sound still k all name e w.due))
    (λ w. stop-answers told now a b next sound held k all name e w.meant w.stops)
    stopped
