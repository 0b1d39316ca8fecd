-- Flushes of the store, and the replies. A switch comes first, and the SuperVersion before goes at once.
use Rattle.std.proofs.Common.{◌≡◌, ◌==◌, ◌&&◌, ◌⊎◌, inl, inr, ⊎_elim, ℕ, Bool, true, false, List, [], ◌∷◌, length, Option, Some, None, refl, sym, ap, subst, arith}
use Rattle.std.specs.Prelude.{IfErr, IfOk, Result, Ok, Err, nat_le, nat_lt, slice_get}
use Rattle.std.proofs.lemmas.Bool.Decides.{nat_tests}
use Rattle.sv_model.specs.declared.records.FileMeta.{FileMeta}
use Rattle.sv_model.specs.declared.refusals.Refusal.{Refusal}
use Rattle.sv_model.specs.declared.refusals.Refusal.TheVariants as refusal
use Rattle.sv_model.specs.declared.limits.TheConstants.{MAX_SUPERS}
use Rattle.sv_model.specs.Books.{Books, FileRegister}
use Rattle.sv_model.specs.Files.{Files}
use Rattle.sv_model.specs.Refusals.{first_due}
use Rattle.sv_model.specs.Steady.{Sound}
use Rattle.sv_model.proofs.AfterLaws.{after-through}
use Rattle.sv_model.proofs.Basics.{none_some}
use Rattle.sv_cells.specs.Calls.{memtables_refusal}
use Rattle.sv_files.specs.Calls.{capture_refusal}
use Rattle.sv_registry.specs.Calls.{full_refusal, make_refusal}
use Rattle.sv_laws.specs.Captures.{IsFileCaptured, IsGivenUp}
use Rattle.sv_laws.specs.Changes.{flush_begun, flushed, given_up}
use Rattle.sv_laws.proofs.Kept.{sound-kept}
use Rattle.sv_state.specs.Follows.{Follows}
use Rattle.sv_state.specs.Planning.{MeantAt, active_rows, all_made_refusal, busy_refusal, flush_refusal, nothing_refusal, only_if}
use Rattle.sv_outputs.specs.Putting.{OutputRefused}
use Rattle.sv_store.specs.Emptying.{Empties, SwitchesIf, rows_at}
use Rattle.sv_store.specs.Flushing.{FlushRefused, Flushes, GivesUpFlush, StopsAfter}
use Rattle.sv_store.specs.Outputs.{IsPlanRefused}
use Rattle.sv_store.specs.Seen.{StoreSeen}
use Rattle.sv_store.specs.Standing.{IsStill, Rests}
use Rattle.sv_store.proofs.EmptiedFamilies.{emptied-follows}
use Rattle.sv_store.proofs.HeldLaws.{still-captured}
use Rattle.sv_script.specs.declared.commands.Command.{Command}
use Rattle.sv_script.specs.declared.commands.Command.TheVariants as command
use Rattle.sv_script.specs.declared.replies.Reply.{Reply}
use Rattle.sv_script.specs.declared.replies.Reply.TheVariants as reply
use Rattle.sv_replies.specs.Answers.{Answers, KnowsAll}
use Rattle.sv_replies.specs.Due.{due}
use Rattle.sv_replies.specs.FlushLaw.{FlushMet}
use Rattle.sv_replies.specs.Known.{Known}
use Rattle.sv_replies.specs.PlannedFlush.{IsPlannedFor}
use Rattle.sv_replies.specs.ReplyFits.{ReplyFits}
use Rattle.sv_replies.specs.Settings.{Setting}
use Rattle.sv_replies.proofs.AnswersLaws.{KeepsAll, flush-answers, keeps-books, keeps-same, refused-answers}
use Rattle.sv_replies.proofs.MetLaws.{fits_met, refusal-later, through}
use Rattle.sv_replies.proofs.MomentLemmas.{was-flushed}
use Rattle.sv_answers.specs.Answered.{alone}
use Rattle.sv_answers.proofs.FamilyAnswers.{refused-same}
use Rattle.sv_answers.proofs.HandleLemmas.{both, change-fits, meant-free, meant-handle}
use Rattle.sv_answers.proofs.MidAnswers.{answers-after, keeps-through, knows-kept}
use Rattle.sv_answers.proofs.RefusalCases.{due-or, first-or, is-all_numbered, is-full, is-many_live, is-many_memtables, last-due, test-due}
use Rattle.sv_answers.proofs.SetAnswers.{answers-cleaned}
use Rattle.sv_answers.proofs.WriteAnswers.{switched-keeps}

-- ---- what the steps of a flush keep

emptied-keeps : (lane f : ℕ) (a b : Books) → Empties a b f → KeepsAll lane a b
emptied-keeps lane f a b e = by (nat_lt 0 (rows_at a e.it)) e.switched
  where
    by : (t : Bool) → SwitchesIf t f a b → KeepsAll lane a b
    by true w = switched-keeps lane f a b w
    by false same = subst (λ (z : Books). KeepsAll lane a z) (sym same) (keeps-same lane a)

pub captured-keeps : (lane f : ℕ) (a b : Books) (file : FileMeta) → IsFileCaptured a b f file → KeepsAll lane a b
captured-keeps lane f a b file c =
    keeps-books lane a b (ap (λ (z : Books). z.families) c.is) (ap (λ (z : Books). z.files.holds) c.is)
    (ap (λ (z : Books). z.journal) c.is) (ap (λ (z : Books). z.snapshots) c.is)

pub given-keeps : (lane f number : ℕ) (a b : Books) → IsGivenUp a b f number → KeepsAll lane a b
given-keeps lane f number a b g =
    keeps-books lane a b (ap (λ (z : Books). z.families) g.is) (ap (λ (z : FileRegister). z.holds) g.settled.rest)
    (ap (λ (z : Books). z.journal) g.is) (ap (λ (z : Books). z.snapshots) g.is)

-- ---- refusals of the plan

zero-is : (n : ℕ) → (n == 0) ≡ true → n ≡ 0
zero-is n h = grind (arith, nat_tests, h)

both-zero : (r n : ℕ) → ((r == 0) && (n == 0)) ≡ true → (r ≡ 0) × (n ≡ 0)
both-zero r n h = let t = both (r == 0) (n == 0) h in (zero-is r t.0, zero-is n t.1)

-- nothing is under way, so none is Busy
pub none-busy : (files : FileRegister) → IsStill files → (f : ℕ) (e : Refusal) → busy_refusal (slice_get files.captured f) ≡ Some e → ⊥
none-busy files still f e h = by (slice_get files.captured f) refl h
  where
    by : (o : Option (Option ℕ)) → slice_get files.captured f ≡ o → busy_refusal o ≡ Some e → ⊥
    by (Some (Some n)) at is = none_some n (sym (still.idle f (Some n) at))
    by (Some None) at is = none_some e is
    by None at is = none_some e is

module _ (told : Bool) (a : Books) (sound : Sound a) (still : IsStill a.files) (k : Known) (all : KnowsAll (alone told) a k) (name : List ℕ) (m : MeantAt a 0 name) where
  abbrev IsMet : Refusal → Type 0
  IsMet e = FlushMet (alone told) a k e m.family

  nothing : (e : Refusal) → nothing_refusal (active_rows a m) (length m.list.members) ≡ Some e → IsMet e
  nothing e h =
      let t = test-due ((active_rows a m == 0) && (length m.list.members == 0)) (Some refusal.NothingToFlush) e h in
      let same : refusal.NothingToFlush ≡ e = (let q : Some refusal.NothingToFlush ≡ Some e = t.1 in cc) in
      let z = both-zero (active_rows a m) (length m.list.members) t.0 in
      subst IsMet same (was-flushed a m.family m.serial m.it sound m.is_open k all.knows m.list m.list_at z.1 z.0)

  numbered : (e : Refusal) → capture_refusal a.files ≡ Some e → IsMet e
  numbered e h = let z = is-all_numbered a e h in subst IsMet (sym z.0) z.1

  many : (e : Refusal) → memtables_refusal a.memtables ≡ Some e → IsMet e
  many e h = let z = is-many_memtables a e h in subst IsMet (sym z.0) z.1

  live : (e : Refusal) → full_refusal a.supers ≡ Some e → IsMet e
  live e h = let z = is-many_live a e h in subst IsMet (sym z.0) z.1

  made : (e : Refusal) → all_made_refusal a.supers ≡ Some e → IsMet e
  made e h =
      let t = test-due (nat_le MAX_SUPERS (length a.supers)) (Some refusal.RegisterFull) e h in
      let same : refusal.RegisterFull ≡ e = (let q : Some refusal.RegisterFull ≡ Some e = t.1 in cc) in
      subst IsMet same (inl (let far = t.0 in grind arith))

  -- where a switch is due
  room : (e : Refusal) → first_due (all_made_refusal a.supers ∷ memtables_refusal a.memtables ∷ full_refusal a.supers ∷ []) ≡ Some e → IsMet e
  room e h = ⊎_elim (made e)
      (λ r. ⊎_elim (many e) (λ t. live e (last-due (full_refusal a.supers) e t)) (first-or (memtables_refusal a.memtables) (full_refusal a.supers ∷ []) e r))
      (first-or (all_made_refusal a.supers) (memtables_refusal a.memtables ∷ full_refusal a.supers ∷ []) e h)

  flush-met : (e : Refusal) → flush_refusal a m ≡ Some e → IsMet e
  flush-met e h =
      let switch = first_due (all_made_refusal a.supers ∷ memtables_refusal a.memtables ∷ full_refusal a.supers ∷ []) in
      let last = only_if (nat_lt 0 (active_rows a m)) switch in
      let empty = nothing_refusal (active_rows a m) (length m.list.members) in
      ⊎_elim (λ q. absurd (none-busy a.files still m.family e q))
      (λ r. ⊎_elim (nothing e)
      (λ t. ⊎_elim (numbered e)
      (λ u. room e (test-due (nat_lt 0 (active_rows a m)) switch e (last-due last e u)).1)
      (first-or (capture_refusal a.files) (last ∷ []) e t))
      (first-or empty (capture_refusal a.files ∷ last ∷ []) e r))
      (first-or (busy_refusal (slice_get a.files.captured m.family)) (empty ∷ capture_refusal a.files ∷ last ∷ []) e h)

-- ---- the whole

abbrev pub flush_replied : Result FileMeta Refusal → Reply
flush_replied (Ok file) = reply.Flush file.number file.from file.to
flush_replied (Err e) = reply.Refused e

pub refused-as : (number : ℕ) (before after : Option Files) (e : Refusal) → OutputRefused number before after e
    → (e ≡ refusal.OutOfMemory) ⊎ (e ≡ refusal.DirFault number)
refused-as number before after (refusal.DirFault n) h = inr (ap refusal.DirFault h.0)
refused-as number before after refusal.OutOfMemory h = inl refl
refused-as number before after e h = absurd h

module _ (told : Bool) (a b : StoreSeen) (rests : Rests a.books a.cells) (next : Follows a.books b.books) (k : Known) (all : KnowsAll (alone told) a.books k) (name : List ℕ)
    (F G : Option Files) where
  abbrev s : Setting
  s = alone told

  abbrev c : Command
  c = command.Flush name

  sound : Sound a.books
  sound = rests.stands.sound

  module _ (m : MeantAt a.books 0 name) where
    has : k.handles name ≡ Some m.family
    has = meant-handle s a.books k all.knows all.own name m

    free : due k c ≡ None
    free = meant-free s a.books k all.knows all.own name m c refl

  out-fits : (e : Refusal) → e ≡ refusal.OutOfMemory → (d : Books) → ReplyFits s d k c (reply.Refused e)
  out-fits e q d = subst (λ z. ReplyFits s d k c (reply.Refused z)) (sym q) tt

  met-fits : (d : Books) (e : Refusal) (m : MeantAt a.books 0 name) → FlushMet s d k e m.family → ReplyFits s d k c (reply.Refused e)
  met-fits d e m met = fits_met s d k c e (free m) (through (k.handles name) m.family (FlushMet s d k e) (has m) met)

  -- ---- refused by the plan

  by-plan : (e : Refusal) → IsPlanRefused a.books name (flush_refusal a.books) e → ReplyFits s a.books k c (reply.Refused e)
  by-plan e h = ⊎_elim
      (λ q. change-fits s a.books k all.knows all.own name c e q refl
      (λ f handle dropped. through (k.handles name) f (FlushMet s a.books k refusal.Dropped) handle dropped))
      (λ w. ⊎_elim (λ q. out-fits e q a.books)
      (λ q. met-fits a.books e w.0 (flush-met told a.books sound rests.still k all name w.0 e q))
      (due-or (flush_refusal a.books w.0) e w.1))
      h

  -- ---- stopped later

  stopped : (e : Refusal) → KeepsAll 0 a.books b.books → ReplyFits s b.books k c (reply.Refused e) → Answers s a.books b.books k c (reply.Refused e)
  stopped e keeps fits = refused-answers s a.books b.books k c e all next.after keeps fits

  given : (e : Refusal) (m : MeantAt a.books 0 name) (ready : Books) → Empties a.books ready m.family → GivesUpFlush ready b.books F G m.family e
      → Answers s a.books b.books k c (reply.Refused e)
  given e m ready empties h =
      let f = m.family in
      let captured = h.begins.begun.captured in
      let begun = sound-kept ready h.mid (emptied-follows a.books ready f sound empties).sound (flush_begun f h.file h.begins.begun) in
      let later = (sound-kept h.mid b.books begun.0 (given_up f h.file.number h.given_up)).1 in
      stopped e
      (keeps-through 0 a.books h.mid b.books
      (keeps-through 0 a.books ready h.mid (emptied-keeps 0 f a.books ready empties) (captured-keeps 0 f ready h.mid h.file captured))
      (given-keeps 0 f h.file.number h.mid b.books h.given_up))
      (⊎_elim
      (λ w. ⊎_elim (λ q. out-fits e q b.books)
      (λ q. met-fits b.books e m (subst (λ z. FlushMet s b.books k z f) (sym q) (still-captured ready h.mid f h.file captured b.books later)))
      (refused-as h.file.number F G e w))
      (λ w. ⊎_elim (λ q. out-fits e q b.books)
      (λ q. refusal-later s h.mid b.books k later c e (met-fits h.mid e m (⊎_elim
      (λ z. subst (λ y. FlushMet s h.mid k y f) (sym z.0) (inl z.1))
      (λ z. subst (λ y. FlushMet s h.mid k y f) (sym z.0) z.1)
      (is-full h.mid e q))))
      (due-or (make_refusal h.mid.supers) e w.1))
      h.why)

  stop : (e : Refusal) (m : MeantAt a.books 0 name) → StopsAfter a.books b.books F G m.family e → Answers s a.books b.books k c (reply.Refused e)
  stop e m h = ⊎_elim
      (λ z. stopped e (subst (λ (y : Books). KeepsAll 0 a.books y) (sym z.books) (emptied-keeps 0 m.family a.books h.ready h.empties)) (out-fits e z.memory b.books))
      (λ z. given e m h.ready h.empties z)
      h.stops

  -- ---- done

  done : (file : FileMeta) → Flushes a.books b.books F G name file → Answers s a.books b.books k c (reply.Flush file.number file.from file.to)
  done file h =
      let f = h.meant.family in
      let ready = h.flushed.ready in
      let l = h.flushed.flushes in
      let w = l.renews in
      let first = emptied-follows a.books ready f sound h.flushed.empties in
      let keeps_ready = emptied-keeps 0 f a.books ready h.flushed.empties in
      let at_ready = knows-kept s a.books ready k keeps_ready first.after all in
      let begun = sound-kept ready l.mid first.sound (flush_begun f file l.begins.begun) in
      let keeps_mid = captured-keeps 0 f ready l.mid file l.begins.begun.captured in
      let at_mid = knows-kept s ready l.mid k keeps_mid begun.1 at_ready in
      let put = sound-kept l.mid w.mid begun.0 (flushed f file w.is) in
      let planned : IsPlannedFor k f file = record {
        later = omega (arith, l.begins.whole, (at_ready.knows.families f).seen);
        newer = omega (arith, l.begins.begun.captured.number_is, at_ready.knows.file);
      } in
      let r = reply.Flush file.number file.from file.to in
      answers-after s a.books l.mid k (keeps-through 0 a.books ready l.mid keeps_ready keeps_mid)
      (after-through a.books ready l.mid first.after begun.1) b.books c r
      (answers-cleaned told l.mid w.mid b.books k at_mid put.0 put.1 w.goes.s w.goes.x w.goes.cleaned c r
      (flush-answers s l.mid w.mid k f file begun.0 at_mid put.1 name (has h.meant) w.is planned (free h.meant)))

  pub flush-replies : (r : Result FileMeta Refusal) → IfOk r (Flushes a.books b.books F G name) → IfErr r (FlushRefused a b F G name)
      → Answers s a.books b.books k c (flush_replied r)
  flush-replies (Ok file) flushes refused = done file flushes
  flush-replies (Err e) flushes refused = ⊎_elim
      (λ h. refused-same told a b next k all c e h.same (by-plan e h.due))
      (λ h. stop e h.meant h.stops)
      refused
