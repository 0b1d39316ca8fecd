-- A put or a delete of the store, and the reply.
use Rattle.std.proofs.Common.{◌≡◌, ◌⊎◌, inl, inr, ⊎_elim, ℕ, Bool, true, false, List, [], ◌∷◌, length, Some, None, refl, sym, ◌∙◌, ap, subst, arith}
use Rattle.std.specs.Prelude.{Result, Ok, Err, nat_le}
use Rattle.sv_model.specs.declared.refusals.Refusal.{Refusal}
use Rattle.sv_model.specs.declared.refusals.Refusal.TheVariants as refusal
use Rattle.sv_model.specs.declared.writes.Op.{Op}
use Rattle.sv_model.specs.declared.writes.Row.{Row}
use Rattle.sv_model.specs.declared.writes.Write.{Write}
use Rattle.sv_model.specs.declared.limits.TheConstants.{MAX_WRITES}
use Rattle.sv_model.specs.After.{After}
use Rattle.sv_model.specs.Books.{Books}
use Rattle.sv_model.specs.Journal.{of_family}
use Rattle.sv_model.specs.Reads.{IsWrite}
use Rattle.sv_model.specs.Steady.{Sound}
use Rattle.sv_laws.specs.Changes.{written}
use Rattle.sv_laws.specs.Writes.{IsWritten}
use Rattle.sv_laws.proofs.Kept.{sound-kept}
use Rattle.sv_laws.proofs.OpenFamilies.{in-range}
use Rattle.sv_cells.specs.Calls.{memtables_refusal}
use Rattle.sv_family.specs.Refused.{change_refusal}
use Rattle.sv_journal.specs.Calls.{journal_refusal}
use Rattle.sv_registry.specs.Calls.{make_refusal}
use Rattle.sv_state.specs.Follows.{Follows}
use Rattle.sv_state.specs.Planning.{MeantAt, active_rows, is_switch_due, only_if, stall_refusal, switch_due, write_refusal}
use Rattle.sv_state.specs.Writing.{write_of}
use Rattle.sv_store.specs.Seen.{StoreSeen}
use Rattle.sv_store.specs.Writing.{Accepts, IsSwitchAlone, PutsAs, StopsAs, Switches, Writes}
use Rattle.sv_store.proofs.EmptiedFamilies.{switch-follows}
use Rattle.sv_script.specs.declared.commands.Command.{Command}
use Rattle.sv_script.specs.declared.replies.Reply.{Reply}
use Rattle.sv_script.specs.declared.replies.Reply.TheVariants as reply
use Rattle.sv_replies.specs.Answers.{Answers, KnowsAll}
use Rattle.sv_replies.specs.Due.{due, dropped_cause, first_of, handle_cause}
use Rattle.sv_replies.specs.Known.{Known}
use Rattle.sv_replies.specs.PutLaw.{WriteMet}
use Rattle.sv_replies.specs.ReplyFits.{Met, MayRunOut, ReplyFits}
use Rattle.sv_replies.specs.Settings.{Setting}
use Rattle.sv_replies.proofs.AnswersLaws.{KeepsAll, keeps-books, keeps-same, refused-answers}
use Rattle.sv_replies.proofs.MetLaws.{fits_met}
use Rattle.sv_replies.proofs.MomentLemmas.{was-stalled}
use Rattle.sv_answers.specs.Answered.{alone}
use Rattle.sv_answers.proofs.HandleLemmas.{change-fits, meant-free, meant-handle}
use Rattle.sv_answers.proofs.MidAnswers.{answers-after, knows-kept}
use Rattle.sv_answers.proofs.RefusalCases.{due-or, first-or, is-full, is-many_memtables, last-due, test-due}

-- ---- a switch keeps what lanes have of their own

pub switched-keeps : (lane f : ℕ) (a b : Books) → Switches f a b → KeepsAll lane a b
switched-keeps lane f a b w =
    let i = w.is.is in
    let g = w.goes.cleaned.is in
    keeps-books lane a b
    (ap (λ (z : Books). z.families) g ∙ ap (λ (z : Books). z.families) i)
    (ap (λ (z : Books). z.files.holds) g ∙ ap (λ (z : Books). z.files.holds) i)
    (ap (λ (z : Books). z.journal) g ∙ ap (λ (z : Books). z.journal) i)
    (ap (λ (z : Books). z.snapshots) g ∙ ap (λ (z : Books). z.snapshots) i)

-- ---- refusals of the moment

module _ (told : Bool) (a : Books) (sound : Sound a) (k : Known) (all : KnowsAll (alone told) a k) (name : List ℕ) (m : MeantAt a 0 name) where
  stalled : (e : Refusal) → stall_refusal (length m.list.members) m.is_open.family.options.max_immutable ≡ Some e
      → WriteMet a k e m.family
  stalled e h =
      let t = test-due (nat_le m.is_open.family.options.max_immutable (length m.list.members)) (Some refusal.Stalled) e h in
      let same : refusal.Stalled ≡ e = (let q : Some refusal.Stalled ≡ Some e = t.1 in cc) in
      let least = (in-range a sound m.family m.serial m.it m.is_open).lists_least in
      subst (λ z. WriteMet a k z m.family) same
      (was-stalled a m.family m.serial m.it sound m.is_open k all.knows m.list m.list_at (let many = t.0 in grind arith))

  full : (e : Refusal) → make_refusal a.supers ≡ Some e → WriteMet a k e m.family
  full e h = ⊎_elim
      (λ z. subst (λ y. WriteMet a k y m.family) (sym z.0) z.1)
      (λ z. subst (λ y. WriteMet a k y m.family) (sym z.0) z.1)
      (is-full a e h)

  many : (e : Refusal) → memtables_refusal a.memtables ≡ Some e → WriteMet a k e m.family
  many e h = let z = is-many_memtables a e h in subst (λ y. WriteMet a k y m.family) (sym z.0) z.1

  journal-full : (e : Refusal) → journal_refusal a.journal ≡ Some e → WriteMet a k e m.family
  journal-full e h =
      let t = test-due (nat_le MAX_WRITES (length a.journal)) (Some refusal.JournalFull) e h in
      let same : refusal.JournalFull ≡ e = (let q : Some refusal.JournalFull ≡ Some e = t.1 in cc) in
      subst (λ z. WriteMet a k z m.family) same (let far = t.0 in grind arith)

  pub write-met : (e : Refusal) → write_refusal a m ≡ Some e → WriteMet a k e m.family
  write-met e h =
      let most = m.is_open.family.options.max_immutable in
      let switch_is = is_switch_due (active_rows a m) m.is_open.family.options in
      let stall = stall_refusal (length m.list.members) most in
      let all_due = switch_due a.supers a.memtables (length m.list.members) most in
      ⊎_elim
      (journal-full e)
      (λ q.
      let d = (test-due switch_is all_due e (last-due (only_if switch_is all_due) e q)).1 in
      ⊎_elim (stalled e)
      (λ r. ⊎_elim (many e) (λ t. full e (last-due (make_refusal a.supers) e t)) (first-or (memtables_refusal a.memtables) (make_refusal a.supers ∷ []) e r))
      (first-or stall (memtables_refusal a.memtables ∷ make_refusal a.supers ∷ []) e d))
      (first-or (journal_refusal a.journal) (only_if switch_is all_due ∷ []) e h)

-- ---- a command that asks for a write

-- what is so of the command
pub record IsWriteOf (told : Bool) (c : Command) (name key : List ℕ) (o : Op) (number : ℕ → Reply) : Type 0 where
  pub due_is : (k : Known) → due k c ≡ first_of (handle_cause k name ∷ dropped_cause k name ∷ [])
  pub met : (b : Books) (k : Known) (e : Refusal) (f : ℕ) → k.handles name ≡ Some f → WriteMet b k e f → Met (alone told) b k c e
  pub out : MayRunOut c
  pub answers : (a b : Books) (k : Known) (f : ℕ) (w : Write) (n : ℕ) → KnowsAll (alone told) a k → After a b → IsWritten a b f w
      → k.handles name ≡ Some f → due k c ≡ None → IsWrite 0 key o w → n ≡ length (of_family f b.journal)
      → Answers (alone told) a b k c (number n)

abbrev pub replied : (ℕ → Reply) → Result ℕ Refusal → Reply
replied number (Ok n) = number n
replied number (Err e) = reply.Refused e

stop-or : (a b : StoreSeen) (name : List ℕ) (e : Refusal) → StopsAs a b name e
    → (b ≡ a) ⊎ ((e ≡ refusal.OutOfMemory) × IsSwitchAlone a.books b.books name)
stop-or a b name refusal.OutOfMemory h = ⊎_elim (λ q. inl q) (λ w. inr (refl, w)) h
stop-or a b name e h = inl h

module _ (told : Bool) (a b : StoreSeen) (sound : Sound a.books) (next : Follows a.books b.books) (k : Known) (all : KnowsAll (alone told) a.books k)
    (c : Command) (name key : List ℕ) (o : Op) (number : ℕ → Reply) (is : IsWriteOf told c name key o number) where
  abbrev s : Setting
  s = alone told

  out-fits : (e : Refusal) → e ≡ refusal.OutOfMemory → ReplyFits s b.books k c (reply.Refused e)
  out-fits e q = subst (λ z. ReplyFits s b.books k c (reply.Refused z)) (sym q) is.out

  refused : (e : Refusal) → KeepsAll 0 a.books b.books → ReplyFits s b.books k c (reply.Refused e) → Answers s a.books b.books k c (reply.Refused e)
  refused e keeps fits = refused-answers s a.books b.books k c e all next.after keeps fits

  same-keeps : b ≡ a → KeepsAll 0 a.books b.books
  same-keeps q = subst (λ (z : StoreSeen). KeepsAll 0 a.books z.books) (sym q) (keeps-same 0 a.books)

  in-same : (e : Refusal) → b ≡ a → ReplyFits s a.books k c (reply.Refused e) → ReplyFits s b.books k c (reply.Refused e)
  in-same e q fits = subst (λ (z : StoreSeen). ReplyFits s z.books k c (reply.Refused e)) (sym q) fits

  by-plan : (e d : Refusal) → change_refusal a.books.families 0 name ≡ Some d → e ≡ d → ReplyFits s a.books k c (reply.Refused e)
  by-plan e d q same = change-fits s a.books k all.knows all.own name c e (q ∙ ap Some (sym same)) (is.due_is k)
      (λ f has dropped. is.met a.books k refusal.Dropped f has dropped)

  by-moment : (e : Refusal) (m : MeantAt a.books 0 name) → write_refusal a.books m ≡ Some e → ReplyFits s a.books k c (reply.Refused e)
  by-moment e m q = fits_met s a.books k c e (meant-free s a.books k all.knows all.own name m c (is.due_is k))
      (is.met a.books k e m.family (meant-handle s a.books k all.knows all.own name m) (write-met told a.books sound k all name m e q))

  refused-write : (e : Refusal) (row : Row) → Writes a b name row (Err e) → Answers s a.books b.books k c (reply.Refused e)
  refused-write e row w = ⊎_elim
      (λ same. refused e (same-keeps same) (⊎_elim
      (λ h. in-same e same (by-plan e h.0 h.1 (let q : Err e ≡ Err h.0 = h.2 in cc)))
      (λ h. ⊎_elim (out-fits e) (λ q. in-same e same (by-moment e h.0 q)) (due-or (write_refusal a.books h.0) e h.1))
      w.answers))
      (λ h. refused e (switched-keeps 0 h.1.meant.family a.books b.books h.1.switched) (out-fits e h.0))
      (stop-or a b name e w.stops)

  accepted : (x y : Books) (row : Row) (n f : ℕ) → KnowsAll s x k → After x y → row.key ≡ key → row.op ≡ o → k.handles name ≡ Some f → due k c ≡ None
      → Accepts x y f row n → Answers s x y k c (number n)
  accepted x y row n f knows after key_is op_is has none h =
      is.answers x y k f (write_of 0 f h.mem row) n knows after h.written has none (record { lane_is = refl; key_is = key_is; op_is = op_is })
      h.number_is

  put-as : (due_is : Bool) (f : ℕ) (row : Row) (n : ℕ) → row.key ≡ key → row.op ≡ o → k.handles name ≡ Some f → due k c ≡ None
      → PutsAs due_is a.books b.books f row n → Answers s a.books b.books k c (number n)
  put-as false f row n key_is op_is has none h = accepted a.books b.books row n f all next.after key_is op_is has none h
  put-as true f row n key_is op_is has none (m, w, h) =
      let keeps = switched-keeps 0 f a.books m w in
      let mid = switch-follows f a.books m sound w in
      let later = sound-kept m b.books mid.sound (written f (write_of 0 f h.mem row) h.written) in
      answers-after s a.books m k keeps mid.after b.books c (number n)
      (accepted m b.books row n f (knows-kept s a.books m k keeps mid.after all) later.1 key_is op_is has none h)

  pub write-answers : (r : Result ℕ Refusal) (row : Row) → row.key ≡ key → row.op ≡ o → Writes a b name row r
      → Answers s a.books b.books k c (replied number r)
  write-answers (Err e) row key_is op_is w = refused-write e row w
  write-answers (Ok n) row key_is op_is w = ⊎_elim
      (λ h. let q : Ok n ≡ Err h.0 = h.2 in absurd (cc))
      (λ h. put-as (is_switch_due (active_rows a.books h.0) h.0.is_open.family.options) h.0.family row n key_is op_is
      (meant-handle s a.books k all.knows all.own name h.0) (meant-free s a.books k all.knows all.own name h.0 c (is.due_is k)) h.2)
      w.answers
