-- Purges of the store, and the replies.
use Rattle.std.proofs.Common.{◌≡◌, ◌≤◌, ⊎_elim, ℕ, Bool, List, [], ◌∷◌, length, Some, None, refl, sym, ◌∙◌, ap, subst, arith}
use Rattle.std.specs.Prelude.{IfErr, IfOk, Result, Ok, Err, nat_lt, sum}
use Rattle.sv_model.specs.declared.records.FileStatus.TheVariants.{Gone}
use Rattle.sv_model.specs.declared.refusals.Refusal.{Refusal}
use Rattle.sv_model.specs.declared.refusals.Refusal.TheVariants as refusal
use Rattle.sv_model.specs.Books.{Books, FileRegister}
use Rattle.sv_model.specs.Faults.{RoseBy}
use Rattle.sv_model.specs.Numbers.{IsRegistered, registered}
use Rattle.sv_files.specs.Calls.{disabled}
use Rattle.sv_state.specs.Follows.{Follows}
use Rattle.sv_store.specs.Purging.{PurgeStops, Purges, PurgesSome}
use Rattle.sv_store.specs.Removals.{DirSeen, LeftAs}
use Rattle.sv_store.specs.Seen.{StoreSeen}
use Rattle.sv_store.proofs.EndedNumbers.{ended-gone}
use Rattle.sv_script.specs.declared.commands.Command.TheVariants as command
use Rattle.sv_script.specs.declared.replies.Reply.{Reply}
use Rattle.sv_script.specs.declared.replies.Reply.TheVariants as reply
use Rattle.sv_replies.specs.Answers.{Answers, KnowsAll}
use Rattle.sv_replies.specs.Due.{HoldsStand, cause_where, due, held}
use Rattle.sv_replies.specs.Known.{Known}
use Rattle.sv_replies.specs.ReplyFits.{ReplyFits}
use Rattle.sv_replies.specs.Settings.{Setting}
use Rattle.sv_replies.proofs.AnswersLaws.{KeepsAll, keeps-books, refused-answers}
use Rattle.sv_replies.proofs.AnswersOfFamilies.{purge-answers}
use Rattle.sv_replies.proofs.HoldLemmas.{purge-fits}
use Rattle.sv_replies.proofs.MetLaws.{fits_due, fits_met}
use Rattle.sv_answers.specs.Answered.{CountsReply, alone}
use Rattle.sv_answers.proofs.HoldAnswers.{if-due, if-free}
use Rattle.sv_answers.proofs.NewlyGone.{purged-new}

abbrev pub purge_replied : Result (List ℕ) Refusal → Reply
purge_replied (Ok numbers) = reply.Purge numbers
purge_replied (Err e) = reply.Refused e

module _ (told : Bool) (a b : StoreSeen) (next : Follows a.books b.books) (k : Known) (all : KnowsAll (alone told) a.books k)
    (rest : b ≡ record a { books = record a.books { files = b.books.files } }) (d : DirSeen) where
  abbrev s : Setting
  s = alone told

  abbrev old : FileRegister
  old = a.books.files

  abbrev new : FileRegister
  new = b.books.files

  books-are : b.books ≡ record a.books { files = new }
  books-are = ap (λ (z : StoreSeen). z.books) rest

  keeps : new.holds ≡ old.holds → KeepsAll 0 a.books b.books
  keeps holds =
      keeps-books 0 a.books b.books (ap (λ (z : Books). z.families) books-are) holds (ap (λ (z : Books). z.journal) books-are)
      (ap (λ (z : Books). z.snapshots) books-are)

  -- the holds of the books are those that the lane was told of
  count-is : sum old.holds ≡ k.holds
  count-is = (all.alone refl).holds

  free : disabled old ≡ None → due k command.Purge ≡ None
  free none =
      ap (λ t. cause_where t (held k.holds))
      (ap (λ n. nat_lt 0 n) (sym count-is) ∙ if-free (nat_lt 0 (sum old.holds)) (refusal.Disabled (sum old.holds)) none)

  refused : (e : Refusal) → new.holds ≡ old.holds → ReplyFits s b.books k command.Purge (reply.Refused e)
      → Answers s a.books b.books k command.Purge (reply.Refused e)
  refused e holds fits = refused-answers s a.books b.books k command.Purge e all next.after (keeps holds) fits

  -- ---- holds stand

  hold-stands : (count : ℕ) → disabled old ≡ Some (refusal.Disabled count) → ReplyFits s b.books k command.Purge (reply.Refused (refusal.Disabled count))
  hold-stands count h =
      let t = if-due (nat_lt 0 (sum old.holds)) (refusal.Disabled (sum old.holds)) (refusal.Disabled count) h in
      let same : sum old.holds ≡ count = (let q : refusal.Disabled (sum old.holds) ≡ refusal.Disabled count = t.1 in cc) in
      let stand : HoldsStand s k.holds count = record {
        some = (let more = t.0 in grind (arith, more, same));
        least = omega (arith, count-is, same);
        alone = λ one. sym same ∙ count-is;
      } in
      fits_due s b.books k command.Purge (held k.holds) (refusal.Disabled count)
      (ap (λ t. cause_where t (held k.holds)) (ap (λ n. nat_lt 0 n) (sym count-is) ∙ t.0)) (λ q. absurd (cc)) stand

  -- ---- some number is left

  left-known : (number : ℕ) → PurgesSome old new d (refusal.DirFault number) → ReplyFits s b.books k command.Purge (reply.Refused (refusal.DirFault number))
  left-known number h =
      let there = (h.removes.removes.tried.left_are.exact number).0 (record { at = 0; is = h.removes.answer.0 }) in
      let was = ((h.ready.exact number).0 there.0).obsolete in
      let on = next.after.numbers was.0 was.1 was.2 in
      fits_met s b.books k command.Purge (refusal.DirFault number) (free h.free) (was.0, on.0, on.1, on.2.number ∙ was.3.number_is)

  pub purge-replies : ((n : ℕ) → registered n old.numbers ≤ 1) → (r : Result (List ℕ) Refusal)
      → IfOk r (λ numbers. Purges old new d numbers) → IfErr r (PurgeStops old new d)
      → Answers s a.books b.books k command.Purge (purge_replied r)
  purge-replies once (Ok numbers) purged stops =
      purge-answers s a.books b.books k all next.after (keeps (ap (λ (z : FileRegister). z.holds) purged.removes.is)) numbers
      (purge-fits s b.books k numbers (free purged.free) purged.ready.rising
      (λ n there. subst (λ (z : FileRegister). IsRegistered z.numbers n Gone) (sym purged.removes.is)
      (ended-gone old numbers n _ ((purged.ready.exact n).0 there).obsolete there)))
      (purged-new old new d once numbers purged)
  purge-replies once (Err (refusal.Disabled count)) purged stops =
      refused (refusal.Disabled count) (ap (λ (z : FileRegister). z.holds) stops.1.same) (hold-stands count stops.0)
  purge-replies once (Err (refusal.DirFault number)) purged stops =
      refused (refusal.DirFault number) (ap (λ (z : FileRegister). z.holds) stops.removes.removes.is) (left-known number stops)
  purge-replies once (Err refusal.OutOfMemory) purged stops = ⊎_elim
      (λ h. refused refusal.OutOfMemory (ap (λ (z : FileRegister). z.holds) h.same) tt)
      (λ h. refused refusal.OutOfMemory (ap (λ (z : FileRegister). z.holds) h.removes.removes.is) tt)
      stops
  purge-replies once (Err e) purged stops = absurd stops

-- ---- the directory's failures

one-rose : (n before now : ℕ) → 1 ≤ n → RoseBy n before now → RoseBy 1 before now
one-rose n before now more rose = omega (arith, more, rose)

none-rose : (before now : ℕ) → before ≤ now → RoseBy 0 before now
none-rose before now later = omega (arith, later)

first-long : (left : List ℕ) (number : ℕ) (d : DirSeen) → LeftAs left d (refusal.DirFault number) → 1 ≤ length left
first-long [] number d h = let q : None ≡ Some number = h.0 in absurd (cc)
first-long (x ∷ left) number d h = omega arith

pub purge-counts : (old new : FileRegister) (d : DirSeen) (r : Result (List ℕ) Refusal) → IfOk r (λ numbers. Purges old new d numbers)
    → IfErr r (PurgeStops old new d) → CountsReply (purge_replied r) d.before d.now
purge-counts old new d (Ok numbers) purged stops =
    record { later = purged.removes.later; rose = none-rose d.before d.now purged.removes.later }
purge-counts old new d (Err (refusal.Disabled count)) purged stops =
    let same : d.before ≤ d.now = omega (arith, stops.1.untouched.faults) in
    record { later = same; rose = none-rose d.before d.now same }
purge-counts old new d (Err (refusal.DirFault number)) purged stops = record {
  later = stops.removes.removes.later;
  rose = one-rose (length stops.removes.left) d.before d.now (first-long stops.removes.left number d stops.removes.answer) stops.removes.answer.1;
}
purge-counts old new d (Err refusal.OutOfMemory) purged stops = ⊎_elim
    (λ h. (let same : d.before ≤ d.now = omega (arith, h.untouched.faults) in record { later = same; rose = none-rose d.before d.now same }))
    (λ h. record { later = h.removes.removes.later; rose = none-rose d.before d.now h.removes.removes.later })
    stops
purge-counts old new d (Err e) purged stops = absurd stops
