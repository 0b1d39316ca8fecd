-- A scan of the store, and the reply.
use Rattle.std.proofs.Common.{◌≡◌, ◌<◌, ◌≤◌, inl, inr, ⊎_elim, ℕ, Bool, true, List, length, Some, None, refl, sym, ◌∙◌, ap, arith}
use Rattle.std.specs.Prelude.{nat_lt, sum}
use Rattle.std.proofs.lemmas.Bool.Decides.{nat_tests}
use Rattle.std.proofs.lemmas.Option.{slice_get_within}
use Rattle.sv_model.specs.declared.refusals.Refusal.{Refusal}
use Rattle.sv_model.specs.declared.refusals.Refusal.TheVariants as refusal
use Rattle.sv_model.specs.Books.{FileRegister}
use Rattle.sv_model.specs.Faults.{RoseBy}
use Rattle.sv_model.specs.Numbers.{registered}
use Rattle.sv_files.specs.Calls.{disabled}
use Rattle.sv_state.specs.Follows.{Follows}
use Rattle.sv_store.specs.Removals.{DirSeen}
use Rattle.sv_store.specs.Scanning.{ScanStops, Scans, ScansSome}
use Rattle.sv_store.specs.Seen.{StoreSeen}
use Rattle.sv_store.proofs.ScanLaws.{left-known, scans-gone}
use Rattle.sv_script.specs.declared.commands.Command.TheVariants as command
use Rattle.sv_script.specs.declared.replies.Reply.TheVariants as reply
use Rattle.sv_replies.specs.Answers.{Answers, KnowsAll}
use Rattle.sv_replies.specs.Due.{cause_where, due, held}
use Rattle.sv_replies.specs.Known.{Known}
use Rattle.sv_replies.specs.ReplyFits.{ReplyFits}
use Rattle.sv_replies.proofs.AnswersLaws.{KeepsAll, keeps-books, refused-answers}
use Rattle.sv_replies.proofs.AnswersOfFamilies.{scan-answers}
use Rattle.sv_replies.proofs.HoldLemmas.{scan-fits}
use Rattle.sv_replies.proofs.MetLaws.{fits_due, fits_met}
use Rattle.sv_answers.specs.Answered.{CountsReply, alone}
use Rattle.sv_answers.proofs.HoldAnswers.{if-due, if-free}
use Rattle.sv_answers.proofs.NewlyGone.{scanned-new}

module _ (told : Bool) (a b : StoreSeen) (next : Follows a.books b.books) (k : Known) (all : KnowsAll (alone told) a.books k)
    (rest : b ≡ record a { books = record a.books { files = b.books.files } }) (d : DirSeen) where
  -- only the lane's own holds stand
  all-holds : sum a.books.files.holds ≡ k.holds
  all-holds = (all.alone refl).holds

  none-due : disabled a.books.files ≡ None → due k command.Scan ≡ None
  none-due free =
      ap (λ t. cause_where t (held k.holds))
      (ap (λ n. nat_lt 0 n) (sym all-holds) ∙ if-free (nat_lt 0 (sum a.books.files.holds)) (refusal.Disabled (sum a.books.files.holds)) free)

  keeps : b.books.files.holds ≡ a.books.files.holds → KeepsAll 0 a.books b.books
  keeps same =
      keeps-books 0 a.books b.books (ap (λ (z : StoreSeen). z.books.families) rest) same (ap (λ (z : StoreSeen). z.books.journal) rest)
      (ap (λ (z : StoreSeen). z.books.snapshots) rest)

  pub scan-shown : ((n : ℕ) → registered n a.books.files.numbers ≤ 1) → (numbers : List ℕ) → Scans a.books.files b.books.files d numbers
      → Answers (alone told) a.books b.books k command.Scan (reply.Scan numbers)
  scan-shown once numbers h =
      scan-answers (alone told) a.books b.books k all next.after (keeps (ap (λ (r : FileRegister). r.holds) h.removes.is)) numbers
      (scan-fits (alone told) b.books k numbers (none-due h.begun.free) h.begun.hands.are.rising (scans-gone a.books.files b.books.files d numbers h))
      (scanned-new a.books.files b.books.files d once numbers h)

  -- ---- refusals
  refused : (e : Refusal) → b.books.files.holds ≡ a.books.files.holds → ReplyFits (alone told) b.books k command.Scan (reply.Refused e)
      → Answers (alone told) a.books b.books k command.Scan (reply.Refused e)
  refused e same fits = refused-answers (alone told) a.books b.books k command.Scan e all next.after (keeps same) fits

  same-holds : b.books.files ≡ a.books.files → b.books.files.holds ≡ a.books.files.holds
  same-holds same = ap (λ (r : FileRegister). r.holds) same

  holds-stand : (n : ℕ) → disabled a.books.files ≡ Some (refusal.Disabled n) → ReplyFits (alone told) b.books k command.Scan (reply.Refused (refusal.Disabled n))
  holds-stand n h =
      let t = if-due (nat_lt 0 (sum a.books.files.holds)) (refusal.Disabled (sum a.books.files.holds)) (refusal.Disabled n) h in
      let count : sum a.books.files.holds ≡ n = (let q : refusal.Disabled (sum a.books.files.holds) ≡ refusal.Disabled n = t.1 in cc) in
      let some : 0 < sum a.books.files.holds = (let q : nat_lt 0 (sum a.books.files.holds) ≡ true = t.0 in grind (arith, nat_tests, q)) in
      fits_due (alone told) b.books k command.Scan (held k.holds) (refusal.Disabled n)
      (ap (λ z. cause_where z (held k.holds)) (ap (λ m. nat_lt 0 m) (sym all-holds) ∙ t.0)) (λ q. absurd (cc))
      (record { some = omega (arith, some, count); least = omega (arith, count, all-holds); alone = λ one. sym count ∙ all-holds })

  some-left : (n : ℕ) → (s : ScansSome a.books.files b.books.files d (refusal.DirFault n)) → ReplyFits (alone told) b.books k command.Scan (reply.Refused (refusal.DirFault n))
  some-left n s =
      fits_met (alone told) b.books k command.Scan (refusal.DirFault n) (none-due s.begun.free)
      (inr (left-known a.books.files b.books.files d (refusal.DirFault n) s n (record { at = 0; is = s.removes.answer.0 })))

  pub scan-refused : (e : Refusal) → ScanStops a.books.files b.books.files d e → Answers (alone told) a.books b.books k command.Scan (reply.Refused e)
  scan-refused (refusal.Disabled n) h = refused (refusal.Disabled n) (same-holds h.1.same) (holds-stand n h.0)
  scan-refused (refusal.DirFault n) h = ⊎_elim
      (λ f. refused (refusal.DirFault n) (same-holds f.none.same)
      (fits_met (alone told) b.books k command.Scan (refusal.DirFault n) (none-due f.none.free) (inl f.number_is)))
      (λ s. refused (refusal.DirFault n) (ap (λ (r : FileRegister). r.holds) s.removes.removes.is) (some-left n s))
      h
  scan-refused refusal.OutOfMemory h = ⊎_elim
      (λ f. refused refusal.OutOfMemory (same-holds f.same) tt)
      (λ s. refused refusal.OutOfMemory (ap (λ (r : FileRegister). r.holds) s.removes.removes.is) tt)
      h
  scan-refused e h = absurd h

-- ---- failures of the directory

counted : (count before now : ℕ) → 1 ≤ count → RoseBy count before now → RoseBy 1 before now
counted count before now some rose = omega (arith, some, rose)

none-rose : (before now : ℕ) → before ≤ now → RoseBy 0 before now
none-rose before now later = omega (arith, later)

module _ (old new : FileRegister) (d : DirSeen) where
  pub shown-counts : (numbers : List ℕ) → Scans old new d numbers → CountsReply (reply.Scan numbers) d.before d.now
  shown-counts numbers h = record { later = h.removes.later; rose = none-rose d.before d.now h.removes.later }

  pub refused-counts : (e : Refusal) → ScanStops old new d e → CountsReply (reply.Refused e) d.before d.now
  refused-counts (refusal.Disabled n) h =
      let later : d.before ≤ d.now = (let q = h.1.untouched.faults in omega (arith, q)) in
      record { later = later; rose = none-rose d.before d.now later }
  refused-counts (refusal.DirFault n) h = ⊎_elim
      (λ f. record { later = f.none.later; rose = f.rose })
      (λ s. record {
        later = s.removes.removes.later;
        rose = counted (length s.removes.left) d.before d.now (let w = slice_get_within s.removes.left 0 n s.removes.answer.0 in omega (arith, w)) s.removes.answer.1;
      })
      h
  refused-counts refusal.OutOfMemory h = ⊎_elim
      (λ f. record { later = f.later; rose = none-rose d.before d.now f.later })
      (λ s. record { later = s.removes.removes.later; rose = none-rose d.before d.now s.removes.removes.later })
      h
  refused-counts e h = absurd h
