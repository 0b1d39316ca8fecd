-- Holds and snapshots of the store, and the replies.
use Rattle.std.proofs.Common.{◌≡◌, ◌≤◌, ◌+◌, ⊎_elim, ℕ, zero, suc, Bool, true, false, not, List, [], ◌∷◌, length, Some, None, refl, sym, ◌∙◌, ap, subst, arith, cond, ◌==◌, if◌then◌else◌}
use Rattle.std.specs.Prelude.{IfOk, OnErr, OnOk, Result, Ok, Err, nat_le, option_map, slice_get, slice_index, slice_set, unwrap_or}
use Rattle.sv_model.specs.declared.refusals.Refusal.{Refusal}
use Rattle.sv_model.specs.declared.refusals.Refusal.TheVariants as refusal
use Rattle.sv_model.specs.declared.records.Snapshot.{Snapshot}
use Rattle.sv_model.specs.declared.limits.TheConstants.{MAX_HOLDS, MAX_SNAPSHOTS, MAX_SNAPSHOTS_LIVE}
use Rattle.sv_model.specs.Books.{Books}
use Rattle.sv_model.specs.Lists.{bit, total}
use Rattle.sv_model.specs.Refusals.{Refuses, RefusesExactly}
use Rattle.sv_files.specs.Calls.{hold_refusal, unhold_refusal, with_hold}
use Rattle.sv_journal.specs.Calls.{is_live_snapshot, snap_refusal, snapshot_refusal}
use Rattle.sv_laws.specs.Snapping.{IsSnapped}
use Rattle.sv_state.specs.Follows.{Follows}
use Rattle.sv_state.specs.Taken.{IsEnded}
use Rattle.sv_store.specs.Seen.{StoreSeen}
use Rattle.sv_script.specs.declared.commands.Command.TheVariants as command
use Rattle.sv_script.specs.declared.replies.Reply.{Reply}
use Rattle.sv_script.specs.declared.replies.Reply.TheVariants as reply
use Rattle.sv_replies.specs.Answers.{Answers, KnowsAll}
use Rattle.sv_replies.specs.Due.{cause_where, due, refuses}
use Rattle.sv_replies.specs.Known.{Known}
use Rattle.sv_replies.specs.ReplyFits.{ReplyFits}
use Rattle.sv_replies.specs.Moments.{IsIn}
use Rattle.sv_replies.specs.SnapLaw.{IsOver, NoSuch, SnapMet}
use Rattle.sv_replies.proofs.AnswersOfFamilies.{hold-answers, snap-answers, unhold-answers, unsnap-answers}
use Rattle.sv_replies.proofs.MetLaws.{fits_due, fits_met}
use Rattle.sv_answers.specs.Answered.{alone}
use Rattle.sv_answers.proofs.FamilyAnswers.{refused-same}
use Rattle.sv_answers.proofs.RefusalCases.{due-or, first-then, last-due, negated, test-due}

-- the item that is there is the one read
pub index-is : (l : List ℕ) (n x : ℕ) → slice_get l n ≡ Some x → slice_index l n ≡ x
index-is [] n x e = let q : None ≡ Some x = e in absurd (cc)
index-is (y ∷ l) zero x e = let q : Some y ≡ Some x = e in cc
index-is (y ∷ l) (suc n) x e = index-is l n x e

-- a refusal that is due where the test is passed
pub if-due : (b : Bool) (r e : Refusal) → (if b then Some r else None) ≡ Some e → (b ≡ true) × (r ≡ e)
if-due true r e h = (refl, cc)
if-due false r e h = let q : None ≡ Some e = h in absurd (cc)

pub if-free : (b : Bool) (r : Refusal) → (if b then Some r else None) ≡ None → b ≡ false
if-free true r h = let q : Some r ≡ None = h in absurd (cc)
if-free false r h = refl

total-length : {A : Type 0} (g : A → Bool) (l : List A) → total (λ x. bit (g x)) l ≤ length l
total-length g [] = omega arith
total-length g (x ∷ l) = by (g x) (total-length g l)
  where
    by : (b : Bool) → total (λ y. bit (g y)) l ≤ length l → bit b + total (λ y. bit (g y)) l ≤ suc (length l)
    by true h = omega (arith, h)
    by false h = omega (arith, h)

-- ---- holds

module _ (told : Bool) (a b : StoreSeen) (next : Follows a.books b.books) (k : Known) (all : KnowsAll (alone told) a.books k) where
  -- the holds that the lane was told of are those of the books
  count-is : slice_index a.books.files.holds 0 ≡ k.holds
  count-is = index-is a.books.files.holds 0 k.holds all.own.holds

  hold-due : hold_refusal (slice_index a.books.files.holds 0) ≡ None → due k command.Hold ≡ None
  hold-due none =
      ap (λ d. cause_where d (refuses refusal.TooManyHolds))
      (ap (λ n. n == MAX_HOLDS) (sym count-is) ∙ if-free (slice_index a.books.files.holds 0 == MAX_HOLDS) refusal.TooManyHolds none)

  unhold-due : unhold_refusal (slice_index a.books.files.holds 0) ≡ None → due k command.Unhold ≡ None
  unhold-due none =
      ap (λ d. cause_where d (refuses refusal.NoHold))
      (ap (λ n. n == 0) (sym count-is) ∙ if-free (slice_index a.books.files.holds 0 == 0) refusal.NoHold none)

  hold-refused : (e : Refusal) → hold_refusal (slice_index a.books.files.holds 0) ≡ Some e
      → ReplyFits (alone told) a.books k command.Hold (reply.Refused e)
  hold-refused e h =
      let t = if-due (slice_index a.books.files.holds 0 == MAX_HOLDS) refusal.TooManyHolds e h in
      subst (λ z. ReplyFits (alone told) a.books k command.Hold (reply.Refused z)) t.1
      (fits_due (alone told) a.books k command.Hold (refuses refusal.TooManyHolds) refusal.TooManyHolds
      (ap (λ d. cause_where d (refuses refusal.TooManyHolds)) (ap (λ n. n == MAX_HOLDS) (sym count-is) ∙ t.0)) (λ q. absurd (cc)) refl)

  unhold-refused : (e : Refusal) → unhold_refusal (slice_index a.books.files.holds 0) ≡ Some e
      → ReplyFits (alone told) a.books k command.Unhold (reply.Refused e)
  unhold-refused e h =
      let t = if-due (slice_index a.books.files.holds 0 == 0) refusal.NoHold e h in
      subst (λ z. ReplyFits (alone told) a.books k command.Unhold (reply.Refused z)) t.1
      (fits_due (alone told) a.books k command.Unhold (refuses refusal.NoHold) refusal.NoHold
      (ap (λ d. cause_where d (refuses refusal.NoHold)) (ap (λ n. n == 0) (sym count-is) ∙ t.0)) (λ q. absurd (cc)) refl)

  -- the books with the lane's new count of holds
  held-is : (count : ℕ) → b ≡ record a { books = record a.books { files = b.books.files } } → b.books.files ≡ with_hold a.books.files 0 count
      → b.books ≡ record a.books { files = record a.books.files { holds = slice_set a.books.files.holds 0 count } }
  held-is count rest is = ap (λ (z : StoreSeen). z.books) rest ∙ ap (λ f. record a.books { files = f }) is

abbrev pub hold_replied : Result ℕ Refusal → Reply
hold_replied (Ok count) = reply.Hold count
hold_replied (Err e) = reply.Refused e

abbrev pub unhold_replied : Result ℕ Refusal → Reply
unhold_replied (Ok count) = reply.Unhold count
unhold_replied (Err e) = reply.Refused e

module _ (told : Bool) (a b : StoreSeen) (next : Follows a.books b.books) (k : Known) (all : KnowsAll (alone told) a.books k)
    (rest : b ≡ record a { books = record a.books { files = b.books.files } }) where
  pub hold-replies : (r : Result ℕ Refusal)
      → IfOk r (λ count. (count ≡ slice_index a.books.files.holds 0 + 1) × (b.books.files ≡ with_hold a.books.files 0 count))
      → RefusesExactly (hold_refusal (slice_index a.books.files.holds 0)) r → OnErr r (b ≡ a)
      → Answers (alone told) a.books b.books k command.Hold (hold_replied r)
  hold-replies (Ok count) held free kept =
      hold-answers (alone told) a.books b.books k all next.after k.holds count all.own.holds (held-is told a b next k all count rest held.1)
      (held.0 ∙ ap (λ n. n + 1) (count-is told a b next k all)) (hold-due told a b next k all free)
  hold-replies (Err e) held is kept = refused-same told a b next k all command.Hold e kept (hold-refused told a b next k all e is)

  pub unhold-replies : (r : Result ℕ Refusal)
      → IfOk r (λ count. (count + 1 ≡ slice_index a.books.files.holds 0) × (b.books.files ≡ with_hold a.books.files 0 count))
      → RefusesExactly (unhold_refusal (slice_index a.books.files.holds 0)) r → OnErr r (b ≡ a)
      → Answers (alone told) a.books b.books k command.Unhold (unhold_replied r)
  unhold-replies (Ok count) held free kept =
      unhold-answers (alone told) a.books b.books k all next.after k.holds count all.own.holds (held-is told a b next k all count rest held.1)
      (held.0 ∙ count-is told a b next k all) (unhold-due told a b next k all free)
  unhold-replies (Err e) held is kept = refused-same told a b next k all command.Unhold e kept (unhold-refused told a b next k all e is)

-- ---- snapshots

module _ (told : Bool) (a : Books) (k : Known) (all : KnowsAll (alone told) a k) where
  snap-met : (e : Refusal) → snap_refusal a.snapshots ≡ Some e → SnapMet a e
  snap-met e h = ⊎_elim
      (λ q.
      let t = test-due (nat_le MAX_SNAPSHOTS (length a.snapshots)) (Some refusal.RegisterFull) e q in
      let same : refusal.RegisterFull ≡ e = (let z : Some refusal.RegisterFull ≡ Some e = t.1 in cc) in
      subst (SnapMet a) same (let many = t.0 in grind arith))
      (λ q.
      let t = test-due (nat_le MAX_SNAPSHOTS_LIVE (total (λ (s : Snapshot). bit s.live) a.snapshots)) (Some refusal.TooManySnapshots) e
      (last-due (cond (nat_le MAX_SNAPSHOTS_LIVE (total (λ (s : Snapshot). bit s.live) a.snapshots)) (Some refusal.TooManySnapshots) None) e q.1) in
      let same : refusal.TooManySnapshots ≡ e = (let z : Some refusal.TooManySnapshots ≡ Some e = t.1 in cc) in
      subst (SnapMet a) same (let many = t.0 in let least = total-length (λ (s : Snapshot). s.live) a.snapshots in grind arith))
      (first-then (cond (nat_le MAX_SNAPSHOTS (length a.snapshots)) (Some refusal.RegisterFull) None) _ e h)

  snap-refused : (e : Refusal) → snap_refusal a.snapshots ≡ Some e → ReplyFits (alone told) a k command.Snap (reply.Refused e)
  snap-refused e h = fits_met (alone told) a k command.Snap e refl (snap-met e h)

  -- no Live snapshot has the number
  pub none-such : (n : ℕ) → is_live_snapshot a.snapshots n ≡ false → NoSuch (alone told) a k n
  none-such n none =
      let over : k.snapshots n ≡ true → IsIn IsOver a.snapshots n = (λ q.
      let x = all.knows.snapshots n q in
      (x.0, x.1, ap (λ o. unwrap_or (option_map (λ (s : Snapshot). s.live) o) false) (sym x.1) ∙ none)) in
      record { over = over; alone = λ one q. (all.alone refl).over n (over q) }

  unsnap-refused : (n : ℕ) (e : Refusal) → snapshot_refusal a.snapshots n ≡ Some e
      → ReplyFits (alone told) a k (command.Unsnap n) (reply.Refused e)
  unsnap-refused n e h =
      let t = test-due (not (is_live_snapshot a.snapshots n)) (Some refusal.NoSnapshot) e h in
      let same : refusal.NoSnapshot ≡ e = (let q : Some refusal.NoSnapshot ≡ Some e = t.1 in cc) in
      subst (λ z. ReplyFits (alone told) a k (command.Unsnap n) (reply.Refused z)) same
      (fits_met (alone told) a k (command.Unsnap n) refusal.NoSnapshot refl (none-such n (negated (is_live_snapshot a.snapshots n) t.0)))

abbrev pub snap_replied : Result (ℕ × ℕ) Refusal → Reply
snap_replied (Ok made) = reply.Snap made.0 made.1
snap_replied (Err e) = reply.Refused e

abbrev pub unsnap_replied : Result (Unit {0}) Refusal → Reply
unsnap_replied (Ok done) = reply.Unsnap
unsnap_replied (Err e) = reply.Refused e

module _ (told : Bool) (a b : StoreSeen) (next : Follows a.books b.books) (k : Known) (all : KnowsAll (alone told) a.books k) where
  pub snap-replies : (r : Result (ℕ × ℕ) Refusal)
      → IfOk r (λ made. IsSnapped a.books b.books × (made.0 ≡ length a.books.snapshots + 1) × (made.1 ≡ length a.books.journal))
      → Refuses (snap_refusal a.books.snapshots) r → OnErr r (b ≡ a) → Answers (alone told) a.books b.books k command.Snap (snap_replied r)
  snap-replies (Ok made) is free kept = snap-answers (alone told) a.books b.books k made.0 made.1 all next.after is.0 is.1 is.2
  snap-replies (Err e) is h kept =
      refused-same told a b next k all command.Snap e kept
      (⊎_elim
      (λ out. subst (λ z. ReplyFits (alone told) a.books k command.Snap (reply.Refused z)) (sym out) tt)
      (λ q. snap-refused told a.books k all e q)
      (due-or (snap_refusal a.books.snapshots) e h))

  pub unsnap-replies : (n : ℕ) (r : Result (Unit {0}) Refusal) → OnOk r (IsEnded a.books n b.books)
      → RefusesExactly (snapshot_refusal a.books.snapshots n) r → OnErr r (b ≡ a)
      → Answers (alone told) a.books b.books k (command.Unsnap n) (unsnap_replied r)
  unsnap-replies n (Ok done) is free kept = unsnap-answers (alone told) a.books b.books k n is.it all next.after is.is
  unsnap-replies n (Err e) is h kept = refused-same told a b next k all (command.Unsnap n) e kept (unsnap-refused told a.books k all n e h)
