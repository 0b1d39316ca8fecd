-- The files that the store lists, and the reply.
use Rattle.std.proofs.Common.{◌≡◌, ⊎_elim, ℕ, Bool, List, refl, sym, ◌∙◌, ap, subst, ◌==◌, None}
use Rattle.std.specs.Prelude.{◌↔◌, slice_index}
use Rattle.sv_model.specs.declared.refusals.Refusal.{Refusal}
use Rattle.sv_model.specs.declared.refusals.Refusal.TheVariants as refusal
use Rattle.sv_model.specs.Books.{Books}
use Rattle.sv_model.specs.Numbers.{AreInOrder}
use Rattle.sv_model.specs.Refusals.{IsDue}
use Rattle.sv_model.specs.Steady.{Sound}
use Rattle.sv_model.proofs.AfterLaws.{after-itself}
use Rattle.sv_files.specs.Calls.{unhold_refusal}
use Rattle.sv_store.specs.LiveFiles as stored
use Rattle.sv_script.specs.declared.commands.Command.TheVariants as command
use Rattle.sv_script.specs.declared.replies.Reply.TheVariants as reply
use Rattle.sv_replies.specs.Answers.{Answers, KnowsAll}
use Rattle.sv_replies.specs.Due.{cause_where, due, refuses}
use Rattle.sv_replies.specs.Known.{Known}
use Rattle.sv_replies.specs.Listed.{AreCurrentFiles, IsCurrentFile, StandingHaveCurrents}
use Rattle.sv_replies.specs.ReplyFits.{ReplyFits}
use Rattle.sv_replies.proofs.AnswersLaws.{keeps-same, refused-answers}
use Rattle.sv_replies.proofs.AnswersOfFamilies.{live-answers}
use Rattle.sv_replies.proofs.LiveLemmas.{live-fits}
use Rattle.sv_replies.proofs.MetLaws.{fits_due}
use Rattle.sv_answers.specs.Answered.{alone}
use Rattle.sv_answers.proofs.HoldAnswers.{if-due, if-free, index-is}
use Rattle.sv_answers.proofs.RefusalCases.{due-or}

-- the store's words for the files of currents, and the reply's
listed : (b : Books) (n : ℕ) → stored.IsCurrentFile b n ↔ IsCurrentFile b n
listed b n = (
  λ h. record {
    family = h.family;
    it = h.it;
    at = h.at;
    stands = h.stands;
    s = h.serial;
    x = h.super;
    current = h.current;
    version = h.version;
    version_at = h.version_at;
    has = h.has;
  },
  λ h. record {
    family = h.family;
    it = h.it;
    at = h.at;
    stands = h.stands;
    serial = h.s;
    super = h.x;
    current = h.current;
    version = h.version;
    version_at = h.version_at;
    has = h.has;
  },
)

module _ (told : Bool) (a : Books) (sound : Sound a) (k : Known) (all : KnowsAll (alone told) a k) where
  count-is : slice_index a.files.holds 0 ≡ k.holds
  count-is = index-is a.files.holds 0 k.holds all.own.holds

  -- the list is answered
  pub live-shown : (numbers : List ℕ) → AreInOrder (stored.IsCurrentFile a) numbers → stored.StandingHaveCurrents a
      → unhold_refusal (slice_index a.files.holds 0) ≡ None
      → Answers (alone told) a a k command.Live (reply.Live numbers)
  live-shown numbers h currents free =
      let are : AreCurrentFiles a numbers = record {
        rising = h.rising;
        exact = λ n. (λ has. (listed a n).0 ((h.exact n).0 has), λ is. (h.exact n).1 ((listed a n).1 is));
      } in
      let stand : StandingHaveCurrents a = (λ f y at up. let c = currents f y at up in record { s = c.0; x = c.1; current = c.2 }) in
      let none : due k command.Live ≡ None =
      ap (λ d. cause_where d (refuses refusal.NoHold)) (ap (λ n. n == 0) (sym count-is) ∙ if-free (slice_index a.files.holds 0 == 0) refusal.NoHold free) in
      live-answers (alone told) a a k all (after-itself a) (keeps-same 0 a) numbers (live-fits a sound k all.knows numbers are (alone told) stand none)

  pub live-refused : (e : Refusal) → IsDue (unhold_refusal (slice_index a.files.holds 0)) e
      → Answers (alone told) a a k command.Live (reply.Refused e)
  live-refused e h =
      refused-answers (alone told) a a k command.Live e all (after-itself a) (keeps-same 0 a)
      (⊎_elim
      (λ out. subst (λ z. ReplyFits (alone told) a k command.Live (reply.Refused z)) (sym out) tt)
      (λ q.
      let t = if-due (slice_index a.files.holds 0 == 0) refusal.NoHold e q in
      subst (λ z. ReplyFits (alone told) a k command.Live (reply.Refused z)) t.1
      (fits_due (alone told) a k command.Live (refuses refusal.NoHold) refusal.NoHold
      (ap (λ d. cause_where d (refuses refusal.NoHold)) (ap (λ n. n == 0) (sym count-is) ∙ t.0)) (λ z. absurd (cc)) refl))
      (due-or (unhold_refusal (slice_index a.files.holds 0)) e h))
