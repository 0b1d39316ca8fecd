-- Handles that the store takes back, and the replies.
use Rattle.std.proofs.Common.{◌≡◌, ⊎_elim, ℕ, Bool, true, false, List, [], ◌∷◌, Some, None, refl, sym, ◌∙◌, ap, subst}
use Rattle.std.specs.Prelude.{OnErr, OnOk, Result, Ok, Err, slice_get}
use Rattle.std.specs.Str.{bytes_eq}
use Rattle.sv_model.specs.declared.records.Family.{Family}
use Rattle.sv_model.specs.declared.refusals.Refusal.{Refusal}
use Rattle.sv_model.specs.declared.refusals.Refusal.TheVariants as refusal
use Rattle.sv_model.specs.After.{After}
use Rattle.sv_model.specs.Books.{Books}
use Rattle.sv_model.specs.Families.{IsOwn, default_name}
use Rattle.sv_model.specs.Refusals.{RefusesExactly}
use Rattle.sv_model.specs.Steady.{Sound}
use Rattle.sv_model.proofs.Entries.{some}
use Rattle.sv_model.proofs.RefusalLaws.{none_due}
use Rattle.sv_family.specs.Refused.{default_refusal, find_refusal, release_refusal, when}
use Rattle.sv_laws.specs.Changes.{retired}
use Rattle.sv_laws.proofs.Kept.{sound-kept}
use Rattle.sv_state.specs.Follows.{Follows}
use Rattle.sv_state.specs.Gone.{IsReleasedAs}
use Rattle.sv_store.specs.Releasing.{Releases}
use Rattle.sv_store.specs.Seen.{StoreSeen}
use Rattle.sv_script.specs.declared.commands.Command.TheVariants as command
use Rattle.sv_script.specs.declared.replies.Reply.{Reply}
use Rattle.sv_script.specs.declared.replies.Reply.TheVariants as reply
use Rattle.sv_replies.specs.Answers.{Answers, KnowsAll}
use Rattle.sv_replies.specs.Due.{cause_where, default_cause, due, handle_cause, no_handle, refuses}
use Rattle.sv_replies.specs.Known.{Known}
use Rattle.sv_replies.specs.ReplyFits.{ReplyFits}
use Rattle.sv_replies.proofs.AnswersOfFamilies.{release-answers}
use Rattle.sv_replies.proofs.DueLemmas.{first-here, first-next, handle-due, release-free}
use Rattle.sv_replies.proofs.MetLaws.{fits_due}
use Rattle.sv_answers.specs.Answered.{alone}
use Rattle.sv_answers.proofs.FamilyAnswers.{refused-same}
use Rattle.sv_answers.proofs.HandleLemmas.{find-fits, handle-is}
use Rattle.sv_answers.proofs.RefusalCases.{first-then, last-due, test-due}
use Rattle.sv_answers.proofs.SetAnswers.{answers-cleaned}

-- ---- refusals

default-free : (name : List ℕ) → default_refusal name ≡ None → default_cause name ≡ None
default-free name none = by (bytes_eq name default_name) refl
  where
    by : (d : Bool) → bytes_eq name default_name ≡ d → default_cause name ≡ None
    by true is = let q : Some refusal.IsDefault ≡ None = sym (ap (λ z. when z refusal.IsDefault) is) ∙ none in absurd (cc)
    by false is = ap (λ z. cause_where z (refuses refusal.IsDefault)) is

module _ (told : Bool) (a : Books) (k : Known) (all : KnowsAll (alone told) a k) (name : List ℕ) where
  of-default : (e : Refusal) → default_refusal name ≡ Some e → ReplyFits (alone told) a k (command.Release name) (reply.Refused e)
  of-default e h =
      let t = test-due (bytes_eq name default_name) (Some refusal.IsDefault) e h in
      let same : refusal.IsDefault ≡ e = (let q : Some refusal.IsDefault ≡ Some e = t.1 in cc) in
      subst (λ z. ReplyFits (alone told) a k (command.Release name) (reply.Refused z)) same
      (fits_due (alone told) a k (command.Release name) (refuses refusal.IsDefault) refusal.IsDefault
      (first-here (default_cause name) (handle_cause k name ∷ []) (refuses refusal.IsDefault) (ap (λ z. cause_where z (refuses refusal.IsDefault)) t.0))
      (λ q. absurd (cc)) refl)

  without : (e : Refusal) → default_refusal name ≡ None → find_refusal a.families 0 name ≡ Some e
      → ReplyFits (alone told) a k (command.Release name) (reply.Refused e)
  without e other h =
      find-fits (alone told) a k all.knows all.own name (command.Release name) e h
      (λ none. first-next (default_cause name) (handle_cause k name ∷ []) (default-free name other) ∙ first-here (handle_cause k name) [] (no_handle name) (handle-due k name none))

  release-refused : (e : Refusal) → release_refusal a.families 0 name ≡ Some e → ReplyFits (alone told) a k (command.Release name) (reply.Refused e)
  release-refused e h = ⊎_elim (of-default e) (λ t. without e t.0 (last-due (find_refusal a.families 0 name) e t.1))
      (first-then (default_refusal name) (find_refusal a.families 0 name ∷ []) e h)

  none-due : release_refusal a.families 0 name ≡ None → due k (command.Release name) ≡ None
  none-due none =
      let t = none_due (default_refusal name) (find_refusal a.families 0 name ∷ []) none in
      let f = handle-is (alone told) a k all.knows all.own name (none_due (find_refusal a.families 0 name) [] t.1).0 in
      release-free k name f.0 (default-free name t.0) f.1

  named-so : (f : ℕ) (x it : Family) → slice_get a.families f ≡ Some x → IsOwn 0 name x → slice_get a.families f ≡ Some it → it.name ≡ name
  named-so f x it at own there = ap (λ (z : Family). z.name) (some (sym there ∙ at)) ∙ own.name_is

  module _ (b : Books) (after : After a b) (none : due k (command.Release name) ≡ None) where
    given-back : IsReleasedAs a b 0 name None → Answers (alone told) a b k (command.Release name) reply.Release
    given-back (f, x, at, own, is) =
        release-answers (alone told) a b k all after name f is.it is.at is.handle (named-so f x is.it at own is.at)
        (ap (λ (z : Books). z.families) is.is) (ap (λ (z : Books). z.files.holds) is.is) (ap (λ (z : Books). z.journal) is.is) (ap (λ (z : Books). z.snapshots) is.is) none

    ended : (f : ℕ) → IsReleasedAs a b 0 name (Some f) → Answers (alone told) a b k (command.Release name) reply.Release
    ended f (x, at, own, is) =
        release-answers (alone told) a b k all after name f is.it is.at is.handle (named-so f x is.it at own is.at)
        (ap (λ (z : Books). z.families) is.is) (ap (λ (z : Books). z.files.holds) is.is) (ap (λ (z : Books). z.journal) is.is) (ap (λ (z : Books). z.snapshots) is.is) none

abbrev pub release_replied : Result (Unit {0}) Refusal → Reply
release_replied (Ok done) = reply.Release
release_replied (Err e) = reply.Refused e

pub release-replies : (told : Bool) (a b : StoreSeen) → Follows a.books b.books → Sound a.books → (k : Known) → KnowsAll (alone told) a.books k
    → (name : List ℕ) (r : Result (Unit {0}) Refusal)
    → OnOk r (Releases a.books b.books name)
    → RefusesExactly (release_refusal a.books.families 0 name) r
    → OnErr r (b ≡ a) → Answers (alone told) a.books b.books k (command.Release name) (release_replied r)
release-replies told a b next sound k all name (Err e) is due_ kept =
    refused-same told a b next k all (command.Release name) e kept (release-refused told a.books k all name e due_)
release-replies told a b next sound k all name (Ok done) is due_ kept =
    let none = none-due told a.books k all name due_ in
    ⊎_elim
    (λ h. given-back told a.books k all name b.books next.after none h)
    (λ h.
    let later = sound-kept a.books h.mid sound (retired h.family 0 h.retired.3) in
    answers-cleaned told a.books h.mid b.books k all later.0 later.1 h.goes.s h.goes.x h.goes.cleaned (command.Release name) reply.Release
    (ended told a.books k all name h.mid later.1 none h.family h.retired))
    is
