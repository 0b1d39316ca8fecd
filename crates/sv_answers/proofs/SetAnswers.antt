-- Options that the store sets, and the replies. The SuperVersion before goes at once.
use Rattle.std.proofs.Common.{◌≡◌, ⊎_elim, ℕ, Bool, true, false, not, ◌&&◌, List, [], ◌∷◌, map, Some, None, refl, sym, ◌∙◌, ap, subst}
use Rattle.std.specs.Prelude.{IfOk, OnErr, Result, Ok, Err, nat_le}
use Rattle.sv_model.specs.declared.records.SuperVersion.{SuperVersion}
use Rattle.sv_model.specs.declared.refusals.Refusal.{Refusal}
use Rattle.sv_model.specs.declared.refusals.Refusal.TheVariants as refusal
use Rattle.sv_model.specs.declared.settings.OptionName.{OptionName}
use Rattle.sv_model.specs.declared.settings.OptionName.TheVariants.{MaxImmutable, MemtableRows}
use Rattle.sv_model.specs.declared.settings.Options.{Options}
use Rattle.sv_model.specs.After.{After}
use Rattle.sv_model.specs.Books.{Books}
use Rattle.sv_model.specs.Families.{greatest_of}
use Rattle.sv_model.specs.Journal.{change_of}
use Rattle.sv_model.specs.Refusals.{Refuses, first_due}
use Rattle.sv_model.specs.Steady.{Sound}
use Rattle.sv_model.proofs.RefusalLaws.{none_due}
use Rattle.sv_registry.specs.Calls.{make_refusal}
use Rattle.sv_family.specs.Calls.{with_option}
use Rattle.sv_family.specs.Refused.{change_refusal, option_refusal, set_refusal, when}
use Rattle.sv_laws.specs.Changes.{cleaned, option_set}
use Rattle.sv_laws.specs.Cleaning.{IsCleaned}
use Rattle.sv_laws.proofs.Kept.{sound-kept}
use Rattle.sv_state.specs.Follows.{Follows}
use Rattle.sv_store.specs.Seen.{StoreSeen}
use Rattle.sv_store.specs.Setting.{Sets}
use Rattle.sv_script.specs.declared.commands.Command.{Command}
use Rattle.sv_script.specs.declared.commands.Command.TheVariants as command
use Rattle.sv_script.specs.declared.replies.Reply.{Reply}
use Rattle.sv_script.specs.declared.replies.Reply.TheVariants as reply
use Rattle.sv_replies.specs.Answers.{Answers, KnowsAll}
use Rattle.sv_replies.specs.Due.{cause_where, due, dropped_cause, first_of, handle_cause, option_cause, refuses}
use Rattle.sv_replies.specs.Known.{Known, learn}
use Rattle.sv_replies.specs.ReplyFits.{ReplyFits}
use Rattle.sv_replies.specs.SetLaw.{SetMet, value_of}
use Rattle.sv_replies.proofs.AnswersLaws.{KeepsAll, all-kept, keeps-books, same-known}
use Rattle.sv_replies.proofs.AnswersOfFamilies.{set-answers}
use Rattle.sv_replies.proofs.DueLemmas.{first-here, first-next, known-handle}
use Rattle.sv_replies.proofs.KnowsLaws.{knows-later}
use Rattle.sv_replies.proofs.MetLaws.{fits_due, fits_met, through}
use Rattle.sv_replies.proofs.FindsLemmas.{adds-before}
use Rattle.sv_replies.proofs.ReplyFitsLaws.{fits-later}
use Rattle.sv_answers.specs.Answered.{alone}
use Rattle.sv_answers.proofs.FamilyAnswers.{refused-same}
use Rattle.sv_answers.proofs.HandleLemmas.{change-fits, change-free}
use Rattle.sv_answers.proofs.RefusalCases.{due-or, first-then, is-full, last-due, test-due}

-- ---- a cleanup after an answer

cleaned-keeps : (lane : ℕ) (a b : Books) (s : ℕ) (x : SuperVersion) → IsCleaned a b s x → KeepsAll lane a b
cleaned-keeps lane a b s x g = keeps-books lane a b (ap (λ (z : Books). z.families) g.is) (ap (λ (z : Books). z.files.holds) g.is)
    (ap (λ (z : Books). z.journal) g.is) (ap (λ (z : Books). z.snapshots) g.is)

module _ (told : Bool) (a m b : Books) (k : Known) (all : KnowsAll (alone told) a k) (sound : Sound m) (before : After a m) (s : ℕ) (x : SuperVersion) (g : IsCleaned m b s x)
    (c : Command) (r : Reply) where
  pub answers-cleaned : Answers (alone told) a m k c r → Answers (alone told) a b k c r
  answers-cleaned h =
      let later = sound-kept m b sound (cleaned s x g) in
      let keeps = cleaned-keeps 0 m b s x g in
      record {
        fits = fits-later (alone told) m b k (knows-later a m k before all.knows) sound.lawful later.0.lawful later.1 c r h.fits;
        still = all-kept (alone told) m b (learn k c r) (learn k c r) keeps (same-known (learn k c r)) (knows-later m b (learn k c r) later.1 h.still.knows) h.still;
        asked = ap (map change_of) keeps.own.writes ∙ h.asked;
        own = adds-before 0 a m b keeps.journal h.own;
        finds = h.finds;
      }

-- ---- set

module _ (told : Bool) (a : Books) (k : Known) (all : KnowsAll (alone told) a k) (name : List ℕ) (option : OptionName) (value : ℕ) where
  abbrev command_is : Command
  command_is = command.Set name option value

  abbrev outside : Bool
  outside = not (nat_le 1 value && nat_le value (greatest_of option))

  abbrev bad : Refusal
  bad = refusal.BadOption value 1 (greatest_of option)

  set-is : option_refusal option value ≡ None → due k command_is ≡ first_of (handle_cause k name ∷ dropped_cause k name ∷ [])
  set-is none = by outside refl
    where
      by : (d : Bool) → outside ≡ d → due k command_is ≡ first_of (handle_cause k name ∷ dropped_cause k name ∷ [])
      by true is = let q : Some bad ≡ None = sym (ap (λ z. when z bad) is) ∙ none in absurd (cc)
      by false is = first-next (option_cause option value) (handle_cause k name ∷ dropped_cause k name ∷ []) (ap (λ z. cause_where z (refuses bad)) is)

  set-bad : (e : Refusal) → option_refusal option value ≡ Some e → ReplyFits (alone told) a k command_is (reply.Refused e)
  set-bad e h =
      let t = test-due outside (Some bad) e h in
      let same : bad ≡ e = (let q : Some bad ≡ Some e = t.1 in cc) in
      subst (λ z. ReplyFits (alone told) a k command_is (reply.Refused z)) same
      (fits_due (alone told) a k command_is (refuses bad) bad
      (first-here (option_cause option value) (handle_cause k name ∷ dropped_cause k name ∷ []) (refuses bad) (ap (λ z. cause_where z (refuses bad)) t.0))
      (λ q. absurd (cc)) refl)

  set-change : (e : Refusal) → option_refusal option value ≡ None → change_refusal a.families 0 name ≡ Some e
      → ReplyFits (alone told) a k command_is (reply.Refused e)
  set-change e free h =
      change-fits (alone told) a k all.knows all.own name command_is e h (set-is free)
      (λ f has dropped. through (k.handles name) f (SetMet a refusal.Dropped) has dropped)

  -- no refusal of the words or of the handle
  set-free : set_refusal a.families 0 name option value ≡ None → (f : ℕ) × (k.handles name ≡ Some f) × (due k command_is ≡ None)
  set-free none =
      let t = none_due (option_refusal option value) (change_refusal a.families 0 name ∷ []) none in
      let f = change-free (alone told) a k all.knows all.own name (none_due (change_refusal a.families 0 name) [] t.1).0 in
      (f.0, f.1, f.2 command_is (set-is t.0))

  set-full : (e : Refusal) → set_refusal a.families 0 name option value ≡ None → make_refusal a.supers ≡ Some e
      → ReplyFits (alone told) a k command_is (reply.Refused e)
  set-full e none h =
      let f = set-free none in
      ⊎_elim
      (λ z. subst (λ y. ReplyFits (alone told) a k command_is (reply.Refused y)) (sym z.0) (fits_met (alone told) a k command_is refusal.RegisterFull f.2 (through (k.handles name) f.0 (SetMet a refusal.RegisterFull) f.1 z.1)))
      (λ z. subst (λ y. ReplyFits (alone told) a k command_is (reply.Refused y)) (sym z.0) (fits_met (alone told) a k command_is refusal.TooManyLive f.2 (through (k.handles name) f.0 (SetMet a refusal.TooManyLive) f.1 z.1)))
      (is-full a e h)

  pub set-refused : (e : Refusal) → first_due (set_refusal a.families 0 name option value ∷ make_refusal a.supers ∷ []) ≡ Some e
      → ReplyFits (alone told) a k command_is (reply.Refused e)
  set-refused e h = ⊎_elim
      (λ q. ⊎_elim (set-bad e) (λ t. set-change e t.0 (last-due (change_refusal a.families 0 name) e t.1))
      (first-then (option_refusal option value) (change_refusal a.families 0 name ∷ []) e q))
      (λ t. set-full e t.0 (last-due (make_refusal a.supers) e t.1))
      (first-then (set_refusal a.families 0 name option value) (make_refusal a.supers ∷ []) e h)

has-value : (option : OptionName) (value : ℕ) (o : Options) → value_of option (with_option option value o) ≡ value
has-value MemtableRows value o = refl
has-value MaxImmutable value o = refl

abbrev pub set_replied : Result ℕ Refusal → Reply
set_replied (Ok serial) = reply.Set serial
set_replied (Err e) = reply.Refused e

pub set-replies : (told : Bool) (a b : StoreSeen) → Follows a.books b.books → Sound a.books → (k : Known) → KnowsAll (alone told) a.books k
    → (name : List ℕ) (option : OptionName) (value : ℕ) (r : Result ℕ Refusal)
    → IfOk r (Sets a.books b.books name option value)
    → Refuses (first_due (set_refusal a.books.families 0 name option value ∷ make_refusal a.books.supers ∷ [])) r
    → OnErr r (b ≡ a) → Answers (alone told) a.books b.books k (command.Set name option value) (set_replied r)
set-replies told a b next sound k all name option value (Ok serial) set due_ kept =
    let x = set.renews.is in
    let mid = set.renews.mid in
    let later = sound-kept a.books mid sound (option_set set.family (with_option option value x.it.options) x.set) in
    let has = known-handle 0 a.books k name set.family all.own (x.it, x.at, x.own) in
    let free = set-free told a.books k all name option value (none_due (set_refusal a.books.families 0 name option value) (make_refusal a.books.supers ∷ []) due_).0 in
    answers-cleaned told a.books mid b.books k all later.0 later.1 set.renews.goes.s set.renews.goes.x set.renews.goes.cleaned (command.Set name option value) (reply.Set serial)
    (set-answers (alone told) a.books mid k all later.1 name set.family (with_option option value x.it.options) option value serial sound x.set has free.2 (has-value option value x.it.options) set.serial_is)
set-replies told a b next sound k all name option value (Err e) set is kept =
    refused-same told a b next k all (command.Set name option value) e kept
    (⊎_elim
    (λ out. subst (λ z. ReplyFits (alone told) a.books k (command.Set name option value) (reply.Refused z)) (sym out) tt)
    (λ q. set-refused told a.books k all name option value e q)
    (due-or (first_due (set_refusal a.books.families 0 name option value ∷ make_refusal a.books.supers ∷ [])) e is))
