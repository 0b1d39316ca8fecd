-- A snapshot that the lane ended stands among those that its replies show to be ended.
use Rattle.std.proofs.Common.{◌≡◌, ◌⊎◌, inl, inr, ⊎_elim, ℕ, true, false, List, [], ◌∷◌, drop, Option, Some, None, refl, sym, ◌∙◌, ap, subst}
use Rattle.std.specs.Prelude.{fold, take}
use Rattle.std.proofs.lemmas.List.{take-append-drop}
use Rattle.std.proofs.lemmas.Grind.{flat_map-append}
use Rattle.sv_model.specs.Lists.{In}
use Rattle.sv_model.proofs.Basics.{apart_or}
use Rattle.sv_script.specs.Answered.{Answered}
use Rattle.sv_script.specs.declared.commands.Command.{Command}
use Rattle.sv_script.specs.declared.commands.Command.TheVariants as command
use Rattle.sv_script.specs.declared.replies.Reply.{Reply}
use Rattle.sv_script.specs.declared.replies.Reply.TheVariants as reply
use Rattle.sv_model.proofs.Entries.{in-left, in-right}
use Rattle.sv_replies.specs.Known.{FamilyKnown, Known, as_dropped, at_first, family_of_pin, flushed_to, known_after, learn, learns, met, pinned, reached_to, read, read_at, saw, touches, wrote}
use Rattle.sv_replies.specs.LanesFit.{ended_by, ended_of}
use Rattle.sv_replies.proofs.KnowsLaws.{at-other}

-- ---- what leaves the ended ones

module _ (n : ℕ) where
  same_learns : (more : FamilyKnown → FamilyKnown) (o : Option ℕ) (k : Known) → (learns more o k).ended n ≡ k.ended n
  same_learns more None k = refl
  same_learns more (Some f) k = refl

  same_wrote : (o : Option ℕ) (m : ℕ) (k : Known) → (wrote o m k).ended n ≡ k.ended n
  same_wrote o m k = same_learns (saw m) o k

  same_read : (o : Option ℕ) (r : Reply) (k : Known) → (read o r k).ended n ≡ k.ended n
  same_read o (reply.Found value cut sv) k = same_learns (met sv) o (learns (saw cut) o k) ∙ same_learns (saw cut) o k
  same_read o (reply.Absent cut sv) k = same_learns (met sv) o (learns (saw cut) o k) ∙ same_learns (saw cut) o k
  same_read o r k = refl

  same_read_at : (m : ℕ) (o : Option ℕ) (r : Reply) (k : Known) → (read_at m o r k).ended n ≡ k.ended n
  same_read_at m o (reply.Found value cut sv) k = same_learns (met sv) o k
  same_read_at m o (reply.Absent cut sv) k = same_learns (met sv) o k
  same_read_at m o r k = refl

  same_touches : (o : Option ℕ) (k : Known) → (touches o k).ended n ≡ k.ended n
  same_touches None k = refl
  same_touches (Some f) k = refl

  same_pinned : (o : Option ℕ) (pin sv : ℕ) (k : Known) → (pinned o pin sv k).ended n ≡ k.ended n
  same_pinned None pin sv k = refl
  same_pinned (Some f) pin sv k = refl

  abbrev Ended : Known → Command → Reply → Type 0
  Ended k c r = (learn k c r).ended n ≡ true → (k.ended n ≡ true) ⊎ In n (ended_by c r)

  -- one command
  ended_step : (k : Known) (c : Command) (r : Reply) → Ended k c r
  ended_step k (command.Put name key value) (reply.Put m) e = inl (sym (same_wrote (k.handles name) m k) ∙ e)
  ended_step k (command.Delete name key) (reply.Delete m) e = inl (sym (same_wrote (k.handles name) m k) ∙ e)
  ended_step k (command.Get name key) r e =
      inl (sym (same_touches (k.handles name) (read (k.handles name) r k) ∙ same_read (k.handles name) r k) ∙ e)
  ended_step k (command.Getp pin key) r e = inl (sym (same_read (family_of_pin (k.pins pin)) r k) ∙ e)
  ended_step k (command.Gets m name key) r e = inl (sym (same_read_at m (k.handles name) r k) ∙ e)
  ended_step k (command.Flush name) (reply.Flush number from to) e =
      inl (sym (same_learns (flushed_to to) (k.handles name) k) ∙ e)
  ended_step k (command.Compact name) (reply.Compact number from to) e =
      inl (sym (same_learns (reached_to to) (k.handles name) k) ∙ e)
  ended_step k (command.Drop name) reply.Drop e = inl (sym (same_learns as_dropped (k.handles name) k) ∙ e)
  ended_step k (command.Set name option value) (reply.Set sv) e =
      inl (sym (same_learns (met sv) (k.handles name) k) ∙ e)
  ended_step k (command.Pin name) (reply.Pin pin sv) e =
      inl (sym (same_touches (k.handles name) (pinned (k.handles name) pin sv (learns (met sv) (k.handles name) k)) ∙ same_pinned (k.handles name) pin sv (learns (met sv) (k.handles name) k) ∙ same_learns (met sv) (k.handles name) k) ∙ e)
  ended_step k (command.Pin name) r e = inl (sym (same_touches (k.handles name) k) ∙ e)
  ended_step k (command.Unsnap m) reply.Unsnap e = elim (apart_or n m) [
    | inl here ↦ inr (record { at = 0; is = ap Some (sym here) })
    | inr away ↦ inl (sym (at-other k.ended m true n away) ∙ e)
  ]
  ended_step k (command.Create name) (reply.Create id) e = inl e
  ended_step k (command.Open name) (reply.Open id) e = inl e
  ended_step k (command.Release name) reply.Release e = inl e
  ended_step k command.Hold (reply.Hold count) e = inl e
  ended_step k command.Unhold (reply.Unhold count) e = inl e
  ended_step k command.Snap (reply.Snap m at) e = inl e
  ended_step k (command.Unpin pin) reply.Unpin e = inl e
  ended_step k c r e = inl e

  -- and all of them
  ended_all : (all : List Answered) (k : Known) → (fold (λ l a. learn l a.command a.reply) k all).ended n ≡ true
      → (k.ended n ≡ true) ⊎ In n (ended_of all)
  ended_all [] k e = inl e
  ended_all (a ∷ all) k e = ⊎_elim
      (λ before. ⊎_elim
      (λ old. inl old)
      (λ here. inr (in-left n (ended_by a.command a.reply) (ended_of all) here))
      (ended_step k a.command a.reply before))
      (λ later. inr (in-right n (ended_by a.command a.reply) (ended_of all) later))
      (ended_all all (learn k a.command a.reply) e)

  pub ended-shown : (all : List Answered) → (known_after all).ended n ≡ true → In n (ended_of all)
  ended-shown all e = ⊎_elim
      (λ first. absurd (let q : false ≡ true = first in cc))
      (λ has. has)
      (ended_all all at_first e)

  -- a front's are among all
  pub ended-front : (all : List Answered) (m : ℕ) → In n (ended_of (take m all)) → In n (ended_of all)
  ended-front all m has =
      subst (λ (l : List ℕ). In n l) (sym (flat_map-append (λ (a : Answered). ended_by a.command a.reply) (take m all) (drop m all)) ∙ ap ended_of (take-append-drop m all))
      (in-left n (ended_of (take m all)) (ended_of (drop m all)) has)
