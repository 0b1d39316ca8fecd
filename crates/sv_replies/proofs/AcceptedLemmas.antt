-- The accepted writes of a lane go on as the journal does.
use Rattle.std.proofs.Common.{◌≡◌, ℕ, List, [], ◌∷◌, ◌++◌, map, Option, Some, refl, sym, ◌∙◌, ap, append_assoc}
use Rattle.std.specs.Prelude.{fold}
use Rattle.std.proofs.lemmas.List.{append-nil, map-append}
use Rattle.sv_model.specs.declared.refusals.Refusal.{Refusal}
use Rattle.sv_model.specs.declared.writes.Op.{Op}
use Rattle.sv_model.specs.declared.writes.Op.TheVariants as op
use Rattle.sv_model.specs.declared.writes.Write.{Write}
use Rattle.sv_model.specs.Books.{Books}
use Rattle.sv_model.specs.Journal.{Change, by_lane, change_of}
use Rattle.sv_model.specs.Reads.{IsWrite}
use Rattle.sv_laws.specs.Writes.{IsWritten}
use Rattle.sv_script.specs.Answered.{Answered}
use Rattle.sv_script.specs.declared.commands.Command.{Command}
use Rattle.sv_script.specs.declared.commands.Command.TheVariants as command
use Rattle.sv_script.specs.declared.replies.Reply.TheVariants as reply
use Rattle.sv_replies.specs.Known.{Known, at_first, known_after, learn}
use Rattle.sv_replies.specs.LanesFit.{accepted, change_asked, change_in, changes_from}
use Rattle.sv_replies.proofs.OwnLemmas.{lane-writes}

changes-push : (all : List Answered) (k : Known) (x : Answered)
    → changes_from k (all ++ x ∷ []) ≡ changes_from k all ++ change_asked (fold (λ l a. learn l a.command a.reply) k all) x.command x.reply
changes-push [] k x = append-nil (change_asked k x.command x.reply)
changes-push (a ∷ all) k x =
    ap (λ z. change_asked k a.command a.reply ++ z) (changes-push all (learn k a.command a.reply) x)
    ∙ sym (append_assoc (change_asked k a.command a.reply) (changes_from (learn k a.command a.reply) all) (change_asked (fold (λ l a. learn l a.command a.reply) (learn k a.command a.reply) all) x.command x.reply))

pub accepted-push : (all : List Answered) (x : Answered)
    → accepted (all ++ x ∷ []) ≡ accepted all ++ change_asked (known_after all) x.command x.reply
accepted-push all x = changes-push all at_first x

-- a refused command asks for no write
pub asks-none : (k : Known) (c : Command) (e : Refusal) → change_asked k c (reply.Refused e) ≡ []
asks-none k (command.Put name key value) e = refl
asks-none k (command.Delete name key) e = refl
asks-none k c e = refl

-- a command that asks for none leaves the accepted writes
pub accepted-same : (all : List Answered) (x : Answered) → change_asked (known_after all) x.command x.reply ≡ []
    → accepted (all ++ x ∷ []) ≡ accepted all
accepted-same all x none = accepted-push all x ∙ ap (λ z. accepted all ++ z) none ∙ append-nil (accepted all)

module _ (lane : ℕ) (a b : Books) (f : ℕ) (w : Write) (h : IsWritten a b f w) (all : List Answered) (key : List ℕ) (o : Op) (is : IsWrite lane key o w)
    (before : map change_of (by_lane lane a.journal) ≡ accepted all) where
  change : change_of w ≡ record { family = f; key = key; op = o }
  change = λ i. record { family = h.family_is i; key = is.key_is i; op = is.op_is i }

  -- the write is the lane's last
  written : (name : List ℕ) → (known_after all).handles name ≡ Some f
      → map change_of (by_lane lane b.journal) ≡ accepted all ++ change_in ((known_after all).handles name) key o
  written name has =
      ap (map change_of) (lane-writes lane a b f w h is.lane_is) ∙ map-append change_of (by_lane lane a.journal) (w ∷ [])
      ∙ ap (λ (z : List Change). z ++ change_of w ∷ []) before
      ∙ ap (λ (z : Change). accepted all ++ z ∷ []) change
      ∙ ap (λ (z : Option ℕ). accepted all ++ change_in z key o) (sym has)

  pub put-accepted : (name value : List ℕ) (n : ℕ) → o ≡ op.Put value → (known_after all).handles name ≡ Some f
      → map change_of (by_lane lane b.journal) ≡ accepted (all ++ record { command = command.Put name key value; reply = reply.Put n } ∷ [])
  put-accepted name value n put has =
      written name has ∙ ap (λ z. accepted all ++ change_in ((known_after all).handles name) key z) put
      ∙ sym (accepted-push all (record { command = command.Put name key value; reply = reply.Put n }))

  pub delete-accepted : (name : List ℕ) (n : ℕ) → o ≡ op.Delete → (known_after all).handles name ≡ Some f
      → map change_of (by_lane lane b.journal) ≡ accepted (all ++ record { command = command.Delete name key; reply = reply.Delete n } ∷ [])
  delete-accepted name n delete has =
      written name has ∙ ap (λ z. accepted all ++ change_in ((known_after all).handles name) key z) delete
      ∙ sym (accepted-push all (record { command = command.Delete name key; reply = reply.Delete n }))
