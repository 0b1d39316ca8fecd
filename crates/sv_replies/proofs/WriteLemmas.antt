-- A write that was accepted: why the reply fits, and what the lane then knows.
use Rattle.std.proofs.Common.{◌≡◌, ◌+◌, ℕ, List, [], ◌∷◌, ◌++◌, length, Option, Some, None, sym, ◌∙◌, ap, subst, arith}
use Rattle.std.specs.Prelude.{IsSomeAnd}
use Rattle.std.proofs.lemmas.List.{length_push}
use Rattle.sv_model.specs.declared.writes.Write.{Write}
use Rattle.sv_model.specs.declared.writes.Op.{Op}
use Rattle.sv_model.specs.declared.writes.Op.TheVariants as op
use Rattle.sv_model.specs.After.{After}
use Rattle.sv_model.specs.Books.{Books}
use Rattle.sv_model.specs.Journal.{of_family}
use Rattle.sv_model.specs.Reads.{IsWrite}
use Rattle.sv_model.specs.Registers.{entry}
use Rattle.sv_model.proofs.Registers.{entry-new}
use Rattle.sv_laws.specs.Writes.{IsWritten}
use Rattle.sv_laws.proofs.BorneRows.{family-same}
use Rattle.sv_script.specs.declared.commands.Command.TheVariants as command
use Rattle.sv_script.specs.declared.replies.Reply.TheVariants as reply
use Rattle.sv_replies.specs.Due.{due}
use Rattle.sv_replies.specs.Known.{Known, learn, wrote}
use Rattle.sv_replies.specs.Knows.{Knows}
use Rattle.sv_replies.specs.PutLaw.{Writes}
use Rattle.sv_replies.specs.ReplyFits.{ReplyFits}
use Rattle.sv_replies.specs.Settings.{Setting}
use Rattle.sv_replies.proofs.KnowsLaws.{knows-later}
use Rattle.sv_replies.proofs.LearnLaws.{knows-wrote, of_handle}
use Rattle.sv_replies.proofs.MetLaws.{through}

module _ (a b : Books) (f : ℕ) (w : Write) (h : IsWritten a b f w) where
  family-is : of_family f b.journal ≡ of_family f a.journal ++ w ∷ []
  family-is =
      ap (λ (x : Books). of_family f x.journal) h.is
      ∙ subst (λ g. of_family g (a.journal ++ w ∷ []) ≡ of_family g a.journal ++ w ∷ []) h.family_is (family-same a.journal w)

  pub count-is : length (of_family f b.journal) ≡ length (of_family f a.journal) + 1
  count-is = ap length family-is ∙ length_push (of_family f a.journal) w

  writes : (s : Setting) (k : Known) (key : List ℕ) (o : Op) (n : ℕ) → Knows a k → IsWrite s.lane key o w
      → n ≡ length (of_family f b.journal) → Writes s b k key o n f
  writes s k key o n knows is number =
      let there : entry (of_family f b.journal) n ≡ Some w = ap (λ z. entry z n) family-is ∙ entry-new (of_family f a.journal) w n (omega (arith, number, count-is)) in
      record {
        later = omega (arith, number, count-is, (knows.families f).seen);
        written = subst (λ z. IsSomeAnd z (IsWrite s.lane key o)) (sym there) is;
      }

  pub put-fits : (s : Setting) (k : Known) (name key value : List ℕ) (n : ℕ) → Knows a k → k.handles name ≡ Some f
      → due k (command.Put name key value) ≡ None → IsWrite s.lane key (op.Put value) w
      → n ≡ length (of_family f b.journal)
      → ReplyFits s b k (command.Put name key value) (reply.Put n)
  put-fits s k name key value n knows has none is number =
      (none, through (k.handles name) f (Writes s b k key (op.Put value) n) has (writes s k key (op.Put value) n knows is number))

  pub delete-fits : (s : Setting) (k : Known) (name key : List ℕ) (n : ℕ) → Knows a k → k.handles name ≡ Some f
      → due k (command.Delete name key) ≡ None → IsWrite s.lane key op.Delete w → n ≡ length (of_family f b.journal)
      → ReplyFits s b k (command.Delete name key) (reply.Delete n)
  delete-fits s k name key n knows has none is number =
      (none, through (k.handles name) f (Writes s b k key op.Delete n) has (writes s k key op.Delete n knows is number))

  knows-write : (k : Known) (o : Option ℕ) (n : ℕ) → After a b → Knows a k → o ≡ Some f
      → n ≡ length (of_family f b.journal) → Knows b (wrote o n k)
  knows-write k o n after knows has number =
      of_handle (λ z. Knows b (wrote z n k)) o f has (knows-wrote b k (knows-later a b k after knows) f n (omega (arith, number)))

  pub put-knows : (k : Known) (name key value : List ℕ) (n : ℕ) → After a b → Knows a k → k.handles name ≡ Some f
      → n ≡ length (of_family f b.journal) → Knows b (learn k (command.Put name key value) (reply.Put n))
  put-knows k name key value n after knows has number = knows-write k (k.handles name) n after knows has number

  pub delete-knows : (k : Known) (name key : List ℕ) (n : ℕ) → After a b → Knows a k → k.handles name ≡ Some f
      → n ≡ length (of_family f b.journal) → Knows b (learn k (command.Delete name key) (reply.Delete n))
  delete-knows k name key n after knows has number = knows-write k (k.handles name) n after knows has number
