-- An answer that comes after changes which leave what the lane has of its own.
use Rattle.std.proofs.Common.{◌≡◌, ℕ, List, ◌++◌, length, map, sym, ◌∙◌, ap, subst}
use Rattle.std.specs.Prelude.{IsSomeAnd}
use Rattle.sv_model.specs.declared.records.Snapshot.{Snapshot}
use Rattle.sv_model.specs.declared.writes.Write.{Write}
use Rattle.sv_model.specs.After.{After}
use Rattle.sv_model.specs.Books.{Books}
use Rattle.sv_model.specs.Journal.{change_of, of_family}
use Rattle.sv_script.specs.declared.commands.Command.{Command}
use Rattle.sv_script.specs.declared.commands.Command.TheVariants as command
use Rattle.sv_script.specs.declared.replies.Reply.{Reply}
use Rattle.sv_script.specs.declared.replies.Reply.TheVariants as reply
use Rattle.sv_replies.specs.Answers.{Answers, Finds, KnowsAll}
use Rattle.sv_replies.specs.Known.{Known}
use Rattle.sv_replies.specs.LanesFit.{change_asked}
use Rattle.sv_replies.specs.Moments.{IsIn}
use Rattle.sv_replies.specs.Settings.{Setting}
use Rattle.sv_replies.specs.SnapLaw.{IsOver}
use Rattle.sv_replies.proofs.AnswersLaws.{KeepsAll, all-kept, same-known}
use Rattle.sv_replies.proofs.FindsLemmas.{adds-after}
use Rattle.sv_replies.proofs.KnowsLaws.{knows-later}
use Rattle.sv_replies.proofs.OnceLemmas.{gone-stays}

pub keeps-through : (lane : ℕ) (a m b : Books) → KeepsAll lane a m → KeepsAll lane m b → KeepsAll lane a b
keeps-through lane a m b f g = record {
  own = record {
    handles = λ name h. (
      λ at. (g.own.handles name h).0 ((f.own.handles name h).0 at),
      λ at. (f.own.handles name h).1 ((g.own.handles name h).1 at),
    );
    holds = g.own.holds ∙ f.own.holds;
    writes = g.own.writes ∙ f.own.writes;
  };
  journal = g.journal ∙ f.journal;
  snapshots = g.snapshots ∙ f.snapshots;
  holds = g.holds ∙ f.holds;
}

module _ (s : Setting) (a m : Books) (k : Known) (keeps : KeepsAll s.lane a m) where
  pub knows-kept : After a m → KnowsAll s a k → KnowsAll s m k
  knows-kept after all = all-kept s a m k k keeps (same-known k) (knows-later a m k after all.knows) all

  finds-after : After a m → (c : Command) (r : Reply) → Finds s m k c r → Finds s a k c r
  finds-after after (command.Get name key) (reply.Found value cut sv) h =
      λ one. subst (λ (l : List Write). IsSomeAnd (k.handles name) (λ f. cut ≡ length (of_family f l))) keeps.journal (h one)
  finds-after after (command.Get name key) (reply.Absent cut sv) h =
      λ one. subst (λ (l : List Write). IsSomeAnd (k.handles name) (λ f. cut ≡ length (of_family f l))) keeps.journal (h one)
  finds-after after command.Purge (reply.Purge numbers) h = λ n has gone. h n has (gone-stays a m n after gone)
  finds-after after command.Scan (reply.Scan numbers) h = λ n has gone. h n has (gone-stays a m n after gone)
  finds-after after (command.Unsnap n) reply.Unsnap h =
      λ over. h (subst (λ (l : List Snapshot). IsIn IsOver l n) (sym keeps.snapshots) over)
  finds-after after c r h = tt

  pub answers-after : After a m → (b : Books) (c : Command) (r : Reply) → Answers s m b k c r → Answers s a b k c r
  answers-after after b c r h = record {
    fits = h.fits;
    still = h.still;
    asked = h.asked ∙ ap (λ (l : List Write). map change_of l ++ change_asked k c r) keeps.own.writes;
    own = adds-after s.lane a m b keeps.journal h.own;
    finds = finds-after after c r h.finds;
  }
