-- A get that was answered: why the reply fits, and what the lane then knows. It leaves the books.
use Rattle.std.proofs.Common.{◌≡◌, ◌≤◌, ⊎_elim, ℕ, true, List, length, Option, Some, None, sym, ◌∙◌, ap, subst, arith}
use Rattle.std.specs.Prelude.{IsSomeAnd, slice_get}
use Rattle.sv_model.specs.declared.records.SuperVersion.{SuperVersion}
use Rattle.sv_model.specs.declared.records.Family.{Family}
use Rattle.sv_model.specs.Books.{Books, end_of}
use Rattle.sv_model.specs.Described.{IsTop}
use Rattle.sv_model.specs.Journal.{look, of_family}
use Rattle.sv_model.specs.Lawful.{Lawful}
use Rattle.sv_model.specs.Reads.{Serves}
use Rattle.sv_model.specs.Steady.{IsCurrent}
use Rattle.sv_model.proofs.Entries.{some}
use Rattle.sv_laws.proofs.OpenFamilies.{current-top}
use Rattle.sv_script.specs.declared.commands.Command.TheVariants as command
use Rattle.sv_script.specs.declared.replies.Reply.{Reply}
use Rattle.sv_replies.specs.Due.{due}
use Rattle.sv_replies.specs.Known.{Known, learn, read}
use Rattle.sv_replies.specs.Knows.{Knows}
use Rattle.sv_replies.specs.GetLaw.{Gets}
use Rattle.sv_replies.specs.ReadReply.{read_reply}
use Rattle.sv_replies.specs.ReplyFits.{ReplyFits}
use Rattle.sv_replies.specs.Settings.{Setting}
use Rattle.sv_replies.specs.Unread.{FindsUnread}
use Rattle.sv_replies.proofs.LearnLaws.{ReadShows, ReadsWithin, knows-read, knows-touch, of_handle}
use Rattle.sv_replies.proofs.MetLaws.{through}

-- a get that found this, at a cut and through a SuperVersion not before those that the lane was shown
pub get-fits : (s : Setting) (b : Books) (k : Known) (name key : List ℕ) (f : ℕ) (found : Option (List ℕ)) (cut sv : ℕ)
    → k.handles name ≡ Some f → due k (command.Get name key) ≡ None → Gets s b k key found cut sv f
    → ReplyFits s b k (command.Get name key) (read_reply found cut sv)
get-fits s b k name key f (Some value) cut sv has none gets =
    (none, through (k.handles name) f (Gets s b k key (Some value) cut sv) has gets)
get-fits s b k name key f None cut sv has none gets =
    (none, through (k.handles name) f (Gets s b k key None cut sv) has gets)

pub get-knows : (b : Books) (k : Known) (name key : List ℕ) (f : ℕ) (r : Reply) → Knows b k → k.handles name ≡ Some f
    → ReadShows b f r
    → Knows b (learn k (command.Get name key) r)
get-knows b k name key f r knows has shown =
    knows-touch b (read (k.handles name) r k) (k.handles name) (of_handle (λ z. Knows b (read z r k)) (k.handles name) f has (knows-read b k f r knows shown))

pub shows-read : (b : Books) (f : ℕ) (found : Option (List ℕ)) (cut sv : ℕ) → ReadsWithin b f cut sv
    → ReadShows b f (read_reply found cut sv)
shows-read b f (Some value) cut sv h = h
shows-read b f None cut sv h = h

-- ---- through the current SuperVersion, up to the last write

module _ (b : Books) (law : Lawful b) (f n : ℕ) (x : SuperVersion) (current : IsCurrent b.tops b.supers f n x) where
  top : (y : Family) × (slice_get b.families f ≡ Some y) × IsTop b.journal b.supers f y current.top.last n
  top = current-top b law f n current.top current.at current.is

  is-it : top.2.it ≡ x
  is-it = some (sym top.2.at ∙ current.has)

  pub current-of : x.descriptor.family ≡ f
  current-of = ap (λ (z : SuperVersion). z.descriptor.family) (sym is-it) ∙ top.2.family_is

  pub current-ends : end_of b.journal x ≡ length (of_family f b.journal)
  current-ends = ap (end_of b.journal) (sym is-it) ∙ top.2.ends

  -- no SuperVersion of the family that a lane was shown is newer
  pub current-newest : (k : Known) → Knows b k → (k.families f).serial ≤ n
  current-newest k knows = ⊎_elim
      (λ none. omega (arith, none))
      (λ at. top.2.greatest (k.families f).serial at.0 at.1 at.2)
      (knows.families f).serial

  serves : Serves b f (length (of_family f b.journal)) x
  serves = record { family_is = current-of; begins = omega (arith, current-ends); ends = omega (arith, current-ends) }

  pub current-reads : ReadsWithin b f (length (of_family f b.journal)) n
  current-reads = record { within = omega arith; of = (x, current.has, current-of) }

  pub current-gets : (s : Setting) (k : Known) (key : List ℕ) (found : Option (List ℕ)) → Knows b k
      → (s.told ≡ true → look b.journal f (length (of_family f b.journal)) key ≡ found)
      → FindsUnread b f key found (length (of_family f b.journal)) x
      → Gets s b k key found (length (of_family f b.journal)) n f
  current-gets s k key found knows looked unread = record {
    later = (knows.families f).seen;
    newer = current-newest k knows;
    within = omega arith;
    looks = record { serves = subst (λ z. IsSomeAnd z (Serves b f (length (of_family f b.journal)))) (sym current.has) serves; found_is = looked };
    unread = (x, current.has, unread);
  }
