-- A flush: what its plan keeps until its end, why the reply then fits, and what the lane knows after it.
use Rattle.std.proofs.Common.{◌≡◌, ◌+◌, ℕ, true, false, List, [], ◌∷◌, ◌++◌, length, Some, None, refl, ap, subst, arith}
use Rattle.sv_model.specs.declared.records.FileMeta.{FileMeta}
use Rattle.sv_model.specs.After.{After}
use Rattle.sv_model.specs.Books.{Books}
use Rattle.sv_model.specs.Journal.{borne_by}
use Rattle.sv_model.specs.Reads.{IsOutput}
use Rattle.sv_model.specs.Steady.{Sound}
use Rattle.sv_laws.specs.Captures.{IsFlushBegun}
use Rattle.sv_laws.specs.NewCurrents.{IsFlushed}
use Rattle.sv_laws.specs.Installs.{next_top}
use Rattle.sv_model.proofs.Entries.{in-right}
use Rattle.sv_laws.proofs.OpenFamilies.{ends-at}
use Rattle.sv_laws.proofs.Outputs.{is-some}
use Rattle.sv_script.specs.declared.commands.Command.TheVariants as command
use Rattle.sv_script.specs.declared.replies.Reply.TheVariants as reply
use Rattle.sv_replies.specs.Due.{due}
use Rattle.sv_replies.specs.FlushLaw.{Flushes}
use Rattle.sv_replies.specs.Known.{Known, file_made, flushed_to, learn, learns}
use Rattle.sv_replies.specs.Knows.{Knows}
use Rattle.sv_replies.specs.PlannedFlush.{IsPlannedFor}
use Rattle.sv_replies.specs.ReplyFits.{ReplyFits}
use Rattle.sv_replies.specs.Settings.{Setting}
use Rattle.sv_replies.proofs.KnowsLaws.{knows-later}
use Rattle.sv_replies.proofs.LearnLaws.{knows-file, knows-flush, of_handle}
use Rattle.sv_replies.proofs.OutputLemmas.{below-next, is-output, reach_of-push, reaches}
use Rattle.sv_replies.proofs.MetLaws.{through}

-- Begun once the active memtable is empty, the file covers all that the lane had seen, under a number that is new to it.
pub flush-planned : (a b : Books) (f : ℕ) (file : FileMeta) (k : Known) → Sound a → Knows a k
    → (h : IsFlushBegun a b f file)
    → length (borne_by h.c.descriptor.active a.journal) ≡ 0 → IsPlannedFor k f file
flush-planned a b f file k sound knows h empty = record {
  later = omega (arith, h.to_is, empty, ends-at a sound f h.s h.c h.is_open, (knows.families f).seen);
  newer = omega (arith, h.captured.number_is, knows.file);
}

module _ (a b : Books) (f : ℕ) (file : FileMeta) (sound : Sound a) (h : IsFlushed a b f file) where
  versions-are : b.versions ≡ a.versions ++ record { files = h.version.files ++ file ∷ []; live = true } ∷ []
  versions-are = ap (λ (x : Books). x.versions) h.is

  output : IsOutput b f file
  output =
      is-output a b f file h.settled (h.version.files ++ file ∷ []) true h.covered (ap (λ (x : Books). x.metas) h.is)
      (in-right file h.version.files (file ∷ []) (record { at = 0; is = refl })) versions-are

  file_is : file ≡ record { number = file.number; from = file.from; to = file.to; bottom = record { last = false; cuts = file.bottom.cuts } }
  file_is =
      λ i. record { number = file.number; from = file.from; to = file.to; bottom = record { last = h.kind i; cuts = file.bottom.cuts } }

  flushes : (k : Known) → IsPlannedFor k f file → Flushes b k file.number file.from file.to f
  flushes k planned = record {
    range = is-some a b sound f h.s h.c h.is_open file h.covered h.settled;
    later = planned.later;
    newer = planned.newer;
    cuts = file.bottom.cuts;
    output = subst (λ z. IsOutput b f z) file_is output;
  }

  pub flush-fits : (s : Setting) (k : Known) (name : List ℕ) → IsPlannedFor k f file → k.handles name ≡ Some f
      → due k (command.Flush name) ≡ None
      → ReplyFits s b k (command.Flush name) (reply.Flush file.number file.from file.to)
  flush-fits s k name planned has none =
      (none, through (k.handles name) f (Flushes b k file.number file.from file.to) has (flushes k planned))

  pub flush-knows : (k : Known) (name : List ℕ) → After a b → Knows a k → k.handles name ≡ Some f
      → Knows b (learn k (command.Flush name) (reply.Flush file.number file.from file.to))
  flush-knows k name after knows has =
      of_handle (λ z. Knows b (file_made file.number (learns (flushed_to file.to) z k))) (k.handles name) f has
      (knows-file b (learns (flushed_to file.to) (Some f) k) file.number
      (knows-flush b k (knows-later a b k after knows) f file.to
      (reaches a b f file h.settled (h.version.files ++ file ∷ []) true h.is_open.current.top (next_top a (length a.versions + 1)) h.is_open.current.at refl
      (ap (λ (x : Books). x.tops) h.is) versions-are (reach_of-push h.version.files file)))
      (omega (arith, below-next a b f file h.settled sound, after.next)))
