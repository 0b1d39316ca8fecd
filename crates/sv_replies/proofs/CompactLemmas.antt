-- A compaction: what its plan keeps until its end, why the reply then fits, and what the lane knows after it.
use Rattle.std.proofs.Common.{◌≡◌, ◌<◌, ◌≤◌, ◌+◌, ⊎_elim, ℕ, true, List, [], ◌∷◌, ◌++◌, length, Some, None, refl, ap, subst, arith}
use Rattle.sv_model.specs.declared.records.FileMeta.{FileMeta}
use Rattle.sv_model.specs.After.{After}
use Rattle.sv_model.specs.Books.{Books, files_of}
use Rattle.sv_model.specs.Described.{Describes}
use Rattle.sv_model.specs.Ranges.{reach_of}
use Rattle.sv_model.specs.Reads.{IsOutput}
use Rattle.sv_model.specs.Steady.{IsMerge, Sound}
use Rattle.sv_laws.specs.Captures.{IsMergePlanned}
use Rattle.sv_laws.specs.NewCurrents.{IsCompacted}
use Rattle.sv_laws.specs.Installs.{next_top}
use Rattle.sv_laws.proofs.OpenFamilies.{last-files, says}
use Rattle.sv_laws.proofs.Outputs.{is-merge, is-some}
use Rattle.sv_script.specs.declared.commands.Command.TheVariants as command
use Rattle.sv_script.specs.declared.replies.Reply.TheVariants as reply
use Rattle.sv_replies.specs.CompactLaw.{Compacts}
use Rattle.sv_replies.specs.Due.{due}
use Rattle.sv_replies.specs.Known.{Known, file_made, learn, learns, reached_to}
use Rattle.sv_replies.specs.Knows.{Knows}
use Rattle.sv_replies.specs.ReplyFits.{ReplyFits}
use Rattle.sv_replies.specs.Settings.{Setting}
use Rattle.sv_replies.proofs.KnowsLaws.{knows-later}
use Rattle.sv_replies.proofs.LearnLaws.{knows-file, knows-merge, of_handle}
use Rattle.sv_replies.proofs.OutputLemmas.{below-next, is-output, reaches}
use Rattle.sv_replies.proofs.MetLaws.{through}

-- the number is new to the lane
pub merge-planned : (a b : Books) (f : ℕ) (file : FileMeta) (k : Known) → Knows a k → IsMergePlanned a b f file
    → k.file < file.number
merge-planned a b f file k knows h = omega (arith, h.captured.number_is, knows.file)

module _ (a b : Books) (f : ℕ) (file : FileMeta) (sound : Sound a) (h : IsCompacted a b f file) where
  versions-are : b.versions ≡ a.versions ++ record { files = file ∷ []; live = true } ∷ []
  versions-are = ap (λ (x : Books). x.versions) h.is

  output : IsOutput b f file
  output =
      is-output a b f file h.settled (file ∷ []) true h.covered (ap (λ (x : Books). x.metas) h.is) (record { at = 0; is = refl }) versions-are

  file_is : file ≡ record { number = file.number; from = file.from; to = file.to; bottom = record { last = true; cuts = file.bottom.cuts } }
  file_is =
      λ i. record { number = file.number; from = file.from; to = file.to; bottom = record { last = h.kind i; cuts = file.bottom.cuts } }

  named : Describes a.journal a.memtables a.lists a.versions a.files.numbers a.metas h.c.descriptor
  named = says a sound f h.s h.c h.is_open

  merge : IsMerge named.version.files file
  merge = is-merge a b sound f h.s h.c h.is_open file h.covered h.settled h.kind named.version named.version_at

  -- it reaches as far as the family's last files
  far : (k : Known) → Knows a k → (k.families f).reached ≤ file.to
  far k knows = ⊎_elim
      (λ none. omega (arith, none))
      (λ at.
      let same : reach_of (files_of a.versions at.0.last) ≡ reach_of named.version.files = ap reach_of (last-files a sound f h.s h.c h.is_open at.0 at.1 named.version named.version_at) in
      omega (arith, at.2, same, merge.to_is))
      (knows.families f).reached

  compacts : (k : Known) → Knows a k → k.file < file.number → Compacts b k file.number file.from file.to f
  compacts k knows newer = record {
    whole = merge.from_is;
    some = omega (arith, is-some a b sound f h.s h.c h.is_open file h.covered h.settled);
    far = far k knows;
    newer = newer;
    cuts = file.bottom.cuts;
    output = subst (λ z. IsOutput b f z) file_is output;
  }

  pub compact-fits : (s : Setting) (k : Known) (name : List ℕ) → Knows a k → k.file < file.number
      → k.handles name ≡ Some f
      → due k (command.Compact name) ≡ None
      → ReplyFits s b k (command.Compact name) (reply.Compact file.number file.from file.to)
  compact-fits s k name knows newer has none =
      (none, through (k.handles name) f (Compacts b k file.number file.from file.to) has (compacts k knows newer))

  pub compact-knows : (k : Known) (name : List ℕ) → After a b → Knows a k → k.handles name ≡ Some f
      → Knows b (learn k (command.Compact name) (reply.Compact file.number file.from file.to))
  compact-knows k name after knows has =
      of_handle (λ z. Knows b (file_made file.number (learns (reached_to file.to) z k))) (k.handles name) f has
      (knows-file b (learns (reached_to file.to) (Some f) k) file.number
      (knows-merge b k (knows-later a b k after knows) f file.to
      (reaches a b f file h.settled (file ∷ []) true h.is_open.current.top (next_top a (length a.versions + 1)) h.is_open.current.at refl
      (ap (λ (x : Books). x.tops) h.is) versions-are refl))
      (omega (arith, below-next a b f file h.settled sound, after.next)))
